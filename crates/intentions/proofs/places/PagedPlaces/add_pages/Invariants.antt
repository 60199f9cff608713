use Rattle.std.proofs.Common.{◌≡◌, ◌-◌, ℕ, length}
use Rattle.intentions.specs.Places.{place_in}
use Rattle.intentions.proofs.places.PagedPlaces.add_pages.Given as goal

abbrev pub invariant-adding : goal.invariant-adding
invariant-adding l = (q : ℕ) → place_in l.self q ≡ place_in l.fn.self q

abbrev pub decreases-adding : goal.decreases-adding
decreases-adding l = l.count - length l.self.pages.items
