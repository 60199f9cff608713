use Rattle.std.proofs.Common.{◌≡◌, ℕ, ◌<◌, ◌≤◌, length}
use Rattle.committed.specs.Index.{number_of, heading_at, place_at, IsInChain}
use Rattle.committed.proofs.index.Index.last_below.Given as goal

abbrev pub invariant-loop-at : goal.invariant-loop-at
invariant-loop-at l = record {
  end : IsInChain l.self.links.items (number_of l.self l.fn.heading) l.at;
  after : (m : ℕ) → l.at ≤ m → m < length l.self.links.items
      → heading_at l.self.links.items m ≡ number_of l.self l.fn.heading → l.upto ≤ place_at l.self.links.items m;
}

abbrev pub decreases-loop-at : goal.decreases-loop-at
decreases-loop-at l = l.at
