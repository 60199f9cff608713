use Rattle.std.proofs.Common.{◌≡◌, ◌-◌, ℕ, ◌<◌, ◌≤◌, length, get_or}
use Rattle.committed.specs.Index.{number_of, heading_at, place_at, IsInChain}
use Rattle.objects.specs.Entries.{CommuteForward}
use Rattle.committed.proofs.index.Index.commutes.Given as goal

abbrev pub invariant-loop-at : goal.invariant-loop-at
invariant-loop-at l = record {
  end : IsInChain l.self.links.items (number_of l.self l.fn.heading) l.at;
  below : 0 < l.at → place_at l.self.links.items (l.at - 1) < l.upto;
  passed : (m : ℕ) → l.at ≤ m → m < length l.self.links.items → heading_at l.self.links.items m ≡ number_of l.self l.fn.heading
      → place_at l.self.links.items m < l.upto → CommuteForward l.entry (get_or l.entries (place_at l.self.links.items m) l.entry);
}

abbrev pub decreases-loop-at : goal.decreases-loop-at
decreases-loop-at l = l.at
