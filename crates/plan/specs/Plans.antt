-- The plans that there are.
use Rattle.std.specs.Prelude.{ℕ, ◌/◌, ◌≤◌, min, max}
use Rattle.plan.specs.declared.plan.TheConstants.{MAX_CUT, MAX_WORKERS}

abbrev pub IsPlan : ℕ → ℕ → Type 0
IsPlan workers cut = (1 ≤ workers) × (workers ≤ MAX_WORKERS) × (1 ≤ cut) × (cut ≤ MAX_CUT)

-- how many workers of a plan each of so many runs gets: the same for each, and at least one
unfoldable pub width_of : ℕ → ℕ → ℕ
width_of workers runs = workers / max 1 (min workers runs)
