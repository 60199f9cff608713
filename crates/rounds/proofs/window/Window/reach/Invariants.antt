use Rattle.std.proofs.Common.{◌≡◌, ℕ, ◌-◌}
use Rattle.rounds.specs.Windows.{flag_at, end_of, IsWindowAt, HasGrown}
use Rattle.rounds.proofs.window.Window.reach.Given as goal

abbrev pub invariant-reaching : goal.invariant-reaching
invariant-reaching l = record {
  window : IsWindowAt l.batch l.from l.objects l.self;
  grown : HasGrown l.from l.initial.self l.self;
  flags : (i : ℕ) → flag_at l.self i ≡ flag_at l.initial.self i;
}

abbrev pub decreases-reaching : goal.decreases-reaching
decreases-reaching l = l.end - end_of l.self
