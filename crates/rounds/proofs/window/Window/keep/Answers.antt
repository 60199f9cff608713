use Rattle.std.proofs.Common.{ℕ, ◌<◌, ◌≤◌, length, get_or, take, subst, sym, arith}
use Rattle.rounds.proofs.Times.{times_read}
use Rattle.rounds.proofs.Fallen.{fallen_within, kept_others}
use Rattle.std.specs.List.{All}
use Rattle.rounds.specs.Windows.{end_of, AreKept, AreStale}
use Rattle.rounds.proofs.window.Window.keep.Goals as goal

pub forget-requires-clause-within : goal.forget-requires-clause-within
forget-requires-clause-within g c k d lt =
    let window = c.args.self.now in
    let since = take c.args.upto c.list.new.self in
    let numbers = c.in_ok-fallen.fallen.items in
    let low = c.requires.from.0 in
    let inside = fallen_within window since c.args.from (end_of window) numbers c.in_ok-fallen.ensures in
    let all : (k d : ℕ) → k < length numbers → (window.first ≤ get_or numbers k d) × (get_or numbers k d < end_of window) = λ k d lt.
    let here = inside (get_or numbers k d) (times_read numbers k d lt) in
    let from = here.0 in
    (omega arith, here.1) in
    subst (All (λ n. (window.first ≤ n) × (n < end_of window))) (sym c.deref.ensures.value) all k d lt

pub returns : goal.returns
returns g c =
    let window = c.args.self.now in
    let numbers = c.in_ok-fallen.fallen.items in
    subst (λ nets. AreKept c.args.from (take c.args.upto nets) window c.forget.new.self) c.list.ensures
    (kept_others window (take c.args.upto c.list.new.self) c.args.from numbers c.forget.new.self c.requires.from.0 c.requires.flags
    c.in_ok-fallen.ensures
    (subst (λ ns. AreStale ns window c.forget.new.self) c.deref.ensures.value c.forget.ensures))
