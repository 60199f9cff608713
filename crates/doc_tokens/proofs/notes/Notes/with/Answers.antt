use Rattle.std.proofs.Common.{◌≡◌, List, ℕ, true, refl, sym}
use Rattle.std.specs.Prelude.{codes}
use Rattle.std.specs.Str.{bytes_eq}
use Rattle.std.proofs.lemmas.Slice.Eq.{bytes_eq-Decides}
use Rattle.doc_tokens.proofs.CountLemmas.{counted_none, counted_one, once_apart, once_here, once_other}
use Rattle.doc_tokens.proofs.NoteLemmas.{objects_noted, other_noted, transactions_noted, version_noted}
use Rattle.doc_tokens.proofs.notes.Notes.with.Goals as goal

named : (name q : List ℕ) → true ≡ bytes_eq name q → name ≡ q
named name q is = (bytes_eq-Decides name q).0 (sym is)

pub returns-then-eq-clause-noted : goal.returns-then-eq-clause-noted
returns-then-eq-clause-noted c d ms is noted =
    version_noted c.args.self c.args.name.now d ms c.args.seen is noted (named c.args.name.now (codes "ordtx") c.if-eq.ensures)

pub returns-then-eq-2-clause-noted : goal.returns-then-eq-2-clause-noted
returns-then-eq-2-clause-noted c d ms is noted =
    objects_noted c.args.self c.args.name.now d ms c.args.seen is noted (named c.args.name.now (codes "objects") c.if-eq-2.ensures) _

pub returns-then-eq-3-clause-noted : goal.returns-then-eq-3-clause-noted
returns-then-eq-3-clause-noted c d ms is noted =
    transactions_noted c.args.self c.args.name.now d ms c.args.seen is noted
    (named c.args.name.now (codes "transactions") c.if-eq-3.ensures) _

pub returns-clause-noted : goal.returns-clause-noted
returns-clause-noted c d ms is noted =
    other_noted c.args.self c.args.name.now d ms c.args.seen is noted (sym c.if-eq.ensures) (sym c.if-eq-2.ensures) (sym c.if-eq-3.ensures)

pub returns-then-eq-clause-objects : goal.returns-then-eq-clause-objects
returns-then-eq-clause-objects c k is =
    counted_none c.args.self.objects_times k c.args.name.now (codes "objects") (once_apart c.args.name.now (codes "ordtx") (codes
    "objects") (sym c.if-eq.ensures) refl) is

pub returns-then-eq-clause-transactions : goal.returns-then-eq-clause-transactions
returns-then-eq-clause-transactions c k is =
    counted_none c.args.self.transactions_times k c.args.name.now (codes "transactions") (once_apart c.args.name.now (codes "ordtx")
    (codes "transactions") (sym c.if-eq.ensures) refl) is

pub returns-then-eq-2-clause-objects : goal.returns-then-eq-2-clause-objects
returns-then-eq-2-clause-objects c k is =
    counted_one _ k c.args.name.now (codes "objects") (once_here c.args.name.now (codes "objects") (sym c.if-eq-2.ensures))
    (c.one_more.ensures k is)

pub returns-then-eq-2-clause-transactions : goal.returns-then-eq-2-clause-transactions
returns-then-eq-2-clause-transactions c k is =
    counted_none c.args.self.transactions_times k c.args.name.now (codes "transactions")
    (once_apart c.args.name.now (codes "objects") (codes "transactions") (sym c.if-eq-2.ensures) refl) is

pub returns-then-eq-3-clause-objects : goal.returns-then-eq-3-clause-objects
returns-then-eq-3-clause-objects c k is =
    counted_none c.args.self.objects_times k c.args.name.now (codes "objects")
    (once_apart c.args.name.now (codes "transactions") (codes "objects") (sym c.if-eq-3.ensures) refl) is

pub returns-then-eq-3-clause-transactions : goal.returns-then-eq-3-clause-transactions
returns-then-eq-3-clause-transactions c k is =
    counted_one _ k c.args.name.now (codes "transactions") (once_here c.args.name.now (codes "transactions") (sym c.if-eq-3.ensures))
    (c.one_more-then-eq-3.ensures k is)

pub returns-clause-objects : goal.returns-clause-objects
returns-clause-objects c k is =
    counted_none c.args.self.objects_times k c.args.name.now (codes "objects") (once_other c.args.name.now (codes "objects") (sym
    c.if-eq-2.ensures)) is

pub returns-clause-transactions : goal.returns-clause-transactions
returns-clause-transactions c k is =
    counted_none c.args.self.transactions_times k c.args.name.now (codes "transactions")
    (once_other c.args.name.now (codes "transactions") (sym c.if-eq-3.ensures)) is
