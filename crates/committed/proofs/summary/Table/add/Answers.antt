use Rattle.std.proofs.Common.{◌≡◌, ◌<◌, length, set, sym, ap, ◌∙◌, subst}
use Rattle.std.proofs.lemmas.List.{map-set}
use Rattle.committed.specs.declared.marks.MarkedEntry.{MarkedEntry}
use Rattle.committed.specs.declared.summary.Table.{Table}
use Rattle.conflicts.specs.Strictness.{strength_of}
use Rattle.committed.specs.Summaries.{entries_of, strengths_of, IsSummary}
use Rattle.committed.proofs.SummaryLemmas.{summary_covered, summary_left, summary_set, summary_more}
use Rattle.committed.proofs.summary.Table.add.Goals as goal
use Rattle.committed.proofs.summary.Table.add.Goals.{in-Some+else-are_as_strict+else-found, in_default}

pub returns-then-covers : goal.returns-then-covers
returns-then-covers c = λ entries summary.
    summary_covered (entries_of c.args.self.now.summary.items) entries c.args.entry.now
    (c.covers.ensures c.if-covers.true c.args.entry.now (sym c.of-strength.ensures)) summary

pub returns-then-are_as_strict : goal.returns-then-are_as_strict
returns-then-are_as_strict c = λ entries summary.
    let same = sym c.note.ensures.entries in
    summary_left c.note.new.self.summary.items c.in-Some.found.before c.in-Some.found.last c.measured-earlier.result.entry.now
    c.measured-later.result.entry.now c.args.entry.now entries c.in-Some.ensures.ordered
    (subst (λ marked. c.in-Some.found.last < length marked.items) same c.in-Some.ensures.within)
    c.measured-earlier.ensures c.measured-later.ensures (subst (λ marked. IsSummary (entries_of marked.items) entries) same summary)
    (c.are_as_strict.ensures c.if-are_as_strict.true)

pub invariant_of-self : goal.invariant_of-self
invariant_of-self c =
    let marked = c.note.new.self.summary.items in
    let last = c.in-Some.found.last in
    record {
      told = ap (λ ss. set ss last c.of-strength.result) c.note.new.self.told
          ∙ ap (set (strengths_of marked) last) (c.of-strength.ensures ∙ ap strength_of (sym c.of.ensures))
          ∙ sym (map-set (λ (m : MarkedEntry). strength_of m.entry) marked last c.of.result);
    }

pub returns-then-are_as_strict-2 : goal.returns-then-are_as_strict-2
returns-then-are_as_strict-2 c = λ entries summary.
    let same = sym c.note.ensures.entries in
    summary_set c.note.new.self.summary.items c.in-Some.found.before c.in-Some.found.last c.measured-earlier.result.entry.now
    c.measured-later.result.entry.now c.args.entry.now entries c.in-Some.ensures.ordered
    (subst (λ marked. c.in-Some.found.last < length marked.items) same c.in-Some.ensures.within)
    c.measured-earlier.ensures c.measured-later.ensures (subst (λ marked. IsSummary (entries_of marked.items) entries) same summary)
    c.of.result c.of.ensures c.if-found.true (c.are_as_strict-then-found.ensures c.if-are_as_strict-2.true)

pub returns : goal.returns
returns c = λ entries summary.
    let same : c.match-places.self.summary ≡ c.args.self.now.summary = elim c.match-places.branch [
      | in-Some+else-are_as_strict+else-found w ↦ ap (λ (t : Table). t.summary) w.self-is ∙ w.note.ensures.entries
      | in_default w ↦ ap (λ (t : Table). t.summary) w.self-is
    ] in
    summary_more (entries_of c.match-places.self.summary.items) (entries_of c.put.new.self.summary.items) entries c.args.entry.now
    c.in_ok-put.ensures (subst (λ marked. IsSummary (entries_of marked.items) entries) (sym same) summary)
