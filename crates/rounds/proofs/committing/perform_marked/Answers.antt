use Rattle.std.proofs.Common.{◌≡◌, ℕ, ◌+◌, ◌<◌, List, [], ◌∷◌, ◌++◌, length, get_or, drop, sym, subst}
use Rattle.std.proofs.lemmas.List.{length-map}
use Rattle.objects.specs.Parts.{CanPerformOn}
use Rattle.objects.proofs.PartLemmas.{can-fits, can-room, performed-entry}
use Rattle.committed.specs.Summaries.{entries_of}
use Rattle.committed.proofs.SummaryLemmas.{entry_at}
use Rattle.committed.specs.declared.marks.MarkedEntry.{MarkedEntry}
use Rattle.rounds.proofs.Commits.{fewer_left, next_entries}
use Rattle.rounds.proofs.committing.perform_marked.Goals as goal

-- the first of the entries with their marks that are left
next_marked : (marked : List MarkedEntry) (i : ℕ) (m : MarkedEntry) → i < length marked → m ≡ get_or marked i m
    → drop i (entries_of marked) ≡ (m.entry ∷ []) ++ drop (i + 1) (entries_of marked)
next_marked marked i m lt is =
    next_entries (entries_of marked) i m.entry (subst (λ n. i < n) (sym (length-map marked (λ (k : MarkedEntry). k.entry))) lt)
    (entry_at marked i m m.entry lt is)

pub perform_on-requires-clause-fits : goal.perform_on-requires-clause-fits
perform_on-requires-clause-fits c =
    let m = c.marked-item.result in
    let later = drop (c.loop-marked.marked-index + 1) (entries_of c.args.entries.now) in
    can-fits c.args.first c.loop-marked.values m.entry later (subst (CanPerformOn c.args.first c.loop-marked.values)
    (next_marked c.args.entries.now c.loop-marked.marked-index m c.loop-marked-test.true c.marked-item.is) c.loop-marked.invariant.can)

pub perform_on-requires-clause-room : goal.perform_on-requires-clause-room
perform_on-requires-clause-room c =
    let m = c.marked-item.result in
    let later = drop (c.loop-marked.marked-index + 1) (entries_of c.args.entries.now) in
    can-room c.args.first c.loop-marked.values m.entry later (subst (CanPerformOn c.args.first c.loop-marked.values)
    (next_marked c.args.entries.now c.loop-marked.marked-index m c.loop-marked-test.true c.marked-item.is) c.loop-marked.invariant.can)

pub loop-marked-preserved : goal.loop-marked-preserved
loop-marked-preserved c =
    let m = c.marked-item.result in
    let i = c.loop-marked.marked-index in
    let entries = entries_of c.args.entries.now in
    fewer_left c.args.first c.args.values.now c.loop-marked.values c.perform_on.new.values entries (drop i entries) (m.entry ∷ [])
    (drop (i + 1) entries) (next_marked c.args.entries.now i m c.loop-marked-test.true c.marked-item.is) c.loop-marked.invariant
    (performed-entry c.args.first c.loop-marked.values c.perform_on.new.values m.entry c.in_ok-perform_on.ensures.ok)
