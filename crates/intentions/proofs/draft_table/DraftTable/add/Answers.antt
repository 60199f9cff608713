use Rattle.std.proofs.Common.{◌∷◌, ◌++◌, [], Some, cond, length, subst, ap, ◌∙◌}
use Rattle.std.specs.Prelude.{nat_eq, option_and_then, slice_get}
use Rattle.drafts.specs.History.{History, unchanged}
use Rattle.objects.specs.declared.kind.Value.{Value}
use Rattle.intentions.specs.DraftTables.{draft_of, drafts_in}
use Rattle.intentions.specs.Places.{IsReached, place_in}
use Rattle.intentions.proofs.DraftTableLemmas.{drafted, placed_at, put-last, reached}
use Rattle.intentions.proofs.draft_table.DraftTable.add.Goals as goal

pub returns-clause-ok : goal.returns-clause-ok
returns-clause-ok c =
    let object = c.args.object in
    let old = place_in c.args.self.now.places in
    let mid = place_in c.reach.new.self in
    let drafts = c.args.self.now.drafts.items in
    let h : History Value = unchanged c.args.lent.now in
    let end = c.len-place.ensures ∙ c.args.self.now.drafts.ok.0 in
    let pushed = c.in_ok-push.ensures.items ∙ ap (λ d. drafts ++ drafted object d ∷ []) c.of-draft.ensures in
    λ q. ap (λ o. option_and_then (draft_of q) (option_and_then (slice_get c.push.new.self.items) o)) (c.set.ensures q)
    ∙ ap (λ n. drafts_in (placed_at mid object n) c.push.new.self.items q) end
    ∙ ap (λ ds. drafts_in (placed_at mid object (length drafts)) ds q) pushed ∙ put-last mid drafts object h q
    ∙ ap (λ d. cond (nat_eq object q) (Some h) d)
    (reached old mid drafts q (subst (λ n. IsReached n (old q) (mid q)) end (c.reach.ensures.same q)))
