-- Journals that lead back: one change more.
use Rattle.std.proofs.Common.{◌≡◌, List, [], ◌∷◌, ◌++◌, reverse, ap, ◌∙◌}
use Rattle.std.proofs.lemmas.List.{reverse-append}
use Rattle.drafts.specs.History.{History, changed, rewinding, journaled}

-- a list with one more at its end, from the end on
pub reverse_push : {A : Type 0} (xs ys : List A) (x : A) → xs ≡ ys ++ x ∷ [] → reverse xs ≡ x ∷ reverse ys
reverse_push xs ys x e = ap reverse e ∙ reverse-append ys (x ∷ [])

-- a change that leads back to the value before
pub journaled_more : {V D : Type 0} (undo : V → D → V) (v w : V) (change : D) (journal : List D) → undo w change ≡ v
    → journaled undo w (change ∷ journal) ≡ changed (journaled undo v journal) w
journaled_more {V} undo v w change journal back =
    ap (λ u. let h : History V = record { value = w; before = u ∷ rewinding undo u journal } in h) back

-- a journal with one more at its end, once there is room for it
pub journal_push : {D : Type 0} (pushed reserved items : List D) (change : D) → pushed ≡ reserved ++ change ∷ [] → reserved ≡ items
    → reverse pushed ≡ change ∷ reverse items
journal_push pushed reserved items change p r = reverse_push pushed reserved change p ∙ ap (λ xs. change ∷ reverse xs) r
