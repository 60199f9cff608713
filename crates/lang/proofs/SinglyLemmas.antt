-- Documents whose own shape is known to be right, and what is said of results.
use Rattle.std.proofs.Common.{◌≡◌, ◌≤◌, List, ℕ, ◌++◌, true, inl, inr, Option, None, Some, Result, Ok, Err, option_and_then, option_map}
use Rattle.std.proofs.Common.{leb-true, refl, subst, sym, ap, ◌∙◌}
use Rattle.std.specs.Prelude.{IfErr, IfSome, MatchOption, MatchResult, OnOk, codes, is_some}
use Rattle.serde_json.specs.Data.{Data, array, boolean, null, number, object, string}
use Rattle.serde_json.specs.Events.{items_len}
use Rattle.serde_json.specs.Find.{as_array, get_member, pointer as points_to}
use Rattle.doc_rules.specs.Limits.{limits_of}
use Rattle.doc_tree.specs.declared.counts.Counts.{Counts}
use Rattle.doc_tree.specs.Answer.{AreMet}
use Rattle.doc_tree.specs.Asked.{document_shape_asked, objects_in, or_no_items, transactions_in, version_in}
use Rattle.doc_tree.specs.Demand.{no_counts}
use Rattle.doc_tree.specs.Look.{list_member}
use Rattle.doc_tree.specs.Places.{Found, found_inside, member_named, nothing, placed, seek}
use Rattle.doc_tree.proofs.MetLemmas.{AllMet, passed}
use Rattle.doc_tree.proofs.PlaceLemmas.{part_met, part_unmet}
use Rattle.doc_tokens.specs.Pulled.{StopsFor}
use Rattle.doc_tokens.proofs.PulledLemmas.{pick}
use Rattle.doc_tokens.specs.declared.notes.Notes.{Notes}
use Rattle.doc_tokens.specs.declared.stop.Stop.{Stop}
use Rattle.doc_tokens.specs.declared.stop.Stop.TheVariants.{NoMemory}
use Rattle.lang.specs.Found.{IsKnown}
use Rattle.lang.proofs.AskedLemmas.{after_objects, after_shape, behind, objects, transactions}
use Rattle.lang.proofs.PointerLemmas as pointed
use Rattle.lang.proofs.PointerLemmas.{IsPath}

-- what follows from what holds of an option's value
pub if_some : {T : Type 0} (o : Option T) (P Q : T → Type 0) → IfSome o P → ((x : T) → P x → Q x) → IfSome o Q
if_some None P Q p f = tt
if_some (Some x) P Q p f = f x p

-- what is said of a result that is known
pub matched_ok : {T E : Type 0} (r : Result T E) (x : T) (P : T → Type 0) (Q : E → Type 0) → r ≡ Ok x → MatchResult r P Q → P x
matched_ok r x P Q is said = subst (λ s. MatchResult s P Q) is said

pub told_ok : {T E : Type 0} (r : Result T E) (x : T) (P : Type 0) → r ≡ Ok x → OnOk r P → P
told_ok r x P is said = subst (λ s. OnOk s P) is said

pub matched_err : {T E : Type 0} (r : Result T E) (e : E) (P : T → Type 0) (Q : E → Type 0) → r ≡ Err e → MatchResult r P Q → Q e
matched_err r e P Q is said = subst (λ s. MatchResult s P Q) is said

-- what is said of an option that is known
pub matched_some : {T : Type 0} (o : Option T) (x : T) (A : Type 0) (P : T → Type 0) → o ≡ Some x → MatchOption o A P → P x
matched_some o x A P is said = subst (λ s. MatchOption s A P) is said

pub told_some : {T : Type 0} (o : Option T) (x : T) (P : T → Type 0) → o ≡ Some x → IfSome o P → P x
told_some o x P is said = subst (λ s. IfSome s P) is said

pub matched_none : {T : Type 0} (o : Option T) (A : Type 0) (P : T → Type 0) → o ≡ None → MatchOption o A P → A
matched_none o A P is said = subst (λ s. MatchOption s A P) is said

-- what is read is one value
pub same_read : {A B : Type 0} (o : Option (A × B)) (a b : A) (r s : B) → o ≡ Some (a, r) → o ≡ Some (b, s) → a ≡ b
same_read o a b r s here there = let same : Some (a, r) ≡ Some (b, s) = sym here ∙ there in ap (λ p. pick a (option_map (λ q. q.0) p)) same

-- what follows from what holds of each answer
pub on_ok : {T E : Type 0} (r : Result T E) (P Q : Type 0) → OnOk r P → (P → Q) → OnOk r Q
on_ok (Ok x) P Q p f = f p
on_ok (Err e) P Q p f = tt

-- what holds of every error
pub every_err : {T E : Type 0} (r : Result T E) (P : E → Type 0) → ((e : E) → P e) → IfErr r P
every_err (Ok x) P p = tt
every_err (Err e) P p = p e

-- nothing isn't something
pub nothing_read : {A : Type 0} (a : A) → None ≡ Some a → ⊥
nothing_read a is = cc

-- what is known to be read stops for want of memory alone
pub only_memory : {A : Type 0} (stop : Stop) (read : Option A) → (read ≡ None → ⊥) → StopsFor stop read → stop ≡ NoMemory
only_memory stop read some (inl refused) = refused
only_memory stop read some (inr none) = absurd (some none)

-- ---- a known document

list_there : (o : Option Data) → is_some (option_and_then as_array o) ≡ true → o ≡ Some (array (or_no_items (option_and_then as_array o)))
list_there None is = cc
list_there (Some null) is = cc
list_there (Some (boolean b)) is = cc
list_there (Some (number x)) is = cc
list_there (Some (string s)) is = cc
list_there (Some (array ds)) is = refl
list_there (Some (object ms)) is = cc

module _ (text : List ℕ) (notes : Notes) (d : Data) (known : IsKnown text notes d) where
  all_met : AllMet (document_shape_asked d)
  all_met = (passed (document_shape_asked d) no_counts no_counts known.shape).met

  -- its lists are members
  pub objects_there : get_member (codes "objects") known.members ≡ Some (array (objects_in d))
  unfolding document_shape_asked
  objects_there =
      list_there (get_member (codes "objects") known.members) (ap (λ x. is_some (list_member (codes "objects") x)) (sym known.is) ∙
      all_met.1.1.0)
      ∙ ap (λ x. Some (array (objects_in x))) (sym known.is)

  pub transactions_there : get_member (codes "transactions") known.members ≡ Some (array (transactions_in d))
  unfolding document_shape_asked
  transactions_there =
      list_there (get_member (codes "transactions") known.members)
      (ap (λ x. is_some (list_member (codes "transactions") x)) (sym known.is) ∙ all_met.1.1.1.0)
      ∙ ap (λ x. Some (array (transactions_in x))) (sym known.is)

  -- they are as long as its version lets them be
  pub few_known : (items_len (objects_in d) ≤ (limits_of (version_in d)).objects)
      × (items_len (transactions_in d) ≤ (limits_of (version_in d)).transactions)
  unfolding document_shape_asked
  few_known = (
    leb-true (items_len (objects_in d)) (limits_of (version_in d)).objects all_met.1.1.1.1.0,
    leb-true (items_len (transactions_in d)) (limits_of (version_in d)).transactions all_met.1.1.1.1.1.0,
  )

  -- a pointer leads on from them
  pub objects_pointed : (p : List ℕ) → IsPath p → points_to (codes "/objects" ++ p) d ≡ points_to p (array (objects_in d))
  objects_pointed p path =
      ap (points_to (codes "/objects" ++ p)) known.is
      ∙ pointed.objects_pointed known.members (array (objects_in d)) objects_there p path

  pub transactions_pointed : (p : List ℕ) → IsPath p
      → points_to (codes "/transactions" ++ p) d ≡ points_to p (array (transactions_in d))
  transactions_pointed p path =
      ap (points_to (codes "/transactions" ++ p)) known.is
      ∙ pointed.transactions_pointed known.members (array (transactions_in d)) transactions_there p path

  -- a fault of the objects
  pub objects_failed : (found : Found) → seek no_counts (objects d no_counts) ≡ Err found
      → seek no_counts (placed d) ≡ Err (found_inside (member_named (codes "objects")) found)
  objects_failed found failed =
      after_shape d no_counts known.shape
      ∙ part_unmet no_counts found (member_named (codes "objects")) (objects d no_counts) (behind d no_counts) failed

  -- a fault of the transactions, once the objects have none
  pub transactions_failed : (mid : Counts) → AreMet no_counts (objects d no_counts) mid
      → (found : Found) → seek mid (transactions d no_counts) ≡ Err found
      → seek no_counts (placed d) ≡ Err (found_inside (member_named (codes "transactions")) found)
  transactions_failed mid first found failed =
      after_objects d no_counts mid known.shape first
      ∙ part_unmet mid found (member_named (codes "transactions")) (transactions d no_counts) nothing failed

  -- no fault
  pub faultless_known : (mid next : Counts) → AreMet no_counts (objects d no_counts) mid → AreMet mid (transactions d no_counts) next
      → AreMet no_counts (placed d) next
  faultless_known mid next first second =
      after_objects d no_counts mid known.shape first
      ∙ part_met mid next (member_named (codes "transactions")) (transactions d no_counts) nothing second
