-- The document that is spelled starts with the objects as they are.
use Rattle.std.proofs.Common.{◌≡◌, ℕ, ◌+◌, ◌*◌, ◌≤◌, [], ◌∷◌, length, None, refl, sym, ap, subst, arith}
use Rattle.std.specs.List.{AllByRecursion}
use Rattle.serde_json.specs.Data.{no_items}
use Rattle.objects.specs.Entries.{State}
use Rattle.meaning.specs.Words.{Naming}
use Rattle.batch.specs.Limits.{all_entries_in, entries_in}
use Rattle.batch.specs.Names.{Texts, names_of}
use Rattle.doc_tree.specs.Asked as asked
use Rattle.doc_tree.specs.Asked.{kind_in}
use Rattle.doc_tree.specs.Scope.{Numbers, no_numbers}
use Rattle.doc_tree.specs.Spelled.{document_in, parts_in, start_of, starts_of}
use Rattle.carry.specs.Carried.{first_unfit}
use Rattle.carry_laws.specs.CarriedData.{carried_data, object_data, objects_data, start_data}
use Rattle.carry_laws.specs.Carrying.{IsCarriedVersion, object_names}
use Rattle.carry_laws.specs.Laws.{StartsWith}
use Rattle.carry_laws.specs.Same.{AreSame}
use Rattle.carry_laws.proofs.Carriable.{IsApart, first_fits}
use Rattle.carry_laws.proofs.CarriedFaultless.{kind_is}
use Rattle.doc_merge.proofs.NumberedTexts.{Grows, grows_both, grows_none}
use Rattle.carry_laws.proofs.SpelledStarts.{SpellsValue, value_spelled}
use Rattle.carry_laws.proofs.TextLength.{all_few}
use Rattle.carry_laws.proofs.Versions.{is_version}
use Rattle.doc_tokens.proofs.PulledDocument.{version_is}
use Rattle.doc_rules.proofs.LimitLemmas.{limits_within}

-- By later tables the objects are the same. So many texts are new at most.
record SpellsState (names : Naming) (values : State) (before : Numbers) (spelled : State × Numbers) : Type 0 where
  grows : Grows before.items spelled.1.items
  few : length spelled.1.items ≤ length before.items + 2 * all_entries_in values
  same : (texts : Texts) → Grows spelled.1.items texts.items → length texts.items ≤ 4294967295
      → AreSame names values (names_of texts) spelled.0

module _ (version : ℕ) (carried : IsCarriedVersion version) (names : Naming) where
  state_spelled : (n entries : ℕ) (values : State) (numbers : Numbers) → first_unfit version n entries values ≡ None
      → AllByRecursion (IsApart names) values
      → SpellsState names values numbers (starts_of version numbers (objects_data names n values))
  state_spelled n entries [] numbers fit apart = record { grows = grows_none numbers.items; few = omega arith; same = λ texts more few. tt }
  state_spelled n entries (v ∷ values) numbers fit apart =
      let fits = first_fits version n entries v values fit in
      let spelled = start_of (kind_in version (object_data names n v)) numbers (start_data names v) in
      let here : SpellsValue names v numbers spelled =
      subst (λ k. SpellsValue names v numbers (start_of k numbers (start_data names v))) (sym (kind_is version carried names n v))
      (value_spelled names v numbers fits.small apart.0) in
      let last = (starts_of version spelled.1 (objects_data names (n + 1) values)).1 in
      let rest = state_spelled (n + 1) (entries + entries_in v) values spelled.1 fits.rest apart.1 in
      let first_few = here.few in
      let rest_few = rest.few in
      record {
        grows = grows_both numbers.items spelled.1.items last.items here.grows rest.grows;
        few = omega (arith, first_few, rest_few);
        same = λ texts more few. (
          (here.kind, here.content texts (grows_both spelled.1.items last.items texts.items rest.grows more) few),
          rest.same texts more few,
        );
      }

  names_spelled : (n : ℕ) (values : State) → asked.names_of (objects_data names n values) ≡ object_names names n values
  names_spelled n [] = refl
  names_spelled n (v ∷ values) = ap (λ ts. names.object n ∷ ts) (names_spelled (n + 1) values)

  pub document_spelled : (values : State) → first_unfit version 0 0 values ≡ None → AllByRecursion (IsApart names) values
      → StartsWith version names values (document_in (carried_data version names values))
  unfolding document_in parts_in
  document_spelled values fit apart =
      let ds = objects_data names 0 values in
      let known = is_version version carried in
      let declared = version_is version ds no_items known.0 known.1 in
      let state = subst (λ v. SpellsState names values no_numbers (starts_of v no_numbers ds)) declared
      (state_spelled 0 0 values no_numbers fit apart) in
      let fewer = state.few in
      let most = (limits_within version).entries in
      let document = document_in (carried_data version names values) in
      record {
        is_of = sym declared;
        objects = state.same document.texts (grows_none document.texts.items)
            (omega (arith, fewer, all_few version 0 0 values (omega arith) fit, most));
        named = names_spelled 0 values;
        no_transactions = refl;
      }
