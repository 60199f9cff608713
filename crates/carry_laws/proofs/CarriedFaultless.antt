-- The document of objects as they are has no fault.
use Rattle.std.proofs.Common.{◌≡◌, ◌^◌, ℤ, pos, negsuc, ℕ, suc, ◌+◌, ◌≤◌, true, false, not, List, [], ◌∷◌, ◌++◌, length, map, Some, None}
use Rattle.std.proofs.Common.{Ok, refl, sym, ap, subst, ◌∙◌, arith}
use Rattle.std.specs.Prelude.{is_some, nat_abs, unwrap_or}
use Rattle.std.specs.FinSet as finite_set
use Rattle.std.specs.FinMap as finite_map
use Rattle.std.specs.List.{AllByRecursion}
use Rattle.std.proofs.lemmas.Bool.{le-leb, lt-ltb}
use Rattle.serde_json.specs.Data.{no_items, number, unsigned}
use Rattle.serde_json.specs.Find.{of_integer}
use Rattle.serde_json.specs.Events.{items_len}
use Rattle.atoms.specs.declared.item.Item.{Item}
use Rattle.objects.specs.Entries.{State}
use Rattle.objects.specs.Objects.{kind_of_value, content_length}
use Rattle.objects.specs.declared.kind.Kind.TheVariants as kind
use Rattle.objects.specs.declared.kind.Value.{Value}
use Rattle.objects.proofs.KindLemmas.{by_content}
use Rattle.meaning.specs.Words.{Naming, members}
use Rattle.batch.specs.Limits.{entries_in}
use Rattle.batch.specs.Names.{is_name}
use Rattle.doc_tree.specs.Asked.{document_shape_asked, element_asked, entry_asked}
use Rattle.doc_tree.specs.Asked.{kind_in, object_kind, object_name_asked, object_shape_asked, pair_asked}
use Rattle.doc_tree.specs.Asked.{number_start, signed_start, version_in}
use Rattle.doc_tree.specs.Demand.{check, no_counts}
use Rattle.doc_tree.specs.Scope.{Table, is_listed}
use Rattle.doc_tree.proofs.Checks.{check_met}
use Rattle.meaning.specs.declared.limits.TheConstants.{MAX_START}
use Rattle.doc_rules.specs.Limits.{limits_of}
use Rattle.meaning.specs.WellFormed.{content_size, size_of}
use Rattle.carry.specs.Carried.{first_unfit}
use Rattle.carry_laws.specs.CarriedData.{carried_data, content_data, items_data, object_data, objects_data, pairs_data, start_data}
use Rattle.carry_laws.specs.Carrying.{IsCarriedVersion, object_names}
use Rattle.carry_laws.proofs.Among.{Apart}
use Rattle.carry_laws.proofs.Carriable.{IsApart, IsApartContent, first_fits}
use Rattle.carry_laws.proofs.ItemsOf.{members_few}
use Rattle.carry_laws.proofs.Listed.{AreNamedBoth, AreWritable, IsNamed, IsWritable, IsWritableContent}
use Rattle.carry_laws.proofs.Meeting.{AreNew, Counts, Meet, all_new, meet_fewer, meet_none, meet_start, meet_test, new_after, with_new}
use Rattle.doc_tree.proofs.Demands.{array_start_asked, asked, elements_asked, entries_asked, object_asked, objects_asked, pairs_asked}
use Rattle.doc_tree.proofs.Demands.{form_asked, start_asked, met_faultless}
use Rattle.doc_tree.specs.Places.{first_fault, placed}
use Rattle.doc_tokens.proofs.PulledDocument.{version_is, version_read}
use Rattle.carry_laws.proofs.KindWords.{kind_back}
use Rattle.carry_laws.proofs.Versions.{is_version}

-- ---- starts

pub number_back : (n : ℕ) → n ≤ MAX_START → number_start (number (unsigned n)) ≡ Some n
number_back n small = rw (lt-ltb n (2 ^ 63) (omega arith)) (rw (le-leb 0 n (omega arith), le-leb n MAX_START small))

pub signed_back : (z : ℤ) → nat_abs z ≤ MAX_START → signed_start (number (of_integer z)) ≡ Some z
signed_back (pos n) small = rw (lt-ltb n (2 ^ 63) (omega arith)) (rw (le-leb n MAX_START small))
signed_back (negsuc n) small = rw (le-leb (suc n) MAX_START small)

module _ (version : ℕ) (carried : IsCarriedVersion version) (names : Naming) where
  entries_meet : (xs : List Item) → AllByRecursion (IsNamed version names) xs
      → Meet version (length xs) (entries_asked version (items_data names xs))
  unfolding entry_asked
  entries_meet [] named = meet_none version
  entries_meet (x ∷ xs) named =
      let rest = entries_asked version (items_data names xs) in
      meet_test version _ true _ _ refl (meet_test version _ (is_name version (names.item x)) _ _ named.0
      (meet_start version (length xs) rest (entries_meet xs named.1)))

  elements_meet : (earlier : Table) (xs : List Item) → AllByRecursion (IsNamed version names) xs → Apart (map names.item xs)
      → AreNew earlier (map names.item xs) → Meet version (length xs) (elements_asked version earlier (items_data names xs))
  unfolding element_asked
  elements_meet earlier [] named apart new = meet_none version
  elements_meet earlier (x ∷ xs) named apart new =
      let text = names.item x in
      let rest = λ (table : Table). elements_asked version table (items_data names xs) in
      let later = subst (λ table. Meet version (length xs) (rest table)) (sym (with_new text earlier new.0))
      (elements_meet (earlier ++ text ∷ []) xs named.1 apart.1 (new_after text earlier (map names.item xs) apart.0 new.1)) in
      meet_test version _ true _ _ refl (meet_test version _ (is_name version text) _ _ named.0
      (meet_test version _ (not (is_listed text earlier)) _ _ (ap not new.0) (meet_start version (length xs) _ later)))

  pairs_meet : (earlier : Table) (pairs : List (Item × Item)) → AllByRecursion (AreNamedBoth version names) pairs
      → Apart (map names.item (map (λ e. e.0) pairs)) → AreNew earlier (map names.item (map (λ e. e.0) pairs))
      → Meet version (length pairs) (pairs_asked version earlier (pairs_data names pairs))
  unfolding pair_asked
  pairs_meet earlier [] named apart new = meet_none version
  pairs_meet earlier (pair ∷ pairs) named apart new =
      let text = names.item pair.0 in
      let rest = λ (table : Table). pairs_asked version table (pairs_data names pairs) in
      let keys = map names.item (map (λ (e : Item × Item). e.0) pairs) in
      let later = subst (λ table. Meet version (length pairs) (rest table)) (sym (with_new text earlier new.0))
      (pairs_meet (earlier ++ text ∷ []) pairs named.1 apart.1 (new_after text earlier keys apart.0 new.1)) in
      meet_test version _ true _ _ refl (meet_test version _ true _ _ refl (meet_test version _ true _ _ refl
      (meet_test version _ (is_name version text) _ _ named.0.0 (meet_test version _ (is_name version (names.item pair.1)) _ _ named.0.1
      (meet_test version _ (not (is_listed text earlier)) _ _ (ap not new.0) (meet_start version (length pairs) _ later))))))

  start_meet : (v : Value) → size_of v ≤ MAX_START → IsWritable version names v → IsApart names v
      → Meet version (entries_in v) (start_asked version (kind_of_value v) (start_data names v))
  unfolding start_asked array_start_asked
  start_meet v = by_content (λ form c. content_size c ≤ MAX_START → IsWritableContent version names c → IsApartContent names c
      → Meet version (content_length c) (form_asked version (kind_of_value v) form (content_data names c)))
      (λ m n small ok apart. meet_test version 0 (is_some (number_start (number (unsigned n)))) _ []
      (ap is_some (number_back n small)) (meet_none version))
      (λ n small ok apart. meet_test version 0 (is_some (signed_start (number (of_integer n)))) _ []
      (ap is_some (signed_back n small)) (meet_none version))
      (λ s small ok apart. meet_fewer version (length (members s)) (finite_set.len s) _ (members_few s)
      (elements_meet [] (members s) ok apart (all_new (map names.item (members s)))))
      (λ q small ok apart. entries_meet q ok)
      (λ d small ok apart. let few = finite_map.len-entries d in
      meet_fewer version (length (finite_map.entries d)) (finite_map.len d) _ (omega arith)
      (pairs_meet [] (finite_map.entries d) ok apart (all_new (map names.item (finite_map.keys d)))))
      v

  -- ---- objects

  pub kind_read : (n : ℕ) (v : Value) → object_kind version (object_data names n v) ≡ Some (kind_of_value v)
  kind_read n v = kind_back version carried (kind_of_value v)

  pub kind_is : (n : ℕ) (v : Value) → kind_in version (object_data names n v) ≡ kind_of_value v
  kind_is n v = ap (λ k. unwrap_or k kind.Account) (kind_read n v)

  pub object_meets : (n : ℕ) (v : Value) (earlier : Table) → is_name version (names.object n) ≡ true
      → is_listed (names.object n) earlier ≡ false → size_of v ≤ MAX_START → IsWritable version names v → IsApart names v
      → Meet version (entries_in v) (object_asked version earlier (object_data names n v))
  unfolding object_asked object_shape_asked object_name_asked
  object_meets n v earlier named new small ok apart =
      let start = start_asked version (kind_in version (object_data names n v)) (start_data names v) in
      let started : Meet version (entries_in v) start =
      subst (λ k. Meet version (entries_in v) (start_asked version k (start_data names v))) (sym (kind_is n v))
      (start_meet v small ok apart) in
      meet_test version _ true _ _ refl (meet_test version _ true _ _ refl
      (meet_test version _ (is_some (object_kind version (object_data names n v))) _ _ (ap is_some (kind_read n v))
      (meet_test version _ true _ _ refl (meet_test version _ (is_name version (names.object n)) _ _ named
      (meet_test version _ (not (is_listed (names.object n) earlier)) _ start (ap not new) started)))))

  objects_met : (n entries : ℕ) (values : State) (earlier : Table) (c : Counts) → c.starts ≤ entries
      → first_unfit version n entries values ≡ None → AreWritable version names n values → AllByRecursion (IsApart names) values
      → Apart (object_names names n values)
      → AreNew earlier (object_names names n values)
      → (next : Counts) × (check c (objects_asked version earlier (objects_data names n values)) ≡ Ok next)
  objects_met n entries [] earlier c few fit ok apart differ new = (c, refl)
  objects_met n entries (v ∷ values) earlier c few fit ok apart differ new =
      let fits = first_fits version n entries v values fit in
      let bound = fits.few in
      let here = (object_meets n v earlier ok.0 new.0 fits.small ok.1 apart.0).met c (omega arith) in
      let counted = here.2 in
      let rest = objects_met (n + 1) (entries + entries_in v) values (earlier ++ names.object n ∷ []) here.0 (omega arith) fits.rest
      ok.2 apart.1
      differ.1 (new_after (names.object n) earlier (object_names names (n + 1) values) differ.0 new.1) in (
        rest.0,
        check_met c here.0 (object_asked version earlier (object_data names n v))
            (objects_asked version (earlier ++ names.object n ∷ []) (objects_data names (n + 1) values)) here.1 ∙ rest.1,
      )

  -- ---- the document

  objects_len : (n : ℕ) (values : State) → items_len (objects_data names n values) ≡ length values
  objects_len n [] = refl
  objects_len n (v ∷ values) = ap suc (objects_len (n + 1) values)

  shape_met : (values : State) → length values ≤ (limits_of version).objects
      → check no_counts (document_shape_asked (carried_data version names values)) ≡ Ok no_counts
  unfolding document_shape_asked
  shape_met values few =
      let known = is_version version carried in
      rw (
        version_read version (objects_data names 0 values) no_items known.0 known.1,
        le-leb (items_len (objects_data names 0 values)) (limits_of version).objects (omega (arith, objects_len 0 values)),
        le-leb 0 (limits_of version).transactions (omega arith),
      ) refl

  pub carried_faultless : (values : State) → length values ≤ (limits_of version).objects → first_unfit version 0 0 values ≡ None
      → AreWritable version names 0 values
      → AllByRecursion (IsApart names) values → Apart (object_names names 0 values)
      → first_fault (placed (carried_data version names values)) ≡ None
  unfolding asked
  carried_faultless values few fit ok apart differ =
      let d = carried_data version names values in
      let known = is_version version carried in
      let ds = objects_data names 0 values in
      let objects = objects_asked (version_in d) [] ds in
      let met = objects_met 0 0 values [] no_counts (omega arith) fit ok apart differ (all_new (object_names names 0 values)) in
      let here = subst (λ v. check no_counts (objects_asked v [] ds) ≡ Ok met.0) (version_is version ds no_items known.0 known.1) met.1 in
      met_faultless d met.0 (check_met no_counts met.0 (document_shape_asked d ++ objects) []
      (check_met no_counts no_counts (document_shape_asked d) objects (shape_met values few) ∙ here))
