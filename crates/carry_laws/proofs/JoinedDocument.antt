-- The document into which objects are carried has no fault, and its transactions are those of the next.
use Rattle.std.proofs.Common.{◌≡◌, ◌+◌, ◌≤◌, ℕ, suc, List, [], ◌∷◌, ◌++◌, length, map, None, Ok, refl, sym, ap, subst, ◌∙◌, arith}
use Rattle.std.specs.List.{AllByRecursion}
use Rattle.std.proofs.lemmas.Bool.{le-leb}
use Rattle.serde_json.specs.Data.{Data, Items}
use Rattle.serde_json.specs.Events.{items_len}
use Rattle.objects.specs.declared.kind.Kind.{Kind}
use Rattle.meaning.specs.declared.limits.TheConstants.{MAX_ENTRIES}
use Rattle.batch.specs.Limits.{entries_in}
use Rattle.doc_tree.specs.Asked.{declared_by, document_shape_asked, objects_in, setting_in, transactions_in, version_in}
use Rattle.doc_rules.specs.Limits.{limits_of}
use Rattle.doc_tokens.proofs.PulledDocument.{version_is, version_read}
use Rattle.doc_tree.specs.Demand.{check, no_counts}
use Rattle.doc_tree.specs.Places.{first_fault, placed}
use Rattle.doc_tree.specs.Scope.{Numbers, Table, no_numbers}
use Rattle.doc_tree.specs.Spelled.{blocks_of, document_in, parts_in}
use Rattle.doc_tree.proofs.Checks.{check_met, check_parts}
use Rattle.doc_tree.proofs.Demands.{asked, faultless, met_faultless, object_asked, objects_asked, transactions_asked}
use Rattle.doc_tree.proofs.ListLemmas.{kinds_of_starts, same_setting}
use Rattle.doc_tree.proofs.MetLemmas.{What, count, count-append, first_met, passed}
use Rattle.lang.proofs.FaultlessBatch.{few}
use Rattle.carry.specs.Carried.{first_unfit}
use Rattle.carry.specs.Joined.{Named, StartOf, added, first_clash, joined, name_of, value_of}
use Rattle.carry_laws.specs.CarriedData.{object_data}
use Rattle.carry_laws.specs.Carrying.{IsCarriedVersion}
use Rattle.carry_laws.specs.Joined.{joined_data, starts_data}
use Rattle.carry_laws.proofs.Among.{Apart}
use Rattle.carry_laws.proofs.Carriable.{first_fits}
use Rattle.carry_laws.proofs.CarriedFaultless.{object_meets}
use Rattle.carry_laws.proofs.JoinedJson.{CanStart}
use Rattle.carry_laws.proofs.JoinedSetting.{declares_more, joined_kinds, joined_names, kind_of_start, starts_kinds}
use Rattle.carry_laws.proofs.JoinedSpelled.{starts_names}
use Rattle.carry_laws.proofs.JoinedStarts.{IsApartStart}
use Rattle.carry_laws.proofs.LimitsSince.{limits_since}
use Rattle.carry_laws.proofs.Meeting.{AreNew, Counts, all_new, new_after}
use Rattle.carry_laws.proofs.OtherSetting.{Declares, Fewer, transactions_kept}
use Rattle.carry_laws.proofs.Versions.{is_version, version_known}

-- ---- the starts meet their demands

-- as many items as starts
starts_len : (starts : List StartOf) → items_len (starts_data starts) ≡ length starts
starts_len [] = refl
starts_len (start ∷ starts) = ap suc (starts_len starts)

module _ (version : ℕ) (carried : IsCarriedVersion version) where
  -- met, and neither operations nor nodes are counted
  record StartsMet (c : Counts) (earlier : Table) (starts : List StartOf) : Type 0 where
    next : Counts
    met : check c (objects_asked version earlier (starts_data starts)) ≡ Ok next
    fewer : Fewer next c

  starts_met : (n entries : ℕ) (starts : List StartOf) (earlier : Table) (c : Counts) → c.starts ≤ entries
      → first_unfit version n entries (map value_of starts) ≡ None → AllByRecursion (CanStart version) starts
      → AllByRecursion IsApartStart starts → Apart (map name_of starts) → AreNew earlier (map name_of starts)
      → StartsMet c earlier starts
  starts_met n entries [] earlier c few fit ok apart differ new =
      record { next = c; met = refl; fewer = record { operations = omega arith; nodes = omega arith } }
  starts_met n entries (start ∷ starts) earlier c few fit ok apart differ new =
      let v = start.value in
      let fits = first_fits version n entries v (map value_of starts) fit in
      let bound = fits.few in
      let here = (object_meets version carried start.names start.place v earlier ok.0.0 new.0 fits.small ok.0.1 apart.0).met c
      (omega (arith, bound, few)) in
      let counted = here.2 in
      let after = earlier ++ name_of start ∷ [] in
      let rest = starts_met (n + 1) (entries + entries_in v) starts after here.0 (omega (arith, counted, few)) fits.rest ok.1 apart.1
      differ.1 (new_after (name_of start) earlier (map name_of starts) differ.0 new.1) in
      let one = here.3 in
      let other = here.4 in
      let fewer = rest.fewer in
      let operations = fewer.operations in
      let nodes = fewer.nodes in
      record {
        next = rest.next;
        met = check_met c here.0 (object_asked version earlier (object_data start.names start.place v))
            (objects_asked version after (starts_data starts)) here.1 ∙ rest.met;
        fewer = record { operations = omega (arith, operations, one); nodes = omega (arith, nodes, other) };
      }

  -- its shape is that of a document
  shape_met : (starts : List StartOf) (ds : Items) → length starts ≤ (limits_of version).objects
      → items_len ds ≤ (limits_of version).transactions
      → check no_counts (document_shape_asked (joined_data version starts ds)) ≡ Ok no_counts
  unfolding document_shape_asked
  shape_met starts ds short few =
      let limits = limits_of version in
      let known = is_version version carried in
      rw (
        version_read version (starts_data starts) ds known.0 known.1,
        le-leb (items_len (starts_data starts)) limits.objects (omega (arith, starts_len starts, short)),
        le-leb (items_len ds) limits.transactions few,
      ) refl

-- ---- what is known of the next document

-- what is asked of a document is met in two parts: its shape and its objects, and then its transactions
pub record PartsMet (d : Data) : Type 0 where
  pub middle : Counts
  pub last : Counts
  pub before : check no_counts (document_shape_asked d ++ objects_asked (version_in d) [] (objects_in d)) ≡ Ok middle
  pub after : check middle (transactions_asked 1 (setting_in d) (transactions_in d)) ≡ Ok last

pub parts_met : (d : Data) → first_fault (placed d) ≡ None → PartsMet d
unfolding asked
parts_met d none =
    let all = faultless d none in
    let A = document_shape_asked d in
    let B = objects_asked (version_in d) [] (objects_in d) in
    let C = transactions_asked 1 (setting_in d) (transactions_in d) in
    let parts = check_parts no_counts all.0 (A ++ B) C all.1 in
    record { middle = parts.0; last = all.0; before = parts.1; after = parts.2 }

-- the next has few transactions, for a later version, too
few_transactions : (version : ℕ) (d : Data) → version_in d ≤ version → PartsMet d
    → items_len (transactions_in d) ≤ (limits_of version).transactions
few_transactions version d later parts =
    let A = document_shape_asked d in
    let B = objects_asked (version_in d) [] (objects_in d) in
    let here = (few d (first_met A B (passed (A ++ B) no_counts parts.middle parts.before).met)).1 in
    let most = (limits_since (version_in d) version later).transactions in
    omega (arith, here, most)

-- the objects of the next start few entries
pub few_starts : (d : Data) → PartsMet d → count What.starts (objects_asked (version_in d) [] (objects_in d)) ≤ MAX_ENTRIES
few_starts d parts =
    let A = document_shape_asked d in
    let B = objects_asked (version_in d) [] (objects_in d) in
    let p = passed (A ++ B) no_counts parts.middle parts.before in
    let both = count-append What.starts A B in
    let counted = p.starts in
    let most = p.few_starts (omega arith) in
    omega (arith, both, counted, most)

-- ---- the next document with the objects of a first

abbrev pub next_of : Data → Named
next_of d = record { texts = (document_in d).texts; values = (document_in d).start }

abbrev pub starts_with : Named → Data → List StartOf
starts_with first d = joined first (next_of d)

-- the value of the document of a version into which they are carried
abbrev pub joined_of : ℕ → Named → Data → Data
joined_of version first d = joined_data version (starts_with first d) (transactions_in d)

-- its version is read
pub declared : (version : ℕ) → IsCarriedVersion version → (first : Named) (d : Data) → version ≡ version_in (joined_of version first d)
declared version carried first d =
    let known = is_version version carried in version_is version (starts_data (starts_with first d)) (transactions_in d) known.0 known.1

module _ (version : ℕ) (carried : IsCarriedVersion version) (first : Named) (d : Data) (later : version_in d ≤ version)
    (size : length (document_in d).texts.objects ≡ length (document_in d).start)
    (clash : first_clash 0 (document_in d).start (starts_with first d) ≡ None) where
  -- it declares what the next declares
  joined_declares : Declares (setting_in d) (setting_in (joined_of version first d))
  unfolding document_in parts_in
  joined_declares =
      let next = next_of d in
      let starts = starts_with first d in
      let others = added first next.texts.objects 0 first.values in
      let more = map name_of others in
      let kinds_more = map kind_of_start others in
      let names = starts_names starts ∙ joined_names first next size in
      let ks = starts_kinds version carried starts ∙ joined_kinds first next clash
      ∙ ap (λ (xs : List Kind). xs ++ kinds_more) (kinds_of_starts (version_in d) no_numbers (objects_in d)) in
      let known = version_known d in
      let same = same_setting version ((setting_in d).names ++ more) ((setting_in d).kinds ++ kinds_more) (starts_data starts)
      (sym names) (sym ks) ∙ ap (λ v. declared_by v (starts_data starts)) (declared version carried first d) in
      subst (Declares (setting_in d)) same (declares_more (setting_in d) version more kinds_more known.0 later carried)

  -- It has no fault, and its transactions are read as the next's are, by whatever numbers.
  pub record Read : Type 0 where
    pub faultless : first_fault (placed (joined_of version first d)) ≡ None
    pub same : (numbers : Numbers) → blocks_of (setting_in (joined_of version first d)) numbers (transactions_in d)
        ≡ blocks_of (setting_in d) numbers (transactions_in d)

  pub joined_reads : PartsMet d → length (starts_with first d) ≤ (limits_of version).objects
      → first_unfit version 0 0 (map value_of (starts_with first d)) ≡ None
      → AllByRecursion (CanStart version) (starts_with first d) → AllByRecursion IsApartStart (starts_with first d)
      → Apart (map name_of (starts_with first d)) → Read
  unfolding asked
  joined_reads parts short fit ok apart differ =
      let starts = starts_with first d in
      let ds = transactions_in d in
      let j = joined_of version first d in
      let A = document_shape_asked j in
      let B = objects_asked (version_in j) [] (starts_data starts) in
      let C = transactions_asked 1 (setting_in j) ds in
      let started = starts_met version carried 0 0 starts [] no_counts (omega arith) fit ok apart differ (all_new (map name_of starts)) in
      let fewer = started.fewer in
      let operations = fewer.operations in
      let nodes = fewer.nodes in
      let kept = (transactions_kept (setting_in d) (setting_in j) joined_declares 1 ds).kept parts.middle started.next parts.last
      (record { operations = omega (arith, operations); nodes = omega (arith, nodes) }) parts.after in
      let shape = shape_met version carried starts ds short (few_transactions version d later parts) in
      let met = subst (λ v. check no_counts (objects_asked v [] (starts_data starts)) ≡ Ok started.next)
      (declared version carried first d) started.met in
      let before = check_met no_counts no_counts A B shape ∙ met in
      record {
        faultless = met_faultless j kept.0.0 (check_met no_counts started.next (A ++ B) C before ∙ kept.0.1);
        same = kept.1;
      }
