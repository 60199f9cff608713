-- What is spelled of the objects of a document into which objects are carried.
use Rattle.std.proofs.Common.{◌≡◌, ℕ, ◌+◌, ◌*◌, ◌≤◌, List, [], ◌∷◌, length, map, None, refl, sym, ap, subst, arith}
use Rattle.std.specs.List.{AllByRecursion}
use Rattle.objects.specs.Entries.{State}
use Rattle.batch.specs.Limits.{all_entries_in, entries_in}
use Rattle.batch.specs.Names.{Texts, names_of}
use Rattle.doc_tree.specs.Asked as asked
use Rattle.doc_tree.specs.Asked.{kind_in}
use Rattle.doc_tree.specs.Scope.{Numbers, no_numbers}
use Rattle.doc_tree.specs.Spelled.{start_of, starts_of}
use Rattle.meaning.specs.declared.limits.TheConstants.{MAX_ENTRIES}
use Rattle.doc_rules.proofs.LimitLemmas.{limits_within}
use Rattle.carry.specs.Carried.{first_unfit}
use Rattle.carry.specs.Joined.{StartOf, name_of, value_of}
use Rattle.carry_laws.specs.CarriedData.{object_data, start_data}
use Rattle.carry_laws.specs.Carrying.{IsCarriedVersion}
use Rattle.carry_laws.specs.Joined.{names_after, spelled_starts, starts_data}
use Rattle.carry_laws.specs.Same.{AreSameStarts}
use Rattle.carry_laws.proofs.Carriable.{first_fits}
use Rattle.carry_laws.proofs.CarriedFaultless.{kind_is}
use Rattle.carry_laws.proofs.JoinedStarts.{IsApartStart}
use Rattle.doc_merge.proofs.NumberedTexts.{Grows, grows_both, grows_none}
use Rattle.carry_laws.proofs.SpelledStarts.{SpellsValue, value_spelled}
use Rattle.carry_laws.proofs.TextLength.{all_few}

-- By later tables the objects are the same. So many texts are new at most.
record SpellsStarts (starts : List StartOf) (before : Numbers) (spelled : State × Numbers) : Type 0 where
  grows : Grows before.items spelled.1.items
  few : length spelled.1.items ≤ length before.items + 2 * all_entries_in (map value_of starts)
  same : (texts : Texts) → Grows spelled.1.items texts.items → length texts.items ≤ 4294967295
      → AreSameStarts starts (names_of texts) spelled.0

module _ (version : ℕ) (carried : IsCarriedVersion version) where
  starts_spelled : (n entries : ℕ) (starts : List StartOf) (numbers : Numbers) → first_unfit version n entries (map value_of starts) ≡ None
      → AllByRecursion IsApartStart starts → SpellsStarts starts numbers (starts_of version numbers (starts_data starts))
  starts_spelled n entries [] numbers fit apart = record {
    grows = grows_none numbers.items;
    few = omega arith;
    same = λ texts more few. tt;
  }
  starts_spelled n entries (start ∷ starts) numbers fit apart =
      let v = start.value in
      let fits = first_fits version n entries v (map value_of starts) fit in
      let written = start_data start.names v in
      let spelled = start_of (kind_in version (object_data start.names start.place v)) numbers written in
      let here : SpellsValue start.names v numbers spelled =
      subst (λ k. SpellsValue start.names v numbers (start_of k numbers written)) (sym (kind_is version carried start.names start.place v))
      (value_spelled start.names v numbers fits.small apart.0) in
      let last = (starts_of version spelled.1 (starts_data starts)).1 in
      let rest = starts_spelled (n + 1) (entries + entries_in v) starts spelled.1 fits.rest apart.1 in
      let first_few = here.few in
      let rest_few = rest.few in
      record {
        grows = grows_both numbers.items spelled.1.items last.items here.grows rest.grows;
        few = omega (arith, first_few, rest_few);
        same = λ texts more few. (
          (here.kind, here.content texts (grows_both spelled.1.items last.items texts.items rest.grows more) few),
          rest.same texts more few,
        );
      }

  module _ (starts : List StartOf) (fit : first_unfit version 0 0 (map value_of starts) ≡ None)
      (apart : AllByRecursion IsApartStart starts) where
    -- few texts are numbered
    pub starts_few : length (spelled_starts version starts).1.items ≤ 2 * MAX_ENTRIES
    starts_few =
        let fewer = (starts_spelled 0 0 starts no_numbers fit apart).few in
        let most = (limits_within version).entries in
        omega (arith, fewer, all_few version 0 0 (map value_of starts) (omega arith) fit, most)

    -- by any later tables the objects are the same
    pub starts_later : (texts : Texts) → Grows (spelled_starts version starts).1.items texts.items → length texts.items ≤ 4294967295
        → AreSameStarts starts (names_of texts) (spelled_starts version starts).0
    starts_later = (starts_spelled 0 0 starts no_numbers fit apart).same

    pub starts_same : AreSameStarts starts (names_after (spelled_starts version starts).1) (spelled_starts version starts).0
    starts_same =
        let numbers = (spelled_starts version starts).1 in
        let few = starts_few in
        starts_later (record { objects = []; items = numbers.items; reasons = numbers.reasons }) (grows_none numbers.items)
        (omega (arith, few))

pub starts_names : (starts : List StartOf) → asked.names_of (starts_data starts) ≡ map name_of starts
starts_names [] = refl
starts_names (start ∷ starts) = ap (λ names. name_of start ∷ names) (starts_names starts)
