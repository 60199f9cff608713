-- The first rule that a value doesn't keep, seen from the value that it is in.
use Rattle.std.proofs.Common.{◌≡◌, ◌≢◌, ℕ, ◌<◌, ◌^◌, List, ◌++◌, Some, Result, Ok, Err, decimal, inl, inr, string_bytes, sym, ap, ap₂, ◌∙◌}
use Rattle.std.specs.Prelude.{codes, unwrap_or}
use Rattle.serde_json.specs.Data.{Data, Items, array, null}
use Rattle.serde_json.specs.Find.{get_item, pointer as points_to}
use Rattle.serde_json.specs.View.{view}
use Rattle.doc_rules.specs.declared.failure.Failure.{Failure}
use Rattle.doc_rules.specs.declared.failure.Failure.TheVariants.{Broken, NoMemory}
use Rattle.doc_tree.specs.declared.counts.Counts.{Counts}
use Rattle.doc_tree.specs.declared.unmet.Unmet.{Unmet}
use Rattle.doc_tree.specs.Answer.{IsFound, found_of, pointer_text}
use Rattle.doc_tree.specs.Demand.{check}
use Rattle.doc_tree.specs.Places.{Found, Placed, PathStep, below, found_here, found_inside, go_on, here, inside, item_at, itself, nothing}
use Rattle.doc_tree.specs.Places.{seek, token_text}
use Rattle.lang.specs.declared.misread.Misread.{Misread}
use Rattle.lang.specs.Found.{IsBelow, IsFirstIn, found_by, part_at}
use Rattle.lang.proofs.PointerLemmas.{IsPath, item_pointed}

-- ---- what is found has a pointer

own_path : (r : Result Counts Failure) (f : Counts → Result Counts Found) (found : Found)
    → ((next : Counts) → f next ≡ Err found → IsPath found.pointer) → go_on (here r) f ≡ Err found → IsPath found.pointer
own_path (Ok next) f found later is = later next is
own_path (Err failure) f found later is = let same : found_here failure ≡ found = cc in inl (sym (ap (λ x. x.pointer) same))

part_path : (token : PathStep) (r : Result Counts Found) (f : Counts → Result Counts Found) (found : Found)
    → ((next : Counts) → f next ≡ Err found → IsPath found.pointer) → go_on (below token r) f ≡ Err found → IsPath found.pointer
part_path token (Ok next) f found later is = later next is
part_path token (Err inner) f found later is =
    let same : found_inside token inner ≡ found = cc in inr (token_text token ++ inner.pointer, sym (ap (λ x. x.pointer) same))

found_path : (asked : Placed) (c : Counts) (found : Found) → seek c asked ≡ Err found → IsPath found.pointer
found_path nothing c found is = let never : Ok c ≡ Err found = is in cc
found_path (itself ds rest) c found is =
    own_path (check c ds) (λ next. seek next rest) found (λ next later. found_path rest next found later) is
found_path (inside token part rest) c found is =
    part_path token (seek c part) (λ next. seek next rest) found (λ next later. found_path rest next found later) is

-- ---- what is found in a part

-- the first rule that isn't kept in a value to which a token leads, seen from the value before it
pub first_below : (token : PathStep) (whole d : Data)
    → ((p : List ℕ) → IsPath p → points_to (codes "/" ++ token_text token ++ p) whole ≡ points_to p d)
    → (c start : Counts) (asked all : Placed) (inner outer : Misread)
    → ((found : Found) → seek c asked ≡ Err found → seek start all ≡ Err (found_inside token found))
    → IsFirstIn c asked d inner → IsBelow (token_text token) inner outer → IsFirstIn start all whole outer
first_below token whole d led c start asked all inner outer goes first seen =
    let make : Failure → List ℕ → Found = λ f p. record { failure = f; pointer = p } in
    let same : found_inside token (found_by inner) ≡ found_by outer =
    ap₂ make (ap₂ Broken (sym seen.rule) (sym seen.transaction)) (sym seen.pointer) in
    let path = found_path asked c (found_by inner) first.0 in
    let parts = ap (λ p. points_to p whole) seen.pointer ∙ led (string_bytes inner.pointer) path in (
      goes (found_by inner) first.0 ∙ ap (λ found. Err found) same,
      seen.part ∙ first.1 ∙ sym (ap (λ o. unwrap_or o null) parts),
    )

-- the same of an item of an array
pub item_first : (ds : Items) (i : ℕ) (d : Data) → i < 2 ^ 64 → get_item i ds ≡ Some d
    → (c start : Counts) (asked all : Placed) (inner outer : Misread)
    → ((found : Found) → seek c asked ≡ Err found → seek start all ≡ Err (found_inside (item_at i) found))
    → IsFirstIn c asked d inner → IsBelow (decimal i) inner outer → IsFirstIn start all (array ds) outer
item_first ds i d small there c start asked all inner outer goes first seen =
    first_below (item_at i) (array ds) d (item_pointed ds i d small there) c start asked all inner outer goes first seen

-- a demand that isn't met, with its part
pub misread_first : (c : Counts) (asked : Placed) (d : Data) (unmet : Unmet) (misread : Misread) → IsFound c asked unmet
    → unmet.failure ≢ NoMemory → found_by misread ≡ found_of unmet → view misread.part ≡ part_at (pointer_text unmet.pointer) d
    → IsFirstIn c asked d misread
misread_first c asked d unmet misread found other same part =
    (found other ∙ ap (λ found. Err found) (sym same), part ∙ ap (λ (x : Found). part_at x.pointer d) (sym same))
