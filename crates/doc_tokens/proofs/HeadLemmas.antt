-- A document whose members come in one of the two common orders.
use Rattle.std.proofs.Common.{◌≡◌, ◌≤◌, ℕ, Bool, true, false, List, ◌∷◌, ◌++◌, Some, refl, sym, ap, subst, ◌∙◌, arith}
use Rattle.std.specs.Prelude.{codes}
use Rattle.json.specs.Token.{Token}
use Rattle.serde_json.specs.Data.{Items, Members, Num, array, no_members, number, object, put, unsigned}
use Rattle.serde_json.specs.Read.{number_of}
use Rattle.doc_cuts.specs.Whole.{is_left}
use Rattle.doc_rules.specs.declared.limits.TheConstants.{LAST_VERSION}
use Rattle.doc_tokens.specs.Heads.{Closes, Opens}
use Rattle.doc_tokens.specs.Pulled.{ReadsItems, ReadsMembers, ReadsValue, in_order}
use Rattle.doc_tokens.specs.declared.head.Order.{Order}
use Rattle.doc_tokens.specs.declared.head.Order.TheVariants.{VersionFirst, ObjectsFirst}
use Rattle.doc_tokens.proofs.LongerLemmas.{items_left, items_longer}
use Rattle.doc_tokens.proofs.PulledLemmas.{reads_array, reads_member, reads_no_members, reads_number, reads_object}

-- a member that is a list, before others
list_member : (found : Members) (name : List ℕ) (inside mid rest : List Token) (ds : Items) (ms : Members) → ReadsItems 125 inside ds mid
    → ReadsMembers 126 (put name (array ds) found) mid ms rest
    → ReadsMembers 126 found (Token.key name ∷ Token.begin_array ∷ inside) ms rest
list_member found name inside mid rest ds ms reads more =
    let named = Token.begin_array ∷ inside in
    reads_member 126 found name (Token.key name ∷ named) named mid rest (array ds) ms refl (omega arith)
    (reads_array 125 inside ds mid reads) more

-- a member that is a number, before others
number_member : (found : Members) (name s : List ℕ) (mid rest : List Token) (x : Num) (ms : Members) → number_of s ≡ Some x
    → ReadsMembers 126 (put name (number x) found) mid ms rest
    → ReadsMembers 126 found (Token.key name ∷ Token.number s ∷ mid) ms rest
number_member found name s mid rest x ms is more =
    let named = Token.number s ∷ mid in
    reads_member 126 found name (Token.key name ∷ named) named mid rest (number x) ms refl (omega arith) (reads_number 126 s x mid is) more

module _ (version : ℕ) (old r2 r3 r4 : List Token) (os : Items) where
  -- its version is one that there is
  pub head_known : (order : Order) → Opens version order old r2 → Closes version order r3 r4 → (1 ≤ version) × (version ≤ LAST_VERSION)
  head_known VersionFirst opens closes = (opens.2.1, opens.2.2)
  head_known ObjectsFirst opens closes = (closes.2.1, closes.2.2)

  -- its transactions and its end make it whole
  pub head_read : (order : Order) → Opens version order old r2 → ReadsItems 125 r2 os r3 → Closes version order r3 r4
      → (later inside : List Token) (ts : Items) (rest : List Token) → r4 ++ later ≡ Token.begin_array ∷ inside
      → ReadsItems 125 inside ts (Token.end_object ∷ rest) → ReadsValue 127 (old ++ later) (in_order version os ts) rest
  head_read VersionFirst opens reads closes later inside ts rest is more =
      let v = number (unsigned version) in
      let m1 = put (codes "ordtx") v no_members in
      let m2 = put (codes "objects") (array os) m1 in
      let m3 = put (codes "transactions") (array ts) m2 in
      let s = opens.0 in
      let after : r3 ++ later ≡ Token.key (codes "transactions") ∷ Token.begin_array ∷ inside =
      ap (λ l. l ++ later) closes ∙ ap (λ l. Token.key (codes "transactions") ∷ l) is in
      let last = list_member m2 (codes "transactions") inside (Token.end_object ∷ rest) rest ts m3 more
      (reads_no_members 126 m3 (Token.end_object ∷ rest) rest refl) in
      let objects = list_member m1 (codes "objects") (r2 ++ later) (r3 ++ later) rest os m3 (items_longer 125 r2 r3 later os reads)
      (subst (λ l. ReadsMembers 126 m2 l m3 rest) (sym after) last) in
      subst (λ l. ReadsValue 127 (l ++ later) (object m3) rest) (sym opens.1)
      (reads_object 126 _ m3 rest (number_member no_members (codes "ordtx") s _ rest (unsigned version) m3 opens.2.0 objects))
  head_read ObjectsFirst opens reads closes later inside ts rest is more =
      let v = number (unsigned version) in
      let m1 = put (codes "objects") (array os) no_members in
      let m2 = put (codes "ordtx") v m1 in
      let m3 = put (codes "transactions") (array ts) m2 in
      let s = closes.0 in
      let after : r3 ++ later ≡ Token.key (codes "ordtx") ∷ Token.number s ∷ Token.key (codes "transactions") ∷ Token.begin_array ∷ inside =
      ap (λ l. l ++ later) closes.1
      ∙ ap (λ l. Token.key (codes "ordtx") ∷ Token.number s ∷ Token.key (codes "transactions") ∷ l) is in
      let last = list_member m2 (codes "transactions") inside (Token.end_object ∷ rest) rest ts m3 more
      (reads_no_members 126 m3 (Token.end_object ∷ rest) rest refl) in
      let then = number_member m1 (codes "ordtx") s _ rest (unsigned version) m3 closes.2.0 last in
      subst (λ l. ReadsValue 127 (l ++ later) (object m3) rest) (sym opens)
      (reads_object 126 _ m3 rest (list_member no_members (codes "objects") (r2 ++ later) (r3 ++ later) rest os m3
      (items_longer 125 r2 r3 later os reads) (subst (λ l. ReadsMembers 126 m1 l m3 rest) (sym after) then)))

  -- what is left after it says what is left before
  pub head_left : (order : Order) → Opens version order old r2 → ReadsItems 125 r2 os r3 → Closes version order r3 r4
      → (v : Bool) → is_left v false r4 ≡ true → is_left v false old ≡ true
  unfolding is_left
  head_left VersionFirst opens reads closes v left =
      ap (is_left v false) opens.1 ∙ items_left 125 r2 r3 os reads v (ap (is_left v true) closes ∙ left) false
  head_left ObjectsFirst opens reads closes v left =
      ap (is_left v false) opens ∙ items_left 125 r2 r3 os reads v (ap (is_left v true) closes.1 ∙ left) false
