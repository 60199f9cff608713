-- Lists of entries: what they leave, which are legal and which have room.
use Rattle.std.proofs.Common.{◌≡◌, ℕ, zero, suc, ◌+◌, ◌<◌, arith, List, [], ◌∷◌, ◌++◌, length, take, drop, refl, sym, ap, ◌∙◌, subst}
use Rattle.std.proofs.Common.{Some, None, get_or}
use Rattle.std.proofs.lemmas.List.{drop_more}
use Rattle.std.specs.Prelude.{slice_get}
use Rattle.objects.specs.Objects.{objects, one_value, kind_of_value, kind_of_call, Fits, ObjectHasRoom}
use Rattle.objects.specs.declared.kind.Value.{Value}
use Rattle.objects.specs.declared.kind.Call.{Call}
use Rattle.objects.specs.declared.kind.Reply.{Reply}
use Rattle.objects.specs.declared.entry.Entry.{Entry}
use Rattle.objects.specs.Entries.{State, kinds, reply_at, after, AreLegal}
use Rattle.intentions.specs.Levels.{AllHaveRoom}
use Rattle.objects.proofs.KindLemmas.{kinds_agree}
pub use Rattle.objects.proofs.ListLemmas.{after-append, length-after}

pub legal-append : (values : List Value) (xs ys : List Entry) → AreLegal values xs → AreLegal (after values xs) ys
    → AreLegal values (xs ++ ys)
legal-append values [] ys h k = k
legal-append values (x ∷ xs) ys h k = (h.0, legal-append (objects.after values (x.object, x.call)) xs ys h.1 k)

pub room-append : (values : List Value) (xs ys : List Entry) → AllHaveRoom values xs → AllHaveRoom (after values xs) ys
    → AllHaveRoom values (xs ++ ys)
room-append values [] ys h k = k
room-append values (x ∷ xs) ys h k = (h.0, room-append (objects.after values (x.object, x.call)) xs ys h.1 k)

pub legal-take : (values : List Value) (n : ℕ) (xs : List Entry) → AreLegal values xs → AreLegal values (take n xs)
legal-take values zero xs h = tt
legal-take values (suc n) [] h = tt
legal-take values (suc n) (x ∷ xs) h = (h.0, legal-take (objects.after values (x.object, x.call)) n xs h.1)

pub room-take : (values : List Value) (n : ℕ) (xs : List Entry) → AllHaveRoom values xs → AllHaveRoom values (take n xs)
room-take values zero xs h = tt
room-take values (suc n) [] h = tt
room-take values (suc n) (x ∷ xs) h = (h.0, room-take (objects.after values (x.object, x.call)) n xs h.1)

-- a call whose reply an entry has fits
pub legal-fits : (values : List Value) (object : ℕ) (c : Call) (r : Reply) → objects.reply values (object, c) ≡ Some r
    → Fits values object c
legal-fits [] object c r h = cc
legal-fits (v ∷ values) zero c r h = kinds_agree v c r h
legal-fits (v ∷ values) (suc object) c r h = legal-fits values object c r h

-- a value has a reply to each call of its kind
value_fits : (v : Value) (c : Call) → one_value.reply v c ≡ None → kind_of_value v ≡ kind_of_call c → ⊥
value_fits v c misfit same = grind arith

-- so has an object
pub fitting_replies : (state : State) (object : ℕ) (c : Call) → reply_at state object c ≡ None
    → slice_get (kinds state) object ≡ Some (kind_of_call c) → ⊥
fitting_replies [] object c misfit fits = cc
fitting_replies (v ∷ vs) zero c misfit fits = value_fits v c misfit cc
fitting_replies (v ∷ vs) (suc object) c misfit fits = fitting_replies vs object c misfit fits

pub get-past : {A : Type 0} (xs : List A) (i : ℕ) → i < length xs → slice_get xs i ≡ None → ⊥
get-past [] i h e = absurd (omega arith)
get-past (x ∷ xs) zero h e = cc
get-past (x ∷ xs) (suc i) h e = get-past xs i (omega arith) e

pub get_or-found : {A : Type 0} (xs : List A) (i : ℕ) (x : A) → slice_get xs i ≡ Some x → get_or xs i x ≡ x
get_or-found [] i x e = refl
get_or-found (y ∷ xs) zero x e = cc
get_or-found (y ∷ xs) (suc i) x e = get_or-found xs i x e

-- the first of the entries that are left
pub record NextEntry (values : List Value) (rest : List Entry) (e : Entry) (more : List Entry) : Type 0 where
  pub legal : objects.reply values (e.object, e.call) ≡ Some e.reply
  pub room : ObjectHasRoom values e.object e.call
  pub rest_legal : AreLegal (objects.after values (e.object, e.call)) more
  pub rest_room : AllHaveRoom (objects.after values (e.object, e.call)) more
  pub leads : after values rest ≡ after (objects.after values (e.object, e.call)) more

pub next_entry : (values : List Value) (entries : List Entry) (i : ℕ) (e : Entry) → i < length entries → e ≡ get_or entries i e
    → AreLegal values (drop i entries) → AllHaveRoom values (drop i entries) → NextEntry values (drop i entries) e (drop (i + 1) entries)
next_entry values entries i e h at legal room =
    let is : drop i entries ≡ e ∷ drop (i + 1) entries = drop_more entries i e h ∙ ap (λ x. x ∷ drop (i + 1) entries) (sym at) in
    let all_legal : AreLegal values (e ∷ drop (i + 1) entries) = subst (AreLegal values) is legal in
    let all_room : AllHaveRoom values (e ∷ drop (i + 1) entries) = subst (AllHaveRoom values) is room in
    record { legal = all_legal.0; room = all_room.0; rest_legal = all_legal.1; rest_room = all_room.1; leads = ap (after values) is }
