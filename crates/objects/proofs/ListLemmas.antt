-- Lists of entries: where they lead, which are legal and have room, and which commute.
use Rattle.std.proofs.Common.{◌≡◌, ℕ, List, [], ◌∷◌, ◌++◌, length, Option, Some, None, refl, ◌∙◌}
use Rattle.std.specs.Prelude.{slice_get}
use Rattle.std.proofs.lemmas.List.{length-set}
use Rattle.serial.specs.Places.{after_found}
use Rattle.objects.specs.declared.entry.Entry.{Entry}
use Rattle.objects.specs.declared.kind.Value.{Value}
use Rattle.objects.specs.declared.kind.Call.{Call}
use Rattle.objects.specs.Objects.{one_value}
use Rattle.objects.specs.Entries.{State, after_call, after, AreLegal, AllHaveRoom, AllCommute}

-- entries lead where the first of them and then the others lead
pub after-append : (state : State) (ps qs : List Entry) → after state (ps ++ qs) ≡ after (after state ps) qs
after-append state [] qs = refl
after-append state (p ∷ ps) qs = after-append (after_call state p.object p.call) ps qs

-- where two lists are legal one after the other, each is
pub legal_parts : (state : State) (ps qs : List Entry) → AreLegal state (ps ++ qs) → AreLegal state ps × AreLegal (after state ps) qs
legal_parts state [] qs h = (tt, h)
legal_parts state (p ∷ ps) qs h = let rest = legal_parts (after_call state p.object p.call) ps qs h.1 in ((h.0, rest.0), rest.1)

-- where two lists have room one after the other, each has
pub room_parts : (state : State) (ps qs : List Entry) → AllHaveRoom state (ps ++ qs)
    → AllHaveRoom state ps × AllHaveRoom (after state ps) qs
room_parts state [] qs h = (tt, h)
room_parts state (p ∷ ps) qs h = let rest = room_parts (after_call state p.object p.call) ps qs h.1 in ((h.0, rest.0), rest.1)

-- a call changes no number of objects
length-found : (state : State) (object : ℕ) (call : Call) (o : Option Value)
    → length (after_found one_value state object call o) ≡ length state
length-found state object call None = refl
length-found state object call (Some v) = length-set state object (one_value.after v call)

-- entries change no number of objects
pub length-after : (state : State) (ps : List Entry) → length (after state ps) ≡ length state
length-after state [] = refl
length-after state (p ∷ ps) =
    length-after (after_call state p.object p.call) ps ∙ length-found state p.object p.call (slice_get state p.object)

-- every list commutes with one of no entries
pub all_commute_none : (ps : List Entry) → AllCommute ps []
all_commute_none [] = tt
all_commute_none (p ∷ ps) = (tt, all_commute_none ps)
