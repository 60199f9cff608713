-- A view: what is seen of it, and what its parts keep.
use Rattle.std.proofs.Common.{◌≡◌, ℕ, ◌+◌, ◌≤◌, vec_capacity, arith, List, [], ◌∷◌, ◌++◌, length, reverse, take, drop, refl, sym, ap, ◌∙◌}
use Rattle.std.proofs.Common.{subst}
use Rattle.std.proofs.lemmas.List.{take-append-drop, length-append, length-take-le}
use Rattle.std.specs.declared.vec.Vec.{Vec}
use Rattle.std.specs.declared.alloc.Global.{Global}
use Rattle.objects.specs.declared.kind.Value.{Value}
use Rattle.objects.specs.declared.entry.Entry.{Entry}
use Rattle.objects.specs.Entries.{after, AreLegal}
use Rattle.intentions.specs.declared.view.NetList.{NetList}
use Rattle.intentions.specs.declared.view.NetList.TheVariants.{Entries, Own}
use Rattle.intentions.specs.declared.view.View.TheInside.{Inside}
use Rattle.intentions.specs.Levels.{Intentions, shown_values, all_levels, committed, listed_by, AllHaveRoom}
use Rattle.intentions.specs.Starts.{IsNested, innermost, around, at_starts}
use Rattle.intentions.specs.Layers.{States, AreLayersOf, CanList}
use Rattle.intentions.proofs.EntriesLemmas.{after-append, length-after, legal-append, room-append, legal-take, room-take}
use Rattle.intentions.proofs.LayersLemmas.{states_of}
use Rattle.intentions.proofs.StartsLemmas.{nested_more, at_starts-append, innermost_joined, around-take}

-- what is seen of a view with these parts
abbrev pub view_parts : List Value → List Entry → List Entry → List ℕ → Intentions
view_parts snapshot entries net starts = record {
  snapshot = snapshot;
  entries = entries;
  net = innermost starts net;
  outer =
      around starts net;
}

-- the parts of all levels, the outermost first, are the whole list
joined_around : (starts : List ℕ) (xs : List Entry) → all_levels (around starts xs) ++ innermost starts xs ≡ xs
joined_around [] xs = refl
joined_around (start ∷ starts) xs = ap (λ ys. ys ++ drop start xs) (joined_around starts (take start xs)) ∙ take-append-drop start xs

-- the nets of all levels, the outermost first
abbrev pub nets_of : Inside → List Entry
nets_of v = listed_by v.listed v.entries.items v.net.items

abbrev pub KeptView : Inside → Type 0
KeptView v = AreLayersOf v.snapshot.now (nets_of v) (reverse v.marks.items) v.layers × CanList v.listed v.entries.items v.net

abbrev pub view_of : Inside → Intentions
view_of v = view_parts v.snapshot.now v.entries.items (nets_of v) (reverse v.marks.items)

-- more room in the same list
pub can_list_grown : (listed : NetList) (entries : List Entry) (old new : Vec Entry Global) → CanList listed entries old
    → new.items ≡ old.items → vec_capacity old ≤ vec_capacity new → CanList listed entries new
can_list_grown Entries entries old new can is le = (is ∙ can.0, omega (arith, can.1, le))
can_list_grown Own entries old new can is le = tt

-- one more entry in a list of all, and in the list of the net if it has one
pub can_list_more : (listed : NetList) (entries : List Entry) (entry : Entry) (old new : Vec Entry Global) → CanList listed entries old
    → length (listed_by listed entries old.items) + 1 ≤ vec_capacity new
    → new.items ≡ listed_by listed old.items (old.items ++ entry ∷ []) → CanList listed (entries ++ entry ∷ []) new
can_list_more Entries entries entry old new can le is = (is ∙ can.0, rw (length-append) le)
can_list_more Own entries entry old new can le is = tt

-- the net then has one more
pub listed_more : (listed : NetList) (entries own : List Entry) (entry : Entry)
    → listed_by listed (entries ++ entry ∷ []) (listed_by listed own (own ++ entry ∷ [])) ≡ listed_by listed entries own ++ entry ∷ []
listed_more Entries entries own entry = refl
listed_more Own entries own entry = refl

-- a view shows what its layers show
pub same_shown : (inside : Inside) (v : Intentions) → view_of inside ≡ v → KeptView inside → shown_values v ≡ inside.layers.shown
same_shown inside v is kept =
    sym (ap shown_values is) ∙ ap (after inside.snapshot.now) (joined_around (reverse inside.marks.items) (nets_of inside))
    ∙ sym (ap (λ (s : States). s.shown) kept.0.shows)

pub committed_view : (snapshot : List Value) (entries net : List Entry) (start : ℕ) (starts : List ℕ) (v : Intentions)
    → view_parts snapshot entries net (start ∷ starts) ≡ v → IsNested (start ∷ starts) (length net)
    → view_parts snapshot entries net starts ≡ committed v
committed_view snapshot entries net start starts v is nested =
    let same_net = innermost_joined start starts net nested in
    let same_outer = around-take start starts net nested.1 in
    let here : view_parts snapshot entries net starts ≡ committed (view_parts snapshot entries net (start ∷ starts)) =
    cc (same_net, same_outer) in
    here ∙ ap committed is

-- more entries in the innermost level, each legal and with room
pub kept_absorbing : (snapshot : List Value) (net more new_net : List Entry) (starts : List ℕ) (layers new : States)
    → AreLayersOf snapshot net starts layers → AreLegal layers.shown more → AllHaveRoom layers.shown more
    → new.shown ≡ after layers.shown more → new.begun ≡ layers.begun → new_net ≡ net ++ more → AreLayersOf snapshot new_net starts new
kept_absorbing snapshot net more new_net starts layers new kept legal room shown_is begun_is net_is =
    let shows : layers.shown ≡ after snapshot net = ap (λ (s : States). s.shown) kept.shows in
    let shown_after : new.shown ≡ after snapshot new_net =
    shown_is ∙ ap (λ ws. after ws more) shows ∙ sym (after-append snapshot net more) ∙ ap (after snapshot) (sym net_is) in
    let begun_after : new.begun ≡ at_starts (after snapshot) starts new_net =
    begun_is ∙ ap (λ (s : States). s.begun) kept.shows ∙ sym (at_starts-append (after snapshot) starts net more kept.nested)
    ∙ ap (at_starts (after snapshot) starts) (sym net_is) in
    let longer : length net ≤ length new_net = omega (arith, ap length net_is, length-append net more) in
    record {
      shows = states_of shown_after begun_after;
      nested = nested_more starts (length net) (length new_net) kept.nested longer;
      legal = subst (AreLegal snapshot) (sym net_is)
          (legal-append snapshot net more kept.legal (subst (λ ws. AreLegal ws more) shows legal));
      room = subst (AllHaveRoom snapshot) (sym net_is)
          (room-append snapshot net more kept.room (subst (λ ws. AllHaveRoom ws more) shows room));
    }

-- the innermost level taken back
pub kept_aborting : (snapshot : List Value) (net new_net : List Entry) (start : ℕ) (starts : List ℕ) (layers new : States)
    → AreLayersOf snapshot net (start ∷ starts) layers → layers.begun ≡ new.shown ∷ new.begun → new_net ≡ take start net
    → AreLayersOf snapshot new_net starts new
kept_aborting snapshot net new_net start starts layers new kept back net_is =
    let begun_is : new.shown ∷ new.begun ≡ after snapshot (take start net) ∷ at_starts (after snapshot) starts (take start net) =
    sym back ∙ ap (λ (s : States). s.begun) kept.shows in
    let shown_after : new.shown ≡ after snapshot (take start net) = cc in
    let begun_after : new.begun ≡ at_starts (after snapshot) starts (take start net) = cc in
    subst (λ n. AreLayersOf snapshot n starts new) (sym net_is) (record {
      shows = states_of shown_after begun_after;
      nested = subst (IsNested starts) (sym (length-take-le start net kept.nested.0)) kept.nested.1;
      legal = legal-take snapshot start net kept.legal;
      room = room-take snapshot start net kept.room;
    })

-- a view shows as many objects as its snapshot has
pub length-layers : (inside : Inside) → KeptView inside → length inside.layers.shown ≡ length inside.snapshot.now
length-layers inside kept = ap (λ (s : States). length s.shown) kept.0.shows ∙ length-after inside.snapshot.now (nets_of inside)
