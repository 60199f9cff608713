-- Effects of any kind: which operations commute, by their effects, classes and items; and which are as strict, by their strengths.
use Rattle.std.proofs.Common.{◌≡◌, ◌&&◌, ℕ, Bool, true, false, nat_eq, refl, sym, ap, ◌∙◌, Option, Some, None, nat_le, arith}
use Rattle.std.proofs.lemmas.Bool.{eqb-true, and_parts, eq-eqb, le-leb}
use Rattle.std.specs.Prelude.{if◌then◌else◌}
use Rattle.atoms.specs.ItemSet.{set_effects_commute}
use Rattle.atoms.specs.Queue.{queue_effects_commute}
use Rattle.atoms.specs.Directory.{directory_effects_commute}
use Rattle.atoms.proofs.AccountLemmas.{same_account_call}
use Rattle.atoms.proofs.CounterLemmas.{same_counter_call}
use Rattle.atoms.proofs.MaxRegisterLemmas.{same_max_call}
use Rattle.atoms.specs.declared.item.Item.{Item}
use Rattle.atoms.specs.declared.item_set.SetEffect.{SetEffect}
use Rattle.atoms.specs.declared.queue.QueueEffect.{QueueEffect}
use Rattle.objects.specs.Objects.{Effect, OfSet, OfQueue, OfDirectory, effect_of, effects_commute}
use Rattle.objects.specs.declared.kind.Call.{Call}
use Rattle.objects.specs.declared.kind.Call.TheVariants as call
use Rattle.objects.specs.contracts.kind.CallPartialEq.TheImpl as call_eq
use Rattle.objects.specs.declared.kind.Reply.{Reply}
use Rattle.objects.specs.contracts.kind.ReplyPartialEq.TheImpl as reply_eq
use Rattle.objects.specs.declared.entry.Entry.{Entry}
use Rattle.objects.specs.contracts.entry.EntryPartialEq.TheImpl as entry_eq
use Rattle.objects.specs.Entries.{CommuteForward}
use Rattle.objects.proofs.KindLemmas.{entries_exact}
use Rattle.conflicts.specs.Effects.{effect_class, effect_item, effect_strength}
use Rattle.conflicts.specs.declared.classes.Class.{Class}
use Rattle.conflicts.specs.Classes.{class_of, always_commute, is_by_item}
use Rattle.conflicts.specs.Items.{operation_item, is_same_item, is_compared}
use Rattle.atoms.specs.declared.directory.DirectoryEffect.{DirectoryEffect}
use Rattle.conflicts.specs.contracts.effect.EffectKindPartialEq.TheImpl as kind_eq
use Rattle.conflicts.specs.contracts.effect.EffectKindEq.TheImpl.Laws.{laws-law}
use Rattle.conflicts.specs.declared.strength.Strength.{Strength}
use Rattle.conflicts.specs.Strictness.{IsAsStrict, AreAsStrict, EffectsAreAsStrict, strength_of, is_within, covers}

-- ---- equal entries

-- calls that `==` finds equal are
same_call : (c d : Call) → call_eq.ghosts.eq c d ≡ true → c ≡ d
same_call (call.Account c) (call.Account d) h = ap call.Account (same_account_call c d h)
same_call (call.Counter c) (call.Counter d) h = ap call.Counter (same_counter_call c d h)
same_call (call.Max c) (call.Max d) h = ap call.Max (same_max_call c d h)
same_call c d h = grind arith

-- and so are replies
same_reply : (c d : Reply) → reply_eq.ghosts.eq c d ≡ true → c ≡ d
same_reply c d h = grind arith

-- and entries
pub same_entry : (p q : Entry) → entry_eq.ghosts.eq p q ≡ true → p ≡ q
same_entry p q h =
    let parts = and_parts (nat_eq p.object q.object) (call_eq.ghosts.eq p.call q.call && reply_eq.ghosts.eq p.reply q.reply) h in
    let rest = and_parts (call_eq.ghosts.eq p.call q.call) (reply_eq.ghosts.eq p.reply q.reply) parts.1 in
    let object : p.object ≡ q.object = eqb-true p.object q.object parts.0 in
    let call : p.call ≡ q.call = same_call p.call q.call rest.0 in
    let reply : p.reply ≡ q.reply = same_reply p.reply q.reply rest.1 in
    ap (λ (o : ℕ). let made : Entry = record { object = o; call = p.call; reply = p.reply } in made) object
    ∙ ap (λ (c : Call). let made : Entry = record { object = q.object; call = c; reply = p.reply } in made) call
    ∙ ap (λ (r : Reply). let made : Entry = record { object = q.object; call = q.call; reply = r } in made) reply

-- ---- entries commute as their effects do

-- the effect of an entry
abbrev pub effect_in : Entry → Effect
effect_in e = effect_of e.call e.reply

-- entries whose effects commute where they are on one object
pub by_table : (p q : Entry) → (nat_eq p.object q.object ≡ true → effects_commute (effect_in p) (effect_in q) ≡ true) → CommuteForward p q
by_table p q h = (entries_exact p q).0 (at_object (nat_eq p.object q.object) refl)
  where
    at_object : (b : Bool) → nat_eq p.object q.object ≡ b → (if b then effects_commute (effect_in p) (effect_in q) else true) ≡ true
    at_object true e = h e
    at_object false e = refl

-- the effects of entries that commute on one object do
pub as_table : (p q : Entry) → nat_eq p.object q.object ≡ true → CommuteForward p q → effects_commute (effect_in p) (effect_in q) ≡ true
as_table p q same commutes = ap (λ b. if b then effects_commute (effect_in p) (effect_in q) else true) (sym same)
    ∙ (entries_exact p q).1 commutes

-- ---- effects of classes that always commute

by_class : (e f : Effect) → always_commute (effect_class e) (effect_class f) ≡ true → effects_commute e f ≡ true
by_class e f h = grind arith

-- entries of classes that always commute
pub always_commutes : (p q : Entry) → always_commute (class_of p.call p.reply) (class_of q.call q.reply) ≡ true → CommuteForward p q
always_commutes p q h = by_table p q (λ _. by_class (effect_in p) (effect_in q) h)

-- ---- effects on different items

apart : (e f : Effect) (x y : Item) → effect_item e ≡ Some x → effect_item f ≡ Some y → nat_eq x.0 y.0 ≡ false → effects_commute e f ≡ true
apart e f x y of_e of_f h = grind arith

-- of a class that is compared by item, an effect on none
no_item : (e f : Effect) (x : Item) → effect_item e ≡ Some x → effect_item f ≡ None → is_by_item (effect_class f) ≡ true
    → effects_commute e f ≡ true
no_item e f x of_e of_f h = grind arith

-- two effects where the second is of a class that is compared by item, and hasn't the first one's item
other_item : (e f : Effect) (b : Bool) (i j : Option Item) → is_by_item (effect_class f) ≡ b → effect_item e ≡ i → effect_item f ≡ j
    → is_same_item (if b then i else None) j ≡ false → effects_commute e f ≡ true
other_item e f true (Some x) (Some y) by_item of_e of_f h = apart e f x y of_e of_f h
other_item e f true (Some x) None by_item of_e of_f h = no_item e f x of_e of_f by_item
other_item e f true None j by_item of_e of_f h = cc
other_item e f false i j by_item of_e of_f h = cc

-- an entry that isn't compared with another commutes with it
pub elsewhere : (p q : Entry) → is_compared p q ≡ false → CommuteForward p q
elsewhere p q h = by_table p q (λ same. other_item (effect_in p) (effect_in q) (is_by_item class) (operation_item p.call p.reply)
    (operation_item q.call q.reply)
    refl refl refl (sym (one_object (nat_eq q.object p.object) (is_same_item wanted (operation_item q.call q.reply))
    (eq-eqb q.object p.object (sym (eqb-true p.object q.object same)))) ∙ h))
  where
    class : Class
    class = class_of q.call q.reply

    wanted : Option Item
    wanted = if is_by_item class then operation_item p.call p.reply else None

    one_object : (a b : Bool) → a ≡ true → (a && b) ≡ b
    one_object a b h = rw h refl

-- ---- the effects of any kind

-- effects of one kind are as strict among all as they are among their own: of sets
pub sets_strict : (e f g : SetEffect) → EffectsAreAsStrict set_effects_commute e f g
    → EffectsAreAsStrict effects_commute (OfSet e) (OfSet f) (OfSet g)
sets_strict e f g strict (OfSet x) first second = strict x first second
sets_strict e f g strict x first second = refl

-- of queues
pub queues_strict : (e f g : QueueEffect) → EffectsAreAsStrict queue_effects_commute e f g
    → EffectsAreAsStrict effects_commute (OfQueue e) (OfQueue f) (OfQueue g)
queues_strict e f g strict (OfQueue x) first second = strict x first second
queues_strict e f g strict x first second = refl

-- of directories
pub directories_strict : (e f g : DirectoryEffect) → EffectsAreAsStrict directory_effects_commute e f g
    → EffectsAreAsStrict effects_commute (OfDirectory e) (OfDirectory f) (OfDirectory g)
directories_strict e f g strict (OfDirectory x) first second = strict x first second
directories_strict e f g strict x first second = refl

-- an effect is as strict as one of its kind that its strength has in its range
effect_within : (e f : Effect) → kind_eq.ghosts.eq (effect_strength 0 e).kind (effect_strength 0 f).kind ≡ true
    → is_within (effect_strength 0 e) (effect_strength 0 f) ≡ true → EffectsAreAsStrict effects_commute e e f
effect_within (OfDirectory e) (OfDirectory f) same h = λ x first second. grind arith
effect_within e f same h = λ x first second. grind arith

-- of equal effects the same holds
pub as_effects : {E : Type 0} (commute : E → E → Bool) {e f g e2 f2 g2 : E} → e ≡ e2 → f ≡ f2 → g ≡ g2 → EffectsAreAsStrict commute e f g
    → EffectsAreAsStrict commute e2 f2 g2
as_effects commute e-is f-is g-is strict x first second = sym (ap (commute x) g-is) ∙ strict x (ap (commute x) e-is ∙ first)
    (ap (commute x) f-is ∙ second)

-- the effect of a call and a reply that are equal to these
pub as_effect : {e : Effect} {c k : Call} {r u : Reply} → c ≡ k → r ≡ u → e ≡ effect_of k u → e ≡ effect_of c r
as_effect {e} {c} {k} {r} {u} c-is r-is e-is = e-is ∙ sym (ap (λ x. effect_of x r) c-is ∙ ap (effect_of k) r-is)

-- ---- entries

-- entries on one object whose effects are together as strict as a third's
pub strict_together : (p q t : Entry) → p.object ≡ t.object → q.object ≡ t.object
    → EffectsAreAsStrict effects_commute (effect_in p) (effect_in q) (effect_in t) → AreAsStrict p q t
strict_together p q t first second strict e with_first with_second = by_table e t (λ same. strict (effect_in e)
    (as_table e p (ap (nat_eq e.object) first ∙ same) with_first) (as_table e q (ap (nat_eq e.object) second ∙ same) with_second))

-- a strength has the entry's object, and the rest doesn't depend on it
object_told : (o : ℕ) (e : Effect) → effect_strength o e
    ≡ (let s = effect_strength 0 e in
    record { object = o; kind = s.kind; variant = s.variant; item = s.item; least = s.least; most = s.most })
object_told o e = grind arith

-- what covers, on one object
covers_parts : (p q : Entry) → covers (strength_of p) (strength_of q) ≡ (nat_eq p.object q.object
    && (kind_eq.ghosts.eq (effect_strength 0 (effect_in p)).kind (effect_strength 0 (effect_in q)).kind
    && is_within (effect_strength 0 (effect_in p)) (effect_strength 0 (effect_in q))))
covers_parts p q = ap (λ s. covers s (strength_of q)) (object_told p.object (effect_in p))
    ∙ ap (covers _) (object_told q.object (effect_in q))

-- an entry is as strict as one that its strength covers
covers_strict : (p q : Entry) → covers (strength_of p) (strength_of q) ≡ true → IsAsStrict p q
covers_strict p q h e commutes =
    let parts = and_parts (nat_eq p.object q.object) _ (sym (covers_parts p q) ∙ h) in
    let rest = and_parts (kind_eq.ghosts.eq (effect_strength 0 (effect_in p)).kind (effect_strength 0 (effect_in q)).kind) _ parts.1 in
    let same : p.object ≡ q.object = eqb-true p.object q.object parts.0 in
    strict_together p p q same same (effect_within (effect_in p) (effect_in q) rest.0 rest.1) e commutes commutes

-- the same of strengths that were made of the entries
pub given_strict : (p q : Entry) (s t : Strength) → s ≡ strength_of p → t ≡ strength_of q → covers s t ≡ true → IsAsStrict p q
given_strict p q s t of_p of_q h = covers_strict p q (ap (λ u. covers u (strength_of q)) (sym of_p) ∙ ap (covers s) (sym of_q) ∙ h)

-- each covers itself: of two equal entries the first is found to be as strict
pub covers_itself : (s : Strength) → covers s s ≡ true
covers_itself s = all (nat_eq s.object s.object) _ (eq-eqb s.object s.object refl)
    (all (kind_eq.ghosts.eq s.kind s.kind) _ (laws-law.refl s.kind)
    (all (nat_eq s.variant s.variant) _ (eq-eqb s.variant s.variant refl) (all (nat_eq s.item s.item) _ (eq-eqb s.item s.item refl)
    (all (nat_le s.least s.least) _ (le-leb s.least s.least (omega arith)) (le-leb s.most s.most (omega arith))))))
  where
    all : (a b : Bool) → a ≡ true → b ≡ true → (a && b) ≡ true
    all a b first second = ap (λ x. x && b) first ∙ second
