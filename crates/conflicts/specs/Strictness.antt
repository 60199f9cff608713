-- Which of two entries commutes forward with less.
use Rattle.std.specs.Prelude.{◌&&◌, ◌==◌, Bool, nat_le, if◌then◌else◌, IsTrue}
use Rattle.objects.specs.declared.entry.Entry.{Entry}
use Rattle.objects.specs.Entries.{CommuteForward}
use Rattle.objects.specs.Objects.{effect_of}
use Rattle.conflicts.specs.Effects.{effect_strength}
use Rattle.conflicts.specs.contracts.effect.EffectKindPartialEq.TheImpl as kind_eq
use Rattle.conflicts.specs.declared.strength.Strength.{Strength}
use Rattle.conflicts.specs.declared.strength.Topic.{Topic}

-- what commutes forward with the first commutes forward with the second
abbrev pub IsAsStrict : Entry → Entry → Type 0
IsAsStrict first second = (e : Entry) → CommuteForward e first → CommuteForward e second

-- what commutes forward with the first and the second commutes forward with the third
abbrev pub AreAsStrict : Entry → Entry → Entry → Type 0
AreAsStrict first second third = (e : Entry) → CommuteForward e first → CommuteForward e second → CommuteForward e third

-- of effects, by their table: what commutes with the first and the second commutes with the third
abbrev pub EffectsAreAsStrict : {Effect : Type 0} → (Effect → Effect → Bool) → Effect → Effect → Effect → Type 0
EffectsAreAsStrict {Effect} commute first second third = (e : Effect) → IsTrue (commute e first) → IsTrue (commute e second)
    → IsTrue (commute e third)

-- the strength of an entry
abbrev pub strength_of : Entry → Strength
strength_of e = effect_strength e.object (effect_of e.call e.reply)

-- of two on objects of one kind: the effect and the item are the same, and the range has all of the other's
abbrev pub is_within : Strength → Strength → Bool
is_within s t = s.variant == t.variant && (s.item == t.item && (nat_le s.least t.least && nat_le t.most s.most))

abbrev pub covers : Strength → Strength → Bool
covers s t = s.object == t.object && (kind_eq.ghosts.eq s.kind t.kind && is_within s t)

-- what an entry of the strength is about: its object and its item, or its object and effect where it is about no item
abbrev pub topic_of : Strength → Topic
topic_of s = record { object = s.object; item = s.item; variant = if s.item == 0 then s.variant else 0 }
