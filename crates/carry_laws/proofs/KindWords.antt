-- The words of kinds, and those of their verbs in each version.
use Rattle.std.proofs.Common.{◌≡◌, ℕ, zero, suc, ◌≤◌, ◌&&◌, Bool, true, false, cond, List, Option, None, Some, refl, arith}
use Rattle.std.specs.Prelude.{codes}
use Rattle.std.specs.Str.{bytes_eq}
use Rattle.objects.specs.declared.kind.Kind.{Kind}
use Rattle.objects.specs.declared.kind.Kind.TheVariants as kind
use Rattle.vocabulary.specs.Words.{kind_of_text, kind_text, verb_of_text}
use Rattle.vocabulary.specs.declared.verb.ItemVerb.TheVariants.{Enq}
use Rattle.vocabulary.specs.declared.verb.LoneVerb.TheVariants.{Deq, Length}
use Rattle.vocabulary.specs.declared.verb.Verb.{Verb}
use Rattle.vocabulary.specs.declared.verb.Verb.TheVariants.{OfItem, Alone}
use Rattle.batch.specs.Names.{is_name}
use Rattle.doc_rules.specs.declared.limits.TheConstants.{LAST_VERSION}
use Rattle.carry.specs.declared.document.TheConstants.{FIRST_CARRIED}
use Rattle.carry_laws.specs.Carrying.{IsCarriedVersion}
use Rattle.carry_laws.proofs.Versions.{each_version}

-- ---- kinds

-- the word of a kind is a name of the first version
pub kind_named : (k : Kind) → is_name 1 (kind_text k) ≡ true
unfolding is_name
kind_named kind.Account = refl
kind_named k = refl

kind_of_4 : (k : Kind) → kind_of_text 4 (kind_text k) ≡ Some k
unfolding kind_of_text
kind_of_4 kind.Account = refl
kind_of_4 k = refl

kind_of_5 : (k : Kind) → kind_of_text 5 (kind_text k) ≡ Some k
unfolding kind_of_text
kind_of_5 kind.Account = refl
kind_of_5 k = refl

-- the word of a kind names it in each version that objects are carried into
pub kind_back : (version : ℕ) → IsCarriedVersion version → (k : Kind) → kind_of_text version (kind_text k) ≡ Some k
kind_back = each_version (λ v. (k : Kind) → kind_of_text v (kind_text k) ≡ Some k) kind_of_4 kind_of_5

-- ---- verbs

-- the verb of a queue that one of three tests finds
abbrev queue_verb : Bool → Bool → Bool → Option Verb
queue_verb a b c = cond (a && true) (Some (OfItem Enq)) (cond (b && true) (Some (Alone Deq)) (cond c (Some (Alone Length)) None))

-- the verbs of a version are those of the first that objects are carried into
pub verbs_before : (version : ℕ) → 1 ≤ version → version ≤ FIRST_CARRIED → (k : Kind) (word : List ℕ) (v : Verb)
    → verb_of_text version k word ≡ Some v → verb_of_text FIRST_CARRIED k word ≡ Some v
unfolding verb_of_text
verbs_before zero above below k word v is = absurd (omega arith)
verbs_before (suc zero) above below kind.Queue word v is =
    by (bytes_eq (codes "enq") word) (bytes_eq (codes "deq") word) (bytes_eq (codes "length") word) is
  where
    by : (a b c : Bool) → queue_verb a b (c && false) ≡ Some v → queue_verb a b (c && true) ≡ Some v
    by true b c h = h
    by false true c h = h
    by false false true h = cc
    by false false false h = cc
verbs_before (suc zero) above below k word v is = is
verbs_before (suc (suc zero)) above below k word v is = since_two k is
  where
    since_two : (k : Kind) → verb_of_text 2 k word ≡ Some v → verb_of_text FIRST_CARRIED k word ≡ Some v
    since_two kind.Account h = h
    since_two k h = h
verbs_before (suc (suc (suc zero))) above below k word v is = since_three k is
  where
    since_three : (k : Kind) → verb_of_text 3 k word ≡ Some v → verb_of_text FIRST_CARRIED k word ≡ Some v
    since_three kind.Account h = h
    since_three k h = h
verbs_before (suc (suc (suc (suc zero)))) above below k word v is = is
verbs_before (suc (suc (suc (suc (suc n))))) above below k word v is = absurd (omega arith)

-- these are those of the last
last_verbs : (k : Kind) (word : List ℕ) → verb_of_text LAST_VERSION k word ≡ verb_of_text FIRST_CARRIED k word
unfolding verb_of_text
last_verbs kind.Account word = refl
last_verbs k word = refl

-- and so of each that objects are carried into
pub carried_verbs : (version : ℕ) → IsCarriedVersion version → (k : Kind) (word : List ℕ)
    → verb_of_text version k word ≡ verb_of_text FIRST_CARRIED k word
carried_verbs = each_version (λ v. (k : Kind) (word : List ℕ) → verb_of_text v k word ≡ verb_of_text FIRST_CARRIED k word)
    (λ k word. refl) last_verbs
