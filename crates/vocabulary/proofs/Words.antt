-- Words, verbs and their calls: each word is listed, a call is said with its verb, a kind's verbs have its calls, and a call adds no items
-- but those it is said with. And which replies have an item.
use Rattle.std.proofs.Common.{◌≡◌, ℕ, suc, ◌⊎◌, inl, inr, Bool, true, false, not, cond, List, [], ◌∷◌, Some, None, refl, sym, ap, subst}
use Rattle.std.proofs.Common.{◌∙◌, arith}
use Rattle.std.specs.Prelude.{is_some, ⊤}
use Rattle.std.specs.Ordering.{eq_by_cmp}
use Rattle.std.proofs.lemmas.Bool.{and_parts, or_cases}
use Rattle.std.proofs.lemmas.List.Elements.{All-push}
use Rattle.std.specs.FinSet as finite_set
use Rattle.std.specs.FinMap as finite_map
use Rattle.std.specs.List.{All, find}
use Rattle.atoms.specs.Item.{item_cmp}
use Rattle.atoms.specs.ItemSet.{Sets, set_after}
use Rattle.atoms.specs.Queue.{queue_after}
use Rattle.atoms.specs.Directory.{Directories, directory_after}
use Rattle.atoms.specs.declared.item.Item.{Item}
use Rattle.atoms.specs.declared.item_set.SetCall.{SetCall}
use Rattle.atoms.specs.declared.item_set.SetCall.TheVariants as set
use Rattle.atoms.specs.declared.queue.QueueCall.{QueueCall}
use Rattle.atoms.specs.declared.queue.QueueCall.TheVariants as queue
use Rattle.atoms.specs.declared.directory.DirectoryCall.{DirectoryCall}
use Rattle.atoms.specs.declared.directory.DirectoryCall.TheVariants as directory
use Rattle.atoms.specs.declared.queue.QueueReply.TheVariants as queue_reply
use Rattle.atoms.specs.declared.directory.DirectoryReply.TheVariants as directory_reply
use Rattle.atoms.proofs.Items.{alike_is, items_total}
use Rattle.atoms.specs.declared.amount.Amount.{Amount}
use Rattle.objects.specs.Objects.{kind_of_call}
use Rattle.objects.specs.declared.kind.Call.{Call}
use Rattle.objects.specs.declared.kind.Call.TheVariants as call
use Rattle.objects.specs.declared.kind.Reply.{Reply}
use Rattle.objects.specs.declared.kind.Reply.TheVariants as reply
use Rattle.objects.specs.declared.kind.Kind.{Kind}
use Rattle.objects.specs.declared.kind.Kind.TheVariants as kind
use Rattle.vocabulary.specs.declared.word.Word.{Word}
use Rattle.vocabulary.specs.declared.word.Word.TheVariants as word
use Rattle.vocabulary.specs.Words.{HasKind, ItemsAre, amount_call, item_call, kind_of_text, kind_since, kind_text, lone_call, pair_call}
use Rattle.vocabulary.specs.Words.{phrase_of, phrase_verb, response_item, response_of, verb_of, verb_of_text, verb_since, verb_text}
use Rattle.vocabulary.specs.Words.{verbs_of, word_of_text, word_text}
use Rattle.vocabulary.specs.declared.verb.AmountVerb.{AmountVerb}
use Rattle.vocabulary.specs.declared.verb.ItemVerb.{ItemVerb}
use Rattle.vocabulary.specs.declared.verb.PairVerb.{PairVerb}
use Rattle.vocabulary.specs.declared.verb.LoneVerb.{LoneVerb}
use Rattle.vocabulary.specs.declared.verb.Verb.{Verb}
use Rattle.vocabulary.specs.declared.verb.Phrase.{Phrase}
use Rattle.vocabulary.specs.declared.verb.Phrase.TheVariants as phrase

-- ---- no word is left out of the lists, and none stands for two

kind_again : (k : Kind) → kind_of_text (kind_since k) (kind_text k) ≡ Some k
unfolding kind_of_text
kind_again kind.Account = refl
kind_again k = refl

word_again : (w : Word) → word_of_text (word_text w) ≡ Some w
unfolding word_of_text
word_again word.Ok = refl
word_again w = refl

-- a call's verb is among those of the call's kind
verb_again : (c : Call) → verb_of_text (verb_since (verb_of c)) (kind_of_call c) (verb_text (verb_of c)) ≡ Some (verb_of c)
unfolding verb_of_text
verb_again c = grind arith

-- ---- verbs

-- the call of an amount is said as it was made
pub amount_phrase : (v : AmountVerb) (a : Amount) → phrase_of (amount_call v a) ≡ phrase.OfAmount v a
amount_phrase v a = grind arith

pub item_phrase : (v : ItemVerb) (x : Item) → phrase_of (item_call v x) ≡ phrase.OfItem v x
item_phrase v x = grind arith

pub pair_phrase : (v : PairVerb) (k x : Item) → phrase_of (pair_call v k x) ≡ phrase.OfPair v k x
pair_phrase v k x = grind arith

pub lone_phrase : (v : LoneVerb) → phrase_of (lone_call v) ≡ phrase.Alone v
lone_phrase v = grind arith

-- the call that a phrase says
abbrev call_said : Phrase → Call
call_said (phrase.OfAmount v a) = amount_call v a
call_said (phrase.OfItem v x) = item_call v x
call_said (phrase.OfPair v k x) = pair_call v k x
call_said (phrase.Alone v) = lone_call v

said_again : (c : Call) → call_said (phrase_of c) ≡ c
said_again c = grind arith

said_has : (p : Phrase) (k : Kind) → HasKind k (phrase_verb p) → kind_of_call (call_said p) ≡ k
said_has (phrase.OfAmount v a) k has = has a
said_has (phrase.OfItem v x) k has = has x
said_has (phrase.OfPair v key x) k has = has key x
said_has (phrase.Alone v) k has = has

-- a call is of the kind that its verb has
pub call_has : (c : Call) (k : Kind) → HasKind k (verb_of c) → kind_of_call c ≡ k
call_has c k has = ap kind_of_call (sym (said_again c)) ∙ said_has (phrase_of c) k has

-- each of the verbs has calls of the kind
abbrev HaveKind : Kind → List Verb → Type 0
HaveKind k [] = ⊤
HaveKind k (v ∷ vs) = HasKind k v × HaveKind k vs

verbs_have : (k : Kind) → HaveKind k (verbs_of k)
verbs_have k = grind arith

-- so has the verb that is found among them
found_has : (k : Kind) (test : Verb → Bool) (vs : List Verb) (v : Verb) → HaveKind k vs → find test vs ≡ Some v → HasKind k v
found_has k test [] v have e = cc
found_has k test (w ∷ vs) v have e = by (test w) (found_has k test vs v have.1) e
  where
    by : (b : Bool) → (find test vs ≡ Some v → HasKind k v) → cond b (Some w) (find test vs) ≡ Some v → HasKind k v
    by true later is = let same : w ≡ v = cc in subst (HasKind k) same have.0
    by false later is = later is

-- the verb that a word names for a kind has calls of the kind
pub named_has : (version : ℕ) (k : Kind) (s : List ℕ) (v : Verb) → verb_of_text version k s ≡ Some v → HasKind k v
unfolding verb_of_text
named_has version k s v e = found_has k _ (verbs_of k) v (verbs_have k) e

-- ---- the items of a value

-- A value after a call has no items but those before and those that the call is said with.
module _ (P : Item → Type 0) where
  pub set_items : (s : Sets) (c : SetCall) → ((x : Item) → finite_set.contains s x ≡ true → P x) → ItemsAre P (phrase_of (call.Set c))
      → (x : Item) → finite_set.contains (set_after s c) x ≡ true → P x
  set_items s (set.Insert y) had said = λ x is.
      elim (or_cases (eq_by_cmp item_cmp x y) (finite_set.contains s x) (sym (finite_set.contains-insert items_total s y x) ∙ is)) [
        | inl same ↦ subst P (sym (alike_is x y same)) said
        | inr old ↦ had x old
      ]
  set_items s (set.Remove y) had said = λ x is.
      had x (and_parts (not (eq_by_cmp item_cmp x y)) _ (sym (finite_set.contains-remove items_total s y x) ∙ is)).1
  set_items s (set.Has y) had said = had
  set_items s set.Size had said = had

  pub queue_items : (q : List Item) (c : QueueCall) → All P q → ItemsAre P (phrase_of (call.Queue c)) → All P (queue_after q c)
  queue_items q (queue.Enq x) had said = All-push P q x had said
  queue_items [] queue.Deq had said = had
  queue_items (x ∷ q) queue.Deq had said = λ k d below. had (suc k) d (omega arith)
  queue_items q queue.Length had said = had

  abbrev AreBound : Directories → Type 0
  AreBound d = (k x : Item) → finite_map.get d k ≡ Some x → P k × P x

  insert_items : (d : Directories) (k v : Item) → AreBound d → P k → P v → AreBound (finite_map.insert d k v)
  insert_items d k v had key said q x is = by (eq_by_cmp item_cmp q k) refl (sym (finite_map.get-insert items_total d k v q) ∙ is)
    where
      by : (b : Bool) → eq_by_cmp item_cmp q k ≡ b → cond b (Some v) (finite_map.get d q) ≡ Some x → P q × P x
      by true same bound = let value : v ≡ x = cc in (subst P (sym (alike_is q k same)) key, subst P value said)
      by false same bound = had q x bound

  pub directory_items : (d : Directories) (c : DirectoryCall) → AreBound d → ItemsAre P (phrase_of (call.Directory c))
      → AreBound (directory_after d c)
  directory_items d (directory.Bind k v) had said = by (is_some (finite_map.get d k))
    where
      by : (b : Bool) → AreBound (cond b d (finite_map.insert d k v))
      by true = had
      by false = insert_items d k v had said.0 said.1
  directory_items d (directory.Put k v) had said = insert_items d k v had said.0 said.1
  directory_items d (directory.Unbind k) had said = λ q x is.
      by q x (eq_by_cmp item_cmp q k) (sym (finite_map.get-remove items_total d k q) ∙ is)
    where
      by : (q x : Item) (b : Bool) → cond b None (finite_map.get d q) ≡ Some x → P q × P x
      by q x true bound = cc
      by q x false bound = had q x bound
  directory_items d (directory.Lookup k) had said = had

-- ---- replies

-- only what a dequeue got and what a lookup found is a reply with an item
pub item_reply : (r : Reply) (x : Item) → response_item (response_of r) ≡ Some x
    → (r ≡ reply.Queue (queue_reply.Got x)) ⊎ (r ≡ reply.Directory (directory_reply.Found x))
item_reply r x is = grind arith
