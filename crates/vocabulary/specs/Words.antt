-- The words of the language: of kinds, of replies and outcomes, of verbs and their calls; and replies as they are said.
use Rattle.std.specs.Prelude.{◌≡◌, ℕ, ℤ, pos, Bool, true, false, List, [], ◌∷◌, codes, Option, Some, None, nat_le, ◌&&◌, ⊤}
use Rattle.std.specs.List.{find}
use Rattle.std.specs.Str.{bytes_eq}
use Rattle.atoms.specs.declared.item.Item.{Item}
use Rattle.atoms.specs.declared.amount.Amount.{Amount}
use Rattle.atoms.specs.declared.account.AccountCall.TheVariants as account
use Rattle.atoms.specs.declared.account.AccountReply.TheVariants as account_reply
use Rattle.atoms.specs.declared.counter.CounterCall.TheVariants as counter
use Rattle.atoms.specs.declared.counter.CounterReply.TheVariants as counter_reply
use Rattle.atoms.specs.declared.item_set.SetCall.TheVariants as set
use Rattle.atoms.specs.declared.item_set.SetReply.TheVariants as set_reply
use Rattle.atoms.specs.declared.queue.QueueCall.TheVariants as queue
use Rattle.atoms.specs.declared.queue.QueueReply.TheVariants as queue_reply
use Rattle.atoms.specs.declared.directory.DirectoryCall.TheVariants as directory
use Rattle.atoms.specs.declared.directory.DirectoryReply.TheVariants as directory_reply
use Rattle.atoms.specs.declared.max_register.MaxCall.TheVariants as max
use Rattle.atoms.specs.declared.max_register.MaxReply.TheVariants as max_reply
use Rattle.objects.specs.Objects.{kind_of_call}
use Rattle.objects.specs.declared.kind.Kind.{Kind}
use Rattle.objects.specs.declared.kind.Kind.TheVariants as kind
use Rattle.objects.specs.declared.kind.Call.{Call}
use Rattle.objects.specs.declared.kind.Call.TheVariants as call
use Rattle.objects.specs.declared.kind.Reply.{Reply}
use Rattle.objects.specs.declared.kind.Reply.TheVariants as reply
use Rattle.vocabulary.specs.declared.word.Word.{Word}
use Rattle.vocabulary.specs.declared.word.Word.TheVariants.{Ok, No, Added, Present, Removed, Absent, Yes, Got, Empty, Bound, Taken, Gone}
use Rattle.vocabulary.specs.declared.word.Word.TheVariants.{Missing, Found, Committed, Aborted}
use Rattle.vocabulary.specs.declared.verb.AmountVerb.{AmountVerb}
use Rattle.vocabulary.specs.declared.verb.AmountVerb.TheVariants.{Deposit, Withdraw, Add, Sub, Raise}
use Rattle.vocabulary.specs.declared.verb.ItemVerb.{ItemVerb}
use Rattle.vocabulary.specs.declared.verb.ItemVerb.TheVariants.{Insert, Remove, Has, Enq, Unbind, Lookup}
use Rattle.vocabulary.specs.declared.verb.PairVerb.{PairVerb}
use Rattle.vocabulary.specs.declared.verb.PairVerb.TheVariants.{Bind, Put}
use Rattle.vocabulary.specs.declared.verb.LoneVerb.{LoneVerb}
use Rattle.vocabulary.specs.declared.verb.LoneVerb.TheVariants.{Balance, Read, Size, Deq, Length, Top}
use Rattle.vocabulary.specs.declared.verb.Verb.{Verb}
use Rattle.vocabulary.specs.declared.verb.Verb.TheVariants.{OfAmount, OfItem, OfPair, Alone}
use Rattle.vocabulary.specs.declared.verb.Phrase.{Phrase}
use Rattle.vocabulary.specs.declared.verb.Phrase.TheVariants as phrase
use Rattle.vocabulary.specs.declared.response.Response.{Response}
use Rattle.vocabulary.specs.declared.response.Response.TheVariants.{Word as AWord, WithItem, Number, Signed}

-- ---- kinds

abbrev pub kind_text : Kind → List ℕ
kind_text kind.Account = codes "account"
kind_text kind.Counter = codes "counter"
kind_text kind.Set = codes "set"
kind_text kind.Queue = codes "queue"
kind_text kind.Directory = codes "directory"
kind_text kind.Max = codes "max"

-- a kind with its article
abbrev pub a_kind : Kind → List ℕ
a_kind kind.Account = codes "an account"
a_kind kind.Counter = codes "a counter"
a_kind kind.Set = codes "a set"
a_kind kind.Queue = codes "a queue"
a_kind kind.Directory = codes "a directory"
a_kind kind.Max = codes "a maximum register"

abbrev pub all_kinds : List Kind
all_kinds = kind.Account ∷ kind.Counter ∷ kind.Set ∷ kind.Queue ∷ kind.Directory ∷ kind.Max ∷ []

-- the first version of documents that has the kind
abbrev pub kind_since : Kind → ℕ
kind_since kind.Max = 2
kind_since k = 1

-- whether the text is the word of the kind in a document of a version
abbrev pub is_kind_text : ℕ → List ℕ → Kind → Bool
is_kind_text version s k = bytes_eq (kind_text k) s && nat_le (kind_since k) version

-- the kind that a word names in a document of a version
unfoldable pub kind_of_text : ℕ → List ℕ → Option Kind
kind_of_text version s = find (is_kind_text version s) all_kinds

-- ---- words of replies and outcomes

abbrev pub word_text : Word → List ℕ
word_text Ok = codes "ok"
word_text No = codes "no"
word_text Added = codes "added"
word_text Present = codes "present"
word_text Removed = codes "removed"
word_text Absent = codes "absent"
word_text Yes = codes "yes"
word_text Got = codes "got"
word_text Empty = codes "empty"
word_text Bound = codes "bound"
word_text Taken = codes "taken"
word_text Gone = codes "gone"
word_text Missing = codes "missing"
word_text Found = codes "found"
word_text Committed = codes "committed"
word_text Aborted = codes "aborted"

abbrev pub all_words : List Word
all_words = Ok ∷ No ∷ Added ∷ Present ∷ Removed ∷ Absent ∷ Yes ∷ Got ∷ Empty ∷ Bound ∷ Taken ∷ Gone ∷ Missing ∷ Found ∷ Committed
    ∷ Aborted ∷ []

-- whether a reply with this word refuses what was asked
abbrev pub refuses : Word → Bool
refuses No = true
refuses Present = true
refuses Absent = true
refuses Empty = true
refuses Taken = true
refuses Missing = true
refuses w = false

-- the word that a text is
unfoldable pub word_of_text : List ℕ → Option Word
word_of_text s = find (λ w. bytes_eq (word_text w) s) all_words

-- ---- verbs

abbrev pub verb_text : Verb → List ℕ
verb_text (OfAmount Deposit) = codes "deposit"
verb_text (OfAmount Withdraw) = codes "withdraw"
verb_text (OfAmount Add) = codes "add"
verb_text (OfAmount Sub) = codes "sub"
verb_text (OfAmount Raise) = codes "raise"
verb_text (OfItem Insert) = codes "insert"
verb_text (OfItem Remove) = codes "remove"
verb_text (OfItem Has) = codes "has"
verb_text (OfItem Enq) = codes "enq"
verb_text (OfItem Unbind) = codes "unbind"
verb_text (OfItem Lookup) = codes "lookup"
verb_text (OfPair Bind) = codes "bind"
verb_text (OfPair Put) = codes "put"
verb_text (Alone Balance) = codes "balance"
verb_text (Alone Read) = codes "read"
verb_text (Alone Size) = codes "size"
verb_text (Alone Deq) = codes "deq"
verb_text (Alone Length) = codes "length"
verb_text (Alone Top) = codes "top"

-- the first version of documents that has the verb
abbrev pub verb_since : Verb → ℕ
verb_since (Alone Length) = 2
verb_since v = 1

-- the verbs of a kind's calls
abbrev pub verbs_of : Kind → List Verb
verbs_of kind.Account = OfAmount Deposit ∷ OfAmount Withdraw ∷ Alone Balance ∷ []
verbs_of kind.Counter = OfAmount Add ∷ OfAmount Sub ∷ Alone Read ∷ []
verbs_of kind.Set = OfItem Insert ∷ OfItem Remove ∷ OfItem Has ∷ Alone Size ∷ []
verbs_of kind.Queue = OfItem Enq ∷ Alone Deq ∷ Alone Length ∷ []
verbs_of kind.Directory = OfPair Bind ∷ OfPair Put ∷ OfItem Unbind ∷ OfItem Lookup ∷ []
verbs_of kind.Max = OfAmount Raise ∷ Alone Top ∷ []

-- whether the text is the word for the verb in a document of a version
abbrev pub is_verb_text : ℕ → List ℕ → Verb → Bool
is_verb_text version s v = bytes_eq (verb_text v) s && nat_le (verb_since v) version

-- the verb of a kind that a word names in a document of a version
unfoldable pub verb_of_text : ℕ → Kind → List ℕ → Option Verb
verb_of_text version k s = find (is_verb_text version s) (verbs_of k)

-- ---- calls

abbrev pub amount_call : AmountVerb → Amount → Call
amount_call Deposit a = call.Account (account.Deposit a)
amount_call Withdraw a = call.Account (account.Withdraw a)
amount_call Add a = call.Counter (counter.Add a)
amount_call Sub a = call.Counter (counter.Sub a)
amount_call Raise a = call.Max (max.Raise a)

abbrev pub item_call : ItemVerb → Item → Call
item_call Insert x = call.Set (set.Insert x)
item_call Remove x = call.Set (set.Remove x)
item_call Has x = call.Set (set.Has x)
item_call Enq x = call.Queue (queue.Enq x)
item_call Unbind x = call.Directory (directory.Unbind x)
item_call Lookup x = call.Directory (directory.Lookup x)

abbrev pub pair_call : PairVerb → Item → Item → Call
pair_call Bind k x = call.Directory (directory.Bind k x)
pair_call Put k x = call.Directory (directory.Put k x)

abbrev pub lone_call : LoneVerb → Call
lone_call Balance = call.Account account.Balance
lone_call Read = call.Counter counter.Read
lone_call Size = call.Set set.Size
lone_call Deq = call.Queue queue.Deq
lone_call Length = call.Queue queue.Length
lone_call Top = call.Max max.Top

-- each call of the verb is of the kind
abbrev pub HasKind : Kind → Verb → Type 0
HasKind k (OfAmount v) = (a : Amount) → kind_of_call (amount_call v a) ≡ k
HasKind k (OfItem v) = (x : Item) → kind_of_call (item_call v x) ≡ k
HasKind k (OfPair v) = (key x : Item) → kind_of_call (pair_call v key x) ≡ k
HasKind k (Alone v) = kind_of_call (lone_call v) ≡ k

-- the other way: a call as it is said
abbrev pub phrase_of : Call → Phrase
phrase_of (call.Account (account.Deposit a)) = phrase.OfAmount Deposit a
phrase_of (call.Account (account.Withdraw a)) = phrase.OfAmount Withdraw a
phrase_of (call.Account account.Balance) = phrase.Alone Balance
phrase_of (call.Counter (counter.Add a)) = phrase.OfAmount Add a
phrase_of (call.Counter (counter.Sub a)) = phrase.OfAmount Sub a
phrase_of (call.Counter counter.Read) = phrase.Alone Read
phrase_of (call.Set (set.Insert x)) = phrase.OfItem Insert x
phrase_of (call.Set (set.Remove x)) = phrase.OfItem Remove x
phrase_of (call.Set (set.Has x)) = phrase.OfItem Has x
phrase_of (call.Set set.Size) = phrase.Alone Size
phrase_of (call.Queue (queue.Enq x)) = phrase.OfItem Enq x
phrase_of (call.Queue queue.Deq) = phrase.Alone Deq
phrase_of (call.Queue queue.Length) = phrase.Alone Length
phrase_of (call.Directory (directory.Bind k x)) = phrase.OfPair Bind k x
phrase_of (call.Directory (directory.Put k x)) = phrase.OfPair Put k x
phrase_of (call.Directory (directory.Unbind k)) = phrase.OfItem Unbind k
phrase_of (call.Directory (directory.Lookup k)) = phrase.OfItem Lookup k
phrase_of (call.Max (max.Raise a)) = phrase.OfAmount Raise a
phrase_of (call.Max max.Top) = phrase.Alone Top

abbrev pub phrase_verb : Phrase → Verb
phrase_verb (phrase.OfAmount v a) = OfAmount v
phrase_verb (phrase.OfItem v x) = OfItem v
phrase_verb (phrase.OfPair v k x) = OfPair v
phrase_verb (phrase.Alone v) = Alone v

abbrev pub verb_of : Call → Verb
verb_of c = phrase_verb (phrase_of c)

-- each item that a call is said with
abbrev pub ItemsAre : (Item → Type 0) → Phrase → Type 0
ItemsAre P (phrase.OfAmount v a) = ⊤
ItemsAre P (phrase.OfItem v x) = P x
ItemsAre P (phrase.OfPair v k x) = P k × P x
ItemsAre P (phrase.Alone v) = ⊤

-- ---- which replies a verb has

-- whether a reply to the verb can begin with the word
abbrev pub has_word : Verb → Word → Bool
has_word (OfAmount Withdraw) No = true
has_word (OfAmount v) Ok = true
has_word (OfItem Insert) Added = true
has_word (OfItem Insert) Present = true
has_word (OfItem Remove) Removed = true
has_word (OfItem Remove) Absent = true
has_word (OfItem Has) Yes = true
has_word (OfItem Has) No = true
has_word (OfItem Enq) Ok = true
has_word (OfItem Unbind) Gone = true
has_word (OfItem Unbind) Missing = true
has_word (OfItem Lookup) Found = true
has_word (OfItem Lookup) Missing = true
has_word (OfPair Bind) Bound = true
has_word (OfPair Bind) Taken = true
has_word (OfPair Put) Ok = true
has_word (Alone Deq) Got = true
has_word (Alone Deq) Empty = true
has_word v w = false

-- whether each reply to the verb is a number
abbrev pub has_number : Verb → Bool
has_number (Alone Deq) = false
has_number (Alone v) = true
has_number v = false

-- whether a reply to the verb can have an item
abbrev pub has_item : Verb → Bool
has_item (Alone Deq) = true
has_item (OfItem Lookup) = true
has_item v = false

-- ---- replies as they are said: a word, a word with an item, or a number

abbrev pub response_of : Reply → Response
response_of (reply.Account account_reply.Ok) = AWord Ok
response_of (reply.Account account_reply.No) = AWord No
response_of (reply.Account (account_reply.Number n)) = Number n
response_of (reply.Counter counter_reply.Ok) = AWord Ok
response_of (reply.Counter (counter_reply.Number n)) = Signed n
response_of (reply.Set set_reply.Added) = AWord Added
response_of (reply.Set set_reply.Present) = AWord Present
response_of (reply.Set set_reply.Removed) = AWord Removed
response_of (reply.Set set_reply.Absent) = AWord Absent
response_of (reply.Set set_reply.Yes) = AWord Yes
response_of (reply.Set set_reply.No) = AWord No
response_of (reply.Set (set_reply.Number n)) = Number n
response_of (reply.Queue queue_reply.Ok) = AWord Ok
response_of (reply.Queue (queue_reply.Got x)) = WithItem Got x
response_of (reply.Queue queue_reply.Empty) = AWord Empty
response_of (reply.Queue (queue_reply.Number n)) = Number n
response_of (reply.Directory directory_reply.Ok) = AWord Ok
response_of (reply.Directory directory_reply.Bound) = AWord Bound
response_of (reply.Directory directory_reply.Taken) = AWord Taken
response_of (reply.Directory directory_reply.Gone) = AWord Gone
response_of (reply.Directory directory_reply.Missing) = AWord Missing
response_of (reply.Directory (directory_reply.Found x)) = WithItem Found x
response_of (reply.Max max_reply.Ok) = AWord Ok
response_of (reply.Max (max_reply.Number n)) = Number n

abbrev pub response_word : Response → Option Word
response_word (AWord w) = Some w
response_word (WithItem w x) = Some w
response_word r = None

abbrev pub response_item : Response → Option Item
response_item (WithItem w x) = Some x
response_item r = None

abbrev pub response_number : Response → Option ℤ
response_number (Number n) = Some (pos n)
response_number (Signed n) = Some n
response_number r = None
