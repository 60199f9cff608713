-- The classes, items and strengths of effects, kind by kind.
use Rattle.std.specs.Prelude.{ℕ, ◌+◌, Option, Some, None}
use Rattle.atoms.specs.declared.item.Item.{Item}
use Rattle.atoms.specs.declared.account.AccountEffect.{AccountEffect}
use Rattle.atoms.specs.declared.account.AccountEffect.TheVariants as account
use Rattle.atoms.specs.declared.counter.CounterEffect.{CounterEffect}
use Rattle.atoms.specs.declared.counter.CounterEffect.TheVariants as counter
use Rattle.atoms.specs.declared.item_set.SetEffect.{SetEffect}
use Rattle.atoms.specs.declared.item_set.SetEffect.TheVariants as set
use Rattle.atoms.specs.declared.queue.QueueEffect.{QueueEffect}
use Rattle.atoms.specs.declared.queue.QueueEffect.TheVariants as queue
use Rattle.atoms.specs.declared.directory.DirectoryEffect.{DirectoryEffect}
use Rattle.atoms.specs.declared.directory.KeyEffect.{KeyEffect}
use Rattle.atoms.specs.declared.directory.KeyEffect.TheVariants as key
use Rattle.atoms.specs.declared.max_register.MaxEffect.{MaxEffect}
use Rattle.atoms.specs.declared.max_register.MaxEffect.TheVariants as max
use Rattle.objects.specs.Objects.{Effect, OfAccount, OfCounter, OfSet, OfQueue, OfDirectory, OfMax, Mixed}
use Rattle.conflicts.specs.declared.classes.Class.{Class}
use Rattle.conflicts.specs.declared.classes.Class.TheVariants.{Deposit, Withdrawal, Refusal, Balance, Count, Raise, Change, Put, Enqueue}
use Rattle.conflicts.specs.declared.classes.Class.TheVariants.{Dequeue, Size, Look, Taken}
use Rattle.conflicts.specs.declared.effect.EffectKind.{EffectKind}
use Rattle.conflicts.specs.declared.effect.EffectKind.TheVariants as kind
use Rattle.conflicts.specs.declared.strength.Strength.{Strength}

-- ---- classes

abbrev pub account_class : AccountEffect → Class
account_class (account.Deposited a) = Deposit
account_class (account.Withdrew a) = Withdrawal
account_class (account.Refused a) = Refusal
account_class (account.Counted n) = Balance
account_class account.Impossible = Look

abbrev pub counter_class : CounterEffect → Class
counter_class (counter.Added k) = Count
counter_class (counter.Subtracted k) = Count
counter_class e = Look

abbrev pub set_class : SetEffect → Class
set_class (set.WasAdded x) = Change
set_class (set.WasRemoved x) = Change
set_class (set.WasCounted n) = Size
set_class e = Look

abbrev pub queue_class : QueueEffect → Class
queue_class (queue.Enqueued x) = Enqueue
queue_class (queue.Dequeued x) = Dequeue
queue_class queue.FoundEmpty = Size
queue_class (queue.Counted n) = Size
queue_class queue.Impossible = Look

abbrev pub key_class : KeyEffect → Class
key_class (key.WasBound v) = Change
key_class (key.WasPut v) = Put
key_class key.WasTaken = Taken
key_class key.WasUnbound = Change
key_class e = Look

abbrev pub max_class : MaxEffect → Class
max_class (max.Raised k) = Raise
max_class e = Look

-- an operation that is legal at no value is taken for a look
abbrev pub effect_class : Effect → Class
effect_class (OfAccount e) = account_class e
effect_class (OfCounter e) = counter_class e
effect_class (OfSet e) = set_class e
effect_class (OfQueue e) = queue_class e
effect_class (OfDirectory e) = key_class e.change
effect_class (OfMax e) = max_class e
effect_class Mixed = Look

-- ---- items

abbrev pub set_item : SetEffect → Option Item
set_item (set.WasAdded x) = Some x
set_item (set.WasRemoved x) = Some x
set_item (set.WasInside x) = Some x
set_item (set.WasOutside x) = Some x
set_item e = None

abbrev pub taken_item : QueueEffect → Option Item
taken_item (queue.Dequeued x) = Some x
taken_item e = None

-- the item that an operation is about, where it is about no other part of its object
abbrev pub effect_item : Effect → Option Item
effect_item (OfSet e) = set_item e
effect_item (OfQueue e) = taken_item e
effect_item (OfDirectory e) = Some e.key
effect_item e = None

-- ---- strengths: the kind, which effect of the kind, a number of the item or 0, and a range of numbers

abbrev pub digest : ℕ → EffectKind → ℕ → ℕ → ℕ → ℕ → Strength
digest o k v x l m = record { object = o; kind = k; variant = v; item = x; least = l; most = m }

-- of two withdrawals the smaller is stricter, of two balances the larger; other amounts make no difference
abbrev pub account_parts : AccountEffect → ℕ × ℕ × ℕ
account_parts (account.Deposited a) = (0, 0, 0)
account_parts (account.Withdrew a) = (1, a.value, 18446744073709551615)
account_parts (account.Refused a) = (2, 0, 0)
account_parts (account.Counted n) = (3, 0, n)
account_parts account.Impossible = (4, 0, 0)

abbrev pub account_strength : ℕ → AccountEffect → Strength
account_strength o e = digest o kind.Account (account_parts e).0 0 (account_parts e).1 (account_parts e).2

-- numbers make no difference to a counter's operations, nor whether a change adds or subtracts
abbrev pub counter_parts : CounterEffect → ℕ
counter_parts (counter.Added a) = 0
counter_parts (counter.Subtracted a) = 0
counter_parts (counter.Counted n) = 1
counter_parts counter.Impossible = 2

abbrev pub counter_strength : ℕ → CounterEffect → Strength
counter_strength o e = digest o kind.Counter (counter_parts e) 0 0 0

abbrev pub set_parts : SetEffect → ℕ × ℕ × ℕ
set_parts (set.WasAdded x) = (0, x.0 + 1, 0)
set_parts (set.WasRemoved x) = (1, x.0 + 1, 0)
set_parts (set.WasInside x) = (2, x.0 + 1, 0)
set_parts (set.WasOutside x) = (3, x.0 + 1, 0)
set_parts (set.WasCounted n) = (4, 0, n)
set_parts set.Impossible = (5, 0, 0)

abbrev pub set_strength : ℕ → SetEffect → Strength
set_strength o e = digest o kind.Set (set_parts e).0 (set_parts e).1 (set_parts e).2 (set_parts e).2

abbrev pub queue_parts : QueueEffect → ℕ × ℕ × ℕ
queue_parts (queue.Enqueued x) = (0, 0, x.0 + 1)
queue_parts (queue.Dequeued x) = (1, x.0 + 1, 0)
queue_parts queue.FoundEmpty = (2, 0, 0)
queue_parts (queue.Counted n) = (3, 0, n)
queue_parts queue.Impossible = (4, 0, 0)

abbrev pub queue_strength : ℕ → QueueEffect → Strength
queue_strength o e = digest o kind.Queue (queue_parts e).0 (queue_parts e).1 (queue_parts e).2 (queue_parts e).2

abbrev pub key_parts : KeyEffect → ℕ × ℕ
key_parts (key.WasBound x) = (0, x.0 + 1)
key_parts key.WasTaken = (1, 0)
key_parts (key.WasPut x) = (2, x.0 + 1)
key_parts key.WasUnbound = (3, 0)
key_parts key.WasMissing = (4, 0)
key_parts (key.WasFound x) = (5, x.0 + 1)
key_parts key.Impossible = (6, 0)

abbrev pub directory_strength : ℕ → DirectoryEffect → Strength
directory_strength o e = digest o kind.Directory (key_parts e.change).0 (e.key.0 + 1) (key_parts e.change).1 (key_parts e.change).1

-- of two raises the larger is stricter, of two tops the smaller
abbrev pub max_parts : MaxEffect → ℕ × ℕ × ℕ
max_parts (max.Raised a) = (0, 0, a.value)
max_parts (max.Counted n) = (1, n, 18446744073709551615)
max_parts max.Impossible = (2, 0, 0)

abbrev pub max_strength : ℕ → MaxEffect → Strength
max_strength o e = digest o kind.Max (max_parts e).0 0 (max_parts e).1 (max_parts e).2

-- of an effect on an object
abbrev pub effect_strength : ℕ → Effect → Strength
effect_strength o (OfAccount e) = account_strength o e
effect_strength o (OfCounter e) = counter_strength o e
effect_strength o (OfSet e) = set_strength o e
effect_strength o (OfQueue e) = queue_strength o e
effect_strength o (OfDirectory e) = directory_strength o e
effect_strength o (OfMax e) = max_strength o e
effect_strength o Mixed = digest o kind.Mixed 0 0 0 0
