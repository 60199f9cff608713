-- What labels hold, and the tests of it.
use Rattle.std.specs.Prelude.{ℕ, ℤ, List, Bool, true, false, Option, Some, None, slice_get, ◌==◌}
use Rattle.std.specs.Int.RustNames.{int_le}
use Rattle.atoms.specs.declared.item.Item.{Item}
use Rattle.objects.specs.declared.kind.Reply.{Reply}
use Rattle.meaning.specs.declared.end.End.{End}
use Rattle.meaning.specs.declared.end.End.TheVariants.{Ended, Aborted}
use Rattle.meaning.specs.declared.held.Held.{Held}
use Rattle.meaning.specs.declared.held.Held.TheVariants.{Replied, Outcome}
use Rattle.meaning.specs.declared.test.Test.{Test}
use Rattle.meaning.specs.declared.test.Test.TheVariants.{Is, AtLeast, IsItem}
use Rattle.vocabulary.specs.declared.word.Word.{Word}
use Rattle.vocabulary.specs.declared.word.Word.TheVariants as word
use Rattle.vocabulary.specs.contracts.word.WordPartialEq.TheImpl as words
use Rattle.vocabulary.specs.Words.{response_item, response_number, response_of, response_word}

abbrev pub is_outcome : Word → End → Bool
is_outcome word.Committed Ended = true
is_outcome word.Aborted (Aborted reason) = true
is_outcome w outcome = false

-- false where there is none
abbrev pub if_there : {A : Type 0} → Option A → (A → Bool) → Bool
if_there None test = false
if_there (Some a) test = test a

-- whether the word is the reply's first part
abbrev pub is_word_of : Word → Reply → Bool
is_word_of w reply = if_there (response_word (response_of reply)) (λ first. words.ghosts.eq first w)

abbrev pub reply_number : Reply → Option ℤ
reply_number reply = response_number (response_of reply)

abbrev pub reply_item : Reply → Option Item
reply_item reply = response_item (response_of reply)

-- whether the test holds of what a label holds
abbrev pub holds_of : Test → Held → Bool
holds_of (Is w) (Replied reply) = is_word_of w reply
holds_of (Is w) (Outcome outcome) = is_outcome w outcome
holds_of (AtLeast number) (Replied reply) = if_there (reply_number reply) (int_le number)
holds_of (IsItem item) (Replied reply) = if_there (reply_item reply) (λ found. found.0 == item.0)
holds_of test held = false

-- whether it holds of the label at a place, where these are seen
abbrev pub holds : List Held → ℕ → Test → Bool
holds labels label test = if_there (slice_get labels label) (holds_of test)
