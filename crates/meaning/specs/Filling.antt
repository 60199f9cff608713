-- Calls whose arguments come from labels, and what a refused call does.
use Rattle.std.specs.Prelude.{ℕ, Bool, List, Option, Some, None, option_map, slice_get, if◌then◌else◌}
use Rattle.std.specs.Option.{option_and_then}
use Rattle.atoms.specs.declared.amount.Amount.{Amount}
use Rattle.atoms.specs.declared.item.Item.{Item}
use Rattle.objects.specs.declared.kind.Call.{Call}
use Rattle.objects.specs.declared.kind.Reply.{Reply}
use Rattle.vocabulary.specs.Words.{amount_call, item_call, pair_call, refuses, response_of, response_word, verb_of}
use Rattle.vocabulary.specs.declared.verb.PairVerb.{PairVerb}
use Rattle.vocabulary.specs.declared.verb.Verb.{Verb}
use Rattle.vocabulary.specs.declared.verb.Verb.TheVariants as verb
use Rattle.meaning.specs.declared.held.Held.{Held}
use Rattle.meaning.specs.declared.held.Held.TheVariants.{Replied, Outcome}
use Rattle.meaning.specs.declared.template.Argument.{Argument}
use Rattle.meaning.specs.declared.template.Argument.TheVariants.{Is, From}
use Rattle.meaning.specs.declared.template.Template.{Template}
use Rattle.meaning.specs.declared.template.Template.TheVariants.{Given, OfAmount, OfItem, OfPair}
use Rattle.meaning.specs.declared.template.Refusal.{Refusal}
use Rattle.meaning.specs.declared.template.Refusal.TheVariants.{GoesOn, Aborts}
use Rattle.meaning.specs.declared.end.End.{End}
use Rattle.meaning.specs.declared.end.End.TheVariants.{Ended, Aborted}
use Rattle.meaning.specs.Amounts.{number_amount}
use Rattle.meaning.specs.Labels.{if_there, reply_item, reply_number}

abbrev pub template_verb : Template → Verb
template_verb (Given call) = verb_of call
template_verb (OfAmount v label) = verb.OfAmount v
template_verb (OfItem v label) = verb.OfItem v
template_verb (OfPair v key item) = verb.OfPair v

-- the reply that a label holds
abbrev pub held_reply : Held → Option Reply
held_reply (Replied reply) = Some reply
held_reply (Outcome outcome) = None

abbrev pub reply_at_label : List Held → ℕ → Option Reply
reply_at_label labels label = option_and_then held_reply (slice_get labels label)

-- the amount that a label's reply is, and the item that it has
abbrev pub amount_from : List Held → ℕ → Option Amount
amount_from labels label = option_and_then number_amount (option_and_then reply_number (reply_at_label labels label))

abbrev pub item_from : List Held → ℕ → Option Item
item_from labels label = option_and_then reply_item (reply_at_label labels label)

abbrev pub item_of : List Held → Argument → Option Item
item_of labels (Is item) = Some item
item_of labels (From label) = item_from labels label

abbrev pub pair_of : PairVerb → Option Item → Option Item → Option Call
pair_of v (Some key) (Some item) = Some (pair_call v key item)
pair_of v key item = None

-- the call with what these labels hold; none where a reply has no such argument
abbrev pub fill : List Held → Template → Option Call
fill labels (Given call) = Some call
fill labels (OfAmount v label) = option_map (amount_call v) (amount_from labels label)
fill labels (OfItem v label) = option_map (item_call v) (item_from labels label)
fill labels (OfPair v key item) = pair_of v (item_of labels key) (item_of labels item)

-- ---- refusals

abbrev pub is_refusal : Reply → Bool
is_refusal reply = if_there (response_word (response_of reply)) refuses

-- the reason for which a step aborts
abbrev pub reason_for : Refusal → Option ℕ
reason_for GoesOn = None
reason_for (Aborts reason) = reason

-- how a step ends after this reply
abbrev pub end_after : Refusal → Reply → End
end_after GoesOn reply = Ended
end_after (Aborts reason) reply = if is_refusal reply then Aborted reason else Ended
