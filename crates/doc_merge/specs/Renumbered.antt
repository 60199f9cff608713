-- Transactions whose items and reasons have other numbers.
use Rattle.std.specs.Prelude.{ℕ, List, [], ◌∷◌, get_or, map, option_map}
use Rattle.atoms.specs.declared.item.Item.{Item}
use Rattle.objects.specs.declared.kind.Call.{Call}
use Rattle.doc_tree.specs.Scope.{Table, number_of, with_text}
use Rattle.vocabulary.specs.Words.{amount_call, item_call, lone_call, pair_call, phrase_of}
use Rattle.vocabulary.specs.declared.verb.Phrase.{Phrase}
use Rattle.vocabulary.specs.declared.verb.Phrase.TheVariants as phrase
use Rattle.meaning.specs.declared.template.Argument.{Argument}
use Rattle.meaning.specs.declared.template.Argument.TheVariants as argument
use Rattle.meaning.specs.declared.template.Refusal.{Refusal}
use Rattle.meaning.specs.declared.template.Refusal.TheVariants.{GoesOn, Aborts}
use Rattle.meaning.specs.declared.template.Template.{Template}
use Rattle.meaning.specs.declared.template.Template.TheVariants.{Given, OfAmount, OfItem, OfPair}
use Rattle.meaning.specs.declared.test.Test.{Test}
use Rattle.meaning.specs.declared.test.Test.TheVariants.{IsItem}
use Rattle.meaning.specs.Trees.{Block, NoStep, Steps, Step, Operation, Fill, If, Subaction, Abort, Parallel, Handlers, ForReason, Otherwise}
use Rattle.meaning.specs.Trees.{GoOn, Pass, Children, NoChild, Child}
use Rattle.batch.specs.Views.{Tried}

-- the table with these texts after its own, each once
abbrev pub merged : Table → Table → Table
merged table [] = table
merged table (text ∷ texts) = merged (with_text text table) texts

-- the number in the one table, of the text that has the number in the other
abbrev pub number_in : Table → Table → ℕ → ℕ
number_in new old i = number_of (get_or old i []) new

abbrev pub numbered_item : (ℕ → ℕ) → Item → Item
numbered_item items x = record { 0 = items x.0 }

abbrev pub said_with : (ℕ → ℕ) → Phrase → Call
said_with items (phrase.OfAmount v a) = amount_call v a
said_with items (phrase.OfItem v x) = item_call v (numbered_item items x)
said_with items (phrase.OfPair v k x) = pair_call v (numbered_item items k) (numbered_item items x)
said_with items (phrase.Alone v) = lone_call v

-- the call, said with the items of these numbers
abbrev pub renumbered_call : (ℕ → ℕ) → Call → Call
renumbered_call items c = said_with items (phrase_of c)

abbrev pub renumbered_test : (ℕ → ℕ) → Test → Test
renumbered_test items (IsItem x) = IsItem (numbered_item items x)
renumbered_test items test = test

abbrev pub renumbered_argument : (ℕ → ℕ) → Argument → Argument
renumbered_argument items (argument.Is x) = argument.Is (numbered_item items x)
renumbered_argument items (argument.From label) = argument.From label

-- the template, with the items of these numbers
abbrev pub renumbered_template : (ℕ → ℕ) → Template → Template
renumbered_template items (Given call) = Given (renumbered_call items call)
renumbered_template items (OfAmount v label) = OfAmount v label
renumbered_template items (OfItem v label) = OfItem v label
renumbered_template items (OfPair v key x) = OfPair v (renumbered_argument items key) (renumbered_argument items x)

-- what a refusal does, with the reason of this number
abbrev pub renumbered_refusal : (ℕ → ℕ) → Refusal → Refusal
renumbered_refusal reasons GoesOn = GoesOn
renumbered_refusal reasons (Aborts reason) = Aborts (option_map reasons reason)

abbrev mutual
  -- the same block, where each item and each reason has another number
  pub renumbered : (ℕ → ℕ) → (ℕ → ℕ) → Block → Block
  renumbered items reasons NoStep = NoStep
  renumbered items reasons (Steps step rest) = Steps (renumbered_step items reasons step) (renumbered items reasons rest)

  pub renumbered_step : (ℕ → ℕ) → (ℕ → ℕ) → Step → Step
  renumbered_step items reasons (Operation object call labelled) = Operation object (renumbered_call items call) labelled
  renumbered_step items reasons (Fill object template labelled refusal) =
      Fill object (renumbered_template items template) labelled (renumbered_refusal reasons refusal)
  renumbered_step items reasons (If label test then else) =
      If label (renumbered_test items test) (renumbered items reasons then) (renumbered items reasons else)
  renumbered_step items reasons (Subaction body handlers labelled) =
      Subaction (renumbered items reasons body) (renumbered_handlers items reasons handlers) labelled
  renumbered_step items reasons (Abort reason) = Abort (option_map reasons reason)
  renumbered_step items reasons (Parallel children) = Parallel (renumbered_children items reasons children)

  pub renumbered_handlers : (ℕ → ℕ) → (ℕ → ℕ) → Handlers → Handlers
  renumbered_handlers items reasons (ForReason reason handler others) =
      ForReason (reasons reason) (renumbered items reasons handler) (renumbered_handlers items reasons others)
  renumbered_handlers items reasons (Otherwise handler) = Otherwise (renumbered items reasons handler)
  renumbered_handlers items reasons GoOn = GoOn
  renumbered_handlers items reasons Pass = Pass

  pub renumbered_children : (ℕ → ℕ) → (ℕ → ℕ) → Children → Children
  renumbered_children items reasons NoChild = NoChild
  renumbered_children items reasons (Child body handlers labelled younger) =
      Child (renumbered items reasons body) (renumbered_handlers items reasons handlers) labelled
      (renumbered_children items reasons younger)

-- the handler of a reason, and a subaction
abbrev pub renumbered_member : (ℕ → ℕ) → (ℕ → ℕ) → ℕ × Block → ℕ × Block
renumbered_member items reasons member = (reasons member.0, renumbered items reasons member.1)

abbrev pub renumbered_tried : (ℕ → ℕ) → (ℕ → ℕ) → Tried → Tried
renumbered_tried items reasons child = record {
  body = renumbered items reasons child.body;
  handlers = renumbered_handlers items reasons child.handlers;
  labelled = child.labelled;
}

-- the numbers of these texts in a table
abbrev pub numbers_in : Table → Table → List ℕ
numbers_in table texts = map (λ text. number_of text table) texts

-- the new number of a number, by place; one that isn't listed stays
abbrev pub new_number : List ℕ → ℕ → ℕ
new_number numbers n = get_or numbers n n
