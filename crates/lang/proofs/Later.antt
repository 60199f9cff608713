-- What has its texts keeps them where there are more.
use Rattle.std.proofs.Common.{◌≤◌, ℕ, List, [], ◌∷◌, length, arith}
use Rattle.atoms.specs.declared.item.Item.{Item}
use Rattle.objects.specs.declared.kind.Call.{Call}
use Rattle.objects.specs.declared.kind.Value.{Value}
use Rattle.objects.specs.Objects.{Content, Number, Signed, Set, Queue, Directory, content_of}
use Rattle.vocabulary.specs.Words.{ItemsAre, phrase_of}
use Rattle.vocabulary.specs.declared.verb.Phrase.{Phrase}
use Rattle.vocabulary.specs.declared.verb.Phrase.TheVariants.{OfAmount, OfItem, OfPair, Alone}
use Rattle.meaning.specs.declared.template.Argument.{Argument}
use Rattle.meaning.specs.declared.template.Argument.TheVariants as argument
use Rattle.meaning.specs.declared.template.Refusal.{Refusal}
use Rattle.meaning.specs.declared.template.Refusal.TheVariants.{GoesOn, Aborts}
use Rattle.meaning.specs.declared.template.Template.{Template}
use Rattle.meaning.specs.declared.template.Template.TheVariants as template
use Rattle.meaning.specs.declared.test.Test.{Test}
use Rattle.meaning.specs.declared.test.Test.TheVariants.{Is, AtLeast, IsItem}
use Rattle.meaning.specs.Trees as tree
use Rattle.meaning.specs.Trees.{NoStep, Steps, Step, Operation, Fill, If, Subaction, Abort, Parallel, Handlers, ForReason, Otherwise}
use Rattle.meaning.specs.Trees.{GoOn, Pass, Children, NoChild, Child}
use Rattle.batch.specs.Names.{Texts}
use Rattle.batch.specs.Named.{HasText, HasReason, IsNamedCall, IsNamedArgument, IsNamedRefusal, IsNamedTemplate, IsNamedTest, IsNamed}
use Rattle.batch.specs.Named.{IsNamedStep, AreNamed, AllNamed}
use Rattle.batch.specs.Named.{AreNamedHandlers, IsNamedContent, IsNamedValue, AllNamedValues}

module _ (texts more : Texts) (items : length texts.items ≤ length more.items) (reasons : length texts.reasons ≤ length more.reasons) where
  item_later : (x : Item) → HasText texts x → HasText more x
  item_later x named = omega (arith, items, named)

  reason_later : (reason : ℕ) → HasReason texts reason → HasReason more reason
  reason_later reason named = omega (arith, reasons, named)

  phrase_later : (p : Phrase) → ItemsAre (HasText texts) p → ItemsAre (HasText more) p
  phrase_later (OfAmount v a) named = tt
  phrase_later (OfItem v x) named = item_later x named
  phrase_later (OfPair v k x) named = (item_later k named.0, item_later x named.1)
  phrase_later (Alone v) named = tt

  call_later : (c : Call) → IsNamedCall texts c → IsNamedCall more c
  call_later c named = phrase_later (phrase_of c) named

  pub argument_later : (a : Argument) → IsNamedArgument texts a → IsNamedArgument more a
  argument_later (argument.Is x) named = item_later x named
  argument_later (argument.From label) named = tt

  pub template_later : (t : Template) → IsNamedTemplate texts t → IsNamedTemplate more t
  template_later (template.Given call) named = call_later call named
  template_later (template.OfAmount v label) named = tt
  template_later (template.OfItem v label) named = tt
  template_later (template.OfPair v key x) named = (argument_later key named.0, argument_later x named.1)

  refusal_later : (r : Refusal) → IsNamedRefusal texts r → IsNamedRefusal more r
  refusal_later GoesOn named = tt
  refusal_later (Aborts reason) named = λ r is. reason_later r (named r is)

  pub test_later : (test : Test) → IsNamedTest texts test → IsNamedTest more test
  test_later (Is word) named = tt
  test_later (AtLeast number) named = tt
  test_later (IsItem x) named = item_later x named

  mutual
    pub block_later : (block : tree.Block) → IsNamed texts block → IsNamed more block
    block_later NoStep named = tt
    block_later (Steps step rest) named = (step_later step named.0, block_later rest named.1)

    pub step_later : (step : Step) → IsNamedStep texts step → IsNamedStep more step
    step_later (Operation object call labelled) named = call_later call named
    step_later (Fill object template labelled refusal) named = (template_later template named.0, refusal_later refusal named.1)
    step_later (If label test then else) named = (test_later test named.0, block_later then named.1, block_later else named.2)
    step_later (Subaction body handlers labelled) named = (block_later body named.0, handlers_later handlers named.1)
    step_later (Abort reason) named = λ r is. reason_later r (named r is)
    step_later (Parallel children) named = children_later children named

    pub handlers_later : (handlers : Handlers) → AreNamedHandlers texts handlers → AreNamedHandlers more handlers
    handlers_later (ForReason reason handler others) named = (
      reason_later reason named.0,
      block_later handler named.1,
      handlers_later others named.2,
    )
    handlers_later (Otherwise handler) named = block_later handler named
    handlers_later GoOn named = tt
    handlers_later Pass named = tt

    pub children_later : (children : Children) → AreNamed texts children → AreNamed more children
    children_later NoChild named = tt
    children_later (Child body handlers labelled younger) named = (
      block_later body named.0,
      handlers_later handlers named.1,
      children_later younger named.2,
    )

  pub blocks_later : (blocks : List tree.Block) → AllNamed texts blocks → AllNamed more blocks
  blocks_later [] named = tt
  blocks_later (block ∷ blocks) named = (block_later block named.0, blocks_later blocks named.1)

  content_later : (c : Content) → IsNamedContent texts c → IsNamedContent more c
  content_later (Number n) named = tt
  content_later (Signed n) named = tt
  content_later (Set s) named = λ x is. item_later x (named x is)
  content_later (Queue q) named = λ k x lt. item_later _ (named k x lt)
  content_later (Directory d) named = λ k x is. let both = named k x is in (item_later k both.0, item_later x both.1)

  pub value_later : (v : Value) → IsNamedValue texts v → IsNamedValue more v
  value_later v named = content_later (content_of v) named

  pub values_later : (values : List Value) → AllNamedValues texts values → AllNamedValues more values
  values_later [] named = tt
  values_later (v ∷ values) named = (value_later v named.0, values_later values named.1)
