-- What a batch names has its texts in one way at most, so that a struct may keep it.
use Rattle.std.specs.Prelude.{List, [], ◌∷◌}
use Rattle.std.proofs.Props.{props}
use Rattle.objects.specs.declared.kind.Call.{Call}
use Rattle.vocabulary.specs.Words.{ItemsAre, phrase_of}
use Rattle.vocabulary.specs.declared.verb.Phrase.{Phrase}
use Rattle.vocabulary.specs.declared.verb.Phrase.TheVariants.{OfAmount, OfItem, OfPair, Alone}
use Rattle.objects.specs.declared.kind.Value.{Value}
use Rattle.objects.specs.Objects.{Content, Number, Signed, Set, Queue, Directory, content_of}
use Rattle.meaning.specs.declared.template.Argument.{Argument}
use Rattle.meaning.specs.declared.template.Argument.TheVariants as argument
use Rattle.meaning.specs.declared.template.Refusal.{Refusal}
use Rattle.meaning.specs.declared.template.Refusal.TheVariants.{GoesOn, Aborts}
use Rattle.meaning.specs.declared.template.Template.{Template}
use Rattle.meaning.specs.declared.template.Template.TheVariants as template
use Rattle.meaning.specs.declared.test.Test.{Test}
use Rattle.meaning.specs.declared.test.Test.TheVariants.{Is, AtLeast, IsItem}
use Rattle.meaning.specs.Trees.{Block, NoStep, Steps, Step, Operation, Fill, If, Subaction, Abort, Parallel, Handlers, ForReason, Otherwise}
use Rattle.meaning.specs.Trees.{GoOn, Pass, Children, NoChild, Child}
use Rattle.batch.specs.Names.{Texts}
use Rattle.batch.specs.Named.{HasText, IsNamedCall, IsNamedArgument, IsNamedTemplate, IsNamedRefusal, IsNamedTest, IsNamed, IsNamedStep}
use Rattle.batch.specs.Named.{AreNamedHandlers, AreNamed, AllNamed, IsNamedContent, AllNamedValues}

items-prop : (texts : Texts) (p : Phrase) → IsProp (ItemsAre (HasText texts) p)
items-prop texts (OfAmount v a) = hlevel props
items-prop texts (OfItem v x) = hlevel props
items-prop texts (OfPair v k x) = hlevel props
items-prop texts (Alone v) = hlevel props

IsNamedCall-prop : (texts : Texts) (c : Call) → IsProp (IsNamedCall texts c)
IsNamedCall-prop texts c = items-prop texts (phrase_of c)

IsNamedArgument-prop : (texts : Texts) (a : Argument) → IsProp (IsNamedArgument texts a)
IsNamedArgument-prop texts (argument.Is item) = hlevel props
IsNamedArgument-prop texts (argument.From label) = hlevel props

IsNamedTemplate-prop : (texts : Texts) (template : Template) → IsProp (IsNamedTemplate texts template)
IsNamedTemplate-prop texts (template.Given call) = IsNamedCall-prop texts call
IsNamedTemplate-prop texts (template.OfAmount v label) = hlevel props
IsNamedTemplate-prop texts (template.OfItem v label) = hlevel props
IsNamedTemplate-prop texts (template.OfPair v key item) = hlevel (
  props,
  IsNamedArgument-prop texts key,
  IsNamedArgument-prop texts item,
)

IsNamedRefusal-prop : (texts : Texts) (refusal : Refusal) → IsProp (IsNamedRefusal texts refusal)
IsNamedRefusal-prop texts GoesOn = hlevel props
IsNamedRefusal-prop texts (Aborts reason) = hlevel props

IsNamedTest-prop : (texts : Texts) (test : Test) → IsProp (IsNamedTest texts test)
IsNamedTest-prop texts (Is word) = hlevel props
IsNamedTest-prop texts (AtLeast number) = hlevel props
IsNamedTest-prop texts (IsItem item) = hlevel props

mutual
  IsNamed-prop : (texts : Texts) (block : Block) → IsProp (IsNamed texts block)
  IsNamed-prop texts NoStep = hlevel props
  IsNamed-prop texts (Steps step rest) = hlevel (props, IsNamedStep-prop texts step, IsNamed-prop texts rest)

  IsNamedStep-prop : (texts : Texts) (step : Step) → IsProp (IsNamedStep texts step)
  IsNamedStep-prop texts (Operation object call labelled) = IsNamedCall-prop texts call
  IsNamedStep-prop texts (Fill object template labelled refusal) = hlevel (
    props,
    IsNamedTemplate-prop texts template,
    IsNamedRefusal-prop texts refusal,
  )
  IsNamedStep-prop texts (If label test then else) = hlevel (
    props,
    IsNamedTest-prop texts test,
    IsNamed-prop texts then,
    IsNamed-prop texts else,
  )
  IsNamedStep-prop texts (Subaction body handlers labelled) = hlevel (props, IsNamed-prop texts body, AreNamedHandlers-prop texts handlers)
  IsNamedStep-prop texts (Abort reason) = hlevel props
  IsNamedStep-prop texts (Parallel children) = AreNamed-prop texts children

  AreNamedHandlers-prop : (texts : Texts) (handlers : Handlers) → IsProp (AreNamedHandlers texts handlers)
  AreNamedHandlers-prop texts (ForReason reason handler others) =
      hlevel (props, IsNamed-prop texts handler, AreNamedHandlers-prop texts others)
  AreNamedHandlers-prop texts (Otherwise handler) = IsNamed-prop texts handler
  AreNamedHandlers-prop texts GoOn = hlevel props
  AreNamedHandlers-prop texts Pass = hlevel props

  AreNamed-prop : (texts : Texts) (children : Children) → IsProp (AreNamed texts children)
  AreNamed-prop texts NoChild = hlevel props
  AreNamed-prop texts (Child body handlers labelled younger) =
      hlevel (props, IsNamed-prop texts body, AreNamedHandlers-prop texts handlers, AreNamed-prop texts younger)

pub AllNamed-prop : (texts : Texts) (blocks : List Block) → IsProp (AllNamed texts blocks)
AllNamed-prop texts [] = hlevel props
AllNamed-prop texts (block ∷ blocks) = hlevel (props, IsNamed-prop texts block, AllNamed-prop texts blocks)

IsNamedContent-prop : (texts : Texts) (c : Content) → IsProp (IsNamedContent texts c)
IsNamedContent-prop texts (Number n) = hlevel props
IsNamedContent-prop texts (Signed n) = hlevel props
IsNamedContent-prop texts (Set s) = hlevel props
IsNamedContent-prop texts (Queue q) = hlevel props
IsNamedContent-prop texts (Directory d) = hlevel props

pub AllNamedValues-prop : (texts : Texts) (values : List Value) → IsProp (AllNamedValues texts values)
AllNamedValues-prop texts [] = hlevel props
AllNamedValues-prop texts (v ∷ values) = hlevel (props, IsNamedContent-prop texts (content_of v), AllNamedValues-prop texts values)
