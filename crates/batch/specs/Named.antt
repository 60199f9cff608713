-- What a batch names: each of its items and reasons has a text.
use Rattle.std.specs.Prelude.{◌≡◌, ◌<◌, ℕ, true, List, [], ◌∷◌, length, Some, ⊤}
use Rattle.std.specs.List.{All}
use Rattle.std.specs.Option.{ForSome}
use Rattle.std.specs.FinSet as finite_set
use Rattle.std.specs.FinMap as finite_map
use Rattle.atoms.specs.declared.item.Item.{Item}
use Rattle.objects.specs.declared.kind.Call.{Call}
use Rattle.objects.specs.declared.kind.Value.{Value}
use Rattle.objects.specs.Objects.{Content, Set, Queue, Directory, content_of}
use Rattle.vocabulary.specs.Words.{ItemsAre, phrase_of}
use Rattle.meaning.specs.declared.template.Argument.{Argument}
use Rattle.meaning.specs.declared.template.Argument.TheVariants.{Is, From}
use Rattle.meaning.specs.declared.template.Template.{Template}
use Rattle.meaning.specs.declared.template.Template.TheVariants.{Given, OfPair}
use Rattle.meaning.specs.declared.template.Refusal.{Refusal}
use Rattle.meaning.specs.declared.template.Refusal.TheVariants.{GoesOn, Aborts}
use Rattle.meaning.specs.declared.test.Test.{Test}
use Rattle.meaning.specs.declared.test.Test.TheVariants.{IsItem}
use Rattle.meaning.specs.Trees.{Block, NoStep, Steps, Step, Operation, Fill, If, Subaction, Abort, Parallel, Handlers, ForReason, Otherwise}
use Rattle.meaning.specs.Trees.{GoOn, Pass, Children, NoChild, Child}
use Rattle.batch.specs.Names.{Texts}

abbrev pub HasText : Texts → Item → Type 0
HasText texts item = item.0 < length texts.items

abbrev pub HasReason : Texts → ℕ → Type 0
HasReason texts reason = reason < length texts.reasons

abbrev pub IsNamedCall : Texts → Call → Type 0
IsNamedCall texts c = ItemsAre (HasText texts) (phrase_of c)

abbrev pub IsNamedArgument : Texts → Argument → Type 0
IsNamedArgument texts (Is x) = HasText texts x
IsNamedArgument texts (From label) = ⊤

abbrev pub IsNamedTemplate : Texts → Template → Type 0
IsNamedTemplate texts (Given call) = IsNamedCall texts call
IsNamedTemplate texts (OfPair v key item) = IsNamedArgument texts key × IsNamedArgument texts item
IsNamedTemplate texts template = ⊤

abbrev pub IsNamedRefusal : Texts → Refusal → Type 0
IsNamedRefusal texts GoesOn = ⊤
IsNamedRefusal texts (Aborts reason) = ForSome reason (HasReason texts)

abbrev pub IsNamedTest : Texts → Test → Type 0
IsNamedTest texts (IsItem x) = HasText texts x
IsNamedTest texts test = ⊤

abbrev mutual
  -- each item and each reason that it names has a text
  pub IsNamed : Texts → Block → Type 0
  IsNamed texts NoStep = ⊤
  IsNamed texts (Steps step rest) = IsNamedStep texts step × IsNamed texts rest

  pub IsNamedStep : Texts → Step → Type 0
  IsNamedStep texts (Operation object call labelled) = IsNamedCall texts call
  IsNamedStep texts (Fill object template labelled refusal) = IsNamedTemplate texts template × IsNamedRefusal texts refusal
  IsNamedStep texts (If label test then else) = IsNamedTest texts test × IsNamed texts then × IsNamed texts else
  IsNamedStep texts (Subaction body handlers labelled) = IsNamed texts body × AreNamedHandlers texts handlers
  IsNamedStep texts (Abort reason) = ForSome reason (HasReason texts)
  IsNamedStep texts (Parallel children) = AreNamed texts children

  pub AreNamedHandlers : Texts → Handlers → Type 0
  AreNamedHandlers texts (ForReason reason handler others) = HasReason texts reason × IsNamed texts handler × AreNamedHandlers texts others
  AreNamedHandlers texts (Otherwise handler) = IsNamed texts handler
  AreNamedHandlers texts GoOn = ⊤
  AreNamedHandlers texts Pass = ⊤

  pub AreNamed : Texts → Children → Type 0
  AreNamed texts NoChild = ⊤
  AreNamed texts (Child body handlers labelled younger) = IsNamed texts body × AreNamedHandlers texts handlers × AreNamed texts younger

abbrev pub AllNamed : Texts → List Block → Type 0
AllNamed texts [] = ⊤
AllNamed texts (block ∷ blocks) = IsNamed texts block × AllNamed texts blocks

-- so has each item of what a value holds
abbrev pub IsNamedContent : Texts → Content → Type 0
IsNamedContent texts (Set s) = (x : Item) → finite_set.contains s x ≡ true → HasText texts x
IsNamedContent texts (Queue q) = All (HasText texts) q
IsNamedContent texts (Directory d) = (k x : Item) → finite_map.get d k ≡ Some x → HasText texts k × HasText texts x
IsNamedContent texts c = ⊤

abbrev pub IsNamedValue : Texts → Value → Type 0
IsNamedValue texts v = IsNamedContent texts (content_of v)

abbrev pub AllNamedValues : Texts → List Value → Type 0
AllNamedValues texts [] = ⊤
AllNamedValues texts (v ∷ values) = IsNamedValue texts v × AllNamedValues texts values
