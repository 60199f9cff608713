-- The texts of calls, replies and values.
use Rattle.std.specs.Prelude.{ℕ, ◌==◌, ◌||◌, Bool, List, [], ◌∷◌, ◌++◌, map, codes, if◌then◌else◌}
use Rattle.std.specs.List.{list_any}
use Rattle.std.specs.Fmt.{decimal, signed_decimal}
use Rattle.std.specs.FinSet as finite_set
use Rattle.std.specs.FinMap as finite_map
use Rattle.atoms.specs.Item.{item_cmp}
use Rattle.atoms.specs.declared.item.Item.{Item}
use Rattle.objects.specs.declared.kind.Call.{Call}
use Rattle.objects.specs.declared.kind.Reply.{Reply}
use Rattle.objects.specs.declared.kind.Value.{Value}
use Rattle.objects.specs.Objects.{Content, Number, Signed, Set, Queue, Directory, content_of}
use Rattle.vocabulary.specs.Words.{phrase_of, response_of, verb_text, word_text}
use Rattle.vocabulary.specs.declared.verb.Phrase.{Phrase}
use Rattle.vocabulary.specs.declared.verb.Phrase.TheVariants as phrase
use Rattle.vocabulary.specs.declared.verb.Verb.TheVariants.{OfAmount, OfItem, OfPair, Alone}
use Rattle.vocabulary.specs.declared.response.Response.{Response}
use Rattle.vocabulary.specs.declared.response.Response.TheVariants as response

-- the texts of a batch's numbers
pub record Naming : Type 0 where
  pub object : ℕ → List ℕ
  pub item : Item → List ℕ
  pub reason : ℕ → List ℕ

abbrev pub phrase_text : Naming → Phrase → List ℕ
phrase_text names (phrase.OfAmount v a) = verb_text (OfAmount v) ++ codes " " ++ decimal a.value
phrase_text names (phrase.OfItem v x) = verb_text (OfItem v) ++ codes " " ++ names.item x
phrase_text names (phrase.OfPair v k x) = verb_text (OfPair v) ++ codes " " ++ names.item k ++ codes " " ++ names.item x
phrase_text names (phrase.Alone v) = verb_text (Alone v)

abbrev pub call_text : Naming → Call → List ℕ
call_text names c = phrase_text names (phrase_of c)

abbrev pub response_text : Naming → Response → List ℕ
response_text names (response.Word w) = word_text w
response_text names (response.WithItem w x) = word_text w ++ codes " " ++ names.item x
response_text names (response.Number n) = decimal n
response_text names (response.Signed n) = signed_decimal n

abbrev pub reply_text : Naming → Reply → List ℕ
reply_text names reply = response_text names (response_of reply)

-- with this between each two
abbrev pub joined_by : List ℕ → List (List ℕ) → List ℕ
joined_by between [] = []
joined_by between (first ∷ []) = first
joined_by between (first ∷ second ∷ rest) = first ++ between ++ joined_by between (second ∷ rest)

-- with a space between each two
abbrev pub spaced : List (List ℕ) → List ℕ
spaced texts = joined_by (codes " ") texts

abbrev pub has_colon : List ℕ → Bool
has_colon text = list_any (λ x. x == 58) text

-- between a key and its item: a colon, or `=`, which no name has, where one of the two has a colon
abbrev pub separator : List ℕ → List ℕ → List ℕ
separator key item = if has_colon key || has_colon item then codes "=" else codes ":"

abbrev pub binding_text : Naming → Item × Item → List ℕ
binding_text names binding =
    names.item binding.0 ++ separator (names.item binding.0) (names.item binding.1) ++ names.item binding.1

-- the members of a set, ascending, as a map's keys do
abbrev pub members : finite_set.FinSet item_cmp → List Item
members s = finite_map.keys (finite_map.from_entries {X = Unit {0}} {R = item_cmp} (map (λ x. (x, tt)) (finite_set.items s)))

-- members and keys in the order of their numbers
abbrev pub content_text : Naming → Content → List ℕ
content_text names (Number n) = decimal n
content_text names (Signed n) = signed_decimal n
content_text names (Set s) = codes "{" ++ spaced (map names.item (members s)) ++ codes "}"
content_text names (Queue q) = codes "[" ++ spaced (map names.item q) ++ codes "]"
content_text names (Directory d) = codes "{" ++ spaced (map (binding_text names) (finite_map.entries d)) ++ codes "}"

abbrev pub value_text : Naming → Value → List ℕ
value_text names v = content_text names (content_of v)
