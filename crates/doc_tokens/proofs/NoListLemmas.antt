-- Values that are no arrays, by their first token.
use Rattle.std.proofs.Common.{◌≡◌, ◌≢◌, ℕ, List, ◌∷◌, Option, None, Some, option_and_then, option_map, refl, sym, ap, ◌∙◌}
use Rattle.json.specs.Token as token
use Rattle.json.specs.Json as json
use Rattle.json.specs.Json.{Parse, parse_map, value_with}
use Rattle.json.specs.Reads.{token_of}
use Rattle.json.specs.declared.token.Token.{Token}
use Rattle.json.specs.declared.token.Token.TheVariants.{BeginObject, EndObject, BeginArray, EndArray, Key, String, Number, Bool, Null, Bad}
use Rattle.json.proofs.Grammar.{value_is}
use Rattle.serde_json.specs.Data.{Data, Items, Members, Num, number, object}
use Rattle.serde_json.specs.Find.{as_array}
use Rattle.serde_json.specs.Read.{converted, number_of, of_json}
use Rattle.doc_tokens.proofs.PulledLemmas.{of_object}

-- the items of what was read, where it is an array
abbrev list_in : Option (Data × List token.Token) → Option Items
list_in read = option_and_then (λ p. as_array p.0) read

-- an object is no array
object_no_list : (r : Option (Members × List token.Token)) → list_in (parse_map object r) ≡ None
object_no_list None = refl
object_no_list (Some p) = refl

-- nor is a number
number_no_list : (ts : List token.Token) (x : Option Num)
    → list_in (option_map {U = Data × List token.Token} (λ d. (d, ts)) (option_map number x)) ≡ None
number_no_list ts None = refl
number_no_list ts (Some x) = refl

-- nor is what begins with another token
first_no_list : (a : Parse json.Items) (o : Parse json.Members) (t : Token) (ts : List token.Token) → t ≢ BeginArray
    → list_in (converted of_json (value_with a o (token_of t ∷ ts))) ≡ None
first_no_list a o BeginObject ts other = ap list_in (of_object (o ts)) ∙ object_no_list _
first_no_list a o EndObject ts other = refl
first_no_list a o BeginArray ts other = absurd (other refl)
first_no_list a o EndArray ts other = refl
first_no_list a o (Key s) ts other = refl
first_no_list a o (String s) ts other = refl
first_no_list a o (Number s) ts other = number_no_list ts (number_of s.now)
first_no_list a o (Bool b) ts other = refl
first_no_list a o Null ts other = refl
first_no_list a o Bad ts other = refl

-- a value is no array where its first token isn't the bracket that begins one
pub no_list : (k : ℕ) (t : Token) (ts new : List token.Token) (d : Data) → t ≢ BeginArray
    → converted of_json (json.value k (token_of t ∷ ts)) ≡ Some (d, new) → as_array d ≡ None
no_list k t ts new d other reads =
    sym (ap list_in reads) ∙ ap (λ r. list_in (converted of_json r)) (value_is k (token_of t ∷ ts)) ∙ first_no_list _ _ t ts other
