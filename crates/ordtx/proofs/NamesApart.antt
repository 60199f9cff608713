-- The objects of a document that was read have names of their own.
use Rattle.std.proofs.Common.{◌≡◌, ℕ, Bool, true, false, cond, List, length, Option, Some, None, Ok, Err, subst}
use Rattle.std.specs.Prelude.{nat_lt}
use Rattle.std.specs.List.{IsDistinct}
use Rattle.std.specs.Str.{bytes_eq}
use Rattle.serde_json.specs.Data.{Data}
use Rattle.faults.specs.Faults.{wrong_outside}
use Rattle.faults.specs.declared.fault.Wrong.TheVariants.{TooMany}
use Rattle.doc_tree.proofs.DistinctTexts.{objects_differ}
use Rattle.lang.specs.Reading.{Document, most_bytes, reading, spelled_by, value_of}
use Rattle.lang.proofs.SpelledLemmas.{spelled_faultless}

abbrev AreApart : Document → Type 0
AreApart document = IsDistinct bytes_eq document.texts.objects

apart_spelled : (document : Document) (d : Data) → spelled_by (Some d) ≡ Ok document → AreApart document
apart_spelled document d e =
    let spelled = spelled_faultless d document e in
    subst AreApart spelled.1 (objects_differ d spelled.0)

apart_of : (document : Document) (large : Bool) (o : Option Data) → cond large (Err (wrong_outside TooMany)) (spelled_by o) ≡ Ok document
    → AreApart document
apart_of document true o e = cc
apart_of document false None e = cc
apart_of document false (Some d) e = apart_spelled document d e

pub names_apart : (bytes : List ℕ) (document : Document) → reading bytes ≡ Ok document → IsDistinct bytes_eq document.texts.objects
unfolding reading
names_apart bytes document e = apart_of document (nat_lt (most_bytes (value_of bytes)) (length bytes)) (value_of bytes) e
