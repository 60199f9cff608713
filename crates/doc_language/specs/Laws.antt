-- That the definition of the language and those of its reader say the same.
use Rattle.std.specs.Prelude.{◌≡◌, Result, Ok, Err}
use Rattle.serde_json.specs.Data.{Data}
use Rattle.doc_tree.specs.declared.counts.Counts.{Counts}
use Rattle.doc_tree.specs.Demand.{no_counts}
use Rattle.doc_tree.specs.Places.{Found, placed, seek}
use Rattle.doc_tree.specs.Spelled.{Document, document_in}
use Rattle.doc_language.specs.Document.{read_document}

-- the document that a value spells where all demands on it are met, or the first that isn't
abbrev pub spelled_or_found : Result Counts Found → Document → Result Document Found
spelled_or_found (Ok counts) document = Ok document
spelled_or_found (Err found) document = Err found

-- each value spells the same by both
abbrev pub LanguageLaw : Type 0
LanguageLaw = (d : Data) → read_document d ≡ spelled_or_found (seek no_counts (placed d)) (document_in d)
