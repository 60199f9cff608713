-- The phrases of several rules.
use Rattle.std.specs.Prelude.{ℕ, List, ◌++◌, codes, Option, Some, None, decimal, if◌then◌else◌}
use Rattle.serde_json.specs.Data.{Data}
use Rattle.serde_json.specs.Find.{get}
use Rattle.batch.specs.Names.{has_long_names, most_name_bytes}
use Rattle.doc_rules.specs.declared.form.Form.{Form}
use Rattle.doc_rules.specs.declared.form.Form.TheVariants as form
use Rattle.doc_rules.specs.declared.subject.Subject.{Subject}
use Rattle.doc_rules.specs.declared.subject.Subject.TheVariants.{Reply, Outcome}
use Rattle.vocabulary.specs.Words.{verb_text}
use Rattle.doc_mistakes.specs.Shown.{grouped, shown}

abbrev pub missing : List ℕ → List ℕ
missing name = codes "\"" ++ name ++ codes "\" is missing"

-- a member that isn't there, or isn't what it has to be
unfoldable pub wanting_at : List ℕ → List ℕ → Option Data → List ℕ
wanting_at name wanted None = missing name
wanting_at name wanted (Some d) = codes "\"" ++ name ++ codes "\" is " ++ shown d ++ codes ", and has to be " ++ wanted

abbrev pub wanting : List ℕ → List ℕ → Data → List ℕ
wanting name wanted d = wanting_at name wanted (get name d)

-- what names of a version have beside letters and digits
abbrev pub signs_text : ℕ → List ℕ
signs_text version = if has_long_names version then codes " and signs of \"_-.:/@+#%\"" else codes ", \"_\" and \"-\""

-- what is shown is no name of a version
abbrev pub no_name : ℕ → List ℕ → List ℕ
no_name version text =
    text ++ codes " is no name: a name has 1 to " ++ decimal (most_name_bytes version) ++ codes " ASCII letters, digits"
    ++ signs_text version

abbrev pub more_than : ℕ → List ℕ → List ℕ
more_than most things = codes "more than " ++ grouped most ++ codes " " ++ things

-- what is shown is of a later version than the document
abbrev pub too_new : List ℕ → ℕ → List ℕ
too_new text version = text ++ codes " is of a later version than " ++ decimal version

abbrev pub form_text : Form → List ℕ
form_text form.Document = codes "a document"
form_text form.Object = codes "an object"
form_text form.Operation = codes "an operation"
form_text form.Source = codes "an argument from a label"
form_text form.If = codes "an if"
form_text form.Subaction = codes "a subaction"
form_text form.Abort = codes "an abort"
form_text form.Parallel = codes "a parallel step"

abbrev pub subject_text : Subject → List ℕ
subject_text (Reply v) = codes "the reply of \"" ++ verb_text v ++ codes "\""
subject_text Outcome = codes "the outcome of a subaction"

abbrev pub no_number : Subject → List ℕ
no_number subject = subject_text subject ++ codes " is no number"

abbrev pub no_item : Subject → List ℕ
no_item subject = subject_text subject ++ codes " has no item"

-- what is shown is the text of a label
abbrev pub no_label : List ℕ → List ℕ
no_label text = codes "no label " ++ text ++ codes " is seen here"
