-- The members that each form of a document may have.
use Rattle.std.specs.Prelude.{ℕ, List, [], ◌∷◌, codes}
use Rattle.doc_rules.specs.declared.form.Form.{Form}
use Rattle.doc_rules.specs.declared.form.Form.TheVariants as form

abbrev pub member_names : Form → List (List ℕ)
member_names form.Document = codes "ordtx" ∷ codes "objects" ∷ codes "transactions" ∷ []
member_names form.Object = codes "name" ∷ codes "kind" ∷ codes "start" ∷ []
member_names form.Operation = codes "op" ∷ codes "as" ∷ codes "else" ∷ []
member_names form.Source = codes "from" ∷ []
member_names form.If = codes "if" ∷ codes "is" ∷ codes "atleast" ∷ codes "item" ∷ codes "then" ∷ codes "else" ∷ []
member_names form.Subaction = codes "sub" ∷ codes "handler" ∷ codes "handlers" ∷ codes "as" ∷ []
member_names form.Abort = codes "abort" ∷ []
member_names form.Parallel = codes "parallel" ∷ []
