use Rattle.doc_language.proofs.DocumentLemmas.{documents_read}
use Rattle.doc_language.proofs.laws.spelled_documents_are_read.Goals as goal

-- src/laws.rt:6:1
pub returns : goal.returns
returns c = documents_read
