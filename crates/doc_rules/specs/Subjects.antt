-- What labels are of, and which tests fit them.
use Rattle.std.specs.Prelude.{Bool, false}
use Rattle.vocabulary.specs.Words.{has_item, has_number, has_word}
use Rattle.vocabulary.specs.declared.word.Word.{Word}
use Rattle.meaning.specs.WellFormed.{is_outcome_word}
use Rattle.doc_rules.specs.declared.subject.Subject.{Subject}
use Rattle.doc_rules.specs.declared.subject.Subject.TheVariants.{Reply, Outcome}

abbrev pub fits_word : Subject → Word → Bool
fits_word (Reply v) w = has_word v w
fits_word Outcome w = is_outcome_word w

abbrev pub fits_number : Subject → Bool
fits_number (Reply v) = has_number v
fits_number Outcome = false

abbrev pub fits_item : Subject → Bool
fits_item (Reply v) = has_item v
fits_item Outcome = false
