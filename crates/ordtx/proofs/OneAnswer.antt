-- What is written is one function of the bytes.
use Rattle.std.proofs.Common.{◌≡◌, ◌⊎◌, ℕ, ◌<◌, ◌≤◌, Bool, true, false, List, ◌++◌, Option, Some, None, Result}
use Rattle.std.proofs.Common.{Ok, Err, inl, inr, length, sym, ap, ap₂}
use Rattle.std.proofs.Common.{subst, ◌∙◌, arith}
use Rattle.std.specs.Prelude.{slice_index_or}
use Rattle.std.proofs.lemmas.Grind.{same_number_lists}
use Rattle.objects.specs.Entries.{State}
use Rattle.meaning.specs.Trees.{Block}
use Rattle.meaning.specs.Rounds.{Rounds, Count}
use Rattle.meaning.specs.Running.{all_operations}
use Rattle.meaning.specs.Texts.{report, plain_report, audit_report, check_text}
use Rattle.meaning.proofs.Openings.{one_number, one_count}
use Rattle.batch.specs.Names.{names_of}
use Rattle.carry.specs.Carried.{carried_text, carried_version, first_unfit}
use Rattle.carry.specs.Joined.{StartOf, starts_into, version_into}
use Rattle.carry.specs.Transactions.{joined_text}
use Rattle.carry.specs.declared.document.Misfit.{Misfit}
use Rattle.faults.specs.declared.fault.Wrong.{Wrong}
use Rattle.explain.specs.Why.{IsWhyText}
use Rattle.explain.proofs.Determined.{determined}
use Rattle.faults.specs.Faults.{wrong_outside}
use Rattle.lang.specs.Reading.{Document, reading}
use Rattle.faults.specs.declared.fault.Fault.{Fault}
use Rattle.doc_rules.specs.Limits.{limits_of}
use Rattle.ordtx.specs.Answers.{IsReportOf, IsAuditOf, IsPlainReportOf, IsCheckOf, IsFaultOf, IsCarriedOf, IsUnfitOf, IsCarryFaultOf}
use Rattle.ordtx.specs.Answers.{end_of, unfit_wrong, IsShownOf, IsWhyOf, IsExplainedOf, Refusal, of_first, of_next, of_object, AreBothRead}
use Rattle.ordtx.specs.Answers.{IsCarriedIntoOf, IsCarryIntoFaultOf, IsNextFaultOf, IsTooLongInto, IsUnfitInto, name_at}
use Rattle.ordtx.specs.Answers.{wrong_start}
use Rattle.ordtx.specs.Laws.{OneTextLaw, OneFaultLaw, FaultlessLaw}

-- one document
documents_alike : (r : Result Document Fault) (d e : Document) → r ≡ Ok d → r ≡ Ok e → d ≡ e
documents_alike r d e is also = cc

-- no document where there is a fault
read_no_fault : (r : Result Document Fault) (d : Document) (fault : Fault) → r ≡ Ok d → r ≡ Err fault → ⊥
read_no_fault r d fault is also = cc

-- one list of run counts
one_list : (start : State) (batch : List Block) (counts others : List ℕ) → length counts ≡ length batch → length others ≡ length batch
    → ((i : ℕ) → i < length batch → Count start batch i (slice_index_or counts i 0))
    → ((i : ℕ) → i < length batch → Count start batch i (slice_index_or others i 0))
    → counts ≡ others
one_list start batch counts others all also each each_other =
    same_number_lists counts others (all ∙ sym also) (λ i within.
    let inside : i < length batch = omega (arith, within, all) in
    one_count start batch i 0 _ _ (each_other i inside) (each i inside))

pub one_report : OneTextLaw IsReportOf
one_report bytes first second a b =
    let same : b.document ≡ a.document = documents_alike (reading bytes) b.document a.document b.reads a.reads in
    let d = a.document in
    let counted : Rounds d.start d.transactions b.rounds = subst (λ e. Rounds e.start e.transactions b.rounds) same b.counted in
    a.is
    ∙ ap (report (names_of d.texts) d.start d.transactions) (one_number d.start d.transactions 0 b.rounds a.rounds counted a.counted)
    ∙ ap (λ e. report (names_of e.texts) e.start e.transactions b.rounds) (sym same)
    ∙ sym b.is

pub one_audit : OneTextLaw IsAuditOf
one_audit bytes first second a b =
    let same : b.document ≡ a.document = documents_alike (reading bytes) b.document a.document b.reads a.reads in
    let d = a.document in
    let counted : Rounds d.start d.transactions b.rounds = subst (λ e. Rounds e.start e.transactions b.rounds) same b.counted in
    let all : length b.counts ≡ length d.transactions = b.all ∙ ap (λ e. length e.transactions) same in
    let each = subst (λ e. (i : ℕ) → i < length e.transactions → Count e.start e.transactions i (slice_index_or b.counts i 0)) same
    b.each in
    a.is
    ∙ ap (λ n. audit_report (names_of d.texts) d.start d.transactions n a.counts)
    (one_number d.start d.transactions 0 b.rounds a.rounds counted a.counted)
    ∙ ap (audit_report (names_of d.texts) d.start d.transactions b.rounds)
    (one_list d.start d.transactions a.counts b.counts a.all all a.each each)
    ∙ ap (λ e. audit_report (names_of e.texts) e.start e.transactions b.rounds b.counts) (sym same)
    ∙ sym b.is

one_why : OneTextLaw IsWhyOf
one_why bytes first second a b =
    let same : a.document ≡ b.document = documents_alike (reading bytes) a.document b.document a.reads b.reads in
    let d = b.document in
    determined (names_of d.texts) d.start d.transactions second first b.is
    (subst (λ e. IsWhyText (names_of e.texts) e.start e.transactions first) same a.is)

one_shown : (audit : Bool) → OneTextLaw (IsShownOf audit)
one_shown false = one_report
one_shown true = one_audit

pub one_explained : (audit : Bool) → OneTextLaw (IsExplainedOf audit)
one_explained audit bytes first second a b =
    a.is
    ∙ ap (λ front. front ++ a.why) (one_shown audit bytes a.shown b.shown a.shown_is b.shown_is)
    ∙ ap (λ back. b.shown ++ back) (one_why bytes a.why b.why a.why_is b.why_is)
    ∙ sym b.is

pub one_plain : OneTextLaw IsPlainReportOf
one_plain bytes first second a b =
    let same : a.document ≡ b.document = documents_alike (reading bytes) a.document b.document a.reads b.reads in
    a.is ∙ ap (λ e. plain_report (names_of e.texts) e.start e.transactions) same ∙ sym b.is

pub one_carried : OneTextLaw IsCarriedOf
one_carried bytes first second a b =
    let same : a.document ≡ b.document = documents_alike (reading bytes) a.document b.document a.reads b.reads in
    a.is ∙ ap (λ e. carried_text (carried_version e.version) (names_of e.texts) (end_of e)) same ∙ sym b.is

pub one_check : OneTextLaw IsCheckOf
one_check bytes first second a b =
    let same : a.document ≡ b.document = documents_alike (reading bytes) a.document b.document a.reads b.reads in
    a.is ∙ ap (λ e. check_text (length e.start) (length e.transactions) (all_operations e.transactions)) same ∙ sym b.is

-- one first fault
faults_alike : (r : Result Document Fault) (f g : Fault) → r ≡ Err f → r ≡ Err g → f ≡ g
faults_alike r f g is also = cc

pub one_fault : OneFaultLaw IsFaultOf
one_fault bytes first second is also = faults_alike (reading bytes) first second is also

pub report_faultless : FaultlessLaw IsReportOf IsFaultOf
report_faultless bytes text fault a refused = read_no_fault (reading bytes) a.document fault a.reads refused

pub audit_faultless : FaultlessLaw IsAuditOf IsFaultOf
audit_faultless bytes text fault a refused = read_no_fault (reading bytes) a.document fault a.reads refused

pub explained_faultless : (audit : Bool) → FaultlessLaw (IsExplainedOf audit) IsFaultOf
explained_faultless audit bytes text fault a refused = read_no_fault (reading bytes) a.why_is.document fault a.why_is.reads refused

pub plain_faultless : FaultlessLaw IsPlainReportOf IsFaultOf
plain_faultless bytes text fault a refused = read_no_fault (reading bytes) a.document fault a.reads refused

pub check_faultless : FaultlessLaw IsCheckOf IsFaultOf
check_faultless bytes text fault a refused = read_no_fault (reading bytes) a.document fault a.reads refused

-- one fault of the objects at the end
some_alike : {A : Type 0} (o : Option A) (x y : A) → o ≡ Some x → o ≡ Some y → x ≡ y
some_alike o x y is also = cc

none_or_some : {A : Type 0} (o : Option A) (x : A) → o ≡ None → o ≡ Some x → ⊥
none_or_some o x is also = cc

-- the first object at the end that can't start the document of it
abbrev unfit_end : Document → Option Misfit
unfit_end document = first_unfit (carried_version document.version) 0 0 (end_of document)

one_unfit : (bytes : List ℕ) (fault other : Fault) (name second : List ℕ) → IsUnfitOf bytes fault name → IsUnfitOf bytes other second
    → of_object fault name ≡ of_object other second
one_unfit bytes fault other name second a b =
    let same : b.document ≡ a.document = documents_alike (reading bytes) b.document a.document b.reads a.reads in
    let found : unfit_end a.document ≡ Some b.misfit = ap unfit_end (sym same) ∙ b.first in
    let misfit : a.misfit ≡ b.misfit = some_alike _ a.misfit b.misfit a.first found in
    ap₂ of_object (a.is ∙ ap (λ (m : Misfit). wrong_outside (unfit_wrong m.unfit)) misfit ∙ sym b.is)
    (a.named ∙ ap (λ (m : Misfit). (names_of a.document.texts).object m.place) misfit
    ∙ ap (λ (d : Document). (names_of d.texts).object b.misfit.place) (sym same) ∙ sym b.named)

pub one_carry_fault : OneFaultLaw IsCarryFaultOf
one_carry_fault bytes (of_first f) (of_first g) a b = ap of_first (one_fault bytes f g a b)
one_carry_fault bytes (of_first f) (of_object g name) a b = absurd (read_no_fault (reading bytes) b.document f b.reads a)
one_carry_fault bytes (of_object f name) (of_first g) a b = absurd (read_no_fault (reading bytes) a.document g a.reads b)
one_carry_fault bytes (of_object f name) (of_object g second) a b = one_unfit bytes f g name second a b
one_carry_fault bytes (of_next f) second a b = absurd a
one_carry_fault bytes (of_first f) (of_next g) a b = absurd b
one_carry_fault bytes (of_object f name) (of_next g) a b = absurd b

pub carried_faultless : FaultlessLaw IsCarriedOf IsCarryFaultOf
carried_faultless bytes text (of_first fault) a b = read_no_fault (reading bytes) a.document fault a.reads b
carried_faultless bytes text (of_next fault) a b = b
carried_faultless bytes text (of_object fault name) a b =
    let same : b.document ≡ a.document = documents_alike (reading bytes) b.document a.document b.reads a.reads in
    none_or_some (unfit_end b.document) b.misfit (ap unfit_end same ∙ a.fits) b.first

-- ---- carrying into a next document

-- the same bytes spell the same documents, so they give the same starts
module _ (first next : List ℕ) where
  abbrev Pair : Type 0
  Pair = Document × Document

  abbrev pair_of : AreBothRead first next → Pair
  pair_of both = (both.document, both.next_document)

  both_alike : (a b : AreBothRead first next) → pair_of a ≡ pair_of b
  both_alike a b =
      ap₂ (λ (d e : Document). (d, e)) (documents_alike (reading first) a.document b.document a.reads b.reads)
      (documents_alike (reading next) a.next_document b.next_document a.next_reads b.next_reads)

  abbrev starts_at : Pair → List StartOf
  starts_at p = starts_into p.0 p.1

  abbrev version_at : Pair → ℕ
  version_at p = version_into p.0 p.1

  abbrev wrong_at : Pair → Option (Wrong × ℕ)
  wrong_at p = wrong_start (version_at p) p.1.start (starts_at p)

  abbrev text_at : Pair → List ℕ
  text_at p = joined_text (version_at p) (starts_at p) next

  abbrev most_at : Pair → ℕ
  most_at p = (limits_of (version_at p)).bytes

  pub one_into : (text other : List ℕ) → IsCarriedIntoOf first next text → IsCarriedIntoOf first next other → text ≡ other
  one_into text other a b = a.is ∙ ap text_at (both_alike a.both b.both) ∙ sym b.is

  unfit_and_fits : (fault : Fault) (name : List ℕ) → IsUnfitInto first next fault name → (both : AreBothRead first next)
      → wrong_at (pair_of both) ≡ None → ⊥
  unfit_and_fits fault name a both fits =
      none_or_some _ (a.wrong, a.place) (ap wrong_at (both_alike a.both both) ∙ fits) a.first_wrong

  one_unfit_into : (fault other : Fault) (name second : List ℕ) → IsUnfitInto first next fault name
      → IsUnfitInto first next other second → of_object fault name ≡ of_object other second
  one_unfit_into fault other name second a b =
      let same = both_alike a.both b.both in
      let found = some_alike _ (a.wrong, a.place) (b.wrong, b.place) a.first_wrong (ap wrong_at same ∙ b.first_wrong) in
      ap₂ of_object (a.is ∙ ap (λ (p : Wrong × ℕ). wrong_outside p.0) found ∙ sym b.is)
      (a.named ∙ ap₂ (λ p (q : Wrong × ℕ). name_at (starts_at p) q.1) same found ∙ sym b.named)

  first_is_read : (fault : Fault) (d : Document) → IsFaultOf first fault → reading first ≡ Ok d → ⊥
  first_is_read fault d refused reads = read_no_fault (reading first) d fault reads refused

  next_is_read : (fault : Fault) (d : Document) → IsFaultOf next fault → reading next ≡ Ok d → ⊥
  next_is_read fault d refused reads = read_no_fault (reading next) d fault reads refused

  one_next : (fault other : Fault) → (IsNextFaultOf first next fault ⊎ IsTooLongInto first next fault)
      → (IsNextFaultOf first next other ⊎ IsTooLongInto first next other) → fault ≡ other
  one_next fault other (inl a) (inl b) = faults_alike (reading next) fault other a.refuses b.refuses
  one_next fault other (inl a) (inr b) = absurd (next_is_read fault b.both.next_document a.refuses b.both.next_reads)
  one_next fault other (inr a) (inl b) = absurd (next_is_read other a.both.next_document b.refuses a.both.next_reads)
  one_next fault other (inr a) (inr b) = a.is ∙ sym b.is

  next_and_unfit : (fault other : Fault) (name : List ℕ) → (IsNextFaultOf first next fault ⊎ IsTooLongInto first next fault)
      → IsUnfitInto first next other name → ⊥
  next_and_unfit fault other name (inl a) b = next_is_read fault b.both.next_document a.refuses b.both.next_reads
  next_and_unfit fault other name (inr a) b = unfit_and_fits other name b a.both a.fits

  first_and_next : (fault other : Fault) → IsFaultOf first fault → (IsNextFaultOf first next other ⊎ IsTooLongInto first next other) → ⊥
  first_and_next fault other a (inl b) = first_is_read fault b.document a b.reads
  first_and_next fault other a (inr b) = first_is_read fault b.both.document a b.both.reads

  pub one_into_fault : (one other : Refusal) → IsCarryIntoFaultOf first next one → IsCarryIntoFaultOf first next other → one ≡ other
  one_into_fault (of_first f) (of_first g) a b = ap of_first (faults_alike (reading first) f g a b)
  one_into_fault (of_first f) (of_next g) a b = absurd (first_and_next f g a b)
  one_into_fault (of_first f) (of_object g name) a b = absurd (first_is_read f b.both.document a b.both.reads)
  one_into_fault (of_next f) (of_first g) a b = absurd (first_and_next g f b a)
  one_into_fault (of_next f) (of_next g) a b = ap of_next (one_next f g a b)
  one_into_fault (of_next f) (of_object g name) a b = absurd (next_and_unfit f g name a b)
  one_into_fault (of_object f name) (of_first g) a b = absurd (first_is_read g a.both.document b a.both.reads)
  one_into_fault (of_object f name) (of_next g) a b = absurd (next_and_unfit g f name b a)
  one_into_fault (of_object f name) (of_object g second) a b = one_unfit_into f g name second a b

  long_or_not : (n most : ℕ) → most < n → n ≤ most → ⊥
  long_or_not n most long short = omega arith

  pub into_faultless : (text : List ℕ) (refusal : Refusal) → IsCarriedIntoOf first next text → ¬ IsCarryIntoFaultOf first next refusal
  into_faultless text (of_first f) a b = first_is_read f a.both.document b a.both.reads
  into_faultless text (of_next f) a (inl b) = next_is_read f a.both.next_document b.refuses a.both.next_reads
  into_faultless text (of_next f) a (inr b) =
      let short = subst (λ t. length t ≤ most_at (pair_of a.both)) a.is a.short in
      long_or_not _ _ b.long (subst (λ p. length (text_at p) ≤ most_at p) (both_alike a.both b.both) short)
  into_faultless text (of_object f name) a b = unfit_and_fits f name b a.both a.fits
