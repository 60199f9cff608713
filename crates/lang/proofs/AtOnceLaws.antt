-- Ranges of a document that threads read, put together.
use Rattle.std.proofs.Common.{◌≡◌, ◌≤◌, ◌<◌, ◌+◌, ◌-◌, inl, inr, ℕ, suc, List, [], ◌∷◌, ◌++◌, length, map, take, drop, get_or}
use Rattle.std.proofs.Common.{Result, Ok, refl, sym, subst, ap, ◌∙◌, arith}
use Rattle.std.proofs.lemmas.List.{drop-drop, drop_more, take-append-drop, take_rest}
use Rattle.std.specs.Prelude.{IfOk}
use Rattle.json.specs.Lex.{tokens}
use Rattle.json.specs.Token.{Token, begin_array, end_array, end_object}
use Rattle.doc_tree.specs.Scope.{Setting}
use Rattle.doc_cuts.specs.Whole.{is_left}
use Rattle.doc_cuts.proofs.Places.{tokens_cut}
use Rattle.doc_tokens.specs.Ranges.{AreRead, Reached, left_by}
use Rattle.doc_tokens.proofs.RangeLemmas.{array_whole, read_on}
use Rattle.doc_tokens.specs.declared.stop.Stop.{Stop}
use Rattle.doc_merge.specs.RangeReads.{AreMerged, IsReadAlone, text_of}
use Rattle.doc_merge.specs.declared.ranges.RangeRead.{RangeRead}
use Rattle.lang.specs.AtOnce.{AreReadAlone, EndsAtComma, EndsText, Follow}

-- the text from a place on is the range up to a comma, the comma, and what is after it
pub text_from : (t : List ℕ) (begin end : ℕ) → begin ≤ end → end < length t → get_or t end 0 ≡ 44
    → drop begin t ≡ take (end - begin) (drop begin t) ++ (44 ∷ drop (end + 1) t)
text_from t begin end ordered within comma =
    let place : begin + (end - begin) ≡ end = omega arith in
    sym (take-append-drop (end - begin) (drop begin t))
    ∙ ap (λ l. take (end - begin) (drop begin t) ++ l)
    (drop-drop (end - begin) begin t ∙ ap (λ n. drop n t) place ∙ drop_more t end 0 within ∙ ap (λ x. x ∷ drop (end + 1) t) comma)

module _ (setting : Setting) (text : List ℕ) where
  -- the text from a place on makes whole transactions from p to q, and then the document's end
  abbrev pub AreThrough : ℕ → Reached → Reached → Type 0
  AreThrough begin p q = ((rest : List Token) × (tokens (drop begin text) ≡ begin_array ∷ rest))
      × AreRead setting (tokens (drop begin text)) (end_array ∷ end_object ∷ []) p q

  -- the text of a range
  range_is : (read : RangeRead) (begin : ℕ) → read.begin ≡ begin → text_of text read ≡ take (read.end - begin) (drop begin text)
  range_is read begin at = ap (λ b. take (read.end - b) (drop b text)) at

  -- the last range
  last_through : (read : RangeRead) (begin : ℕ) (p q : Reached) → read.begin ≡ begin → EndsText text read → IsReadAlone setting text read
      → AreRead setting (tokens (text_of text read)) (left_by read.last) p q → AreThrough begin p q
  last_through read begin p q at ends alone here =
      let whole : text_of text read ≡ drop begin text =
      range_is read begin at ∙ ap (λ n. take (n - begin) (drop begin text)) ends.1 ∙ take_rest text begin in (
        (alone.rest, ap tokens (sym whole) ∙ alone.begins),
        subst (λ ts. AreRead setting ts (end_array ∷ end_object ∷ []) p q) (ap tokens whole)
            (subst (λ e. AreRead setting (tokens (text_of text read)) (left_by e) p q) ends.0 here),
      )

  -- a range before others
  then_through : (read : RangeRead) (begin : ℕ) (p next q : Reached) → read.begin ≡ begin → EndsAtComma text read
      → IsReadAlone setting text read → AreRead setting (tokens (text_of text read)) (left_by read.last) p next
      → AreThrough (read.end + 1) next q → AreThrough begin p q
  unfolding is_left
  then_through read begin p next q at ends alone here later =
      let range = text_of text read in
      let behind = drop (read.end + 1) text in
      let ordered : begin ≤ read.end = subst (λ b. b ≤ read.end) at alone.ordered in
      let first = subst (λ e. AreRead setting (tokens range) (left_by e) p next) ends.0 here in
      let split : drop begin text ≡ range ++ (44 ∷ behind) =
      text_from text begin read.end ordered ends.1 ends.2 ∙ ap (λ l. l ++ (44 ∷ behind)) (sym (range_is read begin at)) in
      let both : tokens (drop begin text) ≡ tokens range ++ tokens behind =
      ap tokens split
      ∙ tokens_cut range behind later.0.0 (array_whole (tokens range) alone.rest alone.begins (first.whole refl)) later.0.1 in (
        (alone.rest ++ tokens behind, both ∙ ap (λ ts. ts ++ tokens behind) alone.begins),
        subst (λ ts. AreRead setting ts (end_array ∷ end_object ∷ []) p q) (sym both)
            (read_on setting (tokens range) (tokens behind) (end_array ∷ end_object ∷ []) p next q first later.1),
      )

  -- ranges that follow one another to the text's end
  pub all_through : (reads : List RangeRead) (begin : ℕ) (p q : Reached) → Follow text begin reads → AreReadAlone setting text reads
      → AreMerged setting reads p q → AreThrough begin p q
  all_through [] begin p q follow alone merged = absurd follow
  all_through (read ∷ reads) begin p q (at, inl (ends, none)) alone merged =
      let next = merged.0 in
      let same : next ≡ q = subst (λ l. AreMerged setting l next q) none merged.2 in
      last_through read begin p q at ends alone.0
      (subst (λ r. AreRead setting (tokens (text_of text read)) (left_by read.last) p r) same
      (merged.1 (tokens (text_of text read)) alone.0.read_so))
  all_through (read ∷ reads) begin p q (at, inr (ends, follow)) alone merged =
      let next = merged.0 in
      then_through read begin p next q at ends alone.0 (merged.1 (tokens (text_of text read)) alone.0.read_so)
      (all_through reads (read.end + 1) next q follow alone.1 merged.2)

  -- each range was read, or there was a stop
  abbrev AllFound : List (Result RangeRead Stop) → Type 0
  AllFound found = (i : ℕ) (d : Result RangeRead Stop) → i < length found → IfOk (get_or found i d) (IsReadAlone setting text)

  -- where there was no stop
  each_alone : (reads : List RangeRead) → AllFound (map Ok reads) → AreReadAlone setting text reads
  each_alone [] each = tt
  each_alone (read ∷ reads) each = (each 0 (Ok read) (omega arith), each_alone reads (λ i d less. each (suc i) d (omega (arith, less))))

  -- the same of what is all that was found
  pub all_alone : (reads : List RangeRead) (found : List (Result RangeRead Stop)) → map Ok reads ≡ found → AllFound found
      → AreReadAlone setting text reads
  all_alone reads found same each = each_alone reads (subst AllFound (sym same) each)
