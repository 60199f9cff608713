-- The lines of the transactions, objects and run counts that are left to write.
use Rattle.std.proofs.Common.{◌≡◌, ℕ, zero, suc, ◌+◌, ◌-◌, ◌<◌, ◌≤◌, List, [], ◌∷◌, ◌++◌, length, get_or, drop, map, Some, refl, sym, ap}
use Rattle.std.proofs.Common.{◌∙◌, append_assoc, arith, inl, inr}
use Rattle.std.proofs.Math.Nat.{min-le_left, min-le_right, min-eq_left, min-eq_right, le_of_eq, le_of_lt}
use Rattle.std.proofs.lemmas.Bool.{cases_lt, lt-ltb, le-ltb}
use Rattle.std.proofs.lemmas.List.{drop-drop, length-drop}
use Rattle.std.specs.Prelude.{codes, slice_get}
use Rattle.std.specs.Fmt.{decimal}
use Rattle.std.proofs.Math.ListN.{drop_of_length-le}
use Rattle.std.proofs.lemmas.Option.{slice_get_within, get_or_from_slice_get}
use Rattle.objects.specs.Objects.{kind_of_value}
use Rattle.objects.specs.declared.kind.Value.{Value}
use Rattle.meaning.specs.Trees as meant
use Rattle.meaning.specs.Shown.{Shown, end_of}
use Rattle.meaning.specs.Words.{Naming, value_text}
use Rattle.vocabulary.specs.Words.{kind_text}
use Rattle.meaning.specs.declared.end.End.{End}
use Rattle.meaning.specs.Texts.{line, outcome_text, steps_text, transactions_text, objects_text, plain_text, check_text}
use Rattle.batch.specs.Views.{block_view, record_view, steps_view}
use Rattle.batch.specs.declared.tree.Block.{Block}
use Rattle.batch.specs.declared.record.Record.{Record}
use Rattle.batch.proofs.CountLemmas.{left}
use Rattle.batch.proofs.ViewLemmas.{block_view-is, record_view-is}
use Rattle.report.specs.declared.cuts.Cut.{Cut}
use Rattle.report.specs.Parts.{first_from, last_cut, lines_from, objects_from, start, steps_from, transaction_from, transactions}
use Rattle.report.specs.Parts.{transactions_from}
use Rattle.report.proofs.TextLemmas.{end_of-record_view, steps_from-start, steps_from-end}

module _ (names : Naming) where
  -- ---- the lines of a transaction

  transaction_text : (n : ℕ) (x : Block) (y : Record) (blocks : List Block) (records : List Record)
      → line (codes "T " ++ decimal n ++ outcome_text names (end_of (record_view y)))
      ++ steps_text names (decimal n) 1 (block_view x) (record_view y) ≡ first_from names n (x ∷ blocks) (y ∷ records) 0
  transaction_text n x y blocks records =
      let own : End → List ℕ = λ outcome. line (codes "T " ++ decimal n ++ outcome_text names outcome) in
      let steps : meant.Block → Shown → List ℕ = steps_text names (decimal n) 1 in
      ap (λ outcome. own outcome ++ steps (block_view x) (record_view y)) (end_of-record_view y)
      ∙ ap (λ block. own y.outcome ++ steps block (record_view y)) (block_view-is x)
      ∙ ap (λ done. own y.outcome ++ steps (steps_view x.steps.items) done) (record_view-is y)
      ∙ ap (λ text. own y.outcome ++ text) (sym (steps_from-start names (decimal n) x.steps.items y.taken.items y.outcome))

  first_and_others : (n : ℕ) (blocks : List Block) (records : List Record) → 0 < length blocks → 0 < length records
      → transactions_text names n (map block_view blocks) (map record_view records)
      ≡ first_from names n blocks records 0
      ++ transactions_text names (n + 1) (map block_view (drop 1 blocks)) (map record_view (drop 1 records))
  first_and_others n [] records some some' = absurd (omega (arith, some))
  first_and_others n (x ∷ blocks) [] some some' = absurd (omega (arith, some'))
  first_and_others n (x ∷ blocks) (y ∷ records) some some' =
      ap (λ text. text ++ transactions_text names (n + 1) (map block_view blocks) (map record_view records))
      (transaction_text n x y blocks records)

  transactions_from-more : (e : ℕ) (blocks : List Block) (records : List Record) → e < length blocks → e < length records
      → transactions_from names blocks records e
      ≡ transaction_from names blocks records e 0 ++ transactions_from names blocks records (e + 1)
  unfolding transactions_from transaction_from
  transactions_from-more e blocks records lt lt' =
      first_and_others (e + 1) (drop e blocks) (drop e records) (omega (arith, length-drop e blocks, lt))
      (omega (arith, length-drop e records, lt'))
      ∙ ap (λ bs. first_from names (e + 1) (drop e blocks) (drop e records) 0
      ++ transactions_text names (e + 1 + 1) (map block_view bs) (map record_view (drop 1 (drop e records)))) (drop-drop 1 e blocks)
      ∙ ap (λ rs. first_from names (e + 1) (drop e blocks) (drop e records) 0
      ++ transactions_text names (e + 1 + 1) (map block_view (drop (e + 1) blocks)) (map record_view rs)) (drop-drop 1 e records)

  -- after a transaction's own line
  later : (n : ℕ) (x : Block) (y : Record) (blocks : List Block) (records : List Record) (i : ℕ) → 0 < i
      → first_from names n (x ∷ blocks) (y ∷ records) i
      ≡ steps_from names (decimal n) (i - 1) x.steps.items y.taken.items y.outcome
  later n x y blocks records zero some = absurd (omega (arith, some))
  later n x y blocks records (suc i) some =
      ap (λ k. steps_from names (decimal n) k x.steps.items y.taken.items y.outcome) (omega arith)

  ended : (n : ℕ) (blocks : List Block) (y : Record) (records : List Record) (i : ℕ) → length y.taken.items < i
      → first_from names n blocks (y ∷ records) i ≡ []
  ended n [] y records i lt = refl
  ended n (x ∷ blocks) y records i lt = later n x y blocks records i (omega (arith, lt))
      ∙ steps_from-end names (decimal n) (i - 1) x.steps.items y.taken.items y.outcome (omega (arith, lt))

  pub transaction_from-end : (e : ℕ) (blocks : List Block) (records : List Record) (y : Record) → e < length records
      → y ≡ get_or records e y → (i : ℕ) → length y.taken.items < i → transaction_from names blocks records e i ≡ []
  unfolding transaction_from
  transaction_from-end e blocks records y lt is i behind =
      ap (λ rs. first_from names (e + 1) (drop e blocks) rs i) (left records e y lt is)
      ∙ ended (e + 1) (drop e blocks) y (drop (e + 1) records) i behind

  -- a transaction at its place
  module _ (e : ℕ) (blocks : List Block) (records : List Record) (x : Block) (y : Record) (lt : e < length blocks)
      (is : x ≡ get_or blocks e x) (lt' : e < length records) (is' : y ≡ get_or records e y) where
    abbrev steps_left : ℕ → List ℕ
    steps_left i = steps_from names (decimal (e + 1)) i x.steps.items y.taken.items y.outcome

    first-is : (i : ℕ) → transaction_from names blocks records e i
        ≡ first_from names (e + 1) (x ∷ drop (e + 1) blocks) (y ∷ drop (e + 1) records) i
    unfolding transaction_from
    first-is i = ap (λ bs. first_from names (e + 1) bs (drop e records) i) (left blocks e x lt is)
        ∙ ap (λ rs. first_from names (e + 1) (x ∷ drop (e + 1) blocks) rs i) (left records e y lt' is')

    -- its own line, and then those of its steps
    pub transaction_from-own : transaction_from names blocks records e 0
        ≡ line (codes "T " ++ decimal (e + 1) ++ outcome_text names y.outcome) ++ steps_left 0
    transaction_from-own = first-is 0

    -- those of its steps
    pub transaction_from-steps : (i : ℕ) → 0 < i → transaction_from names blocks records e i ≡ steps_left (i - 1)
    transaction_from-steps i some = first-is i ∙ later (e + 1) x y (drop (e + 1) blocks) (drop (e + 1) records) i some

  no_record_text : (n : ℕ) (blocks : List meant.Block) → transactions_text names n blocks [] ≡ []
  no_record_text n [] = refl
  no_record_text n (block ∷ blocks) = refl

  no_block_text : (n : ℕ) (records : List Shown) → transactions_text names n [] records ≡ []
  no_block_text n [] = refl
  no_block_text n (shown ∷ records) = refl

  -- none is left
  pub transactions_from-end : (blocks : List Block) (records : List Record)
      → transactions_from names blocks records (transactions blocks records) ≡ []
  unfolding transactions_from
  transactions_from-end blocks records =
      let t = transactions blocks records in
      elim (cases_lt (length blocks) (length records)) [
        | inl lt ↦ ap (λ bs. transactions_text names (t + 1) (map block_view bs) (map record_view (drop t records)))
            (drop_of_length-le blocks (le_of_eq (sym (min-eq_left (le_of_lt lt)))))
            ∙ no_block_text (t + 1) (map record_view (drop t records))
        | inr le ↦ ap (λ rs. transactions_text names (t + 1) (map block_view (drop t blocks)) (map record_view rs))
            (drop_of_length-le records (le_of_eq (sym (min-eq_right le))))
            ∙ no_record_text (t + 1) (map block_view (drop t blocks))
      ]

  pub objects_from-more : (i : ℕ) (values : List Value) (value : Value) → slice_get values i ≡ Some value
      → objects_from names values i
      ≡ line (codes "= " ++ names.object i ++ codes " " ++ kind_text (kind_of_value value) ++ codes " " ++ value_text names value)
      ++ objects_from names values (i + 1)
  unfolding objects_from
  objects_from-more i values value is = ap (objects_text names i) (left values i value (slice_get_within values i value is)
      (sym (get_or_from_slice_get values i value value is)))

  pub objects_from-end : (values : List Value) → objects_from names values (length values) ≡ []
  unfolding objects_from
  objects_from-end values = ap (objects_text names (length values)) (drop_of_length-le values (le_of_eq refl))

  -- ---- the lines from a cut on

  module _ (blocks : List Block) (records : List Record) (objects : List Value) where
    abbrev lines : Cut → List ℕ
    lines cut = lines_from names blocks records objects cut

    -- in a transaction
    pub lines_from-in : (cut : Cut) → cut.entry < transactions blocks records
        → lines cut ≡ transaction_from names blocks records cut.entry cut.line
        ++ (transactions_from names blocks records (cut.entry + 1) ++ objects_from names objects 0)
    unfolding lines_from
    lines_from-in cut lt = rw (lt-ltb cut.entry (transactions blocks records) lt) refl

    -- among the objects
    pub lines_from-objects : (cut : Cut) → transactions blocks records ≤ cut.entry → lines cut ≡ objects_from names objects cut.line
    unfolding lines_from
    lines_from-objects cut le = rw (le-ltb cut.entry (transactions blocks records) le) refl

    -- before an entry
    lines_from-entry : (e : ℕ) → e ≤ transactions blocks records
        → lines (record { entry = e; line = 0 }) ≡ transactions_from names blocks records e ++ objects_from names objects 0
    lines_from-entry e le =
        let cut : Cut = record { entry = e; line = 0 } in
        let left_part : transactions blocks records ≤ length blocks = min-le_left (length blocks) (length records) in
        let right_part : transactions blocks records ≤ length records = min-le_right (length blocks) (length records) in
        elim (cases_lt e (transactions blocks records)) [
          | inl lt ↦ lines_from-in cut lt
              ∙ sym (append_assoc (transaction_from names blocks records e 0) (transactions_from names blocks records (e + 1))
              (objects_from names objects 0))
              ∙ ap (λ text. text ++ objects_from names objects 0)
              (sym (transactions_from-more e blocks records (omega (arith, lt, left_part)) (omega (arith, lt, right_part))))
          | inr ge ↦ lines_from-objects cut ge
              ∙ ap (λ text. text ++ objects_from names objects 0)
              (sym (ap (transactions_from names blocks records) (omega (arith, le, ge)) ∙ transactions_from-end blocks records))
        ]

    -- after an entry
    pub lines_from-next : (cut : Cut) → cut.entry < transactions blocks records
        → lines cut ≡ transaction_from names blocks records cut.entry cut.line ++ lines (record { entry = cut.entry + 1; line = 0 })
    lines_from-next cut lt = lines_from-in cut lt ∙ ap (λ text. transaction_from names blocks records cut.entry cut.line ++ text)
        (sym (lines_from-entry (cut.entry + 1) (omega (arith, lt))))

    pub lines_from-start : lines start ≡ plain_text names (map block_view blocks) (map record_view records) objects
    unfolding transactions_from objects_from
    lines_from-start = lines_from-entry 0 (omega arith)

    pub lines_from-last : lines (last_cut blocks records objects) ≡ []
    lines_from-last = lines_from-objects (last_cut blocks records objects) (omega arith) ∙ objects_from-end objects

-- the beginning of what is left is exchanged for what is written
pub exchanged : (out new one two rest all : List ℕ) → new ++ two ≡ out ++ one → out ++ (one ++ rest) ≡ all → new ++ (two ++ rest) ≡ all
exchanged out new one two rest all wrote is =
    sym (append_assoc new two rest) ∙ ap (λ text. text ++ rest) wrote ∙ append_assoc out one rest ∙ is

-- the line of what a document holds
counted_line : (objects transactions operations : ℕ) → check_text objects transactions operations
    ≡ codes "ok objects "
    ++ (decimal objects ++ (codes " transactions "
    ++ (decimal transactions ++ (codes " operations " ++ (decimal operations ++ codes "\n")))))
counted_line objects transactions operations =
    let a = codes "ok objects " in let b = decimal objects in let c = codes " transactions " in let d = decimal transactions in
    let e = codes " operations " in let f = decimal operations in let g = codes "\n" in
    append_assoc (a ++ b ++ c ++ d ++ e) f g ∙ append_assoc (a ++ b ++ c ++ d) e (f ++ g) ∙ append_assoc (a ++ b ++ c) d (e ++ (f ++ g))
    ∙ append_assoc (a ++ b) c (d ++ (e ++ (f ++ g))) ∙ append_assoc a b (c ++ (d ++ (e ++ (f ++ g))))

pub counted_text : (text : List ℕ) (objects transactions operations o t p : ℕ)
    → text ≡ codes "ok objects "
    ++ (decimal o ++ (codes " transactions " ++ (decimal t ++ (codes " operations " ++ (decimal p ++ codes "\n")))))
    → o ≡ objects → t ≡ transactions → p ≡ operations → text ≡ check_text objects transactions operations
counted_text text objects transactions operations o t p wrote is_o is_t is_p =
    wrote ∙ sym (counted_line o t p) ∙ ap (λ n. check_text n t p) is_o ∙ ap (λ n. check_text objects n p) is_t
    ∙ ap (check_text objects transactions) is_p
