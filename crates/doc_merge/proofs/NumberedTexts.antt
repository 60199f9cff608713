-- Texts that are numbered in reading order, and found again by their numbers.
use Rattle.std.proofs.Common.{◌≡◌, ℕ, suc, ◌+◌, ◌<◌, ◌≤◌, ◌||◌, Bool, true, false, not, cond, List, [], ◌∷◌, ◌++◌, length, get_or, refl}
use Rattle.std.proofs.Common.{sym, ap, subst, ◌∙◌, arith, append-nil, append_assoc, length-append}
use Rattle.std.specs.List.{position_or_len}
use Rattle.std.specs.Str.{bytes_eq}
use Rattle.std.specs.Prelude.{nat_lt}
use Rattle.std.proofs.lemmas.Bool.{lt-ltb, ltb-false}
use Rattle.std.proofs.lemmas.List.{get_or_append_left, get_or_push}
use Rattle.std.proofs.lemmas.Slice.Eq.{bytes_eq-Decides}
use Rattle.batch.specs.Names.{Texts, names_of}
use Rattle.doc_tree.specs.Scope.{Numbers, Table, fit, is_listed, number_of, with_text}
use Rattle.doc_tree.specs.Spelled.{item_of}
use Rattle.doc_tree.proofs.TableLemmas.{unlisted_text}

-- a number below the greatest stands for itself
pub fit_same : (n : ℕ) → n < 4294967295 → fit n ≡ n
fit_same n h = ap (λ b. cond b n 4294967295) (lt-ltb n 4294967295 h)

first_below : (text : List ℕ) (table : Table) → is_listed text table ≡ true → position_or_len (bytes_eq text) table < length table
first_below text [] h = cc
first_below text (t ∷ table) h = by (bytes_eq text t) (first_below text table) h
  where
    by : (b : Bool) → (is_listed text table ≡ true → position_or_len (bytes_eq text) table < length table)
        → (b || is_listed text table) ≡ true → cond (not b) (1 + position_or_len (bytes_eq text) table) 0 < length (t ∷ table)
    by true later h = omega arith
    by false later h = omega (arith, later h)

first_at_most : (text : List ℕ) (table : Table) → position_or_len (bytes_eq text) table ≤ length table
first_at_most text [] = omega arith
first_at_most text (t ∷ table) = by (bytes_eq text t) (first_at_most text table)
  where
    by : (b : Bool) → position_or_len (bytes_eq text) table ≤ length table
        → cond (not b) (1 + position_or_len (bytes_eq text) table) 0 ≤ length (t ∷ table)
    by true later = omega arith
    by false later = omega (arith, later)

fit_at_most : (n : ℕ) → fit n ≤ n
fit_at_most n = by (nat_lt n 4294967295) refl
  where
    by : (b : Bool) → nat_lt n 4294967295 ≡ b → cond b n 4294967295 ≤ n
    by true e = omega arith
    by false e = ltb-false n 4294967295 e

-- the number of a text is below how many there are, once it is in
pub number_below : (text : List ℕ) (table : Table) → number_of text table < length (with_text text table)
number_below text table = by (is_listed text table) refl
  where
    by : (b : Bool) → is_listed text table ≡ b → number_of text table < length (cond b table (table ++ text ∷ []))
    by true e = omega (arith, fit_at_most (position_or_len (bytes_eq text) table), first_below text table e)
    by false e = omega (
      arith,
      fit_at_most (position_or_len (bytes_eq text) table),
      first_at_most text table,
      length-append table
          (text ∷ []),
    )

-- the table with more texts after it
abbrev pub Grows : Table → Table → Type 0
Grows old new = (more : Table) × (new ≡ old ++ more)

pub grows_none : (table : Table) → Grows table table
grows_none table = ([], sym (append-nil table))

pub grows_both : (a b c : Table) → Grows a b → Grows b c → Grows a c
grows_both a b c first second = (first.0 ++ second.0, second.1 ∙ ap (λ t. t ++ second.0) first.1 ∙ append_assoc a first.0 second.0)

pub grows_text : (text : List ℕ) (table : Table) → Grows table (with_text text table)
grows_text text table = by (is_listed text table)
  where
    by : (b : Bool) → Grows table (cond b table (table ++ text ∷ []))
    by true = grows_none table
    by false = (text ∷ [], refl)

pub one_more : (text : List ℕ) (table : Table) → length (with_text text table) ≤ length table + 1
one_more text table = by (is_listed text table)
  where
    by : (b : Bool) → length (cond b table (table ++ text ∷ [])) ≤ length table + 1
    by true = omega arith
    by false = omega (arith, length-append table (text ∷ []))

-- where a text is listed
pub record IsAt (text : List ℕ) (table : Table) (n : ℕ) : Type 0 where
  pub below : n < length table
  pub there : get_or table n [] ≡ text

at_first : (b : Bool) (text t : List ℕ) (table : Table) (n : ℕ) → (b ≡ true → text ≡ t) → (b ≡ false → IsAt text table n)
    → IsAt text (t ∷ table) (cond (not b) (1 + n) 0)
at_first true text t table n same later = record { below = omega arith; there = sym (same refl) }
at_first false text t table n same later =
    let rest = later refl in
    let below = rest.below in
    let next : suc n ≡ 1 + n = omega arith in
    subst (IsAt text (t ∷ table)) next (record { below = omega arith; there = rest.there })

pub listed_at : (text : List ℕ) (table : Table) → is_listed text table ≡ true → IsAt text table (position_or_len (bytes_eq text) table)
listed_at text [] e = cc
listed_at text (t ∷ table) e = at_first (bytes_eq text t) text t table (position_or_len (bytes_eq text) table) ((bytes_eq-Decides text t).0)
    (λ no. listed_at text table (sym (ap (λ b. b || is_listed text table) no) ∙ e))

number_at : (text : List ℕ) (table : Table) → length (with_text text table) ≤ 4294967295
    → get_or (with_text text table) (number_of text table) [] ≡ text
number_at text table = by (is_listed text table) refl
  where
    by : (b : Bool) → is_listed text table ≡ b → length (cond b table (table ++ text ∷ [])) ≤ 4294967295
        → get_or (cond b table (table ++ text ∷ [])) (number_of text table) [] ≡ text
    by true e few =
        let at = listed_at text table e in
        let below = at.below in
        ap (λ n. get_or table n []) (fit_same (position_or_len (bytes_eq text) table) (omega arith)) ∙ at.there
    by false e few =
        let last = unlisted_text text table e in
        let size = length-append table (text ∷ []) in
        ap (λ n. get_or (table ++ text ∷ []) n []) (fit_same (position_or_len (bytes_eq text) table) (omega arith))
        ∙ get_or_push table text [] (position_or_len (bytes_eq text) table) (sym last)

-- a text is found at its number in any later table
pub text_later : (text : List ℕ) (table later : Table) → Grows (with_text text table) later → length later ≤ 4294967295
    → get_or later (number_of text table) [] ≡ text
text_later text table later grows few =
    let size = ap (λ t. length t) grows.1 ∙ length-append (with_text text table) grows.0 in
    ap (λ t. get_or t (number_of text table) []) grows.1
    ∙ get_or_append_left (with_text text table) grows.0 [] (number_of text table) (number_below text table)
    ∙ number_at text table (omega (arith, size))

-- an item has its name by any later table
pub item_named : (text : List ℕ) (numbers : Numbers) (texts : Texts) → Grows (with_text text numbers.items) texts.items
    → length texts.items ≤ 4294967295 → (names_of texts).item (item_of text numbers) ≡ text
item_named text numbers texts grows few = text_later text numbers.items texts.items grows few

-- a text that is listed stays so
pub listed_kept : (text : List ℕ) (table more : Table) → is_listed text table ≡ true → is_listed text (table ++ more) ≡ true
listed_kept text [] more listed = cc
listed_kept text (t ∷ table) more listed = by (bytes_eq text t) (listed_kept text table more) listed
  where
    by : (b : Bool) → (is_listed text table ≡ true → is_listed text (table ++ more) ≡ true) → (b || is_listed text table) ≡ true
        → (b || is_listed text (table ++ more)) ≡ true
    by true later h = refl
    by false later h = later h

-- a text that is listed is first where it was, whatever follows
pub first_listed : (text : List ℕ) (table more : Table) → is_listed text table ≡ true
    → position_or_len (bytes_eq text) (table ++ more) ≡ position_or_len (bytes_eq text) table
first_listed text [] more e = cc
first_listed text (t ∷ table) more e = by (bytes_eq text t) (first_listed text table more) e
  where
    by : (b : Bool)
        → (is_listed text table ≡ true → position_or_len (bytes_eq text) (table ++ more) ≡ position_or_len (bytes_eq text) table)
        → (b || is_listed text table) ≡ true
        → cond (not b) (1 + position_or_len (bytes_eq text) (table ++ more)) 0 ≡ cond (not b) (1 + position_or_len (bytes_eq text) table) 0
    by true later h = refl
    by false later h = ap (λ n. 1 + n) (later h)

-- and one that was put last is first there
first_new : (text : List ℕ) (table more : Table) → is_listed text table ≡ false
    → position_or_len (bytes_eq text) (table ++ text ∷ [] ++ more) ≡ position_or_len (bytes_eq text) table
first_new text [] more e = ap (λ b. cond (not b) (1 + position_or_len (bytes_eq text) more) 0) ((bytes_eq-Decides text text).1 refl)
first_new text (t ∷ table) more e = by (bytes_eq text t) (first_new text table more) e
  where
    by : (b : Bool) → (is_listed text table ≡ false
        → position_or_len (bytes_eq text) (table ++ text ∷ [] ++ more) ≡ position_or_len (bytes_eq text) table)
        → (b || is_listed text table) ≡ false
        → cond (not b) (1 + position_or_len (bytes_eq text) (table ++ text ∷ [] ++ more)) 0
        ≡ cond (not b) (1 + position_or_len (bytes_eq text) table) 0
    by true later h = cc
    by false later h = ap (λ n. 1 + n) (later h)

-- a text keeps its number in any later table
pub number_later : (text : List ℕ) (table later : Table) → Grows (with_text text table) later
    → number_of text table ≡ number_of text later
number_later text table later grows = by (is_listed text table) refl grows
  where
    by : (b : Bool) → is_listed text table ≡ b → Grows (cond b table (table ++ text ∷ [])) later
        → number_of text table ≡ number_of text later
    by true e more = sym (ap fit (first_listed text table more.0 e)) ∙ ap (λ t. number_of text t) (sym more.1)
    by false e more = sym (ap fit (first_new text table more.0 e)) ∙ ap (λ t. number_of text t) (sym more.1)

-- what is at a text's number is the text, where something is
pub number_back : (text : List ℕ) (table : Table) → length table < 4294967295 → number_of text table < length table
    → get_or table (number_of text table) [] ≡ text
number_back text table few there = by (is_listed text table) refl
  where
    by : (b : Bool) → is_listed text table ≡ b → get_or table (number_of text table) [] ≡ text
    by true e =
        let at = listed_at text table e in
        let below = at.below in
        ap (λ n. get_or table n []) (fit_same (position_or_len (bytes_eq text) table) (omega (arith, below, few))) ∙ at.there
    by false e =
        let last = unlisted_text text table e in
        let same = fit_same (position_or_len (bytes_eq text) table) (omega (arith, last, few)) in
        absurd (omega (arith, same, last, there))

-- the number of a text is below how many there are in any later table
pub number_within : (text : List ℕ) (table later : Table) → Grows (with_text text table) later → number_of text table < length later
number_within text table later grows =
    let size = ap (λ t. length t) grows.1 ∙ length-append (with_text text table) grows.0 in
    omega (arith, size, number_below text table)
