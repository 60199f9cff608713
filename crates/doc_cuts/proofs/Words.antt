-- A word is the same whatever comes after the comma or the bracket that ends it.
use Rattle.std.proofs.Common.{◌≡◌, ◌≤◌, ℕ, ◌+◌, ◌-◌, Bool, true, false, cond, ◌&&◌, ◌||◌, ◌==◌, nat_eq, List, [], ◌∷◌, ◌++◌, length, take}
use Rattle.std.proofs.Common.{drop, Option, Some, None, option_and_then, refl, sym, ap, ◌∙◌, subst, arith}
use Rattle.std.specs.Prelude.{⊤}
use Rattle.std.specs.Cmp.Lexicographic.{pointwise}
use Rattle.std.specs.List.{prefix_len}
use Rattle.std.specs.Char.{is_ascii_digit}
use Rattle.std.proofs.lemmas.List.{drop-append-le, length-append, length-drop, take-append-le}
use Rattle.std.proofs.lemmas.List.Sums.{prefix_len-le-length}
use Rattle.json.specs.Token.{number, boolean, null, bad}
use Rattle.json.specs.Word.{ends_word, after_digits, after_minus, after_sign, after_whole, after_fraction, after_exponent, after_number}
use Rattle.json.specs.Word.{number_before, word}
use Rattle.json.specs.Ascii as ascii

-- a text is left, with more after it, where the text was left without it
abbrev Follows : ℕ → List ℕ → Option (List ℕ) → Option (List ℕ) → Type 0
Follows n more None y = y ≡ None
Follows n more (Some rest) y = (y ≡ Some (rest ++ more)) × (length rest ≤ n)

-- with a larger bound
weaker : (n m : ℕ) (more : List ℕ) (x y : Option (List ℕ)) → n ≤ m → Follows n more x y → Follows m more x y
weaker n m more None y le h = h
weaker n m more (Some rest) y le h = (h.0, omega (arith, h.1))

-- of two rests, by a test
either : (b : Bool) (n : ℕ) (more : List ℕ) (x y p q : Option (List ℕ)) → Follows n more x p → Follows n more y q
    → Follows n more (cond b x y) (cond b p q)
either true n more x y p q f g = f
either false n more x y p q f g = g

-- a comma where a value comes before it, or the bracket that begins an array
abbrev pub mark : Bool → ℕ
mark true = 44
mark false = 91

-- what holds of both
pub of_mark : (P : ℕ → Type 0) → P 44 → P 91 → (v : Bool) → P (mark v)
of_mark P f g true = f
of_mark P f g false = g

-- no byte of a name is this one
abbrev HasNone : ℕ → List ℕ → Type 0
HasNone c [] = ⊤
HasNone c (x ∷ name) = (nat_eq x c ≡ false) × HasNone c name

-- the rest of the text from the mark on
module _ (v : Bool) (y : List ℕ) where
  -- the mark and what follows it
  abbrev behind : List ℕ
  behind = mark v ∷ y

  -- of one part of a number after another
  then : (f : List ℕ → Option (List ℕ)) → ((t : List ℕ) → Follows (length t) behind (f t) (f (t ++ behind)))
      → (n : ℕ) (x p : Option (List ℕ)) → Follows n behind x p → Follows n behind (option_and_then f x) (option_and_then f p)
  then f all n None p h = ap (option_and_then f) h
  then f all n (Some rest) p h =
      subst (λ o. Follows n behind (f rest) (option_and_then f o)) (sym h.0) (weaker (length rest) n behind (f rest) _ h.1 (all rest))

  -- a run that no mark is in is as long
  prefix_same : (p : ℕ → Bool) → p (mark v) ≡ false → (t : List ℕ) → prefix_len p (t ++ behind) ≡ prefix_len p t
  prefix_same p e [] = ap (λ b. cond b (1 + prefix_len p y) 0) e
  prefix_same p e (x ∷ t) = ap (λ n. cond (p x) (1 + n) 0) (prefix_same p e t)

  -- what is left after a run
  dropped : (t : List ℕ) (k : ℕ) → k ≤ length t
      → Follows (length t) behind (cond (k == 0) None (Some (drop k t))) (cond (k == 0) None (Some (drop k (t ++ behind))))
  dropped t k le = either (k == 0) (length t) behind None _ None _ refl
      (ap Some (drop-append-le k t behind le), omega (arith, length-drop k t))

  -- what is left after digits
  digits : (t : List ℕ) → Follows (length t) behind (after_digits t) (after_digits (t ++ behind))
  digits t =
      subst (λ k. Follows (length t) behind (after_digits t) (cond (k == 0) None (Some (drop k (t ++ behind)))))
      (sym (prefix_same is_ascii_digit (of_mark (λ c. is_ascii_digit c ≡ false) refl refl v) t))
      (dropped t (prefix_len is_ascii_digit t) (prefix_len-le-length is_ascii_digit t))

  -- what is left of a text, of which a first byte may be passed
  abbrev Passed : List ℕ → List ℕ → List ℕ → Type 0
  Passed t rest later = (later ≡ rest ++ behind) × (length rest ≤ length t)

  -- a byte that may be passed
  passed : (b : Bool) (x : ℕ) (t : List ℕ) → Passed (x ∷ t) (cond b t (x ∷ t)) (cond b (t ++ behind) (x ∷ (t ++ behind)))
  passed true x t = (refl, omega arith)
  passed false x t = (refl, omega arith)

  -- a minus
  minus : (t : List ℕ) → Passed t (after_minus t) (after_minus (t ++ behind))
  minus [] = (of_mark (λ c. after_minus (c ∷ y) ≡ c ∷ y) refl refl v, omega arith)
  minus (x ∷ t) = passed (x == ascii.minus) x t

  -- a sign
  sign : (t : List ℕ) → Passed t (after_sign t) (after_sign (t ++ behind))
  sign [] = (of_mark (λ c. after_sign (c ∷ y) ≡ c ∷ y) refl refl v, omega arith)
  sign (x ∷ t) = passed ((x == ascii.minus) || (x == ascii.plus)) x t

  -- the whole part
  whole : (t : List ℕ) → Follows (length t) behind (after_whole t) (after_whole (t ++ behind))
  whole [] = of_mark (λ c. after_whole (c ∷ y) ≡ None) refl refl v
  whole (x ∷ t) = either (x == ascii.zero) (length (x ∷ t)) behind (Some t) _ _ _ (refl, omega arith) (digits (x ∷ t))

  -- the fraction
  fraction : (t : List ℕ) → Follows (length t) behind (after_fraction t) (after_fraction (t ++ behind))
  fraction [] = (of_mark (λ c. after_fraction (c ∷ y) ≡ Some (c ∷ y)) refl refl v, omega arith)
  fraction (x ∷ t) =
      either (x == ascii.dot) (length (x ∷ t)) behind _ (Some (x ∷ t)) _ _ (weaker (length t) _ behind _ _ (omega arith) (digits t))
      (refl, omega arith)

  -- digits after a sign
  signed : (t : List ℕ) → Follows (length t) behind (after_digits (after_sign t)) (after_digits (after_sign (t ++ behind)))
  signed t =
      subst (λ l. Follows (length t) behind (after_digits (after_sign t)) (after_digits l)) (sym (sign t).0)
      (weaker (length (after_sign t)) (length t) behind _ _ (sign t).1 (digits (after_sign t)))

  -- the exponent
  exponent : (t : List ℕ) → Follows (length t) behind (after_exponent t) (after_exponent (t ++ behind))
  exponent [] = (of_mark (λ c. after_exponent (c ∷ y) ≡ Some (c ∷ y)) refl refl v, omega arith)
  exponent (x ∷ t) =
      either ((x == ascii.lower_e) || (x == ascii.upper_e)) (length (x ∷ t)) behind _ (Some (x ∷ t)) _ _
      (weaker (length t) _ behind _ _ (omega arith) (signed t)) (refl, omega arith)

  -- a number without its sign
  unsigned : (t : List ℕ) → Follows (length t) behind (option_and_then after_exponent (option_and_then after_fraction (after_whole t)))
      (option_and_then after_exponent (option_and_then after_fraction (after_whole (t ++ behind))))
  unsigned t =
      then after_exponent exponent (length t) (option_and_then after_fraction (after_whole t)) _
      (then after_fraction fraction (length t) (after_whole t) _ (whole t))

  -- a number
  numeral : (t : List ℕ) → Follows (length t) behind (after_number t) (after_number (t ++ behind))
  unfolding after_number
  numeral t =
      subst (λ l. Follows (length t) behind (after_number t)
      (option_and_then after_exponent (option_and_then after_fraction (after_whole l)))) (sym (minus t).0)
      (weaker (length (after_minus t)) (length t) behind (after_number t) _ (minus t).1 (unsigned (after_minus t)))

  -- a word ends before a mark as at the end of a text
  ends_same : (t : List ℕ) → ends_word (t ++ behind) ≡ ends_word t
  ends_same [] = of_mark (λ c. ends_word (c ∷ y) ≡ true) refl refl v
  ends_same (x ∷ t) = refl

  -- a number is the same token
  number_same : (t : List ℕ) (x p : Option (List ℕ)) → Follows (length t) behind x p → number_before (t ++ behind) p ≡ number_before t x
  number_same t None p h = ap (number_before (t ++ behind)) h
  number_same t (Some rest) p h =
      let long : length (t ++ behind) - length (rest ++ behind) ≡ length t - length rest =
      omega (arith, length-append t behind, length-append rest behind) in
      ap (number_before (t ++ behind)) h.0
      ∙ (λ i. cond (ends_same rest i) (number (take (long i) (t ++ behind))) bad)
      ∙ ap (λ l. cond (ends_word rest) (number l) bad) (take-append-le (length t - length rest) t behind (omega arith))

  -- two tests with another in front
  guarded : (b p q r u : Bool) → (p && q) ≡ (r && u) → ((b && p) && q) ≡ ((b && r) && u)
  guarded true p q r u e = e
  guarded false p q r u e = refl

  -- a literal is the same
  literal_ends : (name t : List ℕ) → HasNone (mark v) name
      → (pointwise nat_eq name (take (length name) (t ++ behind)) && ends_word (drop (length name) (t ++ behind)))
      ≡ (pointwise nat_eq name (take (length name) t) && ends_word (drop (length name) t))
  literal_ends [] t none = ends_same t
  literal_ends (a ∷ name) [] none =
      ap (λ b. (b && pointwise nat_eq name (take (length name) y)) && ends_word (drop (length name) y)) none.0
  literal_ends (a ∷ name) (x ∷ t) none = guarded (nat_eq a x) _ _ _ _ (literal_ends name t none.1)

  -- a name that has neither mark
  of_name : (name : List ℕ) → HasNone 44 name → HasNone 91 name → HasNone (mark v) name
  of_name name f g = of_mark (λ c. HasNone c name) f g v

  -- a word is the same token
  pub word_same : (x : ℕ) (t : List ℕ) → word (x ∷ (t ++ behind)) ≡ word (x ∷ t)
  unfolding word
  word_same x t =
      let w = x ∷ t in
      let yes = literal_ends ascii.true_text w
      (of_name ascii.true_text (refl, (refl, (refl, (refl, tt)))) (refl, (refl, (refl, (refl, tt))))) in
      let no = literal_ends ascii.false_text w
      (of_name ascii.false_text (refl, (refl, (refl, (refl, (refl, tt))))) (refl, (refl, (refl, (refl, (refl, tt)))))) in
      let none = literal_ends ascii.null_text w
      (of_name ascii.null_text (refl, (refl, (refl, (refl, tt)))) (refl, (refl, (refl, (refl, tt))))) in
      let numbers = number_same w (after_number w) _ (numeral w) in
      λ i. cond (x == ascii.lower_t) (cond (yes i) (boolean true) bad) (cond (x == ascii.lower_f) (cond (no i) (boolean false) bad)
      (cond (x == ascii.lower_n) (cond (none i) null bad) (numbers i)))
