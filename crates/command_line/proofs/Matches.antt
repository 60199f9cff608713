-- What the matches of `clap` hold.
use Rattle.std.proofs.Common.{◌≡◌, ◌∙◌, ◌<◌, ◌≤◌, ◌^◌, ◌⊎◌, inl, inr, ℕ, List, Option, Some, None, Result, Ok, Err, ap, ap₂, arith}
use Rattle.std.proofs.Common.{option_map, refl, subst, sym, true, unwrap_or}
use Rattle.std.specs.Prelude.{⊤, pos}
use Rattle.std.proofs.lemmas.Bool.{cases_lt}
use Rattle.clap.specs.Words.{App, HasMatchesOf, Row, Text, is_simple, subcommand_name_of, subcommand_of, subcommand_rows}
use Rattle.std.specs.Str.Parse.{IsNumeral, ParsesUnsigned, digits_value, without_leading_plus}
use Rattle.clap.specs.Matches.{ReadsOne, TriesOne}
use Rattle.clap.specs.Words.{IsSignedIn, without_minus}
use Rattle.clap.specs.declared.parser.matches.ArgMatches.{ArgMatches}
use Rattle.clap.specs.declared.parser.matches.ArgMatches.TheViews.{out-ArgMatches}
use Rattle.clap.proofs.CallerReads.{signed_reads}
use Rattle.command_line.specs.CommandLine.{HoldsNumber, ordtx_app}

-- a number was read: the text spells it
pub read_number : {E : Type 0} (G : List ℕ → Result ℕ E → Type 0) (text : Option (List ℕ)) (r : Result (Option ℕ) E) (default n : ℕ)
    → (text ≡ None → r ≡ Ok None) → ((t : List ℕ) → text ≡ Some t → TriesOne G t r)
    → ((t : List ℕ) (x : ℕ) → G t (Ok x) → IsNumeral 10 (without_leading_plus t) × (x ≡ digits_value 10 (without_leading_plus t)))
    → r ≡ Ok (Some n) → HoldsNumber text default n
read_number G None r default n none value spells is = let bad = none refl in cc
read_number G (Some t) r default n none value spells is = spells t n (rw is at value t refl)

-- no number was read: there is no text
pub read_none : {E : Type 0} (G : List ℕ → Result ℕ E → Type 0) (text : Option (List ℕ)) (r : Result (Option ℕ) E) (default : ℕ)
    → ((t : List ℕ) → text ≡ Some t → TriesOne G t r) → r ≡ Ok None → HoldsNumber text default default
read_none G None r default value is = refl
read_none G (Some t) r default value is = absurd (rw is at value t refl)

-- the exact matches are known of this command
pub ordtx_is_simple : is_simple ordtx_app ≡ true
ordtx_is_simple = refl

-- what holds both parts holds the pair
pub holds_pair : {X A B : Type 0} (f : X → A) (g : X → B) (o : Option X) (a : A) (b : B) → Some a ≡ option_map f o
    → Some b ≡ option_map (λ (p : A × B). p.1) (option_map {U = A × B} (λ x. (f x, g x)) o) → option_map {U = A × B} (λ x. (f x, g x)) o
    ≡ Some (a, b)
holds_pair f g None a b first second = cc
holds_pair {X} {A} {B} f g (Some x) a b first second =
    let pair : A → B → A × B = λ u v. (u, v) in
    ap Some (ap₂ pair (ap (λ o. unwrap_or o a) (sym first)) (ap (λ o. unwrap_or o b) (sym second)))

-- a number that passed is read
pub number_is_read : {E : Type 0} (G : List ℕ → Result ℕ E → Type 0) (most : ℕ) (text : Option (List ℕ)) (r : Result (Option ℕ) E) (e : E)
    → ((u : List ℕ) (x : Result ℕ E) → G u x → ParsesUnsigned 32 10 u x) → most < 2 ^ 32
    → ((t : List ℕ) → text ≡ Some t → (word : List ℕ) × (t ≡ without_minus word) × IsSignedIn (pos 1) (pos most) word)
    → (text ≡ None → r ≡ Ok None) → ((t : List ℕ) → text ≡ Some t → TriesOne G t r) → r ≡ Err e → ⊥
number_is_read G most None r e only fits passed none value is =
    let bad = none refl in
    cc
number_is_read {E} G most (Some t) r e only fits passed none value is =
    let given = passed t refl in
    let tried : TriesOne G t (Err e) = rw is at value t refl in
    let failed : ReadsOne G (without_minus given.0) None = (e, subst (λ u. G u (Err e)) given.1 tried) in
    let read = signed_reads E G 32 1 most given.0 None failed only fits given.2 in
    absurd (no_number _ read.1)
  where
    no_number : (n : ℕ) → None ≡ Some n → ⊥
    no_number n bad = cc

-- a number that passed is in its range, and so is the default
pub number_is_within : (most : ℕ) (text : Option (List ℕ)) (default n : ℕ) → most < 2 ^ 32 → 1 ≤ default → default ≤ most
    → ((t : List ℕ) → text ≡ Some t → (word : List ℕ) × (t ≡ without_minus word) × IsSignedIn (pos 1) (pos most) word)
    → HoldsNumber text default n → (1 ≤ n) × (n ≤ most)
number_is_within most None default n fits low high passed holds = (omega (arith, holds, low), omega (arith, holds, high))
number_is_within most (Some t) default n fits low high passed holds = go (cases_lt n (2 ^ 32))
  where
    given : (word : List ℕ) × (t ≡ without_minus word) × IsSignedIn (pos 1) (pos most) word
    given = passed t refl

    read : (r : Option ℕ) → ReadsOne {T = ℕ} {E = ⊤} (ParsesUnsigned 32 10) (without_minus given.0) r
        → (m : ℕ) × (r ≡ Some m) × (1 ≤ m) × (m ≤ most)
    read r parsed = signed_reads ⊤ (ParsesUnsigned 32 10) 32 1 most given.0 r parsed (λ u x p. p) fits given.2

    same : (m : ℕ) → Some n ≡ Some m → (1 ≤ m) × (m ≤ most) → (1 ≤ n) × (n ≤ most)
    same m is bounds =
        let equal : n ≡ m = ap (λ o. unwrap_or o n) is in
        rw equal bounds

    go : ((n < 2 ^ 32) ⊎ (2 ^ 32 ≤ n)) → (1 ≤ n) × (n ≤ most)
    go (inl small) =
        let parsed : ParsesUnsigned {E = ⊤} 32 10 t (Ok n) = ((holds.0, subst (λ m. m < 2 ^ 32) holds.1 small), holds.1) in
        let found = read (Some n) (subst (λ u. ParsesUnsigned {E = ⊤} 32 10 u (Ok n)) given.1 parsed) in
        same found.0 found.1 (found.2, found.3)
    go (inr large) =
        let failed : ParsesUnsigned {E = ⊤} 32 10 t (Err tt) = λ p. omega (arith, holds.1, p.1, large) in
        let found = read None (tt, subst (λ u. ParsesUnsigned {E = ⊤} 32 10 u (Err tt)) given.1 failed) in
        let bad = found.1 in
        cc

-- the subcommand that was matched is that of the words
pub subcommand_held : (a : App) (words : List Text) (m : ArgMatches) (name : Text) (rows : List Row) → HasMatchesOf a words m
    → a ≡ ordtx_app
    → Some name ≡ subcommand_name_of m
    → Some rows ≡ option_map (λ (p : Text × List Row). p.1) (subcommand_rows (out-ArgMatches m).subcommand)
    → subcommand_of ordtx_app words ≡ Some (name, rows)
subcommand_held a words m name rows matches is first second =
    let entered = (matches (ap is_simple is ∙ ordtx_is_simple)).1 ∙ ap (λ (app : App). subcommand_of app words) is in
    sym entered ∙ holds_pair _ _ (out-ArgMatches m).subcommand name rows first second
