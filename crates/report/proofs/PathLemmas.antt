-- Paths after which more is written, and which are cut back.
use Rattle.std.proofs.Common.{◌≡◌, ℕ, ◌≤◌, Bool, true, false, List, [], ◌++◌, length, take, refl, sym, ap, ◌∙◌, subst, arith, append_assoc}
use Rattle.std.proofs.Common.{Option, length-append, IsUtf8, string_bytes}
use Rattle.std.proofs.Math.Seq.{take-append_seam}
use Rattle.std.proofs.lemmas.Str.{IsCharBoundary-from_take, IsUtf8-string_bytes}
use Rattle.std.specs.Prelude.{codes}
use Rattle.std.specs.String.{string_len}
use Rattle.std.specs.String.Boundary.{IsSplitPoint}
use Rattle.std.specs.declared.string.String.{String}
use Rattle.meaning.specs.OneThread.{is_for}
use Rattle.meaning.specs.Trees.{Handlers, ForReason, Otherwise, GoOn, Pass}
use Rattle.meaning.specs.Words.{Naming}
use Rattle.meaning.specs.Texts.{handler_path, pick}

-- a text that begins with another one, of which n is the length
module _ {Z : Type 0} (before now : String Z) (more : List ℕ) (n : ℕ) (at : n ≡ string_len before)
    (is : string_bytes now ≡ string_bytes before ++ more) where
  -- the length in bytes
  at_length : n ≡ length (string_bytes before)
  at_length = omega (arith, at, before.bytes.ok.0)

  -- what is left where it is cut there
  pub cut_back : take n (string_bytes now) ≡ string_bytes before
  cut_back = ap (take n) is ∙ ap (λ k. take k (string_bytes before ++ more)) at_length ∙ take-append_seam (string_bytes before) more

  -- it is what is left and what is cut off
  pub cut_both : string_bytes now ≡ take n (string_bytes now) ++ more
  cut_both = is ∙ ap (λ front. front ++ more) (sym cut_back)

  -- it may be cut there
  pub cut_place : IsSplitPoint (string_bytes now) n
  cut_place =
      let within : n ≤ length (string_bytes now) = omega (arith, at_length, ap length is, length-append (string_bytes before) more) in
      let front : IsUtf8 (take n (string_bytes now)) = subst IsUtf8 (sym cut_back) (IsUtf8-string_bytes before) in
      let boundary = IsCharBoundary-from_take (string_bytes now) n (IsUtf8-string_bytes now) within front in
      (boundary.0, λ _. boundary.1)

-- the path of what takes an abort begins with that of the subaction
module _ (names : Naming) (path : List ℕ) where
  -- of two texts that begin with the path
  pick-after : (takes : Bool) (first first_more others others_more : List ℕ) → first ≡ path ++ first_more → others ≡ path ++ others_more
      → pick takes first others ≡ path ++ pick takes first_more others_more
  pick-after true first first_more others others_more is is' = is
  pick-after false first first_more others others_more is is' = is'

  -- whatever the path is, the same follows it
  pub handler_path-after : (handlers : Handlers) (reason : Option ℕ)
      → handler_path names path handlers reason ≡ path ++ handler_path names [] handlers reason
  handler_path-after (ForReason own handler others) reason =
      pick-after (is_for own reason) (path ++ codes ".h:" ++ names.reason own) (codes ".h:" ++ names.reason own)
      (handler_path names path others reason) (handler_path names [] others reason) (append_assoc path (codes ".h:") (names.reason own))
      (handler_path-after others reason)
  handler_path-after (Otherwise handler) reason = refl
  handler_path-after GoOn reason = refl
  handler_path-after Pass reason = refl
