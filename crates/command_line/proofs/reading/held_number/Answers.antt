use Rattle.std.proofs.Common.{◌≡◌, rules, arith, subst, sym, List, ℕ, Option, Some}
use Rattle.std.specs.Prelude.{pos}
use Rattle.std.specs.Str.Parse.{ExplainsUnsignedError, HasUnsignedDigitsIfOk, ParsesUnsigned}
use Rattle.clap.proofs.WalkLemmas.{one_text-rows}
use Rattle.clap.specs.Words.{IsSignedIn, found_of, without_minus}
use Rattle.command_line.proofs.Matches.{number_is_read, read_none, read_number}
use Rattle.command_line.specs.CommandLine.{HoldsNumber}
use Rattle.command_line.proofs.reading.held_number.Goals as goal

pub returns-in-Ok-Some : goal.returns-in-Ok-Some
returns-in-Ok-Some c =
    subst (λ (text : Option (List ℕ)). HoldsNumber text c.args.default c.in-Ok-Some.number)
    (one_text-rows (found_of c.args.held.now) c.args.id.now)
    (read_number (λ t r. ParsesUnsigned 32 10 t r × ExplainsUnsignedError 10 t r × HasUnsignedDigitsIfOk t r) _ c.try_get_one.result
    c.args.default c.in-Ok-Some.number
    c.try_get_one.ensures.none c.try_get_one.ensures.value (λ t x given. (given.0.0.0, given.0.1)) (search rules))

pub returns-in-Ok-None : goal.returns-in-Ok-None
returns-in-Ok-None c =
    subst (λ (text : Option (List ℕ)). HoldsNumber text c.args.default c.args.default)
    (one_text-rows (found_of c.args.held.now) c.args.id.now)
    (read_none (λ t r. ParsesUnsigned 32 10 t r × ExplainsUnsignedError 10 t r × HasUnsignedDigitsIfOk t r) _ c.try_get_one.result
    c.args.default
    c.try_get_one.ensures.value (search rules))

pub unreachable-requires : goal.unreachable-requires
unreachable-requires c =
    number_is_read (λ t r. ParsesUnsigned 32 10 t r × ExplainsUnsignedError 10 t r × HasUnsignedDigitsIfOk t r) 1000 _
    c.try_get_one.result c.in-Err.field-0
    (λ u x parsed. parsed.0) (omega arith)
    (subst (λ (text : Option (List ℕ)). (t : List ℕ) → text ≡ Some t
    → (word : List ℕ) × (t ≡ without_minus word) × IsSignedIn (pos 1) (pos 1000) word)
    (sym (one_text-rows (found_of c.args.held.now) c.args.id.now)) c.requires)
    c.try_get_one.ensures.none c.try_get_one.ensures.value (search rules)
