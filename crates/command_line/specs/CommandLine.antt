-- The command line, as `clap` sees it, and what a line holds of its words.
use Rattle.std.specs.Prelude.{◌≡◌, ◌↔◌, ◌⊎◌, ℕ, ℤ, Bool, List, ◌∷◌, Option, Some, None, true, false, not, option_map, codes, pos}
use Rattle.std.specs.Prelude.{string_bytes, IsTrue, ⊤}
use Rattle.std.specs.List.{list_any}
use Rattle.std.specs.Str.Parse.{IsNumeral, digits_value, without_leading_plus}
use Rattle.clap.specs.Words.{App, IsSignedIn, Kinds, Row, Rule, Text, fault_of, first_of, new_app, new_rule, one_of, subcommand_of, takes}
use Rattle.clap.specs.Words.{with_rule, with_subcommand, without_minus}
use Rattle.clap.specs.declared.builder.ArgAction.TheVariants.{SetTrue}
use Rattle.clap.specs.declared.error.kind.ErrorKind.{ErrorKind}
use Rattle.clap.specs.declared.error.kind.ErrorKind.TheVariants.{DisplayHelp, DisplayVersion}
use Rattle.clap.specs.declared.builder.value_parser.ValueParser.TheVariants.{Signed}
use Rattle.command_line.specs.declared.asked.Command.{Command}
use Rattle.command_line.specs.declared.asked.Command.TheVariants.{Run, Serial, Carry, Check, Locate}
use Rattle.command_line.specs.declared.asked.Line.{Line}
use Rattle.command_line.specs.declared.asked.Refused.{Refused}
use Rattle.command_line.specs.declared.asked.Refused.TheVariants.{Help, Memory, Words}
use Rattle.plan.specs.declared.plan.TheConstants.{MAX_CUT, MAX_WORKERS}

-- `[FILE]`
abbrev pub file_rule : Rule
file_rule = record (new_rule (codes "file")) { value_names = 1 }

-- `--NAME NUMBER`, of a number from 1 to the most
abbrev pub number_rule : Text → ℤ → Rule
number_rule name most = record (new_rule name) {
  long = Some name;
  value_names = 1;
  parser = Some (Signed (pos 1) most);
}

-- `--NAME TEXT`
abbrev pub text_rule : Text → Rule
text_rule name = record (new_rule name) { long = Some name; value_names = 1 }

-- `--NAME`
abbrev pub flag_rule : Text → Rule
flag_rule name = record (new_rule name) { long = Some name; action = Some SetTrue }

-- a command that takes a file
abbrev pub file_app : Text → App
file_app name = with_rule (new_app name) file_rule

-- a command that takes a file, and how many workers there are
abbrev pub shared_app : Text → App
shared_app name = with_rule (file_app name) (number_rule (codes "workers") (pos MAX_WORKERS))

abbrev pub run_app : App
run_app =
    with_rule (with_rule (with_rule (with_rule (shared_app (codes "run"))
    (number_rule (codes "cut") (pos MAX_CUT))) (flag_rule (codes "audit"))) (flag_rule (codes "why"))) (flag_rule (codes "progress"))

abbrev pub carry_app : App
carry_app = with_rule (shared_app (codes "carry")) (text_rule (codes "into"))

abbrev pub titled : App → App
titled app = record app { top = record app.top { has_version = true; propagate_version = true; subcommand_required = true } }

abbrev pub ordtx_app : App
ordtx_app =
    with_subcommand (with_subcommand (with_subcommand (with_subcommand (with_subcommand (titled (new_app (codes "ordtx"))) run_app.top)
    (shared_app (codes "serial")).top) carry_app.top) (shared_app (codes "check")).top) (file_app (codes "locate")).top

abbrev pub command_name : Command → Text
command_name Run = codes "run"
command_name Serial = codes "serial"
command_name Carry = codes "carry"
command_name Check = codes "check"
command_name Locate = codes "locate"

abbrev pub NamesCommand : Text → Type 0
NamesCommand name = (command : Command) × (name ≡ command_name command)

-- the number that a text spells, or another where there is no text
abbrev pub HoldsNumber : Option Text → ℕ → ℕ → Type 0
HoldsNumber None default n = n ≡ default
HoldsNumber (Some text) default n = IsNumeral 10 (without_leading_plus text) × (n ≡ digits_value 10 (without_leading_plus text))

-- how many workers a command has where the words don't say
abbrev pub default_workers : Command → ℕ
default_workers Run = 4
default_workers _ = 1

-- the line has what the matches of its command hold
pub record HoldsLine (name : Text) (rows : List Row) (line : Line) : Type 0 where
  pub command : name ≡ command_name line.command
  pub file : option_map (λ file. string_bytes file) line.file ≡ first_of (codes "file") rows
  pub into : option_map (λ file. string_bytes file) line.into ≡ first_of (codes "into") rows
  pub workers : HoldsNumber (one_of (codes "workers") rows) (default_workers line.command) line.plan.workers
  pub cut : HoldsNumber (one_of (codes "cut") rows) 16 line.plan.cut
  pub audit : IsTrue line.audit ↔ first_of (codes "audit") rows ≡ Some (codes "true")
  pub why : IsTrue line.why ↔ first_of (codes "why") rows ≡ Some (codes "true")
  pub progress : IsTrue line.progress ↔ first_of (codes "progress") rows ≡ Some (codes "true")

-- the line has what `clap`'s matches hold for these words
abbrev pub IsLineOf : List Text → Line → Type 0
IsLineOf words line = (name : Text) × (rows : List Row) × (subcommand_of ordtx_app words ≡ Some (name, rows)) × HoldsLine name rows line

-- what is held of a number is one from 1 to the most, where it is held
abbrev pub HoldsFrom1 : Text → ℕ → List Row → Type 0
HoldsFrom1 id most rows =
    (text : Text) → one_of id rows ≡ Some text → (word : Text) × (text ≡ without_minus word) × IsSignedIn (pos 1) (pos most) word

-- what `clap` may match of a command
pub record CanBeMatched (name : Text) (rows : List Row) : Type 0 where
  pub command : NamesCommand name
  pub workers : HoldsFrom1 (codes "workers") MAX_WORKERS rows
  pub cut : HoldsFrom1 (codes "cut") MAX_CUT rows

-- the kinds of error that `clap` may give at the words
unfoldable pub faults_of : List Text → Kinds
faults_of words = fault_of ordtx_app words

-- `clap` takes the words
unfoldable pub IsTaken : List Text → Type 0
IsTaken words = takes ordtx_app words ≡ true

-- help or the version was asked for
abbrev pub is_help : ErrorKind → Bool
is_help DisplayHelp = true
is_help DisplayVersion = true
is_help _ = false

-- `clap` may give help or the version at the words, or an error
abbrev pub AsksForHelp : List Text → Type 0
AsksForHelp words = list_any is_help (faults_of words) ≡ true

abbrev pub HasMistake : List Text → Type 0
HasMistake words = list_any (λ kind. not (is_help kind)) (faults_of words) ≡ true

-- the words may be refused so
abbrev pub IsRefusalOf : List Text → Refused → Type 0
IsRefusalOf words Memory = ⊤
IsRefusalOf words (Help text) = AsksForHelp words
IsRefusalOf words (Words text) = HasMistake words

-- so is an error of this kind
abbrev pub IsRefusalBy : ErrorKind → Refused → Type 0
IsRefusalBy kind Memory = ⊤
IsRefusalBy kind (Help text) = is_help kind ≡ true
IsRefusalBy kind (Words text) = is_help kind ≡ false

-- the words are the program's name and `help` with a flag that asks for help
abbrev pub IsAboutHelp : List Text → Type 0
IsAboutHelp (program ∷ name ∷ flag ∷ rest) = (name ≡ codes "help") × ((flag ≡ codes "-h") ⊎ (flag ≡ codes "--help"))
IsAboutHelp _ = ⊥
