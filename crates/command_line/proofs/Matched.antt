-- What `clap` may match for a subcommand.
use Rattle.std.proofs.Common.{◌≡◌, ◌∙◌, ◌&&◌, ◌||◌, ◌==◌, ◌⊎◌, inl, inr, ℕ, Bool, cond, true, false, not, refl, sym, ap, subst, List, []}
use Rattle.std.proofs.Common.{◌∷◌, Option, Some, None, true≢false, codes}
use Rattle.std.specs.Prelude.{pos, option_map, unwrap_or}
use Rattle.std.specs.List.{find, list_all}
use Rattle.std.specs.Option.{option_map_or}
use Rattle.std.specs.Str.{bytes_eq}
use Rattle.std.proofs.lemmas.Bool.{eqb-true}
use Rattle.std.proofs.lemmas.Slice.Eq.{bytes_eq-Decides}
use Rattle.clap.specs.Values.{IsSignedIn, reading_of, refused_kind}
use Rattle.clap.specs.ValueTests.{accepts}
use Rattle.clap.specs.Facts.{parser_of_value}
use Rattle.clap.specs.Kinds.{value_kinds}
use Rattle.clap.specs.Walk.{Row, Rule, Text, action_of, answers_to, nothing_held, rows_after, stop_after, walk_from}
use Rattle.clap.specs.Simple.{Shape, argument_words, built, entered, label_of, names_of, rows_at, subcommand_of}
use Rattle.clap.specs.Faults.{entered_fault, fault_of, level_fault, walk_fault}
use Rattle.clap.specs.declared.builder.action.ArgAction.{ArgAction}
use Rattle.clap.specs.declared.builder.action.ArgAction.TheVariants as action
use Rattle.clap.specs.declared.builder.value_parser.Reading.TheVariants.{WithoutMinus}
use Rattle.clap.specs.declared.builder.value_parser.ValueParser.{ValueParser}
use Rattle.clap.specs.declared.builder.value_parser.ValueParser.TheVariants as vp
use Rattle.clap.proofs.ValueTestLemmas.{accepts-Accepts}
use Rattle.clap.proofs.WalkLemmas.{both}
use Rattle.command_line.specs.CommandLine.{CanBeMatched, NamesCommand, ordtx_app}
use Rattle.command_line.specs.declared.asked.Command.TheVariants.{Run, Serial, Carry, Check, Locate}
use Rattle.command_line.proofs.Walked.{Each, Fits, NoHelp, find_each, level_reads, none_first, none_second, reads_one, walk_stops}

-- the parser takes the numbers from 1 to the most
abbrev is_from_1 : ℕ → Option ValueParser → Bool
is_from_1 most (Some (vp.Signed (pos low) (pos high))) = low == 1 && high == most
is_from_1 most _ = false

abbrev is_set : ArgAction → Bool
is_set action.Set = true
is_set _ = false

-- the argument has another id, or takes a number from 1 to the most
abbrev fits_number : Text → ℕ → Rule → Bool
fits_number id most a = not (bytes_eq a.id id) || (is_set (action_of a) && is_from_1 most a.parser)

sets : (x : ArgAction) → is_set x ≡ true → x ≡ action.Set
sets action.Set e = refl
sets action.Append e = absurd (true≢false (sym e))
sets action.SetTrue e = absurd (true≢false (sym e))
sets action.SetFalse e = absurd (true≢false (sym e))
sets action.Count e = absurd (true≢false (sym e))
sets action.Help e = absurd (true≢false (sym e))
sets action.HelpShort e = absurd (true≢false (sym e))
sets action.HelpLong e = absurd (true≢false (sym e))
sets action.Version e = absurd (true≢false (sym e))

-- such a parser takes those numbers
range_of : (most : ℕ) (o : Option ValueParser) → is_from_1 most o ≡ true → o ≡ Some (vp.Signed (pos 1) (pos most))
range_of most (Some (vp.Signed (pos low) (pos high))) e =
    let both_are = both (low == 1) _ e in
    rw (eqb-true low 1 both_are.0, eqb-true high most both_are.1) refl
range_of most o e = absurd (true≢false (sym e))

-- what is parsed as such a number is one
accepted : (most : ℕ) (ignore_case : Bool) (p : ValueParser) (v : Text) → p ≡ vp.Signed (pos 1) (pos most)
    → value_kinds ignore_case p v ≡ []
    → IsSignedIn (pos 1) (pos most) v
accepted most ignore_case p v is none =
    accepts-Accepts ignore_case (vp.Signed (pos 1) (pos most)) v (go (accepts ignore_case (vp.Signed (pos 1) (pos most)) v) (rw is at none))
  where
    go : (b : Bool) → cond b [] (refused_kind (vp.Signed (pos 1) (pos most)) ∷ []) ≡ [] → b ≡ true
    go true e = refl
    go false e = cc

fits_of : (id : Text) (most : ℕ) (a : Rule) → fits_number id most a ≡ true → Fits id WithoutMinus (IsSignedIn (pos 1) (pos most)) a
fits_of id most a e same =
    let named : bytes_eq a.id id ≡ true = (bytes_eq-Decides a.id id).1 same in
    let parts = both (is_set (action_of a)) (is_from_1 most a.parser) (rw named at e) in
    let is : parser_of_value a.parser ≡ vp.Signed (pos 1) (pos most) = ap parser_of_value (range_of most a.parser parts.1) in
    (sets (action_of a) parts.0, ap reading_of is, λ v none. accepted most a.ignore_case _ v is none)

fit_all : (id : Text) (most : ℕ) (rules : List Rule) → list_all (fits_number id most) rules ≡ true
    → Each (Fits id WithoutMinus (IsSignedIn (pos 1) (pos most))) rules
fit_all id most [] e = tt
fit_all id most (a ∷ rest) e = (fits_of id most a (both _ _ e).0, fit_all id most rest (both _ _ e).1)

-- a subcommand as it is built: it is one of the program's or `help`, and has the numbers if it has their names
record IsOurs (s : Shape) : Type 0 where
  names : NamesCommand s.name ⊎ (s.name ≡ codes "help")
  aliases : s.aliases ≡ []
  workers : list_all (fits_number (codes "workers") 64) s.rules ≡ true
  cut : list_all (fits_number (codes "cut") 1000) s.rules ≡ true

all_ours : Each IsOurs (built ordtx_app).subs
all_ours = (
  record { names = inl (Run, refl); aliases = refl; workers = refl; cut = refl },
  (
    record { names = inl (Serial, refl); aliases = refl; workers = refl; cut = refl },
    (
      record { names = inl (Carry, refl); aliases = refl; workers = refl; cut = refl },
      (
        record { names = inl (Check, refl); aliases = refl; workers = refl; cut = refl },
        (
          record { names = inl (Locate, refl); aliases = refl; workers = refl; cut = refl },
          (
            record { names = inr refl; aliases = refl; workers = refl; cut = refl },
            tt,
          ),
        ),
      ),
    ),
  ),
)

-- the subcommand that was met is no call for help
no_help : (s : Shape) (p : Text × List Text) → s.aliases ≡ [] → NoHelp (Some p) → answers_to p.0 (label_of s) ≡ true
    → s.name ≡ codes "help" → ⊥
no_help s p aliases calm met is =
    let here : bytes_eq s.name p.0 ≡ true = go (bytes_eq s.name p.0) (rw aliases at met) in
    let same : codes "help" ≡ p.0 = sym is ∙ (bytes_eq-Decides s.name p.0).0 here in
    true≢false (sym ((bytes_eq-Decides p.0 (codes "help")).1 (sym same)) ∙ calm)
  where
    go : (b : Bool) → (b || false) ≡ true → b ≡ true
    go true e = refl
    go false e = e

-- the rows of a subcommand that was met without a fault
matched_at : (s : Shape) (p : Text × List Text) → IsOurs s → NoHelp (Some p) → answers_to p.0 (label_of s) ≡ true
    → level_fault s [] nothing_held p.1 false [] ≡ [] → CanBeMatched s.name (rows_after s.rules [] p.1)
matched_at s p ours calm met e = record {
  command = elim ours.names [
    | inl named ↦ named
    | inr help ↦ absurd (no_help s p ours.aliases calm met help)
  ];
  workers = λ t. reads_one (codes "workers") WithoutMinus (IsSignedIn (pos 1) (pos 64)) _ t
      (level_reads _ WithoutMinus _ s [] p.1 false [] (fit_all (codes "workers") 64 s.rules ours.workers) e);
  cut = λ t. reads_one (codes "cut") WithoutMinus (IsSignedIn (pos 1) (pos 1000)) _ t
      (level_reads _ WithoutMinus _ s [] p.1 false [] (fit_all (codes "cut") 1000 s.rules ours.cut) e);
}

-- what words without a fault match can be matched
pub can_be_matched : (words : List Text) (name : Text) (rows : List Row) → fault_of ordtx_app words ≡ []
    → subcommand_of ordtx_app words ≡ Some (name, rows) → CanBeMatched name rows
can_be_matched words name rows e is =
    let a = built ordtx_app in
    let given = argument_words ordtx_app words in
    let stop = stop_after a.top.rules (names_of a) given in
    let calm = walk_stops a.top (names_of a) (walk_from nothing_held) given refl (none_first _ _ e) tt in
    go stop calm (none_first _ _ (none_second (walk_fault a.top (names_of a) (walk_from nothing_held) given) _ e)) is
  where
    met : (p : Text × List Text) (o : Option Shape) → find (λ s. answers_to p.0 (label_of s)) (built ordtx_app).subs ≡ o → NoHelp (Some p)
        → option_map_or (λ s. level_fault s [] nothing_held p.1 false []) o [] ≡ []
        → option_map (λ s. rows_at s p.1) o ≡ Some (name, rows) → CanBeMatched name rows
    met p None here calm none same = cc
    met p (Some s) here calm none same =
        let ours = find_each IsOurs (λ s. answers_to p.0 (label_of s)) (built ordtx_app).subs s here all_ours in
        let pair : rows_at s p.1 ≡ (name, rows) = ap (λ (o : Option (Text × List Row)). unwrap_or o (name, rows)) same in
        subst (λ (q : Text × List Row). CanBeMatched q.0 q.1) pair (matched_at s p ours.0 calm ours.1 none)

    go : (o : Option (Text × List Text)) → NoHelp o → entered_fault (built ordtx_app) o ≡ []
        → entered (built ordtx_app) o ≡ Some (name, rows)
        → CanBeMatched name rows
    go None calm none same = cc
    go (Some p) calm none same = met p (find (λ s. answers_to p.0 (label_of s)) (built ordtx_app).subs) refl calm none same
