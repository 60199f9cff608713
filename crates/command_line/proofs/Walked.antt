-- What a walk without a fault leaves of an argument: each value passed the argument's parser.
use Rattle.std.proofs.Common.{◌≡◌, ◌∙◌, ◌&&◌, ◌||◌, ℕ, Bool, cond, true, false, not, zero, suc, refl, sym, ap, subst, arith, List, []}
use Rattle.std.proofs.Common.{◌∷◌, ◌++◌, length, Option, Some, None, is_some, min, ◌+◌, true≢false, codes}
use Rattle.std.specs.Prelude.{⊤, slice_get, option_and_then, option_map, unwrap_or}
use Rattle.std.specs.List.{find, fold}
use Rattle.std.specs.Option.{option_map_or}
use Rattle.std.specs.Str.{bytes_eq, chars}
use Rattle.std.proofs.lemmas.Bool.{ne_eqb}
use Rattle.std.proofs.lemmas.Slice.Eq.{bytes_eq-Decides}
use Rattle.clap.specs.Lexer.{long_of, short_of}
use Rattle.clap.specs.Facts.{parser_of_value, unwrap_or_range}
use Rattle.clap.specs.Matches.{count_text}
use Rattle.clap.specs.Values.{read_as}
use Rattle.clap.specs.Walk.{Held, Names, Outcome, Row, Rule, Step, Text, Waiting, Walk, action_of, after_flag, after_step, arg_by_id}
use Rattle.clap.specs.Walk.{arg_by_index, arg_by_long, arg_by_short, at_row, attached_value, bundle, bundle_met, bundle_step, count_of}
use Rattle.clap.specs.Walk.{done, flag_met, has_row, idle, is_empty, is_pending, long_met, long_or_other, more_values, most_values}
use Rattle.clap.specs.Walk.{new_count, next, nothing_held, one_of, option, option_met, option_word, plain, plain_word, positional}
use Rattle.clap.specs.Walk.{positional_held, pushed, reacted, reading_by, refused, row_text, rows_after, settled, settled_rows, short_met}
use Rattle.clap.specs.Walk.{short_or_plain, subcommand, subcommand_met, subcommand_or_other, takes_several, takes_values, to_positional}
use Rattle.clap.specs.Walk.{trailing, used, used_as, used_by_id, value, values_or_missing, waits, walk, walk_from, walked, walked_from}
use Rattle.clap.specs.Walk.{with_count, with_default, default_rows, with_values, without, word_met}
use Rattle.clap.specs.Simple.{Shape}
use Rattle.clap.specs.Kinds.{Kinds, or_else, range_kinds, request_kinds, value_kinds}
use Rattle.clap.specs.Faults.{action_fault, bundle_fault, bundle_step_fault, default_fault, defaults_fault, flag_word_fault, flags_fault}
use Rattle.clap.specs.Faults.{given_default_fault, level_fault, long_fault, option_fault, other_fault, positional_fault, react_fault}
use Rattle.clap.specs.Faults.{repeat_fault, settle_fault, short_fault, step_fault, stray_fault, turn_fault, use_fault, values_fault}
use Rattle.clap.specs.Faults.{walk_fault, word_fault}
use Rattle.clap.specs.declared.builder.action.ArgAction.{ArgAction}
use Rattle.clap.specs.declared.builder.action.ArgAction.TheVariants as action
use Rattle.clap.specs.declared.builder.value_parser.Reading.{Reading}
use Rattle.clap.specs.declared.error.kind.ErrorKind.TheVariants as kind
use Rattle.clap.specs.declared.parser.matches.ValueSource.{ValueSource}
use Rattle.clap.specs.declared.parser.matches.ValueSource.TheVariants.{CommandLine, DefaultValue}

-- each of a list
abbrev pub Each : {X : Type 0} → (X → Type 0) → List X → Type 0
Each P [] = ⊤
Each P (x ∷ xs) = P x × Each P xs

-- each of two lists is each of both
each_append : {X : Type 0} (P : X → Type 0) (xs ys : List X) → Each P xs → Each P ys → Each P (xs ++ ys)
each_append P [] ys first second = second
each_append P (x ∷ xs) ys first second = (first.0, each_append P xs ys first.1 second)

-- what a search finds is one of the list, and passes
pub find_each : {X : Type 0} (P : X → Type 0) (p : X → Bool) (xs : List X) (x : X) → find p xs ≡ Some x → Each P xs → P x × (p x ≡ true)
find_each P p [] x is all = cc
find_each P p (y ∷ ys) x is all = go (p y) refl is (λ found. find_each P p ys x found all.1)
  where
    go : (b : Bool) → p y ≡ b → cond b (Some y) (find p ys) ≡ Some x → (find p ys ≡ Some x → P x × (p x ≡ true)) → P x × (p x ≡ true)
    go true hit found later =
        let same : y ≡ x = ap (λ o. unwrap_or o y) found in
        (subst P same all.0, ap p (sym same) ∙ hit)
    go false miss found later = later found

-- where neither of two has a kind, the first has none
pub none_first : (a b : Kinds) → or_else a b ≡ [] → a ≡ []
none_first [] b e = refl
none_first (k ∷ ks) b e = e

-- nor has the second
pub none_second : (a b : Kinds) → or_else a b ≡ [] → b ≡ []
none_second [] b e = e
none_second (k ∷ ks) b e = cc

module _ (id : Text) (how : Reading) (Q : Text → Type 0) where
  -- a row of the argument is read so, and each of its values passed
  abbrev pub Reads : Row → Type 0
  Reads r = r.id ≡ id → (r.reading ≡ how) × Each Q r.values

  abbrev AllRead : List Row → Type 0
  AllRead = Each Reads

  -- an argument of this id takes one text a use, is read so, and takes only what passes
  abbrev pub Fits : Rule → Type 0
  Fits a = a.id ≡ id → (action_of a ≡ action.Set) × (reading_by a ≡ how)
      × ((v : Text) → value_kinds a.ignore_case (parser_of_value a.parser) v ≡ [] → Q v)

  -- values without a fault passed
  each_passes : (a : Rule) (vs : List Text) → ((v : Text) → value_kinds a.ignore_case (parser_of_value a.parser) v ≡ [] → Q v)
      → values_fault a vs ≡ [] → Each Q vs
  each_passes a [] passes e = tt
  each_passes a (v ∷ vs) passes e =
      (passes v (none_first _ _ e), each_passes a vs passes (none_second (value_kinds a.ignore_case (parser_of_value a.parser) v) _ e))

  -- a change of the row of an id keeps what holds of each row
  at_row_keeps : (key : Text) (change : Row → List Row) (missing rows : List Row) → ((r : Row) → r.id ≡ key → Reads r → AllRead (change r))
      → AllRead missing → AllRead rows → AllRead (at_row key change missing rows)
  at_row_keeps key change missing [] changed new all = new
  at_row_keeps key change missing (r ∷ rs) changed new all =
      go (bytes_eq r.id key) refl (at_row_keeps key change missing rs changed new all.1)
    where
      go : (b : Bool) → bytes_eq r.id key ≡ b → AllRead (at_row key change missing rs)
          → AllRead (cond b (change r ++ rs) (r ∷ at_row key change missing rs))
      go true same later = each_append Reads (change r) rs (changed r ((bytes_eq-Decides r.id key).0 same) all.0) all.1
      go false other later = (all.0, later)

  without_keeps : (key : Text) (rows : List Row) → AllRead rows → AllRead (without key rows)
  without_keeps key rows all = at_row_keeps key (λ r. []) [] rows (λ r same reads. tt) tt all

  -- more values of an argument, which pass if it has this id
  values_keep : (a : Rule) (s : ValueSource) (vs : List Text) (rows : List Row) → (a.id ≡ id → (reading_by a ≡ how) × Each Q vs)
      → AllRead rows → AllRead (with_values a.id (reading_by a) s vs rows)
  values_keep a s vs rows given all =
      at_row_keeps a.id (more_values s vs) _ rows
      (λ r same reads. ((λ is. ((reads is).0, each_append Q r.values vs (reads is).1 (given (sym same ∙ is)).1)), tt)) (given, tt) all

  -- a count of another argument
  count_keeps : (a : Rule) (s : ValueSource) (n : ℕ) (rows : List Row) → (a.id ≡ id → ⊥) → AllRead rows
      → AllRead (with_count a.id (reading_by a) s n rows)
  count_keeps a s n rows other all =
      let counted : Row = record { id = a.id; values = count_text n ∷ []; count = Some n; source = Some s; reading = reading_by a } in
      at_row_keeps a.id (new_count s n) (counted ∷ []) rows
      (λ r same reads. ((λ is. absurd (other (sym same ∙ is))), tt)) ((λ is. absurd (other is)), tt) all

  counts_another : (a : Rule) → action.Count ≡ action_of a → Fits a → a.id ≡ id → ⊥
  counts_another a is fits same =
      let bad = is ∙ (fits same).0 in
      cc

  used_as_keeps : (x : ArgAction) (again : Bool) (a : Rule) (vs : List Text) (rows : List Row) → x ≡ action_of a → Fits a
      → action_fault x again a vs rows ≡ [] → AllRead rows → AllRead (used_as x a.id (reading_by a) vs rows)
  used_as_keeps action.Set again a vs rows is fits e all =
      values_keep a CommandLine vs _
      (λ same. ((fits same).1, each_passes a vs (fits same).2 (none_second (repeat_fault again a.id rows) _ e)))
      (without_keeps a.id rows all)
  used_as_keeps action.SetTrue again a vs rows is fits e all =
      values_keep a CommandLine vs _
      (λ same. ((fits same).1, each_passes a vs (fits same).2 (none_second (repeat_fault again a.id rows) _ e)))
      (without_keeps a.id rows all)
  used_as_keeps action.SetFalse again a vs rows is fits e all =
      values_keep a CommandLine vs _
      (λ same. ((fits same).1, each_passes a vs (fits same).2 (none_second (repeat_fault again a.id rows) _ e)))
      (without_keeps a.id rows all)
  used_as_keeps action.Append again a vs rows is fits e all =
      values_keep a CommandLine vs rows (λ same. ((fits same).1, each_passes a vs (fits same).2 e)) all
  used_as_keeps action.Count again a [] rows is fits e all =
      count_keeps a CommandLine (min (count_of a.id rows + 1) 255) _ (counts_another a is fits) (without_keeps a.id rows all)
  used_as_keeps action.Count again a (v ∷ vs) rows is fits e all =
      values_keep a CommandLine (v ∷ vs) _ (λ same. absurd (counts_another a is fits same)) (without_keeps a.id rows all)
  used_as_keeps action.Help again a vs rows is fits e all = all
  used_as_keeps action.HelpShort again a vs rows is fits e all = all
  used_as_keeps action.HelpLong again a vs rows is fits e all = all
  used_as_keeps action.Version again a vs rows is fits e all = all

  -- one use of an argument
  use_keeps : (again : Bool) (a : Rule) (values : List Text) (rows : List Row) → Fits a → use_fault again a values rows ≡ []
      → AllRead rows → AllRead (used a values rows)
  use_keeps again a values rows fits e all =
      used_as_keeps (action_of a) again a (values_or_missing a values) rows refl fits
      (none_second (range_kinds (unwrap_or_range a.range).start_inclusive (most_values a) (length values)) _ e) all

  module _ (c : List Rule) (again : Bool) (fits : Each Fits c) where
    settle_keeps : (h : Held) → settle_fault c again h ≡ [] → AllRead h.rows → AllRead (settled c h).rows
    settle_keeps h e all = go h.pending e
      where
        one : (p : Text × List Text) (o : Option Rule) → arg_by_id c p.0 ≡ o → option_map_or (λ a. use_fault again a p.1 h.rows) o [] ≡ []
            → AllRead (used_by_id o p.1 h.rows)
        one p None is none = all
        one p (Some a) is none = use_keeps again a p.1 h.rows (find_each Fits _ c a is fits).0 none all

        go : (p : Option (Text × List Text))
            → option_map_or (λ p. option_map_or (λ a. use_fault again a p.1 h.rows) (arg_by_id c p.0) []) p [] ≡ []
            → AllRead (settled_rows c p h.rows)
        go None none = all
        go (Some p) none = one p (arg_by_id c p.0) refl none

    react_keeps : (a : Rule) (values : List Text) (h : Held) → Fits a → react_fault c again a values h ≡ [] → AllRead h.rows
        → AllRead (reacted c a values h).rows
    react_keeps a values h fit e all =
        use_keeps again a values (settled c h).rows fit (none_second (settle_fault c again h) _ e) (settle_keeps h (none_first _ _ e) all)

    option_keeps : (a : Rule) (v : Option Text) (h : Held) → Fits a → option_fault c again a v h ≡ [] → AllRead h.rows
        → AllRead (option_met c a v h).0.rows
    option_keeps a (Some v) h fit e all = react_keeps a (v ∷ []) h fit e all
    option_keeps a None h fit e all = settle_keeps h e all

    flag_keeps : (a : Rule) (v : Option Text) (h : Held) → Fits a
        → cond (is_some v) (kind.TooManyValues ∷ []) (react_fault c again a [] h) ≡ [] → AllRead h.rows → AllRead (flag_met c a v h).0.rows
    flag_keeps a (Some v) h fit e all = all
    flag_keeps a None h fit e all = react_keeps a [] h fit e all

    long_keeps : (o : Option Rule) (v : Option Text) (h : Held) → ((a : Rule) → o ≡ Some a → Fits a) → long_fault c again o v h ≡ []
        → AllRead h.rows → AllRead (long_met c o v h).0.rows
    long_keeps None v h fit e all = all
    long_keeps (Some a) v h fit e all = go (takes_values a) e
      where
        go : (b : Bool)
            → cond b (option_fault c again a v h) (cond (is_some v) (kind.TooManyValues ∷ []) (react_fault c again a [] h)) ≡ []
            → AllRead (cond b (option_met c a v h) (flag_met c a v h)).0.rows
        go true none = option_keeps a v h (fit a refl) none all
        go false none = flag_keeps a v h (fit a refl) none all

    short_keeps : (o : Option Rule) (rest : Text) (h : Held) (fails : Held → Kinds) (then : Held → Held × Outcome)
        → ((g : Held) → fails g ≡ [] → AllRead g.rows → AllRead (then g).0.rows)
        → ((a : Rule) → o ≡ Some a → Fits a) → short_fault c again o rest h fails ≡ []
        → AllRead h.rows → AllRead (short_met c o rest h then).0.rows
    short_keeps None rest h fails then keeps fit e all = all
    short_keeps (Some a) rest h fails then keeps fit e all = go (takes_values a) e
      where
        go : (b : Bool)
            → cond b (option_fault c again a (attached_value rest) h) (or_else (react_fault c again a [] h) (fails (reacted c a [] h))) ≡ []
            → AllRead (cond b (option_met c a (attached_value rest) h) (then (reacted c a [] h))).0.rows
        go true none = option_keeps a (attached_value rest) h (fit a refl) none all
        go false none =
            keeps (reacted c a [] h) (none_second (react_fault c again a [] h) _ none)
            (react_keeps a [] h (fit a refl) (none_first _ _ none) all)

    bundle_keeps : (k : ℕ) (flags : Text) (skip : ℕ) (so_far : Outcome) (h : Held) → flags_fault c again k flags skip h ≡ []
        → AllRead h.rows → AllRead (bundle_met c k flags skip so_far h).0.rows
    unfolding flags_fault bundle_met
    bundle_keeps zero flags skip so_far h e all = all
    bundle_keeps (suc k) flags skip so_far h e all =
        go (slice_get (chars flags) 0) skip e (λ rest n before g nothing reads. bundle_keeps k rest n before g nothing reads)
      where
        go : (o : Option ℕ) (n : ℕ) → bundle_step_fault c again o flags n h (flags_fault c again k) ≡ []
            → ((rest : Text) (m : ℕ) (before : Outcome) (g : Held) → flags_fault c again k rest m g ≡ [] → AllRead g.rows
            → AllRead (bundle_met c k rest m before g).0.rows)
            → AllRead (bundle_step c o flags n so_far h (bundle_met c k)).0.rows
        go None n none keeps = all
        go (Some x) zero none keeps =
            short_keeps (arg_by_short c x) _ h _ _ (λ g nothing reads. keeps _ 0 done g nothing reads)
            (λ a is. (find_each Fits _ c a is fits).0) none all
        go (Some x) (suc n) none keeps = keeps _ n so_far h none all

    option_word_keeps : (o : Option Rule) (key word : Text) (h : Held) → AllRead h.rows → AllRead (option_word o key word h).0.rows
    option_word_keeps None key word h all = all
    option_word_keeps (Some a) key word h all = all

    plain_keeps : (waiting : Waiting) (word : Text) (h : Held) → AllRead h.rows → AllRead (plain_word c waiting word h).0.rows
    plain_keeps idle word h all = all
    plain_keeps (option key) word h all = option_word_keeps (arg_by_id c key) key word h all
    plain_keeps positional word h all = all

    after_keeps : (waiting : Waiting) (word : Text) (h : Held) (o : Outcome) → AllRead h.rows
        → AllRead (after_flag c waiting word h o).0.rows
    after_keeps waiting word h done all = all
    after_keeps waiting word h (waits key) all = all
    after_keeps waiting word h plain all = plain_keeps waiting word h all
    after_keeps waiting word h refused all = plain_keeps waiting word h all

    flag_word_keeps : (waiting : Waiting) (word : Text) (o : Option (Text × Option Text)) (h : Held) → flag_word_fault c again o word h ≡ []
        → AllRead h.rows → AllRead (long_or_other c waiting word o h).0.rows
    flag_word_keeps waiting word (Some p) h e all =
        after_keeps waiting word (long_met c (arg_by_long c p.0) p.1 h).0 (long_met c (arg_by_long c p.0) p.1 h).1
        (long_keeps (arg_by_long c p.0) p.1 h (λ a is. (find_each Fits _ c a is fits).0) e all)
    flag_word_keeps waiting word None h e all = go (short_of word) e
      where
        go : (o : Option Text) → option_map_or (λ flags. bundle_fault c again flags h) o [] ≡ []
            → AllRead (short_or_plain c waiting word o h).0.rows
        go None none = plain_keeps waiting word h all
        go (Some flags) none =
            after_keeps waiting word (bundle c flags h).0 (bundle c flags h).1 (bundle_keeps (length flags) flags h.skip plain _ none all)

    held_keeps : (a : Rule) (word : Text) (h : Held) → positional_fault c again a h ≡ [] → AllRead h.rows
        → AllRead (positional_held c a word h).rows
    held_keeps a word h e all = go (is_pending a h.pending && takes_several a) e
      where
        go : (b : Bool) → cond b [] (settle_fault c again h) ≡ [] → AllRead (pushed a.id word (cond b h (settled c h))).rows
        go true none = all
        go false none = settle_keeps h none all

    -- ---- the walk

    word_keeps : (s : Shape) (names : Names) (is_trailing : Bool) (waiting : Waiting) (position : ℕ) (word : Text) (h : Held)
        → s.rules ≡ c → s.args_override_self ≡ again
        → word_fault s names is_trailing waiting word h ≡ [] → AllRead h.rows
        → AllRead (word_met c names is_trailing waiting position word h).0.rows
    word_keeps s names true waiting position word h rules override e all = all
    word_keeps s names false waiting position word h rules override e all = go (subcommand_met names waiting word) e
      where
        other : (b : Bool) → cond b [] (flag_word_fault s.rules s.args_override_self (long_of word) word h) ≡ []
            → AllRead (cond b (h, trailing position) (long_or_other c waiting word (long_of word) h)).0.rows
        other true none = all
        other false none = flag_word_keeps waiting word (long_of word) h (rw (← rules, ← override) none) all

        go : (o : Option Text) → other_fault s o word h ≡ [] → AllRead (subcommand_or_other c o waiting position word h).0.rows
        go (Some name) none = all
        go None none = other (bytes_eq word (45 ∷ 45 ∷ [])) none

    step_keeps : (s : Shape) (w : Walk) (word : Text) (h : Held) (step : Step) → s.rules ≡ c → s.args_override_self ≡ again
        → step_fault s w.position h step ≡ [] → AllRead h.rows → AllRead (after_step c word w h step).held.rows
    step_keeps s w word h (next waiting) rules override e all = all
    step_keeps s w word h (trailing position) rules override e all = all
    step_keeps s w word h (subcommand name) rules override e all = all
    step_keeps s w word h value rules override e all = go (arg_by_index c w.position) (rw (← rules, ← override) e)
      where
        go : (o : Option Rule) → option_map_or (λ a. positional_fault c again a h) o (stray_fault s) ≡ []
            → AllRead (to_positional c o word w h).held.rows
        go None none = all
        go (Some a) none = held_keeps a word h none all

-- ---- the subcommand at which a walk stops

-- the walk stops at no call for help
abbrev pub NoHelp : Option (Text × List Text) → Type 0
NoHelp None = ⊤
NoHelp (Some p) = bytes_eq p.0 (codes "help") ≡ false

abbrev Calm : Step → Type 0
Calm (next waiting) = ⊤
Calm (trailing position) = ⊤
Calm (subcommand name) = bytes_eq name (codes "help") ≡ false
Calm value = ⊤

calm_plain : (c : List Rule) (waiting : Waiting) (word : Text) (h : Held) → Calm (plain_word c waiting word h).1
calm_plain c idle word h = tt
calm_plain c (option key) word h = tt
calm_plain c positional word h = tt

calm_after : (c : List Rule) (waiting : Waiting) (word : Text) (h : Held) (o : Outcome) → Calm (after_flag c waiting word h o).1
calm_after c waiting word h done = tt
calm_after c waiting word h (waits key) = tt
calm_after c waiting word h plain = calm_plain c waiting word h
calm_after c waiting word h refused = calm_plain c waiting word h

calm_flag : (c : List Rule) (waiting : Waiting) (word : Text) (o : Option (Text × Option Text)) (h : Held)
    → Calm (long_or_other c waiting word o h).1
calm_flag c waiting word (Some p) h =
    calm_after c waiting word (long_met c (arg_by_long c p.0) p.1 h).0 (long_met c (arg_by_long c p.0) p.1 h).1
calm_flag c waiting word None h = go (short_of word)
  where
    go : (o : Option Text) → Calm (short_or_plain c waiting word o h).1
    go None = calm_plain c waiting word h
    go (Some flags) = calm_after c waiting word (bundle c flags h).0 (bundle c flags h).1

calm_word : (s : Shape) (names : Names) (is_trailing : Bool) (waiting : Waiting) (position : ℕ) (word : Text) (h : Held)
    → s.disable_help_subcommand ≡ false → word_fault s names is_trailing waiting word h ≡ []
    → Calm (word_met s.rules names is_trailing waiting position word h).1
calm_word s names true waiting position word h helps e = tt
calm_word s names false waiting position word h helps e = go (subcommand_met names waiting word) e
  where
    named : (b d : Bool) → d ≡ false → cond (b && not d) (kind.DisplayHelp ∷ kind.InvalidSubcommand ∷ []) [] ≡ [] → b ≡ false
    named true true off none = absurd (true≢false off)
    named true false off none = cc
    named false d off none = refl

    other : (b : Bool) → Calm (cond b (h, trailing position) (long_or_other s.rules waiting word (long_of word) h)).1
    other true = tt
    other false = calm_flag s.rules waiting word (long_of word) h

    go : (o : Option Text) → other_fault s o word h ≡ [] → Calm (subcommand_or_other s.rules o waiting position word h).1
    go (Some name) none = named (bytes_eq name (codes "help")) s.disable_help_subcommand helps none
    go None none = other (bytes_eq word (45 ∷ 45 ∷ []))

calm_step : (c : List Rule) (word : Text) (w : Walk) (h : Held) (step : Step) → Calm step → NoHelp w.stopped
    → NoHelp (after_step c word w h step).stopped
calm_step c word w h (next waiting) calm before = before
calm_step c word w h (trailing position) calm before = before
calm_step c word w h (subcommand name) calm before = calm
calm_step c word w h value calm before = go (arg_by_index c w.position)
  where
    go : (o : Option Rule) → NoHelp (to_positional c o word w h).stopped
    go None = before
    go (Some a) = tt

-- one more word
turn_stops : (s : Shape) (names : Names) (w : Walk) (word : Text) → s.disable_help_subcommand ≡ false → turn_fault s names w word ≡ []
    → NoHelp w.stopped → NoHelp (walked s.rules names w word).stopped
unfolding walked
turn_stops s names w word helps e before = go w.stopped e before
  where
    met : Held × Step
    met = word_met s.rules names w.is_trailing w.waiting w.position word w.held

    go : (o : Option (Text × List Text))
        → cond (is_some o) [] (or_else (word_fault s names w.is_trailing w.waiting word w.held) (step_fault s w.position met.0 met.1)) ≡ []
        → NoHelp o → NoHelp (walked_from s.rules names o w word).stopped
    go None none calm =
        calm_step s.rules word w met.0 met.1
        (calm_word s names w.is_trailing w.waiting w.position word w.held helps (none_first _ _ none)) before
    go (Some p) none calm = calm

-- a walk without a fault stops at no call for help
pub walk_stops : (s : Shape) (names : Names) (w : Walk) (words : List Text) → s.disable_help_subcommand ≡ false
    → walk_fault s names w words ≡ []
    → NoHelp w.stopped → NoHelp (fold (walked s.rules names) w words).stopped
unfolding walk_fault
walk_stops s names w [] helps e before = before
walk_stops s names w (word ∷ rest) helps e before =
    walk_stops s names (walked s.rules names w word) rest helps (none_second (turn_fault s names w word) _ e)
    (turn_stops s names w word helps (none_first _ _ e) before)

-- ---- the rows of a level

module _ (id : Text) (how : Reading) (Q : Text → Type 0) where
  turn_keeps : (s : Shape) (names : Names) (w : Walk) (word : Text) → Each (Fits id how Q) s.rules → turn_fault s names w word ≡ []
      → Each (Reads id how Q) w.held.rows → Each (Reads id how Q) (walked s.rules names w word).held.rows
  unfolding walked
  turn_keeps s names w word fits e all = go w.stopped e
    where
      met : Held × Step
      met = word_met s.rules names w.is_trailing w.waiting w.position word w.held

      go : (o : Option (Text × List Text))
          → cond (is_some o) []
          (or_else (word_fault s names w.is_trailing w.waiting word w.held) (step_fault s w.position met.0 met.1)) ≡ []
          → Each (Reads id how Q) (walked_from s.rules names o w word).held.rows
      go None none =
          step_keeps id how Q s.rules s.args_override_self fits s w word met.0 met.1 refl refl
          (none_second (word_fault s names w.is_trailing w.waiting word w.held) _ none)
          (word_keeps id how Q s.rules s.args_override_self fits s names w.is_trailing w.waiting w.position word w.held refl refl
          (none_first _ _ none) all)
      go (Some p) none = all

  walk_keeps : (s : Shape) (names : Names) (w : Walk) (words : List Text) → Each (Fits id how Q) s.rules → walk_fault s names w words ≡ []
      → Each (Reads id how Q) w.held.rows → Each (Reads id how Q) (fold (walked s.rules names) w words).held.rows
  unfolding walk_fault
  walk_keeps s names w [] fits e all = all
  walk_keeps s names w (word ∷ rest) fits e all =
      walk_keeps s names (walked s.rules names w word) rest fits (none_second (turn_fault s names w word) _ e)
      (turn_keeps s names w word fits (none_first _ _ e) all)

  default_keeps : (rows : List Row) (a : Rule) → Fits id how Q a → default_fault rows a ≡ [] → Each (Reads id how Q) rows
      → Each (Reads id how Q) (with_default rows a)
  default_keeps rows a fits e all = go (has_row a.id rows) a.defaults e
    where
      go : (b : Bool) (ds : List Text) → cond (b || is_empty ds) [] (given_default_fault a ds) ≡ []
          → Each (Reads id how Q) (cond b rows (default_rows a.id (reading_by a) ds rows))
      go true ds none = all
      go false [] none = all
      go false (v ∷ vs) none =
          let some : is_empty (v ∷ vs) ≡ false = ne_eqb _ _ (λ bad. omega arith) in
          values_keep id how Q a DefaultValue (v ∷ vs) rows
          (λ same. (
            (fits same).1,
            each_passes id how Q a (v ∷ vs) (fits same).2 (none_second (request_kinds (action_of a)) _ (rw some at none)),
          )) all

  defaults_keep : (rows : List Row) (rules : List Rule) → Each (Fits id how Q) rules → defaults_fault rows rules ≡ []
      → Each (Reads id how Q) rows → Each (Reads id how Q) (fold with_default rows rules)
  unfolding defaults_fault
  defaults_keep rows [] fits e all = all
  defaults_keep rows (a ∷ rest) fits e all =
      defaults_keep (with_default rows a) rest fits.1 (none_second (default_fault rows a) _ e)
      (default_keeps rows a fits.0 (none_first _ _ e) all)

  -- the rows of a level without a fault
  pub level_reads : (s : Shape) (names : Names) (words : List Text) (has_subcommand : Bool) (below : Kinds) → Each (Fits id how Q) s.rules
      → level_fault s names nothing_held words has_subcommand below ≡ [] → Each (Reads id how Q) (rows_after s.rules names words)
  level_reads s names words has_subcommand below fits e =
      let end = (walk s.rules names nothing_held words).held in
      let later = none_second below _ (none_second (walk_fault s names (walk_from nothing_held) words) _ e) in
      let walked_rows = walk_keeps s names (walk_from nothing_held) words fits (none_first _ _ e) tt in
      defaults_keep (settled s.rules end).rows s.rules fits
      (none_first _ _ (none_second (settle_fault s.rules s.args_override_self end) _ later))
      (settle_keeps id how Q s.rules s.args_override_self fits end (none_first _ _ later) walked_rows)

  -- what is held of the argument passed
  pub reads_one : (rows : List Row) (t : Text) → Each (Reads id how Q) rows → one_of id rows ≡ Some t
      → (v : Text) × (t ≡ read_as how v) × Q v
  reads_one rows t all is = go (find (λ r. bytes_eq r.id id) rows) refl is
    where
      first : (r : Row) (vs : List Text) → r.reading ≡ how → Each Q vs → option_map (read_as r.reading) (slice_get vs 0) ≡ Some t
          → (v : Text) × (t ≡ read_as how v) × Q v
      first r [] same passed found = cc
      first r (v ∷ vs) same passed found =
          (v, sym (ap (λ o. unwrap_or o t) found) ∙ ap (λ reading. read_as reading v) same, passed.0)

      go : (o : Option Row) → find (λ r. bytes_eq r.id id) rows ≡ o → option_and_then row_text o ≡ Some t
          → (v : Text) × (t ≡ read_as how v) × Q v
      go None none found = cc
      go (Some r) here found =
          let given = find_each (Reads id how Q) _ rows r here all in
          let reads = given.0 ((bytes_eq-Decides r.id id).0 given.1) in
          first r r.values reads.0 reads.1 found
