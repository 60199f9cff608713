-- Why a command line is refused.
use Rattle.std.proofs.Common.{◌≡◌, ◌∙◌, ◌||◌, ◌⊎◌, ⊎_elim, inl, inr, Bool, true, false, not, refl, sym, ap, subst, List, [], ◌∷◌}
use Rattle.std.proofs.Common.{codes}
use Rattle.std.specs.List.{list_any}
use Rattle.clap.specs.Words.{App, IsAmong, Kinds, Text, fault_of, takes}
use Rattle.clap.specs.Faults.{is_simple_and_free}
use Rattle.clap.specs.declared.error.kind.ErrorKind.{ErrorKind}
use Rattle.clap.specs.declared.error.kind.ErrorKind.TheVariants as kind
use Rattle.clap.proofs.OnLiterals.{clap_on_literals}
use Rattle.command_line.specs.CommandLine.{IsAboutHelp, IsRefusalBy, IsRefusalOf, IsTaken, faults_of, is_help, ordtx_app}
use Rattle.command_line.specs.declared.asked.Refused.{Refused}
use Rattle.command_line.specs.declared.asked.Refused.TheVariants as refusal

-- help on anything fails as help, or as an unknown command
pub help_faults : (program word : Text) (rest : List Text)
    → fault_of ordtx_app (program ∷ codes "help" ∷ word ∷ rest) ≡ kind.DisplayHelp ∷ kind.InvalidSubcommand ∷ []
unfolding clap_on_literals
help_faults program word rest = refl

-- one of the kinds passes the test
among_any : (p : ErrorKind → Bool) (k : ErrorKind) (ks : Kinds) → IsAmong k ks → p k ≡ true → list_any p ks ≡ true
among_any p k [] among passes = absurd among
among_any p k (x ∷ xs) (inl is) passes = ap (λ b. b || list_any p xs) (ap p (sym is) ∙ passes)
among_any p k (x ∷ xs) (inr later) passes = go (p x) (among_any p k xs later passes)
  where
    go : (b : Bool) → list_any p xs ≡ true → (b || list_any p xs) ≡ true
    go true e = refl
    go false e = e

-- a refusal by one of the kinds is one of the words
pub refusal_by : (words : List Text) (k : ErrorKind) (r : Refused) → IsRefusalBy k r → IsAmong k (faults_of words) → IsRefusalOf words r
refusal_by words k refusal.Memory by among = tt
refusal_by words k (refusal.Help text) by among = among_any is_help k (faults_of words) among by
refusal_by words k (refusal.Words text) by among = among_any (λ x. not (is_help x)) k (faults_of words) among (ap not by)

-- words about help may be refused either way
pub refusal_of_help : (words : List Text) (r : Refused) → IsAboutHelp words → IsRefusalOf words r
unfolding faults_of
refusal_of_help (program ∷ name ∷ flag ∷ rest) refusal.Memory about = tt
refusal_of_help (program ∷ name ∷ flag ∷ rest) (refusal.Help text) about =
    ap (list_any is_help) (ap (λ (n : Text). fault_of ordtx_app (program ∷ n ∷ flag ∷ rest)) about.0 ∙ help_faults program flag rest)
refusal_of_help (program ∷ name ∷ flag ∷ rest) (refusal.Words text) about =
    ap (list_any (λ x. not (is_help x)))
    (ap (λ (n : Text). fault_of ordtx_app (program ∷ n ∷ flag ∷ rest)) about.0 ∙ help_faults program flag rest)
refusal_of_help words r about = absurd about

-- `clap` takes the words of the program's command line
pub takes_words : (a : App) (words : List Text) → IsTaken words → a ≡ ordtx_app → takes a words ≡ true
unfolding IsTaken
takes_words a words taken is = ap (λ (b : App). takes b words) is ∙ taken

-- a refusal for an error of `clap` is one of the words
pub refused_for : (a : App) (words : List Text) (k : ErrorKind) (r : Refused)
    → (is_simple_and_free a ≡ true → (k ≡ kind.OutOfMemory) ⊎ IsAmong k (fault_of a words)) → a ≡ ordtx_app
    → (k ≡ kind.OutOfMemory → r ≡ refusal.Memory) → (IsAmong k (faults_of words) → IsRefusalOf words r) → IsRefusalOf words r
unfolding faults_of
refused_for a words k r has is memory among =
    let simple : is_simple_and_free ordtx_app ≡ true = refl in
    let kinds : (k ≡ kind.OutOfMemory) ⊎ IsAmong k (fault_of ordtx_app words) =
    subst (λ (b : App). (k ≡ kind.OutOfMemory) ⊎ IsAmong k (fault_of b words)) is (has (ap is_simple_and_free is ∙ simple)) in
    ⊎_elim (λ out. subst (IsRefusalOf words) (sym (memory out)) tt) among kinds

-- words that parse have no fault
pub no_fault : (a : App) (words : List Text) → (is_simple_and_free a ≡ true → fault_of a words ≡ []) → a ≡ ordtx_app
    → fault_of ordtx_app words ≡ []
no_fault a words none is =
    let simple : is_simple_and_free ordtx_app ≡ true = refl in
    sym (ap (λ (b : App). fault_of b words) is) ∙ none (ap is_simple_and_free is ∙ simple)

pub faultless : (words : List Text) → fault_of ordtx_app words ≡ [] → faults_of words ≡ []
unfolding faults_of
faultless words none = none

-- help on help never parses
pub never_parses : (a : App) (words : List Text) (program : Text) → (is_simple_and_free a ≡ true → fault_of a words ≡ []) → a ≡ ordtx_app
    → words ≡ program ∷ codes "help" ∷ codes "help" ∷ [] → ⊥
never_parses a words program none is given =
    let nothing = sym (help_faults program (codes "help") []) ∙ sym (ap (fault_of ordtx_app) given) ∙ no_fault a words none is in
    cc
