use Rattle.std.proofs.Common.{◌≡◌, ◌∷◌, Some, true, refl, sym, subst, ap, ◌∙◌, arith, rules, w64}
use Rattle.std.specs.Prelude.{codes}
use Rattle.json.specs.Token.{Token}
use Rattle.serde_json.specs.Data.{number, string}
use Rattle.doc_tokens.specs.Pulled.{ReadsMembers}
use Rattle.doc_tokens.specs.Pulled.TestKey.{word, least, entry}
use Rattle.doc_tree.specs.Scope.{numbers_of, with_item}
use Rattle.doc_tree.specs.Spelled.{item_of}
use Rattle.doc_rules.specs.Subjects.{fits_item, fits_number, fits_word}
use Rattle.vocabulary.specs.Words.{word_of_text}
use Rattle.doc_tokens.proofs.PulledLemmas.{reads_member, reads_number, reads_string}
use Rattle.doc_tokens.proofs.PulledTests.{entry_met, entry_spelled, least_met, least_spelled, word_met, word_spelled}
use Rattle.std.proofs.lemmas.Int.{to_z-of_z}
use Rattle.meaning.specs.declared.test.Test.TheVariants.{AtLeast}
use Rattle.doc_tokens.proofs.pull_blocks.pull_test.Goals as goal

pub returns-then-fits_word : goal.returns-then-fits_word
returns-then-fits_word c =
    let old = c.args.reader.now in
    let left = c.pull_text.new.reader in
    let s = c.in_ok-pull_text-in-Some-Key-is.field-0.now in
    let w = c.in_ok-word-in-Some-Key-is.word in
    let all : old ≡ Token.key (codes "is") ∷ Token.string s ∷ left = grind (arith, rules) in
    let meant : word_of_text s ≡ Some w = grind (arith, rules) in
    let fits : fits_word c.args.subject w ≡ true = grind (arith, rules) in (
      word,
      string s,
      λ k found ms new reads. subst (λ ts. ReadsMembers k found ts ms new) (sym all)
          (reads_member k found (codes "is") _ (Token.string s ∷ left) left new (string s) ms refl (omega arith)
          (reads_string k s left) reads),
      λ label first second counts. word_met c.args.subject label first c.args.version s w second counts meant fits,
      λ label first second. word_spelled c.args.subject label first s w second (numbers_of c.args.numbering.now) meant fits,
    )

pub returns-then-fits_number : goal.returns-then-fits_number
returns-then-fits_number c =
    let old = c.args.reader.now in
    let left = c.pull_whole.new.reader in
    let n = c.in_ok-least-in-Some-Key-atleast.least in
    let told = c.in_ok-least-in-Some-Key-atleast.ensures in
    let s = told.0 in
    let x = told.1 in
    let inside = c.next.new.self in
    let keyed : old ≡ Token.key (codes "atleast") ∷ inside = grind (arith, rules) in
    let all : old ≡ Token.key (codes "atleast") ∷ Token.number s ∷ left = keyed ∙ ap (λ ts. Token.key (codes "atleast") ∷ ts) told.2 in
    let numbers = numbers_of c.args.numbering.now in
    let same = to_z-of_z w64 n (search rules) in
    let fits : fits_number c.args.subject ≡ true = grind (arith, rules) in (
      least,
      number x,
      λ k found ms new reads. subst (λ ts. ReadsMembers k found ts ms new) (sym all)
          (reads_member k found (codes "atleast") _ (Token.number s ∷ left) left new (number x) ms refl (omega arith)
          (reads_number k s x left told.3) reads),
      λ label first second counts. least_met c.args.subject label first c.args.version x n second counts told.4 fits,
      λ label first second. ap (λ m. (AtLeast m, numbers)) same ∙ least_spelled c.args.subject label first x n second numbers told.4,
    )

pub returns-in_ok-item-in-Some-Key-item : goal.returns-in_ok-item-in-Some-Key-item
returns-in_ok-item-in-Some-Key-item c =
    let old = c.args.reader.now in
    let left = c.pull_name.new.reader in
    let s = c.in_ok-name-in-Some-Key-item.name.now in
    let x = c.in_ok-item-in-Some-Key-item.item in
    let numbers = numbers_of c.args.numbering.now in
    let after = numbers_of c.item_of.new.numbering in
    let inside = c.next.new.self in
    let keyed : old ≡ Token.key (codes "item") ∷ inside = grind (arith, rules) in
    let all : old ≡ Token.key (codes "item") ∷ Token.string s ∷ left = keyed
    ∙ ap (λ ts. Token.key (codes "item") ∷ ts) c.in_ok-name-in-Some-Key-item.ensures.0 in
    let fits : fits_item c.args.subject ≡ true = grind (arith, rules) in
    let numbered : (x ≡ item_of s numbers) × (after ≡ with_item s numbers) = grind (arith, rules) in (
      entry,
      string s,
      λ k found ms new reads. subst (λ ts. ReadsMembers k found ts ms new) (sym all)
          (reads_member k found (codes "item") _ (Token.string s ∷ left) left new (string s) ms refl (omega arith)
          (reads_string k s left) reads),
      λ label first second counts. entry_met c.args.subject label first c.args.version s second counts
          c.in_ok-name-in-Some-Key-item.ensures.1 fits,
      λ label first second. entry_spelled c.args.subject label first s x second numbers after numbered.0 numbered.1,
    )
