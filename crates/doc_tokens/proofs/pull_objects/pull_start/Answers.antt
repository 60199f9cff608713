use Rattle.std.proofs.Common.{◌≡◌, ◌∷◌, ap, sym, subst, ◌∙◌, arith, rules, w64}
use Rattle.std.proofs.lemmas.Int.{to_z-of_z}
use Rattle.json.specs.Token.{Token}
use Rattle.serde_json.specs.Data.{array}
use Rattle.objects.specs.declared.kind.Value.TheVariants as value
use Rattle.doc_tree.specs.Scope.{numbers_of}
use Rattle.doc_tokens.specs.Pulled.{ReadsValue}
use Rattle.doc_tokens.proofs.ObjectLemmas.{directory_met, directory_spelled, number_met, number_spelled}
use Rattle.doc_tokens.proofs.ObjectLemmas.{queue_met, queue_spelled, set_met, set_spelled, signed_met, signed_spelled}
use Rattle.doc_tokens.proofs.PulledLemmas.{reads_array, reads_deeper}
use Rattle.doc_tokens.proofs.pull_objects.pull_start.Goals as goal

pub returns-in_ok-pull_number-in-Number : goal.returns-in_ok-pull_number-in-Number
returns-in_ok-pull_number-in-Number c =
    let done = c.in_ok-pull_number-in-Number.ensures in
    let form = sym c.form.ensures ∙ c.in-Number.is in
    let start = c.args.counts.now in
    let numbers = numbers_of c.args.numbering.now in (
      done.0,
      reads_deeper 0 2 _ done.0 _ (omega arith) done.1,
      number_met c.args.version start numbers done.0 c.args.kind _ _ form done.2,
      rw c.value.ensures (number_spelled c.args.version start numbers done.0 c.args.kind _ _ form done.2),
    )

pub returns-in_ok-pull_signed-in-Signed : goal.returns-in_ok-pull_signed-in-Signed
returns-in_ok-pull_signed-in-Signed c =
    let done = c.in_ok-pull_signed-in-Signed.ensures in
    let n = c.in_ok-pull_signed-in-Signed.field-0 in
    let same = to_z-of_z w64 n (search rules) in
    let form = sym c.form.ensures ∙ c.in-Signed.is in
    let start = c.args.counts.now in
    let numbers = numbers_of c.args.numbering.now in (
      done.0,
      reads_deeper 0 2 _ done.0 _ (omega arith) done.1,
      signed_met c.args.version start numbers done.0 c.args.kind n form done.2,
      ap (λ m. (value.Counter m, numbers)) same ∙ signed_spelled c.args.version start numbers done.0 c.args.kind n form done.2,
    )

pub returns-in_ok-set-in-Set : goal.returns-in_ok-set-in-Set
returns-in_ok-set-in-Set c =
    let done = c.in_ok-set-in-Set.ensures in
    let form = sym c.form.ensures ∙ c.in-Set.is in
    let start = c.args.counts.now in
    let next = c.pull_set.new.counts in
    let numbers = numbers_of c.args.numbering.now in
    let after = numbers_of c.pull_set.new.numbering in
    let new = c.pull_set.new.reader in
    let inside = c.pull_begin_array.new.reader in
    let begun : c.args.reader.now ≡ Token.begin_array ∷ inside = grind (arith, rules) in (
      array done.0,
      subst (λ ts. ReadsValue 2 ts (array done.0) new) (sym begun)
          (reads_deeper 1 2 _ (array done.0) new (omega arith) (reads_array 0 inside done.0 new done.1)),
      set_met c.args.version start next numbers after done.0 c.args.kind form done.2,
      set_spelled c.args.version start next numbers after done.0 c.args.kind c.in_ok-set-in-Set.set form done.3,
    )

pub returns-in_ok-queue-in-Queue : goal.returns-in_ok-queue-in-Queue
returns-in_ok-queue-in-Queue c =
    let done = c.in_ok-queue-in-Queue.ensures in
    let form = sym c.form.ensures ∙ c.in-Queue.is in
    let start = c.args.counts.now in
    let next = c.pull_queue.new.counts in
    let numbers = numbers_of c.args.numbering.now in
    let after = numbers_of c.pull_queue.new.numbering in
    let new = c.pull_queue.new.reader in
    let inside = c.pull_begin_array-in-Queue.new.reader in
    let begun : c.args.reader.now ≡ Token.begin_array ∷ inside = grind (arith, rules) in (
      array done.0,
      subst (λ ts. ReadsValue 2 ts (array done.0) new) (sym begun)
          (reads_deeper 1 2 _ (array done.0) new (omega arith) (reads_array 0 inside done.0 new done.1)),
      queue_met c.args.version start next numbers after done.0 c.args.kind form done.2,
      queue_spelled c.args.version start next numbers after done.0 c.args.kind c.in_ok-queue-in-Queue.queue form done.3,
    )

pub returns-in_ok-directory-in-Directory : goal.returns-in_ok-directory-in-Directory
returns-in_ok-directory-in-Directory c =
    let done = c.in_ok-directory-in-Directory.ensures in
    let form = sym c.form.ensures ∙ c.in-Directory.is in
    let start = c.args.counts.now in
    let next = c.pull_directory.new.counts in
    let numbers = numbers_of c.args.numbering.now in
    let after = numbers_of c.pull_directory.new.numbering in
    let new = c.pull_directory.new.reader in
    let inside = c.pull_begin_array-in-Directory.new.reader in
    let begun : c.args.reader.now ≡ Token.begin_array ∷ inside = grind (arith, rules) in (
      array done.0,
      subst (λ ts. ReadsValue 2 ts (array done.0) new) (sym begun)
          (reads_deeper 2 2 _ (array done.0) new (omega arith) (reads_array 1 inside done.0 new done.1)),
      directory_met c.args.version start next numbers after done.0 c.args.kind form done.2,
      directory_spelled c.args.version start next numbers after done.0 c.args.kind
          c.in_ok-directory-in-Directory.directory form done.3,
    )
