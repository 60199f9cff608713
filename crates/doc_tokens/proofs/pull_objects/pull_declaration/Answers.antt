use Rattle.std.proofs.Common.{◌≡◌, ◌++◌, ◌∷◌, [], Some, sym, subst, ap, ◌∙◌, arith, rules}
use Rattle.json.specs.Token.{end_object}
use Rattle.batch.specs.Names.{texts_of}
use Rattle.vocabulary.specs.Words.{kind_of_text}
use Rattle.doc_tree.specs.Answer.{IsMet}
use Rattle.doc_tree.specs.Asked.{object_name_asked}
use Rattle.doc_tree.specs.Scope.{numbers_of}
use Rattle.doc_tree.specs.Spelled.{start_of}
use Rattle.doc_tokens.specs.Pulled.{ReadsValue}
use Rattle.doc_tokens.specs.PulledObjects.{IsOpened, declaration}
use Rattle.doc_tokens.proofs.ObjectLemmas.{declared_kind, declared_met}
use Rattle.doc_tokens.proofs.PulledLemmas.{reads_deeper}
use Rattle.doc_tokens.proofs.pull_objects.pull_declaration.Goals as goal

pub returns-in_ok-pull_end_object-in-Common : goal.returns-in_ok-pull_end_object-in-Common
returns-in_ok-pull_end_object-in-Common c =
    let version = c.args.version in
    let s = c.in-Common.name.now in
    let t = c.in-Common.kind.now in
    let k = c.in_ok-kind-in-Common.kind in
    let names = texts_of c.args.names.now.keys in
    let start = c.args.counts.now in
    let numbers = numbers_of c.args.numbering.now in
    let mid = c.open_object.new.reader in
    let last = c.pull_start.new.reader in
    let new = c.pull_end_object.new.reader in
    let done = c.in_ok-start-in-Common.ensures in
    let d = done.0 in
    let opened = subst (IsOpened c.args.reader.now mid) c.in-Common.is c.in_ok-name.ensures in
    let ended : last ≡ end_object ∷ new = grind (arith, rules) in
    let known : kind_of_text version t ≡ Some k = grind (arith, rules) in
    let named : IsMet start (object_name_asked version names s) start = grind (arith, rules) in
    let joined : texts_of c.add_name.new.names.keys ≡ names ++ s ∷ [] = grind (arith, rules) in (
      declaration s t d,
      opened d new (subst (λ ts. ReadsValue 124 mid d ts) ended (reads_deeper 2 124 mid d last (omega arith) done.1)),
      declared_met version s t d k known names start c.pull_start.new.counts named done.2,
      done.3 ∙ ap (λ x. start_of x numbers d) (sym (declared_kind version s t d k known)),
      joined,
    )
