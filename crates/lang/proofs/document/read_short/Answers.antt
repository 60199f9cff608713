use Rattle.std.proofs.Common.{◌<◌, length, subst}
use Rattle.doc_rules.specs.Limits.{limits_of}
use Rattle.lang.proofs.GivenLemmas.{gives_short, gives_too_many}
use Rattle.lang.proofs.SinglyLemmas.{matched_none, matched_some}
use Rattle.lang.proofs.SpelledLemmas.{spelled_as}
use Rattle.lang.proofs.document.read_short.Goals as goal

pub judged-requires : goal.judged-requires
judged-requires c =
    let read = c.in-Ok.ensures in
    spelled_as c.args.bytes.now read.0 _ read.1 read.2 read.3

pub returns-in-Some : goal.returns-in-Some
returns-in-Some c =
    let bytes = c.args.bytes.now in
    let long = matched_some c.in_ok-too_long_for.field-0 _ _ _ c.in-Some.is c.in_ok-too_long_for.ensures in
    gives_too_many bytes _ (subst (λ v. (limits_of v).bytes < length bytes) long.0 long.1) c.outside-in-Some.ensures

pub returns-in-None : goal.returns-in-None
returns-in-None c =
    let short = matched_none c.in_ok-too_long_for.field-0 _ _ c.in-None.is c.in_ok-too_long_for.ensures in
    gives_short c.args.bytes.now c.read_by_trees.result short c.read_by_trees.ensures
