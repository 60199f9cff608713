use Rattle.std.proofs.Common.{refl, arith}
use Rattle.doc_tree.specs.Demand.{no_counts}
use Rattle.lang.proofs.Located.{length_told, long_by, misread_told}
use Rattle.lang.proofs.SinglyLemmas.{matched_none, matched_some}
use Rattle.lang.proofs.places.locate.Goals as goal

pub returns-in-Some-clause-mistake : goal.returns-in-Some-clause-mistake
returns-in-Some-clause-mistake c =
    let bytes = c.args.bytes.now in
    let said = c.in_ok-too_long-2.ensures in
    let long = matched_some c.in_ok-version.field-0 c.in-Some.version _ _ c.in-Some.is c.in_ok-version.ensures in
    length_told bytes c.args.fault _ _ said.place
    (long_by bytes _ c.in-Some.version (omega (arith, c.if-bytes-gt-MAX_BYTES.false)) long.0 long.1 said.words)

pub returns-in-Some-2-clause-mistake : goal.returns-in-Some-2-clause-mistake
returns-in-Some-2-clause-mistake c =
    let bytes = c.args.bytes.now in
    let few = matched_none c.in_ok-version.field-0 _ _ c.in_default.is c.in_ok-version.ensures in
    let misread = c.in-Some-2.misread in
    let first = matched_some c.in_ok-misread.field-0 misread _ _ c.in-Some-2.is c.in_ok-misread.ensures in
    misread_told bytes first.0 c.args.fault misread _ _ no_counts c.requires few first.1 refl first.2 c.in_ok-mistake.ensures
