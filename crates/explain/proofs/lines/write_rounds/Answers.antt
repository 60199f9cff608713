use Rattle.std.proofs.Common.{◌≡◌, length, arith, string_bytes}
use Rattle.std.proofs.lemmas.List.{length-map}
use Rattle.batch.specs.Parts.{blocks_of}
use Rattle.batch.specs.Views.{block_view}
use Rattle.explain.proofs.Reaching.{at_start, at_end}
use Rattle.explain.proofs.lines.write_rounds.Goals as goal

pub opening-init : goal.opening-init
opening-init g c = at_start c.args.batch.now c.args.objects.now (string_bytes c.args.out.now) c.requires.start c.requires.empty

pub returns : goal.returns
returns g c =
    let blocks : length (blocks_of c.args.batch.now) ≡ length c.args.batch.now.transactions.items =
    length-map c.args.batch.now.transactions.items block_view in
    let over = c.opening-test.false in
    at_end c.args.batch.now c.opening.opened c.opening.number c.opening.objects (string_bytes c.opening.out) c.opening.invariant
    (omega (arith, c.len.ensures, c.args.batch.now.transactions.ok.0))
