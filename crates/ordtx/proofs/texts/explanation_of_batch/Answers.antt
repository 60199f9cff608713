use Rattle.std.proofs.Common.{rules}
use Rattle.lang.specs.Reading.{document_of}
use Rattle.ordtx.specs.Texts.{are_shown}
use Rattle.ordtx.proofs.Known.{explained}
use Rattle.ordtx.proofs.texts.explanation_of_batch.Goals as goal

pub returns : goal.returns
returns g c = λ bytes reads. explained (are_shown c.args.counts) bytes c.in_ok-parts.parts.items c.push.new.self.items c.in_ok-why.why
    (search rules) (c.in_ok-parts.ensures bytes reads)
    (record { document = document_of c.args.batch.now; reads = reads; is = search rules })
