use Rattle.std.proofs.Common.{rules}
use Rattle.ordtx.proofs.Known.{answered}
use Rattle.ordtx.proofs.streams.explain_audit_stream.Goals as goal

pub returns : goal.returns
returns g c =
    let read = c.in_ok-document.ensures in
    let wrote = c.write_texts.ensures in
    answered (λ _ _ e. e) _ _ c.write_texts.result read.bytes read.mark wrote.whole wrote.beginning wrote.fault wrote.mark (search rules)
