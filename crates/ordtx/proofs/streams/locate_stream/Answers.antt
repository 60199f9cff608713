use Rattle.std.proofs.Common.{rules}
use Rattle.ordtx.proofs.Known.{answered, ok_or_err}
use Rattle.ordtx.proofs.streams.locate_stream.Goals as goal

pub returns-clause-answer : goal.returns-clause-answer
returns-clause-answer g c =
    let read = c.in_ok-document.ensures in
    let wrote = c.in_ok-write_text.ensures in
    answered (λ _ _ e. e) _ _ _ read.bytes read.mark wrote.whole tt tt
    (λ failed. absurd (ok_or_err _ _ (wrote.mark.0 failed)), λ e. absurd (ok_or_err _ _ e)) (search rules)
