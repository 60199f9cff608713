use Rattle.std.proofs.Common.{rules}
use Rattle.devices.proofs.Known.{appends_beginning}
use Rattle.devices.proofs.output.write_texts.Goals as goal

pub returns-in_err-write_text-clause-beginning : goal.returns-in_err-write_text-clause-beginning
returns-in_err-write_text-clause-beginning g c =
    let beginning = appends_beginning _ _ _ c.args.texts.now c.loop-text.text-index c.text-item.result (search rules) c.text-item.is
    c.loop-text.invariant.1 (rw c.as_bytes.ensures.value at c.in_err-write_text.ensures.beginning) in
    search rules
