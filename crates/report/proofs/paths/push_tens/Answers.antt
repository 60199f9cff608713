use Rattle.std.proofs.Common.{◌++◌, sym, ap, ◌∙◌, arith, append-nil, string_bytes}
use Rattle.report.proofs.Digits.{tens-none, tens-some}
use Rattle.report.proofs.paths.push_tens.Goals as goal

pub returns-in_ok-write_natural : goal.returns-in_ok-write_natural
returns-in_ok-write_natural c =
    c.in_ok-write_natural.ensures
    ∙ ap (λ text. string_bytes c.args.path.now ++ text) (sym (tens-some c.args.number (omega (arith, c.if-number-ge10.true))))

pub returns-else-number-ge10 : goal.returns-else-number-ge10
returns-else-number-ge10 c =
    sym (append-nil _)
    ∙ ap (λ text. string_bytes c.args.path.now ++ text) (sym (tens-none c.args.number (omega (arith, c.if-number-ge10.false))))
