use Rattle.std.proofs.Common.{◌∙◌, ◌++◌, ap, sym, string_bytes}
use Rattle.report.proofs.Digits.{two_digits}
use Rattle.report.proofs.TextLemmas.{after_two}
use Rattle.report.proofs.calls.write_natural.Goals as goal

pub returns-then-number-lt100 : goal.returns-then-number-lt100
returns-then-number-lt100 c =
    after_two _ _ _ _ _ c.in_ok-write_digit.ensures c.in_ok-write_digit-2.ensures
    ∙ ap (λ text. string_bytes c.args.out.now ++ text) (sym (two_digits c.args.number c.if-number-lt10.false c.if-number-lt100.true))
