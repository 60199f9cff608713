use Rattle.ordtx.proofs.OneAnswer.{one_report, one_audit, one_explained, one_plain, one_carried, one_check, one_into}
use Rattle.ordtx.proofs.laws.answers_are_determined.Goals as goal

pub returns-clause-reports : goal.returns-clause-reports
returns-clause-reports c = one_report

pub returns-clause-audits : goal.returns-clause-audits
returns-clause-audits c = one_audit

pub returns-clause-explained : goal.returns-clause-explained
returns-clause-explained c = one_explained

pub returns-clause-plain : goal.returns-clause-plain
returns-clause-plain c = one_plain

pub returns-clause-carried : goal.returns-clause-carried
returns-clause-carried c = one_carried

pub returns-clause-checks : goal.returns-clause-checks
returns-clause-checks c = one_check

pub returns-clause-into : goal.returns-clause-into
returns-clause-into c = one_into
