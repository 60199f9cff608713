use Rattle.ordtx.proofs.OneAnswer.{one_fault, report_faultless, audit_faultless, plain_faultless, check_faultless, one_carry_fault}
use Rattle.ordtx.proofs.OneAnswer.{carried_faultless, explained_faultless, into_faultless, one_into_fault}
use Rattle.ordtx.proofs.laws.faults_are_determined.Goals as goal

pub returns-clause-faults : goal.returns-clause-faults
returns-clause-faults c = one_fault

pub returns-clause-reports : goal.returns-clause-reports
returns-clause-reports c = report_faultless

pub returns-clause-audits : goal.returns-clause-audits
returns-clause-audits c = audit_faultless

pub returns-clause-explained : goal.returns-clause-explained
returns-clause-explained c = explained_faultless

pub returns-clause-plain : goal.returns-clause-plain
returns-clause-plain c = plain_faultless

pub returns-clause-checks : goal.returns-clause-checks
returns-clause-checks c = check_faultless

pub returns-clause-carry_faults : goal.returns-clause-carry_faults
returns-clause-carry_faults c = one_carry_fault

pub returns-clause-carried : goal.returns-clause-carried
returns-clause-carried c = carried_faultless

pub returns-clause-into_faults : goal.returns-clause-into_faults
returns-clause-into_faults c = one_into_fault

pub returns-clause-into : goal.returns-clause-into
returns-clause-into c = into_faultless
