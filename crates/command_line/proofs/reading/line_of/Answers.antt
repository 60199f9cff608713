use Rattle.command_line.proofs.reading.line_of.Goals as goal

pub returns : goal.returns
returns c = record {
  command = c.command_named-command.ensures;
  file = c.in_ok-file.ensures;
  into = c.in_ok-into.ensures;
  workers = rw c.default_workers.ensures.is at c.held_plan-plan.ensures.workers;
  cut = c.held_plan-plan.ensures.cut;
  audit = c.is_held-audit.ensures;
  why = c.is_held-why.ensures;
  progress = c.is_held-progress.ensures;
}
