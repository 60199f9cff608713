use Rattle.std.proofs.Common.{◌∙◌, rules, ap₂}
use Rattle.batch.specs.Names.{names_of}
use Rattle.carry.specs.Carried.{carried_text}
use Rattle.lang.specs.Reading.{document_of}
use Rattle.ordtx.proofs.carrying.carried_of_batch.Goals as goal

pub returns-clause-text : goal.returns-clause-text
returns-clause-text c = λ bytes reads. record {
  document = document_of c.args.batch.now;
  reads = reads;
  fits = search rules;
  is = c.in_ok-text.ensures ∙ ap₂ (λ v end. carried_text v (names_of c.args.batch.now.names) end) c.carried_version-version.ensures
      c.in_ok-objects.ensures.objects;
}
