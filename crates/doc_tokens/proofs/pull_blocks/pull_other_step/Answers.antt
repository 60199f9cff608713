use Rattle.std.proofs.Common.{◌+◌, ◌*◌, arith}
use Rattle.serde_json.specs.View.{view}
use Rattle.doc_tokens.proofs.PulledLemmas.{reads_deeper}
use Rattle.doc_tokens.proofs.pull_blocks.pull_other_step.Goals as goal

pub returns : goal.returns
returns c =
    let k = 5 * c.args.levels in record {
      value = view c.in_ok-step.step;
      reads = reads_deeper (k + 3 + 1) (k + 4) _ (view c.in_ok-step.step) c.pull_object.new.reader (omega arith) c.in_ok-step.ensures;
      met = c.in_ok-read.ensures.met;
      spelled = c.in_ok-read.ensures.value;
      scope = c.in_ok-read.ensures.labels;
    }
