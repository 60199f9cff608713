use Rattle.doc_tokens.proofs.HeadLemmas.{head_known, head_left, head_read}
use Rattle.doc_tokens.proofs.head.pull_declared.Goals as goal

pub returns-clause-head : goal.returns-clause-head
returns-clause-head c =
    let version = c.in_ok-version.version in
    let order = c.in_ok-version.order in
    let old = c.args.reader.now in
    let opens = c.in_ok-version.ensures in
    let done = c.in_ok-declared.ensures in
    let r2 = c.pull_opening.new.reader in
    let r3 = c.pull_objects.new.reader in
    let r4 = c.pull_closing.new.reader in
    let closes = c.in_ok-pull_closing.ensures in record {
      version = version;
      known = head_known version old r2 r3 r4 done.0 order opens closes;
      os = done.0;
      few = done.2;
      objects = done.3;
      named = done.4;
      set = done.5;
      started = done.6;
      begins = head_read version old r2 r3 r4 done.0 order opens done.1 closes;
    }

pub returns-clause-left : goal.returns-clause-left
returns-clause-left c v left =
    let done = c.in_ok-declared.ensures in
    head_left c.in_ok-version.version c.args.reader.now c.pull_opening.new.reader c.pull_objects.new.reader c.pull_closing.new.reader done.0
    c.in_ok-version.order c.in_ok-version.ensures done.1 c.in_ok-pull_closing.ensures v left
