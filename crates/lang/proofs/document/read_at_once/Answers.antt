use Rattle.lang.proofs.SpelledLemmas.{spelled_as}
use Rattle.lang.proofs.document.read_at_once.Goals as goal

pub judged-requires : goal.judged-requires
judged-requires g c =
    let read = c.in-Ok.ensures in
    spelled_as c.args.bytes.now read.0 _ read.1 read.2 read.3
