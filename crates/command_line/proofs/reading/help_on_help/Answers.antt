use Rattle.std.proofs.Common.{rules}
use Rattle.command_line.proofs.Refusing.{never_parses}
use Rattle.command_line.proofs.reading.help_on_help.Goals as goal

pub unreachable-requires : goal.unreachable-requires
unreachable-requires c =
    never_parses _ _ c.args.program.now c.in-Ok-try_get_matches_from.ensures.kinds c.in-Ok.ensures (search rules)
