use Rattle.std.proofs.Common.{map}
use Rattle.clap.specs.Words.{found_of, rows_of}
use Rattle.command_line.proofs.Matched.{can_be_matched}
use Rattle.command_line.proofs.Matches.{subcommand_held}
use Rattle.command_line.proofs.Refusing.{faultless, no_fault, refused_for, takes_words}
use Rattle.command_line.proofs.reading.line.Goals as goal

pub line_of-requires : goal.line_of-requires
line_of-requires c =
    let words = map (λ word. word.now) c.args.words.now in
    can_be_matched words _ _ (no_fault _ words c.in-Ok.ensures.kinds c.in_ok-ordtx_command.ensures)
    (subcommand_held _ words c.in-Ok.matches c.in-Some.name.now (rows_of (found_of c.in-Some.held.now)) c.in-Ok.ensures.matches
    c.in_ok-ordtx_command.ensures c.in-Some.ensures.name c.in-Some.ensures.rows)

pub returns-in_ok-line_of-in-Some-clause-faultless : goal.returns-in_ok-line_of-in-Some-clause-faultless
returns-in_ok-line_of-in-Some-clause-faultless c = faultless _ (no_fault _ _ c.in-Ok.ensures.kinds c.in_ok-ordtx_command.ensures)

pub returns-in-Err-clause-taken : goal.returns-in-Err-clause-taken
returns-in-Err-clause-taken c = λ taken.
    let words = map (λ word. word.now) c.args.words.now in
    c.refusal.ensures.memory (c.in-Err.ensures.passes (takes_words _ words taken c.in_ok-ordtx_command.ensures))

pub returns-in-Err-clause-refused : goal.returns-in-Err-clause-refused
returns-in-Err-clause-refused c =
    refused_for _ _ _ c.refusal.result c.in-Err.ensures.kinds c.in_ok-ordtx_command.ensures c.refusal.ensures.memory
    c.refusal.ensures.refused
