use Rattle.std.proofs.Common.{◌≡◌, ◌++◌, sym, ap, ◌∙◌, Some, None}
use Rattle.std.specs.Prelude.{codes, string_bytes}
use Rattle.batch.specs.Names.{names_of}
use Rattle.meaning.specs.Trees.{Otherwise, GoOn, Pass}
use Rattle.batch.specs.Views.{block_view}
use Rattle.batch.specs.declared.tree.Otherwise as otherwise
use Rattle.batch.proofs.Handling.{taker-is, taker-otherwise}
use Rattle.batch.proofs.ViewLemmas.{otherwise_view-Run, otherwise_view-GoOn, otherwise_view-Pass}
use Rattle.report.proofs.HandlerPlaces.{handler_place-is, otherwise_place-Run, otherwise_block-GoOn, otherwise_block-Pass}
use Rattle.report.proofs.paths.push_handler.Goals as goal

pub returns-in_ok-push_str-in-Some-2-clause-place : goal.returns-in_ok-push_str-in-Some-2-clause-place
returns-in_ok-push_str-in-Some-2-clause-place c =
    let names = names_of c.args.names.now in
    let here = string_bytes c.args.path.now in
    let handler = c.in-Some.handler.now in
    let path : string_bytes c.push_str-in-Some.new.self ≡ here ++ codes ".h:" ++ names.reason handler.reason =
    c.in_ok-push_str-in-Some-2.ensures.bytes ∙ ap (λ name. string_bytes c.push_str.new.self ++ name) c.reason_name.ensures
    ∙ ap (λ text. text ++ names.reason handler.reason) c.in_ok-push_str-in-Some.ensures.bytes in
    ap (λ text. (text, block_view handler.block)) path
    ∙ sym (handler_place-is names here c.args.reason c.args.child.now (Some handler) c.in-Some.ensures.first)

pub returns-in_ok-push_str-in-Run-clause-place : goal.returns-in_ok-push_str-in-Run-clause-place
returns-in_ok-push_str-in-Run-clause-place c =
    let names = names_of c.args.names.now in
    let here = string_bytes c.args.path.now in
    let block = c.in-Run.block in
    ap (λ text. (text, block_view block)) c.in_ok-push_str-in-Run.ensures.bytes
    ∙ sym (handler_place-is names here c.args.reason c.args.child.now None c.in-None.ensures.first
    ∙ otherwise_place-Run names here c.args.reason c.args.child.now block c.in-Run.is)

pub returns-in_ok-push_str-in-Some-2-clause-taken : goal.returns-in_ok-push_str-in-Some-2-clause-taken
returns-in_ok-push_str-in-Some-2-clause-taken c =
    sym (taker-is c.args.child.now c.args.reason (Some c.in-Some.handler.now) c.in-Some.ensures.first)

pub returns-in_ok-push_str-in-Run-clause-taken : goal.returns-in_ok-push_str-in-Run-clause-taken
returns-in_ok-push_str-in-Run-clause-taken c =
    let block = c.in-Run.block in
    let view = otherwise_view-Run block in
    let last = Otherwise (block_view block) in
    taker-otherwise c.args.child.now c.args.reason c.in-None.ensures.first (otherwise.Run block) c.in-Run.is last view

pub returns-in-GoOn-clause-taken : goal.returns-in-GoOn-clause-taken
returns-in-GoOn-clause-taken c =
    taker-otherwise c.args.child.now c.args.reason c.in-None.ensures.first otherwise.GoOn c.in-GoOn.is GoOn otherwise_view-GoOn

pub returns-in-Pass-clause-taken : goal.returns-in-Pass-clause-taken
returns-in-Pass-clause-taken c =
    taker-otherwise c.args.child.now c.args.reason c.in-None.ensures.first otherwise.Pass c.in-Pass.is Pass otherwise_view-Pass

pub returns-in-GoOn-clause-none : goal.returns-in-GoOn-clause-none
returns-in-GoOn-clause-none c =
    let names = names_of c.args.names.now in
    ap (λ p. p.1) (handler_place-is names (string_bytes c.args.path.now) c.args.reason c.args.child.now None c.in-None.ensures.first)
    ∙ otherwise_block-GoOn names (string_bytes c.args.path.now) c.args.reason c.args.child.now c.in-GoOn.is

pub returns-in-Pass-clause-none : goal.returns-in-Pass-clause-none
returns-in-Pass-clause-none c =
    let names = names_of c.args.names.now in
    ap (λ p. p.1) (handler_place-is names (string_bytes c.args.path.now) c.args.reason c.args.child.now None c.in-None.ensures.first)
    ∙ otherwise_block-Pass names (string_bytes c.args.path.now) c.args.reason c.args.child.now c.in-Pass.is
