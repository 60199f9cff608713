use Rattle.std.proofs.Common.{length, refl, ap, ◌∙◌, arith}
use Rattle.std.proofs.lemmas.List.{length_push}
use Rattle.rounds.specs.declared.window.Window.{Window}
use Rattle.rounds.proofs.Listing.{grown_on, not_grown}
use Rattle.rounds.proofs.WindowLemmas.{reached_more}
use Rattle.rounds.proofs.window.Window.reach.Goals as goal

pub reaching-init : goal.reaching-init
reaching-init c = record {
  window = c.requires.window;
  grown = not_grown c.args.from c.args.self.now;
  flags = λ i. refl;
}

pub reaching-smaller : goal.reaching-smaller
reaching-smaller c =
    let going = c.reaching-test.true in
    let now = c.end.ensures in
    let pushed = ap length c.in_ok-push.ensures.items ∙ length_push c.reaching.self.runs.items c.empty.result in
    omega arith

pub reaching-preserved : goal.reaching-preserved
reaching-preserved c =
    let new : Window = record { first = c.reaching.self.first; runs = c.push.new.self; valid = c.push-in-reaching.new.self } in
    let going = c.reaching-test.true in
    let now = c.end.ensures in
    let end = c.requires.end in
    let more = reached_more c.args.batch.now c.args.from c.args.objects.now c.reaching.self new c.empty.result
    c.reaching.invariant.window (omega arith) refl c.in_ok-push.ensures.items c.in_ok-push-2.ensures.items in
    record {
      window = more.0;
      grown = grown_on c.args.from c.args.self.now c.reaching.self new c.reaching.invariant.grown more.1;
      flags = λ i. more.2 i ∙ c.reaching.invariant.flags i;
    }
