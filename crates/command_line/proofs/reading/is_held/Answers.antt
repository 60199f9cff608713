use Rattle.std.proofs.Common.{◌≡◌, ◌∙◌, rules, ap, sym, codes, Some, [], unwrap_or}
use Rattle.clap.proofs.WalkLemmas.{first_value-rows}
use Rattle.clap.specs.Words.{found_of}
use Rattle.command_line.proofs.reading.is_held.Goals as goal

pub returns-in-Some : goal.returns-in-Some
returns-in-Some c =
    let held = c.in-Some.ensures ∙ first_value-rows (found_of c.args.held.now) c.args.id.now in (
      λ given. let same : c.in-Some.text.now ≡ codes "true" = search rules in sym held ∙ ap Some same,
      λ true_held. let same : c.in-Some.text.now ≡ codes "true" = ap (λ o. unwrap_or o []) (held ∙ true_held) in search rules,
    )

pub returns-in-None : goal.returns-in-None
returns-in-None c =
    let held = c.in-None.ensures ∙ first_value-rows (found_of c.args.held.now) c.args.id.now in
    (λ given. cc, λ true_held. let bad = held ∙ true_held in cc)
