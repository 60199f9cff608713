-- Handlers by reason that were pulled from tokens, where their reasons ascend.
use Rattle.std.proofs.Common.{◌≡◌, ℕ, List, Option, None, Some, Greater, nat_cmp, refl, ap, ◌∙◌}
use Rattle.std.proofs.lemmas.Cmp.{nat_list_cmp_total}
use Rattle.std.specs.Cmp.Lexicographic.{slice_cmp}
use Rattle.std.specs.Ordering.{ordering_reverse}
use Rattle.serde_json.specs.Data.{Data, Members, member, put}
use Rattle.doc_tokens.specs.Pulled.{IsAfter}

-- what is after a reason is after the one before it, too
pub after_both : (before : Option (List ℕ)) (reason next : List ℕ) → IsAfter reason before → IsAfter next (Some reason)
    → IsAfter next before
after_both None reason next first second = tt
after_both (Some before) reason next first second = nat_list_cmp_total.trans before reason next first second

-- a member after another is put after it
pub put_after : (reason next : List ℕ) (d e : Data) (ds : Members) → IsAfter next (Some reason)
    → put next e (member reason d ds) ≡ member reason d (put next e ds)
put_after reason next d e ds after =
    let above : slice_cmp nat_cmp next reason ≡ Greater = nat_list_cmp_total.antisymm next reason ∙ ap ordering_reverse after in
    rw above refl
