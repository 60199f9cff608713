-- Views that took in lists, and the states that they show.
use Rattle.std.proofs.Common.{◌≡◌, List, [], ◌++◌, refl, sym, ap, ◌∙◌, append_assoc}
use Rattle.std.proofs.lemmas.List.{append-nil}
use Rattle.objects.specs.declared.entry.Entry.{Entry}
use Rattle.objects.specs.Entries.{after}
use Rattle.intentions.specs.Levels.{Intentions as View, shown_values, begun, committed, aborted, absorbed, all_levels}
use Rattle.intentions.proofs.EntriesLemmas.{after-append}

pub absorbed-none : (v : View) → v ≡ absorbed v [] []
absorbed-none v =
    ap (λ es. record v { entries = es }) (sym (append-nil v.entries)) ∙ ap (λ ns. record v { entries = v.entries ++ []; net = ns })
    (sym (append-nil v.net))

pub absorbed-then : (v : View) (es ns fs ms : List Entry) → absorbed (absorbed v es ns) fs ms ≡ absorbed v (es ++ fs) (ns ++ ms)
absorbed-then v es ns fs ms = let e = append_assoc v.entries es fs in let n = append_assoc v.net ns ms in cc

pub shown-absorbed : (v : View) (es ns : List Entry) → shown_values (absorbed v es ns) ≡ after (shown_values v) ns
shown-absorbed v es ns = ap (after v.snapshot) (sym (append_assoc (all_levels v.outer) v.net ns))
    ∙ after-append v.snapshot (all_levels v.outer ++ v.net) ns

pub shown-begun : (v : View) → shown_values (begun v) ≡ shown_values v
shown-begun v = ap (after v.snapshot) (append-nil (all_levels v.outer ++ v.net))

pub committed-begun : (v : View) (es ns : List Entry) → committed (absorbed (begun v) es ns) ≡ absorbed v es ns
committed-begun v es ns = refl

pub aborted-begun : (v : View) (es ns : List Entry) → aborted (absorbed (begun v) es ns) ≡ absorbed v es []
aborted-begun v es ns = let n = append-nil v.net in cc

-- what an aborted level leaves shows what was shown at its begin
pub shown-aborted : (v : View) (es : List Entry) → shown_values (absorbed v es []) ≡ shown_values v
shown-aborted v es = shown-absorbed v es []
