-- Entries of which some are performed on a part of the objects, and others are left.
use Rattle.std.proofs.Common.{◌≡◌, ℕ, List, [], ◌++◌, sym, subst}
use Rattle.objects.specs.Parts.{ArePerformedOn, CanPerformOn}
use Rattle.objects.specs.declared.entry.Entry.{Entry}
use Rattle.objects.specs.declared.kind.Value.{Value}
use Rattle.objects.proofs.PartLemmas.{can-first, can-next, performed-append, performed-none}

-- Of all entries these are left. Once they are performed, all are.
pub record AreLeft (first : ℕ) (before now : List Value) (all rest : List Entry) : Type 0 where
  pub can : CanPerformOn first now rest
  pub last : (next : List Value) → ArePerformedOn first now next rest → ArePerformedOn first before next all

-- at first all are left
pub are_left-start : (first : ℕ) (before : List Value) (all rest : List Entry) → CanPerformOn first before all → all ≡ rest
    → AreLeft first before before all rest
are_left-start first before all rest can is = record {
  can = subst (CanPerformOn first before) is can;
  last = λ next done. subst (ArePerformedOn first before next) (sym is) done;
}

-- the next ones can be performed
pub are_left-can : (first : ℕ) (before now : List Value) (all rest these more : List Entry) → AreLeft first before now all rest
    → rest ≡ these ++ more → CanPerformOn first now these
are_left-can first before now all rest these more h is = can-first first now these more (subst (CanPerformOn first now) is h.can)

-- after them the others are left
pub are_left-more : (first : ℕ) (before now next : List Value) (all rest these more : List Entry) → AreLeft first before now all rest
    → rest ≡ these ++ more → ArePerformedOn first now next these → AreLeft first before next all more
are_left-more first before now next all rest these more h is done = record {
  can = can-next first now next these more (subst (CanPerformOn first now) is h.can) done;
  last = λ final after. h.last final
      (subst (ArePerformedOn first now final) (sym is) (performed-append first now next final these more done after));
}

-- at the end none is left
pub are_left-end : (first : ℕ) (before now : List Value) (all rest : List Entry) → AreLeft first before now all rest → rest ≡ []
    → ArePerformedOn first before now all
are_left-end first before now all rest h none = h.last now (subst (ArePerformedOn first now now) (sym none) (performed-none first now))
