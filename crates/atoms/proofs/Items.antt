-- The order of items is total, and items in the same place of it are one.
use Rattle.std.specs.Prelude.{◌≡◌, ℕ, true, false}
use Rattle.std.proofs.Common.{ap}
use Rattle.std.specs.Cmp.{IsTotalOrder, nat_cmp_total, eq_by_cmp_equiv, Equal-is}
use Rattle.std.specs.Ordering.{eq_by_cmp}
use Rattle.std.proofs.lemmas.Bool.{false_from_ne_true}
use Rattle.std.proofs.lemmas.Cmp.{on_total}
use Rattle.std.specs.FinMap.{IsAntisymmetric, nat_cmp-IsAntisymmetric}
use Rattle.atoms.specs.Item.{item_cmp}
use Rattle.atoms.specs.declared.item.Item.{Item}

pub one_item : (x y : Item) → x.0 ≡ y.0 → x ≡ y
one_item x y e = ap (λ (n : ℕ). let item : Item = record { 0 = n } in item) e

pub items_total : IsTotalOrder item_cmp
items_total = on_total (λ (x : Item). x.0) nat_cmp_total

pub items_antisymmetric : IsAntisymmetric item_cmp
items_antisymmetric x y e = one_item x y (nat_cmp-IsAntisymmetric x.0 y.0 e)

-- items that the order does not distinguish
pub alike_is : (q k : Item) → eq_by_cmp item_cmp q k ≡ true → q ≡ k
alike_is q k e = items_antisymmetric q k ((Equal-is (item_cmp q k)).0 e)

pub alike_itself : (k : Item) → eq_by_cmp item_cmp k k ≡ true
alike_itself k = (eq_by_cmp_equiv items_total).refl k

pub apart_not : (q k : Item) → (q ≡ k → ⊥) → eq_by_cmp item_cmp q k ≡ false
apart_not q k ne = false_from_ne_true (eq_by_cmp item_cmp q k) (λ e. ne (alike_is q k e))
