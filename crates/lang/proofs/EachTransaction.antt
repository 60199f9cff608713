-- Transactions that are read one at a time.
use Rattle.std.proofs.Common.{◌≡◌, ◌<◌, ◌^◌, ℕ, suc, ◌+◌, List, [], ◌∷◌, ◌++◌, decimal, refl, sym, ap, ◌∙◌, arith}
use Rattle.serde_json.specs.Data.{Data, Items, array, item, no_items}
use Rattle.serde_json.specs.Events.{items_len}
use Rattle.serde_json.specs.Find.{get_item}
use Rattle.meaning.specs.Trees as tree
use Rattle.meaning.specs.declared.limits.TheConstants.{MAX_DEPTH}
use Rattle.doc_tree.specs.declared.counts.Counts.{Counts}
use Rattle.doc_tree.specs.Answer.{AreMet}
use Rattle.doc_tree.specs.Places.{item_at, seek, transaction_placed, transactions_placed}
use Rattle.doc_tree.specs.Scope.{Numbers, Setting}
use Rattle.doc_tree.specs.Spelled.{block_of, blocks_of}
use Rattle.doc_tree.proofs.ListLemmas.{in_front, in_front_none, in_front_push}
use Rattle.doc_tree.proofs.PlaceLemmas.{part_met, part_unmet}
use Rattle.lang.specs.declared.misread.Misread.{Misread}
use Rattle.lang.specs.Found.{IsBelow, IsFirstIn}
use Rattle.lang.proofs.MisreadLemmas.{item_first}

-- So many transactions have been read of `all`, and `ds` are left.
pub record TransactionsLeft (setting : Setting) (start next : Counts) (numbers after : Numbers) (blocks : List tree.Block) (number : ℕ)
    (all ds : Items) : Type 0 where
  pub met : seek start (transactions_placed setting 0 all) ≡ seek next (transactions_placed setting number ds)
  pub spelled : blocks_of setting numbers all ≡ in_front blocks (blocks_of setting after ds)
  pub counted : items_len all ≡ number + items_len ds
  pub placed : (k : ℕ) → get_item (k + number) all ≡ get_item k ds

module _ (setting : Setting) (start : Counts) (numbers : Numbers) (all : Items) where
  -- before the first
  pub transactions_begin : TransactionsLeft setting start start numbers numbers [] 0 all all
  transactions_begin = record {
    met = refl;
    spelled = refl;
    counted = omega arith;
    placed = λ k. ap (λ n. get_item n all) (omega arith);
  }

  module _ (c : Counts) (n : Numbers) (blocks : List tree.Block) (number : ℕ) (ds later : Items) (d : Data)
      (is : ds ≡ item d later) (left : TransactionsLeft setting start c numbers n blocks number all ds) where
    -- with one more
    pub transactions_next : (next : Counts) (after : Numbers) (b : tree.Block) (more : List tree.Block) (following : ℕ)
        → AreMet c (transaction_placed (number + 1) setting d) next → (b, after) ≡ block_of setting MAX_DEPTH [] n d
        → more ≡ blocks ++ b ∷ [] → following ≡ number + 1 → TransactionsLeft setting start next numbers after more following all later
    transactions_next next after b more following met spelt pushed more_by = record {
      met = left.met ∙ ap (λ x. seek c (transactions_placed setting number x)) is
          ∙ part_met c next (item_at number) (transaction_placed (number + 1) setting d) (transactions_placed setting (number + 1) later)
          met
          ∙ ap (λ i. seek next (transactions_placed setting i later)) (sym more_by);
      spelled = left.spelled ∙ ap (λ x. in_front blocks (blocks_of setting n x)) is
          ∙ ap (λ (p : tree.Block × Numbers). in_front blocks (p.0 ∷ (blocks_of setting p.1 later).0, (blocks_of setting p.1 later).1))
          (sym spelt)
          ∙ sym (in_front_push blocks b (blocks_of setting after later)) ∙ ap (λ ys. in_front ys (blocks_of setting after later)) (sym
          pushed);
      counted = omega (arith, left.counted, ap items_len is, more_by);
      placed = λ k. ap (λ j. get_item j all) (omega (arith, more_by)) ∙ left.placed (suc k) ∙ ap (get_item (suc k)) is;
    }

    -- the first fault of this one is the first of all
    pub transaction_fault : (e misread : Misread) → number < 2 ^ 64 → IsFirstIn c (transaction_placed (number + 1) setting d) d e
        → IsBelow (decimal number) e misread → IsFirstIn start (transactions_placed setting 0 all) (array all) misread
    transaction_fault e misread small failed seen =
        item_first all number d small (ap (λ n. get_item n all) (omega arith) ∙ left.placed 0 ∙ ap (get_item 0) is) c start
        (transaction_placed (number + 1) setting d) (transactions_placed setting 0 all) e misread
        (λ found f. left.met ∙ ap (λ x. seek c (transactions_placed setting number x)) is
        ∙ part_unmet c found (item_at number) (transaction_placed (number + 1) setting d) (transactions_placed setting (number + 1) later)
        f)
        failed seen

    -- there are more than were read
    pub transactions_more : number < items_len all
    transactions_more = omega (arith, left.counted, ap items_len is)

  -- all of them
  pub transactions_done : (next : Counts) (after : Numbers) (blocks : List tree.Block) (number : ℕ) (ds : Items) → ds ≡ no_items
      → TransactionsLeft setting start next numbers after blocks number all ds
      → AreMet start (transactions_placed setting 0 all) next × ((blocks, after) ≡ blocks_of setting numbers all)
  transactions_done next after blocks number ds none left = (
    left.met ∙ ap (λ x. seek next (transactions_placed setting number x)) none,
    sym (left.spelled ∙ ap (λ x. in_front blocks (blocks_of setting after x)) none ∙ in_front_none blocks after),
  )
