-- Transactions that are read after other texts were numbered.
use Rattle.std.specs.Prelude.{◌≡◌, ◌≤◌, List, length, map}
use Rattle.serde_json.specs.Data.{Items}
use Rattle.meaning.specs.Trees.{Block}
use Rattle.doc_tree.specs.Scope.{Numbers, Setting, no_numbers}
use Rattle.doc_tree.specs.Spelled.{blocks_of}
use Rattle.doc_merge.specs.declared.tables.TheConstants.{MOST_TEXTS}
use Rattle.doc_merge.specs.Renumbered.{merged, new_number, numbers_in, renumbered}

-- What is read after texts that are numbered before is what is read alone, where each item and each reason has the number of its
-- text. The texts come after those before.
pub record IsReadAfter (before : Numbers) (alone after : List Block × Numbers) : Type 0 where
  pub transactions : after.0
      ≡ map (renumbered (new_number (numbers_in after.1.items alone.1.items))
      (new_number (numbers_in after.1.reasons alone.1.reasons))) alone.0
  pub items : after.1.items ≡ merged before.items alone.1.items
  pub reasons : after.1.reasons ≡ merged before.reasons alone.1.reasons

-- Transactions are read so after others, where no more texts are numbered than an item has numbers.
abbrev pub ReadAfterLaw : Type 0
ReadAfterLaw = (setting : Setting) (before : Numbers) (ds : Items) → length (blocks_of setting no_numbers ds).1.items ≤ MOST_TEXTS
    → length (blocks_of setting no_numbers ds).1.reasons ≤ MOST_TEXTS
    → IsReadAfter before (blocks_of setting no_numbers ds) (blocks_of setting before ds)
