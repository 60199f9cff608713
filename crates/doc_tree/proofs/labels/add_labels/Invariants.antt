use Rattle.std.proofs.Common.{◌≡◌, true, drop}
use Rattle.doc_tree.specs.Scope.{AreUnseen, Extends, scope_of, with_labels}
use Rattle.doc_tree.proofs.labels.add_labels.Given as goal

-- what is said of the labels that are left, and of those that are seen so far
abbrev pub invariant-loop-index : goal.invariant-loop-index
invariant-loop-index l = record {
  added : with_labels (scope_of l.added.entries) (scope_of l.initial.labels.entries)
      ≡ with_labels (scope_of (drop l.index l.added.entries)) (scope_of l.labels.entries);
  extends : Extends (scope_of l.initial.labels.entries) (scope_of l.labels.entries);
  new : l.all_new ≡ true → AreUnseen (scope_of (drop l.index l.added.entries)) (scope_of l.initial.labels.entries)
      → AreUnseen (scope_of l.added.entries) (scope_of l.initial.labels.entries);
}
