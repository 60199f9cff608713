-- What an executor shows of what it did, whatever it runs on. No public contract names it.
use Rattle.std.specs.Prelude.{◌≡◌, List, ◌++◌, Option, option_map}
use Rattle.meaning.specs.declared.end.End.{End}
use Rattle.meaning.specs.declared.end.End.TheVariants.{Ended}
use Rattle.meaning.specs.declared.held.Held.{Held}
use Rattle.meaning.specs.declared.held.Held.TheVariants.{Outcome}
use Rattle.meaning.specs.Records.{Taken, TakenStep, TakenChild, TakenHandler, TakenChildren, entries, entries_of_step, entries_of_child}
use Rattle.meaning.specs.Records.{entries_of_handler, entries_of_children, kept, kept_of_step, kept_of_child, kept_of_handler}
use Rattle.meaning.specs.Records.{kept_of_children}
use Rattle.meaning.specs.Shown.{shown, shown_step, shown_child, shown_children}
use Rattle.meaning.specs.OneThread.{Execution, record_of, outcome_of, labels_of, label_if}
use Rattle.batch.specs.Grounds.{Ground}
use Rattle.batch.specs.Views.{Tried, record_view, taken_view, tried_view, all_tried_view}
use Rattle.batch.specs.Running.{shown_handler}
use Rattle.batch.specs.declared.record.Record.{Record}
use Rattle.batch.specs.declared.record.Taken as declared_taken
use Rattle.batch.specs.declared.tried.Tried as executed

-- what was done is what this run is: what its record shows, its end, and what was taken in
pub record ShowsRun {V : Type 0} (g : Ground V) (run : Execution Taken) (done : Record) (before now : V) : Type 0 where
  pub tree : record_view done ≡ shown (record_of run) (outcome_of run)
  pub end : done.outcome ≡ outcome_of run
  pub took : g.Took before (entries (record_of run)) (kept (record_of run)) now

pub record ShowsStep {V : Type 0} (g : Ground V) (run : Execution TakenStep) (done : declared_taken.Taken) (how : End)
    (seen seen_now : List Held) (before now : V) : Type 0 where
  pub tree : taken_view done ≡ shown_step (record_of run)
  pub end : how ≡ outcome_of run
  pub labels : how ≡ Ended → seen_now ≡ seen ++ labels_of run
  pub took : g.Took before (entries_of_step (record_of run)) (kept_of_step (record_of run)) now

pub record ShowsHandler {V : Type 0} (g : Ground V) (run : Execution TakenHandler) (done : Option Record) (how : End)
    (before now : V) : Type 0 where
  pub tree : option_map record_view done ≡ shown_handler (record_of run)
  pub end : how ≡ outcome_of run
  pub took : g.Took before (entries_of_handler (record_of run)) (kept_of_handler (record_of run)) now

pub record ShowsTried {V : Type 0} (g : Ground V) (child : Tried) (run : Execution TakenChild) (done : executed.Tried)
    (before now : V) : Type 0 where
  pub tree : tried_view (done.body, done.handler) ≡ shown_child (record_of run)
  pub end : done.end ≡ outcome_of run
  pub labels : done.end ≡ Ended → labels_of run ≡ label_if child.labelled (Outcome done.body.outcome)
  pub took : g.Took before (entries_of_child (record_of run)) (kept_of_child (record_of run)) now

pub record ShowsChildren {V : Type 0} (g : Ground V) (run : Execution TakenChildren) (done : List (Record × Option Record)) (how : End)
    (outcomes : List Held) (before now : V) : Type 0 where
  pub tree : all_tried_view done ≡ shown_children (record_of run)
  pub end : how ≡ outcome_of run
  pub labels : how ≡ Ended → outcomes ≡ labels_of run
  pub took : g.Took before (entries_of_children (record_of run)) (kept_of_children (record_of run)) now
