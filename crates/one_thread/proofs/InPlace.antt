-- Objects that are changed in place are what a block can be run on.
use Rattle.std.proofs.Common.{◌≡◌, ℕ, List, [], ◌∷◌, ◌++◌, length, refl, sym, ap, subst, ◌∙◌, Option}
use Rattle.objects.specs.declared.kind.Call.{Call}
use Rattle.objects.specs.declared.kind.Reply.{Reply}
use Rattle.objects.specs.declared.entry.Entry.{Entry}
use Rattle.meaning.specs.declared.end.End.TheVariants.{Ended, Aborted}
use Rattle.meaning.specs.declared.held.Held.{Held}
use Rattle.objects.specs.Entries.{State, after}
use Rattle.meaning.specs.OneThread.{Execution, Ran, record_of, outcome_of, state_of, one}
use Rattle.meaning.specs.Records.{Taken, entries}
use Rattle.meaning.specs.Trees as meant
use Rattle.meaning.proofs.Nets.{block_leads}
use Rattle.meaning.specs.Batch.{settled}
use Rattle.batch.specs.Grounds.{IsGround}
use Rattle.batch.specs.Shows.{ShowsRun}
use Rattle.batch.specs.declared.record.Record.{Record}
use Rattle.batch.proofs.PartTried.{IsUndone}
use Rattle.one_thread.specs.Journaled.{Journaled, performed, rewound, LeadsBack}
use Rattle.one_thread.specs.Running.{in_place}
use Rattle.one_thread.proofs.Journals.{leads_back-same, leads_back-then, leads_back-performed, rewound-back}

after-both : (ns ms : List Entry) (s : State) → after (after s ns) ms ≡ after s (ns ++ ms)
after-both [] ms s = refl
after-both (n ∷ ns) ms s = after-both ns ms _

pub ground : IsGround in_place
ground = record {
  none = λ j. (refl, leads_back-same j);
  both = λ u v w es ns fs ms first second. (
    second.0 ∙ ap (λ s. after s ms) first.0 ∙ after-both ns ms u.state,
    leads_back-then u v w first.1 second.1,
  );
  leads = λ u v es ns took. took.0;
}

-- a call that was made
pub call_took : (before now : Journaled) (object : ℕ) (call : Call) (reply : Reply) → now ≡ performed before object call
    → (let entry : Entry = record { object = object; call = call; reply = reply } in in_place.Took before (entry ∷ []) (entry ∷ []) now)
call_took before now object call reply is = (
  ap (λ (j : Journaled). j.state) is,
  subst (LeadsBack before) (sym is)
      (leads_back-performed before object call),
)

-- once an aborted body is taken back, the objects and the journal are as before it
pub taken_back : (run : Execution Taken) (before mid next : Journaled) (body : Record) (mark : ℕ) → ShowsRun in_place run body before mid
    → mark ≡ length before.journal → next ≡ rewound mid mark → next ≡ before
taken_back run before mid next body mark shows at is = is ∙ ap (rewound mid) at ∙ rewound-back before mid shows.took.1

pub undone : (run : Execution Taken) (before mid next : Journaled) (body : Record) (mark : ℕ) → ShowsRun in_place run body before mid
    → mark ≡ length before.journal → next ≡ rewound mid mark → IsUndone in_place run body before next
undone run before mid next body mark shows at is =
    let back = taken_back run before mid next body mark shows at is in
    record {
      tree = shows.tree;
      end = shows.end;
      took = subst (λ j. in_place.Took before (entries (record_of run)) [] j) (sym back)
          (ground.none before);
    }

-- the state that a run leaves
pub shows_state : (block : meant.Block) (held : List Held) (before now : Journaled) (done : Record)
    → ShowsRun in_place (one block held before.state) done before now → now.state ≡ state_of (one block held before.state)
shows_state block held before now done shows = shows.took.0 ∙ sym (block_leads block held before.state).1

-- ---- a transaction at its end

settled-ended : (s : State) (run : Execution Taken) → outcome_of run ≡ Ended → settled s run ≡ state_of run
settled-ended s (Ran taken Ended labels state) h = refl
settled-ended s (Ran taken (Aborted reason) labels state) h = absurd cc

settled-aborted : (s : State) (run : Execution Taken) (reason : Option ℕ) → outcome_of run ≡ Aborted reason → settled s run ≡ s
settled-aborted s (Ran taken Ended labels state) reason h = absurd cc
settled-aborted s (Ran taken (Aborted other) labels state) reason h = refl

abbrev resting : State → Journaled
resting s = record { state = s; journal = [] }

pub settles-ended : (block : meant.Block) (before mid now : Journaled) (done : Record)
    → ShowsRun in_place (one block [] before.state) done before mid → done.outcome ≡ Ended → now ≡ resting mid.state
    → now ≡ resting (settled before.state (one block [] before.state))
settles-ended block before mid now done shows ended is =
    is ∙ ap resting (shows_state block [] before mid done shows
    ∙ sym (settled-ended before.state (one block [] before.state) (sym shows.end ∙ ended)))

pub settles-aborted : (block : meant.Block) (before mid now : Journaled) (done : Record) (reason : Option ℕ)
    → ShowsRun in_place (one block [] before.state) done before mid → done.outcome ≡ Aborted reason → before.journal ≡ []
    → now ≡ rewound mid 0
    → now ≡ resting (settled before.state (one block [] before.state))
settles-aborted block before mid now done reason shows aborted none is =
    taken_back _ before mid now done 0 shows (sym (ap length none)) is
    ∙ ap (λ js. let j : Journaled = record { state = before.state; journal = js } in j) none
    ∙ ap resting (sym (settled-aborted before.state (one block [] before.state) reason (sym shows.end ∙ aborted)))
