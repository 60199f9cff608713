-- From opening to opening.
use Rattle.std.proofs.Common.{◌≡◌, ℕ, ◌+◌, ◌<◌, ◌≤◌, List, [], ◌++◌, length, Some, None, sym, ap, ◌∙◌, subst, arith}
use Rattle.std.proofs.Common.{append-nil, append_assoc}
use Rattle.objects.specs.Entries.{State, AreLegal, after}
use Rattle.meaning.specs.Batch.{state_at}
use Rattle.meaning.specs.Rounds.{IsNextOpening}
use Rattle.meaning.proofs.Batches.{batch_leads}
use Rattle.meaning.proofs.Openings.{comes_on}
use Rattle.batch.specs.Names.{names_of}
use Rattle.batch.specs.Parts.{start_of, blocks_of}
use Rattle.batch.specs.declared.batch.Batch.{Batch}
use Rattle.intentions.specs.Levels.{AllHaveRoom}
use Rattle.speculate.specs.declared.speculated.Run.{Run}
use Rattle.explain.specs.Why.{WhyFrom, IsLast, IsEnded, IsWhyText, why_line}
use Rattle.explain.specs.Rounds.{HasReached, IsRoundAt, IsStopped, IsStoppedBy, IsWritten}
use Rattle.explain.specs.declared.round.Round.{Round}
use Rattle.speculate.proofs.Room.{nets_have_room}

pub at_start : (batch : Batch) (state : State) (text : List ℕ) → state ≡ start_of batch → text ≡ [] → HasReached batch 0 1 state text
unfolding state_at
at_start batch state text is none = record {
  within = omega arith;
  few = omega arith;
  reached = is;
  goes_on = λ rest why. subst (λ t. IsWhyText (names_of batch.names) (start_of batch) (blocks_of batch) (t ++ rest)) (sym none) why;
}

module _ (batch : Batch) (b number : ℕ) (state : State) (text : List ℕ) (at : HasReached batch b number state text) where
  -- the text is whole where nothing follows
  whole : WhyFrom (names_of batch.names) (start_of batch) (blocks_of batch) b number []
      → IsWhyText (names_of batch.names) (start_of batch) (blocks_of batch) text
  whole why = subst (IsWhyText (names_of batch.names) (start_of batch) (blocks_of batch)) (append-nil text) (at.goes_on [] why)

  pub at_end : length (blocks_of batch) ≤ b → IsWhyText (names_of batch.names) (start_of batch) (blocks_of batch) text
  at_end le = whole (IsLast (record {
    within = omega arith;
    all_keep = λ i low high. absurd (omega arith);
    largest = λ k within all. within;
  }))

  module _ (round : Round) (is : IsRoundAt batch b round) where
    -- what the round leaves can be performed
    pub legal : AreLegal state round.nets
    legal = subst (λ s. AreLegal s round.nets) (sym at.reached)
        (subst (AreLegal (state_at (start_of batch) (blocks_of batch) b)) (sym is.nets_are)
        (batch_leads (start_of batch) (blocks_of batch) b (length round.passed.items)).0)

    pub room : AllHaveRoom state round.nets
    room = subst (λ s. AllHaveRoom s round.nets) (sym at.reached)
        (subst (AllHaveRoom (state_at (start_of batch) (blocks_of batch) b)) (sym is.nets_are)
        (nets_have_room batch b at.within (length round.passed.items)
        (batch_leads (start_of batch) (blocks_of batch) b (length round.passed.items)).0))

    pub last_round : round.conflict ≡ None → IsWhyText (names_of batch.names) (start_of batch) (blocks_of batch) text
    last_round none =
        let all : b + length round.passed.items ≡ length (blocks_of batch) =
        subst (IsStoppedBy batch b (b + length round.passed.items) round) none is.stopped in
        whole (IsLast (subst (IsNextOpening (start_of batch) (blocks_of batch) b) all is.opens))

    module _ (run : Run) (some : round.conflict ≡ Some run) where
      pub stopped_is : IsStopped batch b (b + length round.passed.items) round run
      stopped_is = subst (IsStoppedBy batch b (b + length round.passed.items) round) some is.stopped

      pub on : b < b + length round.passed.items
      on =
          let within = stopped_is.within in
          comes_on (start_of batch) (blocks_of batch) b (b + length round.passed.items) (omega arith) is.opens

      -- the next opening, with one more line
      pub next_round : (next : State) (new : List ℕ) → next ≡ after state round.nets
          → IsWritten batch b (b + length round.passed.items) number text new
          → HasReached batch (b + length round.passed.items) (number + 1) next new
      next_round next new leads wrote =
          let within = stopped_is.within in
          let further = on in
          let few = at.few in
          record {
            within = omega arith;
            few = omega arith;
            reached =
                leads ∙ ap (λ s. after s round.nets) at.reached
                ∙ ap (after (state_at (start_of batch) (blocks_of batch) b)) is.nets_are
                ∙ sym (batch_leads (start_of batch) (blocks_of batch) b (length round.passed.items)).1;
            goes_on = λ rest why.
                subst (IsWhyText (names_of batch.names) (start_of batch) (blocks_of batch))
                (sym (append_assoc text (why_line (names_of batch.names) number wrote.late wrote.early) rest)
                ∙ ap (λ t. t ++ rest) (sym wrote.text))
                (at.goes_on (why_line (names_of batch.names) number wrote.late wrote.early ++ rest)
                (IsEnded is.opens stopped_is.within wrote.is why));
          }
