-- Journals lead back.
use Rattle.std.proofs.Common.{◌≡◌, ℕ, ◌+◌, ◌<◌, ◌≤◌, List, [], ◌∷◌, ◌++◌, length, drop, take, Option, Some, None, refl, sym, ap, ◌∙◌, arith}
use Rattle.std.proofs.Common.{append_assoc, length-append}
use Rattle.std.specs.Prelude.{option_to_list}
use Rattle.std.proofs.Math.ListN.{drop_of_length-le}
use Rattle.std.proofs.Math.Seq.{take-append_seam, drop-append_seam}
use Rattle.std.proofs.lemmas.List.{append-nil, drop-append-le, take-append-le, take_all}
use Rattle.serial.specs.Serial.{Serial}
use Rattle.atoms.specs.Undo.{Undoing, undone_if, TakesBack, undone_all, Journaled, performed, all_performed, rewound, Rewinds, LeadsBack}

undone_all-append : {V C D : Type 0} (u : Undoing V C D) (v : V) (earlier later : List D) → undone_all u v (earlier ++ later)
    ≡ undone_all u (undone_all u v later) earlier
unfolding undone_all
undone_all-append u v [] later = refl
undone_all-append u v (change ∷ earlier) later = ap (λ w. u.undone w change) (undone_all-append u v earlier later)

undone_all-if : {V C D : Type 0} (u : Undoing V C D) (v : V) (change : Option D) → undone_all u v (option_to_list change)
    ≡ undone_if u v change
unfolding undone_all
undone_all-if u v None = refl
undone_all-if u v (Some change) = refl

-- ---- what came to a journal

pub leads_back-same : {V C D : Type 0} (u : Undoing V C D) (j : Journaled V D) → LeadsBack u j j
unfolding undone_all
leads_back-same u j = record { more = []; grown = sym (append-nil j.journal); undone = refl }

pub leads_back-then : {V C D : Type 0} (u : Undoing V C D) (first second third : Journaled V D) → LeadsBack u first second
    → LeadsBack u second third → LeadsBack u first third
leads_back-then u first second third h k = record {
  more = h.more ++ k.more;
  grown = k.grown ∙ ap (λ js. js ++ k.more) h.grown ∙ append_assoc first.journal h.more k.more;
  undone = undone_all-append u third.state h.more k.more ∙ ap (λ s. undone_all u s h.more) k.undone ∙ h.undone;
}

-- a call leads back, and calls do
pub leads_back-performed : {V C R D : Type 0} (s : Serial V C R) (u : Undoing V C D) → TakesBack s u → (j : Journaled V D) (call : C)
    → LeadsBack u j (performed s u j call)
leads_back-performed s u h j call = record {
  more = option_to_list (u.change j.state call);
  grown = refl;
  undone = undone_all-if u _ (u.change j.state call) ∙ h j.state call;
}

leads_back-all : {V C R D : Type 0} (s : Serial V C R) (u : Undoing V C D) → TakesBack s u → (j : Journaled V D) (calls : List C)
    → LeadsBack u j (all_performed s u j calls)
unfolding all_performed
leads_back-all s u h j [] = leads_back-same u j
leads_back-all s u h j (call ∷ calls) = leads_back-then u _ _ _ (leads_back-performed s u h j call)
    (leads_back-all s u h (performed s u j call) calls)

-- rewinding to where the journal was gives the state and the journal of then
pub rewound-back : {V C D : Type 0} (u : Undoing V C D) (before now : Journaled V D) → LeadsBack u before now
    → rewound u now (length before.journal) ≡ before
rewound-back {V} {C} {D} u before now h =
    let kept : take (length before.journal) now.journal ≡ before.journal = ap (take (length before.journal)) h.grown
    ∙ take-append_seam before.journal h.more in
    let came : drop (length before.journal) now.journal ≡ h.more = ap (drop (length before.journal)) h.grown
    ∙ drop-append_seam before.journal h.more in
    let state : undone_all u now.state (drop (length before.journal) now.journal) ≡ before.state = ap (undone_all u now.state) came
    ∙ h.undone in
    ap (λ s. let j : Journaled V D = record { state = s; journal = take (length before.journal) now.journal } in j) state
    ∙ ap (λ js. let j : Journaled V D = record { state = before.state; journal = js } in j) kept

pub rewinds : {V C R D : Type 0} (s : Serial V C R) (u : Undoing V C D) → TakesBack s u → Rewinds s u
rewinds s u h j calls = rewound-back u j (all_performed s u j calls) (leads_back-all s u h j calls)

-- ---- a journal of which the latest changes are taken back

pub record ArePartUndone {V C D : Type 0} (u : Undoing V C D) (start : V) (journal : List D) (mark : ℕ) (now : V)
    (rest : List D) : Type 0 where
  pub within : mark ≤ length rest
  pub undone : undone_all u now (drop mark rest) ≡ undone_all u start (drop mark journal)
  pub kept : take mark rest ≡ take mark journal

pub part_undone-more : {V C D : Type 0} (u : Undoing V C D) (start : V) (journal : List D) (mark : ℕ) (now next : V) (rest fewer : List D)
    (change : D)
    → ArePartUndone u start journal mark now rest → mark < length rest → rest ≡ fewer ++ change ∷ [] → next ≡ u.undone now change
    → ArePartUndone u start journal mark next fewer
unfolding undone_all
part_undone-more u start journal mark now next rest fewer change h lt split is =
    let size : length rest ≡ length fewer + 1 = ap length split ∙ length-append fewer (change ∷ []) in
    let le : mark ≤ length fewer = omega arith in
    record {
      within = le;
      undone = ap (λ s. undone_all u s (drop mark fewer)) is ∙ sym (undone_all-append u now (drop mark fewer) (change ∷ []))
          ∙ ap (undone_all u now) (sym (ap (drop mark) split ∙ drop-append-le mark fewer (change ∷ []) le)) ∙ h.undone;
      kept = sym (ap (take mark) split ∙ take-append-le mark fewer (change ∷ []) le) ∙ h.kept;
    }

-- where nothing is left to take back
pub part_undone-all : {V C D : Type 0} (u : Undoing V C D) (start : V) (journal : List D) (mark : ℕ) (now : V) (rest : List D)
    → ArePartUndone u start journal mark now rest → length rest ≤ mark
    → (now ≡ undone_all u start (drop mark journal)) × (rest ≡ take mark journal)
unfolding undone_all
part_undone-all u start journal mark now rest h le = (
  sym (ap (undone_all u now) (drop_of_length-le rest le)) ∙ h.undone,
  sym (take_all mark rest le) ∙ h.kept,
)
