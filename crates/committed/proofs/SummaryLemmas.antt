-- Entries that stand for many: what commutes forward with them.
use Rattle.std.proofs.Common.{◌≡◌, ℕ, suc, zero, ◌+◌, ◌<◌, ◌≤◌, ◌↔◌, arith, true, List, [], ◌∷◌, ◌++◌, length, take, set, get_or}
use Rattle.std.proofs.Common.{sym, ap, ◌∙◌, subst}
use Rattle.std.proofs.lemmas.Simd.{map-map}
use Rattle.std.proofs.lemmas.List.{get_or-map, get_or-set_other, length-map, length-set, length-take, map-append, map-set, take-append-le}
use Rattle.std.proofs.lemmas.List.{take_more}
use Rattle.objects.specs.declared.entry.Entry.{Entry}
use Rattle.committed.specs.declared.marks.MarkedEntry.{MarkedEntry}
use Rattle.objects.specs.Entries.{CommutesWith, AllCommute, CommuteForward}
use Rattle.objects.proofs.ListLemmas.{all_commute_none}
use Rattle.conflicts.specs.Strictness.{AreAsStrict, covers, strength_of}
use Rattle.committed.specs.Summaries.{entries_of, strengths_of, AreCovered, IsCovered, IsSummary}
use Rattle.conflicts.specs.declared.strength.Strength.{Strength}
use Rattle.committed.proofs.StandsLemmas.{commute_turned, one_commutes}
use Rattle.conflicts.proofs.EffectLemmas.{given_strict}

-- what commutes with all of two lists commutes with all of both
pub commutes_both : (e : Entry) (xs ys : List Entry) → CommutesWith e xs → CommutesWith e ys → CommutesWith e (xs ++ ys)
commutes_both e [] ys first second = second
commutes_both e (x ∷ xs) ys first second = (first.0, commutes_both e xs ys first.1 second)

-- with all of the first
commutes_first : (e : Entry) (xs ys : List Entry) → CommutesWith e (xs ++ ys) → CommutesWith e xs
commutes_first e [] ys both = tt
commutes_first e (x ∷ xs) ys both = (both.0, commutes_first e xs ys both.1)

-- with all of the second
commutes_second : (e : Entry) (xs ys : List Entry) → CommutesWith e (xs ++ ys) → CommutesWith e ys
commutes_second e [] ys both = both
commutes_second e (x ∷ xs) ys both = commutes_second e xs ys both.1

-- ---- what stands past entries

-- one entry more to stand past
past_one : (p : Entry) (ps qs : List Entry) → CommutesWith p qs → AllCommute qs ps → AllCommute qs (p ∷ ps)
past_one p ps [] one all = tt
past_one p ps (q ∷ qs) one all = ((commute_turned p q one.0, all.0), past_one p ps qs one.1 all.1)

-- where each of one list stands past the other, each of the other stands past it
turned : (ps qs : List Entry) → AllCommute ps qs → AllCommute qs ps
turned [] qs all = all_commute_none qs
turned (p ∷ ps) qs all = past_one p ps qs all.0 (turned ps qs all.1)

-- where what stands past one list stands past another
past_other : (entries listed others : List Entry) → ((e : Entry) → CommutesWith e listed → CommutesWith e others)
    → AllCommute entries listed → AllCommute entries others
past_other [] listed others passes all = tt
past_other (e ∷ entries) listed others passes all = (passes e all.0, past_other entries listed others passes all.1)

-- what stands past a summary stands past all that it sums up, and the other way round
pub past-summary : (entries summary listed : List Entry) → IsSummary summary listed → AllCommute entries summary ↔ AllCommute entries listed
past-summary entries summary listed is =
    (past_other entries summary listed (λ e. (is.same e).0), past_other entries listed summary (λ e. (is.same e).1))

-- a summary stands past a list where all that it sums up does, and the other way round
pub stands-summary : (summary entries listed : List Entry) → IsSummary summary entries → AllCommute summary listed
    ↔ AllCommute entries listed
stands-summary summary entries listed is = (
  λ all. turned listed entries ((past-summary listed summary entries is).0 (turned summary listed all)),
  λ all. turned listed summary ((past-summary listed summary entries is).1 (turned entries listed all)),
)

-- ---- summaries of lists

-- each list sums itself up
pub summary_itself : (es : List Entry) → IsSummary es es
summary_itself es = record { same = λ other. (λ h. h, λ h. h) }

-- the empty one too
pub summary-nil : IsSummary [] []
summary-nil = summary_itself []

-- summaries of two lists, one after the other, sum up both
pub summary-append : (s es t fs : List Entry) → IsSummary s es → IsSummary t fs → IsSummary (s ++ t) (es ++ fs)
summary-append s es t fs first second = record {
  same = λ other. (
    λ h. commutes_both other es fs ((first.same other).0 (commutes_first other s t h))
        ((second.same other).0 (commutes_second other s t h)),
    λ h. commutes_both other s t ((first.same other).1 (commutes_first other es fs h))
        ((second.same other).1 (commutes_second other es fs h)),
  );
}

-- a summary of a summary sums up all that it stands for
pub summary_of_summary : (s t es : List Entry) → IsSummary s t → IsSummary t es → IsSummary s es
summary_of_summary s t es first second = record {
  same = λ other. (λ h. (second.same other).0 ((first.same other).0 h), λ h. (first.same other).1 ((second.same other).1 h));
}

-- ---- one entry more

-- what commutes with a list and an entry commutes with the list where it stands for another
commutes_set : (other : Entry) (xs : List Entry) (n : ℕ) (e : Entry) → CommutesWith other xs → CommuteForward other e
    → CommutesWith other (set xs n e)
commutes_set other [] n e all own = tt
commutes_set other (x ∷ xs) zero e all own = (own, all.1)
commutes_set other (x ∷ xs) (suc n) e all own = (all.0, commutes_set other xs n e all.1 own)

-- it commutes with that entry
commutes_own : (other : Entry) (xs : List Entry) (n : ℕ) (e : Entry) → n < length xs → CommutesWith other (set xs n e)
    → CommuteForward other e
commutes_own other [] n e low all = absurd (omega arith)
commutes_own other (x ∷ xs) zero e low all = all.0
commutes_own other (x ∷ xs) (suc n) e low all = commutes_own other xs n e (omega arith) all.1

-- and with the list as it was, where it commutes with what was there
commutes_unset : (other : Entry) (xs : List Entry) (n : ℕ) (e : Entry) → CommuteForward other (get_or xs n other)
    → CommutesWith other (set xs n e) → CommutesWith other xs
commutes_unset other [] n e old all = tt
commutes_unset other (x ∷ xs) zero e old all = (old, all.1)
commutes_unset other (x ∷ xs) (suc n) e old all = (all.0, commutes_unset other xs n e old all.1)

-- the entry at a place of marked ones
pub entry_at : (marked : List MarkedEntry) (at : ℕ) (m : MarkedEntry) (e : Entry) → at < length marked → m ≡ get_or marked at m
    → m.entry ≡ get_or (entries_of marked) at e
entry_at marked at m e within is =
    ap (λ (k : MarkedEntry). k.entry) is ∙ sym (get_or-map (λ (k : MarkedEntry). k.entry) marked at m e within)

module _ (marked : List MarkedEntry) (before last : ℕ) (earlier later e : Entry) (entries : List Entry) (ordered : before ≤ last)
    (within : last < length marked) (is_earlier : (other : Entry) → get_or (entries_of marked) before other ≡ earlier)
    (is_later : (other : Entry) → get_or (entries_of marked) last other ≡ later)
    (summary : IsSummary (entries_of marked) entries) where
  low_first : before < length (entries_of marked)
  low_first = omega (arith, length-map marked (λ (k : MarkedEntry). k.entry), within, ordered)

  low : last < length (entries_of marked)
  low = omega (arith, length-map marked (λ (k : MarkedEntry). k.entry), within)

  -- an entry is left out where two in the summary are as strict
  pub summary_left : AreAsStrict earlier later e → IsSummary (entries_of marked) (entries ++ e ∷ [])
  summary_left strict = record {
    same = λ other. (
      λ h. (
          let with_earlier : CommuteForward other earlier = subst (CommuteForward other) (is_earlier other)
          (one_commutes other (entries_of marked) before low_first h) in
          let with_later : CommuteForward other later = subst (CommuteForward other) (is_later other)
          (one_commutes other (entries_of marked) last low h) in
          commutes_both other entries (e ∷ []) ((summary.same other).0 h) (strict other with_earlier with_later, tt)
          ),
      λ h. (summary.same other).1 (commutes_first other entries (e ∷ []) h),
    );
  }

  -- what commutes with the summary where it stands for the later one commutes with the earlier
  with_earlier_set : (other : Entry) → before < last → CommutesWith other (set (entries_of marked) last e)
      → CommuteForward other earlier
  with_earlier_set other less h = subst (CommuteForward other) (get_or-set_other (entries_of marked) last before e other
      (λ same. absurd (omega (arith, same, less))) ∙ is_earlier other)
      (one_commutes other (set (entries_of marked) last e) before (omega (arith, length-set (entries_of marked) last e, low_first)) h)

  -- it takes the place of the later where it is as strict with the earlier
  set_there : before < last → AreAsStrict earlier e later → IsSummary (set (entries_of marked) last e) (entries ++ e ∷ [])
  set_there less strict = record {
    same = λ other. (
      λ h. (
          let own : CommuteForward other e = commutes_own other (entries_of marked) last e low h in
          let was : CommuteForward other (get_or (entries_of marked) last other) = subst (CommuteForward other) (sym (is_later other))
          (strict other (with_earlier_set other less h) own) in
          commutes_both other entries (e ∷ []) ((summary.same other).0 (commutes_unset other (entries_of marked) last e was h)) (own, tt)
          ),
      λ h. commutes_set other (entries_of marked) last e ((summary.same other).1 (commutes_first other entries (e ∷ []) h))
          (commutes_second other entries (e ∷ []) h).0,
    );
  }

  -- with its mark
  pub summary_set : (next : MarkedEntry) → next.entry ≡ e → before < last → AreAsStrict earlier e later
      → IsSummary (entries_of (set marked last next)) (entries ++ e ∷ [])
  summary_set next own less strict =
      subst (λ xs. IsSummary xs (entries ++ e ∷ []))
      (sym (map-set (λ (k : MarkedEntry). k.entry) marked last next ∙ ap (set (entries_of marked) last) own)) (set_there less strict)

-- an entry is put at the end
pub summary_more : (summary more entries : List Entry) (e : Entry) → more ≡ summary ++ e ∷ [] → IsSummary summary entries
    → IsSummary more (entries ++ e ∷ [])
summary_more summary more entries e is sums = subst (λ xs. IsSummary xs (entries ++ e ∷ [])) (sym is)
    (summary-append summary entries (e ∷ []) (e ∷ []) sums (summary_itself (e ∷ [])))

-- an entry is left out that the summary covers
pub summary_covered : (summary entries : List Entry) (e : Entry) → IsCovered summary e → IsSummary summary entries
    → IsSummary summary (entries ++ e ∷ [])
summary_covered summary entries e covered sums = record {
  same = λ other. (
    λ h. commutes_both other entries (e ∷ []) ((sums.same other).0 h) (covered other h, tt),
    λ h. (sums.same other).1 (commutes_first other entries (e ∷ []) h),
  );
}

-- where the strength of an entry of the summary covers another, the summary covers each entry of that
pub strength_covered : (marked : List MarkedEntry) (strengths : List Strength) (at : ℕ) (own other : Strength)
    → strengths ≡ strengths_of marked → at < length strengths → own ≡ get_or strengths at own → covers own other ≡ true
    → AreCovered (entries_of marked) other
strength_covered marked strengths at own other told within is covered e of_e p commutes =
    let es = entries_of marked in
    let low : at < length es = omega (
      arith,
      ap length told,
      length-map marked (λ (k : MarkedEntry). strength_of k.entry),
      length-map marked (λ (k : MarkedEntry). k.entry),
      within,
    ) in
    let of_own : own ≡ strength_of (get_or es at p) = is ∙ ap (λ ss. get_or ss at own)
    (told ∙ sym (map-map strength_of (λ (k : MarkedEntry). k.entry) marked)) ∙ get_or-map strength_of es at p own low in
    given_strict (get_or es at p) e own other of_own (sym of_e) covered p (one_commutes p es at low commutes)

-- the entries up to the next one
pub entries_next : (marked : List MarkedEntry) (n : ℕ) (m : MarkedEntry) → n < length marked → m ≡ get_or marked n m
    → entries_of (take (n + 1) marked) ≡ entries_of (take n marked) ++ m.entry ∷ []
entries_next marked n m within is = ap entries_of (take_more marked n m within ∙ ap (λ x. take n marked ++ x ∷ []) (sym is))
    ∙ map-append (λ (k : MarkedEntry). k.entry) (take n marked) (m ∷ [])

-- what a list began with stays where more is put at its end
pub begins_still : (start xs ys : List Entry) → take (length start) xs ≡ start → take (length start) (xs ++ ys) ≡ start
begins_still start xs ys begins =
    take-append-le (length start) xs ys (omega (arith, ap length begins, length-take (length start) xs)) ∙ begins

-- ---- a summary that leaves nothing out

-- marked entries sum up the entries that were marked
pub summary_made : (marked : List MarkedEntry) (entries : List Entry) → entries_of marked ≡ entries → IsSummary (entries_of marked) entries
summary_made marked entries is = subst (IsSummary (entries_of marked)) is (summary_itself (entries_of marked))
