use Rattle.std.proofs.Common.{◌≡◌, ◌+◌, ◌∷◌, ◌++◌, [], Some, None, length, length-append, reverse, arith, sym, ap, ◌∙◌, subst, refl}
use Rattle.std.proofs.lemmas.Bool.{eqb-true}
use Rattle.std.proofs.lemmas.List.{nil_from_length}
use Rattle.std.proofs.lemmas.Result.{IfOk-weaker, on_err_weaker}
use Rattle.std.specs.Prelude.{vec_len, slice_get, IsSomeAnd, IfSome, IsSome, unwrap_or}
use Rattle.std.specs.Option.{option_and_then}
use Rattle.objects.specs.Objects.{one_value, kind_of_value, kind_of_call, HasRoom, value_change}
use Rattle.drafts.specs.Shown.{shown_value}
use Rattle.drafts.specs.History.{unchanged, changed}
use Rattle.committed.proofs.ListsLemmas.{on_err}
use Rattle.intentions.specs.DraftTables.{drafts_of, IsPut}
use Rattle.intentions.specs.Layers.{States, histories, layered}
use Rattle.intentions.proofs.StartsLemmas.{nested_more}
use Rattle.intentions.proofs.LayersLemmas.{found_none, fits_found, room_found, histories-put, histories-same, added, shown_there}
use Rattle.intentions.proofs.LayersLemmas.{looked, performed, layered-base, settled}
use Rattle.intentions.proofs.layers.Layers.perform.Goals as goal

pub unreachable-requires : goal.unreachable-requires
unreachable-requires c =
    let none : slice_get c.args.self.now.shown c.args.object ≡ None =
    sym (ap (λ (s : States). slice_get s.shown c.args.object) c.self.view_is)
    ∙ found_none c.self.inside.snapshot.now (drafts_of c.self.inside.drafts) c.args.object (sym c.in_default.ensures) in
    let fits = c.requires.fits in
    rw none at fits

pub returns-in-Some-look-clause-reply : goal.returns-in-Some-look-clause-reply
returns-in-Some-look-clause-reply c =
    let lent = c.in-Some.lent.now in
    let same = c.shown.ensures ∙ ap (λ o. (unwrap_or o (unchanged lent)).value) c.place-found.ensures.draft in
    let there = shown_there c.self.inside.snapshot.now (drafts_of c.self.inside.drafts) _ _ c.args.self.now c.args.object lent
    c.self.view_is (sym c.in-Some.ensures) in
    ap (option_and_then (λ v. one_value.reply v c.args.call.now)) (there ∙ ap (λ v. Some v) (sym same)) ∙ c.in-Some-look.ensures.reply

pub returns-in-Some-look-clause-ok : goal.returns-in-Some-look-clause-ok
returns-in-Some-look-clause-ok c =
    let lent = c.in-Some.lent.now in
    let same = c.shown.ensures ∙ ap (λ o. (unwrap_or o (unchanged lent)).value) c.place-found.ensures.draft in
    let there = shown_there c.self.inside.snapshot.now (drafts_of c.self.inside.drafts) _ _ c.args.self.now c.args.object lent
    c.self.view_is (sym c.in-Some.ensures) in
    looked c.args.self.now c.args.object c.args.call.now _ (there ∙ ap (λ v. Some v) (sym same)) (c.in-Some-look.ensures.same refl)

pub settle_at-requires-clause-fits : goal.settle_at-requires-clause-fits
settle_at-requires-clause-fits c =
    let drafted = added c.self.inside.snapshot.now c.self.inside.drafts c.found_or_new.new.self
    (reverse c.self.inside.starts.items) c.self.inside.journal.items
    c.args.self.now c.args.object c.in_ok-place.place c.in-Some.lent.now c.self.view_is (sym c.in-Some.ensures)
    c.in_ok-place.ensures.place c.in_ok-place.ensures.ok in
    subst (λ o. IsSomeAnd o (λ h. kind_of_value h.value ≡ kind_of_call c.args.call.now)) (sym drafted.draft)
    (fits_found c.args.self.now.shown c.args.object c.args.call.now _ drafted.there c.requires.fits)

pub settle_at-requires-clause-room : goal.settle_at-requires-clause-room
settle_at-requires-clause-room c =
    let drafted = added c.self.inside.snapshot.now c.self.inside.drafts c.found_or_new.new.self
    (reverse c.self.inside.starts.items) c.self.inside.journal.items
    c.args.self.now c.args.object c.in_ok-place.place c.in-Some.lent.now c.self.view_is (sym c.in-Some.ensures)
    c.in_ok-place.ensures.place c.in_ok-place.ensures.ok in
    subst (λ o. IfSome o (λ h. HasRoom h.value c.args.call.now)) (sym drafted.draft)
    (room_found c.args.self.now.shown c.args.object c.args.call.now _ drafted.there c.requires.room)

pub settle_at-requires-clause-changes : goal.settle_at-requires-clause-changes
settle_at-requires-clause-changes c =
    let drafted = added c.self.inside.snapshot.now c.self.inside.drafts c.found_or_new.new.self
    (reverse c.self.inside.starts.items) c.self.inside.journal.items
    c.args.self.now c.args.object c.in_ok-place.place c.in-Some.lent.now c.self.view_is (sym c.in-Some.ensures)
    c.in_ok-place.ensures.place c.in_ok-place.ensures.ok in
    let lent = c.in-Some.lent.now in
    let same : shown_value c.shown.result ≡ (unwrap_or (drafts_of c.self.inside.drafts c.args.object) (unchanged lent)).value =
    c.shown.ensures ∙ ap (λ o. (unwrap_or o (unchanged lent)).value) c.place-found.ensures.draft in
    let fits = fits_found c.args.self.now.shown c.args.object c.args.call.now _ drafted.there c.requires.fits in
    let answers = c.in_default-look.ensures.answers in
    subst (λ o. IfSome o (λ h. IsSome (value_change h.value c.args.call.now))) (sym drafted.draft)
    (subst (λ v. IsSome (value_change v c.args.call.now)) same (answers (ap kind_of_value same ∙ fits) refl))

pub returns-then-is_empty-clause-reply : goal.returns-then-is_empty-clause-reply
returns-then-is_empty-clause-reply c =
    let drafted = added c.self.inside.snapshot.now c.self.inside.drafts c.found_or_new.new.self
    (reverse c.self.inside.starts.items) c.self.inside.journal.items
    c.args.self.now c.args.object c.in_ok-place.place c.in-Some.lent.now c.self.view_is (sym c.in-Some.ensures)
    c.in_ok-place.ensures.place c.in_ok-place.ensures.ok in
    IfOk-weaker c.settle_at.result _ _ (λ reply r. ap (option_and_then (λ v. one_value.reply v c.args.call.now)) drafted.there
    ∙ subst (λ o. IfSome o (λ h. one_value.reply h.value c.args.call.now ≡ Some reply)) drafted.draft r) c.settle_at.ensures.reply

pub returns-then-is_empty-clause-ok : goal.returns-then-is_empty-clause-ok
returns-then-is_empty-clause-ok c =
    let snapshot = c.self.inside.snapshot.now in
    let object = c.args.object in
    let was = drafts_of c.found_or_new.new.self in
    let now = drafts_of c.settle_at.new.self in
    let drafted = added c.self.inside.snapshot.now c.self.inside.drafts c.found_or_new.new.self
    (reverse c.self.inside.starts.items) c.self.inside.journal.items
    c.args.self.now c.args.object c.in_ok-place.place c.in-Some.lent.now c.self.view_is (sym c.in-Some.ensures)
    c.in_ok-place.ensures.place c.in_ok-place.ensures.ok in
    let base : reverse c.self.inside.starts.items ≡ [] =
    ap reverse (nil_from_length c.self.inside.starts.items
    (sym c.self.inside.starts.ok.0 ∙ eqb-true (vec_len c.self.inside.starts) 0 (sym c.is_empty.ensures ∙ c.if-is_empty.true))) in
    IfOk-weaker c.settle_at.result _ _ (λ _ r.
    let put = subst (λ o. IfSome o (λ h. IsPut was now object (unchanged (one_value.after h.value c.args.call.now)))) drafted.draft
    (r object c.in_ok-place.ensures.place) in
    settled (histories snapshot was) (histories snapshot now) (reverse c.self.inside.starts.items) c.self.inside.journal.items
    c.clear.new.self.items c.args.self.now object c.args.call.now _
    drafted.shows base drafted.found (histories-put snapshot was now object _ put)) c.settle_at.ensures.ok

pub returns-then-is_empty-clause-err : goal.returns-then-is_empty-clause-err
returns-then-is_empty-clause-err c =
    let snapshot = c.self.inside.snapshot.now in
    let starts = reverse c.self.inside.starts.items in
    let was = drafts_of c.found_or_new.new.self in
    let now = drafts_of c.settle_at.new.self in
    let drafted = added c.self.inside.snapshot.now c.self.inside.drafts c.found_or_new.new.self
    (reverse c.self.inside.starts.items) c.self.inside.journal.items
    c.args.self.now c.args.object c.in_ok-place.place c.in-Some.lent.now c.self.view_is (sym c.in-Some.ensures)
    c.in_ok-place.ensures.place c.in_ok-place.ensures.ok in
    let base : reverse c.self.inside.starts.items ≡ [] =
    ap reverse (nil_from_length c.self.inside.starts.items
    (sym c.self.inside.starts.ok.0 ∙ eqb-true (vec_len c.self.inside.starts) 0 (sym c.is_empty.ensures ∙ c.if-is_empty.true))) in
    on_err_weaker c.settle_at.result (λ same. ap (λ hs. layered hs starts c.clear.new.self.items) (histories-same snapshot was now same)
    ∙ layered-base (histories snapshot was) starts c.self.inside.journal.items c.clear.new.self.items base ∙ drafted.shows)
    c.settle_at.ensures.err

pub returns-in_err-reserve-clause-err : goal.returns-in_err-reserve-clause-err
returns-in_err-reserve-clause-err c =
    let drafted = added c.self.inside.snapshot.now c.self.inside.drafts c.found_or_new.new.self
    (reverse c.self.inside.starts.items) c.self.inside.journal.items
    c.args.self.now c.args.object c.in_ok-place.place c.in-Some.lent.now c.self.view_is (sym c.in-Some.ensures)
    c.in_ok-place.ensures.place c.in_ok-place.ensures.ok in
    on_err c.from_residual-in_err-reserve.result
    (ap (λ js. layered (histories c.self.inside.snapshot.now (drafts_of c.found_or_new.new.self)) (reverse c.self.inside.starts.items) js)
    c.reserve.ensures.items ∙ drafted.shows)

pub perform_at-requires-clause-fits : goal.perform_at-requires-clause-fits
perform_at-requires-clause-fits c =
    let drafted = added c.self.inside.snapshot.now c.self.inside.drafts c.found_or_new.new.self
    (reverse c.self.inside.starts.items) c.self.inside.journal.items
    c.args.self.now c.args.object c.in_ok-place.place c.in-Some.lent.now c.self.view_is (sym c.in-Some.ensures)
    c.in_ok-place.ensures.place c.in_ok-place.ensures.ok in
    subst (λ o. IsSomeAnd o (λ h. kind_of_value h.value ≡ kind_of_call c.args.call.now)) (sym drafted.draft)
    (fits_found c.args.self.now.shown c.args.object c.args.call.now _ drafted.there c.requires.fits)

pub perform_at-requires-clause-room : goal.perform_at-requires-clause-room
perform_at-requires-clause-room c =
    let drafted = added c.self.inside.snapshot.now c.self.inside.drafts c.found_or_new.new.self
    (reverse c.self.inside.starts.items) c.self.inside.journal.items
    c.args.self.now c.args.object c.in_ok-place.place c.in-Some.lent.now c.self.view_is (sym c.in-Some.ensures)
    c.in_ok-place.ensures.place c.in_ok-place.ensures.ok in
    subst (λ o. IfSome o (λ h. HasRoom h.value c.args.call.now)) (sym drafted.draft)
    (room_found c.args.self.now.shown c.args.object c.args.call.now _ drafted.there c.requires.room)

pub perform_at-requires-clause-changes : goal.perform_at-requires-clause-changes
perform_at-requires-clause-changes c =
    let drafted = added c.self.inside.snapshot.now c.self.inside.drafts c.found_or_new.new.self
    (reverse c.self.inside.starts.items) c.self.inside.journal.items
    c.args.self.now c.args.object c.in_ok-place.place c.in-Some.lent.now c.self.view_is (sym c.in-Some.ensures)
    c.in_ok-place.ensures.place c.in_ok-place.ensures.ok in
    let lent = c.in-Some.lent.now in
    let same : shown_value c.shown.result ≡ (unwrap_or (drafts_of c.self.inside.drafts c.args.object) (unchanged lent)).value =
    c.shown.ensures ∙ ap (λ o. (unwrap_or o (unchanged lent)).value) c.place-found.ensures.draft in
    let fits = fits_found c.args.self.now.shown c.args.object c.args.call.now _ drafted.there c.requires.fits in
    let answers = c.in_default-look.ensures.answers in
    subst (λ o. IfSome o (λ h. IsSome (value_change h.value c.args.call.now))) (sym drafted.draft)
    (subst (λ v. IsSome (value_change v c.args.call.now)) same (answers (ap kind_of_value same ∙ fits) refl))

pub returns-in_err-reply-clause-err : goal.returns-in_err-reply-clause-err
returns-in_err-reply-clause-err c =
    let snapshot = c.self.inside.snapshot.now in
    let starts = reverse c.self.inside.starts.items in
    let drafted = added c.self.inside.snapshot.now c.self.inside.drafts c.found_or_new.new.self
    (reverse c.self.inside.starts.items) c.self.inside.journal.items
    c.args.self.now c.args.object c.in_ok-place.place c.in-Some.lent.now c.self.view_is (sym c.in-Some.ensures)
    c.in_ok-place.ensures.place c.in_ok-place.ensures.ok in
    on_err c.from_residual-in_err-reply.result
    (ap (λ hs. layered hs starts c.reserve.new.self.items)
    (histories-same snapshot (drafts_of c.found_or_new.new.self) (drafts_of c.perform_at.new.self) c.in_err-reply.ensures.err)
    ∙ ap (λ js. layered (histories snapshot (drafts_of c.found_or_new.new.self)) starts js) c.reserve.ensures.items ∙ drafted.shows)

pub invariant_of-self-2 : goal.invariant_of-self-2
invariant_of-self-2 c =
    let starts = reverse c.self.inside.starts.items in
    let n = length c.self.inside.journal.items in
    let pushed : c.push_reserved.new.self.items ≡ c.self.inside.journal.items ++ c.args.object ∷ [] = c.push_reserved.ensures.items
    ∙ ap (λ js. js ++ c.args.object ∷ []) c.reserve.ensures.items in
    let size : length c.push_reserved.new.self.items ≡ n + 1 = ap length pushed ∙ length-append c.self.inside.journal.items
    (c.args.object ∷ []) in
    nested_more starts n (length c.push_reserved.new.self.items) c.self.invariant (omega arith)

pub returns-clause-reply : goal.returns-clause-reply
returns-clause-reply c =
    let drafted = added c.self.inside.snapshot.now c.self.inside.drafts c.found_or_new.new.self
    (reverse c.self.inside.starts.items) c.self.inside.journal.items
    c.args.self.now c.args.object c.in_ok-place.place c.in-Some.lent.now c.self.view_is (sym c.in-Some.ensures)
    c.in_ok-place.ensures.place c.in_ok-place.ensures.ok in
    ap (option_and_then (λ v. one_value.reply v c.args.call.now)) drafted.there
    ∙ subst (λ o. IfSome o (λ h. one_value.reply h.value c.args.call.now ≡ Some c.in_ok-reply.reply)) drafted.draft
    c.in_ok-reply.ensures.reply

pub returns-clause-ok : goal.returns-clause-ok
returns-clause-ok c =
    let snapshot = c.self.inside.snapshot.now in
    let starts = reverse c.self.inside.starts.items in
    let journal = c.self.inside.journal.items in
    let object = c.args.object in
    let was = drafts_of c.found_or_new.new.self in
    let now = drafts_of c.perform_at.new.self in
    let drafted = added c.self.inside.snapshot.now c.self.inside.drafts c.found_or_new.new.self
    (reverse c.self.inside.starts.items) c.self.inside.journal.items
    c.args.self.now c.args.object c.in_ok-place.place c.in-Some.lent.now c.self.view_is (sym c.in-Some.ensures)
    c.in_ok-place.ensures.place c.in_ok-place.ensures.ok in
    let put = subst (λ o. IfSome o (λ h. IsPut was now object (changed h (one_value.after h.value c.args.call.now)))) drafted.draft
    (c.in_ok-reply.ensures.ok object c.in_ok-place.ensures.place) in
    let pushed : c.push_reserved.new.self.items ≡ journal ++ object ∷ [] =
    c.push_reserved.ensures.items ∙ ap (λ js. js ++ object ∷ []) c.reserve.ensures.items in
    performed (histories snapshot was) (histories snapshot now) starts journal c.push_reserved.new.self.items c.args.self.now object
    c.args.call.now _
    drafted.shows c.self.invariant drafted.found (histories-put snapshot was now object _ put) pushed
