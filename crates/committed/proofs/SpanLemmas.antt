-- Between which objects entries are.
use Rattle.std.proofs.Common.{◌≡◌, ℕ, ◌+◌, ◌<◌, List, length, take, get_or, subst}
use Rattle.std.proofs.lemmas.List.Elements.{All-more}
use Rattle.objects.specs.declared.entry.Entry.{Entry}
use Rattle.committed.specs.declared.span.Span.{Span}
use Rattle.committed.specs.Spans.{IsIn, AreIn}

-- a span that was made wide enough for one more entry
pub are_in_more : (entries : List Entry) (count : ℕ) (old new : Span) (e : Entry) → count < length entries → e ≡ get_or entries count e
    → IsIn new e.object → ((other : ℕ) → IsIn old other → IsIn new other) → AreIn old (take count entries)
    → AreIn new (take (count + 1) entries)
are_in_more entries count old new e within is own others before =
    All-more (λ x. IsIn new x.object) entries count e within (λ k d lt. others _ (before k d lt)) (subst (λ x. IsIn new x.object) is own)
