-- The value that a draft is, with those that it was, by what is kept of it. No public contract names it.
use Rattle.objects.specs.declared.kind.Value.{Value}
use Rattle.objects.specs.declared.kind.Value.TheVariants as value
use Rattle.drafts.specs.declared.draft.KindDraft.{KindDraft}
use Rattle.drafts.specs.declared.draft.KindDraft.TheVariants as kept
use Rattle.drafts.specs.History.{History, seen_as}
use Rattle.drafts.specs.Numbers.{number_history}

abbrev pub drafted : KindDraft → History Value
drafted (kept.Account draft) = seen_as value.Account (number_history draft)
drafted (kept.Counter draft) = seen_as value.Counter (number_history draft)
drafted (kept.Set draft) = seen_as value.Set draft
drafted (kept.Queue draft) = seen_as value.Queue draft
drafted (kept.Directory draft) = seen_as value.Directory draft
drafted (kept.Max draft) = seen_as value.Max (number_history draft)
