-- The borrowed value, as it was or as a draft.
use Rattle.objects.specs.declared.kind.Value.{Value}
use Rattle.drafts.specs.declared.shown.ShownValue.{ShownValue}
use Rattle.drafts.specs.declared.shown.ShownValue.TheVariants.{Lent, Changed}

abbrev pub shown_value : ShownValue → Value
shown_value (Lent value) = value.now
shown_value (Changed draft) = draft.now.value
