-- Numbers with what they were. No public contract names it.
use Rattle.std.specs.Prelude.{◌++◌, reverse}
use Rattle.std.specs.Option.{option_to_list}
use Rattle.drafts.specs.declared.number_draft.NumberDraft.{NumberDraft}
use Rattle.drafts.specs.History.{History}

-- the number, and those before each change, the latest first
abbrev pub number_history : {T : Type 0} → NumberDraft T → History T
number_history draft = record { value = draft.number; before = option_to_list draft.last ++ reverse draft.earlier.items }
