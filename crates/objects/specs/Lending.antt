-- What a list of objects becomes where its values were borrowed to be changed in place.
use Rattle.std.specs.Prelude.{List, ◌++◌, length, take, drop}
use Rattle.std.specs.Borrow.{Lends, MutBor, Fml, Array}
use Rattle.objects.specs.declared.kind.Value.{Value}
use Rattle.objects.specs.contracts.kind.Value as one_value_type
use Rattle.objects.specs.contracts.objects.Objects.{the_row}

-- the old values where these are written over the first of them
abbrev pub written_over : List Value → List Value → List Value
written_over old values = take (length old) (values ++ drop (length values) old)

-- the objects end with the last values of the borrowed slice, of which there are as many as before
abbrev pub LendsValues : MutBor (List Value) → MutBor (List Value) → Fml
LendsValues objects values = Lends the_row (Array one_value_type.the_row 0) objects values (written_over objects.now)
