-- Values and numbers, as they are shown in a line of words.
use Rattle.std.specs.Prelude.{ℕ, ◌/◌, ◌%◌, true, false, List, ◌++◌, codes, nat_lt, if◌then◌else◌, Option, unwrap_or, decimal}
use Rattle.std.specs.Fmt.{signed_decimal}
use Rattle.json.specs.Print.{quoted}
use Rattle.serde_json.specs.Data.{Num, unsigned, negative, float, Data, null, boolean, number, string, array, object}

abbrev pub shown_number : Num → List ℕ
shown_number (unsigned n) = decimal n
shown_number (negative z) = signed_decimal z
shown_number (float x) = codes "a number that is not written as a whole number of 64 bits"

-- a text in quotes, as JSON; of a list and an object only what they are
abbrev pub shown : Data → List ℕ
shown null = codes "null"
shown (boolean true) = codes "true"
shown (boolean false) = codes "false"
shown (number n) = shown_number n
shown (string s) = quoted s
shown (array ds) = codes "a list"
shown (object ms) = codes "an object"

-- what isn't there is shown as null
abbrev pub shown_in : Option Data → List ℕ
shown_in found = shown (unwrap_or found null)

-- ---- numbers with a comma before each three digits

-- the last three digits, after a comma
unfoldable pub thousands : ℕ → List ℕ
thousands n = codes "," ++ decimal (n / 100 % 10) ++ decimal (n / 10 % 10) ++ decimal (n % 10)

unfoldable pub below_billion : ℕ → List ℕ
below_billion n =
    if nat_lt n 1000 then decimal n
    else if nat_lt n 1000000 then decimal (n / 1000) ++ thousands n
    else decimal (n / 1000000) ++ thousands (n / 1000) ++ thousands n

unfoldable pub grouped : ℕ → List ℕ
grouped n =
    if nat_lt n 1000000000 then below_billion n
    else below_billion (n / 1000000000) ++ thousands (n / 1000000) ++ thousands (n / 1000) ++ thousands n
