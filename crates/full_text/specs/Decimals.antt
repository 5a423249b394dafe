-- A whole number times a power of ten, as exact decimal text.
use Rattle.std.specs.Prelude.{ℕ, ℤ, ◌-◌, ◌==◌, nat_lt, List, [], ◌++◌, length, take, drop, replicate, unsigned_abs, int_lt, pos, codes, if◌then◌else◌}
use Rattle.std.specs.Fmt.{decimal}

-- zeros, so many
abbrev pub zeros : ℕ → List ℕ
zeros count = replicate count 48

-- digits with a point in front of the last ones, so many; where there are too few, zeros stand in front of them
unfoldable pub pointed : List ℕ → ℕ → List ℕ
pointed digits behind =
    if nat_lt behind (length digits) then take (length digits - behind) digits ++ codes "." ++ drop (length digits - behind) digits
    else codes "0." ++ zeros (behind - length digits) ++ digits

-- a number with zeros behind it, unless it is nought
unfoldable pub lengthened : ℕ → ℕ → List ℕ
lengthened number count = if number == 0 then decimal number else decimal number ++ zeros count

-- a number times ten to the power of an exponent
abbrev pub scaled : ℕ → ℤ → List ℕ
scaled number exponent =
    if int_lt exponent (pos 0) then pointed (decimal number) (unsigned_abs exponent) else lengthened number (unsigned_abs exponent)

abbrev pub sign_of : ℤ → List ℕ
sign_of number = if int_lt number (pos 0) then codes "-" else []

-- the same of a number below zero or not
unfoldable pub decimal_text : ℤ → ℤ → List ℕ
decimal_text number exponent = sign_of number ++ scaled (unsigned_abs number) exponent
