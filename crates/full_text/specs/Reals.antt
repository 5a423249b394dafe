-- Real numbers as exact decimals (EN 13757-3, annex A, type H; IEEE 754, binary32).
use Rattle.std.specs.Prelude.{ℕ, ◌+◌, ◌-◌, ◌*◌, ◌/◌, ◌%◌, ◌^◌, min, Bool, ◌&&◌, Option, Some, None, ℤ, pos, neg_ℤ, nat_le, ◌==◌, if◌then◌else◌}
use Rattle.std.specs.Int.{w32, trailing_zeros}
use Rattle.full_text.specs.declared.reals.Decimal.{Decimal}

-- a word's uppermost bit is the sign, eight bits are the exponent, and twenty-three the fraction
abbrev pub is_negative : ℕ → Bool
is_negative word = nat_le (2 ^ 31) word

abbrev pub exponent_bits : ℕ → ℕ
exponent_bits word = word / 2 ^ 23 % 256

abbrev pub fraction_bits : ℕ → ℕ
fraction_bits word = word % 2 ^ 23

-- a finite one is its significand times two to the power of `power` - 150
abbrev pub significand : ℕ → ℕ
significand word = if exponent_bits word == 0 then fraction_bits word else 2 ^ 23 + fraction_bits word

abbrev pub power : ℕ → ℕ
power word = if exponent_bits word == 0 then 1 else exponent_bits word

-- how often the significand is halved, as far as it is divided by twos at all
abbrev pub halvings : ℕ → ℕ
halvings word = min (trailing_zeros w32 (significand word)) (150 - power word)

-- Each further division by two is a multiplication by five, with one more place behind the point.
abbrev pub places : ℕ → ℕ
places word = if significand word == 0 then 0 else 150 - power word - halvings word

-- the digits of its size
abbrev pub size : ℕ → ℕ
size word = significand word / 2 ^ halvings word * 5 ^ places word * 2 ^ (power word - 150)

-- whether it is finite, and its digits have at most 127 bits: each one above 2 to the -21 and below 2 to the 125, and shorter ones beyond
abbrev pub is_told : ℕ → Bool
is_told word = nat_le (power word) 251 && nat_le (places word) 44

abbrev pub signed : ℕ → ℕ → ℤ
signed word size = if is_negative word then neg_ℤ (pos size) else pos size

-- a finite real number, exactly
abbrev pub real_decimal : ℕ → Option Decimal
real_decimal word =
    if is_told word then Some (record { whole = signed word (size word); exponent = neg_ℤ (pos (places word)) }) else None
