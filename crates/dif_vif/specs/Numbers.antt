-- The numbers that the extensions of a DIF give, digit by digit (EN 13757-3, 6.3).
use Rattle.std.specs.Prelude.{ℕ, ◌+◌, ◌*◌, ◌/◌, ◌%◌, List, [], ◌∷◌, map}

-- the number whose digits in a base stand lowest first
abbrev pub low_first : ℕ → List ℕ → ℕ
low_first base [] = 0
low_first base (digit ∷ digits) = digit + base * low_first base digits

-- Each DIFE brings four bits of the storage number, above the one bit of the DIF.
abbrev pub storage_of : ℕ → List ℕ → ℕ
storage_of dif difes = dif / 64 % 2 + 2 * low_first 16 (map (λ dife. dife % 16) difes)

-- Each DIFE brings two bits of the tariff.
abbrev pub tariff_of : List ℕ → ℕ
tariff_of difes = low_first 4 (map (λ dife. dife / 16 % 4) difes)

-- Each DIFE brings one bit of the subunit.
abbrev pub subunit_of : List ℕ → ℕ
subunit_of difes = low_first 2 (map (λ dife. dife / 64 % 2) difes)
