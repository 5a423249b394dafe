-- The configuration field of a transport header, and its extension (EN 13757-7, OMS Volume 2).
use Rattle.std.specs.Prelude.{ℕ, ◌/◌, ◌%◌, ◌^◌, Bool, ◌==◌}
use Rattle.std.specs.Int.{bit_at}

-- the security mode: bits 12 to 8 of the configuration field
abbrev pub mode_of : ℕ → ℕ
mode_of cf = cf / 2 ^ 8 % 2 ^ 5

-- N, how many blocks are encrypted: bits 7 to 4 of the configuration field
abbrev pub blocks_of : ℕ → ℕ
blocks_of cf = cf / 2 ^ 4 % 2 ^ 4

-- which derivation gives the keys: bits 5 and 4 of the extension
abbrev pub derivation_of : ℕ → ℕ
derivation_of cfe = cfe / 2 ^ 4 % 2 ^ 2

-- the id of the key under which a message is secured: bits 3 to 0 of the extension
abbrev pub key_id_of : ℕ → ℕ
key_id_of cfe = cfe % 2 ^ 4

-- in mode 5, B and A, which say when the meter listens: bits 15 and 14 of the configuration field
abbrev pub is_bidirectional : ℕ → Bool
is_bidirectional cf = bit_at cf 15 == 1

abbrev pub is_accessible : ℕ → Bool
is_accessible cf = bit_at cf 14 == 1
