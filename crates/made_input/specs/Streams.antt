-- What callers see of the text that a receiver hears, and places in a text of several pieces.
use Rattle.std.specs.Prelude.{ℕ, ◌+◌, ◌≤◌, List, length, take, drop}
use Rattle.std.specs.List.{flat_map}

-- the bytes taken so far, and those that are left
pub record Text : Type 0 where
  pub taken : List ℕ
  pub left : List ℕ

-- ---- pieces, each with its bytes

-- the bytes of the piece at a place; none behind all pieces
abbrev pub bytes_at : {P : Type 0} → (P → List ℕ) → List P → ℕ → List ℕ
bytes_at bytes pieces piece = flat_map bytes (take 1 (drop piece pieces))

-- a place in a piece is at most its end; behind all pieces it is 0
pub record IsPlace {P : Type 0} (bytes : P → List ℕ) (pieces : List P) (piece at : ℕ) : Type 0 where
  pub within : piece ≤ length pieces
  pub in_piece : at ≤ length (bytes_at bytes pieces piece)

-- how many bytes stand before a place in a piece
unfoldable pub place_in_all : {P : Type 0} → (P → List ℕ) → List P → ℕ → ℕ → ℕ
place_in_all bytes pieces piece at = length (flat_map bytes (take piece pieces)) + at
