-- Newlines in bytes.
use Rattle.std.specs.Prelude.{ℕ, ◌==◌, List, count_by}

-- how many newlines the bytes have
abbrev pub newlines : List ℕ → ℕ
newlines bytes = count_by (λ b. b == 10) bytes
