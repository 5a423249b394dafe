-- Bytes that are a telegram.
use Rattle.std.proofs.Common.{◌≡◌, ℕ, ◌+◌, ◌≤◌, ◌&&◌, true, List, length, slice_index, arith}
use Rattle.std.specs.Prelude.{nat_le, nat_eq}
use Rattle.std.proofs.lemmas.Bool.Decides.{nat_tests}
use Rattle.frame_formats.specs.Frames.{IsTelegram}
use Rattle.line_feed.specs.Digits.{is_telegram}

tests_say : (n first : ℕ) → (nat_le 11 n && nat_le n 256 && nat_eq (first + 1) n) ≡ true → (11 ≤ n) × (n ≤ 256) × (first + 1 ≡ n)
tests_say n first all = (grind (arith, nat_tests), grind (arith, nat_tests), grind (arith, nat_tests))

pub is_found : (bytes : List ℕ) → is_telegram bytes ≡ true → IsTelegram bytes
is_found bytes all =
    let say = tests_say (length bytes) (slice_index bytes 0) all in
    record { least = say.0; most = say.1; counted = say.2 }
