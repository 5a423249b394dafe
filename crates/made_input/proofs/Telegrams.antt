-- The bytes of an uplink are a telegram.
use Rattle.std.proofs.Common.{◌≡◌, ℕ, List, ◌∷◌, ◌++◌, length, length-append, arith}
use Rattle.frame_formats.specs.Frames.{IsTelegram}

pub is_telegram : (address authentication message : List ℕ) → length address ≡ 8 → length authentication ≡ 17 → length message ≡ 22
    → IsTelegram (0x30 ∷ 0x44 ∷ address ++ authentication ++ message)
is_telegram address authentication message eight seventeen rest =
    let front = length-append (0x30 ∷ 0x44 ∷ address) authentication in
    let all = length-append (0x30 ∷ 0x44 ∷ address ++ authentication) message in
    record {
      least = omega (arith, front, all, eight, seventeen, rest);
      most =
          omega (arith, front, all, eight, seventeen, rest);
      counted = omega (arith, front, all, eight, seventeen, rest);
    }
