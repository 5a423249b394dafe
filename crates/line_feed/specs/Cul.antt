-- Lines of culfw.
use Rattle.std.specs.Prelude.{ℕ, ◌==◌, ◌-◌, Bool, true, false, List, [], ◌∷◌, length, take, Result, Ok, Err, if◌then◌else◌}
use Rattle.lists.specs.Steps.{◌>>=◌}
use Rattle.frame_formats.specs.declared.fault.FrameFault.{FrameFault}
use Rattle.frame_formats.specs.declared.fault.FrameFault.TheVariants as faults
use Rattle.frame_formats.specs.declared.format.Format.{Format}
use Rattle.frame_formats.specs.declared.format.Format.TheVariants as formats
use Rattle.frame_formats.specs.Decoding.{decoded}
use Rattle.line_feed.specs.declared.heard.Reception.{Reception}
use Rattle.line_feed.specs.declared.reasons.NotTaken.{NotTaken}
use Rattle.line_feed.specs.declared.reasons.NotTaken.TheVariants as reasons
use Rattle.line_feed.specs.Digits.{bytes_in}
use Rattle.line_feed.specs.Heard.{heard_some_time}

-- whether the bytes are more or fewer than L says
abbrev pub is_length : FrameFault → Bool
is_length (faults.Length want have) = true
is_length _ = false

-- what stands in front of two bytes of link quality
abbrev pub without_quality : List ℕ → List ℕ
without_quality bytes = take (length bytes - 2) bytes

-- the first answer, and the second where the bytes are more or fewer than L says
abbrev pub or_shorter : (first second : Result (List ℕ) FrameFault) → Result (List ℕ) FrameFault
or_shorter (Ok t) second = Ok t
or_shorter (Err fault) second = if is_length fault then second else Err fault

-- the telegram of a frame, behind which two bytes of link quality may stand
abbrev pub decoded_heard : Format → List ℕ → Result (List ℕ) FrameFault
decoded_heard format bytes = or_shorter (decoded format bytes) (decoded format (without_quality bytes))

abbrev pub heard_framed : Result (List ℕ) FrameFault → Result Reception NotTaken
heard_framed (Ok t) = Ok (heard_some_time t)
heard_framed (Err fault) = Err (reasons.Frame fault)

-- a frame of this format in digits
unfoldable pub framed : Format → List ℕ → Result Reception NotTaken
framed format digits = bytes_in digits >>= λ bytes. heard_framed (decoded_heard format bytes)

-- the frame is of format B behind a `Y`, and else of format A
abbrev pub behind_letter : List ℕ → Result Reception NotTaken
behind_letter [] = framed formats.A []
behind_letter (letter ∷ rest) = if letter == 89 then framed formats.B rest else framed formats.A (letter ∷ rest)

-- a line begins with `b`
abbrev pub cul_heard : List ℕ → Result Reception NotTaken
cul_heard [] = Err reasons.Letter
cul_heard (letter ∷ rest) = if letter == 98 then behind_letter rest else Err reasons.Letter
