-- What a line delivers.
use Rattle.std.specs.Prelude.{ℕ, nat_le, nat_lt, List, [], ◌∷◌, length, Option, Some, None, if◌then◌else◌}
use Rattle.std.specs.Option.{option_and_then}
use Rattle.plain_text.specs.Parts.{fields_of}
use Rattle.line_accept.specs.declared.fence.Numbered.{Numbered}
use Rattle.line_accept.specs.Names.{is_name}
use Rattle.line_accept.specs.Numbers.{epoch_in, number_in}

-- a sender's name, and what the sender gave the message
pub record Delivery : Type 0 where
  pub name : List ℕ
  pub message : Numbered

-- the first message of an epoch has the number 1
abbrev pub message_with : ℕ → ℕ → Option Numbered
message_with epoch number = if nat_le 1 number then Some (record { epoch = epoch; number = number }) else None

abbrev pub message_in : List ℕ → List ℕ → Option Numbered
message_in e k = option_and_then (λ epoch. option_and_then (message_with epoch) (number_in k)) (epoch_in e)

unfoldable pub delivery_in : List (List ℕ) → Option Delivery
delivery_in (n ∷ e ∷ k ∷ []) =
    if is_name n then option_and_then (λ m. Some (record { name = n; message = m })) (message_in e k) else None
delivery_in fields = None

-- what a line `SENDER EPOCH N` delivers: the longest that delivers anything has 96 bytes
unfoldable pub delivery_of : List ℕ → Option Delivery
delivery_of line = if nat_lt 96 (length line) then None else delivery_in (fields_of line)
