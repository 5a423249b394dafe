-- What a session leaves for the next one, beside a text that is said to be that.
use Rattle.std.specs.Prelude.{ℕ, ◌≡◌, ◌+◌, ◌==◌, List, take, count_by, Ok}
use Rattle.meter_address.specs.declared.address.Address.{Address}
use Rattle.meter_slots.specs.Journal.{SlotView}
use Rattle.state_file.specs.Left.{left_state}
use Rattle.state_file.specs.Whole.{state_of}
use Rattle.state_file.specs.Written.{state_text}

-- the text of what is known of each meter after its slot's steps
abbrev pub left_text : Address → List SlotView → List ℕ
left_text own slots = state_text (left_state own slots)

-- a session that begins from what these slots leave knows just what is known of their meters
abbrev pub IsReadBack : Address → List SlotView → Type 0
IsReadBack own slots = state_of (left_text own slots) ≡ Ok (left_state own slots)

-- a text is what these slots leave for the next session
pub record IsLeftBy (own : Address) (slots : List SlotView) (text : List ℕ) : Type 0 where
  pub text_is : text ≡ left_text own slots
  pub read_back : IsReadBack own slots

-- the line, from 1, of the byte at this place
abbrev pub line_at : ℕ → List ℕ → ℕ
line_at place text = count_by (λ b. b == 10) (take place text) + 1
