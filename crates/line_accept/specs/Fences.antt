-- Which message of a sender is taken.
use Rattle.std.specs.Prelude.{◌≡◌, ◌≢◌, ◌+◌, ◌<◌, ◌≤◌, ◌⊎◌, Bool, nat_lt, nat_le, ◌==◌, ◌&&◌, ◌||◌, if◌then◌else◌}
use Rattle.line_accept.specs.declared.fence.Numbered.{Numbered}
use Rattle.line_accept.specs.declared.fence.Fence.{Fence}
use Rattle.line_accept.specs.declared.fence.Asked.{Asked}
use Rattle.line_accept.specs.declared.fence.Answer.{Answer}
use Rattle.line_accept.specs.declared.fence.Answer.TheVariants.{Taken, Again, Gap}

-- ---- as relations

-- the message is the very next one behind the fence: of its epoch the next number, or the first one of a later epoch
abbrev pub IsNext : Fence → Numbered → Type 0
IsNext f m = ((m.epoch ≡ f.epoch) × (m.number ≡ f.number + 1)) ⊎ ((f.epoch < m.epoch) × (m.number ≡ 1))

-- it isn't beyond the fence: of an earlier epoch, or of its epoch and not above its number
abbrev pub IsPast : Fence → Numbered → Type 0
IsPast f m = (m.epoch < f.epoch) ⊎ ((m.epoch ≡ f.epoch) × (m.number ≤ f.number))

-- it is beyond the fence, and others are missing before it
abbrev pub IsBeyond : Fence → Numbered → Type 0
IsBeyond f m = ((m.epoch ≡ f.epoch) × (f.number + 1 < m.number)) ⊎ ((f.epoch < m.epoch) × (m.number ≢ 1))

-- ---- the same, computed

unfoldable pub is_past : Fence → Numbered → Bool
is_past f m = nat_lt m.epoch f.epoch || (m.epoch == f.epoch && nat_le m.number f.number)

unfoldable pub is_next : Fence → Numbered → Bool
is_next f m = if m.epoch == f.epoch then m.number == f.number + 1 else nat_lt f.epoch m.epoch && m.number == 1

-- where what is missing begins: right behind the fence
abbrev pub behind : Fence → Asked
behind f = record { epoch = f.epoch; number = f.number + 1 }

-- what is answered: the very next message is taken, what isn't beyond the fence came before, and another one shows a gap
unfoldable pub answer_of : Fence → Numbered → Answer
answer_of f m = if is_next f m then Taken else if is_past f m then Again else Gap (behind f)

-- the fence at a message
abbrev pub fence_at : Numbered → Fence
fence_at m = record { epoch = m.epoch; number = m.number }

-- the fence after a message
unfoldable pub passed : Fence → Numbered → Fence
passed f m = if is_next f m then fence_at m else f
