-- Many senders.
use Rattle.std.specs.Prelude.{ℕ, if◌then◌else◌, List, [], ◌∷◌, Option, Some, None}
use Rattle.line_accept.specs.declared.fence.Numbered.{Numbered}
use Rattle.line_accept.specs.declared.fence.Fence.{Fence}
use Rattle.line_accept.specs.declared.fence.Answer.{Answer}
use Rattle.line_accept.specs.declared.fence.Answer.TheVariants.{Unknown}
use Rattle.line_accept.specs.Fences.{answer_of, passed}
use Rattle.std.specs.Str.{bytes_eq}

-- a sender: its name, and up to where its messages were taken
pub record Sender : Type 0 where
  pub name : List ℕ
  pub fence : Fence

-- the fence of the sender with this name
unfoldable pub fence_of : List ℕ → List Sender → Option Fence
fence_of name [] = None
fence_of name (s ∷ ss) = if bytes_eq name s.name then Some s.fence else fence_of name ss

-- what is answered to a message: as its sender's fence says
abbrev pub answer_by : Option Fence → Numbered → Answer
answer_by None m = Unknown
answer_by (Some f) m = answer_of f m

unfoldable pub answer_in : List Sender → List ℕ → Numbered → Answer
answer_in senders name m = answer_by (fence_of name senders) m

-- the senders after it: only the fence of its own sender may move
unfoldable pub passed_in : List Sender → List ℕ → Numbered → List Sender
passed_in [] name m = []
passed_in (s ∷ ss) name m = if bytes_eq name s.name then record s { fence = passed s.fence m } ∷ ss else s ∷ passed_in ss name m
