-- What is answered to lines, one after another.
use Rattle.std.specs.Prelude.{ℕ, ◌≡◌, ◌==◌, ◌&&◌, Bool, List, [], ◌∷◌, ◌++◌, map, slice_get, codes, Option, Some, None, if◌then◌else◌}
use Rattle.std.specs.Fmt.{decimal}
use Rattle.line_accept.specs.declared.fence.Asked.{Asked}
use Rattle.line_accept.specs.declared.fence.Fence.{Fence}
use Rattle.line_accept.specs.declared.fence.Answer.{Answer}
use Rattle.line_accept.specs.declared.fence.Answer.TheVariants.{Taken, Again, Gap, Unknown}
use Rattle.line_accept.specs.Senders.{Sender, answer_in, passed_in}
use Rattle.line_accept.specs.Deliveries.{Delivery, delivery_of}

-- ---- one line

-- an epoch and a number at the end of a line
unfoldable pub numbers_text : ℕ → ℕ → List ℕ
numbers_text epoch number = decimal epoch ++ codes " " ++ decimal number ++ codes "\n"

-- from where on a sender is asked to send again
unfoldable pub ask_text : Asked → List ℕ
ask_text asked = codes "ask " ++ numbers_text asked.epoch asked.number

abbrev pub answer_text : Answer → List ℕ
answer_text Taken = codes "take\n"
answer_text Again = codes "again\n"
answer_text (Gap asked) = ask_text asked
answer_text Unknown = codes "unknown\n"

abbrev pub delivery_text : List Sender → Option Delivery → List ℕ
delivery_text senders None = codes "bad\n"
delivery_text senders (Some d) = answer_text (answer_in senders d.name d.message)

abbrev pub behind_delivery : List Sender → Option Delivery → List Sender
behind_delivery senders None = senders
behind_delivery senders (Some d) = passed_in senders d.name d.message

-- what is answered to a line, and the senders behind it: the fence of the sender that it names alone may move
abbrev pub line_text : List Sender → List ℕ → List ℕ
line_text senders line = delivery_text senders (delivery_of line)

abbrev pub behind_line : List Sender → List ℕ → List Sender
behind_line senders line = behind_delivery senders (delivery_of line)

-- ---- all lines

abbrev pub answers_text : List Sender → List (List ℕ) → List ℕ
answers_text senders [] = []
answers_text senders (line ∷ lines) = line_text senders line ++ answers_text (behind_line senders line) lines

abbrev pub behind_lines : List Sender → List (List ℕ) → List Sender
behind_lines senders [] = senders
behind_lines senders (line ∷ lines) = behind_lines (behind_line senders line) lines

-- ---- the senders whose fences moved

unfoldable pub sender_text : Sender → List ℕ
sender_text s = codes "sender " ++ s.name ++ codes " " ++ numbers_text s.fence.epoch s.fence.number

abbrev pub is_fence : Fence → Fence → Bool
is_fence f g = f.epoch == g.epoch && f.number == g.number

-- a sender that had this fence at first: a line where it has another one now
abbrev pub moved_line : Fence → Sender → List ℕ
moved_line first s = if is_fence first s.fence then [] else sender_text s

-- the same of all senders, in their order
abbrev pub moved_text : List Fence → List Sender → List ℕ
moved_text [] senders = []
moved_text (first ∷ firsts) [] = []
moved_text (first ∷ firsts) (s ∷ senders) = moved_line first s ++ moved_text firsts senders

-- the output over all lines: their answers, and behind them the senders whose fences moved
abbrev pub output_text : List Sender → List (List ℕ) → List ℕ
output_text senders lines = answers_text senders lines ++ moved_text (map (λ (s : Sender). s.fence) senders) (behind_lines senders lines)

-- ---- words of private contracts

-- the line of a sender that had a fence at first, where there are both
abbrev pub moved_both : Option Fence → Option Sender → List ℕ
moved_both None s = []
moved_both (Some first) None = []
moved_both (Some first) (Some s) = moved_line first s

abbrev pub moved_at : List Fence → List Sender → ℕ → List ℕ
moved_at firsts senders place = moved_both (slice_get firsts place) (slice_get senders place)

-- a line is answered
pub record AcceptsLine (old : List Sender) (number : ℕ) (line text note : List ℕ) (new : List Sender) : Type 0 where
  pub text_is : text ≡ line_text old line
  pub note_is : note ≡ []
  pub new_is : new ≡ behind_line old line
