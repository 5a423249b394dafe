-- What is taken of many deliveries, lost, repeated, reordered.
use Rattle.std.specs.Prelude.{ℕ, ◌≡◌, ◌+◌, ◌≤◌, ◌==◌, if◌then◌else◌, Bool, false, List, [], ◌∷◌, ◌++◌, drop, slice_get, Option, Some, None}
use Rattle.std.specs.List.{All}
use Rattle.line_accept.specs.declared.fence.Numbered.{Numbered}
use Rattle.line_accept.specs.declared.fence.Fence.{Fence}
use Rattle.line_accept.specs.Fences.{is_next, fence_at}
use Rattle.std.specs.Str.{bytes_eq}
use Rattle.line_accept.specs.Senders.{Sender, fence_of, passed_in}

-- a message with its content: its sender, and the epoch and the number that the sender gave it
pub record Delivered : Type 0 where
  pub sender : List ℕ
  pub message : Numbered
  pub content : List ℕ

-- the contents that each sender numbered in each of its epochs, the first one's number 1
abbrev pub Numbering : Type 0
Numbering = List ℕ → ℕ → List (List ℕ)

-- a delivery has what its sender numbered so
pub record IsNumbered (told : Numbering) (d : Delivered) : Type 0 where
  pub place : ℕ
  pub number : d.message.number ≡ place + 1
  pub content : slice_get (told d.sender d.message.epoch) place ≡ Some d.content

-- ---- what is taken

-- of the deliveries of one sender, behind this fence
unfoldable pub taken_behind : Fence → List Delivered → List Delivered
taken_behind f [] = []
taken_behind f (d ∷ ds) = if is_next f d.message then d ∷ taken_behind (fence_at d.message) ds else taken_behind f ds

-- whether a message is taken
abbrev pub takes_by : Option Fence → Numbered → Bool
takes_by None m = false
takes_by (Some f) m = is_next f m

-- of the deliveries of many senders
unfoldable pub taken : List Sender → List Delivered → List Delivered
taken senders [] = []
taken senders (d ∷ ds) =
    if takes_by (fence_of d.sender senders) d.message then d ∷ taken (passed_in senders d.sender d.message) ds
    else taken (passed_in senders d.sender d.message) ds

-- the deliveries of one sender
unfoldable pub of_sender : List ℕ → List Delivered → List Delivered
of_sender name [] = []
of_sender name (d ∷ ds) = if bytes_eq d.sender name then d ∷ of_sender name ds else of_sender name ds

-- the contents of one epoch
unfoldable pub contents_in : ℕ → List Delivered → List (List ℕ)
contents_in epoch [] = []
contents_in epoch (d ∷ ds) = if d.message.epoch == epoch then d.content ∷ contents_in epoch ds else contents_in epoch ds

-- how many messages of an epoch were taken before: in that of the fence its number, in a later one none
abbrev pub taken_before : Fence → ℕ → ℕ
taken_before f epoch = if epoch == f.epoch then f.number else 0

-- the first list is a front of the second
pub record IsFront (xs whole : List (List ℕ)) : Type 0 where
  pub rest : List (List ℕ)
  pub whole_is : xs ++ rest ≡ whole

-- the epochs of some deliveries never fall, the first one not below this
abbrev pub EpochsRise : ℕ → List Delivered → Type 0
EpochsRise epoch [] = Unit {0}
EpochsRise epoch (d ∷ ds) = (epoch ≤ d.message.epoch) × EpochsRise d.message.epoch ds

-- messages of one epoch with consecutive numbers, from the one behind this
abbrev pub FollowFrom : ℕ → ℕ → List Delivered → Type 0
FollowFrom epoch number [] = Unit {0}
FollowFrom epoch number (d ∷ ds) =
    (d.message.epoch ≡ epoch) × (d.message.number ≡ number + 1) × FollowFrom epoch d.message.number ds

-- ---- the laws

-- whatever other senders deliver in between, of each sender is taken what its own deliveries alone give
abbrev pub EachSenderAlone : Type 0
EachSenderAlone = (senders : List Sender) (name : List ℕ) (f : Fence) (ds : List Delivered) → fence_of name senders ≡ Some f
    → of_sender name (taken senders ds) ≡ taken_behind f (of_sender name ds)

-- whatever is lost, repeated or reordered: in each epoch of each sender the contents taken are a front of those that it numbered behind
-- what was taken before, so each once, in order and without a gap; and its epochs never fall
pub record AreFronts (told : Numbering) (senders : List Sender) (ds : List Delivered) : Type 0 where
  pub fronts : (name : List ℕ) (epoch : ℕ) (f : Fence) → fence_of name senders ≡ Some f
      → IsFront (contents_in epoch (of_sender name (taken senders ds))) (drop (taken_before f epoch) (told name epoch))
  pub rise : (name : List ℕ) (f : Fence) → fence_of name senders ≡ Some f → EpochsRise f.epoch (of_sender name (taken senders ds))

abbrev pub TakenAreFronts : Type 0
TakenAreFronts = (told : Numbering) (senders : List Sender) (ds : List Delivered) → All (IsNumbered told) ds → AreFronts told senders ds

-- the senders after some deliveries
unfoldable pub behind_all : List Sender → List Delivered → List Sender
behind_all senders [] = senders
behind_all senders (d ∷ ds) = behind_all (passed_in senders d.sender d.message) ds

-- cut where one likes: what is taken of the later deliveries by the senders as they were left is what one run takes of them
pub record IsOneRun (senders : List Sender) (before after : List Delivered) : Type 0 where
  pub taken_are : taken senders (before ++ after) ≡ taken senders before ++ taken (behind_all senders before) after
  pub behind_is : behind_all senders (before ++ after) ≡ behind_all (behind_all senders before) after

abbrev pub CutRunsAreOne : Type 0
CutRunsAreOne = (senders : List Sender) (before after : List Delivered) → IsOneRun senders before after

-- senders that were in this state before some deliveries, each as its sender numbered it, are in that one now
pub record StandsFor (told : Numbering) (first : List Sender) (ds : List Delivered) (now : List Sender) : Type 0 where
  pub numbered : All (IsNumbered told) ds
  pub now_is : now ≡ behind_all first ds
  pub fronts : AreFronts told first ds

-- what a sender was asked for and sends again in its order is taken whole
abbrev pub SentAgainIsTaken : Type 0
SentAgainIsTaken = (f : Fence) (ds : List Delivered) → FollowFrom f.epoch f.number ds → taken_behind f ds ≡ ds
