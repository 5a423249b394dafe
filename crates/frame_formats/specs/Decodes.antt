-- What a decoder answers, and what it leaves in the telegram that it is lent.
use Rattle.std.specs.Prelude.{ℕ, ◌≡◌, List, Result, Err, IsOk, OnOk, OnErr, IfErr}
use Rattle.frame_formats.specs.declared.fault.FrameFault.{FrameFault}
use Rattle.frame_formats.specs.declared.format.Format.{Format}
use Rattle.frame_formats.specs.Frames.{Frame}
use Rattle.frame_formats.specs.Faults.{Fault}

-- the answer on bytes in this format; old and new are the telegram before and after
pub record Decodes (format : Format) (bytes old new : List ℕ) (answer : Result (Unit {0}) FrameFault) : Type 0 where
  -- what is read is a frame of its telegram, and each frame is read
  pub found : OnOk answer (Frame format bytes new)
  pub only : (t : List ℕ) → Frame format bytes t → IsOk answer × (new ≡ t)
  -- a fault is the first that the bytes show, and the first that they show is answered
  pub fault : IfErr answer (Fault format bytes)
  pub each_fault : (fault : FrameFault) → Fault format bytes fault → answer ≡ Err fault
  -- it leaves the telegram as it was
  pub kept : OnErr answer (new ≡ old)
