-- A text with more bytes than a state may have.
use Rattle.std.proofs.Common.{◌≡◌, ◌<◌, ℕ, List, length, Err}
use Rattle.std.proofs.lemmas.Bool.{cond-true, lt-ltb}
use Rattle.roster_file.specs.declared.roster.LineCause.{LineCause}
use Rattle.roster_file.specs.declared.roster.LineCause.TheVariants as roster
use Rattle.state_file.specs.declared.fault.StateFault.TheVariants.{Roster}
use Rattle.state_file.specs.Whole.{state_of}

pub too_long : (bytes : List ℕ) → 134217728 < length bytes → state_of bytes ≡ Err (Roster 0 roster.TooLong)
unfolding state_of
too_long bytes long = cond-true _ _ _ (lt-ltb 134217728 (length bytes) long)

pub first_line : (bytes : List ℕ) (line : ℕ) (cause : LineCause) → 134217728 < length bytes
    → (0 ≡ line) × (roster.TooLong ≡ cause) → state_of bytes ≡ Err (Roster line cause)
first_line bytes line cause long is = rw (← is.0, ← is.1) (too_long bytes long)
