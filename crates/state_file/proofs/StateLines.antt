-- The lines of a state, one after another.
use Rattle.std.proofs.Common.{◌≡◌, ℕ, List, [], ◌∷◌, true, false, codes, Result, Err, refl}
use Rattle.lists.specs.Steps.{◌>>=◌}
use Rattle.plain_text.specs.Parts.{is_word}
use Rattle.roster_file.specs.declared.roster.LineCause.TheVariants as roster
use Rattle.state_file.specs.declared.fault.FileCause.TheVariants as causes
use Rattle.state_file.specs.declared.fault.StateFault.{StateFault}
use Rattle.state_file.specs.declared.fault.StateFault.TheVariants.{Roster, Line, Memory}
use Rattle.state_file.specs.Whole.{Progress, all_of, at_line, ended, read_more, starts_of}
use Rattle.state_file.specs.Reading.{IsFaultOf}

pub lines_missing : (p : Progress) (n end : ℕ) (entries : List (ℕ × List ℕ)) → entries ≡ [] → n ≡ end
    → starts_of p entries end ≡ Err (Line n (causes.Roster roster.Missing))
unfolding starts_of
lines_missing p n end entries none same = rw (none, same) refl

pub lines_end : (p : Progress) (e : ℕ × List ℕ) (entries all : List (ℕ × List ℕ)) (end : ℕ) → all ≡ e ∷ entries
    → is_word e.1 (codes "end") ≡ true → starts_of p all end ≡ ended (all_of p) entries
unfolding starts_of
lines_end p e entries all end first is = rw (first, is) refl

pub lines_by : (p : Progress) (r : Result Progress StateFault) (e : ℕ × List ℕ) (entries all : List (ℕ × List ℕ)) (end : ℕ) → all ≡ e ∷ entries
    → is_word e.1 (codes "end") ≡ false → at_line e.0 (read_more p e.1) ≡ r
    → starts_of p all end ≡ (r >>= λ q. starts_of q entries end)
unfolding starts_of
lines_by p r e entries all end first is more = rw (first, is, more) refl

pub starts_fault : (p : Progress) (fault : StateFault) (e : ℕ × List ℕ) (entries all : List (ℕ × List ℕ)) (end : ℕ) → all ≡ e ∷ entries
    → is_word e.1 (codes "end") ≡ false → IsFaultOf (at_line e.0 (read_more p e.1)) fault → IsFaultOf (starts_of p all end) fault
unfolding starts_of
starts_fault p (Roster line cause) e entries all end first is fails = rw (first, is, fails) refl
starts_fault p (Line line cause) e entries all end first is fails = rw (first, is, fails) refl
starts_fault p Memory e entries all end first is fails = tt
