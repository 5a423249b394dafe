-- The faulty lines of a state, one after another.
use Rattle.std.proofs.Common.{◌≡◌, ℕ, List, [], ◌∷◌, map, true, false, codes, Result, refl}
use Rattle.plain_text.specs.Parts.{is_word}
use Rattle.roster_file.specs.declared.roster.LineCause.TheVariants as roster
use Rattle.state_file.specs.declared.fault.FileCause.TheVariants as causes
use Rattle.state_file.specs.declared.fault.StateFault.{StateFault}
use Rattle.state_file.specs.declared.fault.StateFault.TheVariants.{Line}
use Rattle.state_file.specs.Whole.{Progress, at_line, left_by, read_more}
use Rattle.input_check.specs.StateFaults.{behind_end, faults_in, going_on}

pub lines_missing : (p : Progress) (n end : ℕ) (entries : List (ℕ × List ℕ)) → entries ≡ [] → n ≡ end
    → faults_in p entries end ≡ Line n (causes.Roster roster.Missing) ∷ []
unfolding faults_in
lines_missing p n end entries none same = rw (none, same) refl

pub lines_end : (p : Progress) (e : ℕ × List ℕ) (entries all : List (ℕ × List ℕ)) (end : ℕ) → all ≡ e ∷ entries
    → is_word e.1 (codes "end") ≡ true → faults_in p all end ≡ map behind_end entries
unfolding faults_in
lines_end p e entries all end first is = rw (first, is) refl

pub lines_by : (p : Progress) (r : Result Progress StateFault) (e : ℕ × List ℕ) (entries all : List (ℕ × List ℕ)) (end : ℕ) → all ≡ e ∷ entries
    → is_word e.1 (codes "end") ≡ false → at_line e.0 (read_more p e.1) ≡ r
    → faults_in p all end ≡ going_on r (left_by p e.1) (λ q. faults_in q entries end)
unfolding faults_in
lines_by p r e entries all end first is more = rw (first, is, more) refl
