-- Every faulty line of a state, and the first of them.
use Rattle.std.proofs.Common.{◌≡◌, ◌⊎◌, inl, inr, ℕ, ◌+◌, Bool, true, false, cond, List, [], ◌∷◌, length, map, codes, Option, Some, None, Result, Ok, Err, refl, sym, ap, ◌∙◌, nat_lt, arith}
use Rattle.std.specs.Str.Lines.{lines}
use Rattle.std.proofs.lemmas.Bool.{cond-false, cond-true}
use Rattle.std.proofs.lemmas.Bool.Decides.{nat_tests}
use Rattle.lists.specs.Steps.{◌>>=◌}
use Rattle.plain_text.specs.Parts.{is_word}
use Rattle.meter_address.specs.declared.address.Address.{Address}
use Rattle.meter_slots.specs.Journal.{Start}
use Rattle.roster_file.specs.declared.roster.LineCause.TheVariants as roster
use Rattle.roster_file.specs.declared.roster.RosterFault.{RosterFault}
use Rattle.roster_file.specs.declared.roster.RosterFault.TheVariants as faulty
use Rattle.roster_file.specs.Roster.{Enrolled, entries_from, own_of, roster_of}
use Rattle.input_check.specs.RosterFaults as rosters
use Rattle.input_check.proofs.RosterFaults.{first_fault_refuses as roster_refuses}
use Rattle.state_file.specs.declared.fault.StateFault.{StateFault}
use Rattle.state_file.specs.declared.fault.StateFault.TheVariants.{Roster, Line, Memory}
use Rattle.state_file.specs.Whole.{Known, Progress, all_of, at_line, by_fault, by_roster, ended, headed, left_by, no_meters, of_roster, owned, read_more, starts_of, state_of, with_own}
use Rattle.state_file.specs.Reading.{IsFaultOf}
use Rattle.input_check.specs.StateFaults.{refused, before, going_on, behind_end, faults_in, faults_owned, faults_headed, state_faults_of, has_head, is_state, first_of}

-- ---- the first one

first_if : {A : Type 0} (b : Bool) (fs gs : List StateFault) (r s : Result A StateFault) → first_of fs ≡ refused r → first_of gs ≡ refused s
    → first_of (cond b fs gs) ≡ refused (cond b r s)
first_if true fs gs r s one other = one
first_if false fs gs r s one other = other

first_behind : (starts : List Start) (entries : List (ℕ × List ℕ)) → first_of (map behind_end entries) ≡ refused (ended starts entries)
first_behind starts [] = refl
first_behind starts (e ∷ entries) = refl

first_in : (p : Progress) (entries : List (ℕ × List ℕ)) (end : ℕ) → first_of (faults_in p entries end) ≡ refused (starts_of p entries end)
unfolding faults_in starts_of
first_in p [] end = refl
first_in p (e ∷ entries) end =
    first_if (is_word e.1 (codes "end")) _ _ _ _ (first_behind (all_of p) entries)
    (by_line (λ q. first_in q entries end) (at_line e.0 (read_more p e.1)))
  where
    by_line : ((q : Progress) → first_of (faults_in q entries end) ≡ refused (starts_of q entries end)) → (r : Result Progress StateFault)
        → first_of (going_on r (left_by p e.1) (λ q. faults_in q entries end)) ≡ refused (r >>= λ q. starts_of q entries end)
    by_line later (Ok q) = later q
    by_line later (Err fault) = refl

refused-with_own : (own : Address) (r : Result (List Start) StateFault) → refused (with_own own r) ≡ refused r
refused-with_own own (Ok starts) = refl
refused-with_own own (Err fault) = refl

first_owned : (entries : List (ℕ × List ℕ)) (end : ℕ) → first_of (faults_owned entries end) ≡ refused (owned entries end)
unfolding faults_owned owned
first_owned [] end = refl
first_owned (e ∷ entries) end = by_own (at_line e.0 (by_roster (own_of e.1)))
  where
    by_own : (r : Result Address StateFault)
        → first_of (before (refused r) (faults_in no_meters entries end)) ≡ refused (r >>= λ own. with_own own (starts_of no_meters entries end))
    by_own (Ok own) = first_in no_meters entries end ∙ sym (refused-with_own own (starts_of no_meters entries end))
    by_own (Err fault) = refl

first_headed : (entries : List (ℕ × List ℕ)) (end : ℕ) (faults : List StateFault) (otherwise : Result Known StateFault)
    → first_of faults ≡ refused otherwise → first_of (faults_headed entries end faults) ≡ refused (headed entries end otherwise)
unfolding faults_headed headed
first_headed [] end faults otherwise same = same
first_headed (e ∷ entries) end faults otherwise same =
    first_if (is_word e.1 (codes "wmbus-state 1")) _ _ _ _ (first_owned entries end) same

-- a roster's first fault
abbrev fault_some : Option RosterFault → Option StateFault
fault_some None = None
fault_some (Some fault) = Some (by_fault fault)

first_map : (faults : List RosterFault) → first_of (map by_fault faults) ≡ fault_some (rosters.first_of faults)
first_map [] = refl
first_map (fault ∷ faults) = refl

refused_roster : (r : Result Enrolled RosterFault) → refused (of_roster r) ≡ fault_some (rosters.refused r)
refused_roster (Ok roster) = refl
refused_roster (Err fault) = refl

first_as_roster : (bytes : List ℕ) → first_of (map by_fault (rosters.faults_of bytes)) ≡ refused (of_roster (roster_of bytes))
first_as_roster bytes =
    first_map (rosters.faults_of bytes) ∙ ap fault_some (roster_refuses bytes) ∙ sym (refused_roster (roster_of bytes))

pub first_fault_refuses : (bytes : List ℕ) → first_of (state_faults_of bytes) ≡ refused (state_of bytes)
unfolding state_faults_of state_of
first_fault_refuses bytes =
    first_if (nat_lt 134217728 (length bytes)) _ _ _ _ refl
    (first_headed (entries_from 1 (lines bytes)) (length (lines bytes) + 1) (map by_fault (rosters.faults_of bytes)) (of_roster (roster_of bytes))
    (first_as_roster bytes))

-- ---- a text that hasn't the head of a state

headed_other : (entries : List (ℕ × List ℕ)) (end : ℕ) (faults : List StateFault) → has_head entries ≡ false
    → faults_headed entries end faults ≡ faults
unfolding faults_headed
headed_other [] end faults other = refl
headed_other (e ∷ entries) end faults other = cond-false _ _ _ other

long_roster : (bytes : List ℕ) → nat_lt 1048576 (length bytes) ≡ true → rosters.faults_of bytes ≡ faulty.Line 0 roster.TooLong ∷ []
unfolding rosters.faults_of
long_roster bytes long = cond-true _ _ _ long

pub others_are_rosters : (bytes : List ℕ) → is_state bytes ≡ false → state_faults_of bytes ≡ map by_fault (rosters.faults_of bytes)
unfolding state_faults_of is_state
others_are_rosters bytes other = by_length (nat_lt 134217728 (length bytes)) refl
  where
    by_length : (b : Bool) → nat_lt 134217728 (length bytes) ≡ b
        → cond b (Roster 0 roster.TooLong ∷ [])
        (faults_headed (entries_from 1 (lines bytes)) (length (lines bytes) + 1) (map by_fault (rosters.faults_of bytes)))
        ≡ map by_fault (rosters.faults_of bytes)
    by_length true long = let test : nat_lt 1048576 (length bytes) ≡ true = grind (arith, nat_tests) in sym (ap (map by_fault) (long_roster bytes test))
    by_length false short =
        headed_other (entries_from 1 (lines bytes)) (length (lines bytes) + 1) (map by_fault (rosters.faults_of bytes)) other

-- ---- line by line

-- a fault that isn't want of memory is the first one
pub named : {A : Type 0} (r : Result A StateFault) (fault : StateFault) → (fault ≡ Memory → ⊥) → IsFaultOf r fault → r ≡ Err fault
named r (Roster line cause) other is = is
named r (Line line cause) other is = is
named r Memory other is = absurd (other refl)

pub left_there : (fault : StateFault) (p q : Progress) → (fault ≡ Memory → ⊥) → (fault ≡ Memory) ⊎ (p ≡ q) → p ≡ q
left_there fault p q other (inl is) = absurd (other is)
left_there fault p q other (inr is) = is
