-- The first of all faulty lines.
use Rattle.std.proofs.Common.{◌≡◌, ℕ, ◌+◌, Bool, true, false, cond, List, [], ◌∷◌, length, Option, Some, None, Result, Ok, Err, refl, sym, ap, ◌∙◌, nat_lt}
use Rattle.std.specs.Option.{ok_or, unwrap_or}
use Rattle.std.specs.Str.Lines.{lines}
use Rattle.lists.specs.Steps.{◌>>=◌}
use Rattle.meter_address.specs.declared.address.Address.{Address}
use Rattle.meter_address.specs.Commission.{Commissioned}
use Rattle.roster_file.specs.declared.fields.Version.{Version}
use Rattle.roster_file.specs.declared.fields.Version.TheVariants.{Two}
use Rattle.roster_file.specs.declared.roster.LineCause.TheVariants as causes
use Rattle.roster_file.specs.declared.roster.RosterFault.{RosterFault}
use Rattle.roster_file.specs.declared.roster.RosterFault.TheVariants.{Line}
use Rattle.roster_file.specs.Roster.{at_line, enlisted_from, meters_of, with_own, owned, headed, own_of, head_of, entries_from, roster_of}
use Rattle.input_check.specs.RosterFaults.{refused, before, going_on, faults_in, faults_owned, faults_headed, faults_of, first_of}

first_in : (version : Version) (meters : List Commissioned) (entries : List (ℕ × List ℕ))
    → first_of (faults_in version meters entries) ≡ refused (meters_of version meters entries)
unfolding faults_in meters_of
first_in version meters [] = refl
first_in version meters (e ∷ entries) = by_line (λ more. first_in version more entries) (enlisted_from version meters e)
  where
    by_line : ((more : List Commissioned) → first_of (faults_in version more entries) ≡ refused (meters_of version more entries))
        → (r : Result (List Commissioned) RosterFault)
        → first_of (going_on r meters (λ next. faults_in version next entries)) ≡ refused (r >>= λ more. meters_of version more entries)
    by_line later (Ok more) = later more
    by_line later (Err fault) = refl

refused-with_own : (own : Address) (r : Result (List Commissioned) RosterFault) → refused (with_own own r) ≡ refused r
refused-with_own own (Ok meters) = refl
refused-with_own own (Err fault) = refl

first_owned : (version : Version) (entries : List (ℕ × List ℕ)) (end : ℕ)
    → first_of (faults_owned version entries end) ≡ refused (owned version entries end)
unfolding faults_owned owned
first_owned version [] end = refl
first_owned version (e ∷ entries) end = by_own (at_line e.0 (own_of e.1))
  where
    by_own : (r : Result Address RosterFault)
        → first_of (before (refused r) (faults_in version [] entries)) ≡ refused (r >>= λ own. with_own own (meters_of version [] entries))
    by_own (Ok own) = first_in version [] entries ∙ sym (refused-with_own own (meters_of version [] entries))
    by_own (Err fault) = refl

first_headed : (entries : List (ℕ × List ℕ)) (end : ℕ) → first_of (faults_headed entries end) ≡ refused (headed entries end)
unfolding faults_headed headed
first_headed [] end = refl
first_headed (e ∷ entries) end = by_head (head_of e.1)
  where
    by_head : (head : Option Version)
        → first_of (before (refused (at_line e.0 (ok_or head causes.Head))) (faults_owned (unwrap_or head Two) entries end))
        ≡ refused (at_line e.0 (ok_or head causes.Head) >>= λ version. owned version entries end)
    by_head (Some version) = first_owned version entries end
    by_head None = refl

pub first_fault_refuses : (bytes : List ℕ) → first_of (faults_of bytes) ≡ refused (roster_of bytes)
unfolding faults_of roster_of
first_fault_refuses bytes = by_length (nat_lt 1048576 (length bytes))
  where
    by_length : (b : Bool)
        → first_of (cond b (Line 0 causes.TooLong ∷ []) (faults_headed (entries_from 1 (lines bytes)) (length (lines bytes) + 1)))
        ≡ refused (cond b (Err (Line 0 causes.TooLong)) (headed (entries_from 1 (lines bytes)) (length (lines bytes) + 1)))
    by_length true = refl
    by_length false = first_headed (entries_from 1 (lines bytes)) (length (lines bytes) + 1)

-- ---- line by line

pub faults_by : (version : Version) (meters : List Commissioned) (r : Result (List Commissioned) RosterFault) (e : ℕ × List ℕ)
    (entries : List (ℕ × List ℕ)) → enlisted_from version meters e ≡ r
    → faults_in version meters (e ∷ entries) ≡ going_on r meters (λ next. faults_in version next entries)
unfolding faults_in
faults_by version meters r e entries h = ap (λ s. going_on s meters (λ next. faults_in version next entries)) h

pub faults_end : (version : Version) (meters : List Commissioned) → faults_in version meters [] ≡ []
unfolding faults_in
faults_end version meters = refl
