-- The exit statuses of a run.
use Rattle.std.proofs.Common.{◌≡◌, ℕ, true, false, List, Option, None, is_some, refl, sym, ap, ◌∙◌, subst, inl, inr, arith}
use Rattle.meter_address.specs.declared.address.Address.{Address}
use Rattle.meter_side_main.specs.declared.status.SideStatus.{SideStatus}
use Rattle.meter_side_main.specs.declared.status.SideStatus.TheVariants as statuses
use Rattle.meter_side_main.specs.Statuses.{code_of}
use Rattle.meter_side_main.specs.Run.{Run, address_in, IsCausedBy, IsRun}
use Rattle.program_words.specs.OwnTexts.{IsTold}
use Rattle.meter_side.specs.Exit.{IsRunExit}

-- a status that isn't that of faulty words
pub run_exit : (status : SideStatus) → (status ≡ statuses.Words → ⊥) → IsRunExit (code_of status)
run_exit statuses.Done other = (0, omega arith, refl)
run_exit statuses.Words other = absurd (other refl)
run_exit (statuses.Roster line cause) other = (1, omega arith, refl)
run_exit (statuses.State line cause) other = (1, omega arith, refl)
run_exit statuses.ReadRoster other = (2, omega arith, refl)
run_exit statuses.Read other = (3, omega arith, refl)
run_exit statuses.Write other = (4, omega arith, refl)
run_exit statuses.Cut other = (5, omega arith, refl)
run_exit statuses.Memory other = (6, omega arith, refl)
run_exit statuses.Uncommissioned other = (8, omega arith, refl)

pub told_exit : (unwritten status : ℕ) → unwritten ≡ 7 → IsTold unwritten status → IsRunExit status
told_exit unwritten status seven (inl is) = (0, omega arith, sym is)
told_exit unwritten status seven (inr is) = (4, omega arith, sym (is ∙ seven))

pub unopened_exit : (status : ℕ) → status ≡ 11 → IsRunExit status
unopened_exit status is = (7, omega arith, sym is)

-- the words name a meter or don't
named_or : (w : List (List ℕ)) (o : Option Address) → address_in w ≡ o → is_some (address_in w) ≡ true → address_in w ≡ None → ⊥
named_or w o e named none =
    let no : is_some (address_in w) ≡ false =
    ap (λ (x : Option Address). is_some x) none in absurd (let both : true ≡ false = sym named ∙ no in cc)

-- a run of words that name a meter doesn't end by their fault
pub exit_of : (run : Run) (code : ℕ) → code ≡ code_of run.status → IsRun run → is_some (address_in run.words) ≡ true → IsRunExit code
exit_of run code is h named =
    subst IsRunExit (sym is)
    (run_exit run.status (λ faulty. named_or run.words (address_in run.words) refl named (subst (IsCausedBy run) faulty h.status_caused)))
