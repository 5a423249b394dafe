-- The lines of a roster that count, line by line.
use Rattle.std.proofs.Common.{◌≡◌, ℕ, ◌+◌, List, [], ◌∷◌, true, false, not, cond, length, Result, Ok, refl, ap, ◌∙◌, arith}
use Rattle.std.specs.Prelude.{filter}
use Rattle.std.specs.List.{enumerate_from}
use Rattle.meter_address.specs.Commission.{Commissioned}
use Rattle.roster_file.specs.declared.fields.Version.{Version}
use Rattle.roster_file.specs.declared.roster.RosterFault.{RosterFault}
use Rattle.roster_file.specs.Roster.{entries_from, is_passed_over, enlisted_from, meters_of}
use Rattle.lists.specs.Steps.{◌>>=◌}

pub passed : (n : ℕ) (text : List ℕ) (texts : List (List ℕ)) → is_passed_over text ≡ true
    → entries_from n (text ∷ texts) ≡ entries_from (n + 1) texts
unfolding entries_from
passed n text texts h = let rest = filter (λ e. not (is_passed_over e.1)) (enumerate_from (n + 1) texts) in
    ap (λ b. cond (not b) ((n, text) ∷ rest) rest) h

pub counted : (n : ℕ) (text : List ℕ) (texts : List (List ℕ)) → is_passed_over text ≡ false
    → entries_from n (text ∷ texts) ≡ (n, text) ∷ entries_from (n + 1) texts
unfolding entries_from
counted n text texts h = let rest = filter (λ e. not (is_passed_over e.1)) (enumerate_from (n + 1) texts) in
    ap (λ b. cond (not b) ((n, text) ∷ rest) rest) h

pub none_left : (n : ℕ) → entries_from n [] ≡ []
unfolding entries_from
none_left n = refl

pub one_fewer : (text : List ℕ) (lines texts : List (List ℕ)) → lines ≡ text ∷ texts → length lines ≡ length texts + 1
one_fewer text lines texts h = ap length h ∙ (omega arith)

-- meters, line by line
pub meters_by : (version : Version) (meters : List Commissioned) (r : Result (List Commissioned) RosterFault) (e : ℕ × List ℕ)
    (entries : List (ℕ × List ℕ)) → enlisted_from version meters e ≡ r
    → meters_of version meters (e ∷ entries) ≡ (r >>= λ next. meters_of version next entries)
unfolding meters_of
meters_by version meters r e entries h = ap (λ s. s >>= λ next. meters_of version next entries) h

pub meters_end : (version : Version) (meters : List Commissioned) → meters_of version meters [] ≡ Ok meters
unfolding meters_of
meters_end version meters = refl
