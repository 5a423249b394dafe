use Rattle.std.proofs.Common.{◌≡◌, ℕ, ◌≤◌, ◌==◌, ◌||◌, ◌&&◌, Bool, true, false, ap, arith}
use Rattle.std.specs.Prelude.{nat_le}
use Rattle.std.proofs.lemmas.Bool.Decides.{nat_tests}
use Rattle.afl_fragments.specs.Fragment.{Fragment}
use Rattle.afl_fragments.proofs.part.Part.afl.Goals as goal

-- a fragment is numbered from 1
from_one : (more : Bool) (fid : ℕ) → (more || nat_le 2 fid) ≡ true → (more && (fid == 0)) ≡ false → 1 ≤ fid
from_one more fid f u = grind (arith, nat_tests)

pub returns-clause-first : goal.returns-clause-first
returns-clause-first c =
    let header = c.self.inside.afl in
    omega (
      arith,
      ap (λ (p : Fragment). p.afl.fid) c.self.view_is,
      from_one header.more header.fid c.self.invariant.1.fragment c.self.invariant.1.numbered,
    )
