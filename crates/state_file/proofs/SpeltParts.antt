-- A fragment that is spelled is shorter than the room for it.
use Rattle.std.proofs.Common.{◌≡◌, ℕ, ◌+◌, ◌≤◌, ◌&&◌, ◌||◌, nat_le, Bool, true, false, List, ◌++◌, length, take, Some, ap, arith, length-append}
use Rattle.std.specs.Prelude.{is_some}
use Rattle.std.specs.Int.{w16, w32, to_le_bytes}
use Rattle.std.proofs.lemmas.List.{length-take}
use Rattle.afl_layer.specs.declared.header.Afl.{Afl}
use Rattle.afl_layer.specs.Fields.{fcl_of, where_so, one_byte, field_bytes, fields_bytes}
use Rattle.afl_layer.specs.Header.{afl_bytes, Fits}
use Rattle.afl_layer.proofs.FieldLaws.{itself, length-one, length-two, length-four, length-eight}
use Rattle.afl_fragments.specs.Fragment.{Fragment, IsFragment}
use Rattle.state_file.specs.Text.{spelt}

most : (b : Bool) (n : ℕ) → where_so b n ≤ n
most true n = omega arith
most false n = omega arith

all_five : (more later : Bool) → ((more && true) || (later && true)) ≡ false → (more || later) ≡ true → ⊥
all_five true later placed is = cc
all_five false true placed is = cc
all_five false false placed is = cc

-- a fragment hasn't all fields
some_missing : (more later mcl ki mcr mac ml : Bool) → ((more && mac) || (later && ((mcl || ki) || (mcr || ml)))) ≡ false → (more || later) ≡ true
    → where_so mcl 1 + (where_so ki 2 + (where_so mcr 4 + (where_so mac 8 + where_so ml 2))) ≤ 16
some_missing more later false ki mcr mac ml placed is =
    let k = most ki 2 in let r = most mcr 4 in let c = most mac 8 in let l = most ml 2 in omega arith
some_missing more later true false mcr mac ml placed is = let r = most mcr 4 in let c = most mac 8 in let l = most ml 2 in omega arith
some_missing more later true true false mac ml placed is = let c = most mac 8 in let l = most ml 2 in omega arith
some_missing more later true true true false ml placed is = let l = most ml 2 in omega arith
some_missing more later true true true true false placed is = omega arith
some_missing more later true true true true true placed is = absurd (all_five more later placed is)

fields_few : (a : Afl) → IsFragment a → Fits a → length (fields_bytes a) ≤ 16
fields_few a is fits =
    let m = field_bytes one_byte a.mcl in
    let k = field_bytes (to_le_bytes w16) a.ki in
    let r = field_bytes (to_le_bytes w32) a.mcr in
    let c = field_bytes itself a.mac in
    let l = field_bytes (to_le_bytes w16) a.ml in
    let few =
    some_missing a.more (nat_le 2 a.fid) (is_some a.mcl) (is_some a.ki) (is_some a.mcr) (is_some a.mac) (is_some a.ml) is.placed
    is.fragment in
    omega (
      arith,
      few,
      length-append m (k ++ (r ++ (c ++ l))),
      length-append k (r ++ (c ++ l)),
      length-append r (c ++ l),
      length-append c l,
      length-one a.mcl,
      length-two a.ki,
      length-four a.mcr,
      length-eight a.mac fits.mac,
      length-two a.ml,
    )

short : (part : Fragment) → IsFragment part.afl → Fits part.afl → length part.bytes ≤ 242 → length (spelt part) ≤ 262
short part is fits few =
    let header = length-append (to_le_bytes w16 (fcl_of part.afl)) (fields_bytes part.afl) in
    let two = length-two (Some (fcl_of part.afl)) in
    let fields = fields_few part.afl is fits in
    let all = length-append (afl_bytes (fcl_of part.afl) part.afl) part.bytes in
    omega arith

-- where first bytes of the room are the fragment's, they are within it, and as many
pub room : (part : Fragment) (out : List ℕ) (n : ℕ) → IsFragment part.afl → Fits part.afl → length part.bytes ≤ 242 → take n out ≡ spelt part
    → length out ≡ 263 → (n ≤ length out) × (n ≡ length (take n out))
room part out n is fits few text long =
    let all = short part is fits few in let front = ap length text in let count = length-take n out in (omega arith, omega arith)
