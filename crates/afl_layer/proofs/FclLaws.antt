-- FCL of a header says what the header has, and what is written is read back.
use Rattle.std.proofs.Common.{◌≡◌, ℕ, ◌+◌, ◌*◌, ◌/◌, ◌%◌, ◌^◌, ◌<◌, ◌≤◌, Bool, true, false, cond, eqb, List, ◌++◌, length, is_some, Ok, refl, sym, ap, ◌∙◌, arith}
use Rattle.afl_layer.specs.declared.header.Afl.{Afl}
use Rattle.afl_layer.specs.Fields.{where_so, fcl_of}
use Rattle.afl_layer.specs.Header.{afl_bytes, Says, Fits, IsPlaced, afl_at}
use Rattle.afl_layer.proofs.HeaderLaws.{again}

-- a set bit as a number
abbrev one : Bool → ℕ
one b = cond b 1 0

bit_is : (b : Bool) (bit : ℕ) → where_so b bit ≡ one b * bit
bit_is true bit = omega arith
bit_is false bit = omega arith

one_most : (b : Bool) → one b ≤ 1
one_most true = omega arith
one_most false = omega arith

one_test : (b : Bool) → eqb (one b) 1 ≡ b
one_test true = refl
one_test false = refl

abbrev word : ℕ → ℕ → ℕ → ℕ → ℕ → ℕ → ℕ → ℕ
word more mcl ml mcr mac ki fid = more * 2 ^ 14 + (mcl * 2 ^ 13 + (ml * 2 ^ 12 + (mcr * 2 ^ 11 + (mac * 2 ^ 10 + (ki * 2 ^ 9 + fid)))))

record Bits (w more mcl ml mcr mac ki fid : ℕ) : Type 0 where
  more_is : w / 2 ^ 14 % 2 ≡ more
  mcl_is : w / 2 ^ 13 % 2 ≡ mcl
  ml_is : w / 2 ^ 12 % 2 ≡ ml
  mcr_is : w / 2 ^ 11 % 2 ≡ mcr
  mac_is : w / 2 ^ 10 % 2 ≡ mac
  ki_is : w / 2 ^ 9 % 2 ≡ ki
  fid_is : w % 2 ^ 8 ≡ fid
  below : w < 2 ^ 16

bits_of : (more mcl ml mcr mac ki fid : ℕ) → more ≤ 1 → mcl ≤ 1 → ml ≤ 1 → mcr ≤ 1 → mac ≤ 1 → ki ≤ 1 → fid < 2 ^ 8
    → Bits (word more mcl ml mcr mac ki fid) more mcl ml mcr mac ki fid
bits_of more mcl ml mcr mac ki fid a b c d e f g = record {
  more_is = omega arith;
  mcl_is = omega arith;
  ml_is = omega arith;
  mcr_is = omega arith;
  mac_is = omega arith;
  ki_is = omega arith;
  fid_is = omega arith;
  below = omega arith;
}

fcl_is : (a : Afl)
    → fcl_of a ≡ word (one a.more) (one (is_some a.mcl)) (one (is_some a.ml)) (one (is_some a.mcr)) (one (is_some a.mac))
    (one (is_some a.ki)) a.fid
unfolding fcl_of
fcl_is a =
    rw (
      bit_is a.more (2 ^ 14),
      bit_is (is_some a.mcl) (2 ^ 13),
      bit_is (is_some a.ml) (2 ^ 12),
      bit_is (is_some a.mcr) (2 ^ 11),
      bit_is (is_some a.mac) (2 ^ 10),
      bit_is (is_some a.ki) (2 ^ 9),
    ) refl

bits : (a : Afl) → a.fid < 2 ^ 8
    → Bits (fcl_of a) (one a.more) (one (is_some a.mcl)) (one (is_some a.ml)) (one (is_some a.mcr)) (one (is_some a.mac))
    (one (is_some a.ki)) a.fid
bits a fid =
    rw (fcl_is a) (bits_of _ _ _ _ _ _ a.fid (one_most a.more) (one_most (is_some a.mcl)) (one_most (is_some a.ml))
    (one_most (is_some a.mcr)) (one_most (is_some a.mac)) (one_most (is_some a.ki)) fid)

-- a set bit is read back
read_bit : (x : ℕ) (b : Bool) → x ≡ one b → b ≡ eqb x 1
read_bit x b same = sym (ap (λ (n : ℕ). eqb n 1) same ∙ one_test b)

says_of : (a : Afl) → a.fid < 2 ^ 8 → Says (fcl_of a) a
says_of a fid =
    let b = bits a fid in
    record {
      more = read_bit _ a.more b.more_is;
      fid = sym b.fid_is;
      mcl = read_bit _ (is_some a.mcl) b.mcl_is;
      ki = read_bit _ (is_some a.ki) b.ki_is;
      mcr = read_bit _ (is_some a.mcr) b.mcr_is;
      mac = read_bit _ (is_some a.mac) b.mac_is;
      ml = read_bit _ (is_some a.ml) b.ml_is;
    }

-- a header that was written is read back
pub written_again : (text rest : List ℕ) (a : Afl) (n : ℕ) → text ≡ afl_bytes (fcl_of a) a → n ≡ length (afl_bytes (fcl_of a) a) → Fits a
    → IsPlaced a
    → afl_at (text ++ rest) ≡ Ok (record a { len = n })
unfolding fcl_of
written_again text rest a n written len fits placed =
    again (text ++ rest) (record a { len = n }) (record {
      fcl = fcl_of a;
      rest = rest;
      word = (bits a fits.fid).below;
      parts = ap (λ (x : List ℕ). x ++ rest) written;
      says = says_of (record a { len = n }) fits.fid;
      fits = record { fid = fits.fid; ki = fits.ki; mcr = fits.mcr; mac = fits.mac; ml = fits.ml };
      placed = record { fields = placed.fields; fid = placed.fid };
      len = len;
    })
