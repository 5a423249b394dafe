-- A CMAC is a block: 16 bytes.
use Rattle.std.proofs.Common.{◌≡◌, ℕ, zero, suc, ◌-◌, ◌*◌, ◌<◌, ◌≤◌, List, [], ◌∷◌, length, drop, replicate, refl, inl, inr, arith}
use Rattle.std.proofs.lemmas.Bool.{cases_lt}
use Rattle.std.proofs.lemmas.List.{length-append, length-drop, length-replicate}
use Rattle.std.proofs.lemmas.List.Elements.{All-nil, All-cons, All-head, All-tail, All-append, All-drop, All-replicate}
use Rattle.std.specs.List.{All}
use Rattle.std.specs.Int.{byte_at, bytes_high_first}
use Rattle.aes_block.proofs.Lists.{AreBytes}
use Rattle.aes_block.proofs.Cipher.{IsBlock-add, IsBlock-encrypt}
use Rattle.aes_block.specs.Block.{IsBlock, add, encrypt}
use Rattle.cbc_cmac.specs.Cbc.{first_blocks}
use Rattle.cbc_cmac.specs.Mac.{doubled, zeros, padded, masked, chain, before_last, cmac}
use Rattle.cbc_cmac.proofs.Blocks.{are_blocks}
use Rattle.cbc_cmac.proofs.Macs.{masked_whole, masked_short}

-- the bytes of a number
byte_at-lt : (i n : ℕ) → byte_at i n < 256
byte_at-lt zero n = omega arith
byte_at-lt (suc i) n = omega arith

pub AreBytes-bytes_high_first : (k n : ℕ) → AreBytes (bytes_high_first k n)
AreBytes-bytes_high_first zero n = All-nil (λ b. b < 256)
AreBytes-bytes_high_first (suc k) n =
    All-cons (λ b. b < 256) (byte_at k n) (bytes_high_first k n) (byte_at-lt k n) (AreBytes-bytes_high_first k n)

pub IsBlock-doubled : (b : List ℕ) → IsBlock (doubled b)
unfolding doubled
IsBlock-doubled b = record { count = refl; bytes = AreBytes-bytes_high_first 16 _ }

IsBlock-zeros : IsBlock zeros
IsBlock-zeros = record { count = refl; bytes = All-replicate (λ b. b < 256) 16 0 (omega arith) }

IsBlock-padded : (b : List ℕ) → length b < 16 → AreBytes b → IsBlock (padded b)
IsBlock-padded b short h =
    let P : ℕ → Type 0 = λ x. x < 256 in
    let fill : List ℕ = replicate (15 - length b) 0 in record {
      count = omega (arith, length-append b (0x80 ∷ fill), length-replicate {A = ℕ} (15 - length b) 0);
      bytes = All-append P b (0x80 ∷ fill) h (All-cons P 0x80 fill (omega arith) (All-replicate P (15 - length b) 0 (omega arith)));
    }

IsBlock-masked : (key b : List ℕ) → length b ≤ 16 → AreBytes b → IsBlock (masked key b)
IsBlock-masked key b few h = elim (cases_lt (length b) 16) [
  | inl short ↦ rw (masked_short key b short) (IsBlock-add _ _ (IsBlock-padded b short h) (IsBlock-doubled _))
  | inr long ↦
      let whole : length b ≡ 16 = omega arith in
      rw (masked_whole key b whole) (IsBlock-add b _ (record { count = whole; bytes = h }) (IsBlock-doubled _))
]

IsBlock-chain : (key x : List ℕ) (bs : List (List ℕ)) → IsBlock key → IsBlock x → All IsBlock bs → IsBlock (chain key x bs)
unfolding chain
IsBlock-chain key x [] hk hx hb = hx
IsBlock-chain key x (b ∷ bs) hk hx hb =
    let next : IsBlock (encrypt key (add x b)) = IsBlock-encrypt key hk (add x b) (IsBlock-add x b hx (All-head IsBlock b bs hb)) in
    IsBlock-chain key (encrypt key (add x b)) bs hk next (All-tail IsBlock b bs hb)

pub IsBlock-cmac : (key m : List ℕ) → IsBlock key → AreBytes m → IsBlock (cmac key m)
unfolding cmac
IsBlock-cmac key m hk hm =
    let n : ℕ = before_last m in
    let last : List ℕ = drop (16 * n) m in
    let whole : 16 * n ≤ length m = omega arith in
    let few : length last ≤ 16 = omega (arith, length-drop (16 * n) m) in
    IsBlock-encrypt key hk _
    (IsBlock-add _ _ (IsBlock-chain key zeros (first_blocks n m) hk IsBlock-zeros (are_blocks n m whole hm))
    (IsBlock-masked key last few (All-drop (λ b. b < 256) (16 * n) m hm)))
