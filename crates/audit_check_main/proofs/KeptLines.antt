-- What was kept of some lines tells the same when more bytes stand behind theirs.
use Rattle.std.proofs.Common.{◌≡◌, ℕ, ◌+◌, ◌≤◌, ◌<◌, ◌^◌, List, [], ◌∷◌, ◌++◌, map, length, take, drop, refl, sym, ap, ap₂, ◌∙◌, subst, ◌⊎◌, inl, inr}
use Rattle.std.proofs.Common.{arith, length-append, append_assoc}
use Rattle.std.proofs.lemmas.List.{take-append-le, drop-append-le, length-drop, map-append}
use Rattle.std.proofs.Math.Seq.{drop-append_seam, take-length, take-append_seam}
use Rattle.message_check.specs.Target.{target_of}
use Rattle.meter_address.specs.declared.address.Address.{Address}
use Rattle.byteorder.specs.Endian.{big_bytes}
use Rattle.byteorder.specs.Numbers.{big_number-reads_back, length-bytes_high_first}
use Rattle.lists.specs.Each.{Each}
use Rattle.lists.proofs.Members.{each_map, each_push}
use Rattle.audit_check_main.specs.declared.kept.Kind.{Kind}
use Rattle.audit_check_main.specs.declared.kept.Kind.TheVariants as kinds
use Rattle.audit_check_main.specs.declared.kept.KeptLine.{KeptLine}
use Rattle.audit_check_main.specs.declared.whose.Whose.TheVariants as whose
use Rattle.audit_check_main.specs.Hearing.{whose_told}
use Rattle.audit_check_main.specs.Kept.{FitsKind, part_of, bytes_in, told_again, told_in, told_kept, IsKept}

-- ---- parts of bytes, and more bytes

part-longer : (bytes more : List ℕ) (start len : ℕ) → start + len ≤ length bytes
    → part_of (bytes ++ more) start len ≡ part_of bytes start len
part-longer bytes more start len within =
    let left = length-drop start bytes in
    ap (take len) (drop-append-le start bytes more (omega arith)) ∙ take-append-le len (drop start bytes) more (omega arith)

part-last : (bytes more : List ℕ) (start len : ℕ) → start ≡ length bytes → len ≡ length more → part_of (bytes ++ more) start len ≡ more
part-last bytes more start len begins ends =
    (λ i. take (ends i) (drop (begins i) (bytes ++ more)))
    ∙ (ap (take (length more)) (drop-append_seam bytes more) ∙ take-length more)

told-longer : (bytes more : List ℕ) (line : KeptLine) → IsKept bytes line → told_kept (bytes ++ more) line ≡ told_kept bytes line
told-longer bytes more line kept = ap (told_in line) (part-longer bytes more line.start line.len kept.within)

kept-longer : (bytes more : List ℕ) (line : KeptLine) → IsKept bytes line → IsKept (bytes ++ more) line
kept-longer bytes more line kept = record {
  within = let l = length-append bytes more in let w = kept.within in omega arith;
  least = kept.least;
  most = kept.most;
  wide = kept.wide;
  fits = subst (λ part. FitsKind line.kind (bytes_in line.width part)) (sym (part-longer bytes more line.start line.len kept.within))
      kept.fits;
}

-- ---- all lines

all-longer : (bytes more : List ℕ) (ls : List KeptLine) → Each (IsKept bytes) ls
    → map (told_kept (bytes ++ more)) ls ≡ map (told_kept bytes) ls
all-longer bytes more [] h = refl
all-longer bytes more (line ∷ ls) h = (λ i. told-longer bytes more line h.0 i ∷ all-longer bytes more ls h.1 i)

pub each-still : (bytes more : List ℕ) (ls : List KeptLine) → Each (IsKept bytes) ls → Each (IsKept (bytes ++ more)) ls
each-still bytes more ls before = each_map (IsKept bytes) (IsKept (bytes ++ more)) (kept-longer bytes more) ls before

-- ---- a number in front of a line's bytes

number-in-front : (width number : ℕ) (room : List ℕ) → take width (big_bytes width number ++ room) ≡ big_bytes width number
number-in-front width number room =
    ap (λ n. take n (big_bytes width number ++ room)) (sym (length-bytes_high_first width number))
    ∙ take-append_seam (big_bytes width number) room

-- what stands behind some bytes after a number, which was written into a room, and more bytes
pub number-put : (width number : ℕ) (bytes more room rest with_number new : List ℕ) → room ≡ big_bytes width number ++ rest
    → with_number ≡ bytes ++ take width room → new ≡ with_number ++ more → new ≡ bytes ++ (big_bytes width number ++ more)
number-put width number bytes more room rest with_number new written put then =
    then
    ∙ ap (λ all. all ++ more) (put ∙ ap (λ front. bytes ++ front) (ap (take width) written ∙ number-in-front width number rest))
    ∙ append_assoc bytes (big_bytes width number) more

bytes-behind : (width number : ℕ) (bytes : List ℕ) → drop width (big_bytes width number ++ bytes) ≡ bytes
bytes-behind width number bytes =
    ap (λ n. drop n (big_bytes width number ++ bytes)) (sym (length-bytes_high_first width number))
    ∙ drop-append_seam (big_bytes width number) bytes

-- one line more, whose number and bytes stand behind the others
module _ (bytes more : List ℕ) (number : ℕ) (ls : List KeptLine) (line : KeptLine) (before : Each (IsKept bytes) ls)
    (begins : line.start ≡ length bytes) (ends : line.len ≡ line.width + length more) (least : 1 ≤ line.width) (most : line.width ≤ 8)
    (narrow : number < 256 ^ line.width) where
  abbrev part : List ℕ
  part = big_bytes line.width number ++ more

  part-long : line.len ≡ length part
  part-long =
      ends ∙ ap (λ n. n + length more) (sym (length-bytes_high_first line.width number))
      ∙ sym (length-append (big_bytes line.width number) more)

  pub each-next : FitsKind line.kind more → Each (IsKept (bytes ++ part)) (ls ++ line ∷ [])
  each-next fits = each_push (IsKept (bytes ++ part)) ls line
      (each_map (IsKept bytes) (IsKept (bytes ++ part)) (kept-longer bytes part) ls before) (record {
        within = let l = length-append bytes part in let p = part-long in omega arith;
        least = least;
        most = most;
        wide = omega arith;
        fits = subst (λ p. FitsKind line.kind (bytes_in line.width p)) (sym (part-last bytes part line.start line.len begins part-long))
            (subst (FitsKind line.kind) (sym (bytes-behind line.width number more)) fits);
      })

  pub told-next : map (told_kept (bytes ++ part)) (ls ++ line ∷ []) ≡ map (told_kept bytes) ls ++ told_again line.kind number more ∷ []
  told-next =
      map-append (told_kept (bytes ++ part)) ls (line ∷ [])
      ∙ ap₂ (λ before told. before ++ told ∷ []) (all-longer bytes part ls before)
      (ap (told_in line) (part-last bytes part line.start line.len begins part-long)
      ∙ ap₂ (told_again line.kind) (big_number-reads_back line.width number more narrow) (bytes-behind line.width number more))

-- whose line a telegram is, in either format
pub whose_heard : (kind : Kind) (number : ℕ) (bytes : List ℕ) (meter : Address) → meter ≡ target_of bytes
    → (kind ≡ kinds.HearA) ⊎ (kind ≡ kinds.HearB) → whose.Meter meter ≡ whose_told (told_again kind number bytes)
whose_heard kind number bytes meter e (inl a) =
    subst (λ k. whose.Meter meter ≡ whose_told (told_again k number bytes)) (sym a) (ap whose.Meter e)
whose_heard kind number bytes meter e (inr b) =
    subst (λ k. whose.Meter meter ≡ whose_told (told_again k number bytes)) (sym b) (ap whose.Meter e)
