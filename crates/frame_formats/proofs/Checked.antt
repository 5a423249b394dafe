-- Blocks that are followed by their CRCs, and pieces that hold them.
use Rattle.std.proofs.Common.{◌≡◌, ℕ, zero, suc, ◌+◌, ◌-◌, ◌*◌, ◌/◌, ◌%◌, ◌<◌, ◌≤◌, List, [], ◌∷◌, ◌++◌, length, take, drop, get_or, eqb, Ok, refl, sym, ◌∙◌, ap, subst, arith, append_assoc, length-append, length-drop, add-zero, eq-eqb}
use Rattle.std.proofs.lemmas.List.{take_at, get_or_at, get_or_append_left, take-append-drop, length-take, get_or-drop}
use Rattle.std.proofs.lemmas.Bool.{eqb-true, cond-true}
use Rattle.lists.proofs.Choices.{guard_ok_if}
use Rattle.std.specs.List.{flat_map, concat}
use Rattle.frame_formats.specs.Crc.{crc_of, IsBytes}
use Rattle.frame_formats.specs.Frames.{AreChecked}
use Rattle.frame_formats.specs.Decoding.{with_crc, block_of}
use Rattle.frame_formats.proofs.Division.{is_crc, same_crc}

pub bytes-take : (n : ℕ) (l : List ℕ) → IsBytes l → IsBytes (take n l)
bytes-take zero l all = tt
bytes-take (suc n) [] all = tt
bytes-take (suc n) (b ∷ l) all = (all.0, bytes-take n l all.1)

pub bytes-drop : (n : ℕ) (l : List ℕ) → IsBytes l → IsBytes (drop n l)
bytes-drop zero l all = all
bytes-drop (suc n) [] all = tt
bytes-drop (suc n) (b ∷ l) all = bytes-drop n l all.1

pub bytes-append : (k l : List ℕ) → IsBytes (k ++ l) → IsBytes k × IsBytes l
bytes-append [] l all = (tt, all)
bytes-append (b ∷ k) l all = let rest = bytes-append k l all.1 in ((all.0, rest.0), rest.1)

pub bytes_joined : (k l : List ℕ) → IsBytes k → IsBytes l → IsBytes (k ++ l)
bytes_joined [] l ks ls = ls
bytes_joined (b ∷ k) l ks ls = (ks.0, bytes_joined k l ks.1 ls)

pub byte_at : (l : List ℕ) (i : ℕ) → IsBytes l → get_or l i 0 < 256
byte_at [] i all = omega arith
byte_at (b ∷ l) zero all = all.0
byte_at (b ∷ l) (suc i) all = byte_at l i all.1

pub bytes_same : (k l : List ℕ) → k ≡ l → IsBytes k → IsBytes l
bytes_same k l same all = let P : List ℕ → Type 0 = λ x. IsBytes x in subst P same all

-- what is followed by its CRC is what the definition computes
pub checked_is : (blocks : List (List ℕ)) (bytes : List ℕ) → IsBytes bytes → AreChecked blocks bytes → bytes ≡ flat_map with_crc blocks
checked_is [] bytes all is = is
checked_is (b ∷ blocks) bytes all is =
    let parts = bytes-append b (is.0 / 256 ∷ is.0 % 256 ∷ is.1) (bytes_same _ _ is.3 all)
    in let same : is.0 ≡ crc_of b = same_crc b is.0 (crc_of b) is.2 (is_crc b parts.0)
    in let rest : is.1 ≡ flat_map with_crc blocks = checked_is blocks is.1 parts.1.1.1 is.4
    in is.3 ∙ ap (λ c. b ++ c / 256 ∷ c % 256 ∷ is.1) same ∙ ap (λ x. b ++ crc_of b / 256 ∷ crc_of b % 256 ∷ x) rest
    ∙ sym (append_assoc b (crc_of b / 256 ∷ crc_of b % 256 ∷ []) (flat_map with_crc blocks))

-- and the other way round
pub is_checked : (blocks : List (List ℕ)) → IsBytes (concat blocks) → AreChecked blocks (flat_map with_crc blocks)
is_checked [] all = refl
is_checked (b ∷ blocks) all =
    let parts = bytes-append b (concat blocks) all
    in (
      crc_of b,
      flat_map with_crc blocks,
      is_crc b parts.0,
      append_assoc b (crc_of b / 256 ∷ crc_of b % 256 ∷ [])
          (flat_map with_crc blocks),
      is_checked blocks parts.1,
    )

-- the content of bytes is bytes
pub content_bytes : (blocks : List (List ℕ)) → IsBytes (flat_map with_crc blocks) → IsBytes (concat blocks)
content_bytes [] all = tt
content_bytes (b ∷ blocks) all =
    let parts = bytes-append (with_crc b) (flat_map with_crc blocks) all
    in let here = bytes-append b (crc_of b / 256 ∷ crc_of b % 256 ∷ []) parts.0
    in bytes_joined b (concat blocks) here.0 (content_bytes blocks parts.1)

two : (l : List ℕ) → length l ≡ 2 → l ≡ get_or l 0 0 ∷ get_or l 1 0 ∷ []
two [] is = cc
two (a ∷ []) is = absurd (omega arith)
two (a ∷ b ∷ []) is = refl
two (a ∷ b ∷ c ∷ l) is = absurd (omega arith)

-- bytes that are blocks with their CRCs
pub checked_by : (blocks : List (List ℕ)) (bytes : List ℕ) → IsBytes bytes → bytes ≡ flat_map with_crc blocks → AreChecked blocks bytes
checked_by blocks bytes all is =
    let P : List ℕ → Type 0 = λ x. AreChecked blocks x
    in subst P (sym is) (is_checked blocks (content_bytes blocks (bytes_same _ _ is all)))

-- bytes begin as what stands in front of them
pub same_head : (bytes first rest : List ℕ) → bytes ≡ first ++ rest → 0 < length first → get_or first 0 0 ≡ get_or bytes 0 0
same_head bytes first rest is some = sym (get_or_append_left first rest 0 0 some) ∙ ap (λ x. get_or x 0 0) (sym is)

-- a number of two bytes in its parts
parted : (block : List ℕ) (c hi lo : ℕ) → c ≡ hi * 256 + lo → lo < 256 → block ++ hi ∷ lo ∷ [] ≡ block ++ c / 256 ∷ c % 256 ∷ []
parted block c hi lo is low =
    let high : hi ≡ c / 256 = omega arith
    in let rest : lo ≡ c % 256 = omega arith
    in ap (λ x. block ++ x ∷ lo ∷ []) high ∙ ap (λ x. block ++ c / 256 ∷ x ∷ []) rest

-- a block that was read is followed by its CRC
pub block_found : (n : ℕ) (piece block : List ℕ) → IsBytes piece → 2 ≤ length piece → block_of n piece ≡ Ok block
    → (piece ≡ with_crc block) × (length block + 2 ≡ length piece)
unfolding block_of
block_found n piece block all some is =
    let size : ℕ = length piece - 2
    in let g = guard_ok_if (eqb (crc_of (take size piece)) (get_or piece size 0 * 256 + get_or piece (size + 1) 0)) _ _ _ is
    in let read : Ok (take size piece) ≡ Ok block = g.1
    in let same : take size piece ≡ block = cc
    in let last : drop size piece ≡ get_or piece size 0 ∷ get_or piece (size + 1) 0 ∷ [] =
    two (drop size piece) (omega (arith, length-drop size piece))
    ∙ ap (λ x. x ∷ get_or (drop size piece) 1 0 ∷ []) (get_or-drop size piece 0 0 ∙ ap (λ k. get_or piece k 0) (add-zero size))
    ∙ ap (λ x. get_or piece size 0 ∷ x ∷ []) (get_or-drop size piece 1 0)
    in (
      sym (take-append-drop size piece) ∙ ap (λ x. take size piece ++ x) last
          ∙ parted (take size piece) (crc_of (take size piece)) _ _ (eqb-true _ _ g.0) (byte_at piece (size + 1) all) ∙ ap with_crc same,
      omega (arith, ap length same, length-take size piece),
    )

pub length-with_crc : (b : List ℕ) → length (with_crc b) ≡ length b + 2
length-with_crc b = length-append b (crc_of b / 256 ∷ crc_of b % 256 ∷ [])

-- a block before its CRC is read
pub block_again : (n : ℕ) (b : List ℕ) → block_of n (with_crc b) ≡ Ok b
unfolding block_of
block_again n b =
    let c : ℕ = crc_of b
    in let piece : List ℕ = b ++ c / 256 ∷ c % 256 ∷ []
    in let size : length piece - 2 ≡ length b = omega (arith, length-append b (c / 256 ∷ c % 256 ∷ []))
    in let front : take (length piece - 2) piece ≡ b = ap (λ k. take k piece) size ∙ take_at b _ _ refl
    in let hi : get_or piece (length piece - 2) 0 ≡ c / 256 =
    ap (λ k. get_or piece k 0) size ∙ get_or_at b (c / 256) (c % 256 ∷ []) 0 (length b) refl
    in let lo : get_or piece (length piece - 2 + 1) 0 ≡ c % 256 =
    ap (λ k. get_or piece (k + 1) 0) size ∙ ap (λ x. get_or x (length b + 1) 0) (sym (append_assoc b (c / 256 ∷ []) (c % 256 ∷ [])))
    ∙ get_or_at (b ++ c / 256 ∷ []) (c % 256) [] 0 (length b + 1) (length-append b (c / 256 ∷ []))
    in cond-true _ _ _ (eq-eqb _ _ (ap crc_of front ∙ omega (arith, hi, lo))) ∙ ap Ok front
