-- A telegram has one frame of format A, which is read back.
use Rattle.std.proofs.Common.{◌≡◌, ℕ, zero, suc, ◌+◌, ◌-◌, ◌/◌, ◌%◌, ◌≤◌, List, [], ◌∷◌, ◌++◌, length, take, drop, refl, sym, ◌∙◌, ap, arith, length-append, append-nil}
use Rattle.std.proofs.lemmas.List.{take_all, take_at, drop_at}
use Rattle.std.specs.List.{flat_map, concat}
use Rattle.frame_formats.specs.Crc.{IsBytes, crc_of}
use Rattle.frame_formats.specs.Frames.{AreSixteens, FrameA}
use Rattle.frame_formats.specs.Decoding.{with_crc, cut, frame_a}
use Rattle.frame_formats.specs.Laws.{OneFrameA}
use Rattle.frame_formats.proofs.Checked.{bytes-take, bytes-drop, bytes_joined, checked_is}
use Rattle.frame_formats.proofs.Pieces.{cut_none}
use Rattle.frame_formats.proofs.RelationA.{only as only_a, blocks_len}
use Rattle.frame_formats.proofs.Writing.{is_frame}

-- a block and its CRC are bytes
with_crc_bytes : (block : List ℕ) → IsBytes block → IsBytes (with_crc block)
unfolding crc_of
with_crc_bytes block all = bytes_joined block (crc_of block / 256 ∷ crc_of block % 256 ∷ []) all (omega arith, (omega arith, tt))

checked_bytes : (k : ℕ) (bytes : List ℕ) → IsBytes bytes → IsBytes (flat_map with_crc (cut k 16 bytes))
unfolding cut
checked_bytes zero bytes all = tt
checked_bytes (suc k) bytes all =
    bytes_joined (with_crc (take 16 bytes)) _ (with_crc_bytes (take 16 bytes) (bytes-take 16 bytes all))
    (checked_bytes k (drop 16 bytes) (bytes-drop 16 bytes all))

frame_bytes : (t : List ℕ) → IsBytes t → IsBytes (frame_a t)
unfolding frame_a
frame_bytes t all =
    bytes_joined (with_crc (take 10 t)) _ (with_crc_bytes (take 10 t) (bytes-take 10 t all))
    (checked_bytes ((length t - 10 + 15) / 16) (drop 10 t) (bytes-drop 10 t all))

-- blocks of 16 are what their content is cut into
one_cut : (k : ℕ) (b rest bytes : List ℕ) (blocks : List (List ℕ)) → take 16 bytes ≡ b → drop 16 bytes ≡ rest → cut k 16 rest ≡ blocks
    → cut (suc k) 16 bytes ≡ b ∷ blocks
unfolding cut
one_cut k b rest bytes blocks front back is =
    ap (λ x. x ∷ cut k 16 (drop 16 bytes)) front ∙ ap (λ x. b ∷ cut k 16 x) back ∙ ap (λ x. b ∷ x) is

cut_again : (blocks : List (List ℕ)) → AreSixteens blocks → cut (length blocks) 16 (concat blocks) ≡ blocks
cut_again [] are = absurd are
cut_again (b ∷ []) are =
    let short : length (b ++ []) ≤ 16 = omega (arith, length-append b [], are.1)
    in one_cut zero b (drop 16 (b ++ [])) (b ++ []) [] (take_all 16 _ short ∙ append-nil b) refl (cut_none 16 _)
cut_again (b ∷ c ∷ blocks) are =
    one_cut (length (c ∷ blocks)) b (concat (c ∷ blocks)) (b ++ concat (c ∷ blocks)) (c ∷ blocks) (take_at b _ 16 are.0)
    (drop_at b _ 16 are.0) (cut_again (c ∷ blocks) are.1)

-- a frame of a telegram is the one that is written
one_frame : (t bytes : List ℕ) → IsBytes bytes → FrameA bytes t → bytes ≡ frame_a t
unfolding frame_a
one_frame t bytes all is =
    let front : take 10 t ≡ is.first = ap (take 10) is.content ∙ take_at is.first (concat is.others) 10 is.ten
    in let back : drop 10 t ≡ concat is.others = ap (drop 10) is.content ∙ drop_at is.first (concat is.others) 10 is.ten
    in let lens = blocks_len is.others is.sixteens
    in let size : length t ≡ 10 + length (concat is.others) =
    omega (arith, ap length is.content, length-append is.first (concat is.others), is.ten)
    in let count : (length t - 10 + 15) / 16 ≡ length is.others = omega (arith, lens.0)
    in let others : cut ((length t - 10 + 15) / 16) 16 (drop 10 t) ≡ is.others =
    ap (λ k. cut k 16 (drop 10 t)) count ∙ ap (cut (length is.others) 16) back ∙ cut_again is.others is.sixteens
    in checked_is (is.first ∷ is.others) bytes all is.frame ∙ ap (λ x. with_crc x ++ flat_map with_crc is.others) (sym front)
    ∙ ap (λ x. with_crc (take 10 t) ++ flat_map with_crc x) (sym others)

pub one_frame_a : OneFrameA
one_frame_a t telegram all =
    let written : FrameA (frame_a t) t = is_frame t telegram all
    in (written, only_a (frame_a t) t (frame_bytes t all) written, λ bytes each is. one_frame t bytes each is)
