-- Format A: what is decoded is a frame of its telegram, and each frame is decoded.
use Rattle.std.proofs.Common.{◌≡◌, ℕ, zero, suc, ◌+◌, ◌-◌, ◌*◌, ◌/◌, ◌<◌, ◌≤◌, List, [], ◌∷◌, ◌++◌, length, take, drop, get_or, Ok, sym, ◌∙◌, ap, arith, length-append, length-drop, append-nil, append_assoc}
use Rattle.std.proofs.lemmas.List.{take_all, drop_all, take_at, drop_at, take-append-drop, length-take}
use Rattle.std.specs.List.{flat_map, concat}
use Rattle.lists.proofs.StepLaws.{bind_ok}
use Rattle.frame_formats.specs.declared.format.Format.TheVariants as formats
use Rattle.frame_formats.specs.Crc.{IsBytes}
use Rattle.frame_formats.specs.Frames.{AreSixteens, FrameA}
use Rattle.frame_formats.specs.Decoding.{with_crc, frame_len, cut, content_of, block_of, decoded_a}
use Rattle.frame_formats.proofs.Tests.{decoded_ok, decoded_again, begins_with}
use Rattle.frame_formats.proofs.Pieces.{with_front, first_read, nothing_read, cut_none}
use Rattle.frame_formats.proofs.Checked.{bytes-take, bytes-drop, byte_at, checked_is, checked_by, block_found, block_again, length-with_crc, same_head}

join_blocks : (b : List ℕ) (bs : List (List ℕ)) → length b ≡ 16 → AreSixteens bs → AreSixteens (b ∷ bs)
join_blocks b [] long are = absurd are
join_blocks b (c ∷ bs) long are = (long, are)

-- the first piece that was read, and what follows it
pub read_ok : (n : ℕ) (piece : List ℕ) (pieces : List (List ℕ)) (t : List ℕ) → content_of n (piece ∷ pieces) ≡ Ok t → (b : List ℕ)
    × (rest : List ℕ) × (block_of n piece ≡ Ok b) × (content_of (n + 1) pieces ≡ Ok rest) × (t ≡ b ++ rest)
unfolding content_of
read_ok n piece pieces t is =
    let one = bind_ok (block_of n piece) _ t is
    in let more = bind_ok (content_of (n + 1) pieces) (λ others. Ok (one.0 ++ others)) t one.2
    in let joined : Ok (one.0 ++ more.0) ≡ Ok t = more.2
    in (one.0, more.0, one.1, more.1, cc)

-- the only piece
pub last_ok : (n : ℕ) (piece t : List ℕ) → content_of n (piece ∷ []) ≡ Ok t → block_of n piece ≡ Ok t
last_ok n piece t is =
    let one = read_ok n piece [] t is
    in let none : Ok [] ≡ Ok one.1 = sym (nothing_read (n + 1)) ∙ one.3
    in let content : t ≡ one.0 = let end : [] ≡ one.1 = cc in one.4 ∙ ap (λ x. one.0 ++ x) (sym end) ∙ append-nil one.0
    in one.2 ∙ ap Ok (sym content)

-- each of all blocks that were read is followed by its CRC
blocks_found : (k n left : ℕ) (bytes t : List ℕ) → IsBytes bytes → 0 < left → k ≡ (left + 15) / 16 → length bytes ≡ left + 2 * k
    → content_of n (cut k 18 bytes) ≡ Ok t
    → (blocks : List (List ℕ)) × AreSixteens blocks × (t ≡ concat blocks) × (bytes ≡ flat_map with_crc blocks) × (length t ≡ left)
unfolding cut content_of
blocks_found zero n left bytes t all some is whole read = absurd (omega arith)
blocks_found (suc zero) n left bytes t all some is whole read =
    let piece =
    block_found n (take 18 bytes) t (bytes-take 18 bytes all) (omega (arith, length-take 18 bytes)) (last_ok n (take 18 bytes) t read)
    in let short : length bytes ≤ 18 = omega arith
    in let size : length t ≡ left = omega (arith, piece.1, length-take 18 bytes)
    in (
      t ∷ [],
      (omega arith, omega arith),
      sym (append-nil t),
      sym (take_all 18 bytes short) ∙ piece.0 ∙ sym (append-nil (with_crc t)),
      size,
    )
blocks_found (suc (suc k)) n left bytes t all some is whole read =
    let one = read_ok n (take 18 bytes) (cut (suc k) 18 (drop 18 bytes)) t read
    in let piece = block_found n (take 18 bytes) one.0 (bytes-take 18 bytes all) (omega (arith, length-take 18 bytes)) one.2
    in let rest =
    blocks_found (suc k) (n + 1) (left - 16) (drop 18 bytes) one.1 (bytes-drop 18 bytes all) (omega arith) (omega arith)
    (omega (arith, length-drop 18 bytes)) one.3
    in (
      one.0 ∷ rest.0,
      join_blocks one.0 rest.0 (omega (arith, piece.1, length-take 18 bytes)) rest.1,
      one.4 ∙ ap (λ x. one.0 ++ x) rest.2,
      sym (take-append-drop 18 bytes) ∙ ap (λ x. x ++ drop 18 bytes) piece.0 ∙ ap (λ x. with_crc one.0 ++ x) rest.3,
      omega (arith, ap length one.4, length-append one.0 one.1, piece.1, length-take 18 bytes, rest.4),
    )

-- what is decoded is a frame of its telegram
pub found : (bytes t : List ℕ) → IsBytes bytes → decoded_a bytes ≡ Ok t → FrameA bytes t
found bytes t all is =
    let ok = decoded_ok formats.A bytes t is
    in let l : ℕ = get_or bytes 0 0
    in let least : 10 ≤ l = ok.0.fits
    in let len : length bytes ≡ frame_len l = ok.0.whole
    in let k : ℕ = (length bytes - 12 + 17) / 18
    in let one = read_ok 1 (take 12 bytes) (cut k 18 (drop 12 bytes)) t ok.1
    in let piece = block_found 1 (take 12 bytes) one.0 (bytes-take 12 bytes all) (omega (arith, length-take 12 bytes)) one.2
    in let rest =
    blocks_found k 2 (l - 9) (drop 12 bytes) one.1 (bytes-drop 12 bytes all) (omega arith) (omega arith)
    (omega (arith, length-drop 12 bytes)) one.3
    in let ten : length one.0 ≡ 10 = omega (arith, piece.1, length-take 12 bytes)
    in let size : length t ≡ l + 1 = omega (arith, ap length one.4, length-append one.0 one.1, rest.4)
    in let frame : bytes ≡ with_crc one.0 ++ flat_map with_crc rest.0 =
    sym (take-append-drop 12 bytes) ∙ ap (λ x. x ++ drop 12 bytes) piece.0 ∙ ap (λ x. with_crc one.0 ++ x) rest.3
    in let head : get_or t 0 0 ≡ l =
    sym (same_head t one.0 one.1 one.4 (omega arith))
    ∙ same_head bytes one.0 _ (frame ∙ append_assoc one.0 _ (flat_map with_crc rest.0)) (omega arith)
    in record {
      telegram = record { least = omega arith; most = omega (arith, byte_at bytes 0 all); counted = omega arith };
      first = one.0;
      others = rest.0;
      ten = ten;
      sixteens = rest.1;
      content = one.4 ∙ ap (λ x. one.0 ++ x) rest.2;
      frame = checked_by (one.0 ∷ rest.0) bytes all frame;
    }

pub blocks_len : (blocks : List (List ℕ)) → AreSixteens blocks → (length blocks ≡ (length (concat blocks) + 15) / 16)
    × (length (flat_map with_crc blocks) ≡ length (concat blocks) + 2 * length blocks) × (0 < length (concat blocks))
blocks_len [] are = absurd are
blocks_len (b ∷ []) are = (
  omega (arith, length-append b []),
  omega (arith, length-append b [], length-append (with_crc b) [], length-with_crc b),
  omega (arith, length-append b []),
)
blocks_len (b ∷ c ∷ bs) are =
    let rest = blocks_len (c ∷ bs) are.1
    in (
      omega (arith, rest.0, length-append b (concat (c ∷ bs)), are.0),
      omega (arith, rest.1, length-append b (concat (c ∷ bs)), length-append (with_crc b) (flat_map with_crc (c ∷ bs)), length-with_crc b),
      omega (arith, length-append b (concat (c ∷ bs)), are.0),
    )

-- one block, and what follows it
one_again : (k n : ℕ) (b rest bytes others : List ℕ) → take 18 bytes ≡ with_crc b → drop 18 bytes ≡ rest
    → content_of (n + 1) (cut k 18 rest) ≡ Ok others → content_of n (cut (suc k) 18 bytes) ≡ Ok (b ++ others)
unfolding cut
one_again k n b rest bytes others front back read =
    first_read n (take 18 bytes) b (cut k 18 (drop 18 bytes)) (ap (block_of n) front ∙ block_again n b)
    ∙ ap (with_front b) (ap (λ x. content_of (n + 1) (cut k 18 x)) back ∙ read)

blocks_again : (blocks : List (List ℕ)) (n : ℕ) → AreSixteens blocks
    → content_of n (cut (length blocks) 18 (flat_map with_crc blocks)) ≡ Ok (concat blocks)
blocks_again [] n are = absurd are
blocks_again (b ∷ []) n are =
    let short : length (with_crc b ++ []) ≤ 18 = omega (arith, length-append (with_crc b) [], length-with_crc b, are.1)
    in one_again zero n b [] (with_crc b ++ []) [] (take_all 18 _ short
    ∙ append-nil (with_crc b)) (drop_all 18 _ short) (ap (content_of (n + 1)) (cut_none 18 []) ∙ nothing_read (n + 1))
blocks_again (b ∷ c ∷ bs) n are =
    let size : length (with_crc b) ≡ 18 = omega (arith, length-with_crc b, are.0)
    in one_again (length (c ∷ bs)) n b (flat_map with_crc (c ∷ bs)) (with_crc b ++ flat_map with_crc (c ∷ bs)) (concat (c ∷ bs))
    (take_at (with_crc b) _ 18 size) (drop_at (with_crc b) _ 18 size) (blocks_again (c ∷ bs) (n + 1) are.1)

-- each frame is decoded
pub only : (bytes t : List ℕ) → IsBytes bytes → FrameA bytes t → decoded_a bytes ≡ Ok t
only bytes t all is =
    let frame : bytes ≡ with_crc is.first ++ flat_map with_crc is.others = checked_is (is.first ∷ is.others) bytes all is.frame
    in let lens = blocks_len is.others is.sixteens
    in let size : length (with_crc is.first) ≡ 12 = omega (arith, length-with_crc is.first, is.ten)
    in let whole : length bytes ≡ 12 + length (flat_map with_crc is.others) =
    omega (arith, ap length frame, length-append (with_crc is.first) (flat_map with_crc is.others))
    in let told : length t ≡ 10 + length (concat is.others) =
    omega (arith, ap length is.content, length-append is.first (concat is.others), is.ten)
    in let head : get_or is.first 0 0 ≡ get_or t 0 0 = same_head t is.first (concat is.others) is.content (omega (arith, is.ten))
    in let begins = begins_with bytes is.first _ (get_or t 0 0) (frame ∙ append_assoc is.first _ (flat_map with_crc is.others)) head
    (omega (arith, is.ten))
    in let front : take 12 bytes ≡ with_crc is.first = ap (take 12) frame ∙ take_at (with_crc is.first) _ 12 size
    in let back : drop 12 bytes ≡ flat_map with_crc is.others = ap (drop 12) frame ∙ drop_at (with_crc is.first) _ 12 size
    in let count : (length bytes - 12 + 17) / 18 ≡ length is.others = omega (arith, lens.0, lens.1)
    in decoded_again formats.A bytes (get_or t 0 0) (record {
      begins = begins;
      fits = omega (arith, is.telegram.least, is.telegram.counted);
      whole = omega (arith, lens.0, lens.1, is.telegram.counted);
    })
    ∙ first_read 1 (take 12 bytes) is.first (cut ((length bytes - 12 + 17) / 18) 18 (drop 12 bytes)) (ap (block_of 1) front
    ∙ block_again 1 is.first)
    ∙ ap (with_front is.first) (ap (λ k. content_of 2 (cut k 18 (drop 12 bytes))) count
    ∙ ap (λ x. content_of 2 (cut (length is.others) 18 x)) back ∙ blocks_again is.others 2 is.sixteens)
    ∙ ap Ok (sym is.content)
