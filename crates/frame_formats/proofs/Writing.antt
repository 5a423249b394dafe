-- Writing the blocks of a telegram.
use Rattle.std.proofs.Common.{◌≡◌, ℕ, zero, suc, ◌+◌, ◌-◌, ◌*◌, ◌/◌, ◌<◌, ◌≤◌, List, [], ◌∷◌, ◌++◌, length, take, drop, sym, ◌∙◌, ap, arith, append_assoc, append-nil, length-drop, min}
use Rattle.std.proofs.lemmas.List.{take_all, take-append-drop, length-take}
use Rattle.std.specs.List.{flat_map, concat}
use Rattle.frame_formats.specs.Crc.{IsBytes}
use Rattle.frame_formats.specs.Frames.{AreSixteens, FrameA, IsTelegram}
use Rattle.frame_formats.specs.Decoding.{with_crc, cut, frame_a}
use Rattle.frame_formats.proofs.Pieces.{front_min}
use Rattle.frame_formats.proofs.Checked.{bytes_same, is_checked}

-- the blocks behind the first, each with its CRC
abbrev pub others_with_crc : List ℕ → List ℕ
others_with_crc rest = flat_map with_crc (cut ((length rest + 15) / 16) 16 rest)

-- the blocks up to end are written, and those of the rest would make all; what stands behind them is as it was
pub record Written (at : ℕ) (bytes old : List ℕ) (end : ℕ) (rest out : List ℕ) : Type 0 where
  pub count : end + length rest + 2 * ((length rest + 15) / 16) ≡ at + length bytes + 2 * ((length bytes + 15) / 16)
  pub front : take end out ++ others_with_crc rest ≡ take at old ++ others_with_crc bytes
  pub behind : drop end out ≡ drop end old

pub one_more : (out out' rest block after : List ℕ) (end end' size : ℕ) → size ≡ min (length rest) 16 → 0 < length rest
    → block ≡ take size rest → after ≡ drop size rest → take end' out' ≡ take end out ++ with_crc block
    → take end' out' ++ others_with_crc after ≡ take end out ++ others_with_crc rest
unfolding cut
one_more out out' rest block after end end' size is some front back put =
    let p : (take size rest ≡ take 16 rest) × (drop size rest ≡ drop 16 rest) = front_min size 16 rest (omega arith)
    in let count : (length rest + 15) / 16 ≡ suc ((length after + 15) / 16) = omega (arith, ap length back, length-drop size rest)
    in ap (λ x. x ++ others_with_crc after) put ∙ append_assoc (take end out) (with_crc block) (others_with_crc after)
    ∙ ap (λ x. take end out ++ (with_crc x ++ others_with_crc after)) (front ∙ p.0)
    ∙ ap (λ x. take end out ++ (with_crc (take 16 rest) ++ flat_map with_crc (cut ((length after + 15) / 16) 16 x))) (back ∙ p.1)
    ∙ ap (λ k. take end out ++ flat_map with_crc (cut k 16 rest)) (sym count)

pub all_written : (out rest want : List ℕ) (end : ℕ) → length rest ≡ 0 → take end out ++ others_with_crc rest ≡ want → take end out ≡ want
unfolding cut
all_written out [] want end none is = sym (append-nil (take end out)) ∙ is
all_written out (b ∷ rest) want end none is = absurd (omega arith)

-- the blocks that a list is cut into
cut_blocks : (k : ℕ) (rest : List ℕ) → k ≡ (length rest + 15) / 16 → 0 < length rest → AreSixteens (cut k 16 rest)
    × (rest ≡ concat (cut k 16 rest))
unfolding cut
cut_blocks zero rest is some = absurd (omega arith)
cut_blocks (suc zero) rest is some =
    let short : length rest ≤ 16 = omega arith
    in (
      (omega (arith, length-take 16 rest), omega (arith, length-take 16 rest)),
      sym (take_all 16 rest short)
          ∙ sym (append-nil (take 16 rest)),
    )
cut_blocks (suc (suc k)) rest is some =
    let more = cut_blocks (suc k) (drop 16 rest) (omega (arith, length-drop 16 rest)) (omega (arith, length-drop 16 rest))
    in ((omega (arith, length-take 16 rest), more.0), sym (take-append-drop 16 rest) ∙ ap (λ x. take 16 rest ++ x) more.1)

-- what is written is a frame of the telegram
pub is_frame : (t : List ℕ) → IsTelegram t → IsBytes t → FrameA (frame_a t) t
unfolding frame_a
is_frame t is all =
    let first : List ℕ = take 10 t
    in let rest : List ℕ = drop 10 t
    in let others : List (List ℕ) = cut ((length t - 10 + 15) / 16) 16 rest
    in let blocks : AreSixteens others × (rest ≡ concat others) =
    cut_blocks ((length t - 10 + 15) / 16) rest (omega (arith, length-drop 10 t)) (omega (arith, length-drop 10 t, is.least))
    in let content : t ≡ first ++ concat others = sym (take-append-drop 10 t) ∙ ap (λ x. first ++ x) blocks.1
    in record {
      telegram = is;
      first = first;
      others = others;
      ten = omega (arith, length-take 10 t, is.least);
      sixteens = blocks.0;
      content = content;
      frame = is_checked (first ∷ others) (bytes_same _ _ content all);
    }

-- the frame of a first block and the others
pub frame_is : (t first rest : List ℕ) → first ≡ take 10 t → rest ≡ drop 10 t → with_crc first ++ others_with_crc rest ≡ frame_a t
unfolding frame_a
frame_is t first rest front back =
    let count : (length rest + 15) / 16 ≡ (length t - 10 + 15) / 16 = omega (arith, ap length back, length-drop 10 t)
    in ap (λ x. with_crc x ++ others_with_crc rest) front ∙ ap (λ k. with_crc (take 10 t) ++ flat_map with_crc (cut k 16 rest)) count
    ∙ ap (λ x. with_crc (take 10 t) ++ flat_map with_crc (cut ((length t - 10 + 15) / 16) 16 x)) back
