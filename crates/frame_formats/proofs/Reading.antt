-- Reading the blocks of format A in a loop.
use Rattle.std.proofs.Common.{◌≡◌, ℕ, suc, ◌+◌, ◌-◌, ◌*◌, ◌/◌, ◌<◌, ◌≤◌, List, [], ◌++◌, length, take, drop, Result, Ok, Err, sym, ◌∙◌, ap, arith, length-drop, append-nil, min}
use Rattle.std.proofs.lemmas.List.{take_all, drop_all}
use borrow.Rule.Slice.PartMut.{put_mid}
use Rattle.frame_formats.specs.declared.fault.FrameFault.{FrameFault}
use Rattle.frame_formats.specs.Decoding.{block_of, content_of, cut, pieces_a}
use Rattle.frame_formats.proofs.Pieces.{with_front, more_front, first_read, first_fault, nothing_read, cut_more, cut_none, front_min}

-- the blocks so far, and what reading the rest gives, are what reading all gives
pub record IsSoFar (want : Result (List ℕ) FrameFault) (into rest : List ℕ) (len number : ℕ) : Type 0 where
  pub within : len ≤ length into
  pub counted : number ≤ len + 2
  pub left : length rest ≡ length into - len + 2 * ((length into - len + 15) / 16)
  pub read : with_front (take len into) (content_of number (cut ((length into - len + 15) / 16) 18 rest)) ≡ want

pub step : (want : Result (List ℕ) FrameFault) (into rest into' block piece after : List ℕ) (len number size : ℕ)
    → IsSoFar want into rest len number → len < length into → size ≡ min (length into - len) 16
    → piece ≡ take (size + 2) rest → after ≡ drop (size + 2) rest → block_of number piece ≡ Ok block → length into' ≡ length into
    → take (len + size) into' ≡ take len into ++ block → IsSoFar want into' after (len + size) (number + 1)
step want into rest into' block piece after len number size so more is front behind found same put =
    let p : (take (size + 2) rest ≡ take 18 rest) × (drop (size + 2) rest ≡ drop 18 rest) =
    front_min (size + 2) 18 rest (omega (arith, so.left))
    in let k : ℕ = (length into' - (len + size) + 15) / 16
    in let counts : (length into - len + 15) / 16 ≡ suc k = omega arith
    in let here : block_of number (take 18 rest) ≡ Ok block = ap (block_of number) (sym (front ∙ p.0)) ∙ found
    in record {
      within = omega arith;
      counted = omega arith;
      left = omega (arith, ap length behind, length-drop (size + 2) rest, so.left);
      read =
          ap (λ x. with_front x (content_of (number + 1) (cut k 18 after))) put
          ∙ more_front (take len into) block (content_of (number + 1) (cut k 18 after))
          ∙ ap (λ x. with_front (take len into) (with_front block (content_of (number + 1) (cut k 18 x)))) (behind ∙ p.1)
          ∙ ap (with_front (take len into)) (sym (first_read number (take 18 rest) block (cut k 18 (drop 18 rest)) here))
          ∙ ap (λ x. with_front (take len into) (content_of number x)) (sym (cut_more k 18 rest))
          ∙ ap (λ k. with_front (take len into) (content_of number (cut k 18 rest))) (sym counts)
          ∙ so.read;
    }

pub fault : (want : Result (List ℕ) FrameFault) (into rest piece : List ℕ) (len number size : ℕ) (e : FrameFault)
    → IsSoFar want into rest len number → len < length into → size ≡ min (length into - len) 16
    → piece ≡ take (size + 2) rest → block_of number piece ≡ Err e → want ≡ Err e
fault want into rest piece len number size e so more is front found =
    let p : (take (size + 2) rest ≡ take 18 rest) × (drop (size + 2) rest ≡ drop 18 rest) =
    front_min (size + 2) 18 rest (omega (arith, so.left))
    in let k : ℕ = (length into - len - 1) / 16
    in let counts : (length into - len + 15) / 16 ≡ suc k = omega arith
    in let here : block_of number (take 18 rest) ≡ Err e = ap (block_of number) (sym (front ∙ p.0)) ∙ found
    in sym so.read ∙ ap (λ k. with_front (take len into) (content_of number (cut k 18 rest))) counts
    ∙ ap (λ x. with_front (take len into) (content_of number x)) (cut_more k 18 rest)
    ∙ ap (with_front (take len into)) (first_fault number (take 18 rest) (cut k 18 (drop 18 rest)) e here)

pub finished : (want : Result (List ℕ) FrameFault) (into rest : List ℕ) (len number : ℕ) → IsSoFar want into rest len number
    → length into ≤ len → want ≡ Ok into
finished want into rest len number so end =
    let none : (length into - len + 15) / 16 ≡ 0 = omega arith
    in sym so.read ∙ ap (λ k. with_front (take len into) (content_of number (cut k 18 rest))) none
    ∙ ap (λ x. with_front (take len into) (content_of number x)) (cut_none 18 rest)
    ∙ ap (with_front (take len into)) (nothing_read number) ∙ ap Ok (append-nil (take len into) ∙ take_all len into end)

-- all of a frame, from its first block and the others
pub all_blocks : (bytes piece first after : List ℕ) (others : Result (List ℕ) FrameFault) (m n : ℕ) → piece ≡ take 12 bytes
    → block_of 1 piece ≡ Ok first → after ≡ drop 12 bytes
    → length bytes ≡ 12 + n + 2 * ((n + 15) / 16) → 0 < n → m ≡ n → content_of 2 (cut ((m + 15) / 16) 18 after) ≡ others
    → content_of 1 (pieces_a bytes) ≡ with_front first others
all_blocks bytes piece first after others m n is found behind whole some same rest =
    let counts : (length bytes - 12 + 17) / 18 ≡ (m + 15) / 16 = omega arith
    in first_read 1 (take 12 bytes) first (cut ((length bytes - 12 + 17) / 18) 18 (drop 12 bytes)) (ap (block_of 1) (sym is) ∙ found)
    ∙ ap (λ k. with_front first (content_of 2 (cut k 18 (drop 12 bytes)))) counts
    ∙ ap (λ x. with_front first (content_of 2 (cut ((m + 15) / 16) 18 x))) (sym behind) ∙ ap (with_front first) rest

pub front_fault : (bytes piece : List ℕ) (e : FrameFault) → piece ≡ take 12 bytes → block_of 1 piece ≡ Err e
    → content_of 1 (pieces_a bytes) ≡ Err e
front_fault bytes piece e is found =
    first_fault 1 (take 12 bytes) (cut ((length bytes - 12 + 17) / 18) 18 (drop 12 bytes)) e (ap (block_of 1) (sym is) ∙ found)

-- the first block stays in front of what is written behind it
pub behind_first : (xs ys front : List ℕ) → take 10 xs ≡ front → put_mid 10 (length xs - 10) xs ys ≡ front ++ ys
behind_first xs ys front is =
    let none : drop (length xs - 10) (drop 10 xs) ≡ [] =
    let all : length (drop 10 xs) ≤ length xs - 10 = omega (arith, length-drop 10 xs) in drop_all _ _ all
    in ap (λ x. x ++ (ys ++ drop (length xs - 10) (drop 10 xs))) is ∙ ap (λ z. front ++ (ys ++ z)) none
    ∙ ap (λ z. front ++ z) (append-nil ys)
