-- The first piece that is no block with its CRC.
use Rattle.std.proofs.Common.{◌≡◌, ℕ, zero, suc, ◌+◌, ◌-◌, ◌*◌, ◌/◌, ◌≤◌, List, [], ◌∷◌, ◌++◌, length, drop, Bool, true, false, cond, Result, Ok, Err, refl, sym, ◌∙◌, ap, subst, arith, length-drop, append-nil, add-zero, inl, inr}
use Rattle.std.proofs.lemmas.List.{length-take}
use Rattle.lists.proofs.StepLaws.{bind_err}
use Rattle.frame_formats.specs.declared.fault.FrameFault.{FrameFault}
use Rattle.frame_formats.specs.declared.fault.FrameFault.TheVariants as faults
use Rattle.frame_formats.specs.Crc.{IsBytes}
use Rattle.frame_formats.specs.Faults.{IsChecked, AllChecked, IsFirstWrong}
use Rattle.frame_formats.specs.Decoding.{with_crc, block_of, content_of, cut, pieces_a}
use Rattle.frame_formats.proofs.Pieces.{with_front, first_read, first_fault, nothing_read}
use Rattle.frame_formats.proofs.Checked.{bytes-take, bytes-drop, checked_is, checked_by, block_found, block_again}

-- bytes with room for a CRC
pub record IsPiece (piece : List ℕ) : Type 0 where
  pub bytes : IsBytes piece
  pub room : 2 ≤ length piece

abbrev pub ArePieces : List (List ℕ) → Type 0
ArePieces [] = Unit {0}
ArePieces (piece ∷ pieces) = IsPiece piece × ArePieces pieces

-- what was read is checked
checked_found : (n : ℕ) (piece block : List ℕ) → IsPiece piece → block_of n piece ≡ Ok block → IsChecked piece
checked_found n piece block is read =
    let found = block_found n piece block is.bytes is.room read
    in record { block = block; checked = checked_by (block ∷ []) piece is.bytes (found.0 ∙ sym (append-nil (with_crc block))) }

-- what is checked is read
checked_again : (n : ℕ) (piece : List ℕ) → IsBytes piece → (is : IsChecked piece) → block_of n piece ≡ Ok is.block
checked_again n piece all is =
    ap (block_of n) (checked_is (is.block ∷ []) piece all is.checked ∙ append-nil (with_crc is.block)) ∙ block_again n is.block

-- a block is read, or is at fault by its number
guard_err : (b : Bool) (x : List ℕ) (e f : FrameFault) → cond b (Ok x) (Err e) ≡ Err f → e ≡ f
guard_err true x e f is = cc
guard_err false x e f is = cc

block_err : (n : ℕ) (piece : List ℕ) (e : FrameFault) → block_of n piece ≡ Err e → faults.Crc n ≡ e
unfolding block_of
block_err n piece e is = guard_err _ _ _ _ is

-- the fault of some pieces, of which the first is the n-th
pub record IsAt (n : ℕ) (pieces : List (List ℕ)) (e : FrameFault) : Type 0 where
  pub before : ℕ
  pub fault : e ≡ faults.Crc (n + before)
  pub wrong : IsFirstWrong (before + 1) pieces

here : (n : ℕ) (piece : List ℕ) (pieces : List (List ℕ)) (e : FrameFault) → IsBytes piece → block_of n piece ≡ Err e
    → IsAt n (piece ∷ pieces) e
here n piece pieces e all is = record {
  before = 0;
  fault = sym (block_err n piece e is) ∙ ap faults.Crc (sym (add-zero n));
  wrong = record {
    before = [];
    wrong = piece;
    behind = pieces;
    all = refl;
    place = refl;
    right = tt;
    differs = λ checked. let both : Ok checked.block ≡ Err e = sym (checked_again n piece all checked) ∙ is in cc;
  };
}

further : (n : ℕ) (piece : List ℕ) (pieces : List (List ℕ)) (e : FrameFault) → IsChecked piece → IsAt (n + 1) pieces e
    → IsAt n (piece ∷ pieces) e
further n piece pieces e checked at = record {
  before = suc at.before;
  fault = at.fault ∙ ap faults.Crc (let same : n + 1 + at.before ≡ n + suc at.before = omega arith in same);
  wrong = record {
    before = piece ∷ at.wrong.before;
    wrong = at.wrong.wrong;
    behind = at.wrong.behind;
    all = ap (λ x. piece ∷ x) at.wrong.all;
    place = omega (arith, at.wrong.place);
    right = (checked, at.wrong.right);
    differs = at.wrong.differs;
  };
}

by_first : (n : ℕ) (piece : List ℕ) (pieces : List (List ℕ)) (e : FrameFault) (r : Result (List ℕ) FrameFault) → IsPiece piece
    → block_of n piece ≡ r → content_of n (piece ∷ pieces) ≡ Err e
    → (content_of (n + 1) pieces ≡ Err e → IsAt (n + 1) pieces e) → IsAt n (piece ∷ pieces) e
by_first n piece pieces e (Ok block) is read err rest =
    elim (bind_err (content_of (n + 1) pieces) _ e (sym (first_read n piece block pieces read) ∙ err)) [
      | inl behind ↦ further n piece pieces e (checked_found n piece block is read) (rest behind)
      | inr ok ↦ let none : Ok (block ++ ok.0) ≡ Err e = ok.2 in cc
    ]
by_first n piece pieces e (Err f) is read err rest =
    let both : Err f ≡ Err e = sym (first_fault n piece pieces f read) ∙ err
    in let same : f ≡ e = cc
    in here n piece pieces e is.bytes (read ∙ ap Err same)

-- the fault is that of the first wrong piece
pub wrong_found : (n : ℕ) (pieces : List (List ℕ)) (e : FrameFault) → ArePieces pieces → content_of n pieces ≡ Err e → IsAt n pieces e
wrong_found n [] e are is = let both : Ok [] ≡ Err e = sym (nothing_read n) ∙ is in cc
wrong_found n (piece ∷ pieces) e are is =
    by_first n piece pieces e (block_of n piece) are.0 refl is (λ err. wrong_found (n + 1) pieces e are.1 err)

wrong_read : (n : ℕ) (piece : List ℕ) (r : Result (List ℕ) FrameFault) → IsPiece piece → ¬ IsChecked piece → block_of n piece ≡ r
    → block_of n piece ≡ Err (faults.Crc n)
wrong_read n piece (Ok block) is differs read = absurd (differs (checked_found n piece block is read))
wrong_read n piece (Err e) is differs read = read ∙ ap Err (sym (block_err n piece e read))

-- the first wrong piece is the fault
pub wrong_again : (before : List (List ℕ)) (n : ℕ) (wrong : List ℕ) (behind : List (List ℕ)) → ArePieces (before ++ wrong ∷ behind)
    → AllChecked before → ¬ IsChecked wrong
    → content_of n (before ++ wrong ∷ behind) ≡ Err (faults.Crc (n + length before))
wrong_again [] n wrong behind are right differs =
    first_fault n wrong behind (faults.Crc n) (wrong_read n wrong (block_of n wrong) are.0 differs refl)
    ∙ ap (λ k. Err (faults.Crc k)) (sym (add-zero n))
wrong_again (piece ∷ before) n wrong behind are right differs =
    let same : n + 1 + length before ≡ n + suc (length before) = omega arith
    in first_read n piece right.0.block (before ++ wrong ∷ behind) (checked_again n piece are.0.bytes right.0)
    ∙ ap (with_front right.0.block) (wrong_again before (n + 1) wrong behind are.1 right.1 differs)
    ∙ ap (λ k. Err (faults.Crc k)) same

pub first_wrong_again : (n : ℕ) (pieces : List (List ℕ)) → ArePieces pieces → IsFirstWrong n pieces
    → content_of 1 pieces ≡ Err (faults.Crc n)
first_wrong_again n pieces are is =
    let same : 1 + length is.before ≡ n = omega (arith, is.place)
    in let P : List (List ℕ) → Type 0 = λ x. ArePieces x
    in ap (content_of 1) is.all ∙ wrong_again is.before 1 is.wrong is.behind (subst P is.all are) is.right is.differs
    ∙ ap (λ k. Err (faults.Crc k)) same

-- blocks of 16 bytes, each with its CRC, are pieces
cut_pieces : (k left : ℕ) (bytes : List ℕ) → IsBytes bytes → k ≡ (left + 15) / 16 → length bytes ≡ left + 2 * k → ArePieces (cut k 18 bytes)
unfolding cut
cut_pieces zero left bytes all is whole = tt
cut_pieces (suc k) left bytes all is whole = (
  record { bytes = bytes-take 18 bytes all; room = omega (arith, length-take 18 bytes) },
  cut_pieces k (left - 16) (drop 18 bytes) (bytes-drop 18 bytes all) (omega arith) (omega (arith, length-drop 18 bytes)),
)

pub are_pieces_a : (bytes : List ℕ) (n : ℕ) → IsBytes bytes → length bytes ≡ 12 + n + 2 * ((n + 15) / 16) → ArePieces (pieces_a bytes)
are_pieces_a bytes n all whole = (
  record { bytes = bytes-take 12 bytes all; room = omega (arith, length-take 12 bytes) },
  cut_pieces ((length bytes - 12 + 17) / 18) n (drop 12 bytes) (bytes-drop 12 bytes all) (omega arith)
      (omega (arith, length-drop 12 bytes)),
)
