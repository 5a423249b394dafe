-- Pieces, and the blocks that are read from them.
use Rattle.std.proofs.Common.{◌≡◌, ℕ, zero, suc, ◌+◌, List, [], ◌∷◌, ◌++◌, length, take, drop, min, Result, Ok, Err, refl, ◌∙◌, ap, append_assoc}
use Rattle.std.proofs.lemmas.List.{take_min, drop_min}
use Rattle.frame_formats.specs.declared.fault.FrameFault.{FrameFault}
use Rattle.lists.specs.Steps.{◌>>=◌}
use Rattle.frame_formats.specs.Decoding.{block_of, content_of, cut}

-- bytes in front of those that are read
abbrev pub with_front : List ℕ → Result (List ℕ) FrameFault → Result (List ℕ) FrameFault
with_front front r = r >>= λ x. Ok (front ++ x)

pub more_front : (a b : List ℕ) (r : Result (List ℕ) FrameFault) → with_front (a ++ b) r ≡ with_front a (with_front b r)
more_front a b (Ok x) = ap Ok (append_assoc a b x)
more_front a b (Err e) = refl

-- the first piece is read
pub first_read : (n : ℕ) (piece block : List ℕ) (pieces : List (List ℕ)) → block_of n piece ≡ Ok block
    → content_of n (piece ∷ pieces) ≡ with_front block (content_of (n + 1) pieces)
unfolding content_of
first_read n piece block pieces is = ap (λ r. r >>= λ b. with_front b (content_of (n + 1) pieces)) is

-- the first piece is at fault
pub first_fault : (n : ℕ) (piece : List ℕ) (pieces : List (List ℕ)) (e : FrameFault) → block_of n piece ≡ Err e
    → content_of n (piece ∷ pieces) ≡ Err e
unfolding content_of
first_fault n piece pieces e is = ap (λ r. r >>= λ b. with_front b (content_of (n + 1) pieces)) is

pub nothing_read : (n : ℕ) → content_of n [] ≡ Ok []
unfolding content_of
nothing_read n = refl

pub cut_more : (k size : ℕ) (bytes : List ℕ) → cut (suc k) size bytes ≡ take size bytes ∷ cut k size (drop size bytes)
unfolding cut
cut_more k size bytes = refl

pub cut_none : (size : ℕ) (bytes : List ℕ) → cut zero size bytes ≡ []
unfolding cut
cut_none size bytes = refl

-- the next piece, however many bytes are left
pub front_min : (m n : ℕ) (bytes : List ℕ) → m ≡ min n (length bytes) → (take m bytes ≡ take n bytes) × (drop m bytes ≡ drop n bytes)
front_min m n bytes is = (ap (λ k. take k bytes) is ∙ take_min n bytes, ap (λ k. drop k bytes) is ∙ drop_min n bytes)
