-- A file that ends in the middle of a line.
use Rattle.std.proofs.Common.{◌≡◌, ℕ, ◌+◌, ◌-◌, ◌<◌, ◌≤◌, ◌⊎◌, List, [], ◌∷◌, ◌++◌, length, take, drop, refl, sym, ap, ◌∙◌, subst, append_assoc, inl, inr, arith}
use Rattle.std.proofs.lemmas.List.{append-nil, length-append, nil_from_length, take-append-drop}
use Rattle.line_reader.specs.Newlines.{newlines}
use Rattle.line_feed.specs.Files.{ShowsEnd, EndsLine, AreWholeLines, IsWholePart, HasNoNewline, IsHalf, EndsInHalf}
use Rattle.line_feed.specs.Pieces.{IsPlace}

-- behind a newline the bytes are whole lines
pub ends_line : (bytes : List ℕ) (at place : ℕ) → IsPlace bytes at place → AreWholeLines (take (at + (place + 1)) bytes)
ends_line bytes at place p = inr (record {
  front = take at bytes ++ take place (drop at bytes);
  is = p.taken ∙ sym (append_assoc (take at bytes) (take place (drop at bytes)) (10 ∷ []));
})

pub half_behind : (bytes : List ℕ) (at count : ℕ) → length (drop at bytes) ≡ count → newlines (drop at bytes) ≡ 0
    → AreWholeLines (take at bytes) → IsHalf bytes count
half_behind bytes at count long none whole = record {
  left = take at bytes;
  half = drop at bytes;
  parts = sym (take-append-drop at bytes);
  long = long;
  alone = none;
  whole = whole;
}

-- whole lines behind any front
whole_behind : (front left : List ℕ) → (left ≡ [] → front ≡ []) → AreWholeLines left → AreWholeLines (front ++ left)
whole_behind front left closed (inl none) = inl (ap (λ t. front ++ t) none ∙ append-nil front ∙ closed none)
whole_behind front left closed (inr line) = inr (record {
  front = front ++ line.front;
  is = ap (λ t. front ++ t) line.is ∙ sym (append_assoc front line.front (10 ∷ []));
})

shown_half : (bytes shown : List ℕ) (room count : ℕ) → room ≡ 1024 → (s : ShowsEnd bytes shown room) → (h : IsHalf shown count)
    → EndsInHalf bytes count
shown_half bytes shown room count full s h = record {
  left = s.front ++ h.left;
  half = h.half;
  parts = s.parts ∙ ap (λ t. s.front ++ t) h.parts ∙ sym (append_assoc s.front h.left h.half);
  long = h.long;
  alone = h.alone;
  whole = λ short.
      whole_behind s.front h.left (λ none.
      let all : length shown ≡ length h.left + length h.half = ap length h.parts ∙ length-append h.left h.half in
      let closed : length h.left ≡ 0 = ap length none in
      let long : length h.half ≡ count = h.long in
      s.all (omega (arith, all, closed, long, short, full))) h.whole;
}

-- what is shown is a front of what there is room for
pub ends_in_half : (bytes buffer shown : List ℕ) (room count : ℕ) {read : ℕ} → shown ≡ take read buffer → room ≡ 1024 → read ≤ room
    → ShowsEnd bytes (take read buffer) room → IsHalf shown count → EndsInHalf bytes count
ends_in_half bytes buffer shown room count {read} front full within s h =
    shown_half bytes (take read buffer) room count full s (subst (λ t. IsHalf t count) front h)

-- nothing is cut off where there is no half line
pub part_same : (bytes now : List ℕ) (count : ℕ) → EndsInHalf bytes count → count ≡ 0 → now ≡ bytes → IsWholePart bytes now
part_same bytes now count e none same =
    let closed : e.half ≡ [] = nil_from_length e.half (e.long ∙ none) in
    let left : bytes ≡ e.left = e.parts ∙ ap (λ t. e.left ++ t) closed ∙ append-nil e.left in
    let short : count < 1024 = omega (arith, none) in
    subst (IsWholePart bytes) (sym (same ∙ left))
    (record { half = e.half; parts = e.parts; alone = e.alone; whole = e.whole short })

-- what is left where it is cut off
pub part_cut : (bytes seen now : List ℕ) (count : ℕ) → EndsInHalf bytes count → count < 1024 → seen ≡ bytes
    → ((front half : List ℕ) → seen ≡ front ++ half → length half ≡ count → now ≡ front) → IsWholePart bytes now
part_cut bytes seen now count e short same cut =
    subst (IsWholePart bytes) (sym (cut e.left e.half (same ∙ e.parts) e.long))
    (record { half = e.half; parts = e.parts; alone = e.alone; whole = e.whole short })

-- there is no newline in all that is looked at
pub no_newline : (bytes : List ℕ) (count : ℕ) → EndsInHalf bytes count → 1024 ≤ count → HasNoNewline bytes 1024
no_newline bytes count e full = record {
  front = e.left;
  last = e.half;
  parts = e.parts;
  long = omega (arith, e.long, full);
  alone = e.alone;
}
