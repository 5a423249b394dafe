-- Places in a text of several pieces.
use Rattle.std.proofs.Common.{◌≡◌, ℕ, ◌+◌, ◌<◌, ◌≤◌, List, [], ◌∷◌, ◌++◌, length, take, drop, get_or, sym, ap, ◌∙◌, arith, subst}
use Rattle.std.specs.List.{flat_map}
use Rattle.std.proofs.Math.Seq.{drop-append-add}
use Rattle.std.proofs.lemmas.Grind.{flat_map-append}
use Rattle.std.proofs.lemmas.List.{append-nil, length-append, drop-append-le, take-append-le, take-append-drop, drop_all, drop_more, flat_map_more, take_more}
use Rattle.outer_io.specs.Bytes.{Moves}
use Rattle.outer_io.proofs.Parts.{moves}
use Rattle.made_input.specs.Streams.{Text, bytes_at, IsPlace, place_in_all}

-- a text, seen from a place in it
abbrev pub seen_from : ℕ → List ℕ → Text
seen_from place text = record { taken = take place text; left = drop place text }

module _ {P : Type 0} (bytes : P → List ℕ) (pieces : List P) where
  -- the bytes from a place on are those of its piece and of all behind it
  from_place : (piece at : ℕ)
      → drop (place_in_all bytes pieces piece at) (flat_map bytes pieces) ≡ drop at (flat_map bytes (drop piece pieces))
  unfolding place_in_all
  from_place piece at =
      let front : List P = take piece pieces in
      let back : List P = drop piece pieces in
      ap (λ ps. drop (length (flat_map bytes front) + at) (flat_map bytes ps)) (sym (take-append-drop piece pieces))
      ∙ ap (drop (length (flat_map bytes front) + at)) (flat_map-append bytes front back)
      ∙ drop-append-add (flat_map bytes front) (flat_map bytes back) at

  bytes_of_piece : (piece : ℕ) (d : P) → piece < length pieces → d ≡ get_or pieces piece d → bytes_at bytes pieces piece ≡ bytes d
  bytes_of_piece piece d within is =
      ap (λ ps. flat_map bytes (take 1 ps)) (drop_more pieces piece d within)
      ∙ append-nil (bytes (get_or pieces piece d)) ∙ ap bytes (sym is)

  -- one more piece behind those so far
  pub one_piece : (place : ℕ) (piece : P) {before after : List ℕ} → place < length pieces → piece ≡ get_or pieces place piece
      → before ≡ flat_map bytes (take place pieces) → after ≡ before ++ bytes piece → after ≡ flat_map bytes (take (place + 1) pieces)
  one_piece place piece within is so_far now =
      now ∙ ap (λ b. b ++ bytes piece) so_far ∙ flat_map_more bytes [] (take place pieces) piece
      ∙ ap (λ p. flat_map bytes (take place pieces ++ p ∷ [])) is ∙ ap (flat_map bytes) (sym (take_more pieces place piece within))

  -- where a piece is at its end, the next one begins
  pub turned : (piece at start : ℕ) (d : P) → piece < length pieces → d ≡ get_or pieces piece d → at ≡ length (bytes d)
      → place_in_all bytes pieces piece at ≡ start
      → IsPlace bytes pieces (piece + 1) 0 × (place_in_all bytes pieces (piece + 1) 0 ≡ start)
  unfolding place_in_all
  turned piece at start d within is ended same =
      let before : List ℕ = flat_map bytes (take piece pieces) in
      let more : flat_map bytes (take (piece + 1) pieces) ≡ before ++ bytes d =
      ap (flat_map bytes) (take_more pieces piece d within) ∙ flat_map-append bytes (take piece pieces) (get_or pieces piece d ∷ [])
      ∙ ap (λ b. before ++ b) (append-nil (bytes (get_or pieces piece d)) ∙ ap bytes (sym is)) in (
        record { within = omega arith; in_piece = omega arith },
        ap (λ b. length b + 0) more ∙ omega (arith, length-append before (bytes d)),
      )

  bytes_on : (piece at n : ℕ) → place_in_all bytes pieces piece (at + n) ≡ place_in_all bytes pieces piece at + n
  unfolding place_in_all
  bytes_on piece at n = omega arith

  -- ---- reading on from a place

  -- at a place that is the same as that of the text, with no piece there, nothing is left
  pub nothing_read : (piece at start : ℕ) (text : Text) → seen_from start (flat_map bytes pieces) ≡ text
      → place_in_all bytes pieces piece at ≡ start → length pieces ≤ piece → text.left ≡ []
  nothing_read piece at start text is same behind =
      sym (ap (λ (t : Text). t.left) is) ∙ ap (λ n. drop n (flat_map bytes pieces)) (sym same) ∙ from_place piece at
      ∙ ap (λ ps. drop at (flat_map bytes ps)) (drop_all piece pieces behind) ∙ drop_all at [] (omega arith)

  -- what is read of the piece at such a place
  pub piece_read : (piece at start n : ℕ) (text : Text) (d : P) (rest front : List ℕ)
      → seen_from start (flat_map bytes pieces) ≡ text → IsPlace bytes pieces piece at → place_in_all bytes pieces piece at ≡ start
      → piece < length pieces → d ≡ get_or pieces piece d → rest ≡ drop at (bytes d) → n ≤ length rest → front ≡ take n rest
      → Moves front text.taken text.left (take (place_in_all bytes pieces piece (at + n)) (flat_map bytes pieces))
      (drop (place_in_all bytes pieces piece (at + n)) (flat_map bytes pieces))
  piece_read piece at start n text d rest front is place same within there is_rest few is_front =
      let all : List ℕ = flat_map bytes pieces in
      let later : List ℕ = flat_map bytes (drop (piece + 1) pieces) in
      let inside = place.in_piece in
      let here : drop start all ≡ rest ++ later = ap (λ m. drop m all) (sym same) ∙ from_place piece at
      ∙ ap (λ ps. drop at (flat_map bytes ps)) (drop_more pieces piece d within)
      ∙ ap (λ p. drop at (bytes p ++ later)) (sym there)
      ∙ drop-append-le at (bytes d) later (omega (arith, ap length (bytes_of_piece piece d within there)))
      ∙ ap (λ b. b ++ later) (sym is_rest) in
      let first : front ≡ take n (drop start all) = is_front ∙ sym (take-append-le n rest later few) ∙ ap (take n) (sym here) in
      rw (bytes_on piece at n, same) (subst (λ (t : Text). Moves front t.taken t.left (take (start + n) all) (drop (start + n) all)) is
      (moves all start n front first))
