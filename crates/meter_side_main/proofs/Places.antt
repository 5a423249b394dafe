-- The places that a layout is judged by.
use Rattle.std.proofs.Common.{◌≡◌, ◌≢◌, ℕ, ◌+◌, ◌-◌, ◌<◌, ◌≤◌, List, ◌++◌, length, take, drop, get_or, refl, sym, ap, ◌∙◌, arith, inl, inr}
use Rattle.std.proofs.lemmas.Bool.{cases_lt}
use Rattle.std.proofs.lemmas.List.{get_or_append_left, get_or-take, get_or-drop, length-take, length-drop}
use Rattle.std.proofs.lemmas.List.Elements.{All-take, All-drop}
use Rattle.std.proofs.lemmas.Nat.{le_bytes_4}
use Rattle.std.specs.Int.{w32, to_le_bytes}
use Rattle.frame_formats.specs.Crc.{IsBytes}
use Rattle.frame_formats.specs.Frames.{IsTelegram}
use Rattle.meter_address.specs.declared.address.Address.{Address}
use Rattle.meter_address.specs.Address.{bytes_of}
use Rattle.downlink_maker.specs.Downlink.{header_bytes}
use Rattle.downlink_maker.specs.Parts.{layers_before}
use Rattle.downlink_maker.proofs.Bytes.{Byte, bytes_all}
use Rattle.meter_side_main.specs.Reading.{counter_in, mac_in, parts_with}
use Rattle.meter_side_main.specs.Refusals.{HasBlocks, IsJudgedPlace, PlacesAreJudged}
use Rattle.meter_side_main.proofs.Genuineness.{small}
use Rattle.meter_side_main.proofs.Refusing.{eight, wide}

there : (xs : List ℕ) (p k : ℕ) → p ≤ k → get_or xs k 0 ≡ get_or (drop p xs) (k - p) 0
there xs p k h = let e : k ≡ p + (k - p) = omega arith in ap (λ (j : ℕ). get_or xs j 0) e ∙ sym (get_or-drop p xs (k - p) 0)

front_same : (xs ys zs : List ℕ) (n j : ℕ) → j < n → length xs ≡ n → xs ≡ take n zs → get_or (xs ++ ys) j 0 ≡ get_or zs j 0
front_same xs ys zs n j h long e = get_or_append_left xs ys 0 j (omega (arith, long)) ∙ ap (λ (x : List ℕ). get_or x j 0) e
    ∙ get_or-take n zs j 0 h

module _ (own a : Address) (t : List ℕ) (n : ℕ) (ht : IsTelegram t) (hb : IsBytes t) (h : HasBlocks t n) where
  abbrev want : List ℕ
  want = layers_before own a (parts_with t n)

  long : 57 ≤ length t
  long = omega (arith, ht.counted, h.counted, h.least)

  counter_there : (k : ℕ) → 15 ≤ k → k < 19 → get_or want k 0 ≡ get_or t k 0
  unfolding bytes_of
  counter_there k low high =
      let four : to_le_bytes w32 (counter_in t) ≡ take 4 (drop 15 t) =
      le_bytes_4 (take 4 (drop 15 t)) (counter_in t) (omega (arith, length-take 4 (drop 15 t), length-drop 15 t, long))
      (small (take 4 (drop 15 t)) (All-take Byte 4 (drop 15 t) (All-drop Byte 15 t (bytes_all t hb)))) refl in
      there want 15 k low ∙ front_same (to_le_bytes w32 (counter_in t)) (mac_in t ++ header_bytes a (counter_in t) n) (drop 15 t) 4
      (k - 15) (omega arith) refl four ∙ sym (there t 15 k low)

  mac_there : (k : ℕ) → 19 ≤ k → k < 27 → get_or want k 0 ≡ get_or t k 0
  unfolding bytes_of
  mac_there k low high =
      there want 19 k low ∙ front_same (mac_in t) (header_bytes a (counter_in t) n) (drop 19 t) 8 (k - 19) (omega arith) (eight t n ht h)
      refl ∙ sym (there t 19 k low)

  judged_place : (place : ℕ) → place < 41 → get_or want place 0 ≢ get_or t place 0 → IsJudgedPlace place
  judged_place place within other = elim (cases_lt place 15) [
    | inl low ↦ inl (omega arith)
    | inr high ↦ elim (cases_lt place 27) [
      | inr past ↦ inr (past, omega arith)
      | inl middle ↦ elim (cases_lt place 19) [
        | inl counter ↦ absurd (other (counter_there place high counter))
        | inr mac ↦ absurd (other (mac_there place mac middle))
      ]
    ]
  ]

  not_first : get_or want 0 0 ≢ get_or t 0 0 → ⊥
  not_first other = other (sym h.counted)

pub places_are_judged : PlacesAreJudged
places_are_judged own meter t place ht hb m = elim m [
  | inl p ↦ (inl (omega (arith, p.0)), ((λ e. p.1), (λ none. p.0)))
  | inr p ↦
      let n : ℕ = p.0 in
      let h : HasBlocks t n = p.1 in
      let short : place < 41 = omega (arith, p.2.within, wide own meter t n ht h) in (
        judged_place own meter t n ht hb h place short p.2.other,
        (
          (λ e. absurd (not_first own meter t n ht hb h
              (λ same. p.2.other (ap (λ (k : ℕ). get_or (layers_before own meter (parts_with t n)) k 0) e ∙ same
              ∙ ap (λ (k : ℕ). get_or t k 0) (sym e))))),
          (λ none. absurd (none n h)),
        ),
      )
]
