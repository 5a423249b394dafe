-- Each refusal comes exactly where its cause is the first.
use Rattle.std.proofs.Common.{◌≡◌, ◌≢◌, ℕ, zero, suc, ◌+◌, ◌<◌, ◌≤◌, Bool, true, false, cond, eqb, ltb, List, [], ◌∷◌, ◌++◌, length, take, drop, get_or, Result, Ok, Err, refl, sym, ap, ap₂, ◌∙◌, subst, arith, inl, inr, eq-eqb}
use Rattle.std.specs.Str.{bytes_eq}
use Rattle.std.proofs.lemmas.Bool.{eqb-true, eqb-false, ne_eqb, le-ltb, ltb-false, false_from_ne_true}
use Rattle.std.proofs.lemmas.List.{take-append-drop, length-take, length-drop, get_or-take}
use Rattle.std.proofs.lemmas.Slice.Eq.{bytes_eq-Decides}
use Rattle.aes_block.specs.Block.{IsBlock}
use Rattle.frame_formats.specs.Crc.{IsBytes}
use Rattle.frame_formats.specs.Frames.{IsTelegram, FrameA}
use Rattle.frame_formats.specs.Decoding.{decoded_a}
use Rattle.frame_formats.proofs.RelationA.{found, only}
use Rattle.frame_formats.proofs.FirstFault.{fault_found_a, fault_only_a}
use Rattle.meter_address.specs.declared.address.Address.{Address}
use Rattle.meter_address.specs.Commission.{Commissioned}
use Rattle.meter_side_main.specs.declared.delivery.Executed.{Executed}
use Rattle.meter_side_main.specs.declared.reason.SideReason.{SideReason}
use Rattle.meter_side_main.specs.declared.reason.SideReason.TheVariants.{Frame, Layout, BadMac, CheckBytes, Stale}
use Rattle.meter_side_main.specs.declared.reason.Did.TheVariants as did
use Rattle.meter_side_main.specs.Reading.{blocks_in, mac_in, parts_with, layout_of, agreeing, mac_due, decrypted, framed, is_length, told, did_with, did_after}
use Rattle.meter_side_main.specs.Refusals.{HasBlocks, IsFirstOther, IsLaidOut, IsRefusal, RefusedExactly}
use Rattle.meter_side_main.proofs.Agreeing.{agreed, agreeing-append, agreeing_to, agreeing-cases, agreeing-nil}
use Rattle.downlink_maker.specs.Parts.{layers_before}
use Rattle.downlink_maker.proofs.Parts.{length-layers_before}
use Rattle.lists.specs.Steps.{◌>>=◌}
use Rattle.lists.proofs.StepLaws.{bind_err, map_both_ok, map_both_err}
use Rattle.meter_side_main.proofs.Genuineness.{passed, is_counted, length_of_blocks, told_is_genuine, genuine_is_told}

-- a check that refuses, or what stands behind it
refused_by : {A : Type 0} (P : SideReason → Type 0) (b : Bool) (e : SideReason) (f : Unit {0} → Result A SideReason) (r : SideReason)
    → (cond b passed (Err e) >>= f) ≡ Err r → (b ≡ false → P e) → (b ≡ true → f tt ≡ Err r → P r) → P r
refused_by P true e f r h here behind = behind refl h
refused_by P false e f r h here behind = let is : e ≡ r = cc in subst P is (here refl)

-- ---- the first other byte

first_other : (want have : List ℕ) → length want ≤ length have → agreeing want have ≢ length want
    → IsFirstOther want have (agreeing want have)
first_other [] have long h = absurd (h (agreeing-nil have))
first_other (x ∷ xs) [] long h = absurd (omega arith)
first_other (x ∷ xs) (y ∷ ys) long h = by_test (eqb x y) (λ g. first_other xs ys (omega arith) g) refl where
  by_test : (b : Bool) → (agreeing xs ys ≢ length xs → IsFirstOther xs ys (agreeing xs ys)) → eqb x y ≡ b
      → IsFirstOther (x ∷ xs) (y ∷ ys) (agreeing (x ∷ xs) (y ∷ ys))
  by_test true rest e =
      let is : agreeing (x ∷ xs) (y ∷ ys) ≡ 1 + agreeing xs ys = agreeing-cases x y xs ys true e in
      let more : agreeing (x ∷ xs) (y ∷ ys) ≡ suc (agreeing xs ys) = omega (arith, is) in
      let one = rest (λ g. h (omega (arith, more, g))) in
      subst (IsFirstOther (x ∷ xs) (y ∷ ys)) (sym more) (record {
        within = omega (arith, one.within);
        before = ap₂ (λ (z : ℕ) (zs : List ℕ). z ∷ zs) (eqb-true x y e) one.before;
        other = one.other;
      })
  by_test false rest e =
      let is : agreeing (x ∷ xs) (y ∷ ys) ≡ zero = agreeing-cases x y xs ys false e in
      subst (IsFirstOther (x ∷ xs) (y ∷ ys)) (sym is) (record {
        within = omega arith;
        before = refl;
        other = eqb-false x y e;
      })

first_other_is : (want have : List ℕ) (place : ℕ) → length want ≤ length have → IsFirstOther want have place → agreeing want have ≡ place
first_other_is want have place long h =
    agreeing_to want have place (omega (arith, h.within)) long
    (λ k l. sym (get_or-take place want k 0 l) ∙ ap (λ (x : List ℕ). get_or x k 0) h.before ∙ get_or-take place have k 0 l)
    (λ l. h.other)

-- ---- L

blocks_are : (t : List ℕ) → is_length (get_or t 0 0) ≡ true → HasBlocks t (blocks_in t)
blocks_are t h = let l = is_counted (get_or t 0 0) h in
    record { least = omega (arith, l.0); most = omega (arith, l.1); counted = omega (arith, l.0, l.1, l.2) }

is_blocks : (t : List ℕ) (n : ℕ) → HasBlocks t n → is_length (get_or t 0 0) ≡ true
is_blocks t n h = ap (λ (l : ℕ). is_length l) h.counted ∙ length_of_blocks n h.least h.most

same_blocks : (t : List ℕ) (n : ℕ) → HasBlocks t n → n ≡ blocks_in t
same_blocks t n h = omega (arith, h.counted)

pub eight : (t : List ℕ) (n : ℕ) → IsTelegram t → HasBlocks t n → length (mac_in t) ≡ 8
eight t n ht h = omega (arith, length-take 8 (drop 19 t), length-drop 19 t, ht.counted, h.counted, h.least)

pub wide : (own a : Address) (t : List ℕ) (n : ℕ) → IsTelegram t → HasBlocks t n → length (layers_before own a (parts_with t n)) ≡ 41
wide own a t n ht h = length-layers_before own a (parts_with t n) (eight t n ht h)

long : (own a : Address) (t : List ℕ) (n : ℕ) → IsTelegram t → HasBlocks t n → length (layers_before own a (parts_with t n)) ≤ length t
long own a t n ht h = omega (arith, wide own a t n ht h, ht.counted, h.counted, h.least)

laid_agrees : (own a : Address) (t : List ℕ) (n : ℕ) → IsTelegram t → HasBlocks t n → take 41 t ≡ layers_before own a (parts_with t n)
    → agreeing (layout_of own a t) t ≡ 41
laid_agrees own a t n ht h laid =
    let want : List ℕ = layers_before own a (parts_with t n) in
    ap₂ agreeing (ap (λ (k : ℕ). layers_before own a (parts_with t k)) (sym (same_blocks t n h))) (sym (take-append-drop 41 t)
    ∙ ap (λ (x : List ℕ). x ++ drop 41 t) laid)
    ∙ agreeing-append want (drop 41 t) ∙ wide own a t n ht h

agrees_laid : (own a : Address) (t : List ℕ) → IsTelegram t → is_length (get_or t 0 0) ≡ true → agreeing (layout_of own a t) t ≡ 41
    → IsLaidOut own a t
agrees_laid own a t ht l agree =
    let h = blocks_are t l in
    let w = wide own a t (blocks_in t) ht h in
    (blocks_in t, h, ap (λ (k : ℕ). take k t) (sym w) ∙ agreed (layout_of own a t) t (agree ∙ sym w))

-- ---- what is refused has its cause

differs : (xs ys : List ℕ) → bytes_eq xs ys ≡ false → xs ≢ ys
differs xs ys other e = absurd (let same = (bytes_eq-Decides xs ys).1 e in cc)

told_refusal : (own : Address) (c : Commissioned) (last : ℕ) (bytes : List ℕ) (r : SideReason) → IsBytes bytes → told own c bytes ≡ Err r
    → IsRefusal own c last bytes r
unfolding told
told_refusal own c last bytes r hb h =
    let P : SideReason → Type 0 = IsRefusal own c last bytes in
    elim (bind_err (framed bytes) _ r h) [
      | inl f ↦
          let d = map_both_err (λ (x : List ℕ). x) Frame (decoded_a bytes) r f in
          subst P d.2 (fault_found_a bytes d.0 hb d.1)
      | inr a ↦
          let t : List ℕ = a.0 in
          let d = map_both_ok (λ (x : List ℕ). x) Frame (decoded_a bytes) t a.1 in
          let frame : FrameA bytes t = found bytes t hb (d.1 ∙ ap Ok d.2) in
          let want : List ℕ = layout_of own c.address t in
          let two : List ℕ = get_or (decrypted c t) 0 0 ∷ get_or (decrypted c t) 1 0 ∷ [] in
          refused_by P (is_length (get_or t 0 0)) (Layout 0) _ r a.2
          (λ short. (t, frame, inl (refl, (λ n b. absurd (let counted = is_blocks t n b in cc)))))
          (λ counted l.
          let blocks = blocks_are t counted in
          refused_by P (eqb (agreeing want t) 41) (Layout (agreeing want t)) _ r l
          (λ other.
          let differs : agreeing want t ≢ length want =
          λ e. absurd (let same = eq-eqb (agreeing want t) 41 (e ∙ wide own c.address t (blocks_in t) frame.telegram blocks) in cc) in
          (t, frame, inr (blocks_in t, blocks, first_other want t (long own c.address t (blocks_in t) frame.telegram blocks) differs)))
          (λ agree y.
          let laid = agrees_laid own c.address t frame.telegram counted (eqb-true _ _ agree) in
          refused_by P (bytes_eq (mac_due c t) (mac_in t)) BadMac _ r y (λ other. (t, frame, laid, differs _ _ other))
          (λ signed m. refused_by P (bytes_eq two (0x2F ∷ 0x2F ∷ [])) (CheckBytes two) _ r m
          (λ other. (t, frame, laid, (bytes_eq-Decides _ _).0 signed, refl, differs two (0x2F ∷ 0x2F ∷ []) other))
          (λ _ none. absurd cc))))
    ]

refused_with : (last : ℕ) (e : Executed) (b : Bool) (r : SideReason) → ltb last e.down ≡ b → did_with last (Ok e) ≡ did.Refused r
    → (e.down ≤ last) × (Stale e.down last ≡ r)
refused_with last e true r h g = absurd (let is : did_with last (Ok e) ≡ did.Executed e = rw h refl in cc)
refused_with last e false r h g = (
  ltb-false last e.down h,
  let is : did_with last (Ok e) ≡ did.Refused (Stale e.down last) = rw h refl in
      cc,
)

refusal_found : (own : Address) (c : Commissioned) (last : ℕ) (bytes : List ℕ) (r : SideReason) → IsBlock c.key → IsBytes bytes
    → did_after own c last bytes ≡ did.Refused r → IsRefusal own c last bytes r
refusal_found own c last bytes r hk hb h = by_told (told own c bytes) refl where
  by_told : (x : Result Executed SideReason) → told own c bytes ≡ x → IsRefusal own c last bytes r
  by_told (Err reason) e =
      let same : did.Refused reason ≡ did.Refused r = sym (ap (did_with last) e) ∙ h in
      let is : reason ≡ r = cc in
      told_refusal own c last bytes r hb (e ∙ ap Err is)
  by_told (Ok x) e =
      let q = refused_with last x (ltb last x.down) r refl (sym (ap (did_with last) e) ∙ h) in
      subst (IsRefusal own c last bytes) q.1 (x, told_is_genuine own c bytes x hk hb e, refl, refl, q.0)

-- ---- each cause is answered

differ : (xs ys : List ℕ) → xs ≢ ys → bytes_eq xs ys ≡ false
differ xs ys h = false_from_ne_true _ (λ same. h ((bytes_eq-Decides xs ys).0 same))

refusal_only : (own : Address) (c : Commissioned) (last : ℕ) (bytes : List ℕ) (r : SideReason) → IsBlock c.key → IsBytes bytes
    → IsRefusal own c last bytes r → did_after own c last bytes ≡ did.Refused r
unfolding told
refusal_only own c last bytes (Frame fault) hk hb h = rw (fault_only_a bytes fault hb h) refl
refusal_only own c last bytes (Layout place) hk hb (t, frame, inl p) =
    let l : is_length (get_or t 0 0) ≡ false = false_from_ne_true _ (λ same. p.1 (blocks_in t) (blocks_are t same)) in
    rw (only bytes t hb frame, l) (ap (λ (k : ℕ). did.Refused (Layout k)) (sym p.0))
refusal_only own c last bytes (Layout place) hk hb (t, frame, inr (n, blocks, first)) =
    let is : agreeing (layout_of own c.address t) t ≡ place =
    ap (λ (k : ℕ). agreeing (layers_before own c.address (parts_with t k)) t) (sym (same_blocks t n blocks))
    ∙ first_other_is (layers_before own c.address (parts_with t n)) t place (long own c.address t n frame.telegram blocks) first in
    let short : place < 41 = omega (arith, first.within, wide own c.address t n frame.telegram blocks) in
    let other : eqb (agreeing (layout_of own c.address t) t) 41 ≡ false = ne_eqb _ _ (λ e. absurd (omega (arith, e, is))) in
    rw (only bytes t hb frame, is_blocks t n blocks, other) (ap (λ (k : ℕ). did.Refused (Layout k)) is)
refusal_only own c last bytes BadMac hk hb (t, frame, (n, blocks, laid), unsigned) =
    let agree = laid_agrees own c.address t n frame.telegram blocks laid in
    rw (only bytes t hb frame, is_blocks t n blocks, agree, differ (mac_due c t) (mac_in t) unsigned) refl
refusal_only own c last bytes (CheckBytes two) hk hb (t, frame, (n, blocks, laid), signed, is, others) =
    let agree = laid_agrees own c.address t n frame.telegram blocks laid in
    let mac : bytes_eq (mac_due c t) (mac_in t) ≡ true = (bytes_eq-Decides _ _).1 signed in
    let begins : List ℕ = get_or (decrypted c t) 0 0 ∷ get_or (decrypted c t) 1 0 ∷ [] in
    rw (only bytes t hb frame, is_blocks t n blocks, agree, mac, differ begins (0x2F ∷ 0x2F ∷ []) (λ e. others (is ∙ e)))
    (ap (λ (x : List ℕ). did.Refused (CheckBytes x)) (sym is))
refusal_only own c last bytes (Stale got before) hk hb (e, genuine, down, same, low) =
    let old : ltb last e.down ≡ false = le-ltb _ _ (omega (arith, down, low)) in
    let stays : did_with last (Ok e) ≡ did.Refused (Stale e.down last) = rw old refl in
    ap (did_with last) (genuine_is_told own c bytes e hk genuine) ∙ stays ∙ ap₂ (λ (n k : ℕ). did.Refused (Stale n k)) down (sym same)

pub refused_exactly : RefusedExactly
refused_exactly own c last bytes r hk hb = (refusal_found own c last bytes r hk hb, refusal_only own c last bytes r hk hb)
