-- A telegram's first fault: what is refused has it, and what has it is refused.
use Rattle.std.proofs.Common.{◌≡◌, ℕ, ◌+◌, ◌≤◌, ◌↔◌, true, false, eqb, ◌&&◌, List, [], ◌∷◌, drop, Option, Some, None, Result, Ok, Err, refl, sym, ap, subst, ◌∙◌, arith, inl, inr}
use Rattle.std.specs.Prelude.{nat_le}
use Rattle.std.specs.Result.{result_map_both}
use Rattle.std.proofs.lemmas.Bool.{eqb-true, false_from_ne_true}
use Rattle.std.proofs.lemmas.Bool.Decides.{nat_tests}
use Rattle.std.proofs.lemmas.List.{drop-drop}
use Rattle.frame_formats.specs.Crc.{IsBytes as AreBytes}
use Rattle.frame_formats.proofs.Checked.{byte_at}
use Rattle.ell_layer.specs.declared.extension.Ell.{Ell}
use Rattle.ell_layer.specs.declared.extension.EllFault.{EllFault}
use Rattle.ell_layer.specs.Extension as extension
use Rattle.ell_layer.proofs.Faults as extension_faults
use Rattle.afl_layer.specs.declared.header.Afl.{Afl}
use Rattle.afl_layer.specs.declared.header.AflFault.{AflFault}
use Rattle.afl_layer.specs.Header as fragmentation
use Rattle.afl_layer.proofs.Faults as fragmentation_faults
use Rattle.afl_layer.proofs.FieldLaws.{IsBytes, IsBytes-drop}
use Rattle.tpl_headers.specs.declared.header.TplFault.{TplFault}
use Rattle.tpl_headers.specs.Header as transport
use Rattle.tpl_headers.proofs.Faults as transport_faults
use Rattle.lists.proofs.Choices.{chosen}
use Rattle.message_check.specs.declared.headers.Layers.{Layers}
use Rattle.message_check.specs.declared.refusal.LayerFault.{LayerFault}
use Rattle.message_check.specs.declared.refusal.LayerFault.TheVariants as faults
use Rattle.message_check.specs.Layers.{has_piece, ExtensionThen, FragmentationThen, HasExtensionCi, HasFragmentationCi, IsBefore, IsLayerFault, extension_len, fragmentation_len, extension_in, fragmentation_in, header_in, layers_of}
use Rattle.lists.proofs.StepLaws.{map_both_ok, map_both_err}
use Rattle.message_check.proofs.Causes.{of_steps, of_last}
use Rattle.message_check.proofs.LayerLaws.{extension_then_rest, fragmentation_then_rest, extension_found, fragmentation_found, extension_some, fragmentation_some, extension_again}

-- ---- the extension of the link layer

in_range : (ci : ℕ) → (nat_le 0x8C ci && nat_le ci 0x8F) ≡ true → (0x8C ≤ ci) × (ci ≤ 0x8F)
in_range ci e = grind (arith, nat_tests)

range_test : (ci : ℕ) → 0x8C ≤ ci → ci ≤ 0x8F → (nat_le 0x8C ci && nat_le ci 0x8F) ≡ true
range_test ci low high = grind (arith, nat_tests)

extension_none : (bytes : List ℕ) → (¬ HasExtensionCi bytes) → extension_in bytes ≡ Ok None
extension_none [] none = refl
extension_none (ci ∷ rest) none =
    let test : (nat_le 0x8C ci && nat_le ci 0x8F) ≡ false =
    false_from_ne_true _ (λ e. let r = in_range ci e in none (ci, refl, r.0, r.1)) in
    rw test refl

-- with its CI the extension is tried
extension_tried : (bytes : List ℕ) → HasExtensionCi bytes → extension_in bytes ≡ result_map_both Some faults.Ell (extension.ell_at bytes)
extension_tried [] h = absurd cc
extension_tried (b ∷ rest) h =
    let ci : b ≡ h.0 = cc h.1 in
    let test : (nat_le 0x8C b && nat_le b 0x8F) ≡ true = range_test b (omega (arith, ci, h.2)) (omega (arith, ci, h.3)) in
    rw test refl

-- where no extension is read there is no CI of one
no_extension : (bytes : List ℕ) (ell : Option Ell) → extension_in bytes ≡ Ok ell → ell ≡ None
    → ¬ HasExtensionCi (drop (extension_len ell) bytes)
no_extension bytes None e none h =
    let made = map_both_ok Some faults.Ell (extension.ell_at bytes) None (sym (extension_tried bytes h) ∙ e) in
    absurd (cc made.2)
no_extension bytes (Some x) e none h = absurd cc

extension_fault : (bytes : List ℕ) (r : LayerFault) → extension_in bytes ≡ Err r
    → HasExtensionCi bytes × ((f : EllFault) × extension.IsEllFault bytes f × (faults.Ell f ≡ r))
extension_fault [] r e = absurd cc
extension_fault (ci ∷ rest) r e =
    elim (chosen (nat_le 0x8C ci && nat_le ci 0x8F) _ _ _ e) [
      | inl some ↦
          let range = in_range ci some.0 in
          let made = map_both_err Some faults.Ell (extension.ell_at (ci ∷ rest)) r some.1 in
          ((ci, refl, range.0, range.1), (made.0, (extension_faults.faults (ci ∷ rest) made.0).0 made.1, made.2))
      | inr other ↦ absurd (cc other.1)
    ]

extension_refused : (bytes : List ℕ) (f : EllFault) → HasExtensionCi bytes → extension.IsEllFault bytes f
    → extension_in bytes ≡ Err (faults.Ell f)
extension_refused bytes f ci h = extension_tried bytes ci ∙ ap (result_map_both Some faults.Ell) ((extension_faults.faults bytes f).1 h)

extension_is : (bytes : List ℕ) (ell : Option Ell) (rest : List ℕ) → ExtensionThen bytes ell rest → (ell ≡ None → ¬ HasExtensionCi rest)
    → extension_in bytes ≡ Ok ell
extension_is bytes None rest then none = ap extension_in then ∙ extension_none rest (none refl)
extension_is bytes (Some e) rest then none = extension_some bytes e then.0

-- ---- the fragmentation layer

fragmentation_tried : (bytes : List ℕ) → HasFragmentationCi bytes
    → fragmentation_in bytes ≡ result_map_both Some faults.Afl (fragmentation.afl_at bytes)
fragmentation_tried [] h = absurd cc
fragmentation_tried (b ∷ rest) h = let ci : b ≡ 0x90 = cc h in rw ci refl

-- the CI of the fragmentation layer is none of an extension
no_extension_there : (bytes : List ℕ) → HasFragmentationCi bytes → extension_in bytes ≡ Ok None
no_extension_there [] h = absurd cc
no_extension_there (b ∷ rest) h = let ci : b ≡ 0x90 = cc h in rw ci refl

fragmentation_none : (bytes : List ℕ) → (¬ HasFragmentationCi bytes) → fragmentation_in bytes ≡ Ok None
fragmentation_none [] none = refl
fragmentation_none (ci ∷ rest) none =
    let test : eqb ci 0x90 ≡ false = false_from_ne_true _ (λ e. none (ap Some (eqb-true ci 0x90 e))) in
    rw test refl

no_fragmentation : (bytes : List ℕ) (afl : Option Afl) → fragmentation_in bytes ≡ Ok afl → afl ≡ None
    → ¬ HasFragmentationCi (drop (fragmentation_len afl) bytes)
no_fragmentation bytes None e none h =
    let made = map_both_ok Some faults.Afl (fragmentation.afl_at bytes) None (sym (fragmentation_tried bytes h) ∙ e) in
    absurd (cc made.2)
no_fragmentation bytes (Some x) e none h = absurd cc

fragmentation_fault : (bytes : List ℕ) (r : LayerFault) → IsBytes bytes → fragmentation_in bytes ≡ Err r
    → HasFragmentationCi bytes × ((f : AflFault) × fragmentation.IsAflFault bytes f × (faults.Afl f ≡ r))
fragmentation_fault [] r fits e = absurd cc
fragmentation_fault (ci ∷ rest) r fits e =
    elim (chosen (eqb ci 0x90) _ _ _ e) [
      | inl some ↦
          let is : HasFragmentationCi (ci ∷ rest) = ap Some (eqb-true ci 0x90 some.0) in
          let made = map_both_err Some faults.Afl (fragmentation.afl_at (ci ∷ rest)) r some.1 in
          (is, (made.0, (fragmentation_faults.faults (ci ∷ rest) made.0 is fits).0 made.1, made.2))
      | inr other ↦ absurd (cc other.1)
    ]

fragmentation_refused : (bytes : List ℕ) (f : AflFault) → IsBytes bytes → HasFragmentationCi bytes → fragmentation.IsAflFault bytes f
    → fragmentation_in bytes ≡ Err (faults.Afl f)
fragmentation_refused bytes f fits ci h =
    fragmentation_tried bytes ci ∙ ap (result_map_both Some faults.Afl) ((fragmentation_faults.faults bytes f ci fits).1 h)

fragmentation_is : (bytes : List ℕ) (afl : Option Afl) (rest : List ℕ) → FragmentationThen bytes afl rest
    → (afl ≡ None → ¬ HasFragmentationCi rest) → fragmentation_in bytes ≡ Ok afl
fragmentation_is bytes None rest then none = ap fragmentation_in then ∙ fragmentation_none rest (none refl)
fragmentation_is bytes (Some a) rest then none = fragmentation_some bytes a then.0

-- ---- the transport header

header_fault : (afl : Option Afl) (bytes : List ℕ) (r : LayerFault) → header_in afl bytes ≡ Err r
    → (has_piece afl ≡ false) × ((f : TplFault) × transport.IsTplFault bytes f × (faults.Tpl f ≡ r))
header_fault afl bytes r e =
    elim (chosen (has_piece afl) _ _ _ e) [
      | inl piece ↦ absurd (cc piece.1)
      | inr whole ↦
          let made = map_both_err Some faults.Tpl (transport.tpl_at bytes) r whole.1 in
          (whole.0, (made.0, (transport_faults.faults bytes made.0).0 made.1, made.2))
    ]

header_refused : (afl : Option Afl) (bytes : List ℕ) (f : TplFault) → has_piece afl ≡ false → transport.IsTplFault bytes f
    → header_in afl bytes ≡ Err (faults.Tpl f)
header_refused afl bytes f whole h = rw (whole, (transport_faults.faults bytes f).1 h) refl

-- ---- the telegram

-- what stands behind both layers
behind : (t : List ℕ) (ell : Option Ell) (after : List ℕ) → ExtensionThen (drop 10 t) ell after → drop (10 + extension_len ell) t ≡ after
behind t ell after then = sym (drop-drop (extension_len ell) 10 t) ∙ extension_then_rest (drop 10 t) ell after then

behind_both : (t : List ℕ) (ell : Option Ell) (afl : Option Afl) (after rest : List ℕ) → ExtensionThen (drop 10 t) ell after
    → FragmentationThen after afl rest
    → drop (10 + extension_len ell + fragmentation_len afl) t ≡ rest
behind_both t ell afl after rest first second =
    sym (drop-drop (fragmentation_len afl) (10 + extension_len ell) t) ∙ ap (drop (fragmentation_len afl)) (behind t ell after first)
    ∙ fragmentation_then_rest after afl rest second

fault_found : (t : List ℕ) (r : LayerFault) → IsBytes t → layers_of t ≡ Err r → IsLayerFault t r
unfolding layers_of
fault_found t r fits e =
    let P : LayerFault → Type 0 = IsLayerFault t in
    of_steps P (extension_in (drop 10 t)) _ r e
    (λ d first. let f = extension_fault (drop 10 t) d first in subst P f.1.2 (f.0, f.1.1))
    (λ ell read e1.
    let after : List ℕ = drop (extension_len ell) (drop 10 t) in
    let after_is : after ≡ drop (10 + extension_len ell) t = drop-drop (extension_len ell) 10 t in
    let fits_after = IsBytes-drop (extension_len ell) (drop 10 t) (IsBytes-drop 10 t fits) in
    let extension = extension_found (drop 10 t) ell read in
    of_steps P (fragmentation_in (drop (10 + extension_len ell) t)) _ r e1
    (λ d second.
    let f = fragmentation_fault after d fits_after (ap fragmentation_in after_is ∙ second) in
    subst P f.1.2 (ell, after, extension, f.0, f.1.1))
    (λ afl read1 e2.
    let read2 : fragmentation_in after ≡ Ok afl = ap fragmentation_in after_is ∙ read1 in
    let rest : List ℕ = drop (fragmentation_len afl) after in
    let rest_is : rest ≡ drop (10 + extension_len ell + fragmentation_len afl) t =
    ap (drop (fragmentation_len afl)) after_is ∙ drop-drop (fragmentation_len afl) (10 + extension_len ell) t in
    let before : IsBefore t ell afl rest = record {
      after_extension = after;
      extension = extension;
      no_extension = no_extension (drop 10 t) ell read;
      fragmentation = fragmentation_found after afl fits_after read2;
      no_fragmentation = no_fragmentation after afl read2;
    } in
    of_last P (header_in afl (drop (10 + extension_len ell + fragmentation_len afl) t)) _ r e2
    (λ d third.
    let f = header_fault afl rest d (ap (header_in afl) rest_is ∙ third) in
    subst P f.1.2 (ell, afl, rest, before, f.0, f.1.1))))

fault_again : (t : List ℕ) (r : LayerFault) → IsBytes t → IsLayerFault t r → layers_of t ≡ Err r
unfolding layers_of
fault_again t (faults.Ell f) fits h = rw (extension_refused (drop 10 t) f h.0 h.1) refl
fault_again t (faults.Afl f) fits h =
    let ell : Option Ell = h.0 in
    let at : drop (10 + extension_len ell) t ≡ h.1 = behind t ell h.1 h.2 in
    let fits_rest = subst IsBytes at (IsBytes-drop (10 + extension_len ell) t fits) in
    let e1 : extension_in (drop 10 t) ≡ Ok ell = extension_again (drop 10 t) ell h.1 h.2 (no_extension_there h.1 h.3) in
    let e2 : fragmentation_in (drop (10 + extension_len ell) t) ≡ Err (faults.Afl f) =
    ap fragmentation_in at ∙ fragmentation_refused h.1 f fits_rest h.3 h.4 in
    rw (e1, e2) refl
fault_again t (faults.Tpl f) fits h =
    let ell : Option Ell = h.0 in
    let afl : Option Afl = h.1 in
    let rest : List ℕ = h.2 in
    let before : IsBefore t ell afl rest = h.3 in
    let e1 : extension_in (drop 10 t) ≡ Ok ell = extension_is (drop 10 t) ell before.after_extension before.extension before.no_extension in
    let e2 : fragmentation_in (drop (10 + extension_len ell) t) ≡ Ok afl =
    ap fragmentation_in (behind t ell before.after_extension before.extension)
    ∙ fragmentation_is before.after_extension afl rest before.fragmentation before.no_fragmentation in
    let e3 : header_in afl (drop (10 + extension_len ell + fragmentation_len afl) t) ≡ Err (faults.Tpl f) =
    ap (header_in afl) (behind_both t ell afl before.after_extension rest before.extension before.fragmentation)
    ∙ header_refused afl rest f h.4 h.5 in
    rw (e1, e2, e3) refl

pub is_fault : (t : List ℕ) (r : Result Layers LayerFault) → AreBytes t → r ≡ layers_of t → (f : LayerFault)
    → (r ≡ Err f) ↔ IsLayerFault t f
is_fault t r bytes h f = (λ e. fault_found t f (λ i. byte_at t i bytes) (sym h ∙ e), λ is. h ∙ fault_again t f (λ i. byte_at t i bytes) is)
