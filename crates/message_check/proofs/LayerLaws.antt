-- A telegram's layers: what is read is a reading, and a reading is read.
use Rattle.std.proofs.Common.{◌≡◌, ℕ, ◌+◌, ◌<◌, ◌≤◌, eqb, ◌&&◌, List, [], ◌∷◌, ◌++◌, length, drop, Option, Some, None, Result, Ok, Err, refl, sym, ap, subst, ◌∙◌, arith, inl, inr}
use Rattle.std.specs.Prelude.{nat_le, IfOk}
use Rattle.std.specs.Result.{result_map_both}
use Rattle.std.proofs.lemmas.Bool.{eqb-true}
use Rattle.std.proofs.lemmas.List.{length-append, length-drop, drop_at, drop-drop}
use Rattle.meter_address.specs.declared.address.Address.{Address}
use Rattle.frame_formats.specs.Crc.{IsBytes as AreBytes}
use Rattle.frame_formats.specs.Frames.{IsTelegram}
use Rattle.frame_formats.proofs.Checked.{byte_at}
use Rattle.ell_layer.specs.declared.extension.Ell.{Ell}
use Rattle.ell_layer.specs.Extension as extension
use Rattle.ell_layer.proofs.Headers as extension_laws
use Rattle.afl_layer.specs.declared.header.Afl.{Afl}
use Rattle.afl_layer.specs.Header as fragmentation
use Rattle.afl_layer.proofs.HeaderLaws as fragmentation_laws
use Rattle.afl_layer.proofs.FieldLaws.{IsBytes, IsBytes-drop}
use Rattle.tpl_headers.specs.declared.header.Tpl.{Tpl}
use Rattle.tpl_headers.specs.Header as transport
use Rattle.tpl_headers.proofs.Headers as transport_laws
use Rattle.lists.proofs.Choices.{chosen}
use Rattle.message_check.specs.declared.headers.Layers.{Layers}
use Rattle.message_check.specs.declared.refusal.LayerFault.{LayerFault}
use Rattle.message_check.specs.declared.refusal.LayerFault.TheVariants as faults
use Rattle.lists.proofs.StepLaws.{bind_ok, map_both_ok}
use Rattle.message_check.specs.Layers.{has_piece, ExtensionThen, FragmentationThen, IsContent, IsLayers, OneReading, ContentAtBody, extension_len, fragmentation_len, extension_in, fragmentation_in, header_in, layers_of}

abbrev read : Layers → Result Layers LayerFault
read l = Ok l

ok_is : (l m : Layers) → read l ≡ read m → l ≡ m
ok_is l m e = cc

-- ---- lengths and places of the parts

extension_then_len : (bytes : List ℕ) (ell : Option Ell) (rest : List ℕ) → ExtensionThen bytes ell rest
    → extension_len ell + length rest ≡ length bytes
extension_then_len bytes None rest h = omega (arith, ap length h)
extension_then_len bytes (Some e) rest h = omega (arith, ap length h.0.parts, length-append h.0.header h.0.rest, h.0.len, ap length h.1)

pub extension_then_rest : (bytes : List ℕ) (ell : Option Ell) (rest : List ℕ) → ExtensionThen bytes ell rest
    → drop (extension_len ell) bytes ≡ rest
extension_then_rest bytes None rest h = h
extension_then_rest bytes (Some e) rest h = ap (drop e.len) h.0.parts ∙ drop_at h.0.header h.0.rest e.len (sym h.0.len) ∙ h.1

fragmentation_then_len : (bytes : List ℕ) (afl : Option Afl) (rest : List ℕ) → FragmentationThen bytes afl rest
    → fragmentation_len afl + length rest ≡ length bytes
fragmentation_then_len bytes None rest h = omega (arith, ap length h)
fragmentation_then_len bytes (Some a) rest h =
    omega (arith, ap length h.0.parts, length-append (fragmentation.afl_bytes h.0.fcl a) h.0.rest, h.0.len, ap length h.1)

pub fragmentation_then_rest : (bytes : List ℕ) (afl : Option Afl) (rest : List ℕ) → FragmentationThen bytes afl rest
    → drop (fragmentation_len afl) bytes ≡ rest
fragmentation_then_rest bytes None rest h = h
fragmentation_then_rest bytes (Some a) rest h =
    ap (drop a.len) h.0.parts ∙ drop_at (fragmentation.afl_bytes h.0.fcl a) h.0.rest a.len (sym h.0.len) ∙ h.1

-- ---- what is read is a reading

pub extension_found : (bytes : List ℕ) (ell : Option Ell) → extension_in bytes ≡ Ok ell
    → ExtensionThen bytes ell (drop (extension_len ell) bytes)
extension_found [] ell e =
    let none : None ≡ ell = cc in
    subst (λ (x : Option Ell). ExtensionThen [] x (drop (extension_len x) [])) none refl
extension_found (ci ∷ rest) ell e =
    let bytes : List ℕ = ci ∷ rest in
    elim (chosen (nat_le 0x8C ci && nat_le ci 0x8F) _ _ _ e) [
      | inl some ↦
          let made = map_both_ok Some faults.Ell (extension.ell_at bytes) ell some.1 in
          let begins : extension.BeginsWithEll bytes made.0 = extension_laws.is_found bytes (Ok made.0) (sym made.1) in
          subst (λ (x : Option Ell). ExtensionThen bytes x (drop (extension_len x) bytes)) made.2
          (begins, sym (extension_then_rest bytes (Some made.0) begins.rest (begins, refl)))
      | inr other ↦
          let none : None ≡ ell = cc other.1 in
          subst (λ (x : Option Ell). ExtensionThen bytes x (drop (extension_len x) bytes)) none refl
    ]

pub fragmentation_found : (bytes : List ℕ) (afl : Option Afl) → IsBytes bytes → fragmentation_in bytes ≡ Ok afl
    → FragmentationThen bytes afl (drop (fragmentation_len afl) bytes)
fragmentation_found [] afl fits e =
    let none : None ≡ afl = cc in
    subst (λ (x : Option Afl). FragmentationThen [] x (drop (fragmentation_len x) [])) none refl
fragmentation_found (ci ∷ rest) afl fits e =
    let bytes : List ℕ = ci ∷ rest in
    elim (chosen (eqb ci 0x90) _ _ _ e) [
      | inl some ↦
          let made = map_both_ok Some faults.Afl (fragmentation.afl_at bytes) afl some.1 in
          let begins : fragmentation.BeginsWithAfl bytes made.0 =
          fragmentation_laws.is_found bytes (Ok made.0) (ap Some (eqb-true ci 0x90 some.0)) fits (sym made.1) in
          subst (λ (x : Option Afl). FragmentationThen bytes x (drop (fragmentation_len x) bytes)) made.2
          (begins, sym (fragmentation_then_rest bytes (Some made.0) begins.rest (begins, refl)))
      | inr other ↦
          let none : None ≡ afl = cc other.1 in
          subst (λ (x : Option Afl). FragmentationThen bytes x (drop (fragmentation_len x) bytes)) none refl
    ]

header_found : (afl : Option Afl) (bytes : List ℕ) (tpl : Option Tpl) → IsBytes bytes → header_in afl bytes ≡ Ok tpl
    → IsContent bytes afl tpl
header_found afl bytes tpl fits e =
    elim (chosen (has_piece afl) _ _ _ e) [
      | inl piece ↦
          let none : None ≡ tpl = cc piece.1 in
          subst (IsContent bytes afl) none piece.0
      | inr whole ↦
          let made = map_both_ok Some faults.Tpl (transport.tpl_at bytes) tpl whole.1 in
          subst (IsContent bytes afl) made.2 (whole.0, transport_laws.is_found bytes (Ok made.0) fits (sym made.1))
    ]

layers_made : (t : List ℕ) (ell : Option Ell) (afl : Option Afl) (tpl : Option Tpl) → 10 ≤ length t → IsBytes t
    → extension_in (drop 10 t) ≡ Ok ell
    → fragmentation_in (drop (10 + extension_len ell) t) ≡ Ok afl
    → header_in afl (drop (10 + extension_len ell + fragmentation_len afl) t) ≡ Ok tpl
    → IsLayers t (record { ell = ell; afl = afl; tpl = tpl; body = 10 + extension_len ell + fragmentation_len afl })
layers_made t ell afl tpl long fits e1 e2 e3 =
    let after : List ℕ = drop (extension_len ell) (drop 10 t) in
    let content : List ℕ = drop (fragmentation_len afl) after in
    let after_is : after ≡ drop (10 + extension_len ell) t = drop-drop (extension_len ell) 10 t in
    let content_is : content ≡ drop (10 + extension_len ell + fragmentation_len afl) t =
    ap (drop (fragmentation_len afl)) after_is ∙ drop-drop (fragmentation_len afl) (10 + extension_len ell) t in
    let fits_after = IsBytes-drop (extension_len ell) (drop 10 t) (IsBytes-drop 10 t fits) in
    let extension = extension_found (drop 10 t) ell e1 in
    let fragmentation = fragmentation_found after afl fits_after (ap fragmentation_in after_is ∙ e2) in
    let message =
    header_found afl content tpl (IsBytes-drop (fragmentation_len afl) after fits_after) (ap (header_in afl) content_is ∙ e3) in
    let len_e = extension_then_len (drop 10 t) ell after extension in
    let len_a = fragmentation_then_len after afl content fragmentation in
    let whole = length-drop 10 t in record {
      after_extension = after;
      content = content;
      extension = extension;
      fragmentation = fragmentation;
      message = message;
      body = omega arith;
    }

pub layers_found : (t : List ℕ) (l : Layers) → 10 ≤ length t → IsBytes t → layers_of t ≡ Ok l → IsLayers t l
unfolding layers_of
layers_found t l long fits e =
    let ell = bind_ok (extension_in (drop 10 t)) _ l e in
    let afl = bind_ok (fragmentation_in (drop (10 + extension_len ell.0) t)) _ l ell.2 in
    let tpl = bind_ok (header_in afl.0 (drop (10 + extension_len ell.0 + fragmentation_len afl.0) t)) _ l afl.2 in
    let made : Layers = record { ell = ell.0; afl = afl.0; tpl = tpl.0; body = 10 + extension_len ell.0 + fragmentation_len afl.0 } in
    subst (IsLayers t) (ok_is made l tpl.2) (layers_made t ell.0 afl.0 tpl.0 long fits ell.1 afl.1 tpl.1)

-- ---- a reading is read

-- a message begins with no CI of an extension, nor with that of the fragmentation layer
header_ci : (ci : ℕ) (rest : List ℕ) (address : Option Address) → transport.HasItsAddress ci address
    → (extension_in (ci ∷ rest) ≡ Ok None) × (fragmentation_in (ci ∷ rest) ≡ Ok None)
header_ci ci rest None (inl e) = rw e (refl, refl)
header_ci ci rest None (inr e) = rw e (refl, refl)
header_ci ci rest (Some a) (inl e) = rw e (refl, refl)
header_ci ci rest (Some a) (inr e) = rw e (refl, refl)

message_ci : (content : List ℕ) (tpl : Option Tpl) → IsContent content None tpl
    → (extension_in content ≡ Ok None) × (fragmentation_in content ≡ Ok None)
message_ci content None h = absurd cc
message_ci content (Some t) h =
    let P : List ℕ → Type 0 = λ x. (extension_in x ≡ Ok None) × (fragmentation_in x ≡ Ok None) in
    subst P (sym h.1.parts) (header_ci t.ci _ t.address h.1.is_header.address)

fragmentation_ci : (bytes : List ℕ) (afl : Option Afl) (content : List ℕ) (tpl : Option Tpl) → FragmentationThen bytes afl content
    → IsContent content afl tpl
    → extension_in bytes ≡ Ok None
fragmentation_ci bytes None content tpl then message = ap extension_in then ∙ (message_ci content tpl message).0
fragmentation_ci bytes (Some a) content tpl then message = ap extension_in then.0.parts

-- some byte is there behind an extension
some_follow : (bytes : List ℕ) (afl : Option Afl) (content : List ℕ) (tpl : Option Tpl) → FragmentationThen bytes afl content
    → IsContent content afl tpl → 0 < length bytes
some_follow bytes None content None then message = absurd cc
some_follow bytes None content (Some t) then message = omega (arith, ap length then, ap length message.1.parts)
some_follow bytes (Some a) content tpl then message = omega (arith, ap length then.0.parts)

-- an extension or a fragmentation layer that is there is read
pub extension_some : (bytes : List ℕ) (e : Ell) → extension.BeginsWithEll bytes e → extension_in bytes ≡ Ok (Some e)
extension_some bytes e begins =
    let P : List ℕ → Type 0 = λ x. extension_in x ≡ result_map_both Some faults.Ell (extension.ell_at x) in
    let tried : P bytes =
    elim begins.spelt [
      | inl short ↦ subst P (sym (begins.parts ∙ ap (λ (x : List ℕ). x ++ begins.rest) short.bytes)) refl
      | inr long ↦ subst P (sym (begins.parts ∙ ap (λ (x : List ℕ). x ++ begins.rest) long.bytes)) refl
    ] in
    tried ∙ ap (result_map_both Some faults.Ell) (extension_laws.is_only bytes (extension.ell_at bytes) refl e begins)

pub fragmentation_some : (bytes : List ℕ) (a : Afl) → fragmentation.BeginsWithAfl bytes a → fragmentation_in bytes ≡ Ok (Some a)
fragmentation_some bytes a begins =
    let P : List ℕ → Type 0 = λ x. fragmentation_in x ≡ result_map_both Some faults.Afl (fragmentation.afl_at x) in
    let tried : P bytes = subst P (sym begins.parts) refl in
    tried ∙ ap (result_map_both Some faults.Afl) (fragmentation_laws.is_only bytes (fragmentation.afl_at bytes) refl a begins)

pub extension_again : (bytes : List ℕ) (ell : Option Ell) (rest : List ℕ) → ExtensionThen bytes ell rest → extension_in rest ≡ Ok None
    → extension_in bytes ≡ Ok ell
extension_again bytes None rest then none = ap extension_in then ∙ none
extension_again bytes (Some e) rest then none = extension_some bytes e then.0

fragmentation_again : (bytes : List ℕ) (afl : Option Afl) (content : List ℕ) (tpl : Option Tpl) → FragmentationThen bytes afl content
    → IsContent content afl tpl
    → fragmentation_in bytes ≡ Ok afl
fragmentation_again bytes None content tpl then message = ap fragmentation_in then ∙ (message_ci content tpl message).1
fragmentation_again bytes (Some a) content tpl then message = fragmentation_some bytes a then.0

header_again : (afl : Option Afl) (content : List ℕ) (tpl : Option Tpl) → IsContent content afl tpl → header_in afl content ≡ Ok tpl
header_again afl content None h = rw h refl
header_again afl content (Some t) h = rw (h.0, transport_laws.is_only content (transport.tpl_at content) refl t h.1) refl

-- where the parts of a reading stand
record Places (t : List ℕ) (l : Layers) (after content : List ℕ) : Type 0 where
  pub after_is : drop (10 + extension_len l.ell) t ≡ after
  pub content_is : drop (10 + extension_len l.ell + fragmentation_len l.afl) t ≡ content
  pub body_is : 10 + extension_len l.ell + fragmentation_len l.afl ≡ l.body

places : (t : List ℕ) (l : Layers) (h : IsLayers t l) → Places t l h.after_extension h.content
places t l h =
    let e : ℕ = extension_len l.ell in
    let a : ℕ = fragmentation_len l.afl in
    let len_e = extension_then_len (drop 10 t) l.ell h.after_extension h.extension in
    let len_a = fragmentation_then_len h.after_extension l.afl h.content h.fragmentation in
    let some = some_follow h.after_extension l.afl h.content l.tpl h.fragmentation h.message in
    let after_is : drop (10 + e) t ≡ h.after_extension =
    sym (drop-drop e 10 t) ∙ extension_then_rest (drop 10 t) l.ell h.after_extension h.extension in record {
      after_is = after_is;
      content_is =
          sym (drop-drop a (10 + e) t) ∙ ap (drop a) after_is ∙ fragmentation_then_rest h.after_extension l.afl h.content h.fragmentation;
      body_is = omega (arith, len_e, len_a, some, h.body, length-drop 10 t);
    }

pub layers_again : (t : List ℕ) (l : Layers) → IsLayers t l → layers_of t ≡ Ok l
unfolding layers_of
layers_again t l h =
    let at = places t l h in
    let e1 : extension_in (drop 10 t) ≡ Ok l.ell =
    extension_again (drop 10 t) l.ell h.after_extension h.extension
    (fragmentation_ci h.after_extension l.afl h.content l.tpl h.fragmentation h.message) in
    let e2 : fragmentation_in (drop (10 + extension_len l.ell) t) ≡ Ok l.afl =
    ap fragmentation_in at.after_is ∙ fragmentation_again h.after_extension l.afl h.content l.tpl h.fragmentation h.message in
    let e3 : header_in l.afl (drop (10 + extension_len l.ell + fragmentation_len l.afl) t) ≡ Ok l.tpl =
    ap (header_in l.afl) at.content_is ∙ header_again l.afl h.content l.tpl h.message in
    rw (e1, e2, e3) (ap (λ (n : ℕ). read (record { ell = l.ell; afl = l.afl; tpl = l.tpl; body = n })) at.body_is)

-- ---- what the contracts say

pub is_found : (t : List ℕ) (r : Result Layers LayerFault) → IsTelegram t → AreBytes t → r ≡ layers_of t → IfOk r (λ l. IsLayers t l)
is_found t (Ok l) telegram bytes h = layers_found t l (omega arith) (λ i. byte_at t i bytes) (sym h)
is_found t (Err f) telegram bytes h = tt

pub is_only : (t : List ℕ) (r : Result Layers LayerFault) → r ≡ layers_of t → (l : Layers) → IsLayers t l → r ≡ Ok l
is_only t r h l reading = h ∙ layers_again t l reading

pub one_reading : OneReading
one_reading t l m h k = ok_is l m (sym (layers_again t l h) ∙ layers_again t m k)

pub content_at_body : ContentAtBody
content_at_body t l h = let at = places t l h in ap (λ (n : ℕ). drop n t) (sym at.body_is) ∙ at.content_is
