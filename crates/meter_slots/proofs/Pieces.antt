-- The piece of a message that stands behind a fragment's header.
use Rattle.std.proofs.Common.{ℕ, ◌≤◌, List, length, drop, Option, Some, None, ap, arith}
use Rattle.std.specs.Int.{w16, to_le_bytes}
use Rattle.std.proofs.lemmas.List.{length-append, length-drop}
use Rattle.ell_layer.specs.declared.extension.Ell.{Ell}
use Rattle.afl_layer.specs.declared.header.Afl.{Afl}
use Rattle.afl_layer.specs.Fields.{fields_bytes}
use Rattle.afl_layer.specs.Header.{afl_bytes}
use Rattle.afl_layer.proofs.FieldLaws.{length-two}
use Rattle.message_check.specs.declared.headers.Layers.{Layers}
use Rattle.message_check.specs.Layers.{ExtensionThen, FragmentationThen, IsLayers}
use Rattle.meter_slots.specs.Keeping.{PieceFits}

extension_is_no_longer : (bytes : List ℕ) (ell : Option Ell) (rest : List ℕ) → ExtensionThen bytes ell rest → length rest ≤ length bytes
extension_is_no_longer bytes None rest h = omega (arith, ap length h)
extension_is_no_longer bytes (Some e) rest h = omega (arith, ap length h.0.parts, length-append h.0.header h.0.rest, ap length h.1)

fits_behind : (bytes : List ℕ) (afl : Option Afl) (content piece : List ℕ) → FragmentationThen bytes afl content → length bytes ≤ 246
    → length piece ≤ length content → PieceFits afl piece
fits_behind bytes None content piece h b p = tt
fits_behind bytes (Some a) content piece h b p = λ f. record {
  fragment = record {
    fragment = f;
    numbered = h.0.placed.fid;
    placed = h.0.placed.fields;
    len = omega (
      arith,
      h.0.len,
      length-append (to_le_bytes w16 h.0.fcl) (fields_bytes a),
      length-two (Some h.0.fcl),
    );
  };
  most =
      omega (
        arith,
        ap length h.0.parts,
        length-append (afl_bytes h.0.fcl a) h.0.rest,
        length-append (to_le_bytes w16 h.0.fcl)
            (fields_bytes a),
        length-two (Some h.0.fcl),
        ap length h.1,
      );
}

-- a fragment of a telegram has a number, and its piece at most 242 bytes
pub piece_fits : (t : List ℕ) (l : Layers) → IsLayers t l → length t ≤ 256 → PieceFits l.afl (drop l.body t)
piece_fits t l h most =
    let after = extension_is_no_longer (drop 10 t) l.ell h.after_extension h.extension in
    let front : length (drop 10 t) ≤ 246 = omega (arith, length-drop 10 t) in
    fits_behind h.after_extension l.afl h.content (drop l.body t) h.fragmentation (omega (arith, after, front))
    (omega (arith, length-drop l.body t, h.body))
