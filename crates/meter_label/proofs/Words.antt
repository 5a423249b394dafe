-- A word of a table.
use Rattle.std.proofs.Common.{◌≡◌, ℕ, zero, suc, List, [], ◌∷◌, map, slice_get, slice_index_or, refl}
use Rattle.std.specs.Prelude.{codes}
use Rattle.meter_label.specs.DeviceTypes.{text_of}

pub text_at : {A : Type 0} (text : A → List ℕ) (words : List A) (i : ℕ)
    → text_of (slice_get words i) text ≡ slice_index_or (map text words) i (codes "reserved")
text_at text [] i = refl
text_at text (word ∷ words) zero = refl
text_at text (word ∷ words) (suc i) = text_at text words i
