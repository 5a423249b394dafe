-- The records of a payload are put as the items of an array.
use Rattle.std.proofs.Common.{◌≡◌, ℕ, ◌+◌, ◌<◌, nat_lt, Bool, true, false, List, [], ◌∷◌, ◌++◌, map, refl, sym, ap, ◌∙◌, append_assoc, arith}
use Rattle.std.specs.Prelude.{codes}
use Rattle.std.specs.List.{flat_map, enumerate_from}
use Rattle.std.proofs.lemmas.Bool.{lt-ltb}
use Rattle.json.specs.Json.{Json, array}
use Rattle.dif_vif.specs.declared.span.RecordSpan.{RecordSpan}
use Rattle.full_spans.specs.Listing.{full_spans_of}
use Rattle.record_objects.specs.Trees.{compact, inside, items_of, members_of}
use Rattle.record_objects.specs.Records.{record_members, record_object, record_objects}
use Rattle.record_objects.specs.Words.{item_words, items_words}
use Rattle.record_objects.proofs.Texts.{comma_if, json_text, items_text, compact_is, inner_is}

bracketed : (comma inner rest : List ℕ) → comma ++ (123 ∷ (inner ++ 125 ∷ []) ++ rest) ≡ (comma ++ codes "{" ++ inner ++ codes "}") ++ rest
bracketed comma inner rest = simp append_assoc

one_item : (payload : List ℕ) (later : Bool) (n : ℕ) (span : RecordSpan) (rest : List ℕ) → nat_lt 1 n ≡ later
    → comma_if later ++ (json_text (record_object n payload span) ++ rest) ≡ item_words payload (n, span) ++ rest
unfolding item_words
one_item payload later n span rest is =
    let named = record_members n payload span in
    ap (λ t. comma_if later ++ (123 ∷ (t ++ 125 ∷ []) ++ rest)) (sym (inner_is (members_of named)))
    ∙ bracketed (comma_if later) (inside named) rest
    ∙ ap (λ b. (comma_if b ++ codes "{" ++ inside named ++ codes "}") ++ rest) (sym is)

items_are : (payload : List ℕ) (later : Bool) (n : ℕ) (spans : List RecordSpan) → nat_lt 1 n ≡ later → 0 < n
    → items_text later (items_of (map (λ r. record_object r.0 payload r.1) (enumerate_from n spans)))
    ≡ flat_map (item_words payload) (enumerate_from n spans)
items_are payload later n [] is some = refl
items_are payload later n (span ∷ spans) is some =
    ap (λ t. comma_if later ++ (json_text (record_object n payload span) ++ t))
    (items_are payload true (n + 1) spans (lt-ltb 1 (n + 1) (omega arith)) (omega arith))
    ∙ one_item payload later n span _ is

pub objects_are : (payload : List ℕ) → compact (record_objects payload) ≡ codes "[" ++ (items_words payload ++ codes "]")
objects_are payload = compact_is (record_objects payload)
    ∙ ap (λ t. 91 ∷ (t ++ 93 ∷ [])) (items_are payload false 1 (full_spans_of payload) refl (omega arith))
