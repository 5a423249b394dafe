-- The words of a record are the text of its members, in either form.
use Rattle.std.proofs.Common.{◌≡◌, ℕ, Bool, true, false, cond, List, [], ◌∷◌, ◌++◌, ◌<◌, map, Option, Some, None, option_map, IfSome, refl, ◌∙◌, append_assoc, append-nil, arith}
use Rattle.std.specs.Prelude.{codes}
use Rattle.std.specs.Fmt.{decimal}
use Rattle.hex.specs.Hex.{encode_lower}
use Rattle.json.specs.Json.{Json, string}
use Rattle.json.specs.Print.{print}
use Rattle.paper.specs.Pieces.{labelled}
use Rattle.dif_vif.specs.declared.span.RecordSpan.{RecordSpan}
use Rattle.record_values.specs.declared.units.Quantity.{Quantity}
use Rattle.record_values.specs.Units.{unit}
use Rattle.record_text.specs.Words.{quantity_text}
use Rattle.record_text.specs.Lines.{bytes_at}
use Rattle.full_records.specs.declared.quantities.FullQuantity.{FullQuantity}
use Rattle.full_records.specs.declared.makers_own.PlainValue.{PlainValue}
use Rattle.full_records.specs.declared.readings.DataType.{DataType}
use Rattle.full_records.specs.declared.readings.DataType.TheVariants as types
use Rattle.full_records.specs.Measures.{measure}
use Rattle.full_records.specs.Qualifiers.{first_place}
use Rattle.full_records.specs.Records.{full_data_type, full_plain, full_qualifiers, full_reading, full_unset, full_value, further_vifes}
use Rattle.full_text.specs.declared.reals.Decimal.{Decimal}
use Rattle.full_text.specs.Values.{full_value_text}
use Rattle.full_text.specs.Words.{full_unit_text}
use Rattle.record_objects.specs.declared.forms.Form.{Form}
use Rattle.record_objects.specs.declared.forms.Form.TheVariants as forms
use Rattle.record_objects.specs.declared.forms.Member.TheVariants as members
use Rattle.record_objects.specs.Trees.{members_of, inner_tokens, inside, cell, cells}
use Rattle.record_objects.specs.Records.{Said, said, said_members, record_members, function_words, profile_text, plain_text, is_renamed, shown, counted_tree}
use Rattle.record_objects.specs.Words.{before, closing, no_member, number_words, register_words, measure_words, value_words, kind_words, named_words}
use Rattle.record_objects.specs.Words.{profile_words, told_words, plain_words, byte_words, read_words, record_words}
use Rattle.record_objects.proofs.Plain.{IsPlain, AreBytes, ◌⌢◌, literal, hex_plain, part_bytes}
use Rattle.record_objects.proofs.PlainWords.{function_plain, profile_plain, quantity_plain, unit_plain, type_plain, words_plain, value_plain}
use Rattle.record_objects.proofs.Texts.{inner_is}
use Rattle.record_objects.proofs.Members.{IsPlainSaid, said_goes, word_if, bracketed}

-- ---- what a record says is plain

profile_if : (named : Quantity) (renamed : Bool) → IfSome (cond renamed (Some (quantity_text named)) None) IsPlain
profile_if named true = profile_plain named
profile_if named false = tt

plain_if : {sent : List ℕ} → AreBytes sent → (o : Option PlainValue) → IfSome (option_map (plain_text sent) o) IsPlain
plain_if h None = tt
plain_if h (Some p) = value_plain p.value h ⌢ literal (codes " ") refl ⌢ unit_plain p.unit

shown_bytes : (type : DataType) {sent : List ℕ} → AreBytes sent → AreBytes (shown type sent)
shown_bytes types.Withheld h = record { each = λ i. omega arith }
shown_bytes _ h = h

pub said_plain : (n : ℕ) (bytes : List ℕ) (span : RecordSpan) → AreBytes bytes → span.dif < 256 → IsPlainSaid (said n bytes span)
unfolding said
said_plain n bytes span h dif =
    let u = unit bytes span in
    let sent = part_bytes bytes span.data_at span.data_len h in
    record {
      function = function_plain span dif;
      quantity = quantity_plain (measure bytes span).quantity;
      unit = unit_plain (full_reading bytes span).unit;
      value = value_plain (full_value bytes span) sent;
      qualifiers = words_plain (first_place span.vif) (further_vifes bytes span) (full_unset bytes span);
      type = type_plain (full_data_type bytes span);
      profile = profile_if u.quantity (is_renamed u.quantity (measure bytes span).quantity);
      plain = plain_if sent (full_plain bytes span);
      modifiers = hex_plain (part_bytes bytes u.modifiers_at u.modifiers h);
      raw = hex_plain (shown_bytes (full_data_type bytes span) sent);
    }

-- ---- in JSON

profile_is : (renamed : Bool) (word text : List ℕ) → word_if word (cond renamed (Some text) None) ≡ cond renamed (word ++ text) []
profile_is true word text = refl
profile_is false word text = refl

regrouped : (w v s u : List ℕ) → w ++ (v ++ s ++ u) ≡ w ++ v ++ s ++ u
regrouped w v s u = simp append_assoc

plain_is : (sent : List ℕ) (o : Option PlainValue)
    → word_if (before forms.Json members.AsPlain) (option_map (plain_text sent) o) ≡ plain_words forms.Json o sent
unfolding told_words
plain_is sent None = refl
plain_is sent (Some p) =
    regrouped (before forms.Json members.AsPlain) (full_value_text p.value sent) (codes " ") (full_unit_text p.unit)

pub json_is : (n : ℕ) (bytes : List ℕ) (span : RecordSpan) → AreBytes bytes → span.dif < 256
    → inside (record_members n bytes span) ≡ record_words forms.Json n bytes span
unfolding said record_words register_words read_words measure_words value_words kind_words named_words byte_words labelled
json_is n bytes span h dif =
    let s = said n bytes span in
    let named = (unit bytes span).quantity in
    let sent = bytes_at bytes span.data_at span.data_len in
    inner_is (members_of (record_members n bytes span)) ∙ (said_goes s (said_plain n bytes span h dif)).is
    ∙ bracketed (before forms.Json members.Record) (decimal n) (before forms.Json members.Function) s.function
    (before forms.Json members.Storage) (decimal span.storage) (before forms.Json members.Tariff) (decimal span.tariff)
    (before forms.Json members.Subunit) (decimal span.subunit) (before forms.Json members.Quantity) s.quantity
    (before forms.Json members.Unit) s.unit (before forms.Json members.Value) s.value
    (before forms.Json members.Number) (number_words forms.Json s.counted) (before forms.Json members.Qualifiers) s.qualifiers
    (before forms.Json members.Type) s.type
    (word_if (before forms.Json members.ProfileQuantity) s.profile)
    (word_if (before forms.Json members.AsPlain) s.plain)
    (before forms.Json members.Modifiers) s.modifiers (before forms.Json members.Raw) s.raw (closing forms.Json)
    (profile_words forms.Json named (measure bytes span).quantity) (plain_words forms.Json (full_plain bytes span) sent)
    (profile_is (is_renamed named (measure bytes span).quantity) (before forms.Json members.ProfileQuantity) (quantity_text named))
    (plain_is sent (full_plain bytes span))

-- ---- between commas

profile_cell : (renamed : Bool) (text : List ℕ)
    → 44 ∷ cell (option_map string (cond renamed (Some text) None)) ≡ cond renamed (44 ∷ text) (44 ∷ [])
profile_cell true text = refl
profile_cell false text = refl

plain_cell : (sent : List ℕ) (o : Option PlainValue)
    → 44 ∷ cell (option_map string (option_map (plain_text sent) o)) ≡ plain_words forms.Csv o sent
unfolding told_words
plain_cell sent None = refl
plain_cell sent (Some p) = refl

counted_cell : (o : Option Decimal) → cell (Some (counted_tree o)) ≡ number_words forms.Csv o
counted_cell None = refl
counted_cell (Some d) = refl

-- with commas
separated : (k n f st ta su q u v c qs t p l m r c' p' l' : List ℕ) → c ≡ c' → k ++ p ≡ p' → k ++ l ≡ l'
    → n ++ (k ++ (f ++ (k ++ (st ++ (k ++ (ta ++ (k ++ (su ++ (k ++ (q ++ (k ++ (u ++ (k ++ (v ++ (k ++ (c ++ (k ++ (qs ++ (k ++ (t
    ++ (k ++ (p ++ (k ++ (l ++ (k ++ (m ++ (k ++ r)))))))))))))))))))))))))))
    ≡ (n ++ k ++ f ++ (k ++ st) ++ (k ++ ta) ++ (k ++ su))
    ++ ((k ++ q ++ k ++ u) ++ (k ++ v ++ k ++ c') ++ (k ++ qs ++ k ++ t) ++ p' ++ l' ++ (k ++ m ++ k ++ r ++ []))
separated k n f st ta su q u v c qs t p l m r c' p' l' e g h = rw (← e, ← g, ← h) (simp (append_assoc, append-nil))

pub csv_is : (n : ℕ) (bytes : List ℕ) (span : RecordSpan) → cells (record_members n bytes span) ≡ record_words forms.Csv n bytes span
unfolding said record_words register_words read_words measure_words value_words kind_words named_words byte_words labelled
csv_is n bytes span =
    let s = said n bytes span in
    let named = (unit bytes span).quantity in
    let sent = bytes_at bytes span.data_at span.data_len in
    separated (codes ",") (decimal n) s.function (decimal span.storage) (decimal span.tariff) (decimal span.subunit) s.quantity s.unit s.value
    (cell (Some (counted_tree s.counted))) s.qualifiers s.type (cell (option_map string s.profile)) (cell (option_map string s.plain))
    s.modifiers s.raw (number_words forms.Csv s.counted) (profile_words forms.Csv named (measure bytes span).quantity)
    (plain_words forms.Csv (full_plain bytes span) sent)
    (counted_cell s.counted) (profile_cell (is_renamed named (measure bytes span).quantity) (quantity_text named))
    (plain_cell sent (full_plain bytes span))
