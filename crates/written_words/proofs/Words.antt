-- Words without blanks, and the lines and fields that they make.
use Rattle.std.proofs.Common.{◌≡◌, ℕ, zero, suc, ◌+◌, ◌-◌, ◌/◌, ◌%◌, ◌<◌, ◌≤◌, ◌==◌, nat_lt, true, false, cond, List, [], ◌∷◌, ◌++◌, length, take, get_or, refl, ap, ◌∙◌, arith, append_assoc}
use Rattle.std.specs.List.{list_all, slice_split, onto_first, join_with_byte}
use Rattle.std.specs.Fmt.{decimal, digits, digits_onto, digit_glyph}
use Rattle.std.specs.Str.Lines.{lines, strip_carriage_return}
use Rattle.std.proofs.lemmas.Bool.{and_parts, and_from, cond_both, lt-ltb, ltb-true}
use Rattle.std.proofs.lemmas.Bool.Decides.{nat_tests}
use Rattle.std.proofs.lemmas.List.Folds.{list_all-append}
use Rattle.std.proofs.lemmas.List.Splits.{slice_split-cons_yes, slice_split-cons_no}
use Rattle.hex.specs.Hex.{encode_with, encode_lower, lower_digits, IsBytes}
use Rattle.lists.specs.Each.{Each}
use Rattle.plain_text.specs.Parts.{fields_of}
use Rattle.plain_text.proofs.Cuts.{lines_cut}
use Rattle.written_words.specs.Words.{IsAbove, IsWord, IsPrinted}

not_byte : (s b : ℕ) → s < b → (b == s) ≡ false
not_byte s b h = grind (arith, nat_tests)

lower : (low low' : ℕ) (text : List ℕ) → low' ≤ low → IsAbove low text → IsAbove low' text
lower low low' [] h is = record { passed = refl }
lower low low' (b ∷ text) h is =
    let parts = and_parts _ _ is.passed in
    let first = ltb-true low b parts.0 in
    record { passed = and_from _ _ (lt-ltb low' b (omega arith)) (lower low low' text h (record { passed = parts.1 })).passed }

pub both_above : {low : ℕ} (a b : List ℕ) → IsAbove low a → IsAbove low b → IsAbove low (a ++ b)
both_above {low} a b x y = record { passed = list_all-append (nat_lt low) a b ∙ and_from _ _ x.passed y.passed }

-- ---- numbers and digits

glyph_above : (low d : ℕ) → low < 48 → nat_lt low (digit_glyph false d) ≡ true
glyph_above low d h =
    cond_both (nat_lt d 10) (48 + d) (87 + d) (λ c. nat_lt low c ≡ true) (λ _. lt-ltb low (48 + d) (omega arith))
    (λ _. lt-ltb low (87 + d) (omega arith))

digits_above : (low : ℕ) → low < 48 → (k base n : ℕ) (behind : List ℕ) → list_all (nat_lt low) behind ≡ true
    → list_all (nat_lt low) (digits_onto k base false n behind) ≡ true
digits_above low h zero base n behind is = is
digits_above low h (suc k) base n behind is =
    let one : List ℕ = digit_glyph false (n % base) ∷ behind in
    let more : list_all (nat_lt low) one ≡ true = and_from _ _ (glyph_above low (n % base) h) is in
    cond_both (n / base == 0) one (digits_onto k base false (n / base) one) (λ t. list_all (nat_lt low) t ≡ true) (λ _. more)
    (λ _. digits_above low h k base (n / base) one more)

pub number_above : (low n : ℕ) → low < 48 → IsAbove low (decimal n)
unfolding digits
number_above low n h = record { passed = digits_above low h 64 10 n [] refl }

found_above : (low : ℕ) (table : List ℕ) (i : ℕ) → i < length table → list_all (nat_lt low) table ≡ true
    → nat_lt low (get_or table i 0) ≡ true
found_above low [] i within is = absurd (omega arith)
found_above low (x ∷ table) zero within is = (and_parts _ _ is).0
found_above low (x ∷ table) (suc i) within is = found_above low table i (omega arith) (and_parts _ _ is).1

hex_above : (table bytes : List ℕ) → length table ≡ 16 → list_all (nat_lt 32) table ≡ true → IsBytes bytes
    → list_all (nat_lt 32) (encode_with table bytes) ≡ true
unfolding encode_with
hex_above table [] sixteen is fits = refl
hex_above table (b ∷ bytes) sixteen is fits =
    let byte : b < 256 = fits 0 in
    and_from _ _ (found_above 32 table (b / 16) (omega arith) is)
    (and_from _ _ (found_above 32 table (b % 16) (omega arith) is) (hex_above table bytes sixteen is (λ i. fits (suc i))))

pub hex_word : (bytes : List ℕ) → IsBytes bytes → IsWord (encode_lower bytes)
hex_word bytes fits = record { passed = hex_above lower_digits bytes refl refl fits }

-- ---- cuts

cut_first : (s : ℕ) (part rest : List ℕ) → IsAbove s part
    → slice_split (λ b. b == s) (part ++ s ∷ rest) ≡ part ∷ slice_split (λ b. b == s) rest
cut_first s [] rest is = slice_split-cons_yes (λ b. b == s) s rest (grind (arith, nat_tests))
cut_first s (x ∷ part) rest is =
    let parts = and_parts _ _ is.passed in
    slice_split-cons_no (λ b. b == s) x (part ++ s ∷ rest) (not_byte s x (ltb-true s x parts.0))
    ∙ ap (onto_first x) (cut_first s part rest (record { passed = parts.1 }))

cut_last : (s : ℕ) (part : List ℕ) → IsAbove s part → slice_split (λ b. b == s) part ≡ part ∷ []
cut_last s [] is = refl
cut_last s (x ∷ part) is =
    let parts = and_parts _ _ is.passed in
    slice_split-cons_no (λ b. b == s) x part (not_byte s x (ltb-true s x parts.0))
    ∙ ap (onto_first x) (cut_last s part (record { passed = parts.1 }))

-- words with blanks between them are fields
pub fields_joined : (word : List ℕ) (words : List (List ℕ)) → IsWord word → Each IsWord words
    → fields_of (join_with_byte 32 (word ∷ words)) ≡ word ∷ words
fields_joined word [] is each = cut_last 32 word is
fields_joined word (next ∷ words) is each =
    cut_first 32 word (join_with_byte 32 (next ∷ words)) is ∙ ap (λ fields. word ∷ fields) (fields_joined next words each.0 each.1)

pub joined_printed : (word : List ℕ) (words : List (List ℕ)) → IsWord word → Each IsWord words
    → IsPrinted (join_with_byte 32 (word ∷ words))
joined_printed word [] is each = lower 32 31 word (omega arith) is
joined_printed word (next ∷ words) is each =
    both_above word (32 ∷ join_with_byte 32 (next ∷ words)) (lower 32 31 word (omega arith) is)
    (record { passed = and_from _ _ (lt-ltb 31 32 (omega arith)) (joined_printed next words each.0 each.1).passed })

-- ---- lines

no_return : (text : List ℕ) (i : ℕ) → IsPrinted text → (get_or text i 0 == 13) ≡ false
no_return [] i is = refl
no_return (b ∷ text) zero is = not_byte 13 b (let first = ltb-true 31 b (and_parts _ _ is.passed).0 in omega arith)
no_return (b ∷ text) (suc i) is = no_return text i (record { passed = (and_parts _ _ is.passed).1 })

kept_line : (text : List ℕ) → IsPrinted text → strip_carriage_return text ≡ text
kept_line text is = ap (λ b. cond b (take (length text - 1) text) text) (no_return text (length text - 1) is)

pub printed_line : (text rest : List ℕ) → IsPrinted text → lines (text ++ 10 ∷ rest) ≡ text ∷ lines rest
printed_line text rest is =
    lines_cut (text ++ 10 ∷ rest) text rest (cut_first 10 text rest (lower 31 10 text (omega arith) is))
    ∙ ap (λ x. x ∷ lines rest) (kept_line text is)

-- a line with its newline, in front of others
pub ended_line : (text rest : List ℕ) → IsPrinted text → lines ((text ++ 10 ∷ []) ++ rest) ≡ text ∷ lines rest
ended_line text rest is = ap lines (append_assoc text (10 ∷ []) rest) ∙ printed_line text rest is
