-- The texts of a made session: each is within a receiver's limits, and its lines are those of the telegrams.
use Rattle.std.proofs.Common.{◌≡◌, ◌⊎◌, ℕ, ◌+◌, ◌-◌, ◌*◌, ◌^◌, ◌<◌, ◌≤◌, ◌||◌, nat_lt, false, cond, List, [], ◌∷◌}
use Rattle.std.proofs.Common.{◌++◌, length, map, refl, sym, ap, subst, ◌∙◌, ⊎_elim, arith, length-append}
use Rattle.std.specs.Prelude.{codes}
use Rattle.std.specs.List.{All, concat, range_with_len}
use Rattle.std.specs.Str.Lines.{lines}
use Rattle.std.proofs.Math.Nat.{div-le_self, mod-lt}
use Rattle.std.proofs.lemmas.Simd.{map-map}
use Rattle.std.proofs.lemmas.Bool.Decides.{nat_tests}
use Rattle.std.proofs.lemmas.List.Elements.{All-head, All-tail, All-from_get_or}
use Rattle.std.proofs.lemmas.List.FromFn.{length-map-range_with_len, get_or-map-range_with_len}
use Rattle.std.proofs.lemmas.List.Sorted.{length_permutation, All-permutation}
use Rattle.frame_formats.specs.Crc.{IsBytes}
use Rattle.written_words.specs.Words.{IsPrinted}
use Rattle.written_words.proofs.Words.{ended_line}
use Rattle.line_reader.specs.Lines.{is_over, whole_lines, all_lines}
use Rattle.meter_address.specs.Commission.{Commissioned}
use Rattle.made_input.specs.Meters.{meter_at, meters_of}
use Rattle.made_input.specs.Uplinks.{uplink, stranger}
use Rattle.frame_lines.specs.Lines.{frame_text, frame_line}
use Rattle.frame_lines.proofs.ReadBack.{text_printed, text_short}
use Rattle.made_input.specs.Lines.{turn_of, round_of, telegram_of, texts_of, lines_of, heard}
use Rattle.made_input.specs.Laws.{HasLines}
use Rattle.made_input.proofs.Genuine as genuine
use Rattle.made_input.proofs.Hearing.{heard-map}
use Rattle.made_input.proofs.Orders.{heard_in_another_order}
use Rattle.made_input.proofs.OwnLines.{turns_are_taken}

-- ---- texts of lines

abbrev ended : List ℕ → List ℕ
ended text = text ++ codes "\n"

-- a line that is printed, of which a receiver has room
pub record IsLine (text : List ℕ) : Type 0 where
  pub printed : IsPrinted text
  pub short : length text ≤ 1024

lines_back : (texts : List (List ℕ)) → All IsLine texts → lines (concat (map ended texts)) ≡ texts
lines_back [] each = refl
lines_back (text ∷ texts) each =
    ended_line text (concat (map ended texts)) (All-head IsLine text texts each).printed
    ∙ ap (λ later. text ∷ later) (lines_back texts (All-tail IsLine text texts each))

few_bytes : (texts : List (List ℕ)) → All IsLine texts → length (concat (map ended texts)) ≤ 1025 * length texts
few_bytes [] each = omega arith
few_bytes (text ∷ texts) each =
    let later = few_bytes texts (All-tail IsLine text texts each) in
    let first = (All-head IsLine text texts each).short in
    omega (arith, length-append (ended text) (concat (map ended texts)), length-append text (codes "\n"))

not_over : (n m : ℕ) → n ≤ 67108864 → m ≤ 131072 → (nat_lt 67108864 n || nat_lt 131072 m) ≡ false
not_over n m few_of few = grind (arith, nat_tests)

has_lines : (texts : List (List ℕ)) → All IsLine texts → length texts ≤ 16384 → HasLines (concat (map ended texts)) texts
unfolding is_over all_lines
has_lines texts each few =
    let text : List ℕ = concat (map ended texts) in
    let same : lines text ≡ texts = lines_back texts each in
    let bytes : length text ≤ 1025 * length texts = few_bytes texts each in
    let many : length (lines text) ≡ length texts = ap length same in
    let within : is_over text ≡ false = not_over (length text) (length (lines text)) (omega arith) (omega arith) in
    record { within = within; lines_are = ap (λ b. cond b (whole_lines text) (lines text)) within ∙ same }

-- ---- the telegrams' lines

line_fits : (k : ℕ) (t : List ℕ) → IsBytes t → length t ≤ 256 → k < 2 ^ 64 → IsLine (frame_text k t)
line_fits k t all few small = record { printed = text_printed k t all; short = text_short k t few small }

stranger_fits : (k : ℕ) → k < 2 ^ 64 → IsLine (frame_text k (stranger k))
unfolding stranger
stranger_fits k small = line_fits k (stranger k) (search arith) (omega arith) small

uplink_fits : (number place n k : ℕ) → n < 2 ^ 32 → k < 2 ^ 64 → IsLine (frame_text k (uplink (meter_at number place) n))
uplink_fits number place n k small moment =
    let c : Commissioned = meter_at number place in
    let key = genuine.IsBlock-drawn number place in
    line_fits k (uplink c n) (genuine.bytes c n key small) (genuine.telegram c n key small).most moment

in_turn : (turn count : ℕ) → turn < count + 1 → (turn < count) ⊎ (turn ≡ count)
in_turn turn count most = grind arith

telegram_fits : (count number k : ℕ) → k ≤ 16384 → IsLine (frame_text k (telegram_of (meters_of count number) k))
telegram_fits count number k few =
    let turns = turns_are_taken count number k in
    let round : round_of count k < 2 ^ 32 = omega (arith, div-le_self (k - 1) (count + 1)) in
    let P : List ℕ → Type 0 = λ t. IsLine (frame_text k t) in
    ⊎_elim (λ below. subst P (sym (turns.meters below)) (uplink_fits number (turn_of count k) (round_of count k) k round (omega arith)))
    (λ last. subst P (sym (turns.strangers last)) (stranger_fits k (omega arith)))
    (in_turn (turn_of count k) count (mod-lt (k - 1) (omega arith)))

lines_ended : (meters : List Commissioned) (by count : ℕ) → heard by (lines_of meters count) ≡ map ended (heard by (texts_of meters count))
unfolding frame_line
lines_ended meters by count =
    ap (heard by) (sym (map-map ended (λ k. frame_text k (telegram_of meters k)) (range_with_len 1 count)))
    ∙ sym (heard-map ended by (texts_of meters count))

-- what a receiver hears of a made session
pub heard_lines : (count telegrams number by : ℕ) → telegrams ≤ 16384
    → HasLines (concat (heard by (lines_of (meters_of count number) telegrams))) (heard by (texts_of (meters_of count number) telegrams))
heard_lines count telegrams number by few =
    let meters : List Commissioned = meters_of count number in
    let text_at : ℕ → List ℕ = λ k. frame_text k (telegram_of meters k) in
    let texts : List (List ℕ) = texts_of meters telegrams in
    let order = heard_in_another_order by texts in
    let long = length-map-range_with_len text_at 1 telegrams in
    let each : All IsLine texts = All-from_get_or IsLine texts [] (λ i below. subst IsLine
    (sym (get_or-map-range_with_len text_at 1 telegrams i (1 + i) [] (omega arith) refl))
    (telegram_fits count number (1 + i) (omega arith))) in
    subst (λ text. HasLines text (heard by texts)) (ap concat (sym (lines_ended meters by telegrams)))
    (has_lines (heard by texts) (All-permutation IsLine texts (heard by texts) order each)
    (omega (arith, length_permutation texts (heard by texts) order)))
