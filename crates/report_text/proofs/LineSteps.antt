-- The lines of steps and of strangers.
use Rattle.std.proofs.Common.{◌≡◌, ℕ, ◌<◌, ◌^◌, ◌&&◌, true, List, [], ◌∷◌, ◌++◌, refl, ap, ◌∙◌, append_assoc, arith}
use Rattle.std.specs.Prelude.{codes}
use Rattle.std.specs.Fmt.{decimal}
use Rattle.std.specs.Str.{all_ascii_digits}
use Rattle.std.specs.Str.Parse.{digits_value}
use Rattle.std.proofs.lemmas.Bool.{and_from, cond-true}
use Rattle.std.proofs.lemmas.Str.Parse.{IsNumeralModel, numerals_by_value, tells_all_ascii_digits}
use Rattle.std.proofs.lemmas.Fmt.{digits_decimal, digits_value-decimal}
use Rattle.plain_text.specs.Parts.{fields_of}
use Rattle.report_text.specs.Orders.{pair_in, with_steps, with_line}
use Rattle.paper.specs.Pieces.{labelled_two}
use Rattle.report_text.proofs.LineWalks.{IsWithout, ◌⌢◌, literal, cut_first, cut_last, Tells, one_line, same_turn}
use Rattle.report_text.proofs.LinePieces.{number, worded_two}

own : IsNumeralModel (λ ds. all_ascii_digits ds ≡ true) (digits_value 10)
own = numerals_by_value _ tells_all_ascii_digits

-- ---- fields

abbrev one_pair : ℕ → ℕ → List (ℕ × ℕ)
one_pair n m = (n, m) ∷ []

same_pair : (a b n m : ℕ) → a ≡ n → b ≡ m → one_pair a b ≡ one_pair n m
same_pair a b n m e f = λ i. one_pair (e i) (f i)

pair_of_decimals : (word : List ℕ) (n m : ℕ) (more : List (List ℕ)) → n < 2 ^ 32 → m < 2 ^ 32
    → pair_in (word ∷ decimal n ∷ decimal m ∷ more) ≡ one_pair n m
pair_of_decimals word n m more small_n small_m =
    cond-true (all_ascii_digits (decimal n) && all_ascii_digits (decimal m))
    (one_pair (digits_value 10 (decimal n)) (digits_value 10 (decimal m))) []
    (and_from _ _ (digits_decimal own n (omega arith)) (digits_decimal own m (omega arith)))
    ∙ same_pair _ _ n m (digits_value-decimal own n (omega arith)) (digits_value-decimal own m (omega arith))

-- the pieces of such a line, bracketed to the right
pub behind_word : (word a b : List ℕ) → word ++ codes " " ++ a ++ codes " " ++ b ≡ word ++ 32 ∷ (a ++ 32 ∷ b)
behind_word word a b =
    append_assoc (word ++ codes " " ++ a) (codes " ") b ∙ append_assoc (word ++ codes " ") a (32 ∷ b)
    ∙ append_assoc word (codes " ") (a ++ 32 ∷ b)

pub behind_two : (word a b o : List ℕ) → word ++ codes " " ++ a ++ codes " " ++ b ++ codes " " ++ o ≡ word ++ 32 ∷ (a ++ 32 ∷ (b ++ 32 ∷ o))
behind_two word a b o =
    append_assoc (word ++ codes " " ++ a ++ codes " " ++ b) (codes " ") o
    ∙ append_assoc (word ++ codes " " ++ a ++ codes " ") b (32 ∷ o) ∙ behind_word word a (b ++ 32 ∷ o)

pub fields_of_two : (word : List ℕ) (n m : ℕ) → IsWithout 32 word
    → fields_of (word ++ 32 ∷ (decimal n ++ 32 ∷ decimal m)) ≡ word ∷ decimal n ∷ decimal m ∷ []
fields_of_two word n m h =
    cut_first 32 word (decimal n ++ 32 ∷ decimal m) h.passed
    ∙ ap (λ fields. word ∷ fields)
    (cut_first 32 (decimal n) (decimal m) (number n (omega arith)).passed
    ∙ ap (λ fields. decimal n ∷ fields) (cut_last 32 (decimal m) (number m (omega arith)).passed))

pub fields_of_more : (word : List ℕ) (n m : ℕ) (o : List ℕ) → IsWithout 32 word
    → fields_of (word ++ 32 ∷ (decimal n ++ 32 ∷ (decimal m ++ 32 ∷ o))) ≡ word ∷ decimal n ∷ decimal m ∷ fields_of o
fields_of_more word n m o h =
    cut_first 32 word (decimal n ++ 32 ∷ (decimal m ++ 32 ∷ o)) h.passed
    ∙ ap (λ fields. word ∷ fields) (cut_first 32 (decimal n) (decimal m ++ 32 ∷ o) (number n (omega arith)).passed
    ∙ ap (λ fields. decimal n ∷ fields) (cut_first 32 (decimal m) o (number m (omega arith)).passed))

pair_of_two : (word : List ℕ) (n m : ℕ) → IsWithout 32 word → n < 2 ^ 32 → m < 2 ^ 32
    → pair_in (fields_of (word ++ codes " " ++ decimal n ++ codes " " ++ decimal m)) ≡ one_pair n m
pair_of_two word n m h small_n small_m =
    ap (λ line. pair_in (fields_of line)) (behind_word word (decimal n) (decimal m)) ∙ ap pair_in (fields_of_two word n m h)
    ∙ pair_of_decimals word n m [] small_n small_m

pair_of_more : (word : List ℕ) (n m : ℕ) (o : List ℕ) → IsWithout 32 word → n < 2 ^ 32 → m < 2 ^ 32
    → pair_in (fields_of (word ++ codes " " ++ decimal n ++ codes " " ++ decimal m ++ codes " " ++ o)) ≡ one_pair n m
pair_of_more word n m o h small_n small_m =
    ap (λ line. pair_in (fields_of line)) (behind_two word (decimal n) (decimal m) o) ∙ ap pair_in (fields_of_more word n m o h)
    ∙ pair_of_decimals word n m (fields_of o) small_n small_m

-- ---- lines

pub step_line : (n m : ℕ) (o : List ℕ) → n < 2 ^ 32 → m < 2 ^ 32 → IsWithout 10 o
    → Tells (labelled_two (codes "step ") n m ++ codes " " ++ o ++ codes "\n") (with_steps ((n, m) ∷ []))
unfolding labelled_two with_line
step_line n m o small_n small_m h =
    let pair = pair_of_more (codes "step") n m o (literal (codes "step") refl) small_n small_m in
    same_turn (with_steps (one_pair n m)) (λ t. ap (λ pairs. with_steps pairs t) pair)
    (one_line (labelled_two (codes "step ") n m ++ codes " " ++ o)
    (worded_two (literal (codes "step ") refl) n m ⌢ literal (codes " ") refl ⌢ h))

pub stranger_line : (n m : ℕ) → n < 2 ^ 32 → m < 2 ^ 32
    → Tells (labelled_two (codes "stranger ") n m ++ codes "\n") (with_steps ((n, m) ∷ []))
unfolding labelled_two with_line
stranger_line n m small_n small_m =
    let pair = pair_of_two (codes "stranger") n m (literal (codes "stranger") refl) small_n small_m in
    same_turn (with_steps (one_pair n m)) (λ t. ap (λ pairs. with_steps pairs t) pair)
    (one_line (labelled_two (codes "stranger ") n m) (worded_two (literal (codes "stranger ") refl) n m))
