-- Words that JSON has as they are.
use Rattle.std.proofs.Common.{◌≡◌, ℕ, List, [], ◌∷◌, ◌++◌, ap, sym, refl, ◌∙◌, append_assoc}
use Rattle.json.specs.Print.{escape_byte, escape}
use Rattle.paper.specs.Puts.{Puts}
use Rattle.paper.proofs.Items.{is_put}
use Rattle.meter_slots.specs.declared.counts.Ended.{Ended}
use Rattle.meter_slots.specs.declared.counts.Ended.TheVariants as ends
use Rattle.report_text.specs.Report.{ended_text}

-- such a word was put inside a string
pub as_word : {P : Type 0} {takes : P → List ℕ → P → Type 0} {p q : P} {word : List ℕ} → escape word ≡ word → Puts takes p word q
    → Puts takes p (escape word) q
as_word plain puts = is_put _ _ plain puts

-- and so is the text that it is found to be
pub as_found : {P : Type 0} {takes : P → List ℕ → P → Type 0} {p q : P} {found : List ℕ} (word : List ℕ) → found ≡ word
    → escape found ≡ found → Puts takes p found q → Puts takes p (escape word) q
as_found word is plain puts = is_put _ _ (ap escape (sym is) ∙ plain) puts

-- a text that is found to be such a word was put inside a string too
pub as_text : {P : Type 0} {takes : P → List ℕ → P → Type 0} {p q : P} {word found : List ℕ} → escape word ≡ word → found ≡ word
    → Puts takes p found q → Puts takes p (escape word) q
as_text plain is puts = is_put _ _ (plain ∙ sym is) puts

-- the closing quote of the one text of an array, and its bracket
pub closed : (front text : List ℕ) → front ++ ((text ++ 34 ∷ []) ++ 93 ∷ []) ≡ front ++ (text ++ 34 ∷ 93 ∷ [])
closed front text = ap (λ t. front ++ t) (append_assoc text (34 ∷ []) (93 ∷ []))

-- how a receiver's lines ended
pub ended_plain : (ended : Ended) → escape (ended_text ended) ≡ ended_text ended
unfolding escape_byte
ended_plain ends.End = refl
ended_plain _ = refl
