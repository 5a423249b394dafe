-- One line more.
use Rattle.std.proofs.Common.{◌≡◌, ℕ, ◌<◌, ◌&&◌, ◌==◌, Bool, List, [], ◌∷◌, ◌++◌, length, None, IsTrue, refl, sym, ap, ap₂, ◌∙◌, subst, arith}
use Rattle.std.specs.Result.{result_ok}
use Rattle.std.specs.List.{flat_map}
use Rattle.std.proofs.lemmas.Bool.{cond_both, cond-true, lt-ltb}
use Rattle.std.proofs.lemmas.List.{flat_map_more}
use Rattle.hex.specs.Hex.{decode_of}
use Rattle.meter_address.specs.declared.address.Address.{Address}
use Rattle.meter_address.specs.Commission.{Commissioned}
use Rattle.paper.specs.Puts.{Puts}
use Rattle.paper.proofs.Calls.{none, then}
use Rattle.meter_side_main.specs.declared.lines.Answer.{Answer}
use Rattle.meter_side_main.specs.Lines.{bytes_in, delivery_in, answer_of, last_by, answer_text, last_text}
use Rattle.meter_side_main.specs.Listening.{Listening}
use Rattle.meter_side_main.specs.Answers.{answers_to, last_after_all}
use Rattle.meter_side_main.specs.Session.{HearsNext, HasHeard, HasAnswered}

-- a line that is too long delivers nothing
pub long_line : (line : List ℕ) → 582 < length line → delivery_in line ≡ None
unfolding delivery_in bytes_in
long_line (first ∷ second ∷ digits) long =
    cond_both (first == 68 && second == 32) _ None (λ o. o ≡ None)
    (λ _. cond-true _ None (result_ok (decode_of digits)) (lt-ltb 580 (length digits) (omega arith))) (λ _. refl)
long_line _ long = refl

-- ---- a line is heard behind the others

abbrev all_answers : Listening → List (List ℕ) → List Answer
all_answers l lines = answers_to l.own l.commission l.last lines

abbrev told_last : Listening → Answer → Listening
told_last l answer = record l { last = last_by l.last answer }

abbrev after_all : Listening → List Answer → Listening
after_all l answers = record l { last = last_after_all l.last answers }

answers_push : (l : Listening) (lines : List (List ℕ)) (line : List ℕ)
    → all_answers l (lines ++ line ∷ [])
    ≡ all_answers l lines ++ answer_of l.own l.commission (last_after_all l.last (all_answers l lines)) (delivery_in line) ∷ []
answers_push l [] line = refl
answers_push l (x ∷ lines) line =
    let answer : Answer = answer_of l.own l.commission l.last (delivery_in x) in
    ap (λ (answers : List Answer). answer ∷ answers) (answers_push (told_last l answer) lines line)

last_push : (last : ℕ) (answers : List Answer) (answer : Answer)
    → last_after_all last (answers ++ answer ∷ []) ≡ last_by (last_after_all last answers) answer
last_push last [] answer = refl
last_push last (x ∷ answers) answer = last_push (last_by last x) answers answer

module _ {P : Type 0} (takes : P → List ℕ → P → Type 0) (tells : Bool) (first : Listening) (start : P) where
  pub heard_none : (lines : List (List ℕ)) → lines ≡ [] → HasHeard takes tells first start lines first start
  heard_none lines is = record { answers = []; puts = none; after = refl; answered = λ t. ap (all_answers first) (sym is) }

  pub heard_more : (lines lines' : List (List ℕ)) (now new : Listening) (paper paper' : P) (answer : Answer)
      → HasHeard takes tells first start lines now paper → (IsTrue tells → HearsNext now lines lines' answer)
      → new ≡ record now { last = last_by now.last answer } → Puts takes paper (answer_text answer) paper'
      → HasHeard takes tells first start lines' new paper'
  heard_more lines lines' now new paper paper' answer h next is more = record {
    answers = h.answers ++ answer ∷ [];
    puts = subst (λ (text : List ℕ). Puts takes start text paper') (flat_map_more answer_text [] h.answers answer) (then h.puts more);
    after = is ∙ ap (λ (l : Listening). told_last l answer) h.after
        ∙ ap (λ (n : ℕ). let l : Listening = record first { last = n } in l) (sym (last_push first.last h.answers answer));
    answered = λ t.
        let n = next t in
        ap₂ (λ (xs : List Answer) (x : Answer). xs ++ x ∷ []) (h.answered t)
        (n.answered ∙ ap (λ (l : Listening). answer_of l.own l.commission l.last (delivery_in n.line))
        (h.after ∙ ap (after_all first) (h.answered t)))
        ∙ sym (answers_push first lines n.line) ∙ ap (all_answers first) (sym n.more);
  }

-- ---- all lines, and the last counter

pub all_told : {P : Type 0} (takes : P → List ℕ → P → Type 0) (tells : Bool) (own : Address) (c : Commissioned) (first now new : Listening)
    (start paper paper' : P) (lines lines' : List (List ℕ)) (last : ℕ) → first ≡ record { own = own; commission = c; last = c.down }
    → HasHeard takes tells first start lines now paper → new ≡ now → (IsTrue tells → lines' ≡ lines) → last ≡ new.last
    → Puts takes paper (last_text last) paper' → HasAnswered takes tells own c start lines' paper'
all_told takes tells own c first now new start paper paper' lines lines' last fresh h kept same is more = record {
  answers = h.answers;
  puts = subst (λ (n : ℕ). Puts takes start (flat_map answer_text h.answers ++ last_text n) paper')
      (is ∙ ap (λ (l : Listening). l.last) (kept ∙ h.after) ∙ ap (λ (l : Listening). last_after_all l.last h.answers) fresh)
      (then h.puts more);
  answered = λ t. h.answered t ∙ ap₂ all_answers fresh (sym (same t));
}
