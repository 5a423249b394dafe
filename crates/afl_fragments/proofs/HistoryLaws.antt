-- The message of a history, and the numbers that are held.
use Rattle.std.proofs.Common.{◌≡◌, ℕ, ◌+◌, ◌≤◌, ◌↔◌, Bool, true, false, cond, List, [], ◌∷◌, count_by, Option, Some, refl, sym, ap, ◌∙◌, arith, inl, inr}
use Rattle.std.proofs.lemmas.Bool.{cases_eq, ne_eqb}
use Rattle.std.proofs.lemmas.Bool.Decides.{nat_tests}
use Rattle.std.proofs.lemmas.List.Sums.{sum_by-cons}
use Rattle.afl_fragments.specs.declared.places.HeldPart.{HeldPart}
use Rattle.afl_fragments.specs.Held.{Told, Message, StandsFor, is_fid, others, latest_each, since, held, assembled}
use Rattle.afl_fragments.specs.Laws.{IsMessage, IsMessageOf, MessagesAreThoseOfHistories, EachNumberIsHeldOnce}
use Rattle.afl_fragments.proofs.EndLaws.{end_was_last, last_is_end}
use Rattle.afl_fragments.proofs.LatestLaws.{held_was_last, last_is_held}
use Rattle.afl_fragments.proofs.MessageLaws.{assembled_is, is_assembled}

looked_back : (told : List Told) (m : Message) → IsMessage (held told) m → IsMessageOf told m
looked_back told m is = record {
  parts = is.parts;
  last = is.last;
  ends = end_was_last told is.last is.ends;
  counted = is.counted;
  latest = λ k part at. held_was_last told (k + 1) part (is.held k part at);
  leads = is.leads;
  message = is.message;
}

looked_up : (told : List Told) (m : Message) → IsMessageOf told m → IsMessage (held told) m
looked_up told m is = record {
  parts = is.parts;
  last = is.last;
  ends = last_is_end told is.last is.ends;
  counted = is.counted;
  held = λ k part at. last_is_held told (k + 1) part (is.latest k part at);
  leads = is.leads;
  message = is.message;
}

pub messages_are_those_of_histories : MessagesAreThoseOfHistories
messages_are_those_of_histories told m =
    (λ e. looked_back told m (assembled_is (held told) m e), λ is. is_assembled (held told) m (looked_up told m is))

-- the same of what stands for the history
pub message_of : (hs : List HeldPart) (told : List Told) (m : Message) (o : Option Message) → StandsFor hs told → o ≡ assembled hs
    → (o ≡ Some m) ↔ IsMessageOf told m
message_of hs told m o stands is =
    let same : o ≡ assembled (held told) = is ∙ ap assembled stands in
    let law = messages_are_those_of_histories told m in
    (λ e. law.0 (sym same ∙ e), λ of. same ∙ law.1 of)

-- ---- the numbers that are held

-- how many have this number, of one more
with_one : (f : ℕ) (x : HeldPart) (xs : List HeldPart) → count_by (is_fid f) (x ∷ xs) ≡ cond (is_fid f x) 1 0 + count_by (is_fid f) xs
with_one f x xs = sum_by-cons (λ h. cond (is_fid f h) 1 0) x xs

fewer : (f g : ℕ) (xs : List HeldPart) → count_by (is_fid f) (others g xs) ≤ count_by (is_fid f) xs
fewer f g [] = omega arith
fewer f g (x ∷ xs) = let rest = fewer f g xs in grind (arith, nat_tests, with_one f x xs, with_one f x (others g xs))

none : (f : ℕ) (xs : List HeldPart) → count_by (is_fid f) (others f xs) ≡ 0
none f [] = refl
none f (x ∷ xs) = let rest = none f xs in grind (arith, nat_tests, with_one f x (others f xs))

once : (f : ℕ) (xs : List HeldPart) → count_by (is_fid f) (latest_each xs) ≤ 1
once f [] = omega arith
once f (x ∷ xs) =
    let g : ℕ = x.part.afl.fid in
    let less = fewer f g (latest_each xs) in
    let rest = once f xs in
    let same = λ (e : g ≡ f). ap (λ (k : ℕ). count_by (is_fid f) (others k (latest_each xs))) e ∙ none f (latest_each xs) in
    let one = with_one f x (others g (latest_each xs)) in
    elim (cases_eq g f) [
      | inl e ↦ omega (arith, same e, one, at_most (is_fid f x))
      | inr e ↦ omega (arith, one, ap (λ (t : Bool). let n : ℕ = cond t 1 0 in n) (ne_eqb g f e))
    ]
  where
    at_most : (b : Bool) → cond {A = ℕ} b 1 0 ≤ 1
    at_most true = omega arith
    at_most false = omega arith

pub each_number_is_held_once : EachNumberIsHeldOnce
unfolding held
each_number_is_held_once told fid = once fid (since 0 told)
