-- Inputs one behind another: what a change of one of them does to what is said of all.
use Rattle.std.proofs.Common.{ℕ, zero, suc, ◌≡◌, ◌+◌, ◌<◌, ◌≤◌, false, List, [], ◌∷◌, length, drop, get_or, map, slice_set, Option, Some, None, inl, inr, arith, refl, sym, ap, subst, ◌∙◌}
use Rattle.std.specs.Prelude.{IsTrue, IsSome}
use Rattle.outer_io.specs.declared.sources.Source as sources
use Rattle.lists.specs.Each.{Each, EachWith}
use Rattle.lists.proofs.Members.{with_fold}
use Rattle.outer_io.specs.Faults.{Rose}
use Rattle.outer_io.specs.Shown.{LosesNothing}
use Rattle.line_reader.specs.Lines.{is_over, all_lines}
use Rattle.line_reader.specs.Reader.{TextReading}
use Rattle.line_merge.specs.declared.status.FaultyInput.{FaultyInput}
use Rattle.line_merge.specs.declared.status.InputFault.{InputFault}
use Rattle.line_merge.specs.declared.status.InputFault.TheVariants as faults
use Rattle.line_merge.specs.Least.{HasHead, AreDone}
use Rattle.line_merge.specs.Merging.{Takes, head_of, heads_of}
use Rattle.line_merge.specs.Inputs.{input_lines, lines_behind}
use Rattle.line_merge.specs.Readers.{IsReading, IsAtHead, GoesOn, HasGiven, IsTaken, later_lines, later_at, rest_of, rests_of}
use Rattle.line_merge.specs.Run.{IsFresh, InputShown, HasFault, HasLongLine, IsFaulty, bytes_of, input_shown, inputs_shown}

module _ {S : Type 0} (s : sources.Ghosts S) where
  -- ---- one input

  pub stays : (r : TextReading S) → GoesOn s r r
  stays r = record { later = omega arith; bytes = λ tells. refl }

  then : (a b c : TextReading S) → GoesOn s a b → GoesOn s b c → GoesOn s a c
  then a b c one two = record {
    later = omega (arith, one.later, two.later);
    bytes = λ tells. two.bytes tells ∙ one.bytes tells;
  }

  -- ---- all inputs

  pub all_stay : (rs : List (TextReading S)) → EachWith (GoesOn s) rs rs
  all_stay [] = tt
  all_stay (r ∷ rs) = (stays r, all_stay rs)

  pub first_goes_on : (inputs later : List (TextReading S)) (old new : TextReading S) → inputs ≡ old ∷ later
      → s.faults old.reader.source ≤ s.faults new.reader.source → (IsTrue s.tells → bytes_of s new ≡ bytes_of s old)
      → EachWith (GoesOn s) inputs (new ∷ later)
  first_goes_on inputs later old new are on bytes =
      subst (λ is. EachWith (GoesOn s) is (new ∷ later)) (sym are) (record { later = on; bytes = bytes }, all_stay later)

  pub all_then : (xs ys zs : List (TextReading S)) → EachWith (GoesOn s) xs ys → EachWith (GoesOn s) ys zs → EachWith (GoesOn s) xs zs
  all_then xs ys zs h =
      with_fold (GoesOn s) (λ xs ys. (zs : List (TextReading S)) → EachWith (GoesOn s) ys zs → EachWith (GoesOn s) xs zs) (λ zs k. k) next
      xs ys h zs
    where
      next : (x y : TextReading S) (xs ys : List (TextReading S)) → GoesOn s x y → EachWith (GoesOn s) xs ys
          → ((zs : List (TextReading S)) → EachWith (GoesOn s) ys zs → EachWith (GoesOn s) xs zs)
          → (zs : List (TextReading S)) → EachWith (GoesOn s) (y ∷ ys) zs → EachWith (GoesOn s) (x ∷ xs) zs
      next x y xs ys one all rest [] k = absurd k
      next x y xs ys one all rest (z ∷ zs) k = (then x y z one k.0, rest zs k.1)

  -- the moments are those of the next lines
  pub heads_are : (rs : List (TextReading S)) (heads : List (Option ℕ)) → EachWith (IsAtHead s) rs heads
      → heads_of (rests_of s rs heads) ≡ heads
  heads_are = with_fold (IsAtHead s) (λ rs heads. heads_of (rests_of s rs heads) ≡ heads) refl
      (λ r head rs heads _ _ later. (λ i. first r head i ∷ later i))
    where
      first : (r : TextReading S) (head : Option ℕ) → head_of (rest_of s r head) ≡ head
      first r None = refl
      first r (Some at) = refl

  -- ---- the input at a place

  -- it can be read on, its line is the one that is taken, and what its next line makes of all
  pub record IsAmong (rs : List (TextReading S)) (heads : List (Option ℕ)) (place at : ℕ) (r : TextReading S) : Type 0 where
    pub reading : IsReading s r
    pub takes : Takes place (record { at = at; bytes = r.text }) (rests_of s rs heads)
        (slice_set (rests_of s rs heads) place (later_at s rs place at))
    pub next : (r' : TextReading S) (head' : Option ℕ) → HasGiven s at r r' head'
        → IsTaken s place at rs heads (slice_set rs place r') (slice_set heads place head')

  pub among : (rs : List (TextReading S)) (heads : List (Option ℕ)) (place at : ℕ) (r d : TextReading S)
      → EachWith (IsAtHead s) rs heads → HasHead heads place at → r ≡ get_or rs place d → IsAmong rs heads place at r
  among [] [] place at r d h x e = absurd x
  among [] (head ∷ heads) place at r d h x e = absurd h
  among (q ∷ rs) [] place at r d h x e = absurd h
  among (q ∷ rs) (head ∷ heads) zero at r d h x e = rw (e, x) (record {
    reading = h.0.lends (subst IsSome (sym x) refl);
    takes = (refl, refl);
    next = λ r' head' given. record {
      at_heads = (given.at_head, h.1);
      rests = λ tells. ap (λ l. l ∷ rests_of s rs heads) (given.rest tells);
      fewer = omega (arith, given.fewer);
    };
  })
  among (q ∷ rs) (head ∷ heads) (suc place) at r d h x e = let later = among rs heads place at r d h.1 x e in record {
    reading = later.reading;
    takes = (refl, later.takes);
    next = λ r' head' given. let rest = later.next r' head' given in record {
      at_heads = (h.0, rest.at_heads);
      rests = λ tells. ap (λ ls. rest_of s q head ∷ ls) (rest.rests tells);
      fewer = omega (arith, rest.fewer);
    };
  }

  pub goes_on_set : (rs : List (TextReading S)) (place : ℕ) (r d r' : TextReading S) → r ≡ get_or rs place d → GoesOn s r r'
      → EachWith (GoesOn s) rs (slice_set rs place r')
  goes_on_set [] place r d r' e new = tt
  goes_on_set (q ∷ rs) zero r d r' e new = (subst (λ (y : TextReading S). GoesOn s y r') e new, all_stay rs)
  goes_on_set (q ∷ rs) (suc place) r d r' e new = (stays q, goes_on_set rs place r d r' e new)

  pub faulty_set : (rs : List (TextReading S)) (place first : ℕ) (faulty : FaultyInput) (r d r' : TextReading S) → place < length rs
      → r ≡ get_or rs place d → HasFault s.tells faulty.fault (input_shown s r r') → faulty.number ≡ first + place
      → IsFaulty s.tells first faulty (inputs_shown s rs (slice_set rs place r'))
  faulty_set [] place first faulty r d r' within e has number = absurd (omega (arith, within))
  faulty_set (q ∷ rs) zero first faulty r d r' within e has number =
      inl (omega (arith, number), subst (λ (y : TextReading S). HasFault s.tells faulty.fault (input_shown s y r')) e has)
  faulty_set (q ∷ rs) (suc place) first faulty r d r' within e has number =
      inr (tt, faulty_set rs place (first + 1) faulty r d r' (omega (arith, within)) e has (omega (arith, number)))

  -- ---- the same inputs later on

  pub rose_from : (a b c : ℕ) → a ≤ b → Rose b c → Rose a c
  rose_from a b c first (inl below) = inl (omega (arith, first, below))
  rose_from a b c first (inr last) = inr last

  fault_from : (fault : InputFault) (first now new : TextReading S) → GoesOn s first now → HasFault s.tells fault (input_shown s now new)
      → HasFault s.tells fault (input_shown s first new)
  fault_from faults.Read first now new on has =
      rose_from (s.faults first.reader.source) (s.faults now.reader.source) (s.faults new.reader.source) on.later has
  fault_from faults.Cut first now new on has = λ tells. ap is_over (sym (on.bytes tells)) ∙ has tells
  fault_from faults.Long first now new on has = λ tells. subst HasLongLine (on.bytes tells) (has tells)

  pub faulty_from : (firsts nows news : List (TextReading S)) (n : ℕ) (faulty : FaultyInput) → EachWith (GoesOn s) firsts nows
      → IsFaulty s.tells n faulty (inputs_shown s nows news) → IsFaulty s.tells n faulty (inputs_shown s firsts news)
  faulty_from [] [] news n faulty on has = has
  faulty_from [] (now ∷ nows) news n faulty on has = absurd on
  faulty_from (first ∷ firsts) [] news n faulty on has = absurd on
  faulty_from (first ∷ firsts) (now ∷ nows) [] n faulty on has = has
  faulty_from (first ∷ firsts) (now ∷ nows) (new ∷ news) n faulty on (inl here) =
      inl (here.0, fault_from faulty.fault first now new on.0 here.1)
  faulty_from (first ∷ firsts) (now ∷ nows) (new ∷ news) n faulty on (inr there) =
      inr (tt, faulty_from firsts nows news (n + 1) faulty on.1 there.1)

  pub within_from : (firsts nows news : List (TextReading S)) → EachWith (GoesOn s) firsts nows → IsTrue s.tells
      → Each (λ (i : InputShown). is_over i.bytes ≡ false) (inputs_shown s nows news)
      → Each (λ (i : InputShown). is_over i.bytes ≡ false) (inputs_shown s firsts news)
  within_from [] [] news on tells h = tt
  within_from [] (now ∷ nows) news on tells h = absurd on
  within_from (first ∷ firsts) [] news on tells h = absurd on
  within_from (first ∷ firsts) (now ∷ nows) [] on tells h = tt
  within_from (first ∷ firsts) (now ∷ nows) (new ∷ news) on tells h =
      (ap is_over (sym (on.0.bytes tells)) ∙ h.0, within_from firsts nows news on.1 tells h.1)

  -- inputs that are at their ends are within their limits
  pub done_within : (firsts nows : List (TextReading S)) (heads : List (Option ℕ)) → EachWith (GoesOn s) firsts nows
      → EachWith (IsAtHead s) nows heads → AreDone heads → IsTrue s.tells
      → Each (λ (i : InputShown). is_over i.bytes ≡ false) (inputs_shown s firsts nows)
  done_within [] [] heads on at done tells = tt
  done_within [] (now ∷ nows) heads on at done tells = absurd on
  done_within (first ∷ firsts) [] heads on at done tells = absurd on
  done_within (first ∷ firsts) (now ∷ nows) [] on at done tells = absurd at
  done_within (first ∷ firsts) (now ∷ nows) (head ∷ heads) on at done tells =
      (ap is_over (sym (on.0.bytes tells)) ∙ at.0.within done.0 tells, done_within firsts nows heads on.1 at.1 done.1 tells)

  -- ---- what is shown of them

  pub none_lost : (olds news : List (TextReading S)) → EachWith (GoesOn s) olds news → IsTrue s.tells
      → Each (λ (i : InputShown). LosesNothing i.source) (inputs_shown s olds news)
  none_lost olds news on tells = with_fold (GoesOn s)
      (λ olds news. Each (λ (i : InputShown). LosesNothing i.source) (inputs_shown s olds news)) tt
      (λ old new olds news one _ rest. (one.bytes tells, rest)) olds news on

  pub lines_shown : (olds news : List (TextReading S)) → EachWith (GoesOn s) olds news
      → map (λ (i : InputShown). input_lines i.bytes) (inputs_shown s olds news) ≡ map (λ (r : TextReading S). input_lines (bytes_of s r)) olds
  lines_shown = with_fold (GoesOn s)
      (λ olds news. map (λ (i : InputShown). input_lines i.bytes) (inputs_shown s olds news)
      ≡ map (λ (r : TextReading S). input_lines (bytes_of s r)) olds)
      refl (λ old new olds news _ _ rest. ap (λ ls. input_lines (bytes_of s old) ∷ ls) rest)
