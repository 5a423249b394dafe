-- Fronts of texts that are written one behind the other.
use Rattle.std.proofs.Common.{◌≡◌, ℕ, ◌+◌, List, ◌++◌, length, take, sym, ap, ◌∙◌, append_assoc, append-nil, length-append, arith}
use Rattle.std.proofs.lemmas.List.{take_all, take-append-le}
use Rattle.std.proofs.Math.Seq.{take-append-add}
use Rattle.outer_io.specs.Bytes.{AppendsFront}

pub none : (text old : List ℕ) → AppendsFront text old old
none text old = record { count = 0; within = omega arith; appended = sym (append-nil old) }

pub first : (text more old new : List ℕ) → AppendsFront text old new → AppendsFront (text ++ more) old new
first text more old new front = record {
  count = front.count;
  within = omega (arith, front.within, length-append text more);
  appended = front.appended ∙ ap (λ t. old ++ t) (sym (take-append-le front.count text more front.within));
}

pub behind : (text more old mid new : List ℕ) → mid ≡ old ++ text → AppendsFront more mid new → AppendsFront (text ++ more) old new
behind text more old mid new whole front = record {
  count = length text + front.count;
  within = omega (arith, front.within, length-append text more);
  appended = front.appended ∙ ap (λ t. t ++ take front.count more) whole ∙ append_assoc old text (take front.count more)
      ∙ ap (λ t. old ++ t) (sym (take-append-add text more front.count));
}

pub whole : (text old new : List ℕ) → new ≡ old ++ text → AppendsFront text old new
whole text old new is =
    record { count = length text; within = omega arith; appended = is ∙ ap (λ t. old ++ t) (sym (take_all (length text) text (omega arith))) }

-- the first text alone
pub first_whole : (text more old new : List ℕ) → new ≡ old ++ text → AppendsFront (text ++ more) old new
first_whole text more old new is = behind text more old new new is (none more new)

-- two texts, or lists of anything, one behind the other
pub both : {A : Type 0} (text more old mid new : List A) → mid ≡ old ++ text → new ≡ mid ++ more → new ≡ old ++ (text ++ more)
both text more old mid new one two = two ∙ ap (λ t. t ++ more) one ∙ append_assoc old text more
