-- Numbered lines, their counts, and what was heard so far.
use Rattle.std.proofs.Common.{◌≡◌, ℕ, suc, ◌+◌, ◌-◌, ◌^◌, ◌<◌, ◌≤◌, List, [], ◌∷◌, ◌++◌, map, length, take, Bool, true, false, cond, IsTrue, inl, inr, ⊎_elim, refl, sym, ap, ◌∙◌, subst, arith, length-append, add-zero, add-one}
use Rattle.std.specs.Prelude.{count_by}
use Rattle.std.specs.List.{enumerate_from}
use Rattle.std.proofs.lemmas.List.{map-append, length-map, length-take, take_at}
use Rattle.std.proofs.lemmas.List.Sums.{count_by-le-length, fold-append}
use Rattle.line_reader.specs.Lines.{all_lines}
use Rattle.outer_io.specs.Faults.{Rose}
use Rattle.meter_address.specs.declared.address.Address.{Address}
use Rattle.meter_slots.specs.declared.counts.Counts.{Counts}
use Rattle.meter_slots.specs.declared.counts.Ended.TheVariants as ends
use Rattle.receivers.specs.declared.class.Class.{Class}
use Rattle.receivers.specs.declared.told.Told.{Told}
use Rattle.receivers.specs.Counting.{one_if, with_class, AreFew}
use Rattle.receivers.specs.Classes.{class_by, is_own, is_strange, is_unframed, is_bad, count_of, counts_of}
use Rattle.receivers.specs.Ending.{TellsNext, IsEnding}
use Rattle.receivers.specs.Receiver.{no_counts}
use Rattle.receivers.specs.Run.{Hearing, lines_taken, lines_of, HasHeard}
use Rattle.outer_io.specs.Shown.{ReadFailed, LosesNothing}
use Rattle.receivers.specs.Told.{told_of}

-- ---- numbers

pub enumerate_on : {X : Type 0} (m : ℕ) (xs ys : List X) → enumerate_from m (xs ++ ys) ≡ enumerate_from m xs ++ enumerate_from (m + length xs) ys
enumerate_on m [] ys = let e : m ≡ m + 0 = omega arith in ap (λ k. enumerate_from k ys) e
enumerate_on {X} m (x ∷ xs) ys =
    let e : (m + 1) + length xs ≡ m + length (x ∷ xs) = omega arith in
    ap (λ (ls : List (ℕ × X)). (m, x) ∷ ls)
    (enumerate_on (m + 1) xs ys ∙ ap (λ k. enumerate_from (m + 1) xs ++ enumerate_from k ys) e)

pub numbered : {X : Type 0} (n : ℕ) (xs : List X) (x : X) → enumerate_from n (xs ++ x ∷ []) ≡ enumerate_from n xs ++ (n + length xs, x) ∷ []
numbered n xs x = enumerate_on n xs (x ∷ [])

-- ---- first ones of a list

pub take_less : {X : Type 0} (n : ℕ) (xs : List X) → take n (take (n + 1) xs) ≡ take n xs
take_less n xs = ap (λ (m : ℕ). take n (take m xs)) (add-one n) ∙ less n xs
  where
    less : {X : Type 0} (n : ℕ) (xs : List X) → take n (take (suc n) xs) ≡ take n xs
    less (suc n) (x ∷ xs) = ap (λ l. x ∷ l) (less n xs)
    less _ _ = refl

take_taken : {X : Type 0} (n : ℕ) (xs : List X) → take n xs ≡ take (length (take n xs)) xs
take_taken (suc n) (x ∷ xs) = ap (λ l. x ∷ l) (take_taken n xs)
take_taken _ _ = refl

-- ---- counts

count-push : {X : Type 0} (p : X → Bool) (xs : List X) (x : X) → count_by p (xs ++ x ∷ []) ≡ count_by p xs + cond (p x) 1 0
count-push p xs x = fold-append (λ n y. n + cond (p y) 1 0) 0 xs (x ∷ [])

one_more : (b : Bool) (n : ℕ) → n + cond b 1 0 ≡ one_if b n
one_more true n = refl
one_more false n = add-zero n

pub are_few : (directory : List Address) (heard : List Told) (n : Counts) → n ≡ counts_of directory heard → length heard < 2 ^ 32 - 1
    → AreFew n
unfolding counts_of
are_few directory heard n h few = subst AreFew (sym h) (record {
  room = few;
  own = count_by-le-length (λ t. is_own (class_by directory t)) heard;
  strangers = count_by-le-length (λ t. is_strange (class_by directory t)) heard;
  unframed = count_by-le-length (λ t. is_unframed (class_by directory t)) heard;
  bad = count_by-le-length (λ t. is_bad (class_by directory t)) heard;
})

pub lines_counted : (directory : List Address) (heard : List Told) (n : Counts) → n ≡ counts_of directory heard → n.lines ≡ length heard
unfolding counts_of
lines_counted directory heard n h = ap (λ (m : Counts). m.lines) h

class_more : (is : Class → Bool) (directory : List Address) (heard : List Told) (t : Told) (n : ℕ) → n ≡ count_of is directory heard
    → one_if (is (class_by directory t)) n ≡ count_of is directory (heard ++ t ∷ [])
class_more is directory heard t n h = ap (one_if (is (class_by directory t))) h
    ∙ (sym (one_more (is (class_by directory t)) (count_of is directory heard)) ∙ sym (count-push (λ x. is (class_by directory x)) heard t))

pub counted : (directory : List Address) (heard : List Told) (t : Told) (n : Counts) → n ≡ counts_of directory heard
    → with_class n (class_by directory t) ≡ counts_of directory (heard ++ t ∷ [])
unfolding counts_of
counted directory heard t n h = λ i. record {
  lines = (ap (λ (m : Counts). m.lines + 1) h ∙ sym (length-append heard (t ∷ []))) i;
  own = class_more is_own directory heard t n.own (ap (λ (m : Counts). m.own) h) i;
  strangers = class_more is_strange directory heard t n.strangers (ap (λ (m : Counts). m.strangers) h) i;
  unframed = class_more is_unframed directory heard t n.unframed (ap (λ (m : Counts). m.unframed) h) i;
  bad = class_more is_bad directory heard t n.bad (ap (λ (m : Counts). m.bad) h) i;
}

pub counted_none : (directory : List Address) → no_counts ≡ counts_of directory []
unfolding counts_of
counted_none directory = refl

-- ---- what was heard so far

-- what the lines given tell, and their counts
pub record HeardSo (tells : Bool) (directory : List Address) (lines : List (List ℕ)) (counts : Counts) (heard : List Told) : Type 0 where
  pub heard_is : IsTrue tells → heard ≡ map told_of lines
  pub counts_are : counts ≡ counts_of directory heard

pub heard_first : (tells : Bool) (directory : List Address) (all : List (List ℕ)) (n : ℕ) (counts : Counts) → n ≡ 0 → counts ≡ no_counts
    → HeardSo tells directory (take n all) counts []
heard_first tells directory all n counts zero_is none = record {
  heard_is = λ _. ap (λ (k : ℕ). map told_of (take k all)) (sym zero_is);
  counts_are = none ∙ counted_none directory;
}

pub heard_next : (tells : Bool) (directory : List Address) (old new : List (List ℕ)) (counts counts' : Counts) (heard : List Told)
    (told : Told) (class : Class)
    → HeardSo tells directory old counts heard → (IsTrue tells → TellsNext told old new) → class ≡ class_by directory told
    → counts' ≡ with_class counts class → HeardSo tells directory new counts' (heard ++ told ∷ [])
heard_next tells directory old new counts counts' heard told class so next is more = record {
  heard_is = λ h. let n = next h in
      (λ i. so.heard_is h i ++ sym n.tells i ∷ []) ∙ (sym (map-append told_of old (n.text ∷ [])) ∙ ap (map told_of) (sym n.more));
  counts_are = more ∙ (ap (with_class counts) is ∙ counted directory heard told counts so.counts_are);
}

-- ---- how it ended

pub record HasEnded (h : Hearing) (lines : List (List ℕ)) : Type 0 where
  pub lines_are : IsTrue h.tells → lines_of h ≡ lines
  pub ending : IsTrue h.tells → IsEnding h.ended h.source.now.taken h.source.now.left (lines_of h)

pub has_heard : (directory : List Address) (h : Hearing) (lines : List (List ℕ)) (heard : List Told)
    → HeardSo h.tells directory lines h.counts heard → HasEnded h lines
    → (h.ended ≡ ends.ReadFault → ReadFailed h.source) → h.source.before.faults ≤ h.source.now.faults
    → (IsTrue h.tells → LosesNothing h.source) → HasHeard directory h heard
has_heard directory h lines heard so ended fault later no_loss = record {
  lines = λ t. so.heard_is t ∙ ap (map told_of) (sym (ended.lines_are t));
  counts = so.counts_are;
  ending = ended.ending;
  read_fault = fault;
  later = later;
  no_loss = no_loss;
}

-- a count that rose in the last step of a run rose in the run
pub rose_since : (first before now : ℕ) → first ≤ before → Rose before now → Rose first now
rose_since first before now later rose = ⊎_elim (λ more. inl (omega arith)) (λ most. inr most) rose

-- the reader gave no further line
pub ended_told : (h : Hearing) (old : List (List ℕ)) (n : ℕ) → n ≡ h.counts.lines
    → (IsTrue h.tells → (lines_taken n h.source.now.taken ≡ old)
    × IsEnding h.ended h.source.now.taken h.source.now.left (lines_taken n h.source.now.taken)) → HasEnded h old
ended_told h old n number given = record {
  lines_are = λ t. ap (λ (k : ℕ). lines_taken k h.source.now.taken) (sym number) ∙ (given t).0;
  ending =
      λ t. subst (λ (k : ℕ). IsEnding h.ended h.source.now.taken h.source.now.left (lines_taken k h.source.now.taken)) number (given t).1;
}

-- it gave one more, for which there was no memory
pub ended_memory : (directory : List Address) (h : Hearing) (old new : List (List ℕ)) (heard : List Told) (told : Told)
    → h.ended ≡ ends.Memory → HeardSo h.tells directory old h.counts heard
    → (IsTrue h.tells → TellsNext told old new) → new ≡ lines_taken (h.counts.lines + 1) h.source.now.taken → HasEnded h old
ended_memory directory h old new heard told is so next new_is = record {
  lines_are = lines_are;
  ending = λ t. subst (λ e. IsEnding e h.source.now.taken h.source.now.left (lines_of h)) (sym is) (record {
    first_ones = take_taken h.counts.lines (all_lines h.source.now.taken);
    one_more = (
        let n = next t in let k = counted_so t in
        let more = length-append old (n.text ∷ []) in
        let longer = ap length (sym n.more ∙ new_is) in
        let here = ap length (lines_are t) in
        omega (arith, length-take (h.counts.lines + 1) (all_lines h.source.now.taken)));
  });
}
  where
    counted_so : IsTrue h.tells → h.counts.lines ≡ length old
    counted_so t = let n = lines_counted directory heard h.counts so.counts_are in
        let long = ap length (so.heard_is t) ∙ length-map old told_of in omega arith

    lines_are : IsTrue h.tells → lines_of h ≡ old
    lines_are t = let n = next t in
        sym (take_less h.counts.lines (all_lines h.source.now.taken))
        ∙ (ap (take h.counts.lines) (sym new_is ∙ n.more) ∙ take_at old (n.text ∷ []) h.counts.lines (sym (counted_so t)))

-- it gave one more, whose downlink couldn't be written
pub ended_unsent : (h : Hearing) (old new : List (List ℕ)) (told : Told) → h.ended ≡ ends.TxFault
    → (IsTrue h.tells → TellsNext told old new) → new ≡ lines_of h → HasEnded h new
ended_unsent h old new told is next new_is = record {
  lines_are = λ t. sym new_is;
  ending = λ t. subst (λ e. IsEnding e h.source.now.taken h.source.now.left (lines_of h)) (sym is) (record {
    first_ones = take_taken h.counts.lines (all_lines h.source.now.taken);
    some = (let n = next t in let more = length-append old (n.text ∷ []) in let long = ap length (sym new_is ∙ n.more) in omega arith);
  });
}
