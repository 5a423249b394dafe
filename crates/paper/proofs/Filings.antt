-- What a paper over a sink does, over several calls.
use Rattle.std.proofs.Common.{◌≡◌, ◌≤◌, refl, sym, ◌∙◌, ap, subst, arith, append_assoc, take, drop}
use Rattle.std.specs.Prelude.{ℕ, Bool, true, false, List, [], ◌++◌, IsTrue}
use Rattle.std.proofs.lemmas.List.{append-nil, take-append-drop, append_cancel_left}
use Rattle.outer_io.specs.Bytes.{AppendsFront}
use Rattle.outer_io.specs.Faults.{Rose}
use Rattle.outer_io.proofs.Fronts.{first_whole}
use Rattle.paper.specs.Puts.{Puts}
use Rattle.paper.specs.Filing.{Filed, IsFrontOf, Files}
use Rattle.paper.proofs.Calls.{puts_have}

front_trans : (a b c : List ℕ) → IsFrontOf a b → IsFrontOf b c → IsFrontOf a c
front_trans a b c f g =
    record { rest = f.rest ++ g.rest; joined = g.joined ∙ ap (λ t. t ++ g.rest) f.joined ∙ append_assoc a f.rest g.rest }

-- what a write did
pub appended_grows : (bytes old new : List ℕ) → AppendsFront bytes old new → IsFrontOf old new
appended_grows bytes old new a = record { rest = take a.count bytes; joined = a.appended }

pub appended_front : (bytes old new : List ℕ) → AppendsFront bytes old new → IsFrontOf new (old ++ bytes)
appended_front bytes old new a = record {
  rest = drop a.count bytes;
  joined = ap (λ t. old ++ t) (sym (take-append-drop a.count bytes)) ∙ sym (append_assoc old (take a.count bytes) (drop a.count bytes))
      ∙ ap (λ t. t ++ drop a.count bytes) (sym a.appended);
}

pub whole_front : (bytes old new : List ℕ) → new ≡ old ++ bytes → IsFrontOf new (old ++ bytes)
whole_front bytes old new e = record { rest = []; joined = sym e ∙ sym (append-nil new) }

-- two texts behind what is written and what waits
behind_both : (w p s x y : List ℕ) → s ≡ w ++ p ++ x → s ++ y ≡ w ++ p ++ (x ++ y)
behind_both w p s x y e = ap (λ t. t ++ y) e ∙ append_assoc (w ++ p) x y

-- no text
pub files_none : (tells : Bool) (a : Filed) → Files tells a [] a
files_none tells a = record {
  later = omega arith;
  grows = λ t. record { rest = []; joined = sym (append-nil a.written) };
  whole = λ off. (off, λ t. sym (append-nil (a.written ++ a.page)));
  front = λ off on t. absurd (differ (sym off ∙ on));
  stuck = λ on. (on, λ t. refl);
  cause = λ off on. absurd (differ (sym off ∙ on));
}
  where
    differ : false ≡ true → ⊥
    differ e = grind (arith, e)

front_by : (tells : Bool) (a b c : Filed) (x y : List ℕ) (mid : Bool) → b.failed ≡ mid → Files tells a x b → Files tells b y c
    → a.failed ≡ false → c.failed ≡ true → IsTrue tells → IsFrontOf c.written (a.written ++ a.page ++ (x ++ y))
front_by tells a b c x y false is one two off on t =
    subst (λ s. IsFrontOf c.written s) (behind_both a.written a.page _ x y ((one.whole is).1 t)) (two.front is on t)
front_by tells a b c x y true is one two off on t =
    let front = one.front off is t in
    record {
      rest = front.rest ++ y;
      joined = sym (behind_both a.written a.page _ x y refl) ∙ ap (λ s. s ++ y) front.joined ∙ append_assoc b.written front.rest y
          ∙ ap (λ w. w ++ (front.rest ++ y)) (sym ((two.stuck is).1 t));
    }

cause_by : (tells : Bool) (a b c : Filed) (x y : List ℕ) (mid : Bool) → b.failed ≡ mid → Files tells a x b → Files tells b y c
    → a.failed ≡ false → c.failed ≡ true → Rose a.faults c.faults
cause_by tells a b c x y false is one two off on = let later = one.later in let rose = two.cause is on in grind arith
cause_by tells a b c x y true is one two off on = let later = two.later in let rose = one.cause off is in grind arith

-- a text, and then more
pub files_then : (tells : Bool) (a b c : Filed) (x y : List ℕ) → Files tells a x b → Files tells b y c → Files tells a (x ++ y) c
files_then tells a b c x y one two = record {
  later = omega (arith, one.later, two.later);
  grows = λ t. front_trans a.written b.written c.written (one.grows t) (two.grows t);
  whole = λ off. let mid =
      (two.whole off).0 in (
        (one.whole mid).0,
        λ t. (two.whole off).1 t ∙ behind_both a.written a.page _ x y ((one.whole mid).1 t),
      );
  front = front_by tells a b c x y b.failed refl one two;
  stuck = λ on. let mid = one.stuck on in let last = two.stuck mid.0 in (last.0, λ t. last.1 t ∙ mid.1 t);
  cause = cause_by tells a b c x y b.failed refl one two;
}

-- the page given to the sink
pub files_turn : (tells : Bool) (w p b w' e : List ℕ) (failed failed' : Bool) (f f' : ℕ) → b ≡ p → e ≡ [] → f ≤ f'
    → (IsTrue tells → IsFrontOf w w')
    → (failed' ≡ false → (failed ≡ false) × (IsTrue tells → w' ≡ w ++ b)) → (failed ≡ false → IsTrue tells → IsFrontOf w' (w ++ b))
    → (failed ≡ true → (failed' ≡ true) × (IsTrue tells → w' ≡ w)) → (failed ≡ false → failed' ≡ true → Rose f f')
    → Files tells (record { written = w; page = p; failed = failed; faults = f }) []
    (record { written = w'; page = e; failed = failed'; faults = f' })
files_turn tells w p b w' e failed failed' f f' same empty later grows whole front stuck cause = record {
  later = later;
  grows = grows;
  whole = λ off. ((whole off).0, λ t. ap (λ t. w' ++ t) empty ∙ ap (λ t. t ++ []) ((whole off).1 t ∙ ap (λ t. w ++ t) same));
  front = λ off on t. subst (λ s. IsFrontOf w' s) (ap (λ t. w ++ t) same ∙ sym (append-nil (w ++ p))) (front off t);
  stuck = stuck;
  cause = cause;
}

-- what is put on a paper over a sink goes to the sink, or a write failed
pub puts_file : {P N : Type 0} (tells : Bool) (takes : P → List ℕ → P → Type 0) (name : P → N) (filed : P → Filed)
    → ((p : P) (text : List ℕ) (q : P) → takes p text q → (name q ≡ name p) × Files tells (filed p) text (filed q))
    → (p q : P) (text : List ℕ) → Puts takes p text q → (name q ≡ name p) × Files tells (filed p) text (filed q)
puts_file tells takes name filed each =
    puts_have takes (λ p text q. (name q ≡ name p) × Files tells (filed p) text (filed q)) (λ p. (refl, files_none tells (filed p)))
    (λ p mid q text more one later. let first = each p text mid one in (later.0 ∙ first.0, files_then tells _ _ _ text more first.1 later.1))

-- where two fronts of one text stand, the bytes between them are first bytes of the rest
between : (a c text m r : List ℕ) → c ≡ a ++ m → a ++ text ≡ c ++ r → AppendsFront text a c
between a c text m r grown joined =
    let rest : text ≡ m ++ r = append_cancel_left a text (m ++ r) (joined ∙ ap (λ t. t ++ r) grown ∙ append_assoc a m r) in
    subst (λ t. AppendsFront t a c) (sym rest) (first_whole m r a c grown)

-- a text put on a fresh paper, and the rest given to the sink
pub record Finished (tells : Bool) (a : Filed) (text : List ℕ) (c : Filed) : Type 0 where
  pub ok : c.failed ≡ false → IsTrue tells → c.written ≡ a.written ++ text
  pub err : c.failed ≡ true → IsTrue tells → AppendsFront text a.written c.written
  pub later : a.faults ≤ c.faults
  pub cause : c.failed ≡ true → Rose a.faults c.faults

no_more : (w text p : List ℕ) → p ≡ [] → w ++ p ++ (text ++ []) ≡ w ++ text
no_more w text p e = rw e (simp append-nil)

pub finished : (tells : Bool) (a b c : Filed) (text : List ℕ) → a.failed ≡ false → a.page ≡ [] → Files tells a text b → Files tells b [] c
    → c.page ≡ [] → Finished tells a text c
finished tells a b c text fresh empty one two emptied =
    let all : Files tells a (text ++ []) c = files_then tells a b c text [] one two in record {
      ok = λ off t. sym (append-nil c.written) ∙ ap (λ (t : List ℕ). c.written ++ t) (sym emptied) ∙ (all.whole off).1 t
          ∙ no_more a.written text a.page empty;
      err = λ on t. let front = all.front fresh on t in let grown = all.grows t in
          between a.written c.written text grown.rest front.rest grown.joined (sym (no_more a.written text a.page empty) ∙ front.joined);
      later = all.later;
      cause = all.cause fresh;
    }

-- a text put on a fresh paper over a sink, and the paper finished
pub print_finished : {P N : Type 0} (tells : Bool) (takes : P → List ℕ → P → Type 0) (name : P → N) (filed : P → Filed)
    → ((p : P) (text : List ℕ) (q : P) → takes p text q → (name q ≡ name p) × Files tells (filed p) text (filed q))
    → (p q r : P) (text : List ℕ) → Puts takes p text q → name r ≡ name q → Files tells (filed q) [] (filed r)
    → (filed p).failed ≡ false → (filed p).page ≡ [] → (filed r).page ≡ [] → (name r ≡ name p) × Finished tells (filed p) text (filed r)
print_finished tells takes name filed each p q r text puts same two fresh empty emptied =
    let done = puts_file tells takes name filed each p q text puts in
    (same ∙ done.0, finished tells (filed p) (filed q) (filed r) text fresh empty done.1 two emptied)
