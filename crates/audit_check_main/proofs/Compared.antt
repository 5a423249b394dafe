-- A text that is compared with another one piece by piece.
use Rattle.std.proofs.Common.{◌≡◌, ℕ, zero, suc, ◌+◌, ◌<◌, ◌≤◌, nat_lt, Bool, true, false, List, [], ◌∷◌, ◌++◌, length, take, drop, Some, refl, sym, ap, ◌∙◌, subst, arith, append_assoc, append-nil, length-append}
use Rattle.std.specs.List.{slice_get, FoldsTo, concat}
use Rattle.std.proofs.lemmas.Bool.{ltb-true, ltb-false}
use Rattle.std.proofs.lemmas.List.{get_or_at, take_all, take-append-le, length-take-le, length-drop}
use Rattle.std.proofs.lemmas.Option.{slice_get-get_or}
use Rattle.std.proofs.Math.Nat.{zero-add, suc-add}
use Rattle.std.proofs.Math.Seq.{take-add, take-append-add}
use Rattle.paper.specs.Puts.{Puts}
use Rattle.audit_check_main.specs.Comparing.{Compared, IsCommon, IsSoFar, Compares}

-- ---- items of lists

pub get-append : {X : Type 0} (xs ys : List X) (i : ℕ) → i < length xs → slice_get (xs ++ ys) i ≡ slice_get xs i
get-append [] ys i h = absurd (omega arith)
get-append (x ∷ xs) ys zero h = refl
get-append (x ∷ xs) ys (suc i) h = get-append xs ys i (omega arith)

get-behind : {X : Type 0} (xs ys : List X) (i : ℕ) → slice_get (xs ++ ys) (length xs + i) ≡ slice_get ys i
get-behind [] ys i = rw zero-add refl
get-behind (x ∷ xs) ys i = rw suc-add (get-behind xs ys i)

get-drop : {X : Type 0} (xs : List X) (n i : ℕ) → slice_get (drop n xs) i ≡ slice_get xs (n + i)
get-drop xs zero i = rw zero-add refl
get-drop [] (suc n) i = refl
get-drop (x ∷ xs) (suc n) i = rw suc-add (get-drop xs n i)

pub get-take : {X : Type 0} (xs : List X) (p q : ℕ) → p < q → slice_get (take q xs) p ≡ slice_get xs p
get-take xs p zero h = absurd (omega arith)
get-take [] p (suc q) h = refl
get-take (x ∷ xs) zero (suc q) h = refl
get-take (x ∷ xs) (suc p) (suc q) h = get-take xs p q (omega arith)

pub get-there : {X : Type 0} (front : List X) (x : X) (rest : List X) (n : ℕ) → n ≡ length front → slice_get (front ++ x ∷ rest) n ≡ Some x
get-there front x rest n e =
    slice_get-get_or (front ++ x ∷ rest) n x (let l = length-append front (x ∷ rest) in omega arith)
    ∙ ap Some (get_or_at front x rest x n (sym e))

-- ---- one piece

pub skipped : (c : Compared) (piece : List ℕ) → c.differs ≡ true → Compares c piece c
skipped c piece d = record {
  same_text = refl;
  goes_on = λ put so. let inside = so.inside d in record {
    within = so.within;
    same = λ e. absurd cc;
    front = λ e. take-append-le c.place put piece (omega arith) ∙ so.front d;
    inside = λ e. let l = length-append put piece in omega arith;
    other = λ e same. so.other d (same ∙ get-append put piece c.place inside);
  };
}

-- a piece of which so many first bytes follow in the text
pub put_piece : (text : List ℕ) (place : ℕ) (differs : Bool) (piece rest : List ℕ) (count : ℕ) (old : Compared)
    → record { text = text; place = place; differs = differs } ≡ old → differs ≡ false → rest ≡ drop place text → place ≤ length text
    → IsCommon count rest piece
    → Compares old piece (record { text = text; place = place + count; differs = nat_lt count (length piece) })
put_piece text place differs piece rest count old is off back within common =
    subst (λ p. Compares p piece (record { text = text; place = place + count; differs = nat_lt count (length piece) })) is (record {
      same_text = refl;
      goes_on = λ put so.
          let long : place ≡ length put = sym (ap length (so.same off) ∙ length-take-le place text within) in
          let both : put ++ take count piece ≡ take (place + count) text =
          (λ i. so.same off i ++ (sym common.same ∙ ap (take count) back) i) ∙ sym (take-add place count text) in
          let all = length-append put piece in record {
            within = let l = ap length back ∙ length-drop place text in let i = common.in_text in omega arith;
            same = λ e. ap (λ l. put ++ l) (sym (take_all count piece (ltb-false count (length piece) e))) ∙ both;
            front = λ e. ap (λ n. take (n + count) (put ++ piece)) long ∙ (take-append-add put piece count ∙ both);
            inside = λ e. let part = ltb-true count (length piece) e in omega arith;
            other = λ e same. common.stops (ltb-true count (length piece) e)
                (ap (λ r. slice_get r count) back ∙ (get-drop text place count
                ∙ (same ∙ (ap (λ n. slice_get (put ++ piece) (n + count)) long ∙ get-behind put piece count))));
          };
    })

-- ---- all pieces

folds_compare : (p q : Compared) (parts : List (List ℕ)) → FoldsTo Compares p parts q → Compares p (concat parts) q
folds_compare p q [] same = record {
  same_text = ap (λ (c : Compared). c.text) (sym same);
  goes_on = λ put so. subst (λ l. IsSoFar q l) (sym (append-nil put)) (subst (λ c. IsSoFar c put) same so);
}
folds_compare p q (piece ∷ parts) (j, one, rest) = let later = folds_compare j q parts rest in record {
  same_text = later.same_text ∙ one.same_text;
  goes_on = λ put so. subst (IsSoFar q) (append_assoc put piece (concat parts)) (later.goes_on (put ++ piece) (one.goes_on put so));
}

-- what several calls put is compared as one piece
pub puts_compare : (p q : Compared) (text : List ℕ) → Puts Compares p text q → Compares p text q
puts_compare p q text puts = subst (λ t. Compares p t q) puts.calls.whole (folds_compare p q puts.calls.parts puts.calls.calls)

pub so_far : (p q : Compared) (text put : List ℕ) → p ≡ record { text = text; place = 0; differs = false } → Puts Compares p put q
    → (q.text ≡ text) × IsSoFar q put
so_far p q text put fresh puts =
    let all = puts_compare p q put puts in (
      all.same_text ∙ ap (λ (c : Compared). c.text) fresh,
      all.goes_on [] (subst (λ c. IsSoFar c []) (sym fresh) (record {
        within = omega arith;
        same = λ e. refl;
        front = λ e. absurd cc;
        inside = λ e. absurd cc;
        other = λ e. absurd cc;
      })),
    )
