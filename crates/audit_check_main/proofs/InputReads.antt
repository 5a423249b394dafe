-- Sources that are read one after another.
use Rattle.std.proofs.Common.{◌≡◌, ℕ, suc, ◌+◌, ◌<◌, ◌≤◌, List, [], ◌∷◌, ◌++◌, length, take, drop, get_or, set, IsTrue, refl, sym, ap, ◌∙◌, subst, arith, append_assoc, length-append}
use Rattle.std.specs.Prelude.{Option, Some, None, IfSome}
use Rattle.std.proofs.lemmas.List.{drop_more, get_or_at, length-take-le, set_at, take_more, take-append-drop}
use Rattle.lists.proofs.Members.{each_append, with_push}
use Rattle.outer_io.specs.declared.sources.Source as sources
use Rattle.lists.specs.Each.{Each, EachWith, IsFirst}
use Rattle.outer_io.specs.Shown.{Change, SourceShown, source_change, ReadFailed, LosesNothing}
use Rattle.audit_check_main.proofs.Firsts.{stops_behind}
use Rattle.audit_check_main.specs.Run.{IsReadPast, WasRead, next_change, source_changes}

-- ---- lists

-- inputs of which these bytes were read were read
all_read : (T : Type 0) (sources : List (Change SourceShown)) (read : List (List ℕ)) → (T → EachWith (IsReadPast 67108864) sources read)
    → Each (λ source. T → WasRead source) sources
all_read T [] read h = tt
all_read T (source ∷ sources) [] h = ((λ t. absurd (h t)), none sources)
  where
    none : (later : List (Change SourceShown)) → Each (λ source. T → WasRead source) later
    none [] = tt
    none (later ∷ rest) = ((λ t. absurd (h t)), none rest)
all_read T (source ∷ sources) (bytes ∷ read) h =
    ((λ t. record { bytes = bytes; past = (h t).0 }), all_read T sources read (λ t. (h t).1))

-- ---- sources

module _ {S : Type 0} (s : sources.Ghosts S) where
  changes_append : (xs ys xs' ys' : List S) → length xs ≡ length xs'
      → source_changes s (xs ++ ys) (xs' ++ ys') ≡ source_changes s xs xs' ++ source_changes s ys ys'
  changes_append [] ys [] ys' e = refl
  changes_append (x ∷ xs) ys (x' ∷ xs') ys' e = ap (λ l. source_change s x x' ∷ l) (changes_append xs ys xs' ys' (omega arith))
  changes_append _ ys _ ys' e = absurd (omega arith)

  length-changes : (xs xs' : List S) → length xs ≡ length xs' → length (source_changes s xs xs') ≡ length xs
  length-changes [] [] e = refl
  length-changes (x ∷ xs) (x' ∷ xs') e = ap suc (length-changes xs xs' (omega arith))
  length-changes _ _ e = absurd (omega arith)

  pub next_untouched : (next : Option S) → IfSome (next_change s next next) LosesNothing
  next_untouched None = tt
  next_untouched (Some x) = refl

  pub untouched : (xs : List S) → Each LosesNothing (source_changes s xs xs)
  untouched [] = tt
  untouched (x ∷ xs) = (refl, untouched xs)

  -- the first sources, so many, were read, and the others are as they were
  pub record InputsSo (place : ℕ) (olds news : List S) (read : List (List ℕ)) : Type 0 where
    pub front : List S
    pub news_are : news ≡ front ++ drop place olds
    pub count : length front ≡ place
    pub inside : place ≤ length olds
    pub counted : length read ≡ place
    pub each : IsTrue s.tells → EachWith (IsReadPast 67108864) (source_changes s (take place olds) front) read
    pub steady : IsTrue s.tells → Each LosesNothing (source_changes s (take place olds) front)

  pub inputs_first : (olds news : List S) (read : List (List ℕ)) → news ≡ olds → read ≡ [] → InputsSo 0 olds news read
  inputs_first olds news read same none =
      subst (InputsSo 0 olds news) (sym none) (record {
        front = [];
        news_are = same;
        count = refl;
        inside = omega arith;
        counted = refl;
        each = λ t. tt;
        steady = λ t. tt;
      })

  module _ (place : ℕ) (olds news news' : List S) (read : List (List ℕ)) (x x' : S) (so : InputsSo place olds news read)
      (more : place < length olds) (is : x ≡ get_or news place x) (after : news' ≡ set news place x') where
    old_is : get_or olds place x ≡ x
    old_is = sym (is ∙ (ap (λ l. get_or l place x) (so.news_are ∙ ap (λ l. so.front ++ l) (drop_more olds place x more))
        ∙ get_or_at so.front (get_or olds place x) (drop (place + 1) olds) x place so.count))

    taken_more : take (place + 1) olds ≡ take place olds ++ x ∷ []
    taken_more = take_more olds place x more ∙ ap (λ y. take place olds ++ y ∷ []) old_is

    news_more : news' ≡ (so.front ++ x' ∷ []) ++ drop (place + 1) olds
    news_more =
        after ∙ (ap (λ l. set l place x') (so.news_are ∙ ap (λ l. so.front ++ l) (drop_more olds place x more))
        ∙ (set_at so.front (get_or olds place x) (drop (place + 1) olds) x' place so.count
        ∙ sym (append_assoc so.front (x' ∷ []) (drop (place + 1) olds))))

    long : length (take place olds) ≡ length so.front
    long = length-take-le place olds (omega arith) ∙ sym so.count

    changed : source_changes s (take place olds ++ x ∷ []) (so.front ++ x' ∷ []) ≡ source_changes s (take place olds) so.front
        ++ source_change s x x' ∷ []
    changed = changes_append (take place olds) (x ∷ []) so.front (x' ∷ []) long

    pub inputs_next : (bytes : List ℕ) (read' : List (List ℕ)) → read' ≡ read ++ bytes ∷ []
        → (IsTrue s.tells → IsReadPast 67108864 (source_change s x x') bytes) → (IsTrue s.tells → LosesNothing (source_change s x x'))
        → InputsSo (place + 1) olds news' read'
    inputs_next bytes read' pushed past lost = subst (InputsSo (place + 1) olds news') (sym pushed) (record {
      front = so.front ++ x' ∷ [];
      news_are = news_more;
      count = length-append so.front (x' ∷ []) ∙ ap (λ n. n + 1) so.count;
      inside = omega arith;
      counted = length-append read (bytes ∷ []) ∙ ap (λ n. n + 1) so.counted;
      each = λ t. subst (λ c. EachWith (IsReadPast 67108864) c (read ++ bytes ∷ []))
          (sym (ap (λ o. source_changes s o (so.front ++ x' ∷ [])) taken_more ∙ changed))
          (with_push (IsReadPast 67108864) (source_changes s (take place olds) so.front) read (source_change s x x') bytes (so.each t)
          (past t));
      steady = λ t. subst (Each LosesNothing) (sym (ap (λ o. source_changes s o (so.front ++ x' ∷ [])) taken_more
          ∙ changed)) (each_append LosesNothing (source_changes s (take place olds) so.front) (source_change s x x' ∷ []) (so.steady t)
          (lost t, tt));
    })

    all_changes : source_changes s olds news' ≡ source_changes s (take place olds) so.front ++ source_change s x x'
        ∷ source_changes s (drop (place + 1) olds) (drop (place + 1) olds)
    all_changes =
        (λ i. source_changes s (whole i) (news_more i))
        ∙ (changes_append (take place olds ++ x ∷ []) (drop (place + 1) olds) (so.front ++ x' ∷ []) (drop (place + 1) olds)
        (length-append (take place olds) (x ∷ []) ∙ (ap (λ n. n + 1) long ∙ sym (length-append so.front (x' ∷ []))))
        ∙ (ap (λ c. c ++ source_changes s (drop (place + 1) olds) (drop (place + 1) olds)) changed
        ∙ append_assoc (source_changes s (take place olds) so.front) (source_change s x x' ∷ [])
        (source_changes s (drop (place + 1) olds) (drop (place + 1) olds))))
      where
        whole : olds ≡ (take place olds ++ x ∷ []) ++ drop (place + 1) olds
        whole = sym (take-append-drop (place + 1) olds) ∙ ap (λ l. l ++ drop (place + 1) olds) taken_more

    pub inputs_lost : (IsTrue s.tells → LosesNothing (source_change s x x')) → IsTrue s.tells
        → Each LosesNothing (source_changes s olds news')
    inputs_lost lost t =
        subst (Each LosesNothing) (sym all_changes) (each_append LosesNothing (source_changes s (take place olds) so.front)
        (source_change s x x' ∷ source_changes s (drop (place + 1) olds) (drop (place + 1) olds)) (so.steady t)
        (lost t, untouched (drop (place + 1) olds)))

    pub inputs_failed : ReadFailed (source_change s x x')
        → IsFirst (λ source. IsTrue s.tells → WasRead source) ReadFailed (place + 1) (source_changes s olds news')
    inputs_failed failed =
        subst (λ c. IsFirst (λ source. IsTrue s.tells → WasRead source) ReadFailed (place + 1) c) (sym all_changes)
        (stops_behind (λ source. IsTrue s.tells → WasRead source) ReadFailed 1 (place + 1) (source_changes s (take place olds) so.front)
        (source_change s x x') (source_changes s (drop (place + 1) olds) (drop (place + 1) olds))
        (all_read (IsTrue s.tells) (source_changes s (take place olds) so.front) read so.each)
        (let l = length-changes (take place olds) so.front long in let m = long in let n = so.count in omega arith) failed)
