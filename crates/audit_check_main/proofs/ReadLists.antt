-- The lists of the lines read so far, and one line more.
use Rattle.std.proofs.Common.{◌≡◌, ℕ, zero, suc, ◌+◌, ◌-◌, ◌^◌, ◌<◌, ◌≤◌, ◌&&◌, ◌||◌, not, nat_le, Bool, true, false, cond, List, [], ◌∷◌, ◌++◌, filter, length, get_or, set, reverse, Option, Some, refl, sym, ap, ◌∙◌, subst, arith, append_assoc, append-nil, length-append}
use Rattle.std.specs.Prelude.{is_some}
use Rattle.std.specs.List.{list_all}
use Rattle.std.specs.Char.{is_ascii_digit}
use Rattle.std.specs.Str.{all_ascii_digits}
use Rattle.std.specs.Str.Parse.{digits_value}
use Rattle.std.proofs.lemmas.Bool.{and_parts}
use Rattle.std.proofs.lemmas.Bool.Decides.{nat_tests}
use Rattle.std.proofs.lemmas.Option.{cond_some}
use Rattle.meter_slots.proofs.JournalLaws.{front_back}
use Rattle.plain_text.specs.Numbers.{is_plain, number_of}
use Rattle.plain_text.specs.Parts.{fields_of}
use Rattle.report_text.specs.Orders.{Told, lines_in, pair_in, meter_heading, strangers_heading, with_steps, told, orders}
use Rattle.report_text.proofs.LineWalks.{IsKind, told_by, told_is}
use Rattle.audit_check_main.specs.declared.line_lists.Open.{Open}
use Rattle.audit_check_main.specs.declared.line_lists.Open.TheVariants as opens
use Rattle.audit_check_main.specs.Lists.{is_meter, small_number, both, numbers_in, pair_of, open_in, is_meters, is_of_strangers, is_faulty, AreInForm, as_many, lists_printed}
use Rattle.audit_check_main.specs.Reading.{ListsRead, onto_last, joined_to, told_above, StandsFor, TakesStep, TakesStranger}

-- ---- the last one of some lists

module _ {A : Type 0} where
  pub onto_last-nil : (lists : List (List A)) → onto_last lists [] ≡ lists
  onto_last-nil [] = refl
  onto_last-nil (list ∷ []) = ap (λ l. l ∷ []) (append-nil list)
  onto_last-nil (list ∷ next ∷ lists) = ap (λ l. list ∷ l) (onto_last-nil (next ∷ lists))

  length-onto_last : (lists : List (List A)) (more : List A) → length (onto_last lists more) ≡ length lists
  length-onto_last (list ∷ next ∷ lists) more = ap suc (length-onto_last (next ∷ lists) more)
  length-onto_last _ more = refl

  onto_later : (list : List A) (lists : List (List A)) (more : List A) (n : ℕ) → length lists ≡ suc n
      → onto_last (list ∷ lists) more ≡ list ∷ onto_last lists more
  onto_later list [] more n h = absurd cc
  onto_later list (next ∷ lists) more n h = refl

  pub onto_last-twice : (lists : List (List A)) (xs ys : List A) → onto_last (onto_last lists xs) ys ≡ onto_last lists (xs ++ ys)
  onto_last-twice [] xs ys = refl
  onto_last-twice (list ∷ []) xs ys = ap (λ l. l ∷ []) (append_assoc list xs ys)
  onto_last-twice (list ∷ next ∷ lists) xs ys =
      onto_later list (onto_last (next ∷ lists) xs) ys (length lists) (length-onto_last (next ∷ lists) xs)
      ∙ ap (λ l. list ∷ l) (onto_last-twice (next ∷ lists) xs ys)

  pub onto_last-push : (lists : List (List A)) (xs ys : List A) → onto_last (lists ++ xs ∷ []) ys ≡ lists ++ (xs ++ ys) ∷ []
  onto_last-push (list ∷ next ∷ lists) xs ys = ap (λ l. list ∷ l) (onto_last-push (next ∷ lists) xs ys)
  onto_last-push _ xs ys = refl

  -- a write to the last list
  pub set-last : (lists : List (List A)) (i : ℕ) (d more : List A) → i + 1 ≡ length lists
      → set lists i (get_or lists i d ++ more) ≡ onto_last lists more
  set-last (list ∷ []) zero d more h = refl
  set-last (list ∷ next ∷ lists) (suc i) d more h = ap (λ l. list ∷ l) (set-last (next ∷ lists) i d more (omega arith))
  set-last _ i d more h = absurd (omega arith)

-- ---- pairs

all_digits : (text : List ℕ) → list_all is_ascii_digit text ≡ true → all_ascii_digits text ≡ true
all_digits [] h = refl
all_digits (b ∷ text) h = let parts = and_parts _ _ h in (λ i. (parts.0 i) && (all_digits text parts.1 i))

record IsNumeral (text : List ℕ) (n : ℕ) : Type 0 where
  digits : all_ascii_digits text ≡ true
  value : digits_value 10 text ≡ n

numeral : (text : List ℕ) (n : ℕ) → small_number text ≡ Some n → IsNumeral text n
unfolding number_of
numeral text n h =
    let found = cond_some (is_plain text && nat_le (digits_value 10 text) (2 ^ 32 - 1)) (digits_value 10 text) n h in
    let plain = and_parts _ _ (and_parts _ _ found.0).0 in record { digits = all_digits text plain.0; value = found.1 }

pair_read : (fields : List (List ℕ)) (pair : ℕ × ℕ) → numbers_in fields ≡ Some pair → pair_in fields ≡ pair ∷ []
pair_read (word ∷ first ∷ second ∷ more) pair h = at (small_number first) (small_number second) refl refl h
  where
    by_numbers : (n m : ℕ) → IsNumeral first n → IsNumeral second m → (n, m) ≡ pair → pair_in (word ∷ first ∷ second ∷ more) ≡ pair ∷ []
    by_numbers n m x y same =
        (λ i. cond (x.digits i && y.digits i) ((x.value i, y.value i) ∷ []) []) ∙ ap (λ p. p ∷ []) same

    at : (a b : Option ℕ) → small_number first ≡ a → small_number second ≡ b → both a b ≡ Some pair
        → pair_in (word ∷ first ∷ second ∷ more) ≡ pair ∷ []
    at (Some n) (Some m) e f g = by_numbers n m (numeral first n e) (numeral second m f) cc
    at _ _ e f g = absurd cc
pair_read _ pair h = absurd cc

-- ---- one line more

-- what the test of a line's form comes to, by what the line begins with
abbrev pub form_by : (meter strangers step stranger : Bool) → ℕ → List (List ℕ) → List ℕ → Bool
form_by meter strangers step stranger most above line =
    cond meter (nat_le most (length (filter is_meter above))) (cond strangers false
    (cond step (not (is_meters (open_in above) && is_some (pair_of line)))
    (cond stranger (not (is_of_strangers (open_in above) && is_some (pair_of line))) false)))

pub form_is : {m s t r : Bool} (most : ℕ) (above : List (List ℕ)) (line : List ℕ) → IsKind line m s t r
    → is_faulty most above line ≡ form_by m s t r most above line
unfolding is_faulty
form_is most above line k = λ i. form_by (k.meter_is i) (k.strangers_is i) (k.step_is i) (k.stranger_is i) most above line

pub opened_by : {m s t r : Bool} (above : List (List ℕ)) (line : List ℕ) → IsKind line m s t r
    → open_in (line ∷ above) ≡ cond m opens.Meter (cond s opens.Strangers (open_in above))
opened_by above line k = λ i. cond (k.meter_is i) opens.Meter (cond (k.strangers_is i) opens.Strangers (open_in above))

pub counted_by : {m s t r : Bool} (above : List (List ℕ)) (line : List ℕ) → IsKind line m s t r
    → length (filter is_meter (line ∷ above)) ≡ length (cond m (line ∷ filter is_meter above) (filter is_meter above))
counted_by above line k = λ i. length (cond (k.meter_is i) (line ∷ filter is_meter above) (filter is_meter above))

module _ (above : List (List ℕ)) (old : ListsRead) (line : List ℕ) (so : StandsFor above old) where
  -- the lists behind a line of a kind
  after : {m s t r : Bool} (new : ListsRead) → IsKind line m s t r
      → length new.meters ≡ length (cond m (line ∷ filter is_meter above) (filter is_meter above))
      → new.open_list ≡ cond m opens.Meter (cond s opens.Strangers (open_in above))
      → ((below : Told) → joined_to old.open_list old (told_by m s (t || r) line below) ≡ joined_to new.open_list new below)
      → StandsFor (line ∷ above) new
  after new k many opened joined = record {
    count = many ∙ sym (counted_by above line k);
    open_is = opened ∙ sym (opened_by above line k);
    told_is = λ below. ap (told_above above) (told_is line k below) ∙ (so.told_is _ ∙ joined below);
  }

  pub after_meter : {s t r : Bool} → IsKind line true s t r
      → StandsFor (line ∷ above) (record { meters = old.meters ++ [] ∷ []; strangers = old.strangers; open_list = opens.Meter })
  after_meter k = after _ k
      (length-append old.meters ([] ∷ [])
      ∙ (let e : length old.meters + 1 ≡ suc (length (filter is_meter above)) = let c = so.count in omega arith in e))
      refl (joined old.open_list)
    where
      pushed : (below : Told) → old.meters ++ below.above ∷ below.meters ≡ onto_last (old.meters ++ [] ∷ []) below.above ++ below.meters
      pushed below =
          sym (append_assoc old.meters (below.above ∷ []) below.meters)
          ∙ ap (λ l. l ++ below.meters) (sym (onto_last-push old.meters [] below.above))

      joined : (o : Open) (below : Told)
          → joined_to o old (meter_heading below) ≡ joined_to opens.Meter
          (record { meters = old.meters ++ [] ∷ []; strangers = old.strangers; open_list = opens.Meter }) below
      joined opens.Meter below =
          ap (λ m. record { above = []; meters = m; strangers = old.strangers ++ below.strangers })
          (ap (λ m. m ++ below.above ∷ below.meters) (onto_last-nil old.meters) ∙ pushed below)
      joined _ below = ap (λ m. record { above = []; meters = m; strangers = old.strangers ++ below.strangers }) (pushed below)

  pub after_strangers : {t r : Bool} → IsKind line false true t r
      → StandsFor (line ∷ above) (record { meters = old.meters; strangers = old.strangers; open_list = opens.Strangers })
  after_strangers k = after _ k so.count refl (joined old.open_list)
    where
      joined : (o : Open) (below : Told) → joined_to o old (strangers_heading below) ≡ joined_to opens.Strangers old below
      joined opens.Meter below =
          ap (λ m. record { above = []; meters = m ++ below.meters; strangers = old.strangers ++ (below.above ++ below.strangers) })
          (onto_last-nil old.meters)
      joined _ below = refl

  -- a line of a list, with the pair that it names
  listed : (pair : ℕ × ℕ) → pair_of line ≡ Some pair → (below : Told)
      → joined_to old.open_list old (with_steps (pair_in (fields_of line)) below)
      ≡ joined_to old.open_list old (with_steps (pair ∷ []) below)
  listed pair names below = ap (λ pairs. joined_to old.open_list old (with_steps pairs below)) (pair_read (fields_of line) pair names)

  pub after_step : {r : Bool} (new : ListsRead) → IsKind line false false true r → TakesStep line old new → StandsFor (line ∷ above) new
  after_step new k takes = subst (StandsFor (line ∷ above)) (sym takes.after) (after _ k
      (length-onto_last old.meters (takes.pair ∷ []) ∙ so.count) (sym takes.is_open ∙ so.open_is)
      (λ below. listed takes.pair takes.names below
      ∙ (ap (λ o. joined_to o old (with_steps (takes.pair ∷ []) below)) takes.is_open
      ∙ ap (λ m. record { above = []; meters = m ++ below.meters; strangers = old.strangers ++ below.strangers })
      (sym (onto_last-twice old.meters (takes.pair ∷ []) below.above)))))

  pub after_stranger : (new : ListsRead) → IsKind line false false false true → TakesStranger line old new → StandsFor (line ∷ above) new
  after_stranger new k takes = subst (StandsFor (line ∷ above)) (sym takes.after) (after _ k so.count (sym takes.is_open ∙ so.open_is)
      (λ below. listed takes.pair takes.names below
      ∙ (ap (λ o. joined_to o old (with_steps (takes.pair ∷ []) below)) takes.is_open
      ∙ ap (λ s. record { above = []; meters = old.meters ++ below.meters; strangers = s })
      (sym (append_assoc old.strangers (takes.pair ∷ []) (below.above ++ below.strangers))))))

  pub after_other : IsKind line false false false false → StandsFor (line ∷ above) old
  after_other k = after old k so.count so.open_is (λ below. refl)

  -- ---- whether it is in form

  pub faulty_meter : {s t r : Bool} (most : ℕ) (b : Bool) → IsKind line true s t r → nat_le most (length old.meters) ≡ b
      → is_faulty most above line ≡ b
  faulty_meter most b k e = form_is most above line k ∙ (ap (nat_le most) (sym so.count) ∙ e)

  pub faulty_step : {r : Bool} (most : ℕ) (b : Bool) → IsKind line false false true r
      → (is_meters old.open_list && is_some (pair_of line)) ≡ b → is_faulty most above line ≡ not b
  faulty_step most b k e =
      form_is most above line k ∙ (ap (λ o. not (is_meters o && is_some (pair_of line))) (sym so.open_is) ∙ ap not e)

  pub faulty_stranger : (most : ℕ) (b : Bool) → IsKind line false false false true
      → (is_of_strangers old.open_list && is_some (pair_of line)) ≡ b → is_faulty most above line ≡ not b
  faulty_stranger most b k e =
      form_is most above line k ∙ (ap (λ o. not (is_of_strangers o && is_some (pair_of line))) (sym so.open_is) ∙ ap not e)

-- ---- all lines

-- the lines so far, and those to come
pub record HaveRead (most : ℕ) (all left : List (List ℕ)) (number : ℕ) (lists : ListsRead) : Type 0 where
  pub above : List (List ℕ)
  pub cut : all ≡ reverse above ++ left
  pub counted : number ≡ length above
  pub in_form : AreInForm most above
  pub so : StandsFor above lists

-- ---- the end

told_so_far : (above rest : List (List ℕ)) → told (reverse above ++ rest) ≡ told_above above (told rest)
told_so_far [] rest = refl
told_so_far (line ∷ above) rest =
    ap told (ap (λ l. l ++ rest) (front_back line above) ∙ append_assoc (reverse above) (line ∷ []) rest) ∙ told_so_far above (line ∷ rest)

room_for_meter : (most : ℕ) (above : List (List ℕ)) (line : List ℕ) → is_meter line ≡ true → is_faulty most above line ≡ false
    → nat_le most (length (filter is_meter above)) ≡ false
room_for_meter most above line e fine =
    sym (form_is most above line (record { meter_is = e; strangers_is = refl; step_is = refl; stranger_is = refl })) ∙ fine

-- no more headings of meters were read than there are meters
few_meters : (most : ℕ) (above : List (List ℕ)) → AreInForm most above → length (filter is_meter above) ≤ most
few_meters most [] h = omega arith
few_meters most (line ∷ above) h = at (is_meter line) refl (few_meters most above h.1)
  where
    at : (b : Bool) → is_meter line ≡ b → length (filter is_meter above) ≤ most
        → length (cond b (line ∷ filter is_meter above) (filter is_meter above)) ≤ most
    at true e few = let r = room_for_meter most above line e h.0 in grind (arith, nat_tests)
    at false e few = few

pub lists_fit : (most : ℕ) (all left : List (List ℕ)) (number : ℕ) (lists : ListsRead) → HaveRead most all left number lists
    → length lists.meters ≤ most
lists_fit most all left number lists so = let f = few_meters most so.above so.in_form in let c = so.so.count in omega arith

abbrev no_lines : Told
no_lines = record { above = []; meters = []; strangers = [] }

pub orders_read : (most : ℕ) (text : List ℕ) (left : List (List ℕ)) (number : ℕ) (lists : ListsRead)
    → HaveRead most (lines_in text) left number lists → left ≡ []
    → lists_printed most (orders text) ≡ as_many most lists.meters ++ lists.strangers ∷ []
orders_read most text left number lists so none =
    let all : told (lines_in text) ≡ joined_to lists.open_list lists no_lines =
    ap told so.cut ∙ (told_so_far so.above left ∙ (ap (λ l. told_above so.above (told l)) none ∙ so.so.told_is no_lines)) in
    let both = all ∙ ended lists.open_list in
    (λ i. as_many most (both i).meters ++ (both i).strangers ∷ [])
  where
    ended : (o : Open) → joined_to o lists no_lines ≡ record { above = []; meters = lists.meters; strangers = lists.strangers }
    ended opens.Meter =
        (λ i. record {
          above = [];
          meters = (ap (λ m. m ++ []) (onto_last-nil lists.meters)
              ∙ append-nil lists.meters) i;
          strangers = append-nil lists.strangers i;
        })
    ended _ = (λ i. record { above = []; meters = append-nil lists.meters i; strangers = append-nil lists.strangers i })

-- ---- as many lists as there are meters

pub as_many-push : {A : Type 0} (n : ℕ) (lists : List (List A)) → length lists < n → as_many n (lists ++ [] ∷ []) ≡ as_many n lists
as_many-push zero lists h = absurd (omega arith)
as_many-push (suc n) [] h = refl
as_many-push (suc n) (list ∷ lists) h = ap (λ l. list ∷ l) (as_many-push n lists (omega arith))

pub as_many-all : {A : Type 0} (n : ℕ) (lists : List (List A)) → length lists ≡ n → as_many n lists ≡ lists
as_many-all zero [] h = refl
as_many-all (suc n) (list ∷ lists) h = ap (λ l. list ∷ l) (as_many-all n lists (omega arith))
as_many-all _ _ h = absurd (omega arith)
