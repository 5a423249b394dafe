-- Rows whose numbers rise, and the amounts of a key that they have.
use Rattle.std.proofs.Common.{◌≡◌, ℕ, suc, ◌+◌, ◌<◌, List, [], ◌∷◌, ◌++◌, append_assoc, append-nil, map, length, get_or, take, drop, remove, Option, Some, None, ℤ, refl, sym, ap, ◌∙◌, subst, arith, slice_set, Less, Greater}
use Rattle.std.specs.Ordering.{nat_cmp, ordering_reverse}
use Rattle.std.specs.Option.{option_map}
use Rattle.std.specs.List.{AllByRecursion, cons_option}
use Rattle.std.specs.List.Sorted.{IsStrictlySortedBy}
use Rattle.std.proofs.lemmas.Bool.Decides.{nat_tests}
use Rattle.std.proofs.lemmas.Cmp.{nat_cmp_total}
use Rattle.std.proofs.lemmas.List.{length-map, map-append, set_split}
use Rattle.std.proofs.Math.Seq.{split_at}
use Rattle.std.proofs.lemmas.List.Elements.{filter_map-append}
use Rattle.indexmap.proofs.SetLemmas.{map-remove}
use Rattle.usage_totals.specs.declared.key.UsageKey.{UsageKey}
use Rattle.usage_totals.specs.declared.rows.NumberedRow.{NumberedRow}
use Rattle.usage_totals.specs.Amounts.{Row, amount_at}
use Rattle.usage_totals.specs.Usage.{first, last, less, usage_at}
use Rattle.usage_totals.specs.Indexed.{Numbered, without, with_amount, StandsAt, used, series, indexed, numbers, IsIndexed}
use Rattle.usage_totals.proofs.Ends.{or_none}
use Rattle.usage_totals.proofs.Parts.{AreBelow, without_parted, amount_parted}

-- ---- numbers that rise

less_more : (n : ℕ) → nat_cmp n (n + 1) ≡ Less
less_more n = grind (arith, nat_tests)

all_parts : (P : ℕ → Type 0) (xs ys : List ℕ) → AllByRecursion P (xs ++ ys) → AllByRecursion P xs × AllByRecursion P ys
all_parts P [] ys a = (tt, a)
all_parts P (x ∷ xs) ys a = let rest = all_parts P xs ys a.1 in ((a.0, rest.0), rest.1)

all_append : (P : ℕ → Type 0) (xs ys : List ℕ) → AllByRecursion P xs → AllByRecursion P ys → AllByRecursion P (xs ++ ys)
all_append P [] ys a b = b
all_append P (x ∷ xs) ys a b = (a.0, all_append P xs ys a.1 b)

-- the numbers around one of those that rise
pub record IsAround (xs ys : List ℕ) (n : ℕ) : Type 0 where
  pub below : AllByRecursion (λ x. nat_cmp n x ≡ Greater) xs
  pub above : AllByRecursion (λ y. nat_cmp n y ≡ Less) ys
  pub others : IsStrictlySortedBy nat_cmp (xs ++ ys)

pub rising_around : (xs ys : List ℕ) (n : ℕ) → IsStrictlySortedBy nat_cmp (xs ++ n ∷ ys) → IsAround xs ys n
unfolding IsStrictlySortedBy
rising_around [] ys n s = record { below = tt; above = s.0; others = s.1 }
rising_around (x ∷ xs) ys n s =
    let rest = rising_around xs ys n s.1 in
    let parts = all_parts _ xs (n ∷ ys) s.0 in
    record {
      below = (nat_cmp_total.antisymm n x ∙ ap ordering_reverse parts.1.0, rest.below);
      above = rest.above;
      others = (all_append _ xs ys parts.0 parts.1.1, rest.others);
    }

rising_more : (xs : List ℕ) (n : ℕ) → IsStrictlySortedBy nat_cmp (xs ++ n ∷ []) → IsStrictlySortedBy nat_cmp (xs ++ n ∷ (n + 1) ∷ [])
unfolding IsStrictlySortedBy
rising_more [] n s = ((less_more n, tt), (tt, tt))
rising_more (x ∷ xs) n s =
    let parts = all_parts _ xs (n ∷ []) s.0 in (
      all_append _ xs (n ∷ (n + 1) ∷ []) parts.0 (parts.1.0, (nat_cmp_total.trans x n (n + 1) parts.1.0 (less_more n), tt)),
      rising_more xs n s.1,
    )

-- ---- the amounts of a key

all_by : (P : ℕ → Type 0) (n : ℕ) (o : Option ℤ) (es : Numbered) → P n → AllByRecursion (λ e. P e.0) es
    → AllByRecursion (λ e. P e.0) (cons_option (option_map (λ v. (n, v)) o) es)
all_by P n None es p a = a
all_by P n (Some v) es p a = (p, a)

-- what holds of the rows' numbers holds of those of the amounts
all_series : (P : ℕ → Type 0) (q : UsageKey) (rows : List NumberedRow) → AllByRecursion P (numbers rows)
    → AllByRecursion (λ e. P e.0) (series q rows)
all_series P q [] a = tt
all_series P q (row ∷ rows) a = all_by P row.number (amount_at q row.amounts) (series q rows) a.0 (all_series P q rows a.1)

-- the amounts of rows, without their numbers
abbrev pub amounts_of : List NumberedRow → List Row
amounts_of rows = map (λ row. row.amounts) rows

first_series : (q : UsageKey) (rows : List NumberedRow) → first (λ e. Some e.1) (series q rows) ≡ first (amount_at q) (amounts_of rows)
first_series q [] = refl
first_series q (row ∷ rows) = let rest = first_series q rows in grind (arith, nat_tests)

last_series : (q : UsageKey) (rows : List NumberedRow) → last (λ e. Some e.1) (series q rows) ≡ last (amount_at q) (amounts_of rows)
last_series q [] = refl
last_series q (row ∷ rows) =
    let rest = last_series q rows in
    grind (arith, nat_tests, or_none (last (λ e. Some e.1) (series q rows)))

-- what was used by the amounts of a key was used by the rows
pub used_series : (q : UsageKey) (rows : List NumberedRow) → used (series q rows) ≡ usage_at q (amounts_of rows)
used_series q rows =
    ap (λ o. less o (first (λ e. Some e.1) (series q rows))) (last_series q rows)
    ∙ ap (less (last (amount_at q) (amounts_of rows))) (first_series q rows)

-- ---- one row among the others

numbers_parted : (front back : List NumberedRow) (row : NumberedRow) (next : ℕ)
    → numbers (front ++ row ∷ back) ++ next ∷ [] ≡ numbers front ++ row.number ∷ (numbers back ++ next ∷ [])
numbers_parted front back row next =
    ap (λ z. z ++ next ∷ []) (map-append (λ (r : NumberedRow). r.number) front (row ∷ back))
    ∙ append_assoc (numbers front) (row.number ∷ numbers back) (next ∷ [])

-- ---- a meter's rows and index under an edit

pub empty_indexed : (rows : List NumberedRow) (index : List (UsageKey × Numbered)) → rows ≡ [] → index ≡ [] → IsIndexed rows 0 index
unfolding IsStrictlySortedBy
empty_indexed rows index e f = record {
  rising = subst (λ rs. IsStrictlySortedBy nat_cmp (numbers rs ++ 0 ∷ [])) (sym e) (tt, tt);
  all = λ q. ap (indexed q) f ∙ ap (series q) (sym e);
}

module _ {rows : List NumberedRow} {next : ℕ} {old : List (UsageKey × Numbered)} (k : IsIndexed rows next old) where
  series_below : (q : UsageKey) → AreBelow next (series q rows)
  series_below q = all_series (λ m. nat_cmp next m ≡ Greater) q rows (rising_around (numbers rows) [] next k.rising).below

  -- none stands at the next number
  pub next_stands : (q : UsageKey) → StandsAt next None (indexed q old)
  next_stands q = subst (StandsAt next None) (sym (k.all q)) (record {
    front = series q rows;
    back = [];
    parts = sym (append-nil (series q rows));
    below = series_below q;
    above = tt;
  })

  pub push_indexed : (row : Row) (now : List (UsageKey × Numbered))
      → ((q : UsageKey) → indexed q now ≡ with_amount next (amount_at q row) (indexed q old))
      → IsIndexed (rows ++ record { number = next; amounts = row } ∷ []) (next + 1) now
  push_indexed row now change =
      let new : NumberedRow = record { number = next; amounts = row } in
      record {
        rising =
            subst (IsStrictlySortedBy nat_cmp) (sym (numbers_parted rows [] new (next + 1))) (rising_more (numbers rows) next k.rising);
        all = λ q.
            change q ∙ ap (with_amount next (amount_at q row)) (k.all q ∙ sym (append-nil (series q rows)))
            ∙ amount_parted next (series q rows) None (amount_at q row) [] (series_below q) tt
            ∙ sym (filter_map-append _ rows (new ∷ []));
      }

  module _ {all : List Row} (shown : amounts_of rows ≡ all) (i : ℕ) (within : i < length all) {row : NumberedRow}
      (e : row ≡ get_or rows i row) where
    lt : i < length rows
    lt = subst (λ n. i < n) (length-map rows (λ (r : NumberedRow). r.amounts)) (subst (λ rs. i < length rs) (sym shown) within)

    abbrev front : List NumberedRow
    front = take i rows

    abbrev back : List NumberedRow
    back = drop (suc i) rows

    split : rows ≡ front ++ row ∷ back
    split = split_at rows i row lt ∙ ap (λ r. front ++ r ∷ back) (sym e)

    rises : IsStrictlySortedBy nat_cmp (numbers front ++ row.number ∷ (numbers back ++ next ∷ []))
    rises = subst (IsStrictlySortedBy nat_cmp) (ap (λ rs. numbers rs ++ next ∷ []) split ∙ numbers_parted front back row next) k.rising

    around : IsAround (numbers front) (numbers back ++ next ∷ []) row.number
    around = rising_around (numbers front) (numbers back ++ next ∷ []) row.number rises

    -- its amount stands at its number
    pub place_stands : (q : UsageKey) → StandsAt row.number (amount_at q row.amounts) (indexed q old)
    place_stands q = record {
      front = series q front;
      back = series q back;
      parts = k.all q ∙ ap (series q) split ∙ filter_map-append _ front (row ∷ back);
      below = all_series (λ m. nat_cmp row.number m ≡ Greater) q front around.below;
      above = all_series (λ m. nat_cmp row.number m ≡ Less) q back (all_parts _ (numbers back) (next ∷ []) around.above).0;
    }

    gone : (q : UsageKey) → without row.number (indexed q old) ≡ series q (remove rows i)
    unfolding place_stands
    gone q =
        let at = place_stands q in
        ap (without row.number) at.parts ∙ without_parted row.number at.front (amount_at q row.amounts) at.back at.below at.above
        ∙ sym (filter_map-append _ front back)

    pub set_indexed : (new : Row) (now : List (UsageKey × Numbered))
        → ((q : UsageKey) → indexed q now ≡ with_amount row.number (amount_at q new) (indexed q old))
        → IsIndexed (slice_set rows i (record { number = row.number; amounts = new })) next now
    unfolding place_stands
    set_indexed new now change =
        let put : NumberedRow = record { number = row.number; amounts = new } in
        subst (λ rs. IsIndexed rs next now) (sym (set_split rows i put lt)) (record {
          rising = subst (IsStrictlySortedBy nat_cmp) (sym (numbers_parted front back put next)) rises;
          all = λ q.
              let at = place_stands q in
              change q ∙ ap (with_amount row.number (amount_at q new)) at.parts
              ∙ amount_parted row.number at.front (amount_at q row.amounts) (amount_at q new) at.back at.below at.above
              ∙ sym (filter_map-append _ front (put ∷ back));
        })

    pub removed_indexed : (now : List (UsageKey × Numbered)) → ((q : UsageKey) → indexed q now ≡ without row.number (indexed q old))
        → IsIndexed (remove rows i) next now
    removed_indexed now change = record {
      rising =
          subst (IsStrictlySortedBy nat_cmp)
          (sym (ap (λ z. z ++ next ∷ []) (map-append (λ (r : NumberedRow). r.number) front back)
          ∙ append_assoc (numbers front) (numbers back) (next ∷ []))) around.others;
      all = λ q. change q ∙ gone q;
    }

    -- what was used by the other rows
    pub used_without : (q : UsageKey) → used (without row.number (indexed q old)) ≡ usage_at q (remove all i)
    used_without q =
        ap used (gone q) ∙ used_series q (remove rows i)
        ∙ ap (usage_at q) (map-remove (λ (r : NumberedRow). r.amounts) rows i ∙ ap (λ rs. remove rs i) shown)

  -- what was used by all
  pub used_all : (q : UsageKey) → used (indexed q old) ≡ usage_at q (amounts_of rows)
  used_all q = ap used (k.all q) ∙ used_series q rows
