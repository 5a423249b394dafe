-- The lists of an input's numbers, and one line more.
use Rattle.std.proofs.Common.{◌≡◌, ◌==◌, ◌||◌, ℕ, suc, ◌+◌, ◌<◌, ◌≤◌, not, nat_lt, Bool, true, false, cond, List, [], ◌∷◌, ◌++◌, map, length, take, get_or, Option, Some, None, refl, sym, ap, ◌∙◌, subst, arith, append-nil, length-append}
use Rattle.std.specs.Prelude.{option_to_list, position, count_by}
use Rattle.std.specs.List.{slice_get, filter_map, cons_option, list_any, position_or_len, enumerate_from}
use Rattle.std.proofs.lemmas.Bool.{eqb-true, ltb-false, or_parts}
use Rattle.std.proofs.lemmas.Bool.Decides.{nat_tests}
use Rattle.std.proofs.lemmas.List.{map-append, length-map, length-take, length-take-le, take_more}
use Rattle.std.proofs.lemmas.Option.{slice_get-get_or}
use Rattle.std.proofs.Math.Nat.{min-le_right}
use Rattle.std.proofs.Math.Seq.{take-length}
use Rattle.std.proofs.lemmas.List.Sums.{prefix_len-le-length, sum_by-cons}
use Rattle.std.specs.Str.Lines.{lines}
use Rattle.lists.proofs.Choices.{none_if}
use Rattle.line_reader.specs.Lines.{is_over}
use Rattle.meter_slots.specs.declared.counts.Counts.{Counts}
use Rattle.receivers.specs.declared.class.Class.TheVariants as classes
use Rattle.std.proofs.lemmas.List.Elements.{filter_map-append}
use Rattle.meter_address.specs.declared.address.Address.{Address}
use Rattle.meter_address.specs.Address.{AreApart}
use Rattle.meter_slots.specs.Journal.{Start}
use Rattle.meter_slots.specs.declared.entry.Event.{Event}
use Rattle.meter_slots.specs.World.{is_commissioned}
use Rattle.receivers.specs.declared.class.Class.{Class}
use Rattle.receivers.specs.declared.told.Told.{Told}
use Rattle.receivers.specs.declared.told.Told.TheVariants as told
use Rattle.receivers.specs.Classes.{class_at, class_by, counts_of, is_own, is_strange, is_unframed, is_bad}
use Rattle.receivers.specs.Session.{event_at, lines_for, stranger_at, lines_of_strangers}
use Rattle.receivers.specs.Told.{told_of}
use Rattle.receivers.proofs.Numbers.{numbered}
use Rattle.audit_check_main.specs.declared.hearing.Sort.{Sort}
use Rattle.audit_check_main.specs.declared.whose.Whose.{Whose}
use Rattle.audit_check_main.specs.declared.whose.Whose.TheVariants as whose
use Rattle.audit_check_main.specs.Hearing.{with_number, noted, counts_in, heard_input, sort_by, sort_of, list_in, class_in, told_by_text}
use Rattle.audit_check_main.specs.Order.{numbers_for}

-- ---- the numbers of one list, and one line more

abbrev number_of : {Y : Type 0} → ℕ × Y → ℕ
number_of l = l.0

one : {X Y : Type 0} (f : X → Option Y) (x : X) → filter_map f (x ∷ []) ≡ option_to_list (f x)
one f x = at (f x)
  where
    at : {Y : Type 0} (o : Option Y) → cons_option o [] ≡ option_to_list o
    at None = refl
    at (Some y) = refl

numbers_more : {Y : Type 0} (f : ℕ × Told → Option (ℕ × Y)) (heard : List Told) (t : Told) (line : ℕ) → line ≡ 1 + length heard
    → map number_of (filter_map f (enumerate_from 1 (heard ++ t ∷ []))) ≡ map number_of (filter_map f (enumerate_from 1 heard))
    ++ map number_of (option_to_list (f (line, t)))
numbers_more f heard t line number =
    ap (λ ls. map number_of (filter_map f ls)) (numbered 1 heard t)
    ∙ (ap (map number_of) (filter_map-append f (enumerate_from 1 heard) ((1 + length heard, t) ∷ []))
    ∙ (map-append number_of (filter_map f (enumerate_from 1 heard)) (filter_map f ((1 + length heard, t) ∷ []))
    ∙ (λ i. map number_of (filter_map f (enumerate_from 1 heard)) ++ map number_of (one f (sym number i, t) i))))

-- ---- a number more in one of some lists

suc-is : (n : ℕ) → 1 + n ≡ suc n
suc-is n = omega arith

abbrev one_if : Bool → ℕ → List ℕ
one_if b n = cond b (n ∷ []) []

abbrev is_for : ℕ → Start → Bool
is_for a c = c.address.0 == a

abbrev place_in : ℕ → List Start → ℕ
place_in a cs = position_or_len (λ x. x.0 == a) (map (λ (c : Start). c.address) cs)

-- the list of each meter with this address has the number behind its others, and the last list where there is no such meter
abbrev all_with : (Start → List ℕ) → List ℕ → ℕ → ℕ → List Start → List (List ℕ)
all_with f s a n cs = map (λ c. f c ++ one_if (is_for a c) n) cs ++ (s ++ one_if (not (list_any (is_for a) cs)) n) ∷ []

-- where no meter has the address, no list of a meter changes
unchanged : (f : Start → List ℕ) (a b n : ℕ) (cs : List Start) → b ≡ a
    → list_any (λ (x : Address). x.0 == b) (map (λ (c : Start). c.address) cs) ≡ false
    → (map (λ c. f c ++ one_if (is_for a c) n) cs ≡ map f cs) × (list_any (is_for a) cs ≡ false)
unchanged f a b n [] same h = (refl, refl)
unchanged f a b n (c ∷ cs) same h =
    let parts = or_parts (c.address.0 == b) (list_any (λ (x : Address). x.0 == b) (map (λ (d : Start). d.address) cs)) h in
    let other : (c.address.0 == a) ≡ false = ap (λ m. c.address.0 == m) (sym same) ∙ parts.0 in
    let rest = unchanged f a b n cs same parts.1 in (
      (λ i. (ap (λ b. f c ++ one_if b n) other ∙ append-nil (f c)) i ∷ rest.0 i),
      (λ i. other i || rest.1 i),
    )

placed : (f : Start → List ℕ) (s : List ℕ) (a n : ℕ) (cs : List Start) → AreApart (map (λ (c : Start). c.address) cs)
    → with_number (place_in a cs) n (map f cs ++ s ∷ []) ≡ all_with f s a n cs
placed f s a n [] apart = refl
placed f s a n (c ∷ cs) apart = at (c.address.0 == a) refl (placed f s a n cs apart.1)
  where
    at : (b : Bool) → (c.address.0 == a) ≡ b → with_number (place_in a cs) n (map f cs ++ s ∷ []) ≡ all_with f s a n cs
        → with_number (place_in a (c ∷ cs)) n (map f (c ∷ cs) ++ s ∷ []) ≡ all_with f s a n (c ∷ cs)
    at true e h =
        let none = unchanged f a c.address.0 n cs (eqb-true c.address.0 a e) apart.0 in
        rw (e, none.0) (λ i. (f c ++ n ∷ []) ∷ (map f cs ++ (sym (append-nil s) i) ∷ []))
    at false e h =
        rw (e, suc-is (place_in a cs)) (λ i. (sym (append-nil (f c)) i) ∷ h i)

-- ---- all lists, and one line more

lists_with : (f g : Start → List ℕ) (s r : List ℕ) (cs : List Start) → ((c : Start) → f c ≡ g c) → s ≡ r
    → map f cs ++ s ∷ [] ≡ map g cs ++ r ∷ []
lists_with f g s r cs same e = λ i. map (λ c. same c i) cs ++ e i ∷ []

own_number : (b : Bool) (line : ℕ) (event : Event) → map number_of (option_to_list (cond b (Some (line, event)) None)) ≡ one_if b line
own_number true line event = refl
own_number false line event = refl

strange_number : (b : Bool) (line : ℕ) (address : Address)
    → map number_of (option_to_list (cond b None (Some (line, address)))) ≡ one_if (not b) line
strange_number true line address = refl
strange_number false line address = refl

abbrev own_numbers : List Told → Start → List ℕ
own_numbers heard c = map number_of (lines_for c.address heard)

pub numbers_for-push : (cs : List Start) (heard : List Told) (t : Told) (line : ℕ)
    → AreApart (map (λ (c : Start). c.address) cs) → line ≡ 1 + length heard
    → noted (sort_of (map (λ c. c.address) cs) t) line (numbers_for cs heard) ≡ numbers_for cs (heard ++ t ∷ [])
numbers_for-push cs heard (told.Event address event) line apart number =
    placed (own_numbers heard) (map number_of (lines_of_strangers cs heard)) address.0 line cs apart
    ∙ lists_with (λ c. own_numbers heard c ++ one_if (is_for address.0 c) line) (own_numbers (heard ++ told.Event address event ∷ []))
    _ _ cs
    (λ c. sym (numbers_more (λ l. event_at c.address l.0 l.1) heard (told.Event address event) line number
    ∙ ap (λ l. own_numbers heard c ++ l) (own_number (is_for address.0 c) line event)))
    (sym (numbers_more (λ l. stranger_at cs l.0 l.1) heard (told.Event address event) line number
    ∙ ap (λ l. map number_of (lines_of_strangers cs heard) ++ l) (strange_number (is_commissioned cs address) line address)))
numbers_for-push cs heard t line apart number =
    lists_with (own_numbers heard) (own_numbers (heard ++ t ∷ [])) _ _ cs
    (λ c. sym (numbers_more (λ l. event_at c.address l.0 l.1) heard t line number ∙ append-nil (own_numbers heard c)))
    (sym (numbers_more (λ l. stranger_at cs l.0 l.1) heard t line number ∙ append-nil (map number_of (lines_of_strangers cs heard))))

-- ---- the list of an address

pub place_none : (p : Address → Bool) (xs : List Address) → position p xs ≡ None → length xs ≡ position_or_len p xs
place_none p xs h =
    let test : nat_lt (position_or_len p xs) (length xs) ≡ false = none_if _ _ h in
    let most = prefix_len-le-length (λ x. not (p x)) xs in grind (arith, nat_tests)

-- what a line is gives its class
class_sorted : (directory : List Address) (n : ℕ) (t : Told) → n ≡ length directory
    → class_in n (sort_of directory t) ≡ class_by directory t
class_sorted directory n (told.Event address event) e =
    ap (λ m. class_in m (sort_of directory (told.Event address event))) e
    ∙ by (nat_lt (position_or_len (λ a. a.0 == address.0) directory) (length directory)) (position_or_len (λ a. a.0 == address.0) directory)
  where
    by : (b : Bool) (k : ℕ) → cond b classes.Own classes.Strange ≡ class_at (cond b (Some k) None)
    by true k = refl
    by false k = refl
class_sorted directory n _ e = refl

-- a line of a list has one of the lists
pub sorted_within : (directory : List Address) (n : ℕ) (w : Whose) → length directory ≡ n → list_in (sort_by directory w) ≤ n
sorted_within directory n (whose.Meter address) e =
    let most = prefix_len-le-length (λ (a : Address). not (a.0 == address.0)) directory in omega arith
sorted_within directory n _ e = omega arith

-- ---- lines one after another

abbrev addresses : List Start → List Address
addresses cs = map (λ c. c.address) cs

-- what some lines came to
pub record HaveComeTo (cs : List Start) (heard : List Told) (lists : List (List ℕ)) (kinds : List Class) : Type 0 where
  pub lists_are : lists ≡ numbers_for cs heard
  pub classes_are : kinds ≡ map (class_by (map (λ c. c.address) cs)) heard

-- one line of a text more
module _ (cs : List Start) (texts : List (List ℕ)) (i : ℕ) (t : Told) (inside : i < length texts)
    (told_is : t ≡ told_by_text (slice_get texts i)) where
  more_told : map told_of (take (i + 1) texts) ≡ map told_of (take i texts) ++ t ∷ []
  more_told =
      ap (map told_of) (take_more texts i [] inside)
      ∙ (map-append told_of (take i texts) (get_or texts i [] ∷ [])
      ∙ ap (λ x. map told_of (take i texts) ++ x ∷ []) (sym (told_is ∙ ap told_by_text (slice_get-get_or texts i [] inside))))

  pub come_next : (lists lists' : List (List ℕ)) (kinds : List Class) (class : Class) (sort : Sort) → AreApart (map (λ c. c.address) cs)
      → HaveComeTo cs (map told_of (take i texts)) lists kinds → sort ≡ sort_of (map (λ c. c.address) cs) t
      → lists' ≡ noted sort (i + 1) lists → class ≡ class_in (length cs) sort
      → HaveComeTo cs (map told_of (take (i + 1) texts)) lists' (kinds ++ class ∷ [])
  come_next lists lists' kinds class sort apart so same after is =
      let heard = map told_of (take i texts) in
      let many : length heard ≡ i = length-map (take i texts) told_of ∙ length-take-le i texts (omega arith) in
      subst (λ heard. HaveComeTo cs heard lists' (kinds ++ class ∷ [])) (sym more_told) (record {
        lists_are = after ∙ ((λ j. noted (same j) (i + 1) (so.lists_are j)) ∙ numbers_for-push cs heard t (i + 1) apart (omega arith));
        classes_are = (λ j. so.classes_are j ++ (is ∙ (ap (class_in (length cs)) same ∙ class_sorted (addresses cs) (length cs) t
            (sym (length-map cs (λ (c : Start). c.address))))) j ∷ [])
            ∙ sym (map-append (class_by (addresses cs)) heard (t ∷ []));
      })

-- an input within the limits has few lines
pub few_lines : (input : List ℕ) → is_over input ≡ false → length (lines input) ≤ 131072
unfolding is_over
few_lines input h =
    ltb-false 131072 (length (lines input)) (or_parts _ _ h).1

-- so have those among its first lines
pub first_few : (cs : List Start) (input : List ℕ) (i : ℕ) (lists : List (List ℕ)) (kinds : List Class) → is_over input ≡ false
    → HaveComeTo cs (map told_of (take i (lines input))) lists kinds → length kinds ≤ 131072
first_few cs input i lists kinds within so =
    let few = few_lines input within in
    let many = ap length so.classes_are ∙ (length-map (map told_of (take i (lines input))) (class_by (addresses cs))
    ∙ length-map (take i (lines input)) told_of) in
    let taken = length-take i (lines input) in
    let least = min-le_right i (length (lines input)) in omega arith

-- one list for each meter, and one
pub length-numbers_for : (cs : List Start) (heard : List Told) → length (numbers_for cs heard) ≡ length cs + 1
length-numbers_for cs heard = length-append (map (own_numbers heard) cs) _ ∙ ap (λ n. n + 1) (length-map cs (own_numbers heard))

-- ---- counts

count-map : {X Y : Type 0} (p : Y → Bool) (f : X → Y) (xs : List X) → count_by p (map f xs) ≡ count_by (λ x. p (f x)) xs
count-map p f [] = refl
count-map p f (x ∷ xs) =
    sum_by-cons (λ y. cond (p y) 1 0) (f x) (map f xs) ∙ (ap (λ n. cond (p (f x)) 1 0 + n) (count-map p f xs)
    ∙ sym (sum_by-cons (λ y. cond (p (f y)) 1 0) x xs))

pub counted_classes : (directory : List Address) (heard : List Told)
    → counts_in (map (class_by directory) heard) ≡ counts_of directory heard
unfolding counts_of
counted_classes directory heard = (λ i. record {
  lines = length-map heard (class_by directory) i;
  own = count-map is_own (class_by directory) heard i;
  strangers = count-map is_strange (class_by directory) heard i;
  unframed = count-map is_unframed (class_by directory) heard i;
  bad = count-map is_bad (class_by directory) heard i;
})

-- all lines of an input
pub heard_is : (cs : List Start) (input : List ℕ) (i : ℕ) (lists : List (List ℕ)) (kinds : List Class) (counts : Counts)
    → HaveComeTo cs (map told_of (take i (lines input))) lists kinds → i ≡ length (lines input) → counts ≡ counts_in kinds
    → record { lines = lines input; lists = lists; counts = counts } ≡ heard_input cs input
heard_is cs input i lists' kinds counts so whole is =
    let all : take i (lines input) ≡ lines input = ap (λ n. take n (lines input)) whole ∙ take-length (lines input) in
    (λ j. record {
      lines = lines input;
      lists = (so.lists_are ∙ ap (λ g. numbers_for cs (map told_of g)) all) j;
      counts = (is ∙ (ap counts_in so.classes_are ∙ (counted_classes (addresses cs) (map told_of (take i (lines input)))
          ∙ ap (λ g. counts_of (addresses cs) (map told_of g)) all))) j;
    })
