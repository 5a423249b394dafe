-- The trees of records are read back from their texts.
use Rattle.std.proofs.Common.{◌≡◌, ℕ, suc, zero, ◌+◌, ◌^◌, ◌<◌, ◌≤◌, List, [], ◌∷◌, length, map, Option, Some, None, option_map, IfSome, Result, Ok, Err, refl, arith, unsigned_abs}
use Rattle.std.specs.List.{AllByRecursion, enumerate_from}
use Rattle.std.proofs.Math.Nat.{max-le}
use Rattle.json.specs.Json.{Json, number, string, array, max_depth}
use Rattle.json.specs.Tree.{HasNumbers, ItemsHaveNumbers, MembersHaveNumbers, depth, items_depth, members_depth}
use Rattle.json.proofs.Printed.Trees.{document-print}
use Rattle.dif_vif.specs.declared.fault.RecordFault.{RecordFault}
use Rattle.dif_vif.specs.declared.span.RecordSpan.{RecordSpan}
use Rattle.dif_vif.specs.Listing.{next_spans}
use Rattle.full_spans.specs.Long.{IsFullSpan}
use Rattle.full_spans.specs.Walk.{next_full_of}
use Rattle.full_spans.specs.Listing.{full_spans_from}
use Rattle.full_spans.proofs.Found.{full_found, LiesWithin-from_full}
use Rattle.full_records.specs.Records.{full_value, full_unset}
use Rattle.full_text.specs.declared.reals.Decimal.{Decimal}
use Rattle.record_objects.specs.Trees.{IsReadBack, members_of, object_of, items_of}
use Rattle.record_objects.specs.Records.{Said, said, said_members, record_members, record_object, record_objects, count, counted_tree}
use Rattle.record_objects.specs.ReadBack.{RecordsAreReadBack, PayloadsAreReadBack}
use Rattle.record_objects.proofs.Numbers.{IsNumber-decimal_text, IsNumber-count}
use Rattle.record_objects.proofs.Sizes.{IsSmall, span_small, counted_small}

-- each of its numbers is a number of JSON, and it has so many levels at most
pub record IsShown (levels : ℕ) (j : Json) : Type 0 where
  pub numbers : HasNumbers j
  pub nests : depth j ≤ levels

-- a reader of JSON gets it back
pub read_back : (j : Json) → IsShown max_depth j → IsReadBack j
read_back j h = document-print j h.numbers h.nests

-- ---- leaves

pub string_shown : {levels : ℕ} (text : List ℕ) → IsShown levels (string text)
string_shown text = record { numbers = tt; nests = omega arith }

pub count_shown : {levels : ℕ} (n : ℕ) → n < 10 ^ 64 → IsShown levels (count n)
count_shown n small = record { numbers = IsNumber-count n small; nests = omega arith }

counted_shown : {levels : ℕ} (o : Option Decimal) → IfSome o IsSmall → IsShown levels (counted_tree o)
counted_shown None h = record { numbers = tt; nests = omega arith }
counted_shown (Some d) small = record { numbers = IsNumber-decimal_text d.whole d.exponent small; nests = omega arith }

strings_shown : (levels : ℕ) (o : Option (List ℕ)) → IfSome (option_map string o) (IsShown levels)
strings_shown levels None = tt
strings_shown levels (Some text) = string_shown text

-- ---- objects

pub record AreShown (levels : ℕ) (named : List (List ℕ × Option Json)) : Type 0 where
  pub numbers : MembersHaveNumbers (members_of named)
  pub nests : members_depth (members_of named) ≤ levels

pub none_left : {levels : ℕ} → AreShown levels []
none_left = record { numbers = tt; nests = omega arith }

pub and_member : {levels : ℕ} {name : List ℕ} {named : List (List ℕ × Option Json)} (o : Option Json) → IfSome o (IsShown levels)
    → AreShown levels named → AreShown levels ((name, o) ∷ named)
and_member None h more = record { numbers = more.numbers; nests = more.nests }
and_member (Some j) h more = record { numbers = (h.numbers, more.numbers); nests = max-le h.nests more.nests }

pub object_shown : {levels : ℕ} (named : List (List ℕ × Option Json)) → AreShown levels named → IsShown (suc levels) (object_of named)
object_shown named h = record { numbers = h.numbers; nests = omega (arith, h.nests) }

said_shown : {levels : ℕ} (s : Said) → s.number < 10 ^ 64 → s.storage < 10 ^ 64 → s.tariff < 10 ^ 64 → s.subunit < 10 ^ 64
    → IfSome s.counted IsSmall → AreShown levels (said_members s)
said_shown s n storage tariff subunit counts =
    and_member _ (count_shown s.number n)
    (and_member _ (string_shown s.function)
    (and_member _ (count_shown s.storage storage)
    (and_member _ (count_shown s.tariff tariff)
    (and_member _ (count_shown s.subunit subunit)
    (and_member _ (string_shown s.quantity)
    (and_member _ (string_shown s.unit)
    (and_member _ (string_shown s.value)
    (and_member _ (counted_shown s.counted counts)
    (and_member _ (string_shown s.qualifiers)
    (and_member _ (string_shown s.type)
    (and_member _ (strings_shown _ s.profile)
    (and_member _ (strings_shown _ s.plain)
    (and_member _ (string_shown s.modifiers)
    (and_member _ (string_shown s.raw) none_left))))))))))))))

-- the members of a record, as others may stand in front of them
pub members_shown : {levels : ℕ} (n : ℕ) (bytes : List ℕ) (span : RecordSpan) → n < 10 ^ 64 → IsFullSpan bytes span
    → AreShown levels (record_members n bytes span)
unfolding said
members_shown n bytes span small is =
    let numbers = span_small bytes span is in
    said_shown (said n bytes span) small numbers.storage numbers.tariff numbers.subunit
    (counted_small (full_value bytes span) (full_unset bytes span))

pub record_shown : (n : ℕ) (bytes : List ℕ) (span : RecordSpan) → n < 10 ^ 64 → IsFullSpan bytes span
    → IsShown 1 (record_object n bytes span)
record_shown n bytes span small is = object_shown (record_members n bytes span) (members_shown n bytes span small is)

pub records_are_read_back : RecordsAreReadBack
records_are_read_back n bytes span small is =
    let one = record_shown n bytes span (omega (arith, small)) is in
    read_back _ (record { numbers = one.numbers; nests = omega (arith, one.nests) })

-- ---- arrays

record ItemsAreShown (levels : ℕ) (js : List Json) : Type 0 where
  numbers : ItemsHaveNumbers (items_of js)
  nests : items_depth (items_of js) ≤ levels

items_shown : {X : Type 0} {levels : ℕ} (f : X → Json) (xs : List X) → AllByRecursion (λ x. IsShown levels (f x)) xs
    → ItemsAreShown levels (map f xs)
items_shown f [] h = record { numbers = tt; nests = omega arith }
items_shown f (x ∷ xs) h =
    let one = h.0 in
    let rest = items_shown f xs h.1 in
    record { numbers = (one.numbers, rest.numbers); nests = max-le one.nests rest.nests }

-- each of the records from a place on, so many at most
abbrev Each : ℕ → ℕ → List ℕ → ℕ → Type 0
Each k n payload from = AllByRecursion (λ r. IsShown 1 (record_object r.0 payload r.1)) (enumerate_from n (full_spans_from k payload from))

next_shown : (k n : ℕ) (payload : List ℕ) (from : ℕ) (next : Result (Option RecordSpan) RecordFault) → next_full_of payload from ≡ next
    → from ≤ length payload → n + k < 10 ^ 64 → ((m to : ℕ) → to ≤ length payload → m + k ≤ n + 1 + k → Each k m payload to)
    → AllByRecursion (λ r. IsShown 1 (record_object r.0 payload r.1)) (enumerate_from n (next_spans (full_spans_from k payload) next))
next_shown k n payload from (Ok (Some span)) is within small rest =
    let found = full_found payload from (Some span) within is in (
      record_shown n payload span (omega arith) found.1,
      rest (n + 1) span.end
          (let lies = LiesWithin-from_full payload span found.1 in lies.within) (omega arith),
    )
next_shown k n payload from (Ok None) is within small rest = tt
next_shown k n payload from (Err fault) is within small rest = tt

each_shown : (k n : ℕ) (payload : List ℕ) (from : ℕ) → from ≤ length payload → n + k < 10 ^ 64 → Each k n payload from
unfolding full_spans_from
each_shown zero n payload from within small = tt
each_shown (suc k) n payload from within small =
    next_shown k n payload from (next_full_of payload from) refl within (omega arith)
    (λ m to lies few. each_shown k m payload to lies (omega arith))

pub objects_shown : (payload : List ℕ) → length payload < 2 ^ 63 → IsShown 2 (record_objects payload)
objects_shown payload few =
    let all = items_shown (λ r. record_object r.0 payload r.1) _ (each_shown (length payload) 1 payload 0 (omega arith) (omega arith)) in
    record { numbers = all.numbers; nests = omega (arith, all.nests) }

pub payloads_are_read_back : PayloadsAreReadBack
payloads_are_read_back payload few =
    let all = objects_shown payload few in
    read_back _ (record { numbers = all.numbers; nests = omega (arith, all.nests) })
