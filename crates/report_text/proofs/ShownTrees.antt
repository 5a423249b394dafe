-- Trees whose text is read back as the tree.
use Rattle.std.proofs.Common.{◌≡◌, ℕ, ℤ, pos, negsuc, suc, ◌^◌, ◌<◌, ◌≤◌, Bool, true, false, cond, List, [], ◌∷◌, map, Option, Some, None}
use Rattle.std.proofs.Common.{option_map, option_and_then, sym, ap, ◌∙◌, refl, arith, append-nil}
use Rattle.std.specs.List.{AllByRecursion}
use Rattle.std.proofs.Math.Nat.{max-le}
use Rattle.json.specs.Json as json
use Rattle.json.specs.Tree as tree
use Rattle.json.proofs.Printed.Decimals.{IsNumber-decimal, IsNumber-signed_decimal}
use Rattle.json.proofs.Printed.Tokens.{tokens-print}
use Rattle.json.proofs.Printed.Trees.{value-json_tokens, ArePrintable-json_tokens}
use Rattle.serde_json.specs.Data.{Data, null, boolean, number, string, array, object, unsigned, Items, item, Members, no_members}
use Rattle.serde_json.specs.Data.{member, put}
use Rattle.serde_json.specs.Find.{of_integer}
use Rattle.serde_json.specs.Read.{max_depth, of_json, of_items, of_members, read}
use Rattle.serde_json.specs.View.{items_of}
use Rattle.serde_json.specs.Written.{outline, items_outline, members_outline, compact_text}
use Rattle.serde_json.proofs.Numbers.{number_of-decimal, number_of-negative}
use Rattle.serde_json.proofs.Texts.{print-outline}
use Rattle.report_text.specs.Readings.{or_null, list_tree}

-- Each of its numbers reads back as it is, and it has so many levels at most.
pub record IsShown (levels : ℕ) (d : Data) : Type 0 where
  pub numbers : tree.HasNumbers (outline d)
  pub back : of_json (outline d) ≡ Some d
  pub nests : tree.depth (outline d) ≤ levels

-- a reader of JSON gets it back
pub read_back : (d : Data) → IsShown max_depth d → read (compact_text d) ≡ Some d
read_back d h =
    let j = outline d in
    ap read (sym (print-outline d))
    ∙ ap (λ ts. option_and_then of_json (option_and_then (λ p. json.if_last p.0 p.1) (json.value max_depth ts)))
    (tokens-print (tree.json_tokens j) (ArePrintable-json_tokens j h.numbers) ∙ sym (append-nil (tree.json_tokens j)))
    ∙ ap (λ found. option_and_then of_json (option_and_then (λ p. json.if_last p.0 p.1) found)) (value-json_tokens j max_depth [] h.nests)
    ∙ h.back

-- more levels are allowed
pub with_more : {low high : ℕ} {d : Data} → low ≤ high → IsShown low d → IsShown high d
with_more le h = record { numbers = h.numbers; back = h.back; nests = omega (arith, le, h.nests) }

-- ---- leaves

pub null_shown : {levels : ℕ} → IsShown levels null
null_shown = record { numbers = tt; back = refl; nests = omega arith }

pub boolean_shown : {levels : ℕ} (b : Bool) → IsShown levels (boolean b)
boolean_shown b = record { numbers = tt; back = refl; nests = omega arith }

pub string_shown : {levels : ℕ} {text : List ℕ} → IsShown levels (string text)
string_shown = record { numbers = tt; back = refl; nests = omega arith }

pub number_shown : {levels : ℕ} (n : ℕ) → n < 2 ^ 64 → IsShown levels (number (unsigned n))
number_shown n small = record {
  numbers = IsNumber-decimal n small;
  back = ap (option_map number) (number_of-decimal n small);
  nests = omega arith;
}

-- of 64 bits
abbrev pub IsSmall : ℤ → Type 0
IsSmall (pos n) = n < 2 ^ 63
IsSmall (negsuc n) = suc n < 2 ^ 63

pub integer_shown : {levels : ℕ} (z : ℤ) → IsSmall z → IsShown levels (number (of_integer z))
integer_shown (pos n) small = number_shown n (omega (arith, small))
integer_shown (negsuc n) small = record {
  numbers = IsNumber-signed_decimal (negsuc n) (omega (arith, small));
  back = ap (option_map number) (number_of-negative n (omega (arith, small)));
  nests = omega arith;
}

pub option_shown : {X : Type 0} {levels : ℕ} (d : X → Data) (o : Option X) → ((x : X) → o ≡ Some x → IsShown levels (d x))
    → IsShown levels (or_null (option_map d o))
option_shown d None h = null_shown
option_shown d (Some x) h = h x refl

pub choice_shown : {levels : ℕ} (b : Bool) (x y : Data) → IsShown levels x → IsShown levels y → IsShown levels (cond b x y)
choice_shown true x y h k = h
choice_shown false x y h k = k

-- ---- objects

-- Of these members, put one after another to those found before, come all.
pub record AreShown (levels : ℕ) (found all ms : Members) : Type 0 where
  pub numbers : tree.MembersHaveNumbers (members_outline ms)
  pub back : of_members (members_outline ms) found ≡ Some all
  pub nests : tree.members_depth (members_outline ms) ≤ levels

pub none_left : {levels : ℕ} {all : Members} → AreShown levels all all no_members
none_left = record { numbers = tt; back = refl; nests = omega arith }

infixr 5 ◌⟫◌
pub ◌⟫◌ : {levels : ℕ} {found all : Members} {name : List ℕ} {d : Data} {ms : Members} → IsShown levels d
    → AreShown levels (put name d found) all ms → AreShown levels found all (member name d ms)
◌⟫◌ {found} {name} {d} {ms} one rest = record {
  numbers = (one.numbers, rest.numbers);
  back = ap (option_and_then (λ x. of_members (members_outline ms) (put name x found))) one.back ∙ rest.back;
  nests = max-le one.nests rest.nests;
}

pub object_shown : {levels : ℕ} (ms : Members) → AreShown levels no_members ms ms → IsShown (suc levels) (object ms)
object_shown ms all = record {
  numbers = all.numbers;
  back = ap (option_map object) all.back;
  nests = omega (arith, all.nests);
}

-- ---- arrays

record ItemsAreShown (levels : ℕ) (ds : Items) : Type 0 where
  numbers : tree.ItemsHaveNumbers (items_outline ds)
  back : of_items (items_outline ds) ≡ Some ds
  nests : tree.items_depth (items_outline ds) ≤ levels

items_shown : {X : Type 0} {levels : ℕ} (d : X → Data) (xs : List X) → AllByRecursion (λ x. IsShown levels (d x)) xs
    → ItemsAreShown levels (items_of (map d xs))
items_shown d [] h = record { numbers = tt; back = refl; nests = omega arith }
items_shown d (x ∷ xs) h =
    let one = h.0 in
    let rest = items_shown d xs h.1 in
    record {
      numbers = (one.numbers, rest.numbers);
      back = ap (option_and_then (λ y. option_map (item y) (of_items (items_outline (items_of (map d xs)))))) one.back
          ∙ ap (option_map (item (d x))) rest.back;
      nests = max-le one.nests rest.nests;
    }

pub list_shown : {X : Type 0} {levels : ℕ} (d : X → Data) (xs : List X) → AllByRecursion (λ x. IsShown levels (d x)) xs
    → IsShown (suc levels) (list_tree (map d xs))
list_shown d xs h =
    let all = items_shown d xs h in
    record {
      numbers = all.numbers;
      back = ap (option_map array) all.back;
      nests = omega (arith, all.nests);
    }
