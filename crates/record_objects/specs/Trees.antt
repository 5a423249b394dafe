-- Trees of JSON (RFC 8259) by their members, and their compact text; the same members as comma separated values (RFC 4180).
use Rattle.std.specs.Prelude.{ℕ, ◌≡◌, List, [], ◌∷◌, ◌++◌, map, Option, Some, None}
use Rattle.std.specs.List.{join_with_byte}
use Rattle.json.specs.Token.{Token}
use Rattle.json.specs.Json.{Json, null, boolean, number, string, array, object, Items, no_items, item, Members, no_members, member, document}
use Rattle.json.specs.Print.{print}
use Rattle.json.specs.Tree.{json_tokens}

-- the text of a tree, without white space
abbrev pub compact : Json → List ℕ
compact j = print (json_tokens j)

-- a reader of JSON gets the tree back from its text
abbrev pub IsReadBack : Json → Type 0
IsReadBack j = document (compact j) ≡ Some j

-- ---- members, of which an object has those that there are

abbrev pub members_of : List (List ℕ × Option Json) → Members
members_of [] = no_members
members_of ((name, None) ∷ rest) = members_of rest
members_of ((name, Some j) ∷ rest) = member name j (members_of rest)

abbrev pub object_of : List (List ℕ × Option Json) → Json
object_of named = object (members_of named)

abbrev pub inner_tokens : Members → List Token
inner_tokens no_members = []
inner_tokens (member name j rest) = Token.key name ∷ (json_tokens j ++ inner_tokens rest)

-- the text of members as they stand inside an object, without its brackets
abbrev pub inside : List (List ℕ × Option Json) → List ℕ
inside named = print (inner_tokens (members_of named))

-- ---- items

abbrev pub items_of : List Json → Items
items_of [] = no_items
items_of (j ∷ rest) = item j (items_of rest)

-- ---- between commas

-- a string and a number as they are, and nothing for null and for a member that there isn't
abbrev pub cell : Option Json → List ℕ
cell (Some (string text)) = text
cell (Some (number text)) = text
cell _ = []

abbrev pub cells : List (List ℕ × Option Json) → List ℕ
cells named = join_with_byte 44 (map (λ m. cell m.1) named)
