-- The text that JSON has for a tree, part by part.
use Rattle.std.proofs.Common.{◌≡◌, ℕ, Bool, true, false, cond, List, [], ◌∷◌, ◌++◌, refl, sym, ap, ◌∙◌, append_assoc, append-nil}
use Rattle.json.specs.Token.{Token}
use Rattle.json.specs.Print.{print, print_from, quoted, token_text}
use Rattle.json.specs.Json.{Json, null, boolean, number, string, array, object, Items, no_items, item, Members, no_members, member}
use Rattle.json.specs.Tree.{json_tokens, items_tokens, members_tokens}
use Rattle.record_objects.specs.Trees.{compact, inner_tokens}

abbrev pub comma_if : Bool → List ℕ
comma_if later = cond later (44 ∷ []) []

abbrev mutual
  pub json_text : Json → List ℕ
  json_text null = token_text Token.null
  json_text (boolean b) = token_text (Token.boolean b)
  json_text (number s) = s
  json_text (string s) = quoted s
  json_text (array js) = 91 ∷ (items_text false js ++ 93 ∷ [])
  json_text (object ms) = 123 ∷ (members_text false ms ++ 125 ∷ [])

  -- without the brackets
  pub items_text : Bool → Items → List ℕ
  items_text later no_items = []
  items_text later (item j js) = comma_if later ++ (json_text j ++ items_text true js)

  pub members_text : Bool → Members → List ℕ
  members_text later no_members = []
  members_text later (member k j ms) = comma_if later ++ (quoted k ++ 58 ∷ (json_text j ++ members_text true ms))

-- ---- what `json` prints

regroup : (q a b c : List ℕ) → (q ++ 58 ∷ []) ++ (a ++ (b ++ c)) ≡ (q ++ 58 ∷ (a ++ b)) ++ c
regroup q a b c = append_assoc q _ _ ∙ sym (append_assoc q _ c ∙ ap (λ s. q ++ 58 ∷ s) (append_assoc a b c))

regroup_item : (q a b c : List ℕ) → q ++ (a ++ (b ++ c)) ≡ (q ++ (a ++ b)) ++ c
regroup_item q a b c = simp append_assoc

print_member : (k : List ℕ) (j : Json) (ms : Members) (ts : List Token)
    → print_from false (json_tokens j ++ (members_tokens ms ++ ts)) ≡ json_text j ++ print_from true (members_tokens ms ++ ts)
    → print_from true (members_tokens ms ++ ts) ≡ members_text true ms ++ 125 ∷ print_from true ts
    → (quoted k ++ 58 ∷ []) ++ print_from false ((json_tokens j ++ members_tokens ms) ++ ts)
    ≡ (quoted k ++ 58 ∷ (json_text j ++ members_text true ms)) ++ 125 ∷ print_from true ts
print_member k j ms ts value rest =
    let whole = ap (print_from false) (append_assoc (json_tokens j) (members_tokens ms) ts) ∙ value in
    ap (λ s. (quoted k ++ 58 ∷ []) ++ s) (whole ∙ ap (λ s. json_text j ++ s) rest)
    ∙ regroup (quoted k) (json_text j) (members_text true ms) (125 ∷ print_from true ts)

mutual
  unfolding print_from

  print_value : (later : Bool) (j : Json) (ts : List Token) → print_from later (json_tokens j ++ ts) ≡ comma_if later ++ (json_text j ++ print_from true ts)
  print_value true null ts = refl
  print_value false null ts = refl
  print_value true (boolean b) ts = refl
  print_value false (boolean b) ts = refl
  print_value true (number n) ts = refl
  print_value false (number n) ts = refl
  print_value true (string s) ts = refl
  print_value false (string s) ts = refl
  print_value true (array js) ts = ap (λ s. 44 ∷ 91 ∷ s) (print_items false js ts ∙ sym (append_assoc (items_text false js) (93 ∷ []) (print_from true ts)))
  print_value false (array js) ts = ap (λ s. 91 ∷ s) (print_items false js ts ∙ sym (append_assoc (items_text false js) (93 ∷ []) (print_from true ts)))
  print_value true (object ms) ts = ap (λ s. 44 ∷ 123 ∷ s) (print_members false ms ts ∙ sym (append_assoc (members_text false ms) (125 ∷ []) (print_from true ts)))
  print_value false (object ms) ts = ap (λ s. 123 ∷ s) (print_members false ms ts ∙ sym (append_assoc (members_text false ms) (125 ∷ []) (print_from true ts)))

  print_items : (later : Bool) (js : Items) (ts : List Token) → print_from later (items_tokens js ++ ts) ≡ items_text later js ++ 93 ∷ print_from true ts
  print_items true no_items ts = refl
  print_items false no_items ts = refl
  print_items later (item j js) ts =
      let rest = items_tokens js in
      ap (print_from later) (append_assoc (json_tokens j) rest ts) ∙ print_value later j (rest ++ ts)
      ∙ ap (λ s. comma_if later ++ (json_text j ++ s)) (print_items true js ts)
      ∙ regroup_item (comma_if later) (json_text j) (items_text true js) (93 ∷ print_from true ts)

  print_members : (later : Bool) (ms : Members) (ts : List Token) → print_from later (members_tokens ms ++ ts) ≡ members_text later ms ++ 125 ∷ print_from true ts
  print_members true no_members ts = refl
  print_members false no_members ts = refl
  print_members true (member k j ms) ts = ap (λ s. 44 ∷ s) (print_member k j ms ts (print_value false j (members_tokens ms ++ ts)) (print_members true ms ts))
  print_members false (member k j ms) ts = print_member k j ms ts (print_value false j (members_tokens ms ++ ts)) (print_members true ms ts)

pub compact_is : (j : Json) → compact j ≡ json_text j
unfolding print_from
compact_is j = ap print (sym (append-nil (json_tokens j))) ∙ print_value false j [] ∙ append-nil (json_text j)

inner_from : (later : Bool) (ms : Members) → print_from later (inner_tokens ms) ≡ members_text later ms
unfolding print_from
inner_from true no_members = refl
inner_from false no_members = refl
inner_from true (member k j ms) =
    ap (λ s. 44 ∷ ((quoted k ++ 58 ∷ []) ++ s)) (print_value false j (inner_tokens ms) ∙ ap (λ s. json_text j ++ s) (inner_from true ms))
    ∙ ap (λ s. 44 ∷ s) (append_assoc (quoted k) (58 ∷ []) (json_text j ++ members_text true ms))
inner_from false (member k j ms) =
    ap (λ s. (quoted k ++ 58 ∷ []) ++ s) (print_value false j (inner_tokens ms) ∙ ap (λ s. json_text j ++ s) (inner_from true ms))
    ∙ append_assoc (quoted k) (58 ∷ []) (json_text j ++ members_text true ms)

pub inner_is : (ms : Members) → print (inner_tokens ms) ≡ members_text false ms
inner_is ms = inner_from false ms
