-- There are three words where they are those of a program.
use Rattle.std.proofs.Common.{◌≡◌, ℕ, true, List, [], ◌∷◌, length, map, Some, refl, sym, ◌∙◌}
use Rattle.std.proofs.lemmas.List.{length-map}
use Rattle.state_changes.specs.CommandWords.{are_merge_words, raise_in}

merge_three : (words : List (List ℕ)) → are_merge_words words ≡ true → length words ≡ 3
unfolding are_merge_words
merge_three (a ∷ b ∷ c ∷ []) h = refl
merge_three _ h = absurd cc

raise_three : (words : List (List ℕ)) (n : ℕ) → raise_in words ≡ Some n → length words ≡ 3
unfolding raise_in
raise_three (a ∷ b ∷ c ∷ []) n h = refl
raise_three _ n h = absurd cc

pub three_of : {A : Type 0} (words : List A) (f : A → List ℕ) → are_merge_words (map f words) ≡ true → length words ≡ 3
three_of words f h = sym (length-map words f) ∙ merge_three (map f words) h

pub three_for : {A : Type 0} (words : List A) (f : A → List ℕ) (n : ℕ) → Some n ≡ raise_in (map f words) → length words ≡ 3
three_for words f n h = sym (length-map words f) ∙ raise_three (map f words) n (sym h)
