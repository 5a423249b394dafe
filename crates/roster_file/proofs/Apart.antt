-- Meters one after another, of any type of which each has an address: the addresses differ, and there are at most 4,096.
use Rattle.std.proofs.Common.{◌≡◌, ℕ, ◌≤◌, ◌==◌, false, cond, nat_le, List, [], ◌∷◌, ◌++◌, map, length, Ok, Err, refl, ◌∙◌, arith, length-append}
use Rattle.std.specs.List.{list_any}
use Rattle.std.proofs.lemmas.Bool.{or_parts, or_from}
use Rattle.std.proofs.lemmas.Bool.Decides.{nat_tests}
use Rattle.lists.specs.Each.{Each}
use Rattle.lists.proofs.Members.{each_push}
use Rattle.meter_address.specs.declared.address.Address.{Address}
use Rattle.meter_address.specs.Address.{AreApart}
use Rattle.roster_file.proofs.Gives.{Gives, gives_ok, gives_unless}

eqb_swap : (a b : ℕ) → (a == b) ≡ (b == a)
eqb_swap a b = grind (arith, nat_tests)

module _ {A : Type 0} (address : A → Address) where
  any_push : (n : ℕ) (xs : List A) (x : A) → list_any (λ b. b.0 == n) (map address xs) ≡ false → ((address x).0 == n) ≡ false
      → list_any (λ b. b.0 == n) (map address (xs ++ x ∷ [])) ≡ false
  any_push n [] x none other = or_from _ _ other refl
  any_push n (y ∷ ys) x none other =
      let parts = or_parts ((address y).0 == n) _ none in or_from _ _ parts.0 (any_push n ys x parts.1 other)

  apart_push : (xs : List A) (x : A) → AreApart (map address xs) → list_any (λ m. (address m).0 == (address x).0) xs ≡ false
      → AreApart (map address (xs ++ x ∷ []))
  apart_push [] x apart new = (refl, tt)
  apart_push (y ∷ ys) x apart new =
      let parts = or_parts ((address y).0 == (address x).0) _ new in
      (any_push (address y).0 ys x apart.0 (eqb_swap (address x).0 (address y).0 ∙ parts.0), apart_push ys x apart.1 parts.1)

  any_at : (n : ℕ) (before : List A) (x : A) (after : List A) → list_any (λ b. b.0 == n) (map address (before ++ x ∷ after)) ≡ false
      → ((address x).0 == n) ≡ false
  any_at n [] x after h = (or_parts _ _ h).0
  any_at n (y ∷ before) x after h = any_at n before x after (or_parts ((address y).0 == n) _ h).1

  -- none of those before has the address of one
  pub new_behind : (before : List A) (x : A) (after : List A) → AreApart (map address (before ++ x ∷ after))
      → list_any (λ m. (address m).0 == (address x).0) before ≡ false
  new_behind [] x after apart = refl
  new_behind (y ∷ before) x after apart =
      or_from _ _ (eqb_swap (address y).0 (address x).0 ∙ any_at (address y).0 before x after apart.0) (new_behind before x after apart.1)

  pub room_before : (before : List A) (x : A) (after : List A) → length (before ++ x ∷ after) ≤ 4096 → nat_le 4096 (length before) ≡ false
  room_before before x after few = let all = length-append before (x ∷ after) in grind (arith, nat_tests)

  -- they can stand together, and this holds of each
  pub record CanStand (P : A → Type 0) (xs : List A) : Type 0 where
    pub few : length xs ≤ 4096
    pub apart : AreApart (map address xs)
    pub each : Each P xs

  pub none_stand : (P : A → Type 0) → CanStand P []
  none_stand P = record { few = omega arith; apart = tt; each = tt }

  -- one more, where its address is new and there is room
  pub enlisted_stand : {B E : Type 0} (P : A → Type 0) (Q : B → Type 0) (xs : List A) (x : A) (made : B) (one two : E) → CanStand P xs → P x
      → (CanStand P (xs ++ x ∷ []) → Q made)
      → Gives Q (cond (list_any (λ m. (address m).0 == (address x).0) xs) (Err one) (cond (nat_le 4096 (length xs)) (Err two) (Ok made)))
  enlisted_stand P Q xs x made one two stand is then =
      gives_unless Q _ one _ (λ new.
      gives_unless Q _ two (Ok made) (λ room.
      gives_ok Q made (then (record {
        few = (let all = length-append xs (x ∷ []) in grind (arith, nat_tests));
        apart = apart_push xs x stand.apart new;
        each = each_push P xs x stand.each is;
      }))))
