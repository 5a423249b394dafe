-- The parts of a header: what is read of each is spelled so, and what is spelled so is read.
use Rattle.std.proofs.Common.{◌≡◌, ℕ, zero, suc, ◌^◌, ◌<◌, eqb, List, [], ◌∷◌, ◌++◌, length, get_or, Option, Some, None, option_map, is_some, refl, sym, ap, subst, ◌∙◌, arith, inl, inr}
use Rattle.std.specs.Int.{w16, w64, from_le_bytes, from_be_bytes}
use Rattle.std.proofs.lemmas.Option.{some_pair_parts}
use Rattle.std.proofs.lemmas.Nat.{le_bytes_2, from_le_bytes-to_le_bytes_2}
use Rattle.lists.proofs.Choices.{chosen}
use Rattle.meter_address.specs.declared.address.Address.{Address}
use Rattle.meter_address.specs.Address.{bytes_of, header_order}
use Rattle.meter_address.proofs.Texts.{IsBytes-eight, bytes_of-made, length-bytes_of, from_be_bytes-bytes_of}
use Rattle.meter_address.proofs.HeaderOrder.{in_order, eight_is}
use Rattle.tpl_headers.specs.declared.tail.Tail.{Tail}
use Rattle.tpl_headers.specs.Configuration.{mode_of}
use Rattle.tpl_headers.specs.Header.{cfe_bytes, tail_bytes, cfe_at, tail_at, address_at}

abbrev pub IsBytes : List ℕ → Type 0
IsBytes bytes = (i : ℕ) → get_or bytes i 0 < 256

pub IsBytes-rest : (b : ℕ) (bytes : List ℕ) → IsBytes (b ∷ bytes) → IsBytes bytes
IsBytes-rest b bytes fits i = fits (suc i)

IsBytes-two : (a b : ℕ) → a < 256 → b < 256 → IsBytes (a ∷ b ∷ [])
IsBytes-two a b la lb zero = la
IsBytes-two a b la lb (suc zero) = lb
IsBytes-two a b la lb (suc (suc i)) = omega arith

pub map_some : {A B : Type 0} (f : A → B) (o : Option A) (y : B) → option_map f o ≡ Some y → (x : A) × (o ≡ Some x) × (f x ≡ y)
map_some f (Some x) y e = (x, refl, cc)
map_some f None y e = absurd cc

-- ---- the extension

pub extension_takes : (cf : ℕ) (bytes : List ℕ) (cfe : Option ℕ) → cfe_at cf bytes ≡ Some cfe
    → (rest : List ℕ) × (bytes ≡ cfe_bytes cfe ++ rest) × (is_some cfe ≡ eqb (mode_of cf) 7)
unfolding cfe_at
extension_takes cf [] cfe e =
    elim (chosen (eqb (mode_of cf) 7) _ _ _ e) [
      | inl seven ↦ absurd (cc seven.1)
      | inr other ↦ let nothing : None ≡ cfe = cc other.1 in ([], rw (← nothing) refl, rw (← nothing) (sym other.0))
    ]
extension_takes cf (b ∷ bytes) cfe e =
    elim (chosen (eqb (mode_of cf) 7) _ _ _ e) [
      | inl seven ↦ let read : Some b ≡ cfe = cc seven.1 in (bytes, rw (← read) refl, rw (← read) (sym seven.0))
      | inr other ↦ let nothing : None ≡ cfe = cc other.1 in (b ∷ bytes, rw (← nothing) refl, rw (← nothing) (sym other.0))
    ]

pub extension_again : (cf : ℕ) (cfe : Option ℕ) (rest : List ℕ) → is_some cfe ≡ eqb (mode_of cf) 7
    → cfe_at cf (cfe_bytes cfe ++ rest) ≡ Some cfe
unfolding cfe_at
extension_again cf None [] mode = rw (← mode) refl
extension_again cf None (b ∷ rest) mode = rw (← mode) refl
extension_again cf (Some cfe) rest mode = rw (← mode) refl

-- ---- the tail

-- the tail stands at the front, with what its fields hold
pub record TakesTail (bytes : List ℕ) (t : Tail) : Type 0 where
  pub rest : List ℕ
  pub parts : bytes ≡ tail_bytes t.acc t.status t.cf t.cfe ++ rest
  pub cf : t.cf < 2 ^ 16
  pub extension : is_some t.cfe ≡ eqb (mode_of t.cf) 7

abbrev tail_with : ℕ → ℕ → ℕ → Option ℕ → Tail
tail_with acc status cf cfe = record { acc = acc; status = status; cf = cf; cfe = cfe }

pub tail_takes : (bytes : List ℕ) (t : Tail) → IsBytes bytes → tail_at bytes ≡ Some t → TakesTail bytes t
unfolding tail_at
tail_takes [] t fits e = absurd cc
tail_takes (a ∷ []) t fits e = absurd cc
tail_takes (a ∷ s ∷ []) t fits e = absurd cc
tail_takes (a ∷ s ∷ l ∷ []) t fits e = absurd cc
tail_takes (a ∷ s ∷ l ∷ h ∷ rest) t fits e =
    let cf : ℕ = from_le_bytes w16 (l ∷ h ∷ []) in
    let read = map_some (tail_with a s cf) (cfe_at cf rest) t e in
    let extension = extension_takes cf rest read.0 read.1 in
    let two = le_bytes_2 (l ∷ h ∷ []) cf refl (IsBytes-two l h (fits 2) (fits 3)) refl in
    let made : TakesTail (a ∷ s ∷ l ∷ h ∷ rest) (tail_with a s cf read.0) = record {
      rest = extension.0;
      parts = ap (λ (x : List ℕ). a ∷ s ∷ l ∷ h ∷ x) extension.1
          ∙ ap (λ (x : List ℕ). a ∷ s ∷ (x ++ cfe_bytes read.0) ++ extension.0) (sym two);
      cf = omega (arith, fits 2, fits 3);
      extension = extension.2;
    } in
    subst (TakesTail (a ∷ s ∷ l ∷ h ∷ rest)) read.2 made

tail_parts : (acc status low high cf : ℕ) (cfe : Option ℕ) (rest : List ℕ) → from_le_bytes w16 (low ∷ high ∷ []) ≡ cf
    → cfe_at cf rest ≡ Some cfe
    → tail_at (acc ∷ status ∷ low ∷ high ∷ rest) ≡ Some (tail_with acc status cf cfe)
unfolding tail_at
tail_parts acc status low high cf cfe rest number read =
    ap (λ (n : ℕ). option_map (tail_with acc status n) (cfe_at n rest)) number ∙ ap (option_map (tail_with acc status cf)) read

pub tail_again : (acc status cf : ℕ) (cfe : Option ℕ) (rest : List ℕ) → cf < 2 ^ 16 → is_some cfe ≡ eqb (mode_of cf) 7
    → tail_at (tail_bytes acc status cf cfe ++ rest) ≡ Some (tail_with acc status cf cfe)
tail_again acc status cf cfe rest fits mode =
    tail_parts acc status _ _ cf cfe (cfe_bytes cfe ++ rest) (from_le_bytes-to_le_bytes_2 cf fits) (extension_again cf cfe rest mode)

-- ---- the address

-- the address stands at the front in header order
pub record TakesAddress (bytes : List ℕ) (a : Address) (rest : List ℕ) : Type 0 where
  pub eight : List ℕ
  pub parts : bytes ≡ eight ++ rest
  pub len : length eight ≡ 8
  pub order : eight ≡ header_order a
  pub number : a.0 < 2 ^ 64
  pub rest_fits : IsBytes rest

address_made : (i j k l m n v d : ℕ) (rest : List ℕ) → IsBytes (i ∷ j ∷ k ∷ l ∷ m ∷ n ∷ v ∷ d ∷ rest)
    → TakesAddress (i ∷ j ∷ k ∷ l ∷ m ∷ n ∷ v ∷ d ∷ rest)
    (let a : Address = record { 0 = from_be_bytes w64 (m ∷ n ∷ i ∷ j ∷ k ∷ l ∷ v ∷ d ∷ []) } in a) rest
address_made i j k l m n v d rest fits =
    let eight = IsBytes-eight m n i j k l v d (fits 4) (fits 5) (fits 0) (fits 1) (fits 2) (fits 3) (fits 6) (fits 7) in
    record {
      eight = i ∷ j ∷ k ∷ l ∷ m ∷ n ∷ v ∷ d ∷ [];
      parts = refl;
      len = refl;
      order = sym (ap in_order (bytes_of-made (m ∷ n ∷ i ∷ j ∷ k ∷ l ∷ v ∷ d ∷ []) _ refl eight refl));
      number = omega (arith, fits 0, fits 1, fits 2, fits 3, fits 4, fits 5, fits 6, fits 7);
      rest_fits = λ x. fits (suc (suc (suc (suc (suc (suc (suc (suc x))))))));
    }

pub address_takes : (bytes : List ℕ) (a : Address) (rest : List ℕ) → IsBytes bytes → address_at bytes ≡ Some (a, rest)
    → TakesAddress bytes a rest
unfolding address_at
address_takes [] a rest fits e = absurd cc
address_takes (i ∷ []) a rest fits e = absurd cc
address_takes (i ∷ j ∷ []) a rest fits e = absurd cc
address_takes (i ∷ j ∷ k ∷ []) a rest fits e = absurd cc
address_takes (i ∷ j ∷ k ∷ l ∷ []) a rest fits e = absurd cc
address_takes (i ∷ j ∷ k ∷ l ∷ m ∷ []) a rest fits e = absurd cc
address_takes (i ∷ j ∷ k ∷ l ∷ m ∷ n ∷ []) a rest fits e = absurd cc
address_takes (i ∷ j ∷ k ∷ l ∷ m ∷ n ∷ v ∷ []) a rest fits e = absurd cc
address_takes (i ∷ j ∷ k ∷ l ∷ m ∷ n ∷ v ∷ d ∷ after) a rest fits e =
    let same = some_pair_parts _ a after rest e in
    subst (λ (x : Address). TakesAddress (i ∷ j ∷ k ∷ l ∷ m ∷ n ∷ v ∷ d ∷ after) x rest) same.0
    (subst (TakesAddress (i ∷ j ∷ k ∷ l ∷ m ∷ n ∷ v ∷ d ∷ after) _) same.1 (address_made i j k l m n v d after fits))

address_parts : (i j k l m n v d : ℕ) (a : Address) (rest : List ℕ) → from_be_bytes w64 (m ∷ n ∷ i ∷ j ∷ k ∷ l ∷ v ∷ d ∷ []) ≡ a.0
    → address_at (i ∷ j ∷ k ∷ l ∷ m ∷ n ∷ v ∷ d ∷ rest) ≡ Some (a, rest)
unfolding address_at
address_parts i j k l m n v d a rest number =
    ap (λ (x : ℕ). let made : Address = record { 0 = x } in let read : Option (Address × List ℕ) = Some (made, rest) in read) number

pub address_again : (a : Address) (rest : List ℕ) → a.0 < 2 ^ 64 → address_at (header_order a ++ rest) ≡ Some (a, rest)
address_again a rest fits =
    let x = eight_is (bytes_of a) (length-bytes_of a) in
    let order : header_order a ≡ x.c ∷ x.d ∷ x.e ∷ x.f ∷ x.a ∷ x.b ∷ x.g ∷ x.h ∷ [] = ap in_order x.cells in
    ap (λ (y : List ℕ). address_at (y ++ rest)) order
    ∙ address_parts x.c x.d x.e x.f x.a x.b x.g x.h a rest (ap (from_be_bytes w64) (sym x.cells) ∙ from_be_bytes-bytes_of a fits)
