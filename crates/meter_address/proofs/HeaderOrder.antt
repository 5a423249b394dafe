-- The bytes of an address, the identification before M.
use Rattle.std.proofs.Common.{◌≡◌, ℕ, List, [], ◌∷◌, ◌++◌, length, get_or, take, drop, refl, sym, ap, ◌∙◌, arith}
use Rattle.meter_address.specs.declared.address.Address.{Address}
use Rattle.meter_address.specs.Address.{bytes_of, header_order}
use Rattle.meter_address.proofs.Texts.{length-bytes_of}

-- eight bytes with the identification before M
abbrev pub in_order : List ℕ → List ℕ
in_order b = take 4 (drop 2 b) ++ (take 2 b ++ drop 6 b)

-- eight bytes, one by one
pub record Eight (xs : List ℕ) : Type 0 where
  pub a : ℕ
  pub b : ℕ
  pub c : ℕ
  pub d : ℕ
  pub e : ℕ
  pub f : ℕ
  pub g : ℕ
  pub h : ℕ
  pub cells : xs ≡ a ∷ b ∷ c ∷ d ∷ e ∷ f ∷ g ∷ h ∷ []

pub eight_is : (xs : List ℕ) → length xs ≡ 8 → Eight xs
eight_is [] len = absurd (omega arith)
eight_is (a ∷ []) len = absurd (omega arith)
eight_is (a ∷ b ∷ []) len = absurd (omega arith)
eight_is (a ∷ b ∷ c ∷ []) len = absurd (omega arith)
eight_is (a ∷ b ∷ c ∷ d ∷ []) len = absurd (omega arith)
eight_is (a ∷ b ∷ c ∷ d ∷ e ∷ []) len = absurd (omega arith)
eight_is (a ∷ b ∷ c ∷ d ∷ e ∷ f ∷ []) len = absurd (omega arith)
eight_is (a ∷ b ∷ c ∷ d ∷ e ∷ f ∷ g ∷ []) len = absurd (omega arith)
eight_is (a ∷ b ∷ c ∷ d ∷ e ∷ f ∷ g ∷ h ∷ []) len = record { a = a; b = b; c = c; d = d; e = e; f = f; g = g; h = h; cells = refl }
eight_is (a ∷ b ∷ c ∷ d ∷ e ∷ f ∷ g ∷ h ∷ i ∷ xs) len = absurd (omega arith)

-- eight bytes with the identification before M, one by one
pub in_order_cells : (xs : List ℕ) → length xs ≡ 8
    → in_order xs ≡ get_or xs 2 0 ∷ get_or xs 3 0 ∷ get_or xs 4 0 ∷ get_or xs 5 0 ∷ get_or xs 0 0 ∷ get_or xs 1 0 ∷ get_or xs 6 0
    ∷ get_or xs 7 0 ∷ []
in_order_cells xs len = let x = eight_is xs len in rw x.cells refl

pub length-header_order : (a : Address) → length (header_order a) ≡ 8
length-header_order a = ap length (in_order_cells (bytes_of a) (length-bytes_of a))

-- the bytes of an address put in header order, one by one
pub in_order_is : (a : Address) (xs : List ℕ) → xs ≡ bytes_of a
    → get_or xs 2 0 ∷ get_or xs 3 0 ∷ get_or xs 4 0 ∷ get_or xs 5 0 ∷ get_or xs 0 0 ∷ get_or xs 1 0 ∷ get_or xs 6 0 ∷ get_or xs 7 0
    ∷ [] ≡ header_order a
in_order_is a xs same = sym (in_order_cells xs (ap length same ∙ length-bytes_of a)) ∙ ap in_order same
