-- Multiples of the generator, and their sums.
use Rattle.std.proofs.Common.{◌≡◌, ℕ, zero, suc, ◌-◌, ◌*◌, ◌^◌, List, [], ◌∷◌, ◌++◌, length, Bool, true, false, cond, refl, sym, ◌∙◌, ap, arith, length-append, bit_xor, pow_pos, replicate}
use Rattle.std.proofs.Math.Nat.{add-zero, mul_assoc, pow-suc}
use Rattle.std.proofs.lemmas.Nat.{xor_comm, xor_block}
use Rattle.std.specs.Int.Bits.{xor_assoc, xor_self, xor_zero_l, xor_zero_r}
use Rattle.std.proofs.lemmas.List.{length-replicate}
use Rattle.frame_formats.specs.Crc.{product, generator, IsMultiple}

-- a sum times x^k
pub scaled : (a b k : ℕ) → bit_xor (a * 2 ^ k) (b * 2 ^ k) ≡ bit_xor a b * 2 ^ k
scaled a b k = simp add-zero at (xor_block k a b 0 0 (pow_pos k) (pow_pos k))

-- a sum times x
pub doubled_sum : (a b : ℕ) → bit_xor (a * 2) (b * 2) ≡ bit_xor a b * 2
doubled_sum a b = scaled a b 1

-- the middle two are exchanged
pub middle : (a b c d : ℕ) → bit_xor (bit_xor a b) (bit_xor c d) ≡ bit_xor (bit_xor a c) (bit_xor b d)
middle a b c d =
    xor_assoc a b (bit_xor c d) ∙ ap (bit_xor a) (sym (xor_assoc b c d) ∙ ap (λ x. bit_xor x d) (xor_comm b c) ∙ xor_assoc c b d)
    ∙ sym (xor_assoc a c (bit_xor b d))

-- a place with no coefficient in front
product_zeros : (k : ℕ) (q : List Bool) (g : ℕ) → product (replicate k false ++ q) g ≡ product q g
unfolding product
product_zeros zero q g = refl
product_zeros (suc k) q g = xor_zero_l _ ∙ product_zeros k q g

-- a place further up
place_more : (c : Bool) (q : List Bool) (b : Bool) (g : ℕ) → cond c (g * 2 ^ length (q ++ b ∷ [])) 0 ≡ cond c (g * 2 ^ length q) 0 * 2
place_more true q b g =
    let longer : length (q ++ b ∷ []) ≡ suc (length q) = omega (arith, length-append q (b ∷ []))
    in ap (λ n. g * 2 ^ n) longer ∙ ap (λ x. g * x) (pow-suc 2 (length q)) ∙ omega (arith, mul_assoc g (2 ^ length q) 2)
place_more false q b g = refl

-- one more coefficient at the end
product_more : (q : List Bool) (b : Bool) (g : ℕ) → product (q ++ b ∷ []) g ≡ bit_xor (product q g * 2) (cond b g 0)
unfolding product
product_more [] true g = xor_zero_r (g * 1) ∙ omega arith
product_more [] false g = refl
product_more (c ∷ q) b g =
    let tail : product (q ++ b ∷ []) g ≡ bit_xor (product q g * 2) (cond b g 0) = product_more q b g
    in ap (λ x. bit_xor x (product (q ++ b ∷ []) g)) (place_more c q b g) ∙ ap (λ x. bit_xor (cond c (g * 2 ^ length q) 0 * 2) x) tail
    ∙ sym (xor_assoc (cond c (g * 2 ^ length q) 0 * 2) (product q g * 2) (cond b g 0))
    ∙ ap (λ x. bit_xor x (cond b g 0)) (doubled_sum (cond c (g * 2 ^ length q) 0) (product q g))

-- both coefficients at each place, of two as long
added : List Bool → List Bool → List Bool
added [] ys = []
added (x ∷ xs) [] = []
added (true ∷ xs) (true ∷ ys) = false ∷ added xs ys
added (true ∷ xs) (false ∷ ys) = true ∷ added xs ys
added (false ∷ xs) (y ∷ ys) = y ∷ added xs ys

length-added : (q r : List Bool) → length q ≡ length r → length (added q r) ≡ length r
unfolding added
length-added [] [] same = refl
length-added [] (y ∷ ys) same = cc
length-added (x ∷ xs) [] same = cc
length-added (true ∷ xs) (true ∷ ys) same = ap suc (length-added xs ys (cc))
length-added (true ∷ xs) (false ∷ ys) same = ap suc (length-added xs ys (cc))
length-added (false ∷ xs) (y ∷ ys) same = ap suc (length-added xs ys (cc))

product_added : (q r : List Bool) (g : ℕ) → length q ≡ length r → product (added q r) g ≡ bit_xor (product q g) (product r g)
unfolding product added
product_added [] [] g same = refl
product_added [] (y ∷ ys) g same = cc
product_added (x ∷ xs) [] g same = cc
product_added (true ∷ xs) (true ∷ ys) g same =
    let lens : length xs ≡ length ys = cc
    in product_added xs ys g lens ∙ sym (xor_zero_l (bit_xor (product xs g) (product ys g)))
    ∙ ap (λ x. bit_xor x (bit_xor (product xs g) (product ys g))) (sym (xor_self (g * 2 ^ length xs))
    ∙ ap (λ n. bit_xor (g * 2 ^ length xs) (g * 2 ^ n)) lens)
    ∙ middle (g * 2 ^ length xs) (g * 2 ^ length ys) (product xs g) (product ys g)
product_added (true ∷ xs) (false ∷ ys) g same =
    let lens : length xs ≡ length ys = cc
    in ap (λ n. bit_xor (g * 2 ^ n) (product (added xs ys) g)) (length-added xs ys lens ∙ sym lens)
    ∙ ap (λ x. bit_xor (g * 2 ^ length xs) x) (product_added xs ys g lens)
    ∙ sym (xor_assoc (g * 2 ^ length xs) (product xs g) (product ys g))
    ∙ ap (λ x. bit_xor (bit_xor (g * 2 ^ length xs) (product xs g)) x) (sym (xor_zero_l (product ys g)))
product_added (false ∷ xs) (y ∷ ys) g same =
    let lens : length xs ≡ length ys = cc
    in let top : ℕ = cond y (g * 2 ^ length ys) 0
    in ap (λ n. bit_xor (cond y (g * 2 ^ n) 0) (product (added xs ys) g)) (length-added xs ys lens)
    ∙ ap (λ x. bit_xor top x) (product_added xs ys g lens) ∙ sym (xor_assoc top (product xs g) (product ys g))
    ∙ ap (λ x. bit_xor x (product ys g)) (xor_comm top (product xs g)) ∙ xor_assoc (product xs g) top (product ys g)
    ∙ ap (λ x. bit_xor x (bit_xor top (product ys g))) (sym (xor_zero_l (product xs g)))

pub none : IsMultiple 0
unfolding product
none = record { quotient = []; whole = refl }

pub itself : IsMultiple generator
unfolding product
itself = record { quotient = true ∷ []; whole = refl }

pub twice : (p : ℕ) → IsMultiple p → IsMultiple (p * 2)
twice p m =
    record {
      quotient = m.quotient ++ false ∷ [];
      whole = sym (product_more m.quotient false generator
          ∙ xor_zero_r (product m.quotient generator * 2) ∙ ap (λ x. x * 2) (sym m.whole));
    }

-- the quotients, one of them with zeros in front
pub sum : (p r : ℕ) → IsMultiple p → IsMultiple r → IsMultiple (bit_xor p r)
sum p r m n =
    let q : List Bool = replicate (length n.quotient - length m.quotient) false ++ m.quotient
    in let s : List Bool = replicate (length m.quotient - length n.quotient) false ++ n.quotient
    in let same : length q ≡ length s =
    omega (
      arith,
      length-append (replicate (length n.quotient - length m.quotient) false) m.quotient,
      length-append (replicate (length m.quotient - length n.quotient) false) n.quotient,
      length-replicate (length n.quotient - length m.quotient) false,
      length-replicate (length m.quotient - length n.quotient) false,
    )
    in record {
      quotient = added q s;
      whole =
          ap (λ x. bit_xor x r) (m.whole ∙ sym (product_zeros (length n.quotient - length m.quotient) m.quotient generator))
          ∙ ap (λ x. bit_xor (product q generator) x) (n.whole
          ∙ sym (product_zeros (length m.quotient - length n.quotient) n.quotient generator))
          ∙ sym (product_added q s generator same);
    }
