-- Bytes that are written behind others.
use Rattle.std.proofs.Common.{◌≡◌, ℕ, ◌+◌, ◌-◌, ◌≤◌, List, drop, sym, ap, ◌∙◌, arith}
use Rattle.std.proofs.lemmas.List.{drop-drop}

further : (a b : ℕ) (x y : List ℕ) → a ≤ b → drop a y ≡ drop a x → drop b y ≡ drop b x
further a b x y h e =
    let n : ℕ = b - a in
    let far : a + n ≡ b = omega arith in
    ap (λ (k : ℕ). drop k y) (sym far) ∙ sym (drop-drop n a y) ∙ ap (drop n) e ∙ drop-drop n a x ∙ ap (λ (k : ℕ). drop k x) far

-- what stands behind the second part stood behind the first
pub behind_both : (a b : ℕ) (x y z : List ℕ) → a ≤ b → drop a y ≡ drop a x → drop b z ≡ drop b y → drop b z ≡ drop b x
behind_both a b x y z h first second = second ∙ further a b x y h first
