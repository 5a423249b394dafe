-- A line that is passed over, and compared after what stands behind it.
use Rattle.std.proofs.Common.{◌≡◌, ℕ, suc, ◌+◌, ◌==◌, Bool, true, false, cond, List, [], ◌∷◌, ◌++◌, length, take, drop, Some, refl, sym, ap, ◌∙◌, subst, arith, append_assoc, length-append}
use Rattle.std.specs.Prelude.{position}
use Rattle.std.specs.List.{slice_get, list_all, position_or_len}
use Rattle.std.proofs.lemmas.Bool.{and_parts, false_from_ne_true}
use Rattle.std.proofs.lemmas.Bool.Decides.{nat_tests}
use Rattle.std.proofs.lemmas.List.{take-append-drop, length-take-le}
use Rattle.std.proofs.Math.Seq.{drop-append_seam, take-append_seam}
use Rattle.paper.specs.Puts.{Puts}
use Rattle.report_text.proofs.LineWalks.{IsWithout, differs}
use Rattle.audit_check_main.specs.Comparing.{Compared, IsSoFar, Compares, len_to, line_len, line_passed, settled}
use Rattle.audit_check_main.proofs.Compared.{get-append, get-take, skipped, puts_compare}

-- ---- the first line of a text

-- a line with its newline
pub record IsLine (line : List ℕ) : Type 0 where
  pub front : List ℕ
  pub is : line ≡ front ++ 10 ∷ []
  pub without : IsWithout 10 front

newline_place : (front rest : List ℕ) → list_all (differs 10) front ≡ true
    → position_or_len (λ b. b == 10) (front ++ 10 ∷ rest) ≡ length front
newline_place [] rest h = refl
newline_place (x ∷ front) rest h =
    let one = and_parts _ _ h in
    let more = newline_place front rest one.1 in
    ap (λ b. cond b (1 + position_or_len (λ (y : ℕ). y == 10) (front ++ 10 ∷ rest)) 0) one.0
    ∙ (let e : 1 + position_or_len (λ (y : ℕ). y == 10) (front ++ 10 ∷ rest) ≡ suc (length front) = omega arith in e)

-- the first line of a text that begins with this one
line_there : (text line rest : List ℕ) → IsLine line → text ≡ line ++ rest → line_len text ≡ length line
line_there text line rest h is =
    let whole : text ≡ h.front ++ 10 ∷ rest = is ∙ (ap (λ l. l ++ rest) h.is ∙ append_assoc h.front (10 ∷ []) rest) in
    let found : position (λ b. b == 10) (h.front ++ 10 ∷ rest) ≡ Some (length h.front) =
    let l = length-append h.front (10 ∷ rest) in rw (newline_place h.front rest h.without.passed) (grind (arith, nat_tests)) in
    ap line_len whole ∙ (ap (len_to (h.front ++ 10 ∷ rest)) found
    ∙ (let l = ap length h.is ∙ length-append h.front (10 ∷ []) in let e : length h.front + 1 ≡ length line = omega arith in e))

-- ---- what a line leaves

-- what doesn't differ now didn't differ before
not_before : (p r : Compared) (put line : List ℕ) → r.text ≡ p.text → IsSoFar p put → IsSoFar r (put ++ line) → r.differs ≡ false
    → p.differs ≡ false
not_before p r put line text so later off = false_from_ne_true p.differs (λ on.
    let inside = so.inside on in
    let whole = later.same off in
    let long = sym (length-append put line) ∙ (ap length whole ∙ length-take-le r.place r.text later.within) in
    so.other on (ap (λ t. slice_get t p.place) (sym text) ∙ (sym (get-take r.text p.place r.place (omega arith))
    ∙ (ap (λ t. slice_get t p.place) (sym whole) ∙ get-append put line p.place inside))))

-- ---- the line and what stands behind it

-- the line differs, and so the whole does
line_differs : (p r : Compared) (line body : List ℕ) → Compares p line r → r.differs ≡ true → Compares p (line ++ body) r
line_differs p r line body one on = record {
  same_text = one.same_text;
  goes_on = λ put so. subst (IsSoFar r) (append_assoc put line body) ((skipped r body on).goes_on (put ++ line) (one.goes_on put so));
}

-- the line is the text's, and so it was right to pass over that
passed_right : (p r : Compared) (line put : List ℕ) → IsLine line → Compares p line r → r.differs ≡ false → IsSoFar p put
    → IsSoFar (line_passed p) (put ++ line)
passed_right p r line put h one off so =
    let later = one.goes_on put so in
    let before = not_before p r put line one.same_text so later off in
    let long : length put ≡ p.place = ap length (so.same before) ∙ length-take-le p.place p.text so.within in
    let rest = drop r.place p.text in
    let whole : p.text ≡ put ++ line ++ rest =
    sym (take-append-drop r.place p.text) ∙ ap (λ l. l ++ rest) (ap (take r.place) (sym one.same_text) ∙ sym (later.same off)) in
    let behind : drop p.place p.text ≡ line ++ rest =
    (λ i. drop (sym long i) (whole i)) ∙ (ap (drop (length put)) (append_assoc put line rest) ∙ drop-append_seam put (line ++ rest)) in
    let len : line_len (drop p.place p.text) ≡ length line = line_there (drop p.place p.text) line rest h behind in
    let both = length-append put line in
    let all = ap length whole ∙ length-append (put ++ line) rest in
    let place : p.place + line_len (drop p.place p.text) ≡ length (put ++ line) = omega arith in
    record {
      within = omega arith;
      same = λ e. sym ((λ i. take (place i) (whole i)) ∙ take-append_seam (put ++ line) rest);
      front = λ e. absurd cc;
      inside = λ e. absurd cc;
      other = λ e. absurd cc;
    }

line_agrees : (p r q s : Compared) (line body : List ℕ) → IsLine line → Compares p line r → r.differs ≡ false → q ≡ line_passed p
    → Compares q body s → Compares p (line ++ body) s
line_agrees p r q s line body h one off passed two = record {
  same_text = two.same_text ∙ ap (λ (c : Compared). c.text) passed;
  goes_on = λ put so. subst (IsSoFar s) (append_assoc put line body) (two.goes_on (put ++ line)
      (subst (λ c. IsSoFar c (put ++ line)) (sym passed) (passed_right p r line put h one off so)));
}

-- A line that was passed over is put on a paper of its own, and what stands behind it on the first one: what the two come to is what the
-- text is beside the whole.
pub compared_later : (p q r s t : Compared) (line body : List ℕ) → IsLine line → q ≡ line_passed p → Puts Compares p line r
    → Puts Compares q body s → t ≡ settled r s → Compares p (line ++ body) t
compared_later p q r s t line body h passed one two is = subst (Compares p (line ++ body)) (sym is) (at r.differs refl)
  where
    at : (b : Bool) → r.differs ≡ b → Compares p (line ++ body) (cond b r s)
    at true on = line_differs p r line body (puts_compare p r line one) on
    at false off = line_agrees p r q s line body h (puts_compare p r line one) off passed (puts_compare q s body two)
