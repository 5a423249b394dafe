-- What is read is spelled so, and what is spelled so is read.
use Rattle.std.proofs.Common.{◌≡◌, ℕ, zero, suc, ◌+◌, ◌<◌, ◌≤◌, Bool, false, cond, not, eqb, ltb, List, [], ◌∷◌, ◌++◌, length, take, drop, Some, is_some, Result, Ok, Err, refl, sym, ap, subst, ◌∙◌, eq-eqb, append_assoc, arith}
use Rattle.std.specs.Prelude.{IfOk, slice_get}
use Rattle.std.specs.Int.{w16, w32, to_le_bytes, from_le_bytes}
use Rattle.std.proofs.lemmas.Bool.{eqb-true, ltb-false, le-ltb}
use Rattle.std.proofs.lemmas.List.{take_at, drop_at, take-append-drop, length-append, length-drop}
use Rattle.std.proofs.lemmas.Nat.{le_bytes_2, from_le_bytes-to_le_bytes_2}
use Rattle.lists.proofs.Choices.{guard_ok, not_false}
use Rattle.afl_layer.specs.declared.header.Afl.{Afl}
use Rattle.afl_layer.specs.declared.header.AflFault.{AflFault}
use Rattle.afl_layer.specs.declared.header.AflFault.TheVariants.{Truncated, AflLength, FieldPlace, FidZero}
use Rattle.afl_layer.specs.Fields.{has_more, names_mcl, names_ki, names_mcr, names_mac, names_ml, fid_of, where_so, fields_len, field_bytes, fields_bytes, one_byte, is_misplaced, is_uncounted}
use Rattle.afl_layer.specs.Header.{afl_bytes, Says, Fits, BeginsWithAfl, byte_in, two_in, four_in, all_in, fields_at, misplaces, uncounts, afl_at}
use Rattle.afl_layer.proofs.FieldLaws.{IsBytes, IsBytes-drop, itself, one_is, two_is, four_is, eight_is, length-one, length-two, length-four, length-eight, one_again, two_again, four_again, eight_again}

-- ---- the fields behind one another

-- five parts, one behind the other
abbrev five : List ℕ → List ℕ → List ℕ → List ℕ → List ℕ → List ℕ
five a b c d e = a ++ (b ++ (c ++ (d ++ e)))

five_same : (a b c d e u v x y z : List ℕ) → a ≡ u → b ≡ v → c ≡ x → d ≡ y → e ≡ z → five a b c d e ≡ five u v x y z
five_same a b c d e u v x y z p q r s t = cc

five_front : (a b c d e after : List ℕ) → five a b c d e ++ after ≡ a ++ (b ++ (c ++ (d ++ (e ++ after))))
five_front a b c d e after = simp append_assoc

length-five : (a b c d e : List ℕ) → length (five a b c d e) ≡ length a + (length b + (length c + (length d + length e)))
length-five a b c d e =
    omega (arith, length-append a (b ++ (c ++ (d ++ e))), length-append b (c ++ (d ++ e)), length-append c (d ++ e), length-append d e)

-- a list that is cut into five parts and the rest
cut_in_five : (bytes : List ℕ) (m k r c l : ℕ)
    → bytes ≡ five (take m bytes) (take k (drop m bytes)) (take r (drop k (drop m bytes))) (take c (drop r (drop k (drop m bytes))))
    (take l (drop c (drop r (drop k (drop m bytes))))) ++ drop l (drop c (drop r (drop k (drop m bytes))))
cut_in_five bytes m k r c l =
    let after_m : List ℕ = drop m bytes in
    let after_k : List ℕ = drop k after_m in
    let after_r : List ℕ = drop r after_k in
    let after_c : List ℕ = drop c after_r in
    let front = five_front (take m bytes) (take k after_m) (take r after_k) (take c after_r) (take l after_c) (drop l after_c) in
    sym (front
    ∙ rw (
      take-append-drop l after_c,
      take-append-drop c after_r,
      take-append-drop r after_k,
      take-append-drop k after_m,
      take-append-drop m bytes,
    ) refl)

pub length-fields_bytes : (fcl : ℕ) (a : Afl) → Says fcl a → Fits a → length (fields_bytes a) ≡ fields_len fcl
unfolding fields_len
length-fields_bytes fcl a says fits =
    let mcl = length-one a.mcl ∙ ap (λ (b : Bool). where_so b 1) says.mcl in
    let ki = length-two a.ki ∙ ap (λ (b : Bool). where_so b 2) says.ki in
    let mcr = length-four a.mcr ∙ ap (λ (b : Bool). where_so b 4) says.mcr in
    let mac = length-eight a.mac fits.mac ∙ ap (λ (b : Bool). where_so b 8) says.mac in
    let ml = length-two a.ml ∙ ap (λ (b : Bool). where_so b 2) says.ml in
    length-five (field_bytes one_byte a.mcl) (field_bytes (to_le_bytes w16) a.ki) (field_bytes (to_le_bytes w32) a.mcr)
    (field_bytes itself a.mac) (field_bytes (to_le_bytes w16) a.ml)
    ∙ rw (mcl, ki, mcr, mac, ml) refl

-- the fields that are read are spelled so
pub record TakesFields (fcl : ℕ) (bytes : List ℕ) (a : Afl) : Type 0 where
  pub rest : List ℕ
  pub parts : bytes ≡ fields_bytes a ++ rest
  pub len : length (fields_bytes a) ≡ fields_len fcl
  pub says : Says fcl a
  pub fits : Fits a

fields_take : (fcl : ℕ) (bytes : List ℕ) → IsBytes bytes → fields_len fcl ≤ length bytes → TakesFields fcl bytes (fields_at fcl bytes)
unfolding fields_at fields_len
fields_take fcl bytes fits enough =
    let m : ℕ = where_so (names_mcl fcl) 1 in
    let k : ℕ = where_so (names_ki fcl) 2 in
    let r : ℕ = where_so (names_mcr fcl) 4 in
    let c : ℕ = where_so (names_mac fcl) 8 in
    let l : ℕ = where_so (names_ml fcl) 2 in
    let after_mcl : List ℕ = drop m bytes in
    let after_ki : List ℕ = drop k after_mcl in
    let after_mcr : List ℕ = drop r after_ki in
    let after_mac : List ℕ = drop c after_mcr in
    let left_mcl = length-drop m bytes in
    let left_ki = length-drop k after_mcl in
    let left_mcr = length-drop r after_ki in
    let left_mac = length-drop c after_mcr in
    let fits_ki = IsBytes-drop m bytes fits in
    let fits_mcr = IsBytes-drop k after_mcl fits_ki in
    let fits_mac = IsBytes-drop r after_ki fits_mcr in
    let fits_ml = IsBytes-drop c after_mcr fits_mac in
    let mcl = one_is (names_mcl fcl) bytes (omega arith) in
    let ki = two_is (names_ki fcl) after_mcl fits_ki (omega arith) in
    let mcr = four_is (names_mcr fcl) after_ki fits_mcr (omega arith) in
    let mac = eight_is (names_mac fcl) after_mcr (omega arith) in
    let ml = two_is (names_ml fcl) after_mac fits_ml (omega arith) in
    let text = five_same _ _ _ _ _ _ _ _ _ _ mcl.text_is ki.0.text_is mcr.0.text_is mac.0.text_is ml.0.text_is in
    let says : Says fcl (fields_at fcl bytes) = record {
      more = refl;
      fid = refl;
      mcl = mcl.named_is;
      ki = ki.0.named_is;
      mcr = mcr.0.named_is;
      mac = mac.0.named_is;
      ml = ml.0.named_is;
    } in
    let filled : Fits (fields_at fcl bytes) = record { fid = omega arith; ki = ki.1; mcr = mcr.1; mac = mac.1; ml = ml.1 } in
    record {
      rest = drop l after_mac;
      parts = cut_in_five bytes m k r c l ∙ ap (λ (x : List ℕ). x ++ drop l after_mac) (sym text);
      len = length-fields_bytes fcl (fields_at fcl bytes) says filled;
      says = says;
      fits = filled;
    }

-- ---- what is read is spelled so

pub two_bytes : (low high : ℕ) → low < 256 → high < 256 → IsBytes (low ∷ high ∷ [])
two_bytes low high l h zero = l
two_bytes low high l h (suc zero) = h
two_bytes low high l h (suc (suc i)) = omega arith

-- FCL's places are those of the header that it says
places_are : (fcl : ℕ) (a : Afl) → Says fcl a
    → (misplaces fcl ≡ is_misplaced a.more a.fid (is_some a.mcl) (is_some a.ki) (is_some a.mcr) (is_some a.mac) (is_some a.ml))
    × (uncounts fcl ≡ is_uncounted a.more a.fid)
unfolding misplaces uncounts
places_are fcl a says =
    (rw (says.more, says.fid, says.mcl, says.ki, says.mcr, says.mac, says.ml) refl, rw (says.more, says.fid) refl)

len_is : (fcl : ℕ) (rest : List ℕ) → length (fields_bytes (fields_at fcl rest)) ≡ fields_len fcl
    → (fields_at fcl rest).len ≡ length (afl_bytes fcl (fields_at fcl rest))
unfolding fields_at
len_is fcl rest len = omega (arith, len)

takes_at : (ci said low high : ℕ) (rest : List ℕ) (a : Afl) → ci ≡ 0x90 → IsBytes (ci ∷ said ∷ low ∷ high ∷ rest)
    → afl_at (ci ∷ said ∷ low ∷ high ∷ rest) ≡ Ok a
    → BeginsWithAfl (ci ∷ said ∷ low ∷ high ∷ rest) a
unfolding afl_at
takes_at ci said low high rest a is_afl fits e =
    let fcl : ℕ = from_le_bytes w16 (low ∷ high ∷ []) in
    let counted = guard_ok (not (eqb said (2 + fields_len fcl))) _ _ a e in
    let enough = guard_ok (ltb (length rest) (fields_len fcl)) _ _ a counted.1 in
    let placed = guard_ok (misplaces fcl) _ _ a enough.1 in
    let numbered = guard_ok (uncounts fcl) _ _ a placed.1 in
    let same : fields_at fcl rest ≡ a = cc numbered.1 in
    let fields = fields_take fcl rest (λ i. fits (suc (suc (suc (suc i))))) (ltb-false _ _ enough.0) in
    let word = le_bytes_2 (low ∷ high ∷ []) fcl refl (two_bytes low high (fits 2) (fits 3)) refl in
    let said_is : said ≡ 2 + length (fields_bytes (fields_at fcl rest)) =
    eqb-true _ _ (not_false _ counted.0) ∙ ap (λ (n : ℕ). 2 + n) (sym fields.len) in
    let text : List ℕ = fields_bytes (fields_at fcl rest) in
    let places = places_are fcl (fields_at fcl rest) fields.says in
    let made : BeginsWithAfl (ci ∷ said ∷ low ∷ high ∷ rest) (fields_at fcl rest) = record {
      fcl = fcl;
      rest = fields.rest;
      word = omega (arith, fits 2, fits 3);
      parts = ap (λ (x : List ℕ). ci ∷ said ∷ low ∷ high ∷ x) fields.parts
          ∙ ap (λ (x : ℕ). x ∷ said ∷ low ∷ high ∷ (text ++ fields.rest)) is_afl
          ∙ ap (λ (x : ℕ). 0x90 ∷ x ∷ low ∷ high ∷ (text ++ fields.rest)) said_is
          ∙ ap (λ (x : List ℕ). 0x90 ∷ (2 + length text) ∷ ((x ++ text) ++ fields.rest)) (sym word);
      says = fields.says;
      fits = fields.fits;
      placed = record { fields = sym places.0 ∙ placed.0; fid = sym places.1 ∙ numbered.0 };
      len = len_is fcl rest fields.len;
    } in
    subst (BeginsWithAfl (ci ∷ said ∷ low ∷ high ∷ rest)) same made

pub takes : (bytes : List ℕ) (a : Afl) → slice_get bytes 0 ≡ Some 0x90 → IsBytes bytes → afl_at bytes ≡ Ok a → BeginsWithAfl bytes a
unfolding afl_at
takes (b ∷ c ∷ d ∷ f ∷ rest) a ci fits e = let is_afl : b ≡ 0x90 = cc in takes_at b c d f rest a is_afl fits e
takes bytes a ci fits e = absurd cc

-- ---- what is spelled so is read

-- what the bytes behind the CI are read as, by AFLL and FCL
unfoldable pub judged : ℕ → ℕ → List ℕ → Result Afl AflFault
judged said fcl rest =
    cond (not (eqb said (2 + fields_len fcl))) (Err (AflLength said (2 + fields_len fcl)))
    (cond (ltb (length rest) (fields_len fcl)) (Err (Truncated (4 + length rest)))
    (cond (misplaces fcl) (Err (FieldPlace fcl))
    (cond (uncounts fcl) (Err FidZero) (Ok (fields_at fcl rest)))))

judged_ok : (said fcl : ℕ) (rest : List ℕ) → said ≡ 2 + fields_len fcl → fields_len fcl ≤ length rest → misplaces fcl ≡ false
    → uncounts fcl ≡ false
    → judged said fcl rest ≡ Ok (fields_at fcl rest)
unfolding judged
judged_ok said fcl rest counted enough placed numbered =
    rw (eq-eqb said (2 + fields_len fcl) counted, le-ltb (length rest) (fields_len fcl) enough, placed, numbered) refl

pub word_at : (ci said low high fcl : ℕ) (rest : List ℕ) → from_le_bytes w16 (low ∷ high ∷ []) ≡ fcl
    → afl_at (ci ∷ said ∷ low ∷ high ∷ rest) ≡ judged said fcl rest
unfolding afl_at judged
word_at ci said low high fcl rest word = ap (λ (n : ℕ). judged said n rest) word

-- the fields of these lengths are those in front
fields_at_is : (fcl : ℕ) (a b c d e rest : List ℕ) → length a ≡ where_so (names_mcl fcl) 1 → length b ≡ where_so (names_ki fcl) 2
    → length c ≡ where_so (names_mcr fcl) 4
    → length d ≡ where_so (names_mac fcl) 8 → length e ≡ where_so (names_ml fcl) 2
    → fields_at fcl (a ++ (b ++ (c ++ (d ++ (e ++ rest))))) ≡ record {
      more = has_more fcl;
      fid = fid_of fcl;
      mcl = byte_in a;
      ki = two_in b;
      mcr = four_in c;
      mac = all_in d;
      ml = two_in e;
      len = 4 + fields_len fcl;
    }
unfolding fields_at
fields_at_is fcl a b c d e rest la lb lc ld le =
    let ra : List ℕ = b ++ (c ++ (d ++ (e ++ rest))) in
    let rb : List ℕ = c ++ (d ++ (e ++ rest)) in
    let rc : List ℕ = d ++ (e ++ rest) in
    let rd : List ℕ = e ++ rest in
    rw (
      drop_at a ra (where_so (names_mcl fcl) 1) la,
      drop_at b rb (where_so (names_ki fcl) 2) lb,
      drop_at c rc (where_so (names_mcr fcl) 4) lc,
      drop_at d rd (where_so (names_mac fcl) 8) ld,
      take_at a ra (where_so (names_mcl fcl) 1) la,
      take_at b rb (where_so (names_ki fcl) 2) lb,
      take_at c rc (where_so (names_mcr fcl) 4) lc,
      take_at d rd (where_so (names_mac fcl) 8) ld,
      take_at e rest (where_so (names_ml fcl) 2) le,
    )
    refl

again_fields : (fcl : ℕ) (a : Afl) (rest : List ℕ) → Says fcl a → Fits a → a.len ≡ 4 + fields_len fcl
    → fields_at fcl (fields_bytes a ++ rest) ≡ a
again_fields fcl a rest says fits len =
    ap (fields_at fcl) (five_front (field_bytes one_byte a.mcl) (field_bytes (to_le_bytes w16) a.ki) (field_bytes (to_le_bytes w32) a.mcr)
    (field_bytes itself a.mac) (field_bytes (to_le_bytes w16) a.ml) rest)
    ∙ fields_at_is fcl _ _ _ _ _ rest
    (length-one a.mcl ∙ ap (λ (b : Bool). where_so b 1) says.mcl)
    (length-two a.ki ∙ ap (λ (b : Bool). where_so b 2) says.ki)
    (length-four a.mcr ∙ ap (λ (b : Bool). where_so b 4) says.mcr)
    (length-eight a.mac fits.mac ∙ ap (λ (b : Bool). where_so b 8) says.mac)
    (length-two a.ml ∙ ap (λ (b : Bool). where_so b 2) says.ml)
    ∙ rw (
      one_again a.mcl,
      two_again a.ki fits.ki,
      four_again a.mcr fits.mcr,
      eight_again a.mac fits.mac,
      two_again a.ml fits.ml,
      ← says.more,
      ← says.fid,
      ← len,
    ) refl

-- a spelt header is read, whatever follows it
pub again : (bytes : List ℕ) (a : Afl) → BeginsWithAfl bytes a → afl_at bytes ≡ Ok a
again bytes a h =
    let len = length-fields_bytes h.fcl a h.says h.fits in
    let places = places_are h.fcl a h.says in
    let whole : length (afl_bytes h.fcl a) ≡ 4 + length (fields_bytes a) = omega arith in
    ap afl_at h.parts
    ∙ word_at 0x90 (2 + length (fields_bytes a)) _ _ h.fcl (fields_bytes a ++ h.rest) (from_le_bytes-to_le_bytes_2 h.fcl h.word)
    ∙ judged_ok (2 + length (fields_bytes a)) h.fcl (fields_bytes a ++ h.rest) (ap (λ (n : ℕ). 2 + n) len)
    (omega (arith, len, length-append (fields_bytes a) h.rest)) (places.0 ∙ h.placed.fields) (places.1 ∙ h.placed.fid)
    ∙ ap (λ (x : Afl). let r : Result Afl AflFault = Ok x in r) (again_fields h.fcl a h.rest h.says h.fits (h.len ∙ whole
    ∙ ap (λ (n : ℕ). 4 + n) len))

pub is_only : (bytes : List ℕ) (r : Result Afl AflFault) → r ≡ afl_at bytes → (a : Afl) → BeginsWithAfl bytes a → r ≡ Ok a
is_only bytes r h a begins = h ∙ again bytes a begins

pub is_found : (bytes : List ℕ) (r : Result Afl AflFault) → slice_get bytes 0 ≡ Some 0x90 → IsBytes bytes → r ≡ afl_at bytes
    → IfOk r (λ a. BeginsWithAfl bytes a)
is_found bytes (Ok a) ci fits h = takes bytes a ci fits (sym h)
is_found bytes (Err f) ci fits h = tt
