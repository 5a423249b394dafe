-- The blocks of a record with an LVAR are those of the same record without data.
use Rattle.std.proofs.Common.{⊎_elim, ◌≡◌, ℕ, zero, suc, ◌+◌, ◌-◌, ◌*◌, ◌/◌, ◌%◌, ◌<◌, ◌≤◌, All, List, [], ◌∷◌, ◌++◌, length, take, drop, get_or, Option, Some, None, Ok, refl, sym, ap, subst, ◌∙◌, inl, inr, append_assoc, append-nil, arith, length-append, min, take_at}
use Rattle.std.proofs.lemmas.List.{get_or-append-add}
use Rattle.std.proofs.lemmas.List.Elements.{All-get_or}
use Rattle.std.proofs.lemmas.Bool.{cases_lt}
use Rattle.std.proofs.lemmas.List.{length-take-le, take_all}
use Rattle.std.proofs.Math.Seq.{take-append-add, take-length}
use Rattle.dif_vif.specs.Spelling.{Dib, Vib, DataRecord, IsChain, IsPlainText, IsRecord, field_width, dib_spelling, vib_spelling, spelling}
use Rattle.dif_vif.specs.Spans.{span_of, AreFillers, IsSpanOf}
use Rattle.dif_vif.specs.Stops.{IsDib, IsVib, HasUnusedLvar}
use Rattle.dif_vif.specs.Reading.{next_of}
use Rattle.dif_vif.proofs.Spans.{next_only}
use Rattle.full_spans.specs.Walk.{bare}

-- the record without data
abbrev pub bare_record : Dib → Vib → DataRecord
bare_record b v =
    record {
      dib = record { dif = b.dif / 16 * 16; difes = b.difes };
      vib = v;
      contents = record { lvar = None; sent = [] };
    }

bare_chain : (dif : ℕ) (difes : List ℕ) → IsChain dif difes → IsChain (dif / 16 * 16) difes
bare_chain dif [] chain = omega (arith, chain)
bare_chain dif (next ∷ others) chain = (omega (arith, chain.0), chain.1)

no_data : (dif : ℕ) → field_width (dif / 16 * 16 % 16) ≡ Some 0
no_data dif = let none : dif / 16 * 16 % 16 ≡ 0 = omega arith in ap field_width none

is_bare : (b : Dib) (v : Vib) → IsDib b → IsVib v → IsRecord (bare_record b v)
is_bare b v is_b is_v =
    record {
      difes = bare_chain b.dif b.difes is_b.difes;
      few_difes = is_b.few;
      text = is_v.text;
      vifes = is_v.vifes;
      few_vifes = is_v.few;
      sent = no_data b.dif;
    }

-- behind the spelling of its blocks stands what stands there
bare_spelled : (b : Dib) (v : Vib) (rest : List ℕ)
    → bare b.dif (b.difes ++ (vib_spelling v ++ rest)) ≡ spelling (bare_record b v) ++ rest
bare_spelled b v rest =
    let nothing : vib_spelling v ++ [] ≡ vib_spelling v = append-nil (vib_spelling v) in
    ap (λ (r : List ℕ). b.dif / 16 * 16 ∷ r) (sym (append_assoc b.difes (vib_spelling v) rest)
    ∙ ap (λ (r : List ℕ). (b.difes ++ r) ++ rest) (sym nothing))

-- read by itself, with whatever stands behind it
pub bare_read : (b : Dib) (v : Vib) (bytes rest : List ℕ) → IsDib b → IsVib v → bytes ≡ spelling (bare_record b v) ++ rest
    → next_of bytes 0 ≡ Ok (Some (span_of 0 (bare_record b v)))
bare_read b v bytes rest is_b is_v spelled =
    next_only bytes 0 (Some (span_of 0 (bare_record b v))) (omega arith) (
      record { ordered = omega arith; within = omega arith; fillers = λ place low high. absurd (omega arith) },
      inl (record { found = bare_record b v; is_record = is_bare b v is_b is_v; rest = rest; spelled = spelled; places = refl }),
    )

-- ---- the blocks are short

short_text : (b : Dib) (v : Vib) (bytes rest : List ℕ) → bytes ≡ dib_spelling b ++ (vib_spelling v ++ rest) → All (λ (x : ℕ). x < 256) bytes
    → IsPlainText v.vif v.text → length v.text ≤ 256
short_text b v bytes rest spelled all text = by_text v.text refl text
  where
    by_text : (letters : List ℕ) → v.text ≡ letters → IsPlainText v.vif letters → length v.text ≤ 256
    by_text [] is plain = rw is (omega arith)
    by_text (count ∷ letters) is plain =
        let there : bytes ≡ dib_spelling b ++ v.vif ∷ count ∷ ((letters ++ v.vifes) ++ rest) =
        spelled ∙ ap (λ (t : List ℕ). dib_spelling b ++ ((v.vif ∷ (t ++ v.vifes)) ++ rest)) is in
        let len = ap length there in
        let more = length-append (dib_spelling b) (v.vif ∷ count ∷ ((letters ++ v.vifes) ++ rest)) in
        let here : get_or bytes (length (dib_spelling b) + 1) 0 ≡ count =
        ap (λ (r : List ℕ). get_or r (length (dib_spelling b) + 1) 0) there
        ∙ get_or-append-add (dib_spelling b) (v.vif ∷ count ∷ ((letters ++ v.vifes) ++ rest)) 1 0 in
        let small : get_or bytes (length (dib_spelling b) + 1) 0 < 256 =
        All-get_or (λ (x : ℕ). x < 256) bytes (length (dib_spelling b) + 1) 0 (omega (arith, len, more)) all in
        rw is (omega (arith, here, small, plain.1))

length-bare : (b : Dib) (v : Vib) → length (spelling (bare_record b v)) ≡ 2 + length b.difes + length v.text + length v.vifes
length-bare b v =
    omega (
      arith,
      length-append b.difes (vib_spelling v ++ []),
      length-append (vib_spelling v) [],
      length-append v.text v.vifes,
    )

-- so that the first 278 bytes have them
pub bare_front : (b : Dib) (v : Vib) (bytes rest : List ℕ) → bytes ≡ dib_spelling b ++ (vib_spelling v ++ rest)
    → All (λ (x : ℕ). x < 256) bytes → IsDib b → IsVib v
    → next_of (take 278 (bare b.dif (b.difes ++ (vib_spelling v ++ rest)))) 0 ≡ Ok (Some (span_of 0 (bare_record b v)))
bare_front b v bytes rest spelled all is_b is_v =
    let len = length (spelling (bare_record b v)) in
    let few : len ≤ 278 =
    omega (arith, length-bare b v, short_text b v bytes rest spelled all is_v.text, is_b.few, is_v.few) in
    let whole : 278 ≡ len + (278 - len) = omega (arith, few) in
    bare_read b v _ (take (278 - len) rest) is_b is_v
    (ap (take 278) (bare_spelled b v rest)
    ∙ ap (λ (n : ℕ). take n (spelling (bare_record b v) ++ rest)) whole
    ∙ take-append-add (spelling (bare_record b v)) rest (278 - len))

pub bare_whole : (b : Dib) (v : Vib) (rest : List ℕ) → IsDib b → IsVib v
    → next_of (bare b.dif (b.difes ++ (vib_spelling v ++ rest))) 0 ≡ Ok (Some (span_of 0 (bare_record b v)))
bare_whole b v rest is_b is_v = bare_read b v _ rest is_b is_v (bare_spelled b v rest)

-- the first 278 bytes are read as all of them are
pub same_read : (dif lvar : ℕ) (rest : List ℕ) → All (λ (x : ℕ). x < 256) (dif ∷ rest) → HasUnusedLvar (dif ∷ rest) lvar
    → next_of (take 278 (bare dif rest)) 0 ≡ next_of (bare dif rest) 0
same_read dif lvar rest all h =
    let behind : List ℕ = lvar ∷ h.rest in
    let first : dif ≡ h.dib.dif = ap (λ (xs : List ℕ). get_or xs 0 0) h.spelled in
    let others : rest ≡ h.dib.difes ++ (vib_spelling h.vib ++ behind) = ap (drop 1) h.spelled in
    let front = bare_front h.dib h.vib (dif ∷ rest) behind h.spelled all h.is_dib h.is_vib in
    let whole = bare_whole h.dib h.vib behind h.is_dib h.is_vib in
    rw (first, others) (front ∙ sym whole)

-- a byte, and the bytes that were copied behind it
pub copied_front : (byte count : ℕ) (rest copied tail : List ℕ) → count ≡ min (length rest) 277 → copied ≡ take count rest
    → take (1 + count) (byte ∷ (copied ++ tail)) ≡ take 278 (byte ∷ rest)
copied_front byte count rest copied tail few is =
    let len : length copied ≡ count = ap length is ∙ length-take-le count rest (omega (arith, few)) in
    let one : 1 + count ≡ suc count = omega arith in
    ap (λ (n : ℕ). take n (byte ∷ (copied ++ tail))) one
    ∙ ap (λ (r : List ℕ). byte ∷ r) (take_at copied tail count len ∙ is ∙ taken count rest few)
  where
    taken : (count : ℕ) (rest : List ℕ) → count ≡ min (length rest) 277 → take count rest ≡ take 277 rest
    taken count rest few =
        ⊎_elim (λ lt. let all : count ≡ length rest = omega (arith, few, lt) in
        ap (λ (n : ℕ). take n rest) all ∙ take-length rest ∙ sym (take_all 277 rest (omega (arith, lt))))
        (λ le. let most : count ≡ 277 = omega (arith, few, le) in ap (λ (n : ℕ). take n rest) most) (cases_lt (length rest) 277)
