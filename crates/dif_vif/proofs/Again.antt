-- What is spelled so is read, whatever follows it.
use Rattle.std.proofs.Common.{⊎_elim, ◌≡◌, ℕ, zero, suc, ◌%◌, ◌≤◌, true, false, eqb, ltb, List, [], ◌∷◌, ◌++◌, length, Option, Some, None, Ok, is_some, refl, sym, ap, ◌∙◌, append_assoc, add-one, arith, unwrap_or, option_to_list, take_at, drop_at, length-append}
use Rattle.std.proofs.lemmas.Bool.{le-ltb, eq-eqb, ne_eqb, cond-false}
use Rattle.dif_vif.specs.Spelling.{Dib, Vib, DataRecord, IsChain, IsPlainText, IsRecord, field_width, lvar_width, data_width, dib_spelling, vib_spelling, contents_spelling, spelling}
use Rattle.dif_vif.specs.Stops.{IsDib, IsVib}
use Rattle.dif_vif.specs.Reading.{byte_at, bytes_at, chain_len, chain_at, dif_at, dib_at, text_at, vib_at, lvar_at, contents_at, record_at}
use Rattle.dif_vif.proofs.Chains.{chain_done, chain_more}
use Rattle.lists.proofs.Choices.{chosen}

pub byte_again : (start byte : ℕ) (rest : List ℕ) → byte_at start (byte ∷ rest) ≡ Ok (byte, rest)
unfolding byte_at
byte_again start byte rest = refl

bytes_again : (start count : ℕ) (part rest : List ℕ) → length part ≡ count → bytes_at start count (part ++ rest) ≡ Ok (part, rest)
unfolding bytes_at
bytes_again start count part rest len =
    let long : ltb (length (part ++ rest)) count ≡ false = le-ltb _ _ (omega (arith, length-append part rest)) in
    rw (long, take_at part rest count len, drop_at part rest count len) refl

-- ---- extensions

chain_len_again : (start room byte : ℕ) (part rest : List ℕ) → IsChain byte part → length part ≤ room
    → chain_len start room byte (part ++ rest) ≡ Ok (length part)
chain_len_again start room byte [] rest chain few = chain_done start room byte rest chain
chain_len_again start zero byte (next ∷ part) rest chain few = absurd (omega arith)
chain_len_again start (suc room) byte (next ∷ part) rest chain few =
    let others = chain_len_again start room next part rest chain.1 (omega arith) in
    chain_more start room byte next (part ++ rest) chain.0 ∙ rw others (ap Ok (add-one (length part)))

chain_again : (start byte : ℕ) (part rest : List ℕ) → IsChain byte part → length part ≤ 10
    → chain_at start byte (part ++ rest) ≡ Ok (part, rest)
unfolding chain_at
chain_again start byte part rest chain few =
    rw (chain_len_again start 10 byte part rest chain few, take_at part rest (length part) refl, drop_at part rest (length part) refl) refl

-- ---- the data information block

-- the DIF of a record has no data field without a width but D
not_field : (dif : ℕ) (lvar : Option ℕ) (width field : ℕ) → data_width dif lvar ≡ Some width → field_width field ≡ None → (field ≡ 13 → ⊥)
    → dif % 16 ≡ field → ⊥
not_field dif None width field wide without other here = let none : None ≡ Some width = sym without ∙ ap field_width (sym here) ∙ wide in cc
not_field dif (Some lvar) width field wide without other here =
    let none : None ≡ Some width =
    sym (cond-false (eqb (dif % 16) 13) (lvar_width lvar) None (ne_eqb (dif % 16) 13 (λ e. other (sym here ∙ e)))) ∙ wide in cc

-- so it is no special function
pub not_special : (dif : ℕ) (lvar : Option ℕ) (width : ℕ) → data_width dif lvar ≡ Some width → dif % 16 ≡ 15 → ⊥
not_special dif lvar width wide = not_field dif lvar width 15 wide refl (λ e. omega arith)

-- and no selection
not_selection : (dif : ℕ) (lvar : Option ℕ) (width : ℕ) → data_width dif lvar ≡ Some width → dif % 16 ≡ 8 → ⊥
not_selection dif lvar width wide = not_field dif lvar width 8 wide refl (λ e. omega arith)

dif_again : (start dif : ℕ) (rest : List ℕ) → (dif % 16 ≡ 15 → ⊥) → (dif % 16 ≡ 8 → ⊥) → dif_at start (dif ∷ rest) ≡ Ok (dif, rest)
unfolding dif_at
dif_again start dif rest not_15 not_8 =
    rw (byte_again start dif rest, ne_eqb (dif % 16) 15 not_15, ne_eqb (dif % 16) 8 not_8) refl

pub dib_again : (start : ℕ) (b : Dib) (rest : List ℕ) → IsDib b → dib_at start (dib_spelling b ++ rest) ≡ Ok (b, rest)
unfolding dib_at
dib_again start b rest is =
    rw (dif_again start b.dif (b.difes ++ rest) is.not_special is.not_selection, chain_again start b.dif b.difes rest is.difes is.few) refl

-- ---- the value information block

pub text_again : (start vif : ℕ) (text rest : List ℕ) → IsPlainText vif text → text_at start vif (text ++ rest) ≡ Ok (text, rest)
unfolding text_at
text_again start vif [] rest none = rw (ne_eqb (vif % 128) 0x7c none) refl
text_again start vif (count ∷ letters) rest some =
    rw (eq-eqb (vif % 128) 0x7c some.0, byte_again start count (letters ++ rest), bytes_again start count letters rest some.1) refl

pub vib_again : (start : ℕ) (v : Vib) (rest : List ℕ) → IsVib v → vib_at start (vib_spelling v ++ rest) ≡ Ok (v, rest)
unfolding vib_at
vib_again start v rest is =
    let regrouped : vib_spelling v ++ rest ≡ v.vif ∷ (v.text ++ (v.vifes ++ rest)) =
    ap (λ (x : List ℕ). v.vif ∷ x) (append_assoc v.text v.vifes rest) in
    ap (vib_at start) regrouped
    ∙ rw (
      byte_again start v.vif (v.text ++ (v.vifes ++ rest)),
      text_again start v.vif v.text (v.vifes ++ rest) is.text,
      chain_again start v.vif v.vifes rest is.vifes is.few,
    ) refl

-- ---- the data

pub lvar_again : (start dif : ℕ) (lvar : Option ℕ) (width : ℕ) (rest : List ℕ) → data_width dif lvar ≡ Some width
    → lvar_at start dif (option_to_list lvar ++ rest) ≡ Ok (lvar, rest)
unfolding lvar_at
lvar_again start dif None width rest wide =
    let not_13 : dif % 16 ≡ 13 → ⊥ = λ field. (let none : field_width 13 ≡ Some width = ap field_width (sym field) ∙ wide in cc) in
    rw (ne_eqb (dif % 16) 13 not_13) refl
lvar_again start dif (Some lvar) width rest wide =
    ⊎_elim (λ h. let known : is_some (lvar_width lvar) ≡ true = ap is_some h.1 in rw (h.0, byte_again start lvar rest, known) refl)
    (λ h. absurd (let none = h.1 in cc)) (chosen (eqb (dif % 16) 13) (lvar_width lvar) None (Some width) wide)

contents_again : (start : ℕ) (r : DataRecord) (rest : List ℕ) → IsRecord r
    → contents_at start r.dib.dif (contents_spelling r.contents ++ rest) ≡ Ok (r.contents, rest)
unfolding contents_at
contents_again start r rest is =
    let regrouped : contents_spelling r.contents ++ rest ≡ option_to_list r.contents.lvar ++ (r.contents.sent ++ rest) =
    append_assoc (option_to_list r.contents.lvar) r.contents.sent rest in
    let width : length r.contents.sent ≡ unwrap_or (data_width r.dib.dif r.contents.lvar) 0 =
    ap (λ (o : Option ℕ). unwrap_or o 0) (sym is.sent) in
    ap (contents_at start r.dib.dif) regrouped
    ∙ rw (lvar_again start r.dib.dif r.contents.lvar _ (r.contents.sent ++ rest) is.sent, bytes_again start _ r.contents.sent rest width)
    refl

-- ---- the record

-- the blocks of a record are whole
dib_of_record : (r : DataRecord) → IsRecord r → IsDib r.dib
dib_of_record r is =
    record {
      not_special = not_special r.dib.dif r.contents.lvar _ is.sent;
      not_selection = not_selection r.dib.dif r.contents.lvar _ is.sent;
      difes = is.difes;
      few = is.few_difes;
    }

vib_of_record : (r : DataRecord) → IsRecord r → IsVib r.vib
vib_of_record r is = record { text = is.text; vifes = is.vifes; few = is.few_vifes }

pub record_again : (start : ℕ) (r : DataRecord) (rest : List ℕ) → IsRecord r → record_at start (spelling r ++ rest) ≡ Ok (r, rest)
unfolding record_at
record_again start r rest is =
    let regrouped : spelling r ++ rest ≡ dib_spelling r.dib ++ (vib_spelling r.vib ++ (contents_spelling r.contents ++ rest)) =
    append_assoc (dib_spelling r.dib) (vib_spelling r.vib ++ contents_spelling r.contents) rest
    ∙ ap (λ (x : List ℕ). dib_spelling r.dib ++ x) (append_assoc (vib_spelling r.vib) (contents_spelling r.contents) rest) in
    ap (record_at start) regrouped
    ∙ rw (
      dib_again start r.dib (vib_spelling r.vib ++ (contents_spelling r.contents ++ rest)) (dib_of_record r is),
      vib_again start r.vib (contents_spelling r.contents ++ rest) (vib_of_record r is),
      contents_again start r rest is,
    ) refl
