-- Where a cause stands, its fault is told.
use Rattle.std.proofs.Common.{◌≡◌, ℕ, zero, suc, ◌%◌, ◌<◌, ◌≤◌, true, false, ltb, List, [], ◌∷◌, ◌++◌, length, Option, Some, None, Err, is_some, refl, sym, ap, ◌∙◌, append_assoc, arith, unwrap_or, option_to_list, lt-ltb, eq-eqb, ne_eqb, append-nil}
use Rattle.dif_vif.specs.declared.fault.RecordFault.{RecordFault}
use Rattle.dif_vif.specs.declared.fault.RecordFault.TheVariants.{Truncated, TooManyExtensions, Lvar, Selection, Special}
use Rattle.dif_vif.specs.Spelling.{Dib, Vib, IsPlainText, lvar_width, data_width, dib_spelling, vib_spelling}
use Rattle.dif_vif.specs.Reading.{byte_at, bytes_at, chain_len, chain_at, dif_at, dib_at, text_at, vib_at, lvar_at, contents_at, record_at}
use Rattle.dif_vif.specs.Stops.{IsDib, IsVib, IsOpen, IsCut, no_dif, no_dife, no_vif, no_text, short_text, no_vife, no_lvar, short_data, HasEleventh, dife, vife, Stops}
use Rattle.dif_vif.proofs.Chains.{chain_missing, chain_full, chain_more}
use Rattle.dif_vif.proofs.Again.{byte_again, dib_again, text_again, vib_again, lvar_again}

-- ---- extensions

chain_open : (start room byte : ℕ) (bytes : List ℕ) → IsOpen byte bytes → length bytes ≤ room
    → chain_len start room byte bytes ≡ Err (Truncated start)
chain_open start room byte [] goes_on few = chain_missing start room byte goes_on
chain_open start zero byte (next ∷ rest) goes_on few = absurd (omega arith)
chain_open start (suc room) byte (next ∷ rest) goes_on few =
    let others = chain_open start room next rest goes_on.1 (omega arith) in
    chain_more start room byte next rest goes_on.0 ∙ rw others refl

chain_eleventh : (start room byte : ℕ) (part : List ℕ) (next : ℕ) (rest : List ℕ) → IsOpen byte part → length part ≡ room
    → chain_len start room byte (part ++ next ∷ rest) ≡ Err (TooManyExtensions start)
chain_eleventh start zero byte [] next rest goes_on full = chain_full start byte next rest goes_on
chain_eleventh start (suc room) byte [] next rest goes_on full = absurd (omega arith)
chain_eleventh start zero byte (p ∷ part) next rest goes_on full = absurd (omega arith)
chain_eleventh start (suc room) byte (p ∷ part) next rest goes_on full =
    let others = chain_eleventh start room p part next rest goes_on.1 (omega arith) in
    chain_more start room byte p (part ++ next ∷ rest) goes_on.0 ∙ rw others refl

chain_at_open : (start byte : ℕ) (bytes : List ℕ) → IsOpen byte bytes → length bytes ≤ 10
    → chain_at start byte bytes ≡ Err (Truncated start)
unfolding chain_at
chain_at_open start byte bytes goes_on few = rw (chain_open start 10 byte bytes goes_on few) refl

chain_at_eleventh : (start byte : ℕ) (part : List ℕ) (next : ℕ) (rest : List ℕ) → IsOpen byte part → length part ≡ 10
    → chain_at start byte (part ++ next ∷ rest) ≡ Err (TooManyExtensions start)
unfolding chain_at
chain_at_eleventh start byte part next rest goes_on full = rw (chain_eleventh start 10 byte part next rest goes_on full) refl

-- ---- a stage that fails ends the record

from_vib : (start : ℕ) (b : Dib) (rest : List ℕ) {bytes : List ℕ} {fault : RecordFault} → IsDib b → bytes ≡ dib_spelling b ++ rest
    → vib_at start rest ≡ Err fault → record_at start bytes ≡ Err fault
unfolding record_at
from_vib start b rest is spelled e = rw (spelled, dib_again start b rest is, e) refl

from_contents : (start : ℕ) (b : Dib) (v : Vib) (rest : List ℕ) {bytes : List ℕ} {fault : RecordFault} → IsDib b → IsVib v
    → bytes ≡ dib_spelling b ++ (vib_spelling v ++ rest) → contents_at start b.dif rest ≡ Err fault → record_at start bytes ≡ Err fault
unfolding record_at
from_contents start b v rest is_b is_v spelled e =
    rw (spelled, dib_again start b (vib_spelling v ++ rest) is_b, vib_again start v rest is_v, e) refl

-- ---- the data information block

dib_empty : (start : ℕ) → record_at start [] ≡ Err (Truncated start)
unfolding record_at dib_at dif_at byte_at
dib_empty start = refl

dib_special : (start dif : ℕ) (rest : List ℕ) → dif % 16 ≡ 15 → record_at start (dif ∷ rest) ≡ Err (Special dif)
unfolding record_at dib_at dif_at byte_at
dib_special start dif rest field = rw (eq-eqb (dif % 16) 15 field) refl

dib_selection : (start dif : ℕ) (rest : List ℕ) → dif % 16 ≡ 8 → record_at start (dif ∷ rest) ≡ Err (Selection start)
unfolding record_at dib_at dif_at byte_at
dib_selection start dif rest field = rw (ne_eqb (dif % 16) 15 (λ e. omega arith), eq-eqb (dif % 16) 8 field) refl

dib_chain : (start dif : ℕ) (rest : List ℕ) (fault : RecordFault) → (dif % 16 ≡ 15 → ⊥) → (dif % 16 ≡ 8 → ⊥)
    → chain_at start dif rest ≡ Err fault → record_at start (dif ∷ rest) ≡ Err fault
unfolding record_at dib_at dif_at byte_at
dib_chain start dif rest fault not_15 not_8 e = rw (ne_eqb (dif % 16) 15 not_15, ne_eqb (dif % 16) 8 not_8, e) refl

-- ---- the value information block

vib_empty : (start : ℕ) → vib_at start [] ≡ Err (Truncated start)
unfolding vib_at byte_at
vib_empty start = refl

text_missing : (start vif : ℕ) → vif % 128 ≡ 0x7c → vib_at start (vif ∷ []) ≡ Err (Truncated start)
unfolding vib_at text_at byte_at
text_missing start vif plain = rw (eq-eqb (vif % 128) 0x7c plain) refl

text_short : (start vif count : ℕ) (letters : List ℕ) → vif % 128 ≡ 0x7c → length letters < count
    → vib_at start (vif ∷ count ∷ letters) ≡ Err (Truncated start)
unfolding vib_at text_at byte_at bytes_at
text_short start vif count letters plain short = rw (eq-eqb (vif % 128) 0x7c plain, lt-ltb (length letters) count short) refl

vib_chain : (start : ℕ) (v : Vib) (rest : List ℕ) (fault : RecordFault) → IsPlainText v.vif v.text → chain_at start v.vif rest ≡ Err fault
    → vib_at start (v.vif ∷ (v.text ++ rest)) ≡ Err fault
unfolding vib_at
vib_chain start v rest fault plain e = rw (byte_again start v.vif (v.text ++ rest), text_again start v.vif v.text rest plain, e) refl

-- ---- the data

contents_missing : (start dif : ℕ) → dif % 16 ≡ 13 → contents_at start dif [] ≡ Err (Truncated start)
unfolding contents_at lvar_at byte_at
contents_missing start dif field = rw (eq-eqb (dif % 16) 13 field) refl

contents_unused : (start dif lvar : ℕ) (rest : List ℕ) → dif % 16 ≡ 13 → lvar_width lvar ≡ None
    → contents_at start dif (lvar ∷ rest) ≡ Err (Lvar lvar)
unfolding contents_at lvar_at
contents_unused start dif lvar rest field none =
    let unused : is_some (lvar_width lvar) ≡ false = ap is_some none in
    rw (eq-eqb (dif % 16) 13 field, byte_again start lvar rest, unused) refl

contents_short : (start dif : ℕ) (lvar : Option ℕ) (sent : List ℕ) (width : ℕ) → data_width dif lvar ≡ Some width → length sent < width
    → contents_at start dif (option_to_list lvar ++ sent) ≡ Err (Truncated start)
unfolding contents_at bytes_at
contents_short start dif lvar sent width wide short =
    let announced : unwrap_or (data_width dif lvar) 0 ≡ width = ap (λ (o : Option ℕ). unwrap_or o 0) wide in
    let test : ltb (length sent) (unwrap_or (data_width dif lvar) 0) ≡ true = rw announced (lt-ltb (length sent) width short) in
    rw (lvar_again start dif lvar width sent wide, test) refl

-- ---- each cause

cut_stops : (start : ℕ) (bytes : List ℕ) → IsCut bytes → record_at start bytes ≡ Err (Truncated start)
cut_stops start bytes (no_dif e) = rw e (dib_empty start)
cut_stops start bytes (no_dife b not_15 not_8 goes_on few e) =
    rw e (dib_chain start b.dif b.difes (Truncated start) not_15 not_8 (chain_at_open start b.dif b.difes goes_on few))
cut_stops start bytes (no_vif b is e) =
    from_vib start b [] is (e ∙ sym (append-nil (dib_spelling b))) (vib_empty start)
cut_stops start bytes (no_text b vif is plain e) =
    from_vib start b (vif ∷ []) is e (text_missing start vif plain)
cut_stops start bytes (short_text b vif count letters is plain short e) =
    from_vib start b (vif ∷ count ∷ letters) is e (text_short start vif count letters plain short)
cut_stops start bytes (no_vife b v is plain goes_on few e) =
    from_vib start b (vib_spelling v) is e (vib_chain start v v.vifes (Truncated start) plain (chain_at_open start v.vif v.vifes goes_on few))
cut_stops start bytes (no_lvar b v is_b is_v field e) =
    from_contents start b v [] is_b is_v (e ∙ ap (λ (r : List ℕ). dib_spelling b ++ r) (sym (append-nil (vib_spelling v))))
    (contents_missing start b.dif field)
cut_stops start bytes (short_data b v lvar sent width is_b is_v wide short e) =
    from_contents start b v (option_to_list lvar ++ sent) is_b is_v e (contents_short start b.dif lvar sent width wide short)

eleventh_stops : (start : ℕ) (bytes : List ℕ) → HasEleventh bytes → record_at start bytes ≡ Err (TooManyExtensions start)
eleventh_stops start bytes (dife b next rest not_15 not_8 goes_on full e) =
    rw e (dib_chain start b.dif (b.difes ++ next ∷ rest) (TooManyExtensions start) not_15 not_8
    (chain_at_eleventh start b.dif b.difes next rest goes_on full))
eleventh_stops start bytes (vife b v next rest is plain goes_on full e) =
    let regrouped : vib_spelling v ++ next ∷ rest ≡ v.vif ∷ (v.text ++ (v.vifes ++ next ∷ rest)) =
    ap (λ (x : List ℕ). v.vif ∷ x) (append_assoc v.text v.vifes (next ∷ rest)) in
    let eleventh =
    vib_chain start v (v.vifes ++ next ∷ rest) (TooManyExtensions start) plain
    (chain_at_eleventh start v.vif v.vifes next rest goes_on full) in
    from_vib start b (vib_spelling v ++ next ∷ rest) is e (ap (vib_at start) regrouped ∙ eleventh)

pub stops_record : (start : ℕ) (bytes : List ℕ) (fault : RecordFault) → Stops start bytes fault → record_at start bytes ≡ Err fault
stops_record start bytes (Truncated place) s = rw s.0 (cut_stops start bytes s.1)
stops_record start bytes (TooManyExtensions place) s = rw s.0 (eleventh_stops start bytes s.1)
stops_record start bytes (Lvar lvar) s =
    from_contents start s.dib s.vib (lvar ∷ s.rest) s.is_dib s.is_vib s.spelled
    (contents_unused start s.dib.dif lvar s.rest s.by_lvar s.unused)
stops_record start bytes (Selection place) s =
    rw (s.0, s.2.begins) (dib_selection start s.1 s.2.rest s.3)
stops_record start bytes (Special dif) s =
    rw s.0.begins (dib_special start dif s.0.rest s.1)
