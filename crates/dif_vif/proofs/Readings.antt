-- Each part that is read is spelled so, and each fault shows its cause: how far the bytes are spelled, and what stands there.
use Rattle.std.proofs.Common.{◌≡◌, ℕ, ◌-◌, ◌%◌, ◌<◌, ◌≤◌, true, false, eqb, ltb, List, [], ◌∷◌, ◌++◌, length, take, Option, Some, None, Ok, is_some, ◌⊎◌, refl, sym, ap, subst, ◌∙◌, inl, inr, append_assoc, add-one, arith, unwrap_or, option_to_list, take-append-drop, length-take, length-append, append-nil}
use Rattle.std.proofs.lemmas.Bool.{ltb-true, ltb-false, eqb-true, eqb-false, cond_both}
use Rattle.dif_vif.specs.declared.fault.RecordFault.{RecordFault}
use Rattle.dif_vif.specs.declared.fault.RecordFault.TheVariants.{Truncated, TooManyExtensions}
use Rattle.dif_vif.specs.Spelling.{Dib, Vib, DataRecord, IsChain, IsPlainText, IsRecord, lvar_width, data_width, dib_spelling, vib_spelling, contents_spelling, spelling}
use Rattle.dif_vif.specs.Reading.{byte_at, bytes_at, chain_len, chain_at, dif_at, dib_at, text_at, vib_at, lvar_at, contents_at, record_at}
use Rattle.dif_vif.specs.Stops.{IsDib, IsVib, IsOpen, IsCut, no_dif, no_dife, no_vif, no_text, short_text, no_vife, no_lvar, short_data, HasEleventh, dife, vife, Stops}
use Rattle.dif_vif.proofs.Steps.{Reads, bind_reads, some_is, field_some}

-- ---- one byte, and several

byte_reads : (start : ℕ) (bytes : List ℕ)
    → Reads (λ x. bytes ≡ x.0 ∷ x.1) (λ fault. (fault ≡ Truncated start) × (bytes ≡ [])) (byte_at start bytes)
unfolding byte_at
byte_reads start [] = record { is = (refl, refl) }
byte_reads start (byte ∷ rest) = record { is = refl }

bytes_reads : (start count : ℕ) (bytes : List ℕ)
    → Reads (λ x. (bytes ≡ x.0 ++ x.1) × (length x.0 ≡ count)) (λ fault. (fault ≡ Truncated start) × (length bytes < count))
    (bytes_at start count bytes)
unfolding bytes_at
bytes_reads start count bytes =
    cond_both (ltb (length bytes) count) _ _ (Reads _ _) (λ short. record { is = (refl, ltb-true _ _ short) })
    (λ long. record { is = (sym (take-append-drop count bytes), omega (arith, length-take count bytes, ltb-false _ _ long)) })

-- ---- extensions

record IsFront (byte room : ℕ) (bytes : List ℕ) (count : ℕ) : Type 0 where
  chain : IsChain byte (take count bytes)
  few : count ≤ room

record IsFrontOpen (byte room : ℕ) (bytes : List ℕ) : Type 0 where
  part : List ℕ
  next : ℕ
  rest : List ℕ
  goes_on : IsOpen byte part
  full : length part ≡ room
  parts : bytes ≡ part ++ next ∷ rest

abbrev ChainStops : ℕ → ℕ → ℕ → List ℕ → RecordFault → Type 0
ChainStops start byte room bytes fault =
    ((fault ≡ Truncated start) × IsOpen byte bytes × (length bytes ≤ room))
    ⊎ ((fault ≡ TooManyExtensions start) × IsFrontOpen byte room bytes)

one_more : (start room byte next : ℕ) (rest : List ℕ) (fault : RecordFault) → 128 ≤ byte → (room ≡ 0 → ⊥)
    → ChainStops start next (room - 1) rest fault → ChainStops start byte room (next ∷ rest) fault
one_more start room byte next rest fault le some (inl s) = inl (s.0, (le, s.1), omega (arith, s.2))
one_more start room byte next rest fault le some (inr s) =
    inr (
      s.0,
      record {
        part = next ∷ s.1.part;
        next = s.1.next;
        rest = s.1.rest;
        goes_on = (le, s.1.goes_on);
        full = omega (arith, s.1.full);
        parts = ap (λ (r : List ℕ). next ∷ r) s.1.parts;
      },
    )

chain_len_reads : (start room byte : ℕ) (bytes : List ℕ)
    → Reads (IsFront byte room bytes) (ChainStops start byte room bytes) (chain_len start room byte bytes)
unfolding chain_len
chain_len_reads start room byte [] =
    cond_both (ltb byte 128) _ _ (Reads _ _)
    (λ last. record { is = record { chain = ltb-true _ _ last; few = omega arith } })
    (λ open_end. record { is = inl (refl, ltb-false _ _ open_end, omega arith) })
chain_len_reads start room byte (next ∷ rest) =
    cond_both (ltb byte 128) _ _ (Reads _ _)
    (λ last. record { is = record { chain = ltb-true _ _ last; few = omega arith } })
    (λ goes_on. cond_both (eqb room 0) _ _ (Reads _ _)
    (λ full. record {
      is = inr (
        refl,
        record {
          part = [];
          next = next;
          rest = rest;
          goes_on = ltb-false _ _ goes_on;
          full = sym (eqb-true _ _ full);
          parts = refl;
        },
      );
    })
    (λ some. bind_reads _ _ (chain_len_reads start (room - 1) next rest)
    (λ fault. one_more start room byte next rest fault (ltb-false _ _ goes_on) (eqb-false _ _ some))
    (λ others t. record {
      is = subst (λ (n : ℕ). IsFront byte room (next ∷ rest) n) (sym (add-one others)) (record {
        chain = (ltb-false _ _ goes_on, t.chain);
        few = omega (arith, t.few, eqb-false _ _ some);
      });
    })))

record IsChainPart (byte : ℕ) (bytes part rest : List ℕ) : Type 0 where
  parts : bytes ≡ part ++ rest
  chain : IsChain byte part
  few : length part ≤ 10

chain_reads : (start byte : ℕ) (bytes : List ℕ)
    → Reads (λ x. IsChainPart byte bytes x.0 x.1) (ChainStops start byte 10 bytes) (chain_at start byte bytes)
unfolding chain_at
chain_reads start byte bytes =
    bind_reads _ _ (chain_len_reads start 10 byte bytes) (λ fault stops. stops) (λ count t. record {
      is = record {
        parts = sym (take-append-drop count bytes);
        chain = t.chain;
        few = omega (arith, length-take count bytes, t.few);
      };
    })

-- ---- the data information block

cut_at : (start : ℕ) (bytes : List ℕ) (fault : RecordFault) → fault ≡ Truncated start → IsCut bytes → Stops start bytes fault
cut_at start bytes fault e cut = subst (λ (x : RecordFault). Stops start bytes x) (sym e) (refl, cut)

eleventh_at : (start : ℕ) (bytes : List ℕ) (fault : RecordFault) → fault ≡ TooManyExtensions start → HasEleventh bytes
    → Stops start bytes fault
eleventh_at start bytes fault e eleventh = subst (λ (x : RecordFault). Stops start bytes x) (sym e) (refl, eleventh)

record IsPlainDif (dif : ℕ) : Type 0 where
  not_special : dif % 16 ≡ 15 → ⊥
  not_selection : dif % 16 ≡ 8 → ⊥

dif_reads : (start : ℕ) (bytes : List ℕ) → Reads (λ x. (bytes ≡ x.0 ∷ x.1) × IsPlainDif x.0) (Stops start bytes) (dif_at start bytes)
unfolding dif_at
dif_reads start bytes =
    bind_reads _ _ (byte_reads start bytes) (λ fault none. cut_at start bytes fault none.0 (no_dif none.1))
    (λ x begins. cond_both (eqb (x.0 % 16) 15) _ _ (Reads _ _)
    (λ special. record { is = (record { rest = x.1; begins = begins }, eqb-true _ _ special) })
    (λ plain. cond_both (eqb (x.0 % 16) 8) _ _ (Reads _ _)
    (λ selection. record { is = (refl, x.0, record { rest = x.1; begins = begins }, eqb-true _ _ selection) })
    (λ other. record { is = (begins, record { not_special = eqb-false _ _ plain; not_selection = eqb-false _ _ other }) })))

dib_from_chain : (start dif : ℕ) (rest bytes : List ℕ) (fault : RecordFault) → bytes ≡ dif ∷ rest → IsPlainDif dif
    → ChainStops start dif 10 rest fault → Stops start bytes fault
dib_from_chain start dif rest bytes fault begins plain (inl s) =
    cut_at start bytes fault s.0 (no_dife (record { dif = dif; difes = rest }) plain.not_special plain.not_selection s.1 s.2 begins)
dib_from_chain start dif rest bytes fault begins plain (inr s) =
    eleventh_at start bytes fault s.0 (dife (record { dif = dif; difes = s.1.part })
    s.1.next s.1.rest plain.not_special plain.not_selection s.1.goes_on s.1.full (begins ∙ ap (λ (r : List ℕ). dif ∷ r) s.1.parts))

dib_reads : (start : ℕ) (bytes : List ℕ)
    → Reads (λ x. (bytes ≡ dib_spelling x.0 ++ x.1) × IsDib x.0) (Stops start bytes) (dib_at start bytes)
unfolding dib_at
dib_reads start bytes =
    bind_reads _ _ (dif_reads start bytes) (λ fault stops. stops)
    (λ x first. bind_reads _ _ (chain_reads start x.0 x.1) (λ fault. dib_from_chain start x.0 x.1 bytes fault first.0 first.1)
    (λ y second. record {
      is = (
        first.0 ∙ ap (λ (r : List ℕ). x.0 ∷ r) second.parts,
        record {
          not_special = first.1.not_special;
          not_selection = first.1.not_selection;
          difes = second.chain;
          few = second.few;
        },
      );
    }))

-- ---- the value information block

abbrev TextStops : ℕ → List ℕ → Type 0
TextStops vif bytes =
    (vif % 128 ≡ 0x7c) × ((bytes ≡ []) ⊎ ((count : ℕ) × (letters : List ℕ) × (bytes ≡ count ∷ letters) × (length letters < count)))

text_reads : (start vif : ℕ) (bytes : List ℕ)
    → Reads (λ x. (bytes ≡ x.0 ++ x.1) × IsPlainText vif x.0) (λ fault. (fault ≡ Truncated start) × TextStops vif bytes)
    (text_at start vif bytes)
unfolding text_at
text_reads start vif bytes =
    cond_both (eqb (vif % 128) 0x7c) _ _ (Reads _ _)
    (λ plain. bind_reads _ _ (byte_reads start bytes) (λ fault none. (none.0, (eqb-true _ _ plain, inl none.1)))
    (λ x first. bind_reads _ _ (bytes_reads start x.0 x.1)
    (λ fault short. (short.0, (eqb-true _ _ plain, inr (x.0, x.1, first, short.1))))
    (λ y second. record { is = (first ∙ ap (λ (r : List ℕ). x.0 ∷ r) second.0, (eqb-true _ _ plain, second.1)) })))
    (λ other. record { is = (refl, eqb-false _ _ other) })

vib_from_text : (start : ℕ) (b : Dib) (vif : ℕ) (rest bytes : List ℕ) (fault : RecordFault) → IsDib b
    → bytes ≡ dib_spelling b ++ vif ∷ rest → fault ≡ Truncated start → TextStops vif rest → Stops start bytes fault
vib_from_text start b vif rest bytes fault is begins e (plain, inl none) =
    cut_at start bytes fault e (no_text b vif is plain (begins ∙ ap (λ (r : List ℕ). dib_spelling b ++ vif ∷ r) none))
vib_from_text start b vif rest bytes fault is begins e (plain, inr s) =
    cut_at start bytes fault e (short_text b vif s.0 s.1 is plain s.3 (begins ∙ ap (λ (r : List ℕ). dib_spelling b ++ vif ∷ r) s.2))

vib_from_chain : (start : ℕ) (b : Dib) (vif : ℕ) (text rest bytes : List ℕ) (fault : RecordFault) → IsDib b → IsPlainText vif text
    → bytes ≡ dib_spelling b ++ vif ∷ (text ++ rest) → ChainStops start vif 10 rest fault → Stops start bytes fault
vib_from_chain start b vif text rest bytes fault is plain begins (inl s) =
    cut_at start bytes fault s.0 (no_vife b (record { vif = vif; text = text; vifes = rest }) is plain s.1 s.2 begins)
vib_from_chain start b vif text rest bytes fault is plain begins (inr s) =
    let regrouped : text ++ rest ≡ (text ++ s.1.part) ++ s.1.next ∷ s.1.rest =
    ap (λ (r : List ℕ). text ++ r) s.1.parts ∙ sym (append_assoc text s.1.part (s.1.next ∷ s.1.rest)) in
    eleventh_at start bytes fault s.0 (vife b (record { vif = vif; text = text; vifes = s.1.part })
    s.1.next s.1.rest is plain s.1.goes_on s.1.full (begins ∙ ap (λ (r : List ℕ). dib_spelling b ++ vif ∷ r) regrouped))

vib_reads : (start : ℕ) (b : Dib) (rest bytes : List ℕ) → IsDib b → bytes ≡ dib_spelling b ++ rest
    → Reads (λ x. (rest ≡ vib_spelling x.0 ++ x.1) × IsVib x.0) (Stops start bytes) (vib_at start rest)
unfolding vib_at
vib_reads start b rest bytes is begins =
    bind_reads _ _ (byte_reads start rest)
    (λ fault none. cut_at start bytes fault none.0 (no_vif b is (begins ∙ ap (λ (r : List ℕ). dib_spelling b ++ r) none.1
    ∙ append-nil (dib_spelling b))))
    (λ x first. let here : bytes ≡ dib_spelling b ++ x.0 ∷ x.1 = begins ∙ ap (λ (r : List ℕ). dib_spelling b ++ r) first in
    bind_reads _ _ (text_reads start x.0 x.1) (λ fault short. vib_from_text start b x.0 x.1 bytes fault is here short.0 short.1)
    (λ y second. bind_reads _ _ (chain_reads start x.0 y.1)
    (λ fault. vib_from_chain start b x.0 y.0 y.1 bytes fault is second.1 (here
    ∙ ap (λ (r : List ℕ). dib_spelling b ++ x.0 ∷ r) second.0))
    (λ z third. record {
      is = (
        first
            ∙ ap (λ (r : List ℕ). x.0 ∷ r) (second.0 ∙ ap (λ (r : List ℕ). y.0 ++ r) third.parts ∙ sym (append_assoc y.0 z.0 z.1)),
        record { text = second.1; vifes = third.chain; few = third.few },
      );
    })))

-- ---- the data

none_is : (o : Option ℕ) → is_some o ≡ false → o ≡ None
none_is None e = refl
none_is (Some n) e = absurd cc

module _ (start : ℕ) (b : Dib) (v : Vib) (rest bytes : List ℕ) (is_b : IsDib b) (is_v : IsVib v)
    (begins : bytes ≡ dib_spelling b ++ (vib_spelling v ++ rest)) where
  behind : (more : List ℕ) → rest ≡ more → bytes ≡ dib_spelling b ++ (vib_spelling v ++ more)
  behind more e = begins ∙ ap (λ (r : List ℕ). dib_spelling b ++ (vib_spelling v ++ r)) e

  lvar_reads : Reads (λ x. (rest ≡ option_to_list x.0 ++ x.1) × (is_some (data_width b.dif x.0) ≡ true)) (Stops start bytes)
      (lvar_at start b.dif rest)
  unfolding lvar_at
  lvar_reads =
      cond_both (eqb (b.dif % 16) 13) _ _ (Reads _ _)
      (λ field. bind_reads _ _ (byte_reads start rest)
      (λ fault none. cut_at start bytes fault none.0 (no_lvar b v is_b is_v (eqb-true _ _ field) (behind [] none.1
      ∙ ap (λ (r : List ℕ). dib_spelling b ++ r) (append-nil (vib_spelling v)))))
      (λ x first. cond_both (is_some (lvar_width x.0)) _ _ (Reads _ _) (λ wide. record { is = (first, rw field wide) })
      (λ unused. record {
        is = record {
          dib = b;
          vib = v;
          rest = x.1;
          is_dib = is_b;
          is_vib = is_v;
          by_lvar = eqb-true _ _ field;
          unused = none_is (lvar_width x.0) unused;
          spelled = behind (x.0 ∷ x.1) first;
        };
      })))
      (λ other. record { is = (refl, field_some (b.dif % 16) (omega arith) is_b.not_selection (eqb-false _ _ other) is_b.not_special) })

  contents_reads : Reads (λ x. (rest ≡ contents_spelling x.0 ++ x.1) × (data_width b.dif x.0.lvar ≡ Some (length x.0.sent)))
      (Stops start bytes) (contents_at start b.dif rest)
  unfolding contents_at
  contents_reads =
      bind_reads _ _ lvar_reads (λ fault stops. stops)
      (λ x first. bind_reads _ _ (bytes_reads start (unwrap_or (data_width b.dif x.0) 0) x.1)
      (λ fault short. cut_at start bytes fault short.0 (short_data b v x.0 x.1 (unwrap_or (data_width b.dif x.0) 0) is_b is_v
      (some_is (data_width b.dif x.0) first.1) short.1 (behind (option_to_list x.0 ++ x.1) first.0)))
      (λ y second. record {
        is = (
          first.0
              ∙ ap (λ (r : List ℕ). option_to_list x.0 ++ r) second.0 ∙ sym (append_assoc (option_to_list x.0) y.0 y.1),
          some_is (data_width b.dif x.0) first.1 ∙ ap (λ (n : ℕ). Some n) (sym second.1),
        );
      }))

-- ---- the record

pub record_reads : (start : ℕ) (bytes : List ℕ)
    → Reads (λ x. (bytes ≡ spelling x.0 ++ x.1) × IsRecord x.0) (Stops start bytes) (record_at start bytes)
unfolding record_at
record_reads start bytes =
    bind_reads _ _ (dib_reads start bytes) (λ fault stops. stops)
    (λ x first. bind_reads _ _ (vib_reads start x.0 x.1 bytes first.1 first.0) (λ fault stops. stops)
    (λ y second. let begins : bytes ≡ dib_spelling x.0 ++ (vib_spelling y.0 ++ y.1) =
    first.0 ∙ ap (λ (r : List ℕ). dib_spelling x.0 ++ r) second.0 in
    bind_reads _ _ (contents_reads start x.0 y.0 y.1 bytes first.1 second.1 begins) (λ fault stops. stops)
    (λ z third. record {
      is = (
        begins
            ∙ ap (λ (r : List ℕ). dib_spelling x.0 ++ r) (ap (λ (r : List ℕ). vib_spelling y.0 ++ r) third.0
            ∙ sym (append_assoc (vib_spelling y.0) (contents_spelling z.0) z.1))
            ∙ sym (append_assoc (dib_spelling x.0) (vib_spelling y.0 ++ contents_spelling z.0) z.1),
        record {
          difes = first.1.difes;
          few_difes = first.1.few;
          text = second.1.text;
          vifes = second.1.vifes;
          few_vifes = second.1.few;
          sent = third.1;
        },
      );
    })))

-- what is read is spelled so
pub record_takes : (start : ℕ) (bytes : List ℕ) (x : DataRecord × List ℕ) → record_at start bytes ≡ Ok x
    → (bytes ≡ spelling x.0 ++ x.1) × IsRecord x.0
record_takes start bytes x e = (subst (Reads _ _) e (record_reads start bytes)).is

-- and it is no longer than what was there
pub record_fits : (start : ℕ) (bytes : List ℕ) (x : DataRecord × List ℕ) → record_at start bytes ≡ Ok x
    → length (spelling x.0) ≤ length bytes
record_fits start bytes x e = rw (record_takes start bytes x e).0 (omega (arith, length-append (spelling x.0) x.1))
