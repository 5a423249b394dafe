-- How many extensions a byte has, as far as a loop has come.
use Rattle.std.proofs.Common.{◌≡◌, ℕ, suc, ◌+◌, ◌-◌, ◌<◌, ◌≤◌, eqb, ltb, List, [], ◌∷◌, Result, Ok, Err, refl, sym, ap, ◌∙◌, arith, add-zero}
use Rattle.std.proofs.lemmas.Bool.{lt-ltb, le-ltb, ne_eqb, cond-true, cond-false}
use Rattle.dif_vif.specs.declared.fault.RecordFault.{RecordFault}
use Rattle.dif_vif.specs.declared.fault.RecordFault.TheVariants.{Truncated, TooManyExtensions}
use Rattle.lists.specs.Steps.{◌>>=◌}
use Rattle.dif_vif.specs.Reading.{chain_len}

-- so many more than a chain has
abbrev pub plus : ℕ → Result ℕ RecordFault → Result ℕ RecordFault
plus count read = read >>= λ others. Ok (count + others)

pub chain_done : (start room byte : ℕ) (bytes : List ℕ) → byte < 128 → chain_len start room byte bytes ≡ Ok 0
unfolding chain_len
chain_done start room byte [] h = cond-true (ltb byte 128) (Ok 0) (Err (Truncated start)) (lt-ltb byte 128 h)
chain_done start room byte (next ∷ rest) h = cond-true (ltb byte 128) (Ok 0) _ (lt-ltb byte 128 h)

pub chain_missing : (start room byte : ℕ) → 128 ≤ byte → chain_len start room byte [] ≡ Err (Truncated start)
unfolding chain_len
chain_missing start room byte h = cond-false (ltb byte 128) (Ok 0) (Err (Truncated start)) (le-ltb byte 128 h)

pub chain_full : (start byte next : ℕ) (rest : List ℕ) → 128 ≤ byte → chain_len start 0 byte (next ∷ rest) ≡ Err (TooManyExtensions start)
unfolding chain_len
chain_full start byte next rest h = cond-false (ltb byte 128) (Ok 0) (Err (TooManyExtensions start)) (le-ltb byte 128 h)

pub chain_more : (start room byte next : ℕ) (rest : List ℕ) → 128 ≤ byte
    → chain_len start (suc room) byte (next ∷ rest) ≡ (chain_len start room next rest >>= λ others. Ok (others + 1))
unfolding chain_len
chain_more start room byte next rest h =
    let back : suc room - 1 ≡ room = omega arith in
    let some : suc room ≡ 0 → ⊥ = λ e. omega arith in
    cond-false (ltb byte 128) _ _ (le-ltb byte 128 h) ∙ cond-false (eqb (suc room) 0) _ _ (ne_eqb (suc room) 0 some)
    ∙ ap (λ (r : ℕ). chain_len start r next rest >>= λ others. Ok (others + 1)) back

plus-plus : (count : ℕ) (read : Result ℕ RecordFault) → plus count (read >>= λ others. Ok (others + 1)) ≡ plus (count + 1) read
plus-plus count (Ok others) = ap Ok (omega arith)
plus-plus count (Err e) = refl

-- the steps of the loop, where the rest of the chain gives in total what the whole one does
pub turn_done : (start room count last : ℕ) (rest : List ℕ) (total : Result ℕ RecordFault) → last < 128
    → plus count (chain_len start room last rest) ≡ total → Ok count ≡ total
turn_done start room count last rest total h so_far =
    let one : plus count (chain_len start room last rest) ≡ Ok (count + 0) = ap (plus count) (chain_done start room last rest h) in
    ap Ok (sym (add-zero count)) ∙ sym one ∙ so_far

pub turn_missing : (start room count last : ℕ) (rest : List ℕ) (total : Result ℕ RecordFault) → 128 ≤ last → rest ≡ []
    → plus count (chain_len start room last rest) ≡ total → Err (Truncated start) ≡ total
turn_missing start room count last rest total h none so_far =
    let one : plus count (chain_len start room last rest) ≡ Err (Truncated start) =
    rw none (ap (plus count) (chain_missing start room last h)) in
    sym one ∙ so_far

pub turn_full : (start room count last next : ℕ) (rest others : List ℕ) (total : Result ℕ RecordFault) → 128 ≤ last → rest ≡ next ∷ others
    → room ≡ 0 → plus count (chain_len start room last rest) ≡ total → Err (TooManyExtensions start) ≡ total
turn_full start room count last next rest others total h first none so_far =
    let one : plus count (chain_len start room last rest) ≡ Err (TooManyExtensions start) =
    rw (first, none) (ap (plus count) (chain_full start last next others h)) in
    sym one ∙ so_far

pub turn_more : (start room left count last next : ℕ) (rest others : List ℕ) (total : Result ℕ RecordFault) → 128 ≤ last
    → rest ≡ next ∷ others → room ≡ suc left → plus count (chain_len start room last rest) ≡ total
    → plus (count + 1) (chain_len start left next others) ≡ total
turn_more start room left count last next rest others total h first more so_far =
    let one : plus count (chain_len start room last rest) ≡ plus (count + 1) (chain_len start left next others) =
    rw (first, more) (ap (plus count) (chain_more start left last next others h)
    ∙ plus-plus count (chain_len start left next others)) in
    sym one ∙ so_far
