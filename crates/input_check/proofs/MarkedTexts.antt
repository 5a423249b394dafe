-- A text with a byte order mark in front is refused at its head, and any other exactly where a line of it is faulty.
use Rattle.std.proofs.Common.{◌≡◌, ℕ, suc, ◌+◌, ◌-◌, ◌==◌, ◌&&◌, ◌||◌, nat_lt, Bool, true, false, cond, List, [], ◌∷◌, length, take, drop, Result, Ok, Err, refl, sym, ap, ◌∙◌, arith, slice_index, is_some, is_err, eqb-true}
use Rattle.std.specs.List.{slice_split, onto_first}
use Rattle.std.specs.Str.Lines.{lines, lines_of_parts, strip_carriage_return}
use Rattle.std.proofs.lemmas.Bool.{and_parts, cond_both}
use Rattle.std.proofs.lemmas.Bool.Decides.{nat_tests}
use Rattle.std.proofs.lemmas.List.Splits.{slice_split-cons_no}
use Rattle.roster_file.specs.declared.roster.LineCause.TheVariants as roster
use Rattle.roster_file.specs.declared.roster.RosterFault.TheVariants as faulty
use Rattle.roster_file.specs.Roster.{entries_from, is_passed_over, roster_of, headed as roster_headed}
use Rattle.roster_file.proofs.RosterLines.{counted}
use Rattle.state_file.specs.declared.fault.StateFault.{StateFault}
use Rattle.state_file.specs.Whole.{Known, headed, of_roster, state_of}
use Rattle.input_check.specs.StateFaults.{refused, first_of, state_faults_of}
use Rattle.input_check.proofs.StateFaults.{first_fault_refuses}
use Rattle.input_check.specs.Bytes.{has_mark}
use Rattle.input_check.specs.States.{is_faulty_text}

-- ---- the first line of a text that a byte begins

-- the first of these begins with this byte
record Begin (byte : ℕ) (texts : List (List ℕ)) : Type 0 where
  behind : List ℕ
  more : List (List ℕ)
  is : texts ≡ (byte ∷ behind) ∷ more

parts_begin : (byte : ℕ) (parts : List (List ℕ)) → Begin byte (onto_first byte parts)
parts_begin byte [] = record { behind = []; more = []; is = refl }
parts_begin byte (part ∷ parts) = record { behind = part; more = parts; is = refl }

first_part : (byte : ℕ) (rest : List ℕ) → (byte == 10) ≡ false → Begin byte (slice_split (λ b. b == 10) (byte ∷ rest))
first_part byte rest other =
    let parts = parts_begin byte (slice_split (λ b. b == 10) rest) in
    record { behind = parts.behind; more = parts.more; is = slice_split-cons_no (λ b. b == 10) byte rest other ∙ parts.is }

-- a line without its carriage return begins as it did
kept_byte : (byte : ℕ) (line : List ℕ) (more : List (List ℕ)) → (byte == 13) ≡ false
    → Begin byte (strip_carriage_return (byte ∷ line) ∷ more)
kept_byte byte [] more other = record { behind = []; more = more; is = ap (λ b. cond b [] (byte ∷ []) ∷ more) other }
kept_byte byte (next ∷ line) more other =
    let size : length (byte ∷ next ∷ line) - 1 ≡ suc (length line) = omega arith in
    cond_both (slice_index (byte ∷ next ∷ line) (length (byte ∷ next ∷ line) - 1) == 13) _ _ (λ l. Begin byte (l ∷ more))
    (λ _. record { behind = take (length line) (next ∷ line); more = more; is = ap (λ n. take n (byte ∷ next ∷ line) ∷ more) size })
    (λ _. record { behind = next ∷ line; more = more; is = refl })

of_parts : (byte : ℕ) (behind : List ℕ) (more : List (List ℕ)) → (byte == 13) ≡ false
    → Begin byte (lines_of_parts ((byte ∷ behind) ∷ more))
of_parts byte behind [] other =
    let test : (length (byte ∷ behind) == 0) ≡ false = grind (arith, nat_tests) in
    record { behind = behind; more = []; is = ap (λ b. cond b [] ((byte ∷ behind) ∷ [])) test }
of_parts byte behind (part ∷ more) other = kept_byte byte behind (lines_of_parts (part ∷ more)) other

first_line : (byte : ℕ) (rest : List ℕ) → (byte == 10) ≡ false → (byte == 13) ≡ false → Begin byte (lines (byte ∷ rest))
first_line byte rest other none =
    let part = first_part byte rest other in
    let line = of_parts byte part.behind part.more none in
    record { behind = line.behind; more = line.more; is = ap lines_of_parts part.is ∙ line.is }

-- ---- a first line that a mark begins

counts : (line : List ℕ) → is_passed_over (239 ∷ line) ≡ false
counts line =
    let test : (length (239 ∷ line) == 0) ≡ false = grind (arith, nat_tests) in
    ap (λ b. b || (slice_index (239 ∷ line) 0 == 35)) test

no_state : (line : List ℕ) (entries : List (ℕ × List ℕ)) (end : ℕ) (otherwise : Result Known StateFault)
    → headed ((1, 239 ∷ line) ∷ entries) end otherwise ≡ otherwise
unfolding headed
no_state line entries end otherwise = refl

no_roster : (line : List ℕ) (entries : List (ℕ × List ℕ)) (end : ℕ)
    → roster_headed ((1, 239 ∷ line) ∷ entries) end ≡ Err (faulty.Line 1 roster.Head)
unfolding roster_headed
no_roster line entries end = refl

roster_fault : (bytes line : List ℕ) (entries : List (ℕ × List ℕ)) → entries_from 1 (lines bytes) ≡ (1, 239 ∷ line) ∷ entries
    → is_err (of_roster (roster_of bytes)) ≡ true
unfolding roster_of
roster_fault bytes line entries is =
    cond_both (nat_lt 1048576 (length bytes)) _ _ (λ r. is_err (of_roster r) ≡ true) (λ _. refl)
    (λ _. ap (λ all. is_err (of_roster (roster_headed all (length (lines bytes) + 1)))) is
    ∙ ap (λ r. is_err (of_roster r)) (no_roster line entries (length (lines bytes) + 1)))

state_fault : (bytes line : List ℕ) (entries : List (ℕ × List ℕ)) → entries_from 1 (lines bytes) ≡ (1, 239 ∷ line) ∷ entries
    → is_err (state_of bytes) ≡ true
unfolding state_of
state_fault bytes line entries is =
    cond_both (nat_lt 134217728 (length bytes)) _ _ (λ (r : Result Known StateFault). is_err r ≡ true) (λ _. refl)
    (λ _. ap (λ all. is_err (headed all (length (lines bytes) + 1) (of_roster (roster_of bytes)))) is
    ∙ ap is_err (no_state line entries (length (lines bytes) + 1) (of_roster (roster_of bytes)))
    ∙ roster_fault bytes line entries is)

marked_fault : (bytes : List ℕ) → has_mark bytes ≡ true → is_err (state_of bytes) ≡ true
marked_fault [] mark = absurd cc
marked_fault (a ∷ []) mark = absurd cc
marked_fault (a ∷ b ∷ []) mark = absurd cc
marked_fault (a ∷ b ∷ c ∷ rest) mark =
    let two : (a == 239 && b == 187) ≡ true = (and_parts (a == 239 && b == 187) (c == 191) mark).0 in
    let first : a ≡ 239 = eqb-true a 239 (and_parts (a == 239) (b == 187) two).0 in
    let line = first_line 239 (b ∷ c ∷ rest) refl refl in
    ap (λ x. is_err (state_of (x ∷ b ∷ c ∷ rest))) first
    ∙ state_fault (239 ∷ b ∷ c ∷ rest) line.behind (entries_from 2 line.more)
    (ap (entries_from 1) line.is ∙ counted 1 (239 ∷ line.behind) line.more (counts line.behind))

-- ---- any text

some_first : (faults : List StateFault) → nat_lt 0 (length faults) ≡ is_some (first_of faults)
some_first [] = refl
some_first (fault ∷ faults) = grind (arith, nat_tests)

refused_err : (r : Result Known StateFault) → is_some (refused r) ≡ is_err r
refused_err (Ok state) = refl
refused_err (Err fault) = refl

unmarked_fault : (bytes : List ℕ) → nat_lt 0 (length (state_faults_of bytes)) ≡ is_err (state_of bytes)
unmarked_fault bytes =
    some_first (state_faults_of bytes) ∙ ap is_some (first_fault_refuses bytes) ∙ refused_err (state_of bytes)

pub faulty_are_refused : (bytes : List ℕ) → is_faulty_text bytes ≡ is_err (state_of bytes)
faulty_are_refused bytes = by_mark (has_mark bytes) refl
  where
    by_mark : (b : Bool) → has_mark bytes ≡ b
        → (b || nat_lt 0 (length (state_faults_of (cond b (drop 3 bytes) bytes)))) ≡ is_err (state_of bytes)
    by_mark true mark = sym (marked_fault bytes mark)
    by_mark false mark = unmarked_fault bytes
