-- A roster is read as a state.
use Rattle.std.proofs.Common.{◌≡◌, ℕ, ◌+◌, ◌==◌, nat_lt, true, false, List, [], ◌∷◌, length, codes, None, Result, Ok, refl, sym, ap, ◌∙◌, arith}
use Rattle.std.specs.Option.{ok_or}
use Rattle.std.specs.Str.Lines.{lines}
use Rattle.std.proofs.lemmas.Bool.{and_parts, cond-false, eqb-true, false_from_ne_true, ltb-true}
use Rattle.std.proofs.lemmas.Bool.Decides.{nat_tests}
use Rattle.lists.specs.Steps.{◌>>=◌}
use Rattle.plain_text.specs.Parts.{is_word}
use Rattle.roster_file.specs.declared.roster.LineCause.TheVariants as roster
use Rattle.roster_file.specs.Roster.{Enrolled, at_line, entries_from, head_of, roster_of, headed as roster_headed, owned as roster_owned}
use Rattle.roster_file.proofs.Enrolling.{too_long}
use Rattle.state_file.specs.declared.fault.StateFault.{StateFault}
use Rattle.state_file.specs.Whole.{Known, fresh_known, headed, of_roster, state_of}

-- ---- the head

word_is : (text word : List ℕ) → is_word text word ≡ true → text ≡ word
word_is [] [] h = refl
word_is [] (y ∷ ys) h = absurd cc
word_is (x ∷ xs) [] h = absurd cc
word_is (x ∷ xs) (y ∷ ys) h =
    let both = and_parts (x == y) (is_word xs ys) h in
    ap (λ z. z ∷ xs) (eqb-true x y both.0) ∙ ap (λ zs. y ∷ zs) (word_is xs ys both.1)

no_roster_head : (line : List ℕ) → is_word line (codes "wmbus-state 1") ≡ true → head_of line ≡ None
no_roster_head line h = ap head_of (word_is line (codes "wmbus-state 1") h)

headed_roster : (entries : List (ℕ × List ℕ)) (end : ℕ) (r : Enrolled) (otherwise : Result Known StateFault)
    → roster_headed entries end ≡ Ok r → headed entries end otherwise ≡ otherwise
unfolding roster_headed headed
headed_roster [] end r otherwise h = refl
headed_roster (e ∷ entries) end r otherwise h = cond-false _ _ _ (false_from_ne_true _ (λ is.
    let bad = ap (λ o. at_line e.0 (ok_or o roster.Head) >>= λ version. roster_owned version entries end) (no_roster_head e.1 is) in
    let good = h in
    cc))

-- ---- the whole

head_behind : (bytes : List ℕ) → nat_lt 1048576 (length bytes) ≡ false
    → roster_of bytes ≡ roster_headed (entries_from 1 (lines bytes)) (length (lines bytes) + 1)
unfolding roster_of
head_behind bytes short = cond-false _ _ _ short

state_is : (bytes : List ℕ) → nat_lt 134217728 (length bytes) ≡ false
    → state_of bytes ≡ headed (entries_from 1 (lines bytes)) (length (lines bytes) + 1) (of_roster (roster_of bytes))
unfolding state_of
state_is bytes short = cond-false _ _ _ short

pub is_short : (bytes : List ℕ) (r : Enrolled) → roster_of bytes ≡ Ok r → nat_lt 1048576 (length bytes) ≡ false
is_short bytes r h =
    false_from_ne_true _ (λ long. let bad = too_long bytes (ltb-true 1048576 (length bytes) long) in let good = h in cc)

pub rosters_are_states : (bytes : List ℕ) (r : Enrolled) → roster_of bytes ≡ Ok r → state_of bytes ≡ Ok (fresh_known r)
rosters_are_states bytes r h =
    let few = is_short bytes r h in
    let short : nat_lt 134217728 (length bytes) ≡ false = grind (arith, nat_tests) in
    state_is bytes short
    ∙ headed_roster (entries_from 1 (lines bytes)) (length (lines bytes) + 1) r (of_roster (roster_of bytes)) (sym (head_behind bytes few) ∙ h)
    ∙ ap of_roster h
