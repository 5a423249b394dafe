-- Streams within the limits of a receiver's file.
use Rattle.std.proofs.Common.{◌≡◌, ℕ, ◌≤◌, ◌<◌, Bool, true, false, List, length, take, refl, sym, ap, ◌∙◌, subst, arith}
use Rattle.std.specs.Prelude.{◌||◌, nat_lt}
use Rattle.std.specs.Str.Lines.{lines}
use Rattle.std.proofs.lemmas.Bool.{or_parts}
use Rattle.std.proofs.lemmas.Bool.Decides.{nat_tests}
use Rattle.std.proofs.lemmas.List.{take_all, length-take}
use Rattle.line_reader.specs.Lines.{ended_lines, is_over, whole_lines, all_lines}
use Rattle.line_reader.specs.Newlines.{newlines}
use Rattle.line_reader.proofs.LinesLemmas.{all_within}
use Rattle.line_teller.specs.declared.ending.LinesEnd.{LinesEnd}
use Rattle.line_teller.specs.declared.ending.LinesEnd.TheVariants as ends
use Rattle.line_teller.specs.Ending.{AreFirst, EndsLines}
use Rattle.line_feed.specs.Streams.{EndsStream}
use Rattle.line_feed.specs.StreamLaws.{StreamsAreLines}

few_bytes : (bytes : List ℕ) → is_over bytes ≡ false → length bytes ≤ 67108864
unfolding is_over
few_bytes bytes within =
    let test = (or_parts (nat_lt 67108864 (length bytes)) (nat_lt 131072 (length (lines bytes))) within).0 in
    grind (arith, nat_tests)

few_lines : (bytes : List ℕ) → is_over bytes ≡ false → length (lines bytes) ≤ 131072
unfolding is_over
few_lines bytes within =
    let test = (or_parts (nat_lt 67108864 (length bytes)) (nat_lt 131072 (length (lines bytes))) within).1 in
    grind (arith, nat_tests)

whole_within : (bytes : List ℕ) → length bytes ≤ 67108864 → length (lines bytes) ≤ 131072 → ended_lines bytes ≡ whole_lines bytes
unfolding whole_lines
whole_within bytes few few' =
    let short : length (ended_lines bytes) ≤ 131072 = omega (arith, few', length-take (newlines bytes) (lines bytes)) in
    sym (ap (λ x. take 131072 (ended_lines x)) (take_all 67108864 bytes few) ∙ take_all 131072 (ended_lines bytes) short)

first_of_all : (told : List (List ℕ)) (bytes : List ℕ) → is_over bytes ≡ false → AreFirst told (lines bytes) → AreFirst told (all_lines bytes)
first_of_all told bytes within first = subst (AreFirst told) (sym (all_within bytes within)) first

pub streams_are_lines : StreamsAreLines
streams_are_lines ends.Done taken left told within done = (done.0, within, done.1 ∙ sym (all_within taken within))
streams_are_lines ends.Read taken left told within read =
    read ∙ whole_within taken (few_bytes taken within) (few_lines taken within)
streams_are_lines ends.Cut taken left told within cut = absurd (let few = few_bytes taken within in let many = cut.0 in omega arith)
streams_are_lines ends.Write taken left told within first = first_of_all told taken within first
streams_are_lines ends.Memory taken left told within first = first_of_all told taken within first
