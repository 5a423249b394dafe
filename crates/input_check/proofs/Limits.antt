-- The most bytes of a file, and files that were read.
use Rattle.std.proofs.Common.{◌≡◌, ℕ, ◌<◌, ◌≤◌, List, [], ◌++◌, length, sym, ap, ◌∙◌, append-nil, subst, arith}
use Rattle.std.proofs.lemmas.Bool.{cond_both}
use Rattle.outer_io.specs.Shown.{Change, SourceShown, LosesNothing, IsReadOut}
use Rattle.line_reader.specs.Lines.{is_over}
use Rattle.input_check.specs.StateFaults.{is_state}
use Rattle.input_check.specs.declared.faulty.FaultyLines.{FaultyLines}
use Rattle.input_check.specs.Bytes.{unmarked}
use Rattle.input_check.specs.Finding.{AreAllFound}
use Rattle.input_check.specs.States.{most_in, IsReadWithin}
use Rattle.input_check.specs.Stops.{IsHeardOut}

-- what is too long for a state is too long for a roster
pub past_most : (bytes : List ℕ) → 134217728 < length bytes → most_in bytes < length bytes
past_most bytes long =
    cond_both (is_state (unmarked bytes)) 134217728 1048576 (λ n. n < length bytes) (λ _. long) (λ _. omega (arith, long))

pub read_within : (file : Change SourceShown) (bytes : List ℕ) → bytes ≡ file.before.left → length bytes ≤ most_in bytes → IsReadOut file
    → IsReadWithin file
read_within file bytes is short read = record { read = read; within = subst (λ b. length b ≤ most_in b) is short }

-- all lines of a receiver of which nothing was taken yet were looked at
pub heard_out : (source : Change SourceShown) (found : FaultyLines) → source.before.taken ≡ [] → LosesNothing source
    → AreAllFound source.now.taken source.now.left found → IsHeardOut source
heard_out source found untaken kept all =
    let took : source.now.taken ≡ source.before.taken ++ source.before.left =
    sym (append-nil source.now.taken) ∙ ap (λ t. source.now.taken ++ t) (sym all.nothing_left) ∙ kept in
    let bytes : source.now.taken ≡ source.before.left = took ∙ ap (λ t. t ++ source.before.left) untaken in
    record {
      read = record { took_all = took; nothing_left = all.nothing_left };
      within = ap is_over (sym bytes) ∙ all.within;
    }
