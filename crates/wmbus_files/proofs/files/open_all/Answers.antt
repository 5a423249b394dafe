use Rattle.std.proofs.Common.{◌≡◌, ◌-◌, ◌/◌, ◌∙◌, length, map, vec_len, sym, ap, subst, arith}
use Rattle.std.specs.String.{string_bytes}
use Rattle.std.proofs.lemmas.List.{length-map}
use Rattle.wmbus_words.specs.Words.{receiver_count}
use Rattle.wmbus_files.proofs.Plans.{IsCounted, words_counted, counted_so}
use Rattle.wmbus_files.proofs.files.open_all.Goals as goal

pub bounds-command-1 : goal.bounds-command-1
bounds-command-1 g c =
    let command = c.args.command.now in
    let many : length (map string_bytes command) ≡ length command = length-map command string_bytes in
    let three =
    subst (IsCounted (length (map string_bytes command))) c.in-Hear.is
    (words_counted (map string_bytes command) c.args.plan c.requires) in
    omega (arith, many, three)

pub bounds-command-2 : goal.bounds-command-2
bounds-command-2 g c =
    let command = c.args.command.now in
    let many : length (map string_bytes command) ≡ length command = length-map command string_bytes in
    let three =
    subst (IsCounted (length (map string_bytes command))) c.in-Hear.is
    (words_counted (map string_bytes command) c.args.plan c.requires) in
    omega (arith, many, three)

pub open_named-requires : goal.open_named-requires
open_named-requires g c =
    let command = c.args.command.now in
    let many : length (map string_bytes command) ≡ length command = length-map command string_bytes in
    let counted =
    subst (IsCounted (length (map string_bytes command))) c.in-Collect.is
    (words_counted (map string_bytes command) c.args.plan c.requires) in
    let six = counted.0 in
    omega (arith, many, six)

pub returns-in-Collect-clause-count : goal.returns-in-Collect-clause-count
returns-in-Collect-clause-count g c =
    let command = c.args.command.now in
    let many : length (map string_bytes command) ≡ length command = length-map command string_bytes in
    let counted =
    subst (IsCounted (length (map string_bytes command))) c.in-Collect.is
    (words_counted (map string_bytes command) c.args.plan c.requires) in
    counted_so c.open_named.result (λ files. vec_len files.receivers) _ _
    (ap (λ n. (n - 4) / 2) (sym many) ∙ sym counted.1 ∙ ap receiver_count (sym c.in-Collect.is)) c.open_named.ensures.count

pub returns-in-Continue-clause-count : goal.returns-in-Continue-clause-count
returns-in-Continue-clause-count g c =
    let command = c.args.command.now in
    let many : length (map string_bytes command) ≡ length command = length-map command string_bytes in
    let counted =
    subst (IsCounted (length (map string_bytes command))) c.in-Continue.is
    (words_counted (map string_bytes command) c.args.plan c.requires) in
    counted_so c.open_named-in-Continue.result (λ files. vec_len files.receivers) _ _
    (ap (λ n. (n - 4) / 2) (sym many) ∙ sym counted.1 ∙ ap receiver_count (sym c.in-Continue.is)) c.open_named-in-Continue.ensures.count
