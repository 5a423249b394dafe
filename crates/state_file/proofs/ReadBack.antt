-- What is known of a meter is read back from its lines.
use Rattle.std.proofs.Common.{◌≡◌, ℕ, List, [], ◌∷◌, ◌++◌, map, reverse, Option, Some, None, refl, ap, sym, subst, ◌∙◌, append_assoc}
use Rattle.std.specs.Prelude.{IfSome}
use Rattle.std.proofs.lemmas.List.{append-nil, reverse-append, reverse-reverse}
use Rattle.lists.specs.Each.{Each}
use Rattle.lists.proofs.Members.{each_push}
use Rattle.afl_fragments.specs.Held.{Told}
use Rattle.afl_fragments.specs.Short.{told_of, cut_down}
use Rattle.afl_fragments.proofs.Holding.{held-nothing}
use Rattle.meter_slots.specs.declared.reading.Reading.{Reading}
use Rattle.meter_slots.specs.Journal.{Start}
use Rattle.state_file.specs.State.{with_lines}
use Rattle.state_file.specs.Text.{reading_line, reading_lines, mark_line, commands_lines, bare, IsSpeltReading, IsSpeltMark}
use Rattle.state_file.specs.Text.{LinesAreReadBack}
use Rattle.state_file.proofs.LineBack.{next, reading_back, mark_back}
use Rattle.state_file.proofs.CommandsBack.{commands_back}

-- marks on top of others, the first of them first
abbrev onto : List Told → List Told → List Told
onto [] before = before
onto (m ∷ ms) before = onto ms (m ∷ before)

onto_is : (ms before : List Told) → onto ms before ≡ reverse ms ++ before
onto_is [] before = refl
onto_is (m ∷ ms) before =
    onto_is ms (m ∷ before) ∙ sym (append_assoc (reverse ms) (m ∷ []) before)
    ∙ ap (λ xs. xs ++ before) (sym (reverse-append (m ∷ []) ms))

marks_back : (c : Start) (before ms : List Told) (rest : List (List ℕ)) → c.told ≡ cut_down before → Each IsSpeltMark ms
    → with_lines c (map mark_line ms ++ rest) ≡ with_lines (record c { told = cut_down (onto ms before) }) rest
marks_back c before [] rest e each = ap (λ t. with_lines (record c { told = t }) rest) e
marks_back c before (m ∷ ms) rest e each =
    let more = record c { told = cut_down (m ∷ before) } in
    next c more (mark_line m) (map mark_line ms ++ rest) (mark_back c before m e each.0)
    ∙ marks_back more (m ∷ before) ms rest refl each.1

pub each_reverse : (ms : List Told) → Each IsSpeltMark ms → Each IsSpeltMark (reverse ms)
each_reverse [] each = tt
each_reverse (m ∷ ms) each =
    subst (Each IsSpeltMark) (sym (reverse-append (m ∷ []) ms)) (each_push IsSpeltMark (reverse ms) m (each_reverse ms each.1) each.0)

reading_first : (c : Start) (o : Option Reading) (rest : List (List ℕ)) → c.reading ≡ None → IfSome o IsSpeltReading
    → with_lines c (reading_lines o ++ rest) ≡ with_lines (record c { reading = o }) rest
reading_first c None rest none is = ap (λ o. with_lines (record c { reading = o }) rest) none
reading_first c (Some r) rest none is = next c (record c { reading = Some r }) (reading_line r) rest (reading_back c r none is)

pub lines_back : LinesAreReadBack
lines_back c is =
    let commands = commands_lines c.orders.window c.orders.queue.commands in
    let marks = map mark_line (reverse c.told) in
    let read = record (bare c) { reading = c.reading } in
    let again : onto (reverse c.told) [] ≡ c.told =
    onto_is (reverse c.told) [] ∙ append-nil (reverse (reverse c.told)) ∙ reverse-reverse c.told in
    ap (with_lines (bare c)) (append_assoc (reading_lines c.reading) marks commands)
    ∙ reading_first (bare c) c.reading (marks ++ commands) refl is.reading
    ∙ marks_back read [] (reverse c.told) commands (sym (ap told_of held-nothing)) (each_reverse c.told is.marks)
    ∙ ap (λ t. with_lines (record read { told = t }) commands) (ap cut_down again ∙ is.short)
    ∙ commands_back c c.orders.window c.orders.queue.commands is.sound is.agrees is.commands
