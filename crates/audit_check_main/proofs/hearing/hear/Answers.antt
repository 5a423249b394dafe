use Rattle.std.proofs.Common.{◌≡◌, ◌+◌, ◌≤◌, ◌<◌, ◌∙◌, map, take, length, refl, sym, ap, subst, arith}
use Rattle.std.specs.List.{slice_get}
use Rattle.std.specs.Str.Lines.{lines}
use Rattle.std.proofs.lemmas.List.{length-map}
use Rattle.meter_address.specs.Address.{AreApart}
use Rattle.meter_slots.specs.Journal.{Start}
use Rattle.receivers.specs.Told.{told_of}
use Rattle.audit_check_main.specs.Hearing.{counts_in, list_in, sort_by, told_by_text}
use Rattle.audit_check_main.proofs.HeardLists.{HaveComeTo, come_next, few_lines, first_few, heard_is, sorted_within}
use Rattle.audit_check_main.proofs.hearing.hear.Goals as goal

pub overflow_cast-place : goal.overflow_cast-place
overflow_cast-place c =
    let few = few_lines c.args.input.now c.requires.within in
    let inside = c.loop-place-test.true in
    let end = c.line_count-place-end.ensures in omega arith

pub overflow_add-place : goal.overflow_add-place
overflow_add-place c =
    let few = few_lines c.args.input.now c.requires.within in
    let inside = c.loop-place-test.true in
    let end = c.line_count-place-end.ensures in omega arith

pub note-requires-clause-within : goal.note-requires-clause-within
note-requires-clause-within c =
    subst (λ s. list_in s ≤ length c.args.meters.now) (sym c.sort_of-sort.ensures)
    (sorted_within c.args.directory.now (length c.args.meters.now) c.whose_at.result
    (ap length c.requires.directory ∙ length-map c.args.meters.now (λ (m : Start). m.address)))

pub loop-place-preserved : goal.loop-place-preserved
loop-place-preserved c =
    let test = c.loop-place-test.true in
    let end = c.line_count-place-end.ensures in
    let inside : c.loop-place.place < length (lines c.args.input.now) = omega arith in
    subst (λ kinds. HaveComeTo c.args.meters.now (map told_of (take (c.loop-place.place + 1) (lines c.args.input.now)))
    c.note.new.lists.items kinds) (sym c.in_ok-push.ensures.items)
    (come_next c.args.meters.now (lines c.args.input.now) c.loop-place.place
    (told_by_text (slice_get (lines c.args.input.now) c.loop-place.place)) inside refl c.loop-place.lists.items c.note.new.lists.items
    c.loop-place.classes.items c.in_ok-note.field-0 c.sort_of-sort.result (subst AreApart c.requires.directory c.requires.apart)
    c.loop-place.invariant (c.sort_of-sort.ensures ∙ (λ i. sort_by (c.requires.directory i) (c.whose_at.ensures i)))
    c.in_ok-note.ensures.lists c.in_ok-note.ensures.class)

pub counts_of-requires : goal.counts_of-requires
counts_of-requires c =
    let few = first_few c.args.meters.now c.args.input.now c.loop-place.place c.loop-place.lists.items c.loop-place.classes.items
    c.requires.within c.loop-place.invariant in
    let value = ap length c.as_slice.ensures.value in omega arith

pub returns : goal.returns
returns c =
    let past = c.loop-place-test.false in
    let most = c.loop-place.auto.place-end in
    let end = c.line_count-place-end.ensures in
    let whole : c.loop-place.place ≡ length (lines c.args.input.now) = omega arith in
    heard_is c.args.meters.now c.args.input.now c.loop-place.place c.loop-place.lists.items c.loop-place.classes.items c.counts_of.result
    c.loop-place.invariant whole (c.counts_of.ensures ∙ ap counts_in c.as_slice.ensures.value)
