use Rattle.std.proofs.Common.{◌≡◌, List, [], ◌∷◌, ◌++◌, reverse, refl, sym, ap, ◌∙◌, subst}
use Rattle.meter_slots.specs.declared.entry.Entry.{Entry}
use Rattle.meter_slots.specs.Journal.{SlotView, Legal, outcome}
use Rattle.meter_slots.specs.Laws.{IsLeft}
use Rattle.meter_slots.proofs.JournalLaws.{refused_left}
use Rattle.meter_slots.proofs.Journals.{answer_kept, kept_after}
use Rattle.meter_slots.proofs.book.SlotBook.step.Goals as goal

pub invariant_of-self-2 : goal.invariant_of-self-2
invariant_of-self-2 c =
    let b = c.self.inside in
    let given = c.in_ok-served.served.outcome in
    let x : Entry = record { source = c.args.source; line = c.args.line; event = c.args.event; outcome = given } in
    let judged = answer_kept _ _ _ _ _ c.args.event given c.self.invariant.0 c.in_ok-served.ensures.outcome in
    rw (
      c.push_reserved.ensures.items,
      c.note.ensures,
      c.reserve.ensures.items,
      c.reserve-2.ensures.items,
      c.copied.ensures,
      c.of.ensures,
    ) (
      kept_after b.start.value b.own b.entries.items b.standing b.readings.items x c.answer.new.self _ c.self.invariant.0 c.show_payload.ensures
          judged
          c.in_ok-served.ensures.number c.in_ok-served.ensures.reading c.in_ok-served.ensures.moves,
      c.self.invariant.1,
    )

pub returns-clause-outcome : goal.returns-clause-outcome
returns-clause-outcome c =
    answer_kept _ _ _ _ _ c.args.event c.in_ok-served.served.outcome c.self.invariant.0 c.in_ok-served.ensures.outcome
    ∙ ap (λ v. outcome v.start v.own (reverse v.journal) c.args.event) c.self.view_is

pub returns-clause-legal : goal.returns-clause-legal
returns-clause-legal c = (invariant_of-self-2 c).0.legal

pub returns-clause-refused : goal.returns-clause-refused
returns-clause-refused c r =
    let b = c.self.inside in
    let x : Entry = record { source = c.args.source; line = c.args.line; event = c.args.event; outcome = c.in_ok-served.served.outcome } in
    let made : c.push_reserved.new.self.items ≡ b.entries.items ++ x ∷ [] =
    rw (c.push_reserved.ensures.items, c.reserve.ensures.items, c.copied.ensures, c.of.ensures) refl in
    let old : SlotView = record { own = b.own; start = b.start.value; journal = b.entries.items } in
    let legal = subst (Legal b.start.value b.own) made (invariant_of-self-2 c).0.legal in
    let left = refused_left b.start.value b.own b.entries.items x legal r in
    subst (λ (v : SlotView). IsLeft v (record { own = b.own; start = b.start.value; journal = c.push_reserved.new.self.items }))
    c.self.view_is
    (subst (λ (js : List Entry). IsLeft old (record { own = b.own; start = b.start.value; journal = js })) (sym made) left)
