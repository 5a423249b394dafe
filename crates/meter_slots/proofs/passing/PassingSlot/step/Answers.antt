use Rattle.std.proofs.Common.{[], ◌∷◌, ◌++◌, refl}
use Rattle.meter_slots.proofs.Passages.{passing_answer, passing_after, passing_reading}
use Rattle.meter_slots.proofs.passing.PassingSlot.step.Goals as goal

pub invariant_of-self-2 : goal.invariant_of-self-2
invariant_of-self-2 c =
    let s = c.self.inside in
    let served = c.in_ok-served.served in
    let some = c.self.invariant.0 in (
      record {
        journal = some.journal ++ record { source = 0; line = 0; event = c.args.event.now; outcome = served.outcome } ∷ [];
        keeps =
            passing_after (record { own = s.own; start = s.start.value; kept = s.standing }) s.own s.start.value s.standing c.answer.new.self
            c.args.event.now served.outcome served.reading refl c.in_ok-served.ensures.outcome c.show_payload.ensures
            c.in_ok-served.ensures.number c.in_ok-served.ensures.reading c.in_ok-served.ensures.moves some.journal 0 0 some.keeps;
      },
      c.self.invariant.1,
    )

pub returns-clause-outcome : goal.returns-clause-outcome
returns-clause-outcome c =
    passing_answer _ _ _ _ c.answer.new.self _ _ c.in_ok-served.served.reading c.self.view_is c.in_ok-served.ensures.outcome

pub returns-clause-after : goal.returns-clause-after
returns-clause-after c =
    passing_after _ _ _ _ _ _ _ c.in_ok-served.served.reading c.self.view_is c.in_ok-served.ensures.outcome c.show_payload.ensures
    c.in_ok-served.ensures.number c.in_ok-served.ensures.reading c.in_ok-served.ensures.moves

pub returns-clause-reading : goal.returns-clause-reading
returns-clause-reading c =
    passing_reading _ _ _ _ c.answer.new.self _ _ c.in_ok-served.served.reading c.self.view_is c.in_ok-served.ensures.outcome
    c.show_payload.ensures c.in_ok-served.ensures.number c.in_ok-served.ensures.reading c.in_ok-served.ensures.moves
