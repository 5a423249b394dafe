use Rattle.meter_slots.proofs.standing.Standing.answer.Goals as goal

pub returns-in_ok-hear-in-None-clause-outcome : goal.returns-in_ok-hear-in-None-clause-outcome
returns-in_ok-hear-in-None-clause-outcome c told stands =
    rw c.in-Hear.is (c.in_ok-hear-in-None.ensures.outcome c.in-Hear.format told stands)

pub returns-in_ok-hear-in-None-clause-reading : goal.returns-in_ok-hear-in-None-clause-reading
returns-in_ok-hear-in-None-clause-reading c told stands =
    rw c.in-Hear.is (c.in_ok-hear-in-None.ensures.reading c.in-Hear.format told stands)

pub returns-in_ok-hear-in-None-clause-moves : goal.returns-in_ok-hear-in-None-clause-moves
returns-in_ok-hear-in-None-clause-moves c told stands =
    let heard = c.in_ok-hear-in-None.ensures in
    rw c.in-Hear.is (record {
      commission = heard.commission;
      last = heard.last;
      parts = heard.parts c.in-Hear.format told stands;
      orders = heard.orders c.in-Hear.format told stands;
    })
