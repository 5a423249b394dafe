-- The line behind each look at the bytes and behind each read: the invariant of the loop, and what was found where it ends.
use Rattle.std.proofs.Common.{◌≡◌, ◌≤◌, ◌+◌, ◌-◌, ◌∙◌, ◌++◌, ap, length, take, arith, IsTrue}
use Rattle.std.proofs.lemmas.List.{append-nil, length-drop}
use Rattle.line_reader.specs.Newlines.{newlines}
use Rattle.line_reader.specs.Reading.{BeginsWithLine}
use Rattle.line_reader.specs.Search.{IsRestOfLine}
use Rattle.line_reader.proofs.SearchLemmas.{alone_after, ends, faults, found_line, held_more, line_within, nothing_came, past_limit, read_on, ready}
use Rattle.line_reader.proofs.search.find_end.Goals as goal
use Rattle.line_reader.proofs.search.find_end.Goals.{After-give_up-given_up}

no_newline : (g : _) (c : After-give_up-given_up g) → newlines (take (c.args.most - c.reading.given_up) c.reading.held) ≡ 0
no_newline g c = rw (← c.bytes.ensures.bytes) c.in_default.ensures

-- the line before the next read
before : (g : _) (c : After-give_up-given_up g) (told : IsTrue g.S.Source.tells)
    → let line = c.args.held.now ++ (c.reading.invariant.line told).added in
    (newlines line ≡ 0) × (length line ≤ c.args.most)
    × IsRestOfLine c.args.longest line c.give_up-given_up.new.held (c.reading.given_up + c.give_up-given_up.result)
before g c told =
    ready (c.reading.invariant.line told).line c.reading.invariant.given_up (no_newline g c) (omega arith) c.give_up-given_up.ensures.rest
    c.give_up-given_up.ensures.within c.give_up-given_up.ensures.long

-- giving bytes up changes nothing of how many there are
as_many : (g : _) (c : After-give_up-given_up g)
    → c.reading.given_up + c.give_up-given_up.result + length c.give_up-given_up.new.held ≡ c.reading.given_up + length c.reading.held
as_many g c =
    let within = c.give_up-given_up.ensures.within in
    let rest = ap length c.give_up-given_up.ensures.rest ∙ length-drop c.give_up-given_up.result c.reading.held in
    omega arith

pub returns-in-Some-clause-fits : goal.returns-in-Some-clause-fits
returns-in-Some-clause-fits g c =
    let found = line_within c.in-Some.ensures.1 in
    let within = c.in-Some.ensures.0 in
    let held = ap length c.bytes.ensures.bytes in
    (omega arith, omega arith, omega arith)

pub returns-in-Some-clause-searches : goal.returns-in-Some-clause-searches
returns-in-Some-clause-searches g c = λ told.
    let state = c.reading.invariant.line told in
    let found : BeginsWithLine c.reading.held c.in-Some.count = rw (← c.bytes.ensures.bytes) c.in-Some.ensures.1 in
    record {
      added = state.added;
      moves = state.moves;
      finds = (state.line.rest, (let long = found.long in omega arith, found_line state.line found));
    }

pub returns-then-len-most-clause-searches : goal.returns-then-len-most-clause-searches
returns-then-len-most-clause-searches g c = λ told.
    let state = c.reading.invariant.line told in
    let none : newlines (take (c.args.most - c.reading.given_up) c.reading.held) ≡ 0 = rw (← c.bytes.ensures.bytes) c.in_default.ensures in
    record {
      added = state.added;
      moves = state.moves;
      finds = past_limit state.line c.reading.invariant.given_up none (omega arith);
    }

pub at_end-requires : goal.at_end-requires
at_end-requires g c =
    let many = as_many g (goal.at.at_end-requires g c).After-give_up-given_up in
    let count = c.in-Ok-eq0.ensures.count in
    omega arith

pub returns-in-Ok-eq0-clause-searches : goal.returns-in-Ok-eq0-clause-searches
returns-in-Ok-eq0-clause-searches g c = λ told.
    let held = c.give_up-given_up.new.held in
    let line = before g (goal.at.returns-in-Ok-eq0-clause-searches g c).After-give_up-given_up told in
    let moves = c.in-Ok-eq0.ensures.ok told in
    let more = held_more held c.fill.new.self c.in-Ok-eq0.ensures.kept in
    let count = c.in-Ok-eq0.ensures.count in
    let nothing = nothing_came held _ more (omega arith) moves.front (c.in-Ok-eq0.ensures.end told c.in-Ok-eq0.field-0-test) in
    let same : c.fill.new.self ≡ held = more ∙ ap (λ x. held ++ x) nothing.0 ∙ append-nil held in
    let rest : IsRestOfLine c.args.longest (c.args.held.now ++ (c.reading.invariant.line told).added) c.fill.new.self
    (c.reading.given_up + c.give_up-given_up.result) = rw same line.2 in
    ends c.at_end.result (c.reading.invariant.line told) line.0 rest nothing.0 nothing.1 moves
    (rw (← c.len-in-Ok-eq0.ensures) c.at_end.ensures)

pub reading-preserved : goal.reading-preserved
reading-preserved g c =
    let k = (goal.at.reading-preserved g c).After-give_up-given_up in
    let kept = c.in-Ok.ensures.kept in
    record {
      searched = let count = c.in-Ok.ensures.count in omega arith;
      alone = alone_after c.reading.held c.give_up-given_up.new.held c.fill.new.self _ _ (no_newline g k) (omega arith) c.give_up-given_up.ensures.rest kept c.len-searched.ensures;
      given_up = omega arith;
      later = omega arith;
      line = λ told.
          let line = before g k told in
          read_on (c.reading.invariant.line told) line.0 line.2 (held_more c.give_up-given_up.new.held c.fill.new.self kept)
          (c.in-Ok.ensures.ok told);
    }

pub reading-smaller : goal.reading-smaller
reading-smaller g c =
    let many = as_many g (goal.at.reading-smaller g c).After-give_up-given_up in
    let count = c.in-Ok.ensures.count in
    omega arith

pub returns-in-Err-clause-searches : goal.returns-in-Err-clause-searches
returns-in-Err-clause-searches g c = λ told.
    let line = before g (goal.at.returns-in-Err-clause-searches g c).After-give_up-given_up told in
    faults (c.reading.invariant.line told) line.0 line.1 (c.in-Err.ensures.err told)
