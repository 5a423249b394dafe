-- Where the lines stand behind each answer: a search behind the line that was lent found a line, an end, a limit or a fault.
use Rattle.std.proofs.Common.{◌∙◌, List, ℕ, ap, arith, IsTrue}
use Rattle.outer_io.specs.Bytes.{Moves}
use Rattle.line_reader.proofs.ReaderLemmas.{IsSearch, search_of, reader_after, keeps_line, gives_line, line_of_all, lent_line, long_line, same_lines, same_of_all, at_end, broken_off, past_limit, last_end, all_bytes}
use Rattle.line_reader.proofs.text_reader.TextReader.next.Goals as goal
use Rattle.line_reader.proofs.text_reader.TextReader.next.Goals.{After-most_bytes-most}

search : (g : _) (c : After-most_bytes-most g) → IsTrue g.S.Source.tells → {added taken' left' : List ℕ}
    → Moves added (g.S.Source.taken c.self.inside.source) (g.S.Source.left c.self.inside.source) taken' left'
    → IsSearch c.self.inside.start c.self.inside.line c.most_bytes-most.result (g.S.Source.taken c.self.inside.source)
    c.advance.new.self added taken'
search g c told moves =
    search_of c.self.invariant c.advance.ensures told (ap (λ r. r.reader.done) c.self.view_is ∙ c.requires) c.if-self.false
    c.most_bytes-most.ensures.line c.most_bytes-most.ensures.none moves

pub returns-then-self-clause-end : goal.returns-then-self-clause-end
returns-then-self-clause-end g c = λ is told.
    last_end (c.self.invariant.keeps.last told (ap (λ r. r.reader.done) c.self.view_is ∙ c.requires) c.if-self.true)

pub invariant_of-self-then-self-eq0 : goal.invariant_of-self-then-self-eq0
invariant_of-self-then-self-eq0 g c =
    reader_after c.self.invariant c.most_bytes-most.ensures.line c.most_bytes-most.ensures.none c.in-Line.ensures.fits
    c.lend-self-inside.ensures (λ told.
    let found = c.in-Line.ensures.searches told in
    let s = search g (goal.at.invariant_of-self-then-self-eq0 g c).After-most_bytes-most told found.moves in
    keeps_line s found.finds.0 c.in-Line.ensures.fits _ _ _ c.in-Line.last found.finds.1)

pub invariant_of-self-in-Line : goal.invariant_of-self-in-Line
invariant_of-self-in-Line g c =
    reader_after c.self.invariant c.most_bytes-most.ensures.line c.most_bytes-most.ensures.none c.in-Line.ensures.fits
    c.lend-self-inside.ensures (λ told.
    let found = c.in-Line.ensures.searches told in
    let s = search g (goal.at.invariant_of-self-in-Line g c).After-most_bytes-most told found.moves in
    keeps_line s found.finds.0 c.in-Line.ensures.fits _ _ _ c.in-Line.last found.finds.1)

pub returns-then-self-eq0-clause-lines : goal.returns-then-self-eq0-clause-lines
returns-then-self-eq0-clause-lines g c = λ told.
    let found = c.in-Line.ensures.searches told in
    let s = search g (goal.at.returns-then-self-eq0-clause-lines g c).After-most_bytes-most told found.moves in
    rw (← c.self.view_is) (long_line (gives_line s found.finds.0 c.in-Line.ensures.fits _ c.in-Line.last found.finds.1)
    c.lend-self-inside.ensures c.if-self-eq0.true)

pub returns-else-self-eq0-clause-lines : goal.returns-else-self-eq0-clause-lines
returns-else-self-eq0-clause-lines g c = λ told.
    let found = c.in-Line.ensures.searches told in
    let s = search g (goal.at.returns-else-self-eq0-clause-lines g c).After-most_bytes-most told found.moves in
    rw (← c.self.view_is) (lent_line (gives_line s found.finds.0 c.in-Line.ensures.fits _ c.in-Line.last found.finds.1)
    c.lend-self-inside.ensures (omega arith))

pub returns-then-self-eq0-clause-pieces : goal.returns-then-self-eq0-clause-pieces
returns-then-self-eq0-clause-pieces g c = λ told.
    let found = c.in-Line.ensures.searches told in
    let s = search g (goal.at.returns-then-self-eq0-clause-pieces g c).After-most_bytes-most told found.moves in
    line_of_all s found.finds.0 c.in-Line.ensures.fits _ c.in-Line.last found.finds.1

pub returns-else-self-eq0-clause-pieces : goal.returns-else-self-eq0-clause-pieces
returns-else-self-eq0-clause-pieces g c = λ told.
    let found = c.in-Line.ensures.searches told in
    let s = search g (goal.at.returns-else-self-eq0-clause-pieces g c).After-most_bytes-most told found.moves in
    line_of_all s found.finds.0 c.in-Line.ensures.fits _ c.in-Line.last found.finds.1

pub returns-then-self-eq0-clause-bytes : goal.returns-then-self-eq0-clause-bytes
returns-then-self-eq0-clause-bytes g c = λ told. rw (← c.self.view_is) (all_bytes (c.in-Line.ensures.searches told).moves)

pub returns-in-Source-clause-end : goal.returns-in-Source-clause-end
returns-in-Source-clause-end g c = λ is told.
    let found = c.in-Source.ensures.searches told in
    at_end (search g (goal.at.returns-in-Source-clause-end g c).After-most_bytes-most told found.moves) _ found.finds.0 found.finds.1

pub returns-in-Limit-clause-lines : goal.returns-in-Limit-clause-lines
returns-in-Limit-clause-lines g c = λ told.
    rw (← c.self.view_is) (same_lines (search g (goal.at.returns-in-Limit-clause-lines g c).After-most_bytes-most told
    (c.in-Limit.ensures.searches told).moves))

pub returns-in-Limit-clause-pieces : goal.returns-in-Limit-clause-pieces
returns-in-Limit-clause-pieces g c = λ told.
    same_of_all (search g (goal.at.returns-in-Limit-clause-pieces g c).After-most_bytes-most told (c.in-Limit.ensures.searches told).moves) _

pub returns-in-Limit-clause-cut : goal.returns-in-Limit-clause-cut
returns-in-Limit-clause-cut g c = λ is told.
    let found = c.in-Limit.ensures.searches told in
    past_limit (search g (goal.at.returns-in-Limit-clause-cut g c).After-most_bytes-most told found.moves) _ found.finds.0 found.finds.1

pub returns-in-Fault-clause-lines : goal.returns-in-Fault-clause-lines
returns-in-Fault-clause-lines g c = λ told.
    rw (← c.self.view_is) (same_lines (search g (goal.at.returns-in-Fault-clause-lines g c).After-most_bytes-most told
    (c.in-Fault.ensures.searches told).moves))

pub returns-in-Fault-clause-pieces : goal.returns-in-Fault-clause-pieces
returns-in-Fault-clause-pieces g c = λ told.
    same_of_all (search g (goal.at.returns-in-Fault-clause-pieces g c).After-most_bytes-most told (c.in-Fault.ensures.searches told).moves) _

pub returns-in-Fault-clause-fault : goal.returns-in-Fault-clause-fault
returns-in-Fault-clause-fault g c = λ told.
    let found = c.in-Fault.ensures.searches told in
    broken_off (search g (goal.at.returns-in-Fault-clause-fault g c).After-most_bytes-most told found.moves) found.finds.0 found.finds.1
