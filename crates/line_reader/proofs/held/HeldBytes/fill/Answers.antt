use Rattle.std.proofs.Common.{◌≡◌, ◌≤◌, ◌+◌, ◌∙◌, ℕ, length, take, drop, arith}
use Rattle.std.specs.Prelude.{slice_range}
use Rattle.line_reader.proofs.HeldLemmas.{IsMore, grows, stays, whatever_err}
use Rattle.std.proofs.lemmas.List.{take_all}
use Rattle.line_reader.proofs.held.HeldBytes.fill.Goals as goal
use Rattle.line_reader.proofs.held.HeldBytes.fill.Goals.{After-read_behind}

-- what is held behind a read of so many bytes
more : (g : _) (c : After-read_behind g) (n : ℕ) → c.with_room-start.result.1 + n ≤ length c.with_room-start.new.bytes
    → IsMore c.args.self.now (slice_range c.read_behind.new.bytes c.with_room-start.result.0 (c.with_room-start.result.1 + n))
    (take n (drop c.with_room-start.result.1 c.read_behind.new.bytes)) n
more g c n room =
    grows c.with_room-start.new.bytes c.read_behind.new.bytes c.args.self.now c.with_room-start.result.0 c.with_room-start.result.1 n
    c.with_room-start.ensures.ordered (omega arith) (omega arith) c.read_behind.ensures.kept (c.with_room-start.ensures.same ∙ c.self.view_is)

-- what is held where nothing was read
same : (g : _) (c : After-read_behind g)
    → slice_range c.read_behind.new.bytes c.with_room-start.result.0 c.with_room-start.result.1 ≡ c.args.self.now
same g c =
    stays c.with_room-start.new.bytes c.read_behind.new.bytes c.with_room-start.result.0 c.with_room-start.result.1
    c.read_behind.ensures.kept (c.with_room-start.ensures.same ∙ c.self.view_is)

pub returns-in_err-count-clause-kept : goal.returns-in_err-count-clause-kept
returns-in_err-count-clause-kept g c =
    let same = same g (goal.at.returns-in_err-count-clause-kept g c).After-read_behind in
    rw same (take_all _ c.args.self.now (omega arith))

pub returns-in_err-count-clause-same : goal.returns-in_err-count-clause-same
returns-in_err-count-clause-same g c =
    whatever_err _ (same g (goal.at.returns-in_err-count-clause-same g c).After-read_behind)

pub returns-clause-count : goal.returns-clause-count
returns-clause-count g c = (more g (goal.at.returns-clause-count g c).After-read_behind _ c.in_ok-count.ensures.room).count

pub returns-clause-kept : goal.returns-clause-kept
returns-clause-kept g c = (more g (goal.at.returns-clause-kept g c).After-read_behind _ c.in_ok-count.ensures.room).kept

pub returns-clause-ok : goal.returns-clause-ok
returns-clause-ok g c = λ told.
    let more = more g (goal.at.returns-clause-ok g c).After-read_behind _ c.in_ok-count.ensures.room in
    rw more.came (c.in_ok-count.ensures.ok told)
