use Rattle.std.proofs.Common.{◌≡◌, take, drop}
use Rattle.outer_io.proofs.Parts.{moves, read_out}
use Rattle.outer_io.proofs.in_memory.MemorySourceSource.read.Goals as goal

pub returns-clause-ok : goal.returns-clause-ok
returns-clause-ok c =
    let front : take c.copy_front-count.result c.copy_front-count.new.into ≡ take c.copy_front-count.result
    (drop c.self.inside.at c.self.inside.bytes.items) = cc
    in rw (← c.self.view_is) (moves _ _ _ _ front)

pub returns-clause-end : goal.returns-clause-end
returns-clause-end c = λ zero.
    rw (← c.self.view_is, ← c.deref.ensures.value, ← c.split_at.ensures.back)
    (read_out _ _ _ _ c.requires c.limited-most.ensures.some c.copy_front-count.ensures.count zero)
