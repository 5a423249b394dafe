-- What a pass shows of its seat.
use Rattle.atomic_table.specs.declared.shared.Seat.{Seat}
use Rattle.book_cells.specs.declared.known.Known.{Known}
use Rattle.book_cells.specs.Acts.{Shown}

module _ {S O C R : Type 0} where
  abbrev pub shown : Seat S (Known O C R) → Shown O C R
  shown t = let v = t.me.0 in record {
    cell = t.table_id;
    opening = v.opening;
    number = v.number;
    is_first = v.is_first;
    seen = v.seen;
    own = v.own;
    joined = v.joined;
    handed = v.handed;
  }
