use Rattle.std.proofs.Common.{◌≡◌, length, take, vec_len}
use Rattle.audit_check_main.specs.Cursors.{HaveTaken}
use Rattle.audit_check_main.specs.Hearing.{numbers_in_list}
use Rattle.audit_check_main.proofs.orders.wrong_place.Given as goal

abbrev pub invariant-loop-place : goal.invariant-loop-place
invariant-loop-place l = record {
  count : vec_len l.taken ≡ length l.heard;
  so : HaveTaken (numbers_in_list l.heard l.list) (take l.place l.order) l.taken.items;
}
