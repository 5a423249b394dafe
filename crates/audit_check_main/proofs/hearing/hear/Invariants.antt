use Rattle.std.proofs.Common.{map, take}
use Rattle.std.specs.Str.Lines.{lines}
use Rattle.receivers.specs.Told.{told_of}
use Rattle.audit_check_main.proofs.HeardLists.{HaveComeTo}
use Rattle.audit_check_main.proofs.hearing.hear.Given as goal

abbrev pub invariant-loop-place : goal.invariant-loop-place
invariant-loop-place l = HaveComeTo l.meters (map told_of (take l.place (lines l.input))) l.lists.items l.classes.items
