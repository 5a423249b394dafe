use Rattle.std.proofs.Common.{◌∷◌, ◌++◌, [], Ok, Err, cond, not, ap, sym, ◌∙◌, inr}
use Rattle.roster_file.specs.Roster.{meters_of}
use Rattle.roster_file.proofs.RosterLines.{meters_by, meters_end}
use Rattle.roster_file.proofs.reader.read_meters.Goals as goal

pub returns-in-Err-clause-fault : goal.returns-in-Err-clause-fault
returns-in-Err-clause-fault c =
    let given = rw c.as_slice.ensures.value at c.in-Err.ensures in
    inr (c.lines.invariant ∙ ap (meters_of c.args.version c.lines.meters.items) c.in-Ok.ensures.entry
    ∙ meters_by c.args.version c.lines.meters.items (Err c.in-Err.fault)
    (c.in-Ok.entry.line, c.in-Ok.entry.text.now) c.next.new.self.entries given)

pub lines-preserved : goal.lines-preserved
lines-preserved c =
    let meters = c.lines.meters.items in
    let more = meters ++ c.in-Ok-next_meter.meter ∷ [] in
    let given = rw c.as_slice.ensures.value at c.in-Ok-next_meter.ensures in
    let pushed = c.push.ensures.items ∙ ap (λ b. cond b more meters) (c.is_err.ensures.negation ∙ ap not c.if-is_err.false) in
    c.lines.invariant ∙ ap (meters_of c.args.version meters) c.in-Ok.ensures.entry
    ∙ meters_by c.args.version meters (Ok more) (c.in-Ok.entry.line, c.in-Ok.entry.text.now) c.next.new.self.entries given
    ∙ ap (λ ms. meters_of c.args.version ms c.next.new.self.entries) (sym pushed)

pub returns-clause-found : goal.returns-clause-found
returns-clause-found c = c.lines.invariant ∙ ap (meters_of c.args.version c.lines.meters.items) c.in_default.ensures.entry.0
    ∙ meters_end c.args.version c.lines.meters.items
