use Rattle.std.proofs.Common.{◌∷◌, ◌++◌, [], Ok, Err, ap, sym, ◌∙◌, append_assoc}
use Rattle.std.proofs.lemmas.List.{append-nil}
use Rattle.input_check.specs.RosterFaults.{faults_in}
use Rattle.input_check.proofs.RosterFaults.{faults_by, faults_end}
use Rattle.input_check.proofs.roster_faults.add_meter_faults.Goals as goal

pub lines-preserved-in-Continue-1 : goal.lines-preserved-in-Continue-1
lines-preserved-in-Continue-1 c =
    let version = c.args.version in
    let meters = c.lines.meters.items in
    let faults = c.lines.faults.items in
    let more = meters ++ c.in-Ok-next_meter.meter ∷ [] in
    let given = rw c.as_slice.ensures.value at c.in-Ok-next_meter.ensures in
    c.lines.invariant ∙ ap (λ es. faults ++ faults_in version meters es) c.in-Ok.ensures.entry
    ∙ ap (λ fs. faults ++ fs) (faults_by version meters (Ok more) (c.in-Ok.entry.line, c.in-Ok.entry.text.now) c.next.new.self.entries given)
    ∙ ap (λ ms. faults ++ faults_in version ms c.next.new.self.entries) (sym c.in_ok-push-in-Ok-next_meter.ensures.items)

pub lines-preserved : goal.lines-preserved
lines-preserved c =
    let version = c.args.version in
    let meters = c.lines.meters.items in
    let faults = c.lines.faults.items in
    let given = rw c.as_slice.ensures.value at c.in-Err.ensures in
    let others = faults_in version meters c.next.new.self.entries in
    c.lines.invariant ∙ ap (λ es. faults ++ faults_in version meters es) c.in-Ok.ensures.entry
    ∙ ap (λ fs. faults ++ fs) (faults_by version meters (Err c.in-Err.fault) (c.in-Ok.entry.line, c.in-Ok.entry.text.now)
    c.next.new.self.entries given)
    ∙ sym (append_assoc faults (c.in-Err.fault ∷ []) others) ∙ ap (λ fs. fs ++ others) (sym c.in_ok-push-in-Err.ensures.items)

pub returns : goal.returns
returns c =
    let version = c.args.version in
    let meters = c.lines.meters.items in
    let faults = c.lines.faults.items in
    sym (c.lines.invariant ∙ ap (λ es. faults ++ faults_in version meters es) c.in_default.ensures.entry.0
    ∙ ap (λ fs. faults ++ fs) (faults_end version meters) ∙ append-nil faults)
