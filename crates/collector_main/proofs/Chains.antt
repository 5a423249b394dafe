-- A run that goes on where another one ended.
use Rattle.std.proofs.Common.{◌≡◌, Result, Ok, map, sym, ap, subst, ◌∙◌}
use Rattle.receivers.specs.HeardLines.{tellings}
use Rattle.receivers.specs.Session.{IsSession}
use Rattle.receivers.proofs.SessionCuts.{cut_sessions}
use Rattle.state_file.specs.Left.{left_state}
use Rattle.state_file.specs.Whole.{Known, state_of}
use Rattle.state_file.specs.declared.fault.StateFault.{StateFault}
use Rattle.collector_main.specs.declared.form.Form.{Form}
use Rattle.collector_main.specs.declared.form.Form.TheVariants.{State}
use Rattle.collector_main.specs.Begin.{known_of}
use Rattle.collector_main.specs.Chains.{ContinuedRunsAreOne}
use Rattle.collector_main.specs.Heard.{left_known, next_of}

ok_is : (a b : Known) → (let x : Result Known StateFault = Ok a in x) ≡ Ok b → a ≡ b
ok_is a b h = cc

pub continued_runs_are_one : ContinuedRunsAreOne
continued_runs_are_one first later one two all on heard =
    let own = one.heard.known.own in
    let slots = one.heard.world.slots in
    let left : state_of (next_of State one.heard) ≡ Ok (left_state own slots) =
    subst (λ (f : Form). known_of f (next_of f one.heard) ≡ Ok (left_known f own slots)) on.first_form (one.left on.leaves) in
    let begun : state_of (next_of State one.heard) ≡ Ok two.heard.known =
    ap state_of (sym on.beginning)
    ∙ subst (λ (f : Form). known_of f later.beginning.before.left ≡ Ok two.heard.known) on.later_form two.known_is in
    let same : two.heard.known ≡ left_state own slots = ok_is two.heard.known (left_state own slots) (sym begun ∙ left) in
    let session = subst (λ (k : Known). IsSession k.own k.starts (map tellings two.heard.receivers) two.heard.world) same two.session in
    cut_sessions own one.heard.known.starts (map tellings one.heard.receivers) (map tellings two.heard.receivers) all one.heard.world two.heard.world
    heard one.session session
