-- A session that was audited, and began from what the session so far left.
use Rattle.std.proofs.Common.{◌≡◌, ◌∙◌, List, [], ◌∷◌, map, Ok, refl, ap, sym, subst}
use Rattle.std.specs.Prelude.{IfSome}
use Rattle.lists.specs.Each.{EachWith}
use Rattle.meter_address.specs.declared.address.Address.{Address}
use Rattle.meter_slots.specs.Journal.{Start, SlotView}
use Rattle.meter_slots.specs.Resuming.{known_now, resumed}
use Rattle.meter_slots.proofs.Cuts.{resumed_goes_on}
use Rattle.meter_slots.proofs.Renumbering.{resumed_renumbered}
use Rattle.receivers.specs.Cuts.{numbered_on, slot_on, slots_on}
use Rattle.receivers.specs.Session.{IsMetersSlot, IsSession}
use Rattle.receivers.specs.declared.told.Told.{Told}
use Rattle.receivers.proofs.SessionCuts.{cut_sessions}
use Rattle.state_file.specs.Left.{left_state}
use Rattle.state_file.specs.Whole.{Known, state_of}
use Rattle.state_file.specs.Written.{state_text}
use Rattle.audit_check_main.specs.Audit.{heard_of}
use Rattle.audit_check_main.specs.Leaving.{IsLeftBy}
use Rattle.audit_laws.specs.Laws.{AuditedSessionsAreOne, AuditedSessionsGoOn}

-- what is known of the meters behind both journals is what is known behind the later one
known_on : (own : Address) (before after : List (List Told)) (bs ds : List SlotView)
    → EachWith (IsMetersSlot own after) (map known_now bs) ds → map known_now ds ≡ map known_now (slots_on before bs ds)
known_on own before after [] [] h = refl
known_on own before after (b ∷ bs) (d ∷ ds) h =
    let begun : d.start ≡ resumed b.start b.journal = h.0.commission_is in
    let one : known_now d ≡ known_now (slot_on before b d) =
    ap (λ (c : Start). resumed c d.journal) begun
    ∙ (sym (resumed_renumbered (numbered_on before) (λ x. refl) (λ x. refl) (resumed b.start b.journal) d.journal)
    ∙ resumed_goes_on b.start b.journal (map (numbered_on before) d.journal)) in
    (λ i. one i ∷ known_on own before after bs ds h.1 i)
known_on own before after _ _ h = absurd h

pub goes_on : AuditedSessionsGoOn
goes_on own starts before all world later faithful session begun heard =
    let state : state_of later.state ≡ Ok (left_state own world.slots) = ap state_of begun.text_is ∙ begun.read_back in
    let read = sym faithful.ordered.form.readable.state_is ∙ state in let same : faithful.known ≡ left_state own world.slots = cc in
    let later_session =
    subst (λ (k : Known). IsSession k.own k.starts (heard_of later) faithful.world) same faithful.ordered.session in
    let left : left_state faithful.known.own faithful.world.slots ≡ left_state own (slots_on before world.slots faithful.world.slots) =
    λ i. record {
      own = (same i).own;
      starts = known_on own before (heard_of later) world.slots faithful.world.slots later_session.meters i;
    } in
    record {
      session = cut_sessions own starts before (heard_of later) all world faithful.world heard session later_session;
      left = λ text is. record {
        text_is = is.text_is ∙ ap state_text left;
        read_back = subst (λ (k : Known). state_of (state_text k) ≡ Ok k) left is.read_back;
      };
    }

pub one_session : AuditedSessionsAreOne
one_session first later one two all next heard =
    goes_on one.known.own one.known.starts (heard_of first) all one.world later two one.ordered.session
    (subst (λ n. IfSome n (IsLeftBy one.known.own one.world.slots)) next one.left) heard
