use Rattle.std.proofs.Common.{ℕ, List, sym, ap, option_map, option_copied}
use Rattle.std.specs.Prelude.{codes}
use Rattle.json.specs.Print.{escape_byte}
use Rattle.serde_json.specs.Data.{Data, boolean, string, object}
use Rattle.serde_json.specs.Written.{compact_text}
use Rattle.paper.proofs.Items.{is_put}
use Rattle.record_text.specs.Lines.{fault_text}
use Rattle.report_text.specs.Readings.{or_null, members}
use Rattle.report_text.proofs.MembersPut.{no_more, and_known, and_member, and_text, object_put}
use Rattle.step_text.specs.Lines.{event_word, stored_members}
use Rattle.step_text.proofs.stored.put_stored.Goals as goal

pub returns : goal.returns
unfolding escape_byte
returns g c =
    let a = c.args in
    let event = event_word a.event.now in
    let reading = option_copied a.reading in
    let payload = c.payload_of-payload.result.now in
    let tree : List ℕ → Data = λ bytes. object (members (stored_members a.line a.address event reading a.counter a.confirmed a.sent.now bytes)) in
    let fault = is_put _ _ (ap (λ f. compact_text (or_null (option_map (λ fault. string (fault_text fault)) f)))
    (sym c.ending_of-ending.ensures.fault)) c.put_fault.ensures in
    let more = is_put _ _ (ap (λ b. compact_text (boolean b)) (sym c.ending_of-ending.ensures.more)) c.put_truth.ensures in
    is_put _ _ (ap (λ bytes. compact_text (tree bytes)) (sym c.payload_of-payload.ensures))
    (object_put (members (stored_members a.line a.address event reading a.counter a.confirmed a.sent.now payload))
    (and_text (codes "address") c.put_text.ensures c.put_address.ensures
    (and_member (codes "at") c.put_text-2.ensures c.put_at.ensures
    (and_member (codes "confirmed") c.put_text-3.ensures c.put_number_if.ensures
    (and_member (codes "counter") c.put_text-4.ensures c.put_number.ensures
    (and_text (codes "event") c.put_text-5.ensures c.put_event.ensures
    (and_member (codes "fault") c.put_text-6.ensures fault
    (and_known (codes "kind") (string (codes "step"))
    (and_member (codes "line") c.put_text-7.ensures c.put_number-2.ensures
    (and_member (codes "more") c.put_text-8.ensures more
    (and_known (codes "outcome") (string (codes "stored"))
    (and_member (codes "payload") c.put_text-9.ensures c.put_payload.ensures
    (and_member (codes "records") c.put_text-10.ensures c.put_entries.ensures
    (and_member (codes "sent") c.put_text-11.ensures c.put_sent.ensures
    (no_more c.put_text-12.ensures)))))))))))))))
