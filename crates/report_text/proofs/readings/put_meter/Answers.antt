use Rattle.std.proofs.Common.{sym, ap, option_map, option_copied}
use Rattle.std.specs.Prelude.{codes}
use Rattle.hex.specs.Hex.{encode_lower}
use Rattle.json.specs.Print.{escape_byte, escape}
use Rattle.serde_json.specs.Data.{boolean, string}
use Rattle.serde_json.specs.Written.{compact_text}
use Rattle.paper.proofs.Items.{is_put}
use Rattle.record_text.specs.Lines.{fault_text}
use Rattle.report_text.specs.Readings.{or_null, members, meter_members}
use Rattle.report_text.proofs.MembersPut.{no_more, and_member, and_text, object_put}
use Rattle.report_text.proofs.readings.put_meter.Goals as goal

pub returns : goal.returns
unfolding escape_byte
returns g c =
    let address = is_put _ _ (ap (λ b. escape (encode_lower b)) (sym c.to_bytes.ensures.bytes)) c.put_digits.ensures in
    let fault = is_put _ _ (ap (λ f. compact_text (or_null (option_map (λ fault. string (fault_text fault)) f)))
    (sym c.ending_of-ending.ensures.fault)) c.put_fault.ensures in
    let more = is_put _ _ (ap (λ b. compact_text (boolean b)) (sym c.ending_of-ending.ensures.more)) c.put_truth.ensures in
    object_put (members (meter_members c.args.address c.args.mode (option_copied c.args.last) c.args.payload.now))
    (and_text (codes "address") c.put_text.ensures address
    (and_member (codes "at") c.put_text-2.ensures c.put_at.ensures
    (and_member (codes "counter") c.put_text-3.ensures c.put_counter.ensures
    (and_member (codes "fault") c.put_text-4.ensures fault
    (and_member (codes "mode") c.put_text-5.ensures c.put_mode.ensures
    (and_member (codes "more") c.put_text-6.ensures more
    (and_member (codes "records") c.put_text-7.ensures c.put_entries.ensures
    (no_more c.put_text-8.ensures))))))))
