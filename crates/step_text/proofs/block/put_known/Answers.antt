use Rattle.std.proofs.Common.{sym, ap, ◌∙◌, option_map}
use Rattle.std.specs.Prelude.{codes}
use Rattle.json.specs.Print.{escape_byte, escape}
use Rattle.serde_json.specs.Data.{string}
use Rattle.serde_json.specs.Written.{compact_text}
use Rattle.paper.proofs.Items.{is_put}
use Rattle.command_queue.specs.Orders.{awaited_id}
use Rattle.meter_address.specs.Address.{text_of}
use Rattle.report_text.specs.Readings.{or_null, members}
use Rattle.report_text.proofs.MembersPut.{no_more, and_known, and_member, and_text, object_put}
use Rattle.step_text.specs.Lines.{number_tree, block_members}
use Rattle.step_text.proofs.block.put_known.Goals as goal

pub returns : goal.returns
unfolding escape_byte
returns g c =
    let address = is_put _ _ (ap (λ k. escape (text_of k.address)) (sym (c.commission-2.view_is ∙ c.commission.ensures))) c.put_address.ensures in
    let holds = is_put _ _ (ap (λ n. compact_text (number_tree n)) (sym c.part_count.ensures.count)) c.put_number.ensures in
    let waits = is_put _ _ (ap (λ o. compact_text (or_null (option_map number_tree o)))
    (sym (c.awaited_id.ensures ∙ ap awaited_id c.window.ensures))) c.put_number_if.ensures in
    object_put (members (block_members c.args.known.now))
    (and_text (codes "address") c.put_text.ensures address
    (and_text (codes "block") c.put_text-2.ensures c.put_escaped_block.ensures
    (and_member (codes "holds") c.put_text-3.ensures holds
    (and_known (codes "kind") (string (codes "block"))
    (and_member (codes "waits") c.put_text-4.ensures waits
    (no_more c.put_text-5.ensures))))))
