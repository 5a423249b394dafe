use Rattle.std.proofs.Common.{ap, ◌∙◌}
use Rattle.serde_json.specs.Written.{has_float, compact_text}
use Rattle.meter_slots.specs.Resuming.{last_known}
use Rattle.report_text.specs.Readings.{payload_of}
use Rattle.report_text.proofs.NoFloats.{meter_whole}
use Rattle.report_text.proofs.meter_trees.slot_text.Goals as goal

pub returns : goal.returns
returns c =
    let start = c.args.slot.now.start in
    let last = last_known start c.args.slot.now.journal in
    let is = c.in_ok-slot_value.ensures in
    c.in_ok-to_string.ensures.text (ap has_float is ∙ meter_whole start.address start.mode last (payload_of last)) ∙ ap compact_text is
