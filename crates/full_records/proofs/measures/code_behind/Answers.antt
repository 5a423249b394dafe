use Rattle.std.proofs.Common.{sym, ◌∙◌}
use Rattle.full_spans.proofs.Found.{first_vife-from_full}
use Rattle.full_records.proofs.Places.{from_top}
use Rattle.full_records.proofs.measures.code_behind.Goals as goal

pub bounds-bytes-span : goal.bounds-bytes-span
bounds-bytes-span c =
    (first_vife-from_full c.args.bytes.now c.args.span.now c.requires c.if-span.false (from_top c.args.span.now.vif
    (sym c.announces_code.ensures ∙ c.if-not-announces_code.false))).1
