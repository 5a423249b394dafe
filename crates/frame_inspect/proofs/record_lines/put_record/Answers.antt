use Rattle.std.proofs.Common.{ap, ◌∙◌}
use Rattle.full_records.specs.Records.{full_data_type}
use Rattle.frame_inspect.specs.RecordLines.{seen, record_line}
use Rattle.frame_inspect.proofs.RecordsPut.{pieces_put}
use Rattle.frame_inspect.proofs.record_lines.put_record.Goals as goal

pub returns : goal.returns
unfolding record_line
returns g c =
    let read = c.full_record_of-record.ensures in
    pieces_put c.args.number c.args.span.now
    (c.seen.ensures ∙ ap (λ t. seen t c.bytes_at-sent.result.now) read.data_type
    ∙ ap (λ s. seen (full_data_type c.args.payload.now c.args.span.now) s) c.bytes_at-sent.ensures)
    read.quantity (c.as_slice-qualifiers.ensures.value ∙ read.qualifiers) read.unset read.value read.unit c.bytes_at-sent.ensures
    c.put_place.ensures c.put_name.ensures c.put_value.ensures
