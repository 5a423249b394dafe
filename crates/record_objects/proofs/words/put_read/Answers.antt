use Rattle.std.proofs.Common.{ap, ◌∙◌}
use Rattle.record_values.specs.declared.units.Unit.{Unit}
use Rattle.record_text.specs.Lines.{bytes_at}
use Rattle.full_records.specs.Records.{full_data_type}
use Rattle.record_objects.specs.Records.{shown}
use Rattle.record_objects.specs.Words.{read_words}
use Rattle.record_objects.proofs.ReadPut.{pieces_put}
use Rattle.record_objects.proofs.words.put_read.Goals as goal

pub returns : goal.returns
unfolding read_words
returns g c =
    let read = c.full_record_of-record.ensures in
    pieces_put c.args.form read.quantity read.unit read.value read.unset c.bytes_at-sent.ensures
    (c.as_slice-qualifiers.ensures.value ∙ read.qualifiers) read.data_type (ap (λ (u : Unit). u.quantity) c.full_unit_of-profile.ensures)
    read.plain
    (c.bytes_at-modifiers.ensures
    ∙ ap (λ (u : Unit). bytes_at c.args.bytes.now u.modifiers_at u.modifiers) c.full_unit_of-profile.ensures)
    (c.shown.ensures ∙ ap (λ t. shown t c.bytes_at-sent.result.now) read.data_type
    ∙ ap (λ s. shown (full_data_type c.args.bytes.now c.args.span.now) s) c.bytes_at-sent.ensures)
    c.put_measure.ensures c.put_value.ensures c.put_kind.ensures c.put_profile.ensures c.put_plain.ensures c.put_byte_words.ensures
