use Rattle.std.proofs.Common.{◌∙◌}
use Rattle.dif_vif.proofs.Spans.{next_only, if_next, onward_is, within_is}
use Rattle.dif_vif.proofs.Endings.{cause_is, refused_iff}
use Rattle.dif_vif.proofs.records.next_record.Goals as goal

pub returns-clause-found : goal.returns-clause-found
returns-clause-found c = if_next c.args.bytes.now c.args.from c.next_span.result _ c.requires c.next_span.ensures (λ next is. is)

pub returns-clause-only : goal.returns-clause-only
returns-clause-only c = λ next n. c.next_span.ensures ∙ next_only c.args.bytes.now c.args.from next c.requires n

pub returns-clause-refused : goal.returns-clause-refused
returns-clause-refused c = refused_iff c.args.bytes.now c.args.from c.next_span.result c.requires c.next_span.ensures

pub returns-clause-onward : goal.returns-clause-onward
returns-clause-onward c =
    if_next c.args.bytes.now c.args.from c.next_span.result _ c.requires c.next_span.ensures (onward_is c.args.bytes.now c.args.from)

pub returns-clause-within : goal.returns-clause-within
returns-clause-within c =
    if_next c.args.bytes.now c.args.from c.next_span.result _ c.requires c.next_span.ensures (within_is c.args.bytes.now c.args.from)

pub returns-clause-cause : goal.returns-clause-cause
returns-clause-cause c = λ fault. cause_is c.args.bytes.now c.args.from c.next_span.result fault c.requires c.next_span.ensures
