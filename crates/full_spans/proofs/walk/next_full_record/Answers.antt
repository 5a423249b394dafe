use Rattle.std.proofs.Common.{◌∙◌}
use Rattle.full_spans.proofs.Found.{full_only, if_full, if_within, cause_is}
use Rattle.full_spans.proofs.walk.next_full_record.Goals as goal

pub returns-clause-found : goal.returns-clause-found
returns-clause-found c = if_full c.args.bytes.now c.args.from c.next_span.result c.requires c.next_span.ensures

pub returns-clause-only : goal.returns-clause-only
returns-clause-only c = λ next n. c.next_span.ensures ∙ full_only c.args.bytes.now c.args.from next c.requires n

pub returns-clause-cause : goal.returns-clause-cause
returns-clause-cause c = λ fault. cause_is c.args.bytes.now c.args.from c.next_span.result fault c.requires c.next_span.ensures

pub returns-clause-within : goal.returns-clause-within
returns-clause-within c = if_within c.args.bytes.now c.args.from c.next_span.result c.requires c.next_span.ensures
