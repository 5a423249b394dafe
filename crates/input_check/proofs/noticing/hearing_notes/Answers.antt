use Rattle.std.proofs.Common.{◌∙◌}
use Rattle.input_check.proofs.Counts.{hearing_noted}
use Rattle.input_check.proofs.noticing.hearing_notes.Goals as goal

pub returns : goal.returns
returns c =
    hearing_noted c.args.heard.now c.deref.result.now c.args.meters.now c.in_ok-heard.heard.entries c.in_ok-known.known.entries
    c.in_ok-notes.notes.items c.add_strangers.new.notes.items c.in_ok-ranked.ranked.items c.sort.new.self.items c.deref-2.result.now
    (c.deref.ensures.value ∙ c.in_ok-addresses_of.ensures) c.in_ok-known.ensures c.in_ok-heard.ensures c.in_ok-notes.ensures
    c.in_ok-ranked.ensures.strangers c.in_ok-ranked.ensures.rising c.in_ok-ranked.ensures.found c.in_ok-sort.ensures.permutation
    c.in_ok-sort.ensures.sorted (c.deref-2.ensures.value ∙ c.reverse.ensures.items) c.in_ok-add_strangers.ensures
