use Rattle.std.proofs.Common.{arith}
use Rattle.std.proofs.lemmas.List.Elements.{recursion_from_All}
use Rattle.report_text.specs.Readings.{LastIsNumbered, readings_tree}
use Rattle.report_text.proofs.ShownTrees.{read_back, with_more}
use Rattle.report_text.proofs.ShownReadings.{readings_shown}
use Rattle.report_text.proofs.readings.readings_json.Goals as goal

pub returns-clause-reads_back : goal.returns-clause-reads_back
returns-clause-reads_back g c =
    let slots = c.args.session.now.slots.now in
    read_back (readings_tree slots)
    (with_more (omega arith) (readings_shown slots (recursion_from_All LastIsNumbered slots c.show_slots.ensures)))
