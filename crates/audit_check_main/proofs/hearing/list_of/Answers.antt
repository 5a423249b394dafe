use Rattle.std.proofs.Common.{◌∙◌, ◌==◌, ap, sym, length}
use Rattle.std.proofs.lemmas.List.{length-map}
use Rattle.meter_slots.specs.Journal.{Start}
use Rattle.audit_check_main.proofs.HeardLists.{place_none}
use Rattle.audit_check_main.proofs.hearing.list_of.Goals as goal

pub returns-in-None : goal.returns-in-None
returns-in-None c =
    sym (ap length c.requires ∙ length-map c.args.meters.now (λ (m : Start). m.address))
    ∙ place_none (λ a. a.0 == c.args.address.0) c.args.directory.now (sym c.find.ensures ∙ c.in-None.is)
