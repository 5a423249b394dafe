-- What a line does to the lists, and whether it is in form, by its kind.
use Rattle.std.proofs.Common.{◌∙◌, ◌∷◌, ◌&&◌, true, false, refl, sym, subst}
use Rattle.std.specs.Prelude.{is_some}
use Rattle.std.proofs.lemmas.Bool.{le-leb, lt-leb}
use Rattle.std.proofs.lemmas.Result.{on_ok_weaker}
use Rattle.report_text.proofs.LineWalks.{IsKind, kind_of}
use Rattle.audit_check_main.specs.Lists.{is_meters, is_of_strangers}
use Rattle.audit_check_main.specs.Reading.{StandsFor}
use Rattle.audit_check_main.proofs.ReadLists.{form_is, after_meter, after_strangers, after_step, after_stranger, after_other}
use Rattle.audit_check_main.proofs.ReadLists.{faulty_meter, faulty_step, faulty_stranger}
use Rattle.audit_check_main.proofs.line_lists.Lists.take_line.Goals as goal

pub returns-then-is_meter : goal.returns-then-is_meter
returns-then-is_meter c =
    let line = c.args.line.now in
    let old = c.args.self.now in
    let kind : IsKind line true _ _ _ = kind_of (sym c.is_meter.ensures ∙ c.if-is_meter.true) refl refl refl in
    record {
      in_form = on_ok_weaker c.open_meter.result (λ less above so. faulty_meter above old line so c.args.most false kind (lt-leb _ _ less))
          c.open_meter.ensures.room;
      taken = on_ok_weaker c.open_meter.result (λ same above so. subst (StandsFor (line ∷ above)) (sym same)
          (after_meter above old line so kind)) c.open_meter.ensures.ok;
      form = λ e above so. faulty_meter above old line so c.args.most true kind (le-leb _ _ (c.open_meter.ensures.form e));
    }

pub returns-then-is_strangers : goal.returns-then-is_strangers
returns-then-is_strangers c =
    let line = c.args.line.now in
    let kind : IsKind line false true _ _ =
    kind_of (sym c.is_meter.ensures ∙ c.if-is_meter.false) (sym c.is_strangers.ensures ∙ c.if-is_strangers.true) refl refl in
    record {
      in_form = λ above so. form_is c.args.most above line kind;
      taken = λ above so. subst (StandsFor (line ∷ above)) (sym c.open_strangers.ensures)
          (after_strangers above c.args.self.now line so kind);
      form = λ e. absurd cc;
    }

pub returns-then-is_step : goal.returns-then-is_step
returns-then-is_step c =
    let line = c.args.line.now in
    let old = c.args.self.now in
    let kind : IsKind line false false true _ =
    kind_of (sym c.is_meter.ensures ∙ c.if-is_meter.false) (sym c.is_strangers.ensures ∙ c.if-is_strangers.false)
    (sym c.is_step.ensures ∙ c.if-is_step.true) refl in
    record {
      in_form = on_ok_weaker c.add_step.result (λ takes above so. faulty_step above old line so c.args.most true kind
          (λ i. is_meters (takes.is_open i) && is_some (takes.names i))) c.add_step.ensures.ok;
      taken = on_ok_weaker c.add_step.result (λ takes above so. after_step above old line so _ kind takes) c.add_step.ensures.ok;
      form = λ e above so. faulty_step above old line so c.args.most false kind (c.add_step.ensures.form e);
    }

pub returns-then-is_stranger : goal.returns-then-is_stranger
returns-then-is_stranger c =
    let line = c.args.line.now in
    let old = c.args.self.now in
    let kind : IsKind line false false false true =
    kind_of (sym c.is_meter.ensures ∙ c.if-is_meter.false) (sym c.is_strangers.ensures ∙ c.if-is_strangers.false)
    (sym c.is_step.ensures ∙ c.if-is_step.false) (sym c.is_stranger.ensures ∙ c.if-is_stranger.true) in
    record {
      in_form = on_ok_weaker c.add_stranger.result (λ takes above so. faulty_stranger above old line so c.args.most true kind
          (λ i. is_of_strangers (takes.is_open i) && is_some (takes.names i))) c.add_stranger.ensures.ok;
      taken = on_ok_weaker c.add_stranger.result (λ takes above so. after_stranger above old line so _ kind takes)
          c.add_stranger.ensures.ok;
      form = λ e above so. faulty_stranger above old line so c.args.most false kind (c.add_stranger.ensures.form e);
    }

pub returns : goal.returns
returns c =
    let line = c.args.line.now in
    let kind : IsKind line false false false false =
    kind_of (sym c.is_meter.ensures ∙ c.if-is_meter.false) (sym c.is_strangers.ensures ∙ c.if-is_strangers.false)
    (sym c.is_step.ensures ∙ c.if-is_step.false) (sym c.is_stranger.ensures ∙ c.if-is_stranger.false) in
    record {
      in_form = λ above so. form_is c.args.most above line kind;
      taken = λ above so. after_other above c.args.self.now line so kind;
      form = λ e. absurd cc;
    }
