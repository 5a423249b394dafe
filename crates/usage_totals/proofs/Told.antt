-- A line is answered by what was put on a sheet.
use Rattle.std.proofs.Common.{◌≡◌, ℕ, Bool, List, Option, Some, None, Result, Ok, Err, refl, sym, ap, ◌∙◌, subst}
use Rattle.std.specs.Prelude.{OnOk, codes}
use Rattle.outer_io.specs.declared.failures.Memory.{Memory}
use Rattle.paper.specs.InMemory as sheets
use Rattle.paper.specs.InMemory.{Kept}
use Rattle.paper.specs.Puts.{Puts}
use Rattle.paper.proofs.Calls.{none}
use Rattle.line_teller.specs.Telling.{Tells}
use Rattle.line_teller.proofs.Keeping.{told_by}
use Rattle.meter_address.specs.declared.address.Address.{Address}
use Rattle.usage_totals.specs.declared.key.UsageKey.{UsageKey}
use Rattle.usage_totals.specs.Amounts.{Row}
use Rattle.usage_totals.specs.Sums.{keys_in}
use Rattle.usage_totals.specs.Table.{Table}
use Rattle.usage_totals.specs.Edits.{Edit, rows_after, StandsFor}
use Rattle.usage_totals.specs.declared.answer.Answerer.{Answerer}
use Rattle.usage_totals.specs.Requests.{Request, usages, totals, request_of}
use Rattle.usage_totals.specs.Texts.{named_if, usages_text, usages_kept, totals_kept, answer_text, rows_by}
use Rattle.usage_totals.specs.Answering.{Keeps, Answers, PutsAnswer, AnswersLine}
use Rattle.usage_totals.proofs.Questions.{usages_are, totals_are}

module _ (addressed : Bool) (value : Table Row) (keys : List UsageKey)
    (given : (edits : List Edit) → StandsFor edits value → keys ≡ keys_in (rows_after edits)) (sheet sheet' : Kept) where
  pub usages_answered : (address : Address) (meter : Option Address) → meter ≡ named_if addressed address
      → Puts sheets.Keeps sheet (usages_kept meter value address keys) sheet'
      → PutsAnswer addressed (Some (usages address)) value value sheet sheet'
  usages_answered address meter named puts = record {
    text = usages_kept meter value address keys;
    answers = record {
      text_is = λ table k. usages_are table value k meter address keys given ∙ ap (λ m. usages_text m table address) named;
      rows = λ table k. k;
    };
    puts = puts;
  }

  pub totals_answered : Puts sheets.Keeps sheet (totals_kept value keys) sheet'
      → PutsAnswer addressed (Some totals) value value sheet sheet'
  totals_answered puts = record {
    text = totals_kept value keys;
    answers = record { text_is = λ table k. totals_are table value k keys given; rows = λ table k. k };
    puts = puts;
  }

module _ (old : Answerer) (number : ℕ) (line : List ℕ) (text text' note : Kept) where
  pub told_so : (result : Result (Unit {0}) Memory) (request : Request) (rows : Table Row) → request_of line ≡ Some request
      → OnOk result (PutsAnswer old.addressed (Some request) old.totals rows text text')
      → OnOk result (Tells (AnswersLine old number line) (record { totals = rows; addressed = old.addressed }) text text' note note)
  told_so (Err memory) request rows is put = tt
  told_so (Ok done) request rows is put = told_by _ _ _ _ _ _ _ _ put.puts none (record {
    answers = subst (λ r. Answers old.addressed r old.totals put.text rows) (sym is) put.answers;
    same = refl;
    note_is = refl;
  })

  pub told_bad : request_of line ≡ None → Puts sheets.Keeps text (codes "bad\n") text'
      → Tells (AnswersLine old number line) old text text' note note
  told_bad bad puts = told_by _ _ _ _ _ _ _ _ puts none (record {
    answers = record {
      text_is = λ table k. ap (answer_text old.addressed table) (sym bad);
      rows = λ table k. subst (λ r. Keeps (rows_by table r) old.totals) (sym bad) k;
    };
    same = refl;
    note_is = refl;
  })
