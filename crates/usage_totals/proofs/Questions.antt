-- What is printed of the amounts that are kept is what the rows say.
use Rattle.std.proofs.Common.{◌≡◌, ℕ, List, ◌++◌, Option, ap, ◌∙◌}
use Rattle.std.specs.Prelude.{codes}
use Rattle.std.specs.List.{flat_map}
use Rattle.std.proofs.Math.Path.{fun_ext}
use Rattle.paper.specs.Pieces.{text_if}
use Rattle.meter_address.specs.declared.address.Address.{Address}
use Rattle.usage_totals.specs.declared.key.UsageKey.{UsageKey}
use Rattle.usage_totals.specs.Amounts.{Row}
use Rattle.usage_totals.specs.Usage.{usage, usage_at}
use Rattle.usage_totals.specs.Sums.{total, total_at, keys_in}
use Rattle.usage_totals.specs.Table.{Table, rows_at, kept}
use Rattle.usage_totals.specs.Edits.{Edit, rows_after, StandsFor}
use Rattle.usage_totals.proofs.Tables.{kept_rows}
use Rattle.usage_totals.proofs.Payloads.{usage_kept, total_kept}
use Rattle.usage_totals.specs.Texts.{usage_line, total_line, done_text, usages_text, totals_text, usages_kept, totals_kept}
use Rattle.usage_totals.specs.Answering.{Keeps}

module _ (table : Table (List ℕ)) (value : Table Row) (k : Keeps table value) where
  value_is : value ≡ kept table
  value_is = k.stands.rows ∙ ap kept k.rows

  keys_are : (keys : List UsageKey) → ((edits : List Edit) → StandsFor edits value → keys ≡ keys_in (rows_after edits))
      → keys ≡ keys_in table
  keys_are keys given = given k.edits k.stands ∙ ap keys_in k.rows

  usage_is : (address : Address) (key : UsageKey) → usage_at key (rows_at address value) ≡ usage (rows_at address table) key
  usage_is address key =
      ap (λ v. usage_at key (rows_at address v)) value_is ∙ ap (usage_at key) (kept_rows address table)
      ∙ usage_kept key (rows_at address table)

  total_is : (key : UsageKey) → total_at key value ≡ total table key
  total_is key = ap (total_at key) value_is ∙ total_kept key table

  pub usages_are : (meter : Option Address) (address : Address) (keys : List UsageKey)
      → ((edits : List Edit) → StandsFor edits value → keys ≡ keys_in (rows_after edits))
      → usages_kept meter value address keys ≡ usages_text meter table address
  unfolding usages_kept usages_text
  usages_are meter address keys given =
      ap (λ t. t ++ done_text meter (codes "end"))
      (ap (λ (f : UsageKey → List ℕ). flat_map f keys) (fun_ext (λ key. ap (text_if (usage_line meter key)) (usage_is address key)))
      ∙ ap (flat_map (λ key. text_if (usage_line meter key) (usage (rows_at address table) key))) (keys_are keys given))

  pub totals_are : (keys : List UsageKey) → ((edits : List Edit) → StandsFor edits value → keys ≡ keys_in (rows_after edits))
      → totals_kept value keys ≡ totals_text table
  unfolding totals_kept totals_text
  totals_are keys given =
      ap (λ t. t ++ codes "end\n")
      (ap (λ (f : UsageKey → List ℕ). flat_map f keys) (fun_ext (λ key. ap (total_line key) (total_is key)))
      ∙ ap (flat_map (λ key. total_line key (total table key))) (keys_are keys given))
