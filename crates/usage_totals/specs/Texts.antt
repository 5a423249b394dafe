-- What is printed for lines of edits and questions.
use Rattle.std.specs.Prelude.{ℕ, ℤ, Bool, true, false, List, [], ◌∷◌, ◌++◌, fold, codes, Option, Some, None}
use Rattle.std.specs.List.{flat_map}
use Rattle.std.specs.Fmt.{signed_decimal}
use Rattle.paper.specs.Pieces.{labelled, text_if}
use Rattle.meter_address.specs.declared.address.Address.{Address}
use Rattle.meter_address.specs.Address.{text_of}
use Rattle.record_text.specs.Pieces.{register_text, unit_text}
use Rattle.usage_totals.specs.declared.key.UsageKey.{UsageKey}
use Rattle.usage_totals.specs.declared.sums.Sum.{Sum}
use Rattle.usage_totals.specs.declared.fault.TotalsFault.{TotalsFault}
use Rattle.usage_totals.specs.declared.fault.TotalsFault.TheVariants.{Meters, Rows, NoSuch, Memory}
use Rattle.usage_totals.specs.Amounts.{Row}
use Rattle.usage_totals.specs.Usage.{usage, usage_at}
use Rattle.usage_totals.specs.Sums.{total, total_at, keys_in}
use Rattle.usage_totals.specs.Table.{Table, rows_at}
use Rattle.usage_totals.specs.Edits.{Edit, addition, replacement, removal, edited, fault_of}
use Rattle.usage_totals.specs.Requests.{Request, edits, usages, totals, request_of}

-- ---- the address in an answer

-- the meter that an answer names, if answers do
abbrev pub named_if : Bool → Address → Option Address
named_if true address = Some address
named_if false address = None

-- its address, behind a word and a space
abbrev pub address_text : Address → List ℕ
address_text address = codes " " ++ text_of address

-- ---- the answer to an edit

-- the meter of an edit
abbrev pub meter_of : Edit → Address
meter_of (addition address payload) = address
meter_of (replacement address place payload) = address
meter_of (removal address place) = address

-- a refusal, with the words behind the meter
unfoldable pub refusal_text : Option Address → List ℕ → List ℕ
refusal_text meter words = codes "refused" ++ text_if address_text meter ++ words ++ codes "\n"

-- what is done, with its meter
unfoldable pub done_text : Option Address → List ℕ → List ℕ
done_text meter word = word ++ text_if address_text meter ++ codes "\n"

-- a refusal for want of memory ends the run, and has no text
abbrev pub edit_text : Option Address → Option TotalsFault → List ℕ
edit_text meter None = done_text meter (codes "ok")
edit_text meter (Some Meters) = refusal_text meter (codes " meters")
edit_text meter (Some Rows) = refusal_text meter (codes " rows")
edit_text meter (Some (NoSuch place)) = refusal_text meter (labelled (codes " nosuch ") place)
edit_text meter (Some Memory) = []

-- ---- the answers to questions

-- what is measured: the register and the unit
unfoldable pub key_text : UsageKey → List ℕ
key_text key = register_text key.storage key.tariff key.subunit ++ unit_text key.quantity key.name key.exponent

-- what a meter used
unfoldable pub usage_line : Option Address → UsageKey → ℤ → List ℕ
usage_line meter key amount =
    codes "usage" ++ text_if address_text meter ++ key_text key ++ codes " " ++ signed_decimal amount ++ codes "\n"

-- how many meters used something, and what it comes to
unfoldable pub total_line : UsageKey → Sum → List ℕ
total_line key sum =
    codes "total" ++ key_text key ++ labelled (codes " ") sum.meters ++ codes " " ++ signed_decimal sum.amount ++ codes "\n"

-- a line for each key of which the meter has a usage, in order
unfoldable pub usages_text : Option Address → Table (List ℕ) → Address → List ℕ
usages_text meter table address =
    flat_map (λ key. text_if (usage_line meter key) (usage (rows_at address table) key)) (keys_in table) ++ done_text meter (codes "end")

-- a line for each key of which some meter has a usage, in order
unfoldable pub totals_text : Table (List ℕ) → List ℕ
totals_text table = flat_map (λ key. total_line key (total table key)) (keys_in table) ++ codes "end\n"

-- ---- lines

-- what is printed for a request over these rows, with the address of its meter or without
abbrev pub answer_text : Bool → Table (List ℕ) → Option Request → List ℕ
answer_text addressed table None = codes "bad\n"
answer_text addressed table (Some (edits edit)) = edit_text (named_if addressed (meter_of edit)) (fault_of table edit)
answer_text addressed table (Some (usages address)) = usages_text (named_if addressed address) table address
answer_text addressed table (Some totals) = totals_text table

-- the rows after an edit, unless it is refused
abbrev pub unless : Option TotalsFault → (now then : Table (List ℕ)) → Table (List ℕ)
unless None now then = then
unless (Some fault) now then = now

-- the rows after a request
abbrev pub rows_by : Table (List ℕ) → Option Request → Table (List ℕ)
rows_by table (Some (edits edit)) = unless (fault_of table edit) table (edited table edit)
rows_by table _ = table

-- the rows after a line
abbrev pub rows_after_line : Table (List ℕ) → List ℕ → Table (List ℕ)
rows_after_line table line = rows_by table (request_of line)

-- the rows after lines, one after another
abbrev pub rows_told : List (List ℕ) → Table (List ℕ)
rows_told lines = fold rows_after_line [] lines

-- what is printed for lines, one after another
abbrev pub answers : Bool → Table (List ℕ) → List (List ℕ) → List ℕ
answers addressed table [] = []
answers addressed table (line ∷ lines) =
    answer_text addressed table (request_of line) ++ answers addressed (rows_after_line table line) lines

-- ---- words of private contracts

-- the texts of questions, of the amounts that are kept of rows
unfoldable pub usages_kept : Option Address → Table Row → Address → List UsageKey → List ℕ
usages_kept meter rows address keys =
    flat_map (λ key. text_if (usage_line meter key) (usage_at key (rows_at address rows))) keys ++ done_text meter (codes "end")

unfoldable pub totals_kept : Table Row → List UsageKey → List ℕ
totals_kept rows keys = flat_map (λ key. total_line key (total_at key rows)) keys ++ codes "end\n"
