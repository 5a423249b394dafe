-- What the words name, and what is printed for it.
use Rattle.std.specs.Prelude.{ℕ, List, [], ◌∷◌, ◌++◌, codes, Option, Some, None, Result, Ok, Err}
use Rattle.meter_address.specs.declared.address.Address.{Address}
use Rattle.meter_address.specs.Address.{text_of, address_of}
use Rattle.meter_label.specs.declared.label.Label.{Label}
use Rattle.meter_label.specs.declared.reading.LabelFault.{LabelFault}
use Rattle.meter_label.specs.declared.reading.LabelFault.TheVariants.{Letters}
use Rattle.meter_label.specs.Label as labels
use Rattle.meter_label.specs.Reading.{label_in}
use Rattle.meter_label.specs.Texts.{label_text}
use Rattle.meter_label.specs.DeviceTypes.{word_of}
use Rattle.meter_name.specs.declared.naming.NameFault.{NameFault}
use Rattle.meter_name.specs.declared.naming.NameFault.TheVariants as faults
use Rattle.meter_name.specs.declared.naming.Named.{Named}
use Rattle.meter_name.specs.declared.naming.Named.TheVariants as names

abbrev pub or_fault : {A : Type 0} → NameFault → Option A → Result A NameFault
or_fault fault (Some x) = Ok x
or_fault fault None = Err fault

abbrev pub label_found : Option Address → Result Label NameFault
label_found (Some address) = or_fault faults.NoLetters (labels.label_of address)
label_found None = Err faults.Address

-- the label of an address
unfoldable pub named_label : List ℕ → Result Label NameFault
named_label text = label_found (address_of text)

abbrev pub address_found : Result Label LabelFault → Result Address NameFault
address_found (Ok label) = or_fault (faults.Label Letters) (labels.address_of label)
address_found (Err fault) = Err (faults.Label fault)

-- the address of four words
unfoldable pub named_address : List ℕ → List ℕ → List ℕ → List ℕ → Result Address NameFault
named_address letters identification version kind = address_found (label_in letters identification version kind)

abbrev pub named : {A : Type 0} → (A → Named) → Result A NameFault → Result Named NameFault
named name (Ok x) = Ok (name x)
named name (Err fault) = Err fault

-- the other name of what the words name: one is an address, four are those of a label
abbrev pub named_by : List (List ℕ) → Result Named NameFault
named_by (text ∷ []) = named names.Label (named_label text)
named_by (letters ∷ identification ∷ version ∷ kind ∷ []) = named names.Address (named_address letters identification version kind)
named_by words = Err faults.Count

unfoldable pub address_line : Address → List ℕ
address_line address = text_of address ++ codes "\n"

unfoldable pub label_line : Label → List ℕ
label_line label = label_text label ++ codes " " ++ word_of label.kind ++ codes "\n"

abbrev pub named_text : Named → List ℕ
named_text (names.Address address) = address_line address
named_text (names.Label label) = label_line label
