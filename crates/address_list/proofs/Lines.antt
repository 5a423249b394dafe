-- What is told of lines is what is printed of them.
use Rattle.std.proofs.Common.{ℕ, ◌≡◌, ◌+◌, List, [], ◌∷◌, ◌++◌, ap, ◌∙◌}
use Rattle.line_teller.specs.Telling.{AreTold}
use Rattle.receivers.specs.Told.{told_of}
use Rattle.address_list.specs.declared.telling.Addresses.{Addresses}
use Rattle.address_list.specs.Addresses.{addresses_text, line_text}
use Rattle.address_list.specs.Telling.{TellsAddress}

pub are_listed : (number : ℕ) (first last : Addresses) (lines : List (List ℕ)) (text note : List ℕ)
    → AreTold TellsAddress number first lines text note last → text ≡ addresses_text lines
are_listed number first last [] text note told = told.0
are_listed number first last (line ∷ lines) text note told =
    let one : TellsAddress first number line told.first_text told.first_note told.next = told.told in
    let later = are_listed (number + 1) told.next last lines told.later_text told.later_note told.later in
    told.text_is ∙ ap (λ t. t ++ told.later_text) one.text_is ∙ ap (λ t. line_text (told_of line) ++ t) later
