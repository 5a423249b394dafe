-- What a line says that was read as bytes.
use Rattle.std.proofs.Common.{◌≡◌, ℕ, List, [], ◌∷◌, ◌++◌, Result, Ok, Err, refl, ap, sym, subst, ◌∙◌}
use Rattle.line_reader.specs.Grammar.{line_of}
use Rattle.line_reader.specs.Reader.{Gives, GivesLine, GivesLongLine, GivesText, next_of}
use Rattle.line_reader.specs.declared.line.Line.{Line}
use Rattle.line_reader.specs.declared.line.BadLine.{BadLine}
use Rattle.line_reader.specs.declared.line.BadLine.TheVariants as bads
use Rattle.line_reader.specs.declared.next.Next.{Next}
use Rattle.line_reader.specs.declared.next.Next.TheVariants as next
use Rattle.line_reader.specs.declared.next.NextText.{NextText}
use Rattle.line_reader.specs.declared.next.ReadFault.{ReadFault}
use Rattle.line_reader.proofs.LinesLemmas.{too_long}

gives : (said : Result Line BadLine) (old new : List (List ℕ)) → GivesLine said old new → Gives (Ok (next_of said)) old new
gives (Ok line) old new more = more
gives (Err bad) old new more = more

-- a line that is lent
pub gives_lent : (said : Result Next ReadFault) (text shown : List ℕ) (old new : List (List ℕ)) → shown ≡ text
    → said ≡ Ok (next_of (line_of shown)) → new ≡ old ++ text ∷ [] → Gives said old new
gives_lent said text shown old new same is more =
    let P : Result Next ReadFault → Type 0 = λ r. Gives r old new in
    subst P (sym (is ∙ ap (λ t. Ok (next_of (line_of t))) same))
    (gives (line_of text) old new (record { text = text; more = more; says = refl }))

-- a line that is too long
pub gives_long : (old new : List (List ℕ)) → GivesLongLine 1024 old new → Gives (Ok (next.Bad bads.TooLong)) old new
gives_long old new line = record { text = line.line; more = line.more; says = too_long line.line line.long }

-- an answer by its name
pub named : (answer name : NextText) (longest : ℕ) (text : List ℕ) (old new : List (List ℕ)) → answer ≡ name
    → GivesText (Ok answer) longest text old new → GivesText (Ok name) longest text old new
named answer name longest text old new is gives = subst (λ n. GivesText (Ok n) longest text old new) is gives
