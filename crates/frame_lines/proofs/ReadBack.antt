-- The line of a telegram is read back.
use Rattle.std.proofs.Common.{◌≡◌, ℕ, ◌-◌, ◌^◌, ◌<◌, ◌≤◌, cond, List, [], ◌∷◌, ◌++◌, length, Ok, Err, refl, ap, sym, subst, ◌∙◌, arith, append_assoc, length-append}
use Rattle.std.specs.Prelude.{codes}
use Rattle.std.specs.Fmt.{decimal}
use Rattle.std.specs.List.{join_with_byte}
use Rattle.std.proofs.lemmas.Fmt.{length-decimal-le}
use Rattle.std.proofs.lemmas.Bool.{le-ltb}
use Rattle.hex.specs.Hex.{encode_lower, lower_digits}
use Rattle.hex.proofs.HexLemmas.{decode_of-encode_lower, length-encode_with}
use Rattle.paper.specs.Pieces.{labelled, labelled_bytes}
use Rattle.lists.specs.Each.{Each}
use Rattle.plain_text.specs.Parts.{fields_of}
use Rattle.written_words.specs.Words.{IsWord, IsPrinted}
use Rattle.written_words.proofs.Words.{number_above, hex_word, fields_joined, joined_printed, ended_line}
use Rattle.written_words.proofs.Numbers.{number_back}
use Rattle.frame_formats.specs.Crc.{IsBytes}
use Rattle.frame_formats.specs.Decoding.{frame_a}
use Rattle.frame_formats.specs.declared.format.Format.TheVariants.{A}
use Rattle.frame_formats.proofs.Checked.{byte_at}
use Rattle.frame_formats.proofs.FrameLaws.{one_frame_a}
use Rattle.line_reader.specs.declared.line.Line.TheVariants.{Frame}
use Rattle.line_reader.specs.declared.line.BadLine.TheVariants as bads
use Rattle.line_reader.specs.Grammar.{line_of, by_word, frame_line as frame_of_fields}
use Rattle.frame_lines.specs.Lines.{frame_text, frame_line}
use Rattle.frame_lines.specs.Laws.{LinesAreReadBack, LinesStandAlone}
use Rattle.frame_lines.proofs.Frames.{frame_bytes, frame_few}

-- ---- the words of a line, over any bytes

abbrev line_over : ℕ → List ℕ → List ℕ
line_over at bytes = labelled (codes "A ") at ++ labelled_bytes (codes " ") bytes

letter : IsWord (codes "A")
letter = record { passed = refl }

joined : (at : ℕ) (bytes : List ℕ) → line_over at bytes ≡ join_with_byte 32 (codes "A" ∷ decimal at ∷ encode_lower bytes ∷ [])
unfolding labelled labelled_bytes
joined at bytes = append_assoc (codes "A ") (decimal at) (codes " " ++ encode_lower bytes)

are_words : (at : ℕ) (bytes : List ℕ) → IsBytes bytes → Each IsWord (decimal at ∷ encode_lower bytes ∷ [])
are_words at bytes all = (number_above 32 at (omega arith), (hex_word bytes (λ i. byte_at bytes i all), tt))

fields_are : (at : ℕ) (bytes : List ℕ) → IsBytes bytes → fields_of (line_over at bytes) ≡ codes "A" ∷ decimal at ∷ encode_lower bytes ∷ []
fields_are at bytes all =
    ap fields_of (joined at bytes) ∙ fields_joined (codes "A") (decimal at ∷ encode_lower bytes ∷ []) letter (are_words at bytes all)

line_printed : (at : ℕ) (bytes : List ℕ) → IsBytes bytes → IsPrinted (line_over at bytes)
line_printed at bytes all =
    subst IsPrinted (sym (joined at bytes)) (joined_printed (codes "A") (decimal at ∷ encode_lower bytes ∷ []) letter (are_words at bytes all))

line_short : (at : ℕ) (bytes : List ℕ) → length bytes ≤ 300 → at < 2 ^ 64 → length (line_over at bytes) ≤ 1024
unfolding labelled labelled_bytes
line_short at bytes few below =
    omega (
      arith,
      length-append (codes "A " ++ decimal at) (codes " " ++ encode_lower bytes),
      length-append (codes "A ") (decimal at),
      length-append (codes " ") (encode_lower bytes),
      length-decimal-le 20 at (omega arith) (omega arith) below,
      length-encode_with lower_digits bytes,
      few,
    )

line_read : (at : ℕ) (bytes : List ℕ) → IsBytes bytes → length bytes ≤ 300 → at < 2 ^ 64 → line_of (line_over at bytes) ≡ Ok (Frame A at bytes)
unfolding line_of by_word frame_of_fields
line_read at bytes all few below =
    let text : List ℕ = line_over at bytes in
    let number = number_back (2 ^ 64 - 1) at (omega arith) (omega (arith, below)) in
    let digits = decode_of-encode_lower bytes (λ i. byte_at bytes i all) in
    ap (λ b. cond b (Err bads.TooLong) (by_word (fields_of text))) (le-ltb 1024 (length text) (line_short at bytes few below))
    ∙ ap by_word (fields_are at bytes all) ∙ rw (number, digits) refl

-- ---- the line of a telegram

-- it is printed, so that other lines may stand in front of it and behind it
pub text_printed : (at : ℕ) (t : List ℕ) → IsBytes t → IsPrinted (frame_text at t)
text_printed at t all = line_printed at (frame_a t) (frame_bytes t all)

pub text_short : (at : ℕ) (t : List ℕ) → length t ≤ 256 → at < 2 ^ 64 → length (frame_text at t) ≤ 1024
text_short at t most below = line_short at (frame_a t) (frame_few t most) below

pub lines_are_read_back : LinesAreReadBack
lines_are_read_back at t below whole = record {
  line = line_read at (frame_a t) (frame_bytes t whole.bytes) (frame_few t whole.telegram.most) below;
  decoded_is = (one_frame_a t whole.telegram whole.bytes).1;
}

pub lines_stand_alone : LinesStandAlone
unfolding frame_line
lines_stand_alone at t below whole = record {
  first = λ rest. ended_line (frame_text at t) rest (text_printed at t whole.bytes);
  short = text_short at t whole.telegram.most below;
}
