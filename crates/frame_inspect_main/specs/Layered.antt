-- What is shown of an item: the link, the extension, the authentication and fragmentation layer and the transport header of its telegram.
use Rattle.std.specs.Prelude.{ℕ, ◌-◌, Bool, true, false, List, [], ◌∷◌, ◌++◌, length, slice_index, codes}
use Rattle.std.specs.Prelude.{Option, Some, None, Result, Ok, Err}
use Rattle.std.specs.Fmt.{decimal}
use Rattle.hex.specs.Hex.{encode_lower}
use Rattle.meter_address.specs.declared.address.Address.{Address}
use Rattle.meter_address.specs.Address.{bytes_of}
use Rattle.meter_address.specs.Letters.{letters_of}
use Rattle.frame_formats.specs.Decoding.{decoded}
use Rattle.frame_formats.specs.declared.format.Format.{Format}
use Rattle.frame_formats.specs.declared.format.Format.TheVariants as formats
use Rattle.frame_formats.specs.declared.fault.FrameFault.{FrameFault}
use Rattle.frame_formats.specs.declared.fault.FrameFault.TheVariants as frame
use Rattle.line_reader.specs.declared.line.Line.{Line}
use Rattle.line_reader.specs.declared.line.Line.TheVariants as lines
use Rattle.line_reader.specs.declared.line.BadLine.{BadLine}
use Rattle.ell_layer.specs.declared.access.Access.{Access}
use Rattle.ell_layer.specs.declared.access.Access.TheVariants as access
use Rattle.ell_layer.specs.declared.extension.Ell.{Ell}
use Rattle.afl_layer.specs.declared.header.Afl.{Afl}
use Rattle.tpl_headers.specs.declared.header.Tpl.{Tpl}
use Rattle.tpl_headers.specs.Configuration.{mode_of, blocks_of}
use Rattle.message_check.specs.declared.headers.Layers.{Layers}
use Rattle.message_check.specs.declared.refusal.LayerFault.{LayerFault}
use Rattle.message_check.specs.Layers.{layers_of}
use Rattle.message_check.specs.Target.{link_address}
use Rattle.paper.specs.Pieces.{optional_text, labelled, labelled_two, labelled_bytes, text_if}
use Rattle.layer_text.specs.Letters.{letters_text}
use Rattle.layer_text.specs.Faults.{layer_fault_text}
use Rattle.frame_inspect_main.specs.declared.item.Item.{Item}
use Rattle.frame_inspect_main.specs.Items.{said_by}

-- ---- the layers of a telegram

abbrev pub access_word : Access → List ℕ
access_word access.None = codes "none"
access_word access.Soon = codes "soon"
access_word access.Limited = codes "limited"
access_word access.Unlimited = codes "unlimited"

-- the extension of the link layer: when the meter listens, and the access number
unfoldable pub extension_text : Ell → List ℕ
extension_text e = codes " ell " ++ access_word e.access ++ labelled (codes " ") e.acc

-- whether more fragments follow
abbrev pub more_word : Bool → List ℕ
more_word true = codes " more "
more_word false = codes " last "

-- a byte in hexadecimal, or a dash for none
abbrev pub octet_text : Option ℕ → List ℕ
octet_text None = codes "-"
octet_text (Some octet) = encode_lower (octet ∷ [])

-- the authentication and fragmentation layer: the number of the fragment, the message control and the message counter
unfoldable pub fragmentation_text : Afl → List ℕ
fragmentation_text a = labelled (codes " afl ") a.fid ++ more_word a.more ++ octet_text a.mcl ++ codes " " ++ optional_text a.mcr

-- the address of a long header
abbrev pub long_text : Address → List ℕ
long_text a = labelled_bytes (codes " of ") (bytes_of a)

-- the transport header: CI, access number, status, security mode, how many blocks are encrypted, and the address of a long one
unfoldable pub transport_text : Tpl → List ℕ
transport_text t =
    labelled_bytes (codes " tpl ") (t.ci ∷ []) ++ labelled (codes " ") t.acc ++ labelled_bytes (codes " ") (t.status ∷ [])
    ++ labelled_two (codes " ") (mode_of t.cf) (blocks_of t.cf) ++ text_if long_text t.address

-- a transport header, or how many bytes the piece of a message has
abbrev pub content_text : ℕ → Option Tpl → List ℕ
content_text piece None = labelled (codes " piece ") piece
content_text piece (Some t) = transport_text t

-- the layers of a telegram of so many bytes, or the fault of the first that can't be read
unfoldable pub layers_text : ℕ → Result Layers LayerFault → List ℕ
layers_text len (Err fault) = codes " fault " ++ layer_fault_text fault
layers_text len (Ok l) = text_if extension_text l.ell ++ text_if fragmentation_text l.afl ++ content_text (len - l.body) l.tpl

-- ---- frames

abbrev pub format_word : Format → List ℕ
format_word formats.A = codes " A "
format_word formats.B = codes " B "

-- the C field, the link address, and the letters of its manufacturer
unfoldable pub link_text : ℕ → Address → List ℕ
link_text control address =
    labelled_bytes (codes " ") (control ∷ []) ++ labelled_bytes (codes " ") (bytes_of address)
    ++ codes " " ++ letters_text (letters_of address)

unfoldable pub telegram_text : Format → List ℕ → List ℕ
telegram_text format t =
    labelled (format_word format) (length t) ++ link_text (slice_index t 1) (link_address t) ++ layers_text (length t) (layers_of t)

abbrev pub frame_fault_text : FrameFault → List ℕ
frame_fault_text frame.Empty = codes " unframed empty"
frame_fault_text (frame.Short l) = labelled (codes " unframed short ") l
frame_fault_text (frame.Gap l) = labelled (codes " unframed gap ") l
frame_fault_text (frame.Length want have) = labelled_two (codes " unframed length ") want have
frame_fault_text (frame.Crc block) = labelled (codes " unframed crc ") block

-- a telegram, or why the bytes of a line are no frame
abbrev pub frame_text : Format → Result (List ℕ) FrameFault → List ℕ
frame_text format (Ok t) = telegram_text format t
frame_text format (Err fault) = frame_fault_text fault

-- ---- lines

abbrev pub line_text : Line → List ℕ
line_text (lines.Frame format at bytes) = frame_text format (decoded format bytes)
line_text other = codes " other"

abbrev pub said_text : Result Line BadLine → List ℕ
said_text (Ok line) = line_text line
said_text (Err bad) = codes " bad"

-- the number of a line, what is shown of what it says, and a newline
unfoldable pub said_line : ℕ → Result Line BadLine → List ℕ
said_line number said = decimal number ++ said_text said ++ codes "\n"

-- the line of an item
abbrev pub layered_text : ℕ → Item → List ℕ
layered_text number next = said_line number (said_by next)
