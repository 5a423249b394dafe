-- The line of a delivery, what is answered to it, and its text.
use Rattle.std.specs.Prelude.{ℕ, ◌==◌, ◌&&◌, nat_lt, if◌then◌else◌, List, [], ◌∷◌, ◌++◌, length, codes, Option, Some, None}
use Rattle.std.specs.Fmt.{decimal}
use Rattle.std.specs.Result.{result_ok}
use Rattle.hex.specs.Hex.{decode_of, encode_lower}
use Rattle.meter_address.specs.declared.address.Address.{Address}
use Rattle.meter_address.specs.Commission.{Commissioned}
use Rattle.meter_side_main.specs.declared.delivery.Executed.{Executed}
use Rattle.meter_side_main.specs.declared.reason.SideReason.{SideReason}
use Rattle.meter_side_main.specs.declared.reason.SideReason.TheVariants.{Frame, Layout, BadMac, CheckBytes, Stale}
use Rattle.meter_side_main.specs.declared.reason.Did.TheVariants as did
use Rattle.meter_side_main.specs.declared.lines.Answer.{Answer}
use Rattle.meter_side_main.specs.declared.lines.Answer.TheVariants.{Bad, Heard}
use Rattle.meter_side_main.specs.Reading.{did_after, last_after}

-- the bytes of an even number of digits of either case, at most 290 bytes
unfoldable pub bytes_in : List ℕ → Option (List ℕ)
bytes_in digits = if nat_lt 580 (length digits) then None else result_ok (decode_of digits)

-- what a line delivers: D, a space, and the digits of its bytes
unfoldable pub delivery_in : List ℕ → Option (List ℕ)
delivery_in (first ∷ second ∷ digits) = if first == 68 && second == 32 then bytes_in digits else None
delivery_in _ = None

-- what is answered to a delivery, if there is one, after this last counter
abbrev pub answer_of : Address → Commissioned → ℕ → Option (List ℕ) → Answer
answer_of own c last None = Bad
answer_of own c last (Some delivery) = Heard (did_after own c last delivery)

-- the last counter after an answer
abbrev pub last_by : ℕ → Answer → ℕ
last_by last Bad = last
last_by last (Heard done) = last_after last done

-- ---- texts

abbrev pub reason_text : SideReason → List ℕ
reason_text (Frame fault) = codes "frame"
reason_text (Layout place) = codes "layout " ++ decimal place
reason_text BadMac = codes "mac"
reason_text (CheckBytes two) = codes "check " ++ encode_lower two
reason_text (Stale got last) = codes "stale " ++ decimal got ++ codes " " ++ decimal last

unfoldable pub executed_text : Executed → List ℕ
executed_text e = codes "executed " ++ decimal e.down ++ codes " " ++ encode_lower e.content ++ codes "\n"

unfoldable pub refused_text : SideReason → List ℕ
refused_text reason = codes "refused " ++ reason_text reason ++ codes "\n"

abbrev pub answer_text : Answer → List ℕ
answer_text Bad = codes "bad\n"
answer_text (Heard (did.Executed e)) = executed_text e
answer_text (Heard (did.Refused reason)) = refused_text reason

unfoldable pub last_text : ℕ → List ℕ
last_text last = codes "last " ++ decimal last ++ codes "\n"
