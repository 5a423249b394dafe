-- What is answered to lines of deliveries.
use Rattle.std.proofs.Common.{◌≡◌, ℕ, ◌&&◌, ◌==◌, Bool, true, false, cond, ltb, List, [], ◌∷◌, ◌++◌, length, Option, Some, None, Result, Ok, Err, refl, sym, ap}
use Rattle.std.specs.Prelude.{IfSome}
use Rattle.std.specs.Result.{result_ok}
use Rattle.std.specs.Option.{option_to_list}
use Rattle.aes_block.specs.Block.{IsBlock}
use Rattle.frame_formats.specs.Crc.{IsBytes}
use Rattle.frame_formats.proofs.Division.{each_byte}
use Rattle.hex.specs.Hex.{decode_of}
use Rattle.hex.specs.declared.error.FromHexError.{FromHexError}
use Rattle.hex.proofs.HexLemmas.{decode_of-ok}
use Rattle.meter_address.specs.declared.address.Address.{Address}
use Rattle.meter_address.specs.Commission.{Commissioned}
use Rattle.meter_side_main.specs.declared.delivery.Executed.{Executed}
use Rattle.meter_side_main.specs.declared.reason.Did.{Did}
use Rattle.meter_side_main.specs.declared.reason.Did.TheVariants as did
use Rattle.meter_side_main.specs.declared.lines.Answer.TheVariants.{Heard}
use Rattle.meter_side_main.specs.Reading.{did_after, executed_in, last_after, executed_after}
use Rattle.meter_side_main.specs.Genuine.{AreExecuted}
use Rattle.meter_side_main.specs.Side.{AllBytes}
use Rattle.meter_side_main.specs.Lines.{bytes_in, delivery_in, answer_of, last_by}
use Rattle.meter_side_main.specs.Answers.{IsAnswer, AreAnswers, deliveries_in, executed_among, answers_to}
use Rattle.meter_side_main.proofs.Hearing.{executed_found}
use Rattle.meter_side_main.proofs.Refusing.{refused_exactly}
use Rattle.meter_side_main.proofs.Executing.{executed_none, executed_exactly}

-- what a line delivers are bytes
bytes_given : (digits : List ℕ) (r : Result (List ℕ) FromHexError) → decode_of digits ≡ r → IfSome (result_ok r) IsBytes
bytes_given digits (Ok bytes) made = each_byte bytes (decode_of-ok digits bytes made).3
bytes_given digits (Err e) made = tt

given_if : (b : Bool) (o p : Option (List ℕ)) → IfSome o IsBytes → IfSome p IsBytes → IfSome (cond b o p) IsBytes
given_if true o p h k = h
given_if false o p h k = k

delivery_bytes : (line : List ℕ) → IfSome (delivery_in line) IsBytes
unfolding delivery_in bytes_in
delivery_bytes (first ∷ second ∷ digits) =
    given_if (first == 68 && second == 32) _ None
    (given_if (ltb 580 (length digits)) None _ tt (bytes_given digits (decode_of digits) refl)) tt
delivery_bytes _ = tt

more_bytes : (o : Option (List ℕ)) (ds : List (List ℕ)) → IfSome o IsBytes → AllBytes ds → AllBytes (option_to_list o ++ ds)
more_bytes None ds one all = all
more_bytes (Some d) ds one all = (one, all)

deliveries_bytes : (lines : List (List ℕ)) → AllBytes (deliveries_in lines)
deliveries_bytes [] = tt
deliveries_bytes (line ∷ lines) = more_bytes (delivery_in line) (deliveries_in lines) (delivery_bytes line) (deliveries_bytes lines)

module _ (own : Address) (c : Commissioned) (key : IsBlock c.key) where
  heard_answer : (last : ℕ) (d : List ℕ) → IsBytes d → (x : Did) → did_after own c last d ≡ x → IsAnswer own c last (Some d) (Heard x)
  heard_answer last d bytes (did.Executed e) is = executed_found own c last d e key bytes is
  heard_answer last d bytes (did.Refused reason) is = (refused_exactly own c last d reason key bytes).0 is

  is_answer : (last : ℕ) (o : Option (List ℕ)) → IfSome o IsBytes → IsAnswer own c last o (answer_of own c last o)
  is_answer last None bytes = tt
  is_answer last (Some d) bytes = heard_answer last d bytes (did_after own c last d) refl

  pub are_answers : (last : ℕ) (lines : List (List ℕ)) → AreAnswers own c last lines (answers_to own c last lines)
  are_answers last [] = tt
  are_answers last (line ∷ lines) =
      (is_answer last (delivery_in line) (delivery_bytes line), are_answers (last_by last (answer_of own c last (delivery_in line))) lines)

  -- ---- what they execute

  one_executes : (last : ℕ) (o : Option (List ℕ)) (lines : List (List ℕ))
      → ((n : ℕ) → executed_among (answers_to own c n lines) ≡ executed_after own c n (deliveries_in lines))
      → executed_among (answer_of own c last o ∷ answers_to own c (last_by last (answer_of own c last o)) lines)
      ≡ executed_after own c last (option_to_list o ++ deliveries_in lines)
  unfolding executed_after
  one_executes last None lines more = more last
  one_executes last (Some d) lines more =
      ap (λ (es : List Executed). executed_in (did_after own c last d) ++ es) (more (last_after last (did_after own c last d)))

  all_execute : (lines : List (List ℕ)) (last : ℕ)
      → executed_among (answers_to own c last lines) ≡ executed_after own c last (deliveries_in lines)
  all_execute [] last = sym (executed_none own c last)
  all_execute (line ∷ lines) last = one_executes last (delivery_in line) lines (all_execute lines)

  pub answers_execute : (lines : List (List ℕ))
      → AreExecuted own c (c.down ∷ []) (deliveries_in lines) (executed_among (answers_to own c c.down lines))
  answers_execute lines =
      (executed_exactly own c (deliveries_in lines) _ key (deliveries_bytes lines)).1 (all_execute lines c.down)
