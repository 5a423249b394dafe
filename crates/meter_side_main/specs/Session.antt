-- The lines of a source of deliveries that were heard, and what was answered to them.
use Rattle.std.specs.Prelude.{ℕ, ◌≡◌, Bool, List, [], ◌∷◌, ◌++◌, IsTrue}
use Rattle.std.specs.List.{flat_map}
use Rattle.line_reader.specs.Reader.{IsAtEnd, IsPastLimit, IsBrokenOff}
use Rattle.meter_address.specs.declared.address.Address.{Address}
use Rattle.meter_address.specs.Commission.{Commissioned}
use Rattle.paper.specs.Puts.{Puts}
use Rattle.meter_side_main.specs.declared.lines.Answer.{Answer}
use Rattle.meter_side_main.specs.declared.session.DeliveriesEnd.{DeliveriesEnd}
use Rattle.meter_side_main.specs.declared.session.DeliveriesEnd.TheVariants.{End, Cut, Fault}
use Rattle.meter_side_main.specs.Lines.{delivery_in, answer_of, answer_text}
use Rattle.meter_side_main.specs.Listening.{Listening}
use Rattle.meter_side_main.specs.Answers.{answers_to, last_after_all, side_text}

-- the source ended so, and these are the lines that were heard: an unfinished last one too where it ended within its limits, and else
-- the whole ones
abbrev pub EndsSo : DeliveriesEnd → (taken left : List ℕ) → List (List ℕ) → Type 0
EndsSo End taken left lines = IsAtEnd taken left lines
EndsSo Cut taken left lines = IsPastLimit taken left lines
EndsSo Fault taken left lines = IsBrokenOff taken lines

-- ---- words of private contracts

-- one more line is heard, and this is answered to it
pub record HearsNext (old : Listening) (lines lines' : List (List ℕ)) (answer : Answer) : Type 0 where
  pub line : List ℕ
  pub more : lines' ≡ lines ++ line ∷ []
  pub answered : answer ≡ answer_of old.own old.commission old.last (delivery_in line)

-- a paper tells some answers of a meter, which are those to these lines where contracts know the bytes of the source
pub record HasHeard {P : Type 0} (takes : P → List ℕ → P → Type 0) (tells : Bool) (first : Listening) (start : P) (lines : List (List ℕ))
    (now : Listening) (paper : P) : Type 0 where
  pub answers : List Answer
  pub puts : Puts takes start (flat_map answer_text answers) paper
  pub after : now ≡ record first { last = last_after_all first.last answers }
  pub answered : IsTrue tells → answers ≡ answers_to first.own first.commission first.last lines

-- the same with the line of the last counter, of a meter of which nothing was heard before
pub record HasAnswered {P : Type 0} (takes : P → List ℕ → P → Type 0) (tells : Bool) (own : Address) (c : Commissioned) (start : P)
    (lines : List (List ℕ)) (paper : P) : Type 0 where
  pub answers : List Answer
  pub puts : Puts takes start (side_text c answers) paper
  pub answered : IsTrue tells → answers ≡ answers_to own c c.down lines
