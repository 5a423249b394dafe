-- What is told of one line, by what its calls said.
use Rattle.std.proofs.Common.{◌≡◌, ◌<◌, ◌^◌, ℕ, List, [], map, length, Option, refl, sym, ap, ◌∙◌, subst}
use Rattle.line_reader.specs.declared.line.BadLine.TheVariants as bads
use Rattle.line_reader.proofs.LinesLemmas.{too_long}
use Rattle.line_teller.specs.Telling.{Tells}
use Rattle.line_teller.proofs.Keeping.{told_by}
use Rattle.meter_address.specs.declared.address.Address.{Address}
use Rattle.meter_slots.specs.declared.entry.Event.{Event}
use Rattle.meter_worlds.specs.declared.passing_world.PassingMeter.{PassingMeter}
use Rattle.meter_slots.specs.declared.standing.Served.{Served}
use Rattle.meter_slots.specs.Journal.{SlotView}
use Rattle.meter_worlds.specs.PassingWorld.{ArePassing, IsServed, keeping, step_for}
use Rattle.meter_slots.specs.World.{slot_after}
use Rattle.paper.specs.InMemory.{Kept, Keeps}
use Rattle.paper.specs.Puts.{Puts}
use Rattle.paper.proofs.Calls.{none}
use Rattle.receivers.specs.declared.class.Class.{Class}
use Rattle.receivers.specs.Counting.{with_class, AreFew}
use Rattle.step_text.specs.declared.said.Said.{Said}
use Rattle.step_text.specs.declared.said.Said.TheVariants as said
use Rattle.step_text.specs.Said.{said_by_reading, said_of}
use Rattle.steps_main.specs.declared.telling.Stepper.{Stepper}
use Rattle.steps_main.specs.Telling.{answer_told, answer_class, PutsEvent, PutsSaid, TellsLine, TellsSaid}

-- ---- an event

module _ (n : ℕ) (a : Address) (e : Event) (old new : List PassingMeter) (answer : Option (ℕ × Served)) (sheet sheet' : Kept)
    (served : (slots : List SlotView) (source line : ℕ) → ArePassing slots old → IsServed slots (step_for source line a e) answer)
    (after : (slots : List SlotView) (source line : ℕ) → ArePassing slots old
    → ArePassing (map (slot_after (step_for source line a e)) slots) (keeping answer new)) where
  pub event_so : (its : Option (ℕ × Served)) (kept : List PassingMeter) → answer ≡ its → kept ≡ keeping its new
      → Puts Keeps sheet (answer_told n a e its) sheet' → PutsEvent n a e old kept (answer_class its) sheet sheet'
  event_so its kept is kept_is puts = record {
    text = answer_told n a e its;
    told = record {
      answer = answer;
      served = λ slots stands. served slots 1 n stands;
      after = λ slots stands.
          subst (ArePassing (map (slot_after (step_for 1 n a e)) slots)) (ap (λ o. keeping o new) is ∙ sym kept_is)
          (after slots 1 n stands);
      text_is = ap (answer_told n a e) (sym is);
      class_is = ap answer_class (sym is);
    };
    puts = puts;
  }

-- ---- what a line says

pub said_so : (n : ℕ) (says s : Said) (old new : List PassingMeter) (class : Class) (text : List ℕ) (sheet sheet' : Kept) → says ≡ s
    → TellsSaid n s old new class text → Puts Keeps sheet text sheet' → PutsSaid n says old new class sheet sheet'
said_so n says s old new class text sheet sheet' is told puts =
    subst (λ t. PutsSaid n t old new class sheet sheet') (sym is) (record { text = text; told = told; puts = puts })

-- ---- a line

pub line_tells : (old new : Stepper) (n : ℕ) (line : List ℕ) (says : Said) (class : Class) (sheet sheet' note : Kept) → says ≡ said_of line
    → PutsSaid n says old.world new.world class sheet sheet' → (AreFew old.counts → new.counts ≡ with_class old.counts class)
    → n < 2 ^ 32 → Tells (TellsLine old n line) new sheet sheet' note note
line_tells old new n line says class sheet sheet' note is puts counted few =
    let so : PutsSaid n (said_of line) old.world new.world class sheet sheet' =
    subst (λ s. PutsSaid n s old.world new.world class sheet sheet') is puts in
    told_by (TellsLine old n line) new sheet sheet' note note so.text [] so.puts none
    (record { class = class; told = so.told; counted = counted; few = few; note_is = refl })

-- a line that is too long is outside the grammar
pub long_said : (line : List ℕ) → 1024 < length line → said.Bad bads.TooLong ≡ said_of line
unfolding said_of
long_said line long = sym (ap said_by_reading (too_long line long))
