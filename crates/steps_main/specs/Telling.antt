-- Words of private contracts: what is told of one line.
use Rattle.std.specs.Prelude.{ℕ, ◌≡◌, ◌<◌, ◌^◌, List, [], Option, Some, None, map}
use Rattle.paper.specs.InMemory.{Kept, Keeps}
use Rattle.paper.specs.Puts.{Puts}
use Rattle.meter_address.specs.declared.address.Address.{Address}
use Rattle.meter_slots.specs.declared.entry.Event.{Event}
use Rattle.meter_worlds.specs.declared.passing_world.PassingMeter.{PassingMeter}
use Rattle.meter_slots.specs.declared.standing.Served.{Served}
use Rattle.meter_slots.specs.Journal.{Start, SlotView}
use Rattle.meter_worlds.specs.PassingWorld.{ArePassing, IsServed, step_for}
use Rattle.meter_slots.specs.World.{fresh_slot, slot_after}
use Rattle.receivers.specs.declared.class.Class.{Class}
use Rattle.receivers.specs.declared.class.Class.TheVariants as classes
use Rattle.receivers.specs.Counting.{with_class, AreFew}
use Rattle.receivers.specs.Receiver.{no_counts}
use Rattle.step_text.specs.declared.said.Said.{Said}
use Rattle.step_text.specs.declared.said.Said.TheVariants as said
use Rattle.step_text.specs.Lines.{step_line, stranger_line, unframed_line, bad_line}
use Rattle.step_text.specs.Said.{said_of}
use Rattle.steps_main.specs.declared.telling.Stepper.{Stepper}

-- what is told of an event that was answered so
abbrev pub answer_told : ℕ → Address → Event → Option (ℕ × Served) → List ℕ
answer_told n address event None = stranger_line n address event
answer_told n address event (Some (place, served)) = step_line n address event served

abbrev pub answer_class : Option (ℕ × Served) → Class
answer_class None = classes.Strange
answer_class (Some (place, served)) = classes.Own

-- an event was answered, and this was told of it; whatever the slots are for which the meters stand
pub record TellsEvent (n : ℕ) (address : Address) (event : Event) (old new : List PassingMeter) (class : Class) (text : List ℕ) : Type 0 where
  pub answer : Option (ℕ × Served)
  pub served : (slots : List SlotView) → ArePassing slots old → IsServed slots (step_for 1 n address event) answer
  pub after : (slots : List SlotView) → ArePassing slots old → ArePassing (map (slot_after (step_for 1 n address event)) slots) new
  pub text_is : text ≡ answer_told n address event answer
  pub class_is : class ≡ answer_class answer

-- a line that says nothing was told so
pub record TellsCause (told : List ℕ) (its : Class) (old new : List PassingMeter) (class : Class) (text : List ℕ) : Type 0 where
  pub text_is : text ≡ told
  pub class_is : class ≡ its
  pub same : new ≡ old

-- what a line says was told
abbrev pub TellsSaid : ℕ → Said → (old new : List PassingMeter) → Class → List ℕ → Type 0
TellsSaid n (said.Event address event) old new class text = TellsEvent n address event old new class text
TellsSaid n (said.Unframed fault) old new class text = TellsCause (unframed_line n fault) classes.Unframed old new class text
TellsSaid n (said.Bad bad) old new class text = TellsCause (bad_line n bad) classes.Bad old new class text

-- it was put on a sheet
pub record PutsEvent (n : ℕ) (address : Address) (event : Event) (old new : List PassingMeter) (class : Class) (sheet sheet' : Kept) : Type 0 where
  pub text : List ℕ
  pub told : TellsEvent n address event old new class text
  pub puts : Puts Keeps sheet text sheet'

pub record PutsSaid (n : ℕ) (said : Said) (old new : List PassingMeter) (class : Class) (sheet sheet' : Kept) : Type 0 where
  pub text : List ℕ
  pub told : TellsSaid n said old new class text
  pub puts : Puts Keeps sheet text sheet'

-- no line was told yet of the meters of which this is known
pub record IsFresh (own : Address) (starts : List Start) (stepper : Stepper) : Type 0 where
  pub meters : ArePassing (map (fresh_slot own) starts) stepper.world
  pub counts : stepper.counts ≡ no_counts

-- a line was told and counted, and nothing is noted of it
pub record TellsLine (old : Stepper) (n : ℕ) (line text note : List ℕ) (new : Stepper) : Type 0 where
  pub class : Class
  pub told : TellsSaid n (said_of line) old.world new.world class text
  pub counted : AreFew old.counts → new.counts ≡ with_class old.counts class
  pub few : n < 2 ^ 32
  pub note_is : note ≡ []
