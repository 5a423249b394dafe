-- Lines that are told one after another.
use Rattle.std.proofs.Common.{◌≡◌, ℕ, ◌+◌, ◌-◌, ◌<◌, ◌^◌, List, [], ◌∷◌, ◌++◌, map, length, refl, sym, ap, ap₂, ◌∙◌, subst, arith, append_assoc, length-append}
use Rattle.std.proofs.lemmas.List.{append-nil}
use Rattle.line_teller.specs.Telling.{AreTold}
use Rattle.meter_address.specs.declared.address.Address.{Address}
use Rattle.meter_address.specs.Address.{AreApart}
use Rattle.meter_slots.specs.declared.entry.Event.{Event}
use Rattle.meter_worlds.specs.declared.passing_world.PassingMeter.{PassingMeter}
use Rattle.meter_slots.specs.declared.step.Step.{Step}
use Rattle.meter_slots.specs.Journal.{Start, SlotView}
use Rattle.meter_worlds.specs.PassingWorld.{ArePassing, step_for}
use Rattle.meter_slots.specs.World.{WorldView, slot_after, slot_of, world_of}
use Rattle.meter_slots.proofs.Worlds.{after_push}
use Rattle.receivers.specs.Alone.{steps_among, steps_of}
use Rattle.receivers.specs.Classes.{class_by, counts_of}
use Rattle.receivers.specs.Counting.{with_class}
use Rattle.receivers.specs.declared.class.Class.{Class}
use Rattle.receivers.specs.declared.told.Told.{Told}
use Rattle.receivers.specs.declared.told.Told.TheVariants as told
use Rattle.receivers.specs.Told.{told_of}
use Rattle.receivers.proofs.Lone.{steps_more}
use Rattle.receivers.proofs.Numbers.{are_few, counted}
use Rattle.state_file.specs.Whole.{Known}
use Rattle.step_text.specs.declared.said.Said.{Said}
use Rattle.step_text.specs.declared.said.Said.TheVariants as said
use Rattle.step_text.specs.Said.{said_of}
use Rattle.steps_main.specs.Told.{told_in, SaidIsTold}
use Rattle.steps_main.specs.declared.telling.Stepper.{Stepper}
use Rattle.steps_main.specs.Steps.{said_told, line_told, lines_told}
use Rattle.steps_main.specs.Telling.{TellsSaid, TellsLine}
use Rattle.steps_main.proofs.Meters.{answer_is, class_is}

abbrev pub directory : Known → List Address
directory known = map (λ (c : Start). c.address) known.starts

-- the meters' slots behind lines that told this
abbrev pub slots_behind : Known → List Told → List SlotView
slots_behind known before = map (slot_of known.own (steps_of 1 before)) known.starts

-- ---- the slots behind one line more

none_more : (before : List Told) (t : Told) (n : ℕ) → n ≡ 1 + length before → steps_among 1 ((n, t) ∷ []) ≡ []
    → steps_of 1 (before ++ t ∷ []) ≡ steps_of 1 before
none_more before t n is none =
    steps_more 1 before t n is ∙ ap (λ l. steps_of 1 before ++ l) none ∙ append-nil (steps_of 1 before)

event_among : (n : ℕ) (a : Address) (e : Event) → steps_among 1 ((n, told.Event a e) ∷ []) ≡ step_for 1 n a e ∷ []
unfolding steps_among
event_among n a e = refl

unframed_among : (n : ℕ) → steps_among 1 ((n, told.Unframed) ∷ []) ≡ []
unfolding steps_among
unframed_among n = refl

bad_among : (n : ℕ) → steps_among 1 ((n, told.Bad) ∷ []) ≡ []
unfolding steps_among
bad_among n = refl

slots_pushed : (known : Known) (steps : List Step) (s : Step)
    → map (slot_after s) (map (slot_of known.own steps) known.starts) ≡ map (slot_of known.own (steps ++ s ∷ [])) known.starts
unfolding world_of
slots_pushed known steps s = ap (λ (w : WorldView). w.slots) (after_push known.own known.starts steps s)

slots_more : (known : Known) (before : List Told) (n : ℕ) (a : Address) (e : Event) → n ≡ 1 + length before
    → map (slot_after (step_for 1 n a e)) (slots_behind known before) ≡ slots_behind known (before ++ told.Event a e ∷ [])
slots_more known before n a e is =
    slots_pushed known (steps_of 1 before) (step_for 1 n a e)
    ∙ ap (λ steps. map (slot_of known.own steps) known.starts)
    (ap (λ l. steps_of 1 before ++ l) (sym (event_among n a e)) ∙ sym (steps_more 1 before (told.Event a e) n is))

slots_same : (known : Known) (before : List Told) (t : Told) (n : ℕ) → n ≡ 1 + length before → steps_among 1 ((n, t) ∷ []) ≡ []
    → slots_behind known before ≡ slots_behind known (before ++ t ∷ [])
slots_same known before t n is none =
    ap (λ steps. map (slot_of known.own steps) known.starts) (sym (none_more before t n is none))

-- ---- one line

-- what one more line comes to
record IsSaid (known : Known) (before : List Told) (n : ℕ) (s : Said) (new : List PassingMeter) (class : Class) (text : List ℕ) : Type 0 where
  text_is : text ≡ said_told known before n s
  meters : ArePassing (slots_behind known (before ++ told_in s ∷ [])) new
  class_of : class ≡ class_by (directory known) (told_in s)

said_so : (known : Known) (apart : AreApart (directory known)) (before : List Told) (n : ℕ) → n ≡ 1 + length before → (s : Said)
    → (old new : List PassingMeter) (class : Class) (text : List ℕ) → ArePassing (slots_behind known before) old
    → TellsSaid n s old new class text → IsSaid known before n s new class text
said_so known apart before n is (said.Event a e) old new class text stands tells =
    let served = tells.served (slots_behind known before) stands in record {
      text_is = tells.text_is ∙ answer_is known.own known.starts before n a e apart tells.answer served;
      meters = subst (λ slots. ArePassing slots new) (slots_more known before n a e is) (tells.after (slots_behind known before) stands);
      class_of = tells.class_is ∙ class_is known.own known.starts before n a e apart tells.answer served;
    }
said_so known apart before n is (said.Unframed fault) old new class text stands tells = record {
  text_is = tells.text_is;
  meters = subst (λ slots. ArePassing slots new) (slots_same known before told.Unframed n is (unframed_among n))
      (subst (ArePassing (slots_behind known before)) (sym tells.same) stands);
  class_of = tells.class_is;
}
said_so known apart before n is (said.Bad bad) old new class text stands tells = record {
  text_is = tells.text_is;
  meters = subst (λ slots. ArePassing slots new) (slots_same known before told.Bad n is (bad_among n))
      (subst (ArePassing (slots_behind known before)) (sym tells.same) stands);
  class_of = tells.class_is;
}

-- what has told some lines stands for the slots behind them, and has their counts
pub record StandsBehind (known : Known) (before : List Told) (stepper : Stepper) : Type 0 where
  pub meters : ArePassing (slots_behind known before) stepper.world
  pub counts : stepper.counts ≡ counts_of (directory known) before

pub record IsTold (known : Known) (before : List Told) (n : ℕ) (line text : List ℕ) (new : Stepper) : Type 0 where
  pub text_is : text ≡ line_told known before n line
  pub stands : StandsBehind known (before ++ told_of line ∷ []) new

line_so : (known : Known) (apart : AreApart (directory known)) (saying : SaidIsTold) (before : List Told) (n : ℕ) → n ≡ 1 + length before
    → (old new : Stepper) (line text note : List ℕ) → StandsBehind known before old → TellsLine old n line text note new
    → IsTold known before n line text new
line_so known apart saying before n is old new line text note stands told =
    let one = said_so known apart before n is (said_of line) old.world new.world told.class text stands.meters told.told in
    let same : told_in (said_of line) ≡ told_of line = saying line in
    let few = are_few (directory known) before old.counts stands.counts (let small = told.few in omega arith) in
    let counts_are : new.counts ≡ counts_of (directory known) (before ++ told_in (said_of line) ∷ []) =
    told.counted few ∙ ap (with_class old.counts) one.class_of
    ∙ counted (directory known) before (told_in (said_of line)) old.counts stands.counts in record {
      text_is = one.text_is;
      stands = subst (λ t. StandsBehind known (before ++ t ∷ []) new) same (record { meters = one.meters; counts = counts_are });
    }

-- ---- all lines

pub record AreSo (known : Known) (before : List Told) (n : ℕ) (lines : List (List ℕ)) (text : List ℕ) (last : Stepper) : Type 0 where
  pub text_is : text ≡ lines_told known before n lines
  pub stands : StandsBehind known (before ++ map told_of lines) last

pub lines_so : (known : Known) (apart : AreApart (directory known)) (saying : SaidIsTold) (n : ℕ) (before : List Told) → n ≡ 1 + length before
    → (first last : Stepper) (lines : List (List ℕ)) (text note : List ℕ) → StandsBehind known before first
    → AreTold TellsLine n first lines text note last → AreSo known before n lines text last
lines_so known apart saying n before is first last [] text note stands told = record {
  text_is = told.0;
  stands = subst (λ heard. StandsBehind known heard last) (sym (append-nil before))
      (subst (StandsBehind known before) (sym told.2) stands);
}
lines_so known apart saying n before is first last (line ∷ lines) text note stands told =
    let one = line_so known apart saying before n is first told.next line told.first_text told.first_note stands told.told in
    let later = lines_so known apart saying (n + 1) (before ++ told_of line ∷ []) (omega (arith, length-append before (told_of line ∷ []))) told.next last lines
    told.later_text told.later_note one.stands told.later in record {
      text_is = told.text_is ∙ ap₂ ◌++◌ one.text_is later.text_is;
      stands = subst (λ heard. StandsBehind known heard last) (append_assoc before (told_of line ∷ []) (map told_of lines)) later.stands;
    }
