-- What is put or shown of a meter at a place, by what the calls answer.
use Rattle.std.proofs.Common.{◌≡◌, ℕ, Bool, cond, List, [], Option, Some, None, subst}
use Rattle.std.specs.Prelude.{IfSome, option_map}
use Rattle.meter_worlds.specs.declared.passing_world.PassingMeter.{PassingMeter}
use Rattle.meter_slots.specs.Journal.{Start}
use Rattle.meter_worlds.specs.PassingWorld.{had_step, known_by}
use Rattle.paper.specs.Pieces.{text_if}
use Rattle.paper.specs.Puts.{Puts}
use Rattle.state_file.specs.Written.{IsStart}
use Rattle.steps_main.specs.Ending.{IsTellable, known_block, stepped_block}

-- the text of what is known of a meter
abbrev pub text_known : (Start → List ℕ) → PassingMeter → List ℕ
text_known text m = text (known_by m)

pub put_known : {P : Type 0} {takes : P → List ℕ → P → Type 0} {p q : P} (text : Start → List ℕ) (o : Option PassingMeter)
    (found : Option Start) → found ≡ option_map known_by o → Puts takes p (text_if text found) q → Puts takes p (text_if (text_known text) o) q
put_known {takes} {p} {q} text None found answer puts = subst (λ f. Puts takes p (text_if text f) q) answer puts
put_known {takes} {p} {q} text (Some m) found answer puts = subst (λ f. Puts takes p (text_if text f) q) answer puts

pub put_stepped : {P : Type 0} {takes : P → List ℕ → P → Type 0} {p q : P} (o : Option PassingMeter) (b : Bool) → b ≡ had_step o
    → Puts takes p (cond b (text_if known_block o) []) q → Puts takes p (text_if stepped_block o) q
put_stepped {takes} {p} {q} None b answer puts = subst (λ t. Puts takes p (cond t [] []) q) answer puts
put_stepped {takes} {p} {q} (Some m) b answer puts = subst (λ t. Puts takes p (cond t (known_block m) []) q) answer puts

pub tell_known : (o : Option PassingMeter) (found : Option Start) → found ≡ option_map known_by o → IfSome found IsStart
    → IfSome o IsTellable
tell_known None found answer shown = tt
tell_known (Some m) found answer shown = subst (λ f. IfSome f IsStart) answer shown
