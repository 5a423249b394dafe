use Rattle.std.proofs.Common.{◌≡◌, ◌+◌, ◌<◌, ◌≤◌, ◌++◌, ◌∙◌, ℕ, List, [], ◌∷◌, length, map, take, get_or, sym, ap, arith}
use Rattle.std.proofs.lemmas.List.{length-map, length-take, map-append, take_all, take_more}
use Rattle.report_text.specs.Report.{meter_text}
use Rattle.report_text.proofs.parts.meter_parts.Goals as goal

as_many : {A B : Type 0} (f : A → B) (xs : List A) (i : ℕ) → i ≤ length xs → length (map f (take i xs)) ≡ i
as_many f xs i within = length-map (take i xs) f ∙ omega (arith, length-take i xs)

one_more : {A B : Type 0} (f : A → B) (xs : List A) (i : ℕ) (x : A) (done now : List B) (last : B) → i < length xs
    → done ≡ map f (take i xs) → x ≡ get_or xs i x → last ≡ f x → now ≡ done ++ last ∷ [] → now ≡ map f (take (i + 1) xs)
one_more f xs i x done now last within so_far is text more =
    more ∙ ap (λ l. l ++ last ∷ []) so_far ∙ ap (λ b. map f (take i xs) ++ b ∷ []) text ∙ sym (map-append f (take i xs) (x ∷ []))
    ∙ ap (λ y. map f (take i xs ++ y ∷ [])) is ∙ sym (ap (map f) (take_more xs i x within))

pub push_reserved-requires : goal.push_reserved-requires
push_reserved-requires c =
    let within = c.loop-slot-test.true in
    let count = c.loop-slot.parts.ok.0 ∙ ap length c.loop-slot.invariant.0
    ∙ as_many meter_text c.args.slots.now c.loop-slot.slot-index c.loop-slot.auto.slot-index-end in
    let room = c.loop-slot.invariant.1 in
    omega arith

pub loop-slot-preserved : goal.loop-slot-preserved
loop-slot-preserved c = (
  one_more meter_text c.args.slots.now c.loop-slot.slot-index c.slot-item.result c.loop-slot.parts.items c.push_reserved.new.self.items
      c.new.result c.loop-slot-test.true c.loop-slot.invariant.0 c.slot-item.is c.new.ensures c.push_reserved.ensures.items,
  c.push_reserved.ensures.capacity ∙ c.loop-slot.invariant.1,
)

pub returns : goal.returns
returns c = c.loop-slot.invariant.0 ∙ ap (map meter_text) (take_all c.loop-slot.slot-index c.args.slots.now c.loop-slot-test.false)
