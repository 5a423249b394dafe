-- A state whose counters are raised, meter by meter.
use Rattle.std.proofs.Common.{◌≡◌, ℕ, ◌+◌, ◌-◌, ◌^◌, ◌≤◌, min, Bool, true, false, cond, List, [], ◌∷◌, ◌++◌, map, find, codes, Some, None, option_map, refl, sym, ap, ap₂, ◌∙◌, arith}
use Rattle.std.specs.List.{flat_map}
use Rattle.std.proofs.lemmas.Bool.{ltb-false}
use Rattle.paper.specs.Puts.{Puts}
use Rattle.paper.proofs.Calls.{four_make}
use Rattle.paper.proofs.Items.{is_put}
use Rattle.meter_address.specs.Commission.{Commissioned}
use Rattle.roster_file.specs.Text.{own_text}
use Rattle.meter_slots.specs.Journal.{Start, commission_of}
use Rattle.meter_slots.specs.Resuming.{reserved}
use Rattle.state_file.specs.Whole.{Known}
use Rattle.state_file.specs.Written.{block_text, state_text}
use Rattle.state_file.specs.Recommissioning.{recommissioned}
use Rattle.state_changes.specs.Raising.{raised, is_spent, first_spent}
use Rattle.state_changes.specs.Printing.{capped_commission, capped_block}

-- a meter's block with its counter raised
pub capped_pieces : {P : Type 0} {takes : P → List ℕ → P → Type 0} {p q : P} (n : ℕ) (k w : Commissioned) (m v : Start) → v ≡ m
    → w ≡ commission_of v → k ≡ capped_commission n w → Puts takes p (block_text (recommissioned v k)) q → Puts takes p (capped_block n m) q
capped_pieces n k w m v known read is puts =
    is_put (capped_block n m) (block_text (recommissioned v k))
    (ap (capped_block n) (sym known)
    ∙ ap (λ (d : Commissioned). block_text (recommissioned v d)) (sym (is ∙ ap (capped_commission n) read))) puts

-- where no counter is spent, none of the meters' is
parts_by : (b : Bool) (n : ℕ) (c : Start) (cs : List Start) → is_spent n c ≡ b
    → option_map (λ (m : Start). m.address) (cond b (Some c) (find (is_spent n) cs)) ≡ None
    → (is_spent n c ≡ false) × (first_spent n cs ≡ None)
parts_by true n c cs is none = absurd (let no : Some c.address ≡ None = none in cc)
parts_by false n c cs is none = (is, none)

pub parts : (n : ℕ) (c : Start) (cs : List Start) → first_spent n (c ∷ cs) ≡ None → (is_spent n c ≡ false) × (first_spent n cs ≡ None)
parts n c cs none = parts_by (is_spent n c) n c cs refl none

pub fits : (n : ℕ) (c : Start) → is_spent n c ≡ false → c.orders.down + n ≤ 2 ^ 32 - 1
fits n c h = ltb-false (2 ^ 32 - 1) (c.orders.down + n) h

-- such a meter's block is that of the meter with its reserve
block_is : (n : ℕ) (c : Start) → is_spent n c ≡ false → block_text (reserved n c) ≡ capped_block n c
block_is n c h =
    let same : min (c.orders.down + n) (2 ^ 32 - 1) ≡ c.orders.down + n = (let fit = fits n c h in omega arith) in
    ap (λ (k : ℕ). block_text (recommissioned c (record (commission_of c) { down = k }))) (sym same)

blocks_are : (n : ℕ) (cs : List Start) → first_spent n cs ≡ None
    → flat_map block_text (map (reserved n) cs) ≡ flat_map (capped_block n) cs
blocks_are n [] none = refl
blocks_are n (c ∷ cs) none =
    let both = parts n c cs none in
    ap₂ ◌++◌ (block_is n c both.0) (blocks_are n cs both.1)

text_is : (n : ℕ) (s : Known) → first_spent n s.starts ≡ None → state_text (raised n s)
    ≡ codes "wmbus-state 1\n" ++ own_text s.own ++ flat_map (capped_block n) s.starts ++ codes "end\n"
unfolding state_text
text_is n s none = ap (λ (t : List ℕ). codes "wmbus-state 1\n" ++ own_text s.own ++ t ++ codes "end\n") (blocks_are n s.starts none)

pub raised_pieces : {P : Type 0} {takes : P → List ℕ → P → Type 0} {p q r s t : P} (n : ℕ) (known next : Known)
    → first_spent n known.starts ≡ None → raised n known ≡ next → Puts takes p (codes "wmbus-state 1\n") q
    → Puts takes q (own_text known.own) r → Puts takes r (flat_map (capped_block n) known.starts) s
    → Puts takes s (codes "end\n") t → Puts takes p (state_text next) t
raised_pieces n known next none is one two three four =
    four_make (state_text next) one two three four (ap state_text (sym is) ∙ text_is n known none)
