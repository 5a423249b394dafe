-- The lines of a roster, piece by piece.
use Rattle.std.proofs.Common.{◌≡◌, ℕ, List, [], ◌∷◌, ◌++◌, refl, append_assoc}
use Rattle.std.specs.Prelude.{codes}
use Rattle.std.specs.Fmt.{decimal}
use Rattle.hex.specs.Hex.{encode_lower}
use Rattle.paper.specs.Puts.{Puts}
use Rattle.paper.proofs.Calls.{three_make}
use Rattle.meter_address.specs.declared.address.Address.{Address}
use Rattle.meter_address.specs.Address.{text_of}
use Rattle.meter_address.specs.Commission.{Commissioned}
use Rattle.roster_file.specs.Text.{mode_text, other_text, last_text, meter_text, own_text}
use Rattle.roster_file.specs.Writing.{name_text, keys_text, counts_text}

-- fields and spaces, bracketed either way
brackets : (w a m k o l d i : List ℕ)
    → (w ++ 32 ∷ (a ++ 32 ∷ (m ++ 32 ∷ (k ++ 32 ∷ (o ++ 32 ∷ (l ++ 32 ∷ (d ++ 32 ∷ i))))))) ++ (10 ∷ [])
    ≡ ((w ++ (32 ∷ [])) ++ a ++ (32 ∷ []) ++ m ++ (32 ∷ [])) ++ (k ++ (32 ∷ []) ++ o ++ (32 ∷ []))
    ++ (l ++ (32 ∷ []) ++ d ++ (32 ∷ []) ++ i ++ (10 ∷ []))
brackets w a m k o l d i = simp append_assoc refl

meter_is : (c : Commissioned) → meter_text c ≡ name_text c ++ keys_text c ++ counts_text c
unfolding meter_text name_text keys_text counts_text
meter_is c =
    brackets (codes "meter") (text_of c.address) (mode_text c.mode) (encode_lower c.key) (other_text c.other) (last_text c.last)
    (decimal c.down) (decimal c.ids)

pub meter_line : {P : Type 0} {takes : P → List ℕ → P → Type 0} {p q r s : P} (c : Commissioned) → Puts takes p (name_text c) q
    → Puts takes q (keys_text c) r → Puts takes r (counts_text c) s → Puts takes p (meter_text c) s
meter_line c one two three = three_make (meter_text c) one two three (meter_is c)

pub own_brackets : (w a : List ℕ) → (w ++ 32 ∷ a) ++ (10 ∷ []) ≡ (w ++ (32 ∷ [])) ++ a ++ (10 ∷ [])
own_brackets w a = simp append_assoc refl

own_is : (own : Address) → own_text own ≡ codes "own " ++ text_of own ++ codes "\n"
unfolding own_text
own_is own = own_brackets (codes "own") (text_of own)

pub own_line : {P : Type 0} {takes : P → List ℕ → P → Type 0} {p q r s : P} (own : Address) → Puts takes p (codes "own ") q
    → Puts takes q (text_of own) r → Puts takes r (codes "\n") s → Puts takes p (own_text own) s
own_line own one two three = three_make (own_text own) one two three (own_is own)
