-- A state under a roster, meter by meter.
use Rattle.std.proofs.Common.{◌≡◌, ℕ, ◌+◌, ◌≤◌, ◌==◌, ◌^◌, ◌-◌, max, not, Bool, true, false, cond, List, [], ◌∷◌, ◌++◌, length, map, position, slice_get, codes, Option, Some, None, refl, sym, ap, ◌∙◌, subst, arith}
use Rattle.std.specs.Prelude.{nat_lt}
use Rattle.std.specs.List.{flat_map, position_or_len}
use Rattle.std.specs.Option.{ForSome}
use Rattle.std.proofs.lemmas.Bool.Decides.{nat_tests}
use Rattle.std.proofs.lemmas.List.{append-nil, length-map}
use Rattle.std.proofs.lemmas.List.Folds.{find_at, flat_map-map}
use Rattle.std.proofs.lemmas.Option.{slice_get_past}
use Rattle.paper.specs.Puts.{Puts}
use Rattle.paper.proofs.Calls.{four_make}
use Rattle.paper.proofs.Items.{is_put}
use Rattle.meter_address.specs.declared.address.Address.{Address}
use Rattle.meter_address.specs.declared.commission.Mode.{Mode}
use Rattle.meter_address.specs.declared.commission.Mode.TheVariants.{Five, Seven}
use Rattle.meter_address.specs.Commission.{Commissioned, FitsMode, most_last}
use Rattle.roster_file.specs.Roster.{Enrolled}
use Rattle.roster_file.specs.Text.{meter_text, own_text}
use Rattle.meter_slots.specs.Journal.{Start, commission_of, fresh_start}
use Rattle.state_file.specs.Whole.{Known}
use Rattle.state_file.specs.Written.{block_text, state_text}
use Rattle.state_file.specs.Recommissioning.{recommissioned}
use Rattle.state_changes.specs.Merging.{greater_of, first_of, last_kept, merged_commission, known_among, with_known, merged_meter, merged}
use Rattle.state_changes.specs.Printing.{at_place, merged_block}

-- ---- commissions

greater_fits : (most : ℕ) (a b : Option ℕ) → ForSome a (λ n. n ≤ most) → ForSome b (λ n. n ≤ most)
    → ForSome (greater_of a b) (λ n. n ≤ most)
greater_fits most None b one two = two
greater_fits most (Some n) None one two = one
greater_fits most (Some n) (Some k) one two = λ x e.
    let same : max n k ≡ x = cc in
    let low : n ≤ most = one n refl in
    let high : k ≤ most = two k refl in
    omega (arith, same, low, high)

first_fits : (most : ℕ) (a b : Option ℕ) → ForSome a (λ n. n ≤ most) → ForSome b (λ n. n ≤ most) → ForSome (first_of a b) (λ n. n ≤ most)
first_fits most None b one two = two
first_fits most (Some n) b one two = one

last_fits : (m c : Mode) (a b : Option ℕ) → ForSome a (λ n. n ≤ most_last m) → ForSome b (λ n. n ≤ most_last c)
    → ForSome (last_kept m c a b) (λ n. n ≤ most_last c)
last_fits Five Five a b one two = first_fits 255 a b one two
last_fits Seven Seven a b one two = greater_fits (2 ^ 32 - 1) a b one two
last_fits Five Seven a b one two = two
last_fits Seven Five a b one two = two

-- the last number of a merged commission is one of its mode
pub kept_fits : (m c : Mode) (other other' : Option (List ℕ)) (a b last : Option ℕ) → FitsMode m other a → FitsMode c other' b
    → last ≡ last_kept m c a b → FitsMode c other' last
kept_fits m c other other' a b last one two is = record {
  one_key = two.one_key;
  in_range = subst (λ (o : Option ℕ). ForSome o (λ n. n ≤ most_last c)) (sym is) (last_fits m c a b one.in_range two.in_range);
}

-- ---- the meter with an address

same_place : {A B : Type 0} (p : B → Bool) (f : A → B) (xs : List A) → position_or_len p (map f xs) ≡ position_or_len (λ x. p (f x)) xs
same_place p f [] = refl
same_place p f (x ∷ xs) = ap (λ (n : ℕ). cond (not (p (f x))) (1 + n) 0) (same_place p f xs)

module _ (a : Address) (starts : List Start) where
  abbrev is_it : Address → Bool
  is_it b = b.0 == a.0

  abbrev addresses : List Address
  addresses = map (λ (c : Start). c.address) starts

  abbrev place : ℕ
  place = position_or_len is_it addresses

  among : known_among a starts ≡ slice_get starts place
  among =
      find_at (λ (c : Start). c.address.0 == a.0) starts ∙ ap (slice_get starts) (sym (same_place is_it (λ (c : Start). c.address) starts))

  found_by : (b : Bool) → nat_lt place (length addresses) ≡ b
      → at_place starts (cond b (Some place) None) ≡ known_among a starts
  found_by true is = sym among
  found_by false is =
      let past : length starts ≤ place = (let many = length-map starts (λ (c : Start). c.address) in grind (arith, nat_tests)) in
      sym (among ∙ slice_get_past starts place past)

  pub found_at : (ps : List Address) (o : Option ℕ) (found : Option Start) → ps ≡ addresses → o ≡ position is_it ps → found ≡ at_place starts o
      → found ≡ known_among a starts
  found_at ps o found same is at =
      at ∙ ap (at_place starts) (is ∙ ap (position is_it) same) ∙ found_by (nat_lt place (length addresses)) refl

-- ---- blocks

pub known_block : {P : Type 0} {takes : P → List ℕ → P → Type 0} {p q : P} (starts : List Start) (c k w : Commissioned) (m v : Start)
    → Some m ≡ known_among c.address starts → v ≡ m → w ≡ commission_of v → k ≡ merged_commission w c
    → Puts takes p (block_text (recommissioned v k)) q → Puts takes p (merged_block starts c) q
known_block starts c k w m v found known read is puts =
    is_put (merged_block starts c) (block_text (recommissioned v k))
    (ap (λ (o : Option Start). block_text (with_known o c)) (sym found)
    ∙ ap (λ (x : Start). block_text (recommissioned x (merged_commission (commission_of x) c))) (sym known)
    ∙ ap (λ (d : Commissioned). block_text (recommissioned v d)) (sym (is ∙ ap (λ (d : Commissioned). merged_commission d c) read)))
    puts

fresh_text : (c : Commissioned) → block_text (fresh_start c) ≡ meter_text c
unfolding block_text
fresh_text c = append-nil (meter_text c)

pub fresh_block : {P : Type 0} {takes : P → List ℕ → P → Type 0} {p q : P} (starts : List Start) (c : Commissioned)
    → None ≡ known_among c.address starts → Puts takes p (meter_text c) q → Puts takes p (merged_block starts c) q
fresh_block starts c none puts =
    is_put (merged_block starts c) (meter_text c)
    (ap (λ (o : Option Start). block_text (with_known o c)) (sym none) ∙ fresh_text c) puts

text_is : (s : Known) (r : Enrolled) → state_text (merged s r)
    ≡ codes "wmbus-state 1\n" ++ own_text r.own ++ flat_map (merged_block s.starts) r.meters ++ codes "end\n"
unfolding state_text
text_is s r = ap (λ (t : List ℕ). codes "wmbus-state 1\n" ++ own_text r.own ++ t ++ codes "end\n") (flat_map-map block_text (merged_meter s.starts) r.meters)

pub merged_pieces : {P : Type 0} {takes : P → List ℕ → P → Type 0} {p q r s t : P} (known : Known) (enrolled : Enrolled) (next : Known)
    → merged known enrolled ≡ next → Puts takes p (codes "wmbus-state 1\n") q → Puts takes q (own_text enrolled.own) r
    → Puts takes r (flat_map (merged_block known.starts) enrolled.meters) s
    → Puts takes s (codes "end\n") t → Puts takes p (state_text next) t
merged_pieces known enrolled next is one two three four =
    four_make (state_text next) one two three four (ap state_text (sym is) ∙ text_is known enrolled)
