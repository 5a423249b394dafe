-- Lines that lists name: each is one of the list that names it.
use Rattle.std.proofs.Common.{◌≡◌, ◌==◌, ℕ, zero, suc, ◌+◌, ◌<◌, ◌≤◌, not, Bool, false, List, [], ◌∷◌, map, length, get_or, Result, Ok, Err, ⊎_elim, refl, sym, ap, ◌∙◌, subst, arith}
use Rattle.std.specs.List.{list_any, position_or_len}
use Rattle.std.proofs.lemmas.Bool.{cases_lt, eq-eqb, or_parts}
use Rattle.std.proofs.lemmas.Bool.Decides.{nat_tests}
use Rattle.std.proofs.lemmas.List.{get_or-map, length-map}
use Rattle.std.proofs.lemmas.List.Sums.{prefix_len-le-length}
use Rattle.lists.specs.Each.{Each}
use Rattle.lists.proofs.Members.{each_map}
use Rattle.meter_address.specs.declared.address.Address.{Address}
use Rattle.meter_address.specs.Address.{AreApart}
use Rattle.meter_slots.specs.Journal.{Start}
use Rattle.meter_slots.specs.declared.entry.Event.{Event}
use Rattle.receivers.specs.declared.told.Told.{Told}
use Rattle.receivers.specs.declared.told.Told.TheVariants as told
use Rattle.audit_check_main.specs.declared.hearing.Sort.TheVariants as sorts
use Rattle.audit_check_main.specs.declared.stepping.Unmade.{Unmade}
use Rattle.audit_check_main.specs.declared.stepping.Unmade.TheVariants as unmade
use Rattle.audit_check_main.specs.Hearing.{HeardInput, told_at, sort_of, AreListed, AreListedBelow}
use Rattle.audit_check_main.specs.Stepping.{IsEventFor}

-- ---- a stray line that is handed on

abbrev error_of : {T : Type 0} → Result T Unmade → Unmade
error_of (Err e) = e
error_of (Ok x) = unmade.Stray

pub stray_from : {T : Type 0} (r : Result T Unmade) (y e : Unmade) → r ≡ Err y → y ≡ e → r ≡ Err unmade.Stray → e ≡ unmade.Stray
stray_from r y e is same stray = sym same ∙ ap error_of (sym is ∙ stray)

-- ---- the lists of addresses

other_test : (a b c : ℕ) → (b == a) ≡ false → b ≡ c → (a == c) ≡ false
other_test a b c h e = grind (arith, nat_tests)

none_at : (p : Address → Bool) (xs : List Address) (i : ℕ) (d : Address) → list_any p xs ≡ false → i < length xs → p (get_or xs i d) ≡ false
none_at p [] i d h within = absurd (omega arith)
none_at p (x ∷ xs) zero d h within = (or_parts (p x) (list_any p xs) h).0
none_at p (x ∷ xs) (suc i) d h within = none_at p xs i d (or_parts (p x) (list_any p xs) h).1 (omega arith)

-- a meter's address has its place alone
own_place : (xs : List Address) (k : ℕ) (d : Address) (n : ℕ) → AreApart xs → k < length xs → (get_or xs k d).0 ≡ n
    → position_or_len (λ a. a.0 == n) xs ≡ k
own_place [] k d n apart inside is = absurd (omega arith)
own_place (x ∷ xs) zero d n apart inside is = rw (eq-eqb x.0 n is) refl
own_place (x ∷ xs) (suc k) d n apart inside is =
    let other = other_test x.0 (get_or xs k d).0 n (none_at (λ (b : Address). b.0 == x.0) xs k d apart.0 (omega arith)) is in
    let rest = own_place xs k d n apart.1 (omega arith) is in rw other (omega arith)

-- an address that no meter has stands behind all
pub strange_place : (a : ℕ) (cs : List Start) → list_any (λ c. c.address.0 == a) cs ≡ false
    → position_or_len (λ x. x.0 == a) (map (λ (c : Start). c.address) cs) ≡ length cs
strange_place a [] h = refl
strange_place a (c ∷ cs) h =
    let parts = or_parts (c.address.0 == a) (list_any (λ (d : Start). d.address.0 == a) cs) h in
    let rest = strange_place a cs parts.1 in rw parts.0 (omega arith)

-- ---- what a line that is stepped or noted is

own_listed : (directory : List Address) (k : ℕ) (a : Address) (t : Told) → AreApart directory → k < length directory
    → get_or directory k a ≡ a → IsEventFor a t → sort_of directory t ≡ sorts.Listed k
own_listed directory k a (told.Event address event) apart inside is same =
    ap sorts.Listed (own_place directory k a address.0 apart inside (ap (λ (x : Address). x.0) is ∙ same))
own_listed directory k a _ apart inside is same = absurd same

pub strange_listed : (directory : List Address) (n place : ℕ) (t : Told) (address : Address) (event : Event) → t ≡ told.Event address event
    → place ≡ position_or_len (λ a. a.0 == address.0) directory → n ≡ length directory → n ≤ place → sort_of directory t ≡ sorts.Listed n
strange_listed directory n place t address event is place_is long past =
    let most = prefix_len-le-length (λ (x : Address). not (x.0 == address.0)) directory in
    ap (sort_of directory) is
    ∙ ap sorts.Listed (let e : position_or_len (λ (a : Address). a.0 == address.0) directory ≡ n = omega arith in e)

-- ---- all lists

module _ (heard : List HeardInput) (lists : List (List (ℕ × ℕ))) where
  -- one meter more
  pub listed_more : (cs : List Start) (i : ℕ) (c : Start) (order : List (ℕ × ℕ))
      → AreApart (map (λ (d : Start). d.address) cs) → i < length cs → c ≡ get_or cs i c → order ≡ get_or lists i []
      → AreListedBelow i (map (λ d. d.address) cs) heard lists
      → Each (λ p. IsEventFor c.address (told_at heard p.0 p.1)) order
      → AreListedBelow (i + 1) (map (λ d. d.address) cs) heard lists
  listed_more cs i c order apart inside is order_is before own list below = ⊎_elim
      (λ earlier. before list earlier)
      (λ past. subst (λ k. Each (IsListed k) (get_or lists k [])) (let e : i ≡ list = omega arith in e) here)
      (cases_lt list i)
    where
      directory : List Address
      directory = map (λ (d : Start). d.address) cs

      IsListed : ℕ → ℕ × ℕ → Type 0
      IsListed k p = sort_of (map (λ (d : Start). d.address) cs) (told_at heard p.0 p.1) ≡ sorts.Listed k

      there : get_or (map (λ (d : Start). d.address) cs) i c.address ≡ c.address
      there = get_or-map (λ (d : Start). d.address) cs i c c.address inside ∙ ap (λ (d : Start). d.address) (sym is)

      here : Each (IsListed i) (get_or lists i [])
      here =
          let few = length-map cs (λ (d : Start). d.address) in
          subst (Each (IsListed i)) order_is
          (each_map (λ (p : ℕ × ℕ). IsEventFor c.address (told_at heard p.0 p.1)) (IsListed i)
          (λ p h. own_listed (map (λ (d : Start). d.address) cs) i c.address (told_at heard p.0 p.1) apart (omega arith) there h)
          order own)

  -- all meters, and the strangers
  pub listed_all : (cs : List Start) (directory : List Address) (order : List (ℕ × ℕ)) → directory ≡ map (λ c. c.address) cs
      → order ≡ get_or lists (length cs) [] → AreListedBelow (length cs) (map (λ c. c.address) cs) heard lists
      → Each (λ p. sort_of directory (told_at heard p.0 p.1) ≡ sorts.Listed (length cs)) order → AreListed directory heard lists
  listed_all cs directory order same order_is meters strangers list below = ⊎_elim
      (λ inside. subst (λ d. Each (IsListed d list) (get_or lists list [])) (sym same) (meters list inside))
      (λ past. let long : length directory ≡ length cs = ap length same ∙ length-map cs (λ (c : Start). c.address) in
      subst (λ k. Each (IsListed directory k) (get_or lists k [])) (let e : length cs ≡ list = omega arith in e)
      (subst (Each (IsListed directory (length cs))) order_is strangers))
      (cases_lt list (length cs))
    where
      IsListed : List Address → ℕ → ℕ × ℕ → Type 0
      IsListed d k p = sort_of d (told_at heard p.0 p.1) ≡ sorts.Listed k
