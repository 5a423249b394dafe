-- What is executed over all deliveries.
use Rattle.std.proofs.Common.{◌≡◌, ℕ, ◌<◌, ◌≤◌, ◌↔◌, max, Bool, true, false, ltb, List, [], ◌∷◌, ◌++◌, Result, Ok, Err, refl, sym, ap, ap₂, ◌∙◌, subst, arith, inl, inr}
use Rattle.std.proofs.lemmas.Bool.{ltb-false, ltb-true}
use Rattle.std.proofs.lemmas.List.{append-nil}
use Rattle.aes_block.specs.Block.{IsBlock}
use Rattle.frame_formats.specs.Crc.{IsBytes}
use Rattle.meter_address.specs.declared.address.Address.{Address}
use Rattle.meter_address.specs.Commission.{Commissioned}
use Rattle.meter_side_main.specs.declared.delivery.Executed.{Executed}
use Rattle.meter_side_main.specs.declared.reason.Did.{Did}
use Rattle.meter_side_main.specs.declared.reason.SideReason.{SideReason}
use Rattle.meter_side_main.specs.Reading.{told, did_with, did_after, executed_in, last_after, executed_after}
use Rattle.meter_side_main.specs.Genuine.{IsGenuine, IsAboveAll, RiseAbove, AreExecuted}
use Rattle.meter_side_main.specs.Side.{Side, greatest, AllBytes, StandsFor}
use Rattle.meter_side_main.specs.Laws.{ExecutedExactly}
use Rattle.meter_side_main.proofs.Genuineness.{told_is_genuine, genuine_is_told}

-- what a delivery does: it tells nothing, or it is executed, or its counter isn't above the last one
pub data Move (last : ℕ) (r : Result Executed SideReason) : Type 0 where
  Silent : ((e : Executed) → r ≡ Ok e → ⊥) → executed_in (did_with last r) ≡ [] → last_after last (did_with last r) ≡ last → Move last r
  Done : (e : Executed) → r ≡ Ok e → last < e.down → executed_in (did_with last r) ≡ e ∷ [] → last_after last (did_with last r) ≡ e.down
      → Move last r
  Old : (e : Executed) → r ≡ Ok e → e.down ≤ last → executed_in (did_with last r) ≡ [] → last_after last (did_with last r) ≡ last
      → Move last r

move_ok : (last : ℕ) (e : Executed) (b : Bool) → ltb last e.down ≡ b → Move last (Ok e)
move_ok last e true h = Done e refl (ltb-true _ _ h) (rw h refl) (rw h refl)
move_ok last e false h = Old e refl (ltb-false _ _ h) (rw h refl) (rw h refl)

pub move : (last : ℕ) (r : Result Executed SideReason) → Move last r
move last (Ok e) = move_ok last e (ltb last e.down) refl
move last (Err reason) = Silent (λ e h. absurd cc) refl refl

module _ (own : Address) (c : Commissioned) where
  pub executed_step : (last : ℕ) (d : List ℕ) (ds : List (List ℕ)) (done : List Executed) (next : ℕ)
      → executed_in (did_after own c last d) ≡ done → last_after last (did_after own c last d) ≡ next
      → executed_after own c last (d ∷ ds) ≡ done ++ executed_after own c next ds
  unfolding executed_after
  executed_step last d ds done next e f = ap₂ (λ (x : List Executed) (n : ℕ). x ++ executed_after own c n ds) e f

  push_on : (x : List ℕ) (last : ℕ) (ds : List (List ℕ)) (d : List ℕ) (done : List Executed) (next : ℕ)
      → executed_in (did_after own c last x) ≡ done → last_after last (did_after own c last x) ≡ next
      → done ++ executed_after own c next (ds ++ d ∷ [])
      ≡ (done ++ executed_after own c next ds) ++ executed_in (did_after own c (greatest last (done ++ executed_after own c next ds)) d)
      → executed_after own c last (x ∷ (ds ++ d ∷ [])) ≡ executed_after own c last (x ∷ ds)
      ++ executed_in (did_after own c (greatest last (executed_after own c last (x ∷ ds))) d)
  push_on x last ds d done next e f more =
      rw (executed_step last x (ds ++ d ∷ []) done next e f, executed_step last x ds done next e f) more

  pub executed_none : (last : ℕ) → executed_after own c last [] ≡ []
  unfolding executed_after
  executed_none last = refl

  -- one delivery more
  pub executed_push : (last : ℕ) (ds : List (List ℕ)) (d : List ℕ)
      → executed_after own c last (ds ++ d ∷ []) ≡ executed_after own c last ds
      ++ executed_in (did_after own c (greatest last (executed_after own c last ds)) d)
  unfolding executed_after
  executed_push last [] d = append-nil (executed_in (did_after own c last d))
  executed_push last (x ∷ ds) d = elim (move last (told own c x)) [
    | Silent none done next ↦ push_on x last ds d [] last done next (executed_push last ds d)
    | Old e is old done next ↦ push_on x last ds d [] last done next (executed_push last ds d)
    | Done e is above done next ↦
        let more : max last e.down ≡ e.down = omega arith in
        push_on x last ds d (e ∷ []) e.down done next
        (ap (λ (es : List Executed). e ∷ es) (executed_push e.down ds d)
        ∙ ap (λ (n : ℕ). let es : List Executed = executed_after own c e.down ds in
        e ∷ (es ++ executed_in (did_after own c (greatest n es) d))) (sym more))
  ]

-- the counters executed rise
pub executed_rises : (own : Address) (c : Commissioned) (last : ℕ) (ds : List (List ℕ)) → RiseAbove last (executed_after own c last ds)
executed_rises own c last [] = subst (RiseAbove last) (sym (executed_none own c last)) tt
executed_rises own c last (d ∷ ds) = elim (move last (told own c d)) [
  | Silent none done next ↦ subst (RiseAbove last) (sym (executed_step own c last d ds [] last done next)) (executed_rises own c last ds)
  | Done e is above done next ↦ subst (RiseAbove last) (sym (executed_step own c last d ds (e ∷ []) e.down done next))
      (above, executed_rises own c e.down ds)
  | Old e is old done next ↦ subst (RiseAbove last) (sym (executed_step own c last d ds [] last done next)) (executed_rises own c last ds)
]

-- a number is above the last one exactly where it is above each of some counters
pub record IsLast (last : ℕ) (counters : List ℕ) : Type 0 where
  pub above : (n : ℕ) → last < n → IsAboveAll n counters
  pub below : (n : ℕ) → IsAboveAll n counters → last < n

pub first_last : (n : ℕ) → IsLast n (n ∷ [])
first_last n = record { above = λ k h. (h, tt); below = λ k h. h.0 }

AllBytes-push : (ds : List (List ℕ)) (d : List ℕ) → AllBytes ds → IsBytes d → AllBytes (ds ++ d ∷ [])
AllBytes-push [] d h hd = (hd, tt)
AllBytes-push (x ∷ ds) d h hd = (h.0, AllBytes-push ds d h.1 hd)

-- ---- the executed list is that of the genuine deliveries, and no other list is

one_told : (r : Result Executed SideReason) (x y : Executed) → r ≡ Ok x → r ≡ Ok y → x ≡ y
one_told r x y a b = cc

module _ (own : Address) (c : Commissioned) (hk : IsBlock c.key) where
  pub only_executed : (ds : List (List ℕ)) → AllBytes ds → (last : ℕ) (counters : List ℕ) (done : List Executed) → IsLast last counters
      → AreExecuted own c counters ds done ↔ (done ≡ executed_after own c last ds)
  only_executed [] hb last counters done l = ((λ h. h ∙ sym (executed_none own c last)), (λ h. h ∙ executed_none own c last))
  only_executed (d ∷ ds) hb last counters done l = elim (move last (told own c d)) [
    | Silent none nothing next ↦
        let step = executed_step own c last d ds [] last nothing next in
        let rest = only_executed ds hb.1 last counters done l in (
          (λ h. elim h [
            | inl silent ↦ rest.0 silent.1 ∙ sym step
            | inr (inl (x, g, above, more)) ↦ absurd (none x (genuine_is_told own c d x hk g))
            | inr (inr (x, g, low, more)) ↦ absurd (none x (genuine_is_told own c d x hk g))
          ]),
          (λ is. inl ((λ x g. none x (genuine_is_told own c d x hk g)), rest.1 (is ∙ step))),
        )
    | Done e is above one next ↦
        let step = executed_step own c last d ds (e ∷ []) e.down one next in
        let genuine = told_is_genuine own c d e hk hb.0 is in
        let same = λ (x : Executed) (g : IsGenuine own c d x). one_told (told own c d) x e (genuine_is_told own c d x hk g) is in
        let after : IsLast e.down (e.down ∷ counters) = record { above = λ n h. (h, l.above n (omega arith)); below = λ n h. h.0 } in
        let rest = λ (es : List Executed). only_executed ds hb.1 e.down (e.down ∷ counters) es after in (
          (λ h. elim h [
            | inl silent ↦ absurd (silent.0 e genuine)
            | inr (inl (x, g, high, (es, made, more))) ↦
                let later = (rest es).0
                (subst (λ (y : Executed). AreExecuted own c (y.down ∷ counters) ds es) (same x g) more) in
                made ∙ ap₂ (λ (y : Executed) (ys : List Executed). y ∷ ys) (same x g) later ∙ sym step
            | inr (inr (x, g, low, more)) ↦
                absurd (low (l.above x.down (subst (λ (y : Executed). last < y.down) (sym (same x g)) above)))
          ]),
          (λ made. inr (inl (e, genuine, l.above e.down above, (executed_after own c e.down ds, made ∙ step, (rest _).1 refl)))),
        )
    | Old e is old nothing next ↦
        let step = executed_step own c last d ds [] last nothing next in
        let genuine = told_is_genuine own c d e hk hb.0 is in
        let same = λ (x : Executed) (g : IsGenuine own c d x). one_told (told own c d) x e (genuine_is_told own c d x hk g) is in
        let after : IsLast last (e.down ∷ counters) =
        record { above = λ n h. (omega arith, l.above n h); below = λ n h. l.below n h.1 } in
        let rest = only_executed ds hb.1 last (e.down ∷ counters) done after in
        let low : ¬ IsAboveAll e.down counters = λ h. let more : last < e.down = l.below e.down h in absurd (omega arith) in (
          (λ h. elim h [
            | inl silent ↦ absurd (silent.0 e genuine)
            | inr (inl (x, g, high, more)) ↦
                absurd (low (subst (λ (y : Executed). IsAboveAll y.down counters) (same x g) high))
            | inr (inr (x, g, below, more)) ↦
                rest.0 (subst (λ (y : Executed). AreExecuted own c (y.down ∷ counters) ds done) (same x g) more) ∙ sym step
          ]),
          (λ made. inr (inr (e, genuine, low, rest.1 (made ∙ step)))),
        )
  ]

pub executed_exactly : ExecutedExactly
executed_exactly own c ds done hk hb = only_executed own c hk ds hb c.down (c.down ∷ []) done (first_last c.down)

-- ---- a meter that heard some deliveries

pub stands_first : (s : Side) → s.last ≡ s.commission.down → s.executed ≡ [] → StandsFor [] s
stands_first s fresh none = record {
  executed_are = none;
  last_is = fresh ∙ ap (greatest s.commission.down) (sym none);
  bytes = tt;
}

pub stands_rising : (s : Side) (ds : List (List ℕ)) → IsBlock s.commission.key → StandsFor ds s → RiseAbove s.commission.down s.executed
stands_rising s ds hk h =
    subst (RiseAbove s.commission.down) (sym ((executed_exactly s.own s.commission ds s.executed hk h.bytes).0 h.executed_are))
    (executed_rises s.own s.commission s.commission.down ds)

greatest_append : (n : ℕ) (es fs : List Executed) → greatest n (es ++ fs) ≡ greatest (greatest n es) fs
greatest_append n [] fs = refl
greatest_append n (e ∷ es) fs = greatest_append (max n e.down) es fs

-- the last counter is the greatest
greatest_in : (n : ℕ) (r : Result Executed SideReason) → greatest n (executed_in (did_with n r)) ≡ last_after n (did_with n r)
greatest_in n r = elim (move n r) [
  | Silent none done next ↦ ap (greatest n) done ∙ sym next
  | Done e is above done next ↦ let more : max n e.down ≡ e.down = omega arith in ap (greatest n) done ∙ more ∙ sym next
  | Old e is old done next ↦ ap (greatest n) done ∙ sym next
]

pub stands_more : (s : Side) (did : Did) (d : List ℕ) (ds : List (List ℕ)) → IsBlock s.commission.key → IsBytes d
    → did ≡ did_after s.own s.commission s.last d → StandsFor ds s
    → StandsFor (ds ++ d ∷ []) (record s { last = last_after s.last did; executed = s.executed ++ executed_in did })
stands_more s did d ds hk hd did_is h =
    let own : Address = s.own in
    let c : Commissioned = s.commission in
    let executed : s.executed ≡ executed_after own c c.down ds = (executed_exactly own c ds s.executed hk h.bytes).0 h.executed_are in
    let now : did ≡ did_after own c (greatest c.down s.executed) d = did_is ∙ ap (λ (n : ℕ). did_after own c n d) h.last_is in
    let all : s.executed ++ executed_in did ≡ executed_after own c c.down (ds ++ d ∷ []) =
    ap (λ (x : Did). s.executed ++ executed_in x) now
    ∙ ap (λ (es : List Executed). es ++ executed_in (did_after own c (greatest c.down es) d)) executed
    ∙ sym (executed_push own c c.down ds d) in
    let each : AllBytes (ds ++ d ∷ []) = AllBytes-push ds d h.bytes hd in
    record {
      executed_are = (executed_exactly own c (ds ++ d ∷ []) (s.executed ++ executed_in did) hk each).1 all;
      last_is = ap₂ last_after h.last_is now ∙ sym (greatest_in (greatest c.down s.executed) (told own c d))
          ∙ ap (λ (x : Did). greatest (greatest c.down s.executed) (executed_in x)) (sym now)
          ∙ sym (greatest_append c.down s.executed (executed_in did));
      bytes = each;
    }
