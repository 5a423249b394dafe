-- What is taken of many deliveries.
use Rattle.std.proofs.Common.{ℕ, suc, ◌≡◌, ◌≢◌, ◌+◌, ◌<◌, ◌≤◌, ◌==◌, Bool, true, false, cond, List, [], ◌∷◌, ◌++◌, drop, All, Option, Some, None, arith, inl, inr, refl, sym, ap, subst, ◌∙◌}
use Rattle.std.specs.Prelude.{slice_get}
use Rattle.std.proofs.Math.Seq.{drop-cons}
use Rattle.std.proofs.lemmas.Option.{slice_get_within, get_or_from_slice_get}
use Rattle.std.specs.Str.{bytes_eq}
use Rattle.std.proofs.lemmas.Slice.Eq.{bytes_eq-Decides}
use Rattle.std.proofs.lemmas.Bool.{cases_Bool, cond_both, cond-false, cond-true, eq-eqb, eqb-false, eqb-true, false_from_ne_true, ne_eqb}
use Rattle.std.proofs.lemmas.List.Elements.{All-head, All-tail, All-nil, All-cons, All-append}
use Rattle.line_accept.specs.declared.fence.Numbered.{Numbered}
use Rattle.line_accept.specs.declared.fence.Fence.{Fence}
use Rattle.line_accept.specs.Fences.{IsNext, is_next, fence_at, passed}
use Rattle.line_accept.specs.Senders.{Sender, fence_of, passed_in}
use Rattle.line_accept.specs.Laws.{Delivered, Numbering, IsNumbered, taken_behind, takes_by, taken, of_sender, contents_in, taken_before, IsFront, EpochsRise}
use Rattle.line_accept.specs.Laws.{FollowFrom, AreFronts, behind_all, IsOneRun, StandsFor}
use Rattle.line_accept.proofs.Judging.{next_is, is_next_is}

-- ---- one sender

next_not_below : (f : Fence) (m : Numbered) → IsNext f m → f.epoch ≤ m.epoch
next_not_below f m (inl x) = omega (arith, x.0)
next_not_below f m (inr x) = omega (arith, x.0)

pub epochs_rise : (f : Fence) (ds : List Delivered) → EpochsRise f.epoch (taken_behind f ds)
unfolding taken_behind
epochs_rise f [] = tt
epochs_rise f (d ∷ ds) =
    cond_both (is_next f d.message) (d ∷ taken_behind (fence_at d.message) ds) (taken_behind f ds) (EpochsRise f.epoch)
    (λ h. (next_not_below f d.message (next_is f d.message h), epochs_rise (fence_at d.message) ds)) (λ h. epochs_rise f ds)

-- ---- the contents of an epoch

-- nothing of an epoch below all others
none_below : (epoch from : ℕ) (ds : List Delivered) → epoch < from → EpochsRise from ds → contents_in epoch ds ≡ []
unfolding contents_in
none_below epoch from [] below rise = refl
none_below epoch from (d ∷ ds) below rise =
    let less : epoch < d.message.epoch = omega (arith, below, rise.0) in
    cond-false (d.message.epoch == epoch) _ _ (ne_eqb d.message.epoch epoch (λ e. omega (arith, less, e)))
    ∙ none_below epoch d.message.epoch ds less rise.1

-- how many were taken before
before_here : (f : Fence) → taken_before f f.epoch ≡ f.number
before_here f = cond-true (f.epoch == f.epoch) _ _ (eq-eqb f.epoch f.epoch refl)

before_there : (f : Fence) (epoch : ℕ) → epoch ≢ f.epoch → taken_before f epoch ≡ 0
before_there f epoch h = cond-false (epoch == f.epoch) _ _ (ne_eqb epoch f.epoch h)

-- the part of a list from a place on
dropped : (xs : List (List ℕ)) (k : ℕ) (x : List ℕ) → slice_get xs k ≡ Some x → drop k xs ≡ x ∷ drop (suc k) xs
dropped xs k x h = drop-cons xs k x (slice_get_within xs k x h) ∙ ap (λ y. y ∷ drop (suc k) xs) (get_or_from_slice_get xs k x x h)

-- the numbering of one sender
abbrev pub AreOf : (List (List ℕ)) → ℕ → Delivered → Type 0
AreOf whole epoch d = d.message.epoch ≡ epoch → (k : ℕ) × (d.message.number ≡ k + 1) × (slice_get whole k ≡ Some d.content)

module _ (epoch : ℕ) (whole : List (List ℕ)) where
  -- where the next one lies
  next_before : (f : Fence) (m : Numbered) → m.epoch ≡ epoch → IsNext f m → taken_before f epoch + 1 ≡ m.number
  next_before f m here (inl x) = let e : epoch ≡ f.epoch = sym here ∙ x.0 in
      let b : taken_before f epoch ≡ f.number = ap (taken_before f) e ∙ before_here f in omega (arith, b, x.1)
  next_before f m here (inr x) =
      let b : taken_before f epoch ≡ 0 = before_there f epoch (λ e. omega (arith, here, x.0, e)) in omega (arith, b, x.1)

  -- the contents of the epoch that are taken of some deliveries are a front of the others behind those taken before
  abbrev Front : Fence → List (List ℕ) → Type 0
  Front f contents = IsFront contents (drop (taken_before f epoch) whole)

  front_here : (f : Fence) (d : Delivered) (contents : List (List ℕ)) → IsNext f d.message → d.message.epoch ≡ epoch → AreOf whole epoch d
      → Front (fence_at d.message) contents → Front f (d.content ∷ contents)
  front_here f d contents next here of later =
      let k : ℕ = (of here).0 in
      let now : taken_before f epoch ≡ k = omega (arith, next_before f d.message here next, (of here).1) in
      let then : taken_before (fence_at d.message) epoch ≡ suc k =
      ap (taken_before (fence_at d.message)) (sym here) ∙ before_here (fence_at d.message) ∙ omega (arith, (of here).1) in
      record {
        rest = later.rest;
        whole_is = ap (λ ys. d.content ∷ ys) (later.whole_is ∙ ap (λ n. drop n whole) then)
            ∙ sym (ap (λ n. drop n whole) now ∙ dropped whole k d.content (of here).2);
      }

  front_there : (f : Fence) (d : Delivered) (ds : List Delivered) → IsNext f d.message → d.message.epoch ≢ epoch
      → Front (fence_at d.message) (contents_in epoch (taken_behind (fence_at d.message) ds))
      → Front f (contents_in epoch (taken_behind (fence_at d.message) ds))
  front_there f d ds next there later =
      let contents : List (List ℕ) = contents_in epoch (taken_behind (fence_at d.message) ds) in
      cond_both (epoch == f.epoch) f.number 0 (λ n. IsFront contents (drop n whole))
      (λ e.
      let below : epoch < d.message.epoch = omega (arith, eqb-true epoch f.epoch e, next_not_below f d.message next, there) in
      record {
        rest = drop f.number whole;
        whole_is = ap (λ xs. xs ++ drop f.number whole)
            (none_below epoch d.message.epoch _ below (epochs_rise (fence_at d.message) ds));
      })
      (λ e. subst (λ n. IsFront contents (drop n whole)) (before_there (fence_at d.message) epoch (λ s. there (sym s))) later)

  pub front : (f : Fence) (ds : List Delivered) → All (AreOf whole epoch) ds → Front f (contents_in epoch (taken_behind f ds))
  unfolding taken_behind contents_in
  front f [] h = record { rest = drop (taken_before f epoch) whole; whole_is = refl }
  front f (d ∷ ds) h =
      let rest : All (AreOf whole epoch) ds = All-tail (AreOf whole epoch) d ds h in
      let later : List Delivered = taken_behind (fence_at d.message) ds in
      cond_both (is_next f d.message) (d ∷ later) (taken_behind f ds) (λ ts. Front f (contents_in epoch ts))
      (λ n.
      cond_both (d.message.epoch == epoch) (d.content ∷ contents_in epoch later) (contents_in epoch later) (Front f)
      (λ e. front_here f d (contents_in epoch later) (next_is f d.message n) (eqb-true d.message.epoch epoch e)
      (All-head (AreOf whole epoch) d ds h) (front (fence_at d.message) ds rest))
      (λ e. front_there f d ds (next_is f d.message n) (eqb-false d.message.epoch epoch e) (front (fence_at d.message) ds rest)))
      (λ n. front f ds rest)

-- ---- many senders

-- a name that isn't another one isn't what that one is
apart : (who name other : List ℕ) → bytes_eq who name ≡ false → bytes_eq who other ≡ true → bytes_eq name other ≡ false
apart who name other h e = false_from_ne_true (bytes_eq name other) (λ is.
    let no : false ≡ true =
    sym h ∙ (bytes_eq-Decides who name).1 ((bytes_eq-Decides who other).0 e ∙ sym ((bytes_eq-Decides name other).0 is)) in cc)

-- the fence of a message's own sender passes it, and that of another stays
own_passes : (ss : List Sender) (who : List ℕ) (m : Numbered) (f : Fence) → fence_of who ss ≡ Some f
    → fence_of who (passed_in ss who m) ≡ Some (passed f m)
unfolding fence_of passed_in
own_passes [] who m f h = let no : None ≡ Some f = h in absurd cc
own_passes (s ∷ ss) who m f h = elim (cases_Bool (bytes_eq who s.name)) [
  | inl e ↦
      let is : Some s.fence ≡ Some f = sym (cond-true (bytes_eq who s.name) (Some s.fence) (fence_of who ss) e) ∙ h in
      let whose : s.fence ≡ f = cc in
      rw (e, e) (ap (λ (x : Fence). Some (passed x m)) whose)
  | inr e ↦
      rw (e, e) (own_passes ss who m f (sym (cond-false (bytes_eq who s.name) (Some s.fence) (fence_of who ss) e) ∙ h))
]

other_stays : (ss : List Sender) (who : List ℕ) (m : Numbered) (name : List ℕ) → bytes_eq who name ≡ false
    → fence_of name (passed_in ss who m) ≡ fence_of name ss
unfolding fence_of passed_in
other_stays [] who m name h = refl
other_stays (s ∷ ss) who m name h = elim (cases_Bool (bytes_eq who s.name)) [
  | inl e ↦ rw (e, apart who name s.name h e) refl
  | inr e ↦ rw e (ap (λ (x : Option Fence). cond (bytes_eq name s.name) (Some s.fence) x) (other_stays ss who m name h))
]

-- one delivery more, of a sender or of another
alone_own : (b : Bool) (ss : List Sender) (name : List ℕ) (f : Fence) (d : Delivered) (ds : List Delivered) → bytes_eq d.sender name ≡ true
    → takes_by (fence_of d.sender ss) d.message ≡ b → is_next f d.message ≡ b
    → of_sender name (taken (passed_in ss d.sender d.message) ds) ≡ taken_behind (cond b (fence_at d.message) f) (of_sender name ds)
    → of_sender name (taken ss (d ∷ ds)) ≡ taken_behind f (of_sender name (d ∷ ds))
unfolding of_sender taken taken_behind
alone_own true ss name f d ds own takes next later = rw (takes, own, next) (ap (λ (xs : List Delivered). d ∷ xs) later)
alone_own false ss name f d ds own takes next later = rw (takes, own, next) later

alone_other : (b : Bool) (ss : List Sender) (name : List ℕ) (f : Fence) (d : Delivered) (ds : List Delivered) → bytes_eq d.sender name ≡ false
    → takes_by (fence_of d.sender ss) d.message ≡ b
    → of_sender name (taken (passed_in ss d.sender d.message) ds) ≡ taken_behind f (of_sender name ds)
    → of_sender name (taken ss (d ∷ ds)) ≡ taken_behind f (of_sender name (d ∷ ds))
unfolding of_sender taken
alone_other true ss name f d ds other takes later = rw (takes, other) later
alone_other false ss name f d ds other takes later = rw (takes, other) later

pub alone : (ss : List Sender) (name : List ℕ) (f : Fence) (ds : List Delivered) → fence_of name ss ≡ Some f
    → of_sender name (taken ss ds) ≡ taken_behind f (of_sender name ds)
unfolding of_sender taken taken_behind passed
alone ss name f [] known = refl
alone ss name f (d ∷ ds) known =
    let after : List Sender = passed_in ss d.sender d.message in
    elim (cases_Bool (bytes_eq d.sender name)) [
      | inl own ↦
          let is : d.sender ≡ name = (bytes_eq-Decides d.sender name).0 own in
          let mine : fence_of d.sender ss ≡ Some f = ap (λ n. fence_of n ss) is ∙ known in
          alone_own (is_next f d.message) ss name f d ds own (ap (λ (o : Option Fence). takes_by o d.message) mine) refl
          (alone after name (passed f d.message) ds (ap (λ n. fence_of n after) (sym is) ∙ own_passes ss d.sender d.message f mine))
      | inr other ↦
          alone_other (takes_by (fence_of d.sender ss) d.message) ss name f d ds other refl
          (alone after name f ds (other_stays ss d.sender d.message name other ∙ known))
    ]

-- ---- all of it

of_its_own : (told : Numbering) (name : List ℕ) (epoch : ℕ) (d : Delivered) → d.sender ≡ name → IsNumbered told d
    → AreOf (told name epoch) epoch d
of_its_own told name epoch d is n = λ here. (
  n.place,
  n.number,
  subst (λ e. slice_get (told name e) n.place ≡ Some d.content) here
      (subst (λ s. slice_get (told s d.message.epoch) n.place ≡ Some d.content) is n.content),
)

each : (told : Numbering) (name : List ℕ) (epoch : ℕ) (ds : List Delivered) → All (IsNumbered told) ds
    → All (AreOf (told name epoch) epoch) (of_sender name ds)
unfolding of_sender
each told name epoch [] h = All-nil (AreOf (told name epoch) epoch)
each told name epoch (d ∷ ds) h =
    let rest = each told name epoch ds (All-tail (IsNumbered told) d ds h) in
    cond_both (bytes_eq d.sender name) (d ∷ of_sender name ds) (of_sender name ds) (All (AreOf (told name epoch) epoch))
    (λ e. All-cons (AreOf (told name epoch) epoch) d (of_sender name ds)
    (of_its_own told name epoch d ((bytes_eq-Decides d.sender name).0 e) (All-head (IsNumbered told) d ds h)) rest) (λ e. rest)

pub are_fronts : (told : Numbering) (ss : List Sender) (ds : List Delivered) → All (IsNumbered told) ds → AreFronts told ss ds
are_fronts told ss ds h =
    record {
      fronts = λ name epoch f known. rw (alone ss name f ds known)
          (front epoch (told name epoch) f (of_sender name ds) (each told name epoch ds h));
      rise = λ name f known. rw (alone ss name f ds known) (epochs_rise f (of_sender name ds));
    }

-- ---- cuts

one_in_front : (b : Bool) (d : Delivered) (xs ys : List Delivered) → cond b (d ∷ (xs ++ ys)) (xs ++ ys) ≡ cond b (d ∷ xs) xs ++ ys
one_in_front true d xs ys = refl
one_in_front false d xs ys = refl

taken_cut : (ss : List Sender) (before after : List Delivered)
    → taken ss (before ++ after) ≡ taken ss before ++ taken (behind_all ss before) after
unfolding taken behind_all
taken_cut ss [] after = refl
taken_cut ss (d ∷ ds) after =
    let next : List Sender = passed_in ss d.sender d.message in
    let takes : Bool = takes_by (fence_of d.sender ss) d.message in
    ap (λ (xs : List Delivered). cond takes (d ∷ xs) xs) (taken_cut next ds after)
    ∙ one_in_front takes d (taken next ds) (taken (behind_all next ds) after)

behind_cut : (ss : List Sender) (before after : List Delivered)
    → behind_all ss (before ++ after) ≡ behind_all (behind_all ss before) after
unfolding behind_all
behind_cut ss [] after = refl
behind_cut ss (d ∷ ds) after = behind_cut (passed_in ss d.sender d.message) ds after

pub one_run : (ss : List Sender) (before after : List Delivered) → IsOneRun ss before after
one_run ss before after = record { taken_are = taken_cut ss before after; behind_is = behind_cut ss before after }

pub stands_more : (told : Numbering) (first : List Sender) (before : List Delivered) (d : Delivered) (old new : List Sender)
    → new ≡ passed_in old d.sender d.message → StandsFor told first before old → IsNumbered told d → StandsFor told first (before ++ d ∷ []) new
unfolding behind_all
stands_more told first before d old new is s n =
    let all : All (IsNumbered told) (before ++ d ∷ []) =
    All-append (IsNumbered told) before (d ∷ []) s.numbered (All-cons (IsNumbered told) d [] n (All-nil (IsNumbered told))) in
    record {
      numbered = all;
      now_is = is ∙ ap (λ x. passed_in x d.sender d.message) s.now_is ∙ sym (behind_cut first before (d ∷ []));
      fronts = are_fronts told first (before ++ d ∷ []) all;
    }

-- ---- what is sent again

pub sent_again : (f : Fence) (ds : List Delivered) → FollowFrom f.epoch f.number ds → taken_behind f ds ≡ ds
unfolding taken_behind
sent_again f [] h = refl
sent_again f (d ∷ ds) h =
    let rest : FollowFrom d.message.epoch d.message.number ds = subst (λ e. FollowFrom e d.message.number ds) (sym h.0) h.2 in
    cond-true (is_next f d.message) _ _ (is_next_is f d.message (inl (h.0, h.1))) ∙ ap (λ xs. d ∷ xs) (sent_again (fence_at d.message) ds rest)
