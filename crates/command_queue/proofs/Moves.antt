-- What putting and taking a command keep of a queue, and which command is taken.
use Rattle.std.proofs.Common.{◌≡◌, ◌≢◌, ℕ, zero, suc, ◌+◌, ◌<◌, ◌≤◌, true, not, List, [], ◌∷◌, ◌++◌, length}
use Rattle.std.proofs.Common.{get_or, take, drop, set, filter, Some, None, find, All, AllPairs, refl, sym, ap, subst, ◌∙◌, arith, Ok, Err}
use Rattle.std.specs.Prelude.{◌-◌, slice_get}
use Rattle.std.specs.List.{HoldsAt, remove}
use Rattle.std.proofs.lemmas.Bool.{cond_both, eq-eqb, ne_eqb}
use Rattle.std.proofs.lemmas.Bool.Decides.{nat_tests}
use Rattle.std.proofs.lemmas.List.{length-append, length-set, length-take-le, take_more_set, take-append-le, take-set-le, take_at}
use Rattle.std.proofs.lemmas.List.Edits.{length-remove}
use Rattle.std.proofs.lemmas.List.Elements.{All-head, All-tail}
use Rattle.std.proofs.lemmas.List.Filters.{length-filter_both}
use Rattle.command_queue.specs.declared.command.Command.{Command}
use Rattle.command_queue.specs.Pending.{Pending, IdsRise, AreUntried, OnlyOldestTried, IsSound, has_id, no_such, take_answer}
use Rattle.command_queue.specs.Pending.{without_command, newest_id, most_tries, may_follow, with_follower}

-- the commands with another id
abbrev pub without : ℕ → List Command → List Command
without id cs = filter (λ c. not (has_id id c)) cs

-- what a queue's places hold: what stands behind the count counts nowhere
abbrev pub waiting : ℕ → ℕ → List Command → Pending
waiting ids count places = record { ids = ids; commands = take count places }

-- ---- a command more

untried_push : (cs : List Command) (c : Command) → AreUntried cs → c.tries ≡ 0 → AreUntried (cs ++ c ∷ [])
untried_push [] c u new = (new, tt)
untried_push (d ∷ cs) c u new = (u.0, untried_push cs c u.1 new)

tries_push : (cs : List Command) (c : Command) → OnlyOldestTried cs → c.tries ≤ most_tries cs → OnlyOldestTried (cs ++ c ∷ [])
tries_push [] c t few = (few, tt)
tries_push (d ∷ cs) c t few = (t.0, untried_push cs c t.1 (omega (arith, few)))

rise_push : (n : ℕ) (cs : List Command) (last next : ℕ) (c : Command) → IdsRise n cs last → newest_id n cs < c.id → c.id ≤ next
    → IdsRise n (cs ++ c ∷ []) next
rise_push n [] last next c h above within = (above, within)
rise_push n (d ∷ cs) last next c h above within = (h.0, rise_push d.id cs last next c h.1 above within)

newest_given : (n : ℕ) (cs : List Command) (last : ℕ) → IdsRise n cs last → newest_id n cs ≤ last
newest_given n [] last h = h
newest_given n (c ∷ cs) last h = newest_given c.id cs last h.1

sound_push : (q r : Pending) (c : Command) → IsSound q → length q.commands < 8 → newest_id 0 q.commands < c.id → c.id ≤ r.ids
    → c.tries ≤ most_tries q.commands → r.commands ≡ q.commands ++ c ∷ [] → IsSound r
sound_push q r c s room above within few commands =
    record {
      few = omega (arith, ap length commands, length-append q.commands (c ∷ []));
      rising = rw commands (rise_push 0 q.commands q.ids r.ids c s.rising above within);
      tries = rw commands (tries_push q.commands c s.tries few);
    }

-- a new command
pub sound_put : (q r : Pending) (c : Command) → IsSound q → length q.commands < 8 → c.id ≡ q.ids + 1 → c.tries ≡ 0
    → r.commands ≡ q.commands ++ c ∷ [] → r.ids ≡ q.ids + 1 → IsSound r
sound_put q r c s room id tries commands ids =
    sound_push q r c s room (omega (arith, newest_given 0 q.commands q.ids s.rising)) (omega arith) (rw tries (omega arith)) commands

-- where one more waits there is a place for it
pub free_place : (places : List Command) (count : ℕ) → length places ≡ 8 → count ≤ length places
    → length (take count places) < 8 → count < 8
free_place places count eight few room = omega (arith, length-take-le count places few)

-- one that waited before
pub sound_follower : (q : Pending) (c : Command) → IsSound q → may_follow q c ≡ true
    → IsSound (record q { commands = q.commands ++ c ∷ [] })
unfolding may_follow
sound_follower q c s h =
    sound_push q _ c s (grind (arith, nat_tests)) (grind (arith, nat_tests)) (grind (arith, nat_tests)) (grind (arith, nat_tests)) refl

follower_room : (q : Pending) (c : Command) → may_follow q c ≡ true → length q.commands < 8
unfolding may_follow
follower_room q c h = grind (arith, nat_tests)

-- it finds a place, and is the last of those that wait
pub record IsFollowed (ids count : ℕ) (places : List Command) (now : Pending) (c : Command) : Type 0 where
  pub free : count < 8
  pub fits : count + 1 ≤ length (set places count c)
  pub after : waiting ids (count + 1) (set places count c) ≡ with_follower now c
  pub sound : IsSound (waiting ids (count + 1) (set places count c))

pub followed : (ids count : ℕ) (places : List Command) (now : Pending) (c : Command) → length places ≡ 8 → count ≤ length places
    → IsSound (waiting ids count places) → waiting ids count places ≡ now → may_follow now c ≡ true → IsFollowed ids count places now c
unfolding with_follower
followed ids count places now c eight few s view follows =
    let q = waiting ids count places in
    let may : may_follow q c ≡ true = ap (λ (p : Pending). may_follow p c) view ∙ follows in
    let free = free_place places count eight few (follower_room q c may) in
    let last : waiting ids (count + 1) (set places count c) ≡ record q { commands = q.commands ++ c ∷ [] } =
    ap (λ (cs : List Command). record q { commands = cs }) (take_more_set places count c (omega (arith, free, eight))) in
    record {
      free = free;
      fits = omega (arith, free, eight, length-set places count c);
      after = last ∙ ap (λ (p : Pending). record p { commands = p.commands ++ c ∷ [] }) view ∙ rw follows refl;
      sound = subst IsSound (sym last) (sound_follower q c s may);
    }

-- ---- a command less

rise_above : (m n : ℕ) (cs : List Command) (last : ℕ) → m ≤ n → IdsRise n cs last → IdsRise m cs last
rise_above m n [] last le h = omega arith
rise_above m n (c ∷ cs) last le h = (omega (arith, h.0), h.1)

rise_without : (id n : ℕ) (cs : List Command) (last : ℕ) → IdsRise n cs last → IdsRise n (without id cs) last
rise_without id n [] last h = h
rise_without id n (c ∷ cs) last h =
    let rest = rise_without id c.id cs last h.1 in
    cond_both (not (has_id id c)) (c ∷ without id cs) (without id cs) (λ xs. IdsRise n xs last) (λ _. (h.0, rest))
    (λ _. rise_above n c.id (without id cs) last (omega (arith, h.0)) rest)

pub untried_without : (id : ℕ) (cs : List Command) → AreUntried cs → AreUntried (without id cs)
untried_without id [] u = tt
untried_without id (c ∷ cs) u =
    let rest = untried_without id cs u.1 in
    cond_both (not (has_id id c)) (c ∷ without id cs) (without id cs) AreUntried (λ _. (u.0, rest)) (λ _. rest)

tries_from_untried : (cs : List Command) → AreUntried cs → OnlyOldestTried cs
tries_from_untried [] u = tt
tries_from_untried (c ∷ cs) u = (omega (arith, u.0), u.1)

tries_without : (id : ℕ) (cs : List Command) → OnlyOldestTried cs → OnlyOldestTried (without id cs)
tries_without id [] t = tt
tries_without id (c ∷ cs) t =
    let rest = untried_without id cs t.1 in
    cond_both (not (has_id id c)) (c ∷ without id cs) (without id cs) OnlyOldestTried (λ _. (t.0, rest))
    (λ _. tries_from_untried (without id cs) rest)

pub sound_without : (id : ℕ) (q r : Pending) → IsSound q → r.commands ≡ without id q.commands → r.ids ≡ q.ids → IsSound r
sound_without id q r s commands ids =
    record {
      few = omega (
        arith,
        ap length commands,
        length-filter_both (λ c. not (has_id id c)) (λ c. not (not (has_id id c))) (λ _. refl) q.commands,
        s.few,
      );
      rising = rw (commands, ids) (rise_without id 0 q.commands q.ids s.rising);
      tries = rw commands (tries_without id q.commands s.tries);
    }

-- ---- what the ids of a queue say

pub rise_last : (n : ℕ) (cs : List Command) (last : ℕ) → IdsRise n cs last → n ≤ last
rise_last n [] last h = h
rise_last n (c ∷ cs) last h = omega (arith, h.0, rise_last c.id cs last h.1)

between_at : (n : ℕ) (cs : List Command) (last i : ℕ) (d : Command) → IdsRise n cs last → i < length cs
    → (n < (get_or cs i d).id) × ((get_or cs i d).id ≤ last)
between_at n [] last i d h lt = absurd (omega arith)
between_at n (c ∷ cs) last zero d h lt = (h.0, rise_last c.id cs last h.1)
between_at n (c ∷ cs) last (suc i) d h lt =
    let rest = between_at c.id cs last i d h.1 (omega arith) in
    (omega (arith, h.0, rest.0), rest.1)

pairs_at : (n : ℕ) (cs : List Command) (last i j : ℕ) (d : Command) → IdsRise n cs last → i < j → j < length cs
    → (get_or cs i d).id < (get_or cs j d).id
pairs_at n (c ∷ cs) last zero (suc j) d h lt within = (between_at c.id cs last j d h.1 (omega arith)).0
pairs_at n (c ∷ cs) last (suc i) (suc j) d h lt within = pairs_at c.id cs last i j d h.1 (omega arith) (omega arith)
pairs_at n _ last i _ d h lt within = absurd (omega arith)

pub ids_lower : (q : Pending) → IsSound q → AllPairs (λ c d. c.id < d.id) q.commands
ids_lower q s i j d lt within = pairs_at 0 q.commands q.ids i j d s.rising lt within

pub ids_given : (q : Pending) → IsSound q → All (λ c. c.id ≤ q.ids) q.commands
ids_given q s i d lt = (between_at 0 q.commands q.ids i d s.rising lt).1

-- the newest command stands last
newest_at : (n : ℕ) (cs : List Command) (i : ℕ) (c : Command) → length cs ≡ suc i → Some c ≡ slice_get cs i → c.id ≡ newest_id n cs
newest_at n [] i c long h = cc
newest_at n (d ∷ []) zero c long h = let same : c ≡ d = cc in ap (λ (x : Command). x.id) same
newest_at n (d ∷ e ∷ cs) (suc i) c long h = newest_at d.id (e ∷ cs) i c (omega arith) h
newest_at n _ _ c long h = absurd (omega arith)

pub newest_last : (n : ℕ) (cs : List Command) (c : Command) → Some c ≡ slice_get cs (length cs - 1) → c.id ≡ newest_id n cs
newest_last n [] c h = cc
newest_last n (d ∷ cs) c h = newest_at n (d ∷ cs) (length (d ∷ cs) - 1) c (omega arith) h

-- ---- which command is taken

-- where no command has the id, none is found and none is left out
none_with : (id : ℕ) (cs : List Command) → All (λ c. c.id ≢ id) cs → (find (has_id id) cs ≡ None) × (without id cs ≡ cs)
none_with id [] h = (refl, refl)
none_with id (c ∷ cs) h =
    let other = ne_eqb c.id id (All-head (λ (x : Command). x.id ≢ id) c cs h) in
    let rest = none_with id cs (All-tail (λ (x : Command). x.id ≢ id) c cs h) in
    (rw other rest.0, rw other (ap (λ (xs : List Command). c ∷ xs) rest.1))

pub none_answered : (id : ℕ) (q : Pending) → All (λ c. c.id ≢ id) q.commands → take_answer id q ≡ Err (no_such id)
unfolding take_answer
none_answered id q h = rw (none_with id q.commands h).0 refl

pub none_left_out : (id : ℕ) (q : Pending) → All (λ c. c.id ≢ id) q.commands → q ≡ without_command id q
unfolding without_command
none_left_out id q h = ap (λ (cs : List Command). record q { commands = cs }) (sym (none_with id q.commands h).1)

-- the command at a place is the only one with its id
only_one : (n : ℕ) (cs : List Command) (last i : ℕ) (d : Command) → IdsRise n cs last → i < length cs
    → (find (has_id (get_or cs i d).id) cs ≡ Some (get_or cs i d)) × (remove cs i ≡ without (get_or cs i d).id cs)
only_one n [] last i d h lt = absurd (omega arith)
only_one n (c ∷ cs) last zero d h lt =
    let same = eq-eqb c.id c.id refl in
    let later : All (λ x. x.id ≢ c.id) cs = λ k e within same. absurd (omega (arith, (between_at c.id cs last k e h.1 within).0)) in
    (rw same refl, rw same (sym (none_with c.id cs later).1))
only_one n (c ∷ cs) last (suc i) d h lt =
    let rest = only_one c.id cs last i d h.1 (omega arith) in
    let above = (between_at c.id cs last i d h.1 (omega arith)).0 in
    let other = ne_eqb c.id (get_or cs i d).id (λ e. omega arith) in
    (rw other rest.0, rw other (ap (λ (xs : List Command). c ∷ xs) rest.1))

-- the taken command stands behind the others, and its place is unused then
pub others_left : (xs zs : List Command) (i : ℕ) (c unused : Command) → i < length xs → zs ≡ remove xs i ++ c ∷ []
    → take (length xs - 1) (set zs (length zs - 1) unused) ≡ remove xs i
others_left xs zs i c unused lt moved =
    let long : length (remove xs i) ≡ length xs - 1 = omega (arith, length-remove xs i lt) in
    take-set-le (length xs - 1) zs (length zs - 1) unused (omega (arith, ap length moved, length-append (remove xs i) (c ∷ []), long))
    ∙ ap (take (length xs - 1)) moved ∙ take_at (remove xs i) (c ∷ []) (length xs - 1) long

-- the places of those that wait became `new`, without the i-th, and one fewer waits
left_waiting : (places new : List Command) (count i : ℕ) → count ≤ length places
    → length new ≡ length (take count places) → take (length (take count places) - 1) new ≡ remove (take count places) i
    → take (count - 1) (new ++ drop count places) ≡ remove (take count places) i
left_waiting places new count i fits same others =
    let long = length-take-le count places fits in
    take-append-le (count - 1) new (drop count places) (omega (arith, long)) ∙ ap (λ n. take (n - 1) new) (sym long) ∙ others

-- the command with this id is answered, and the others are left
pub record IsTaken (id : ℕ) (q : Pending) (c : Command) (left : Pending) : Type 0 where
  pub answer : Ok c ≡ take_answer id q
  pub after : left ≡ without_command id q
  pub sound : IsSound left

taken_here : (id : ℕ) (q : Pending) (i : ℕ) (c : Command) (left : List Command) → IsSound q → c ≡ get_or q.commands i c
    → left ≡ remove q.commands i → i < length q.commands → HoldsAt (λ c. c.id ≡ id) q.commands i
    → IsTaken id q c (record q { commands = left })
unfolding take_answer without_command
taken_here id q i c left s is others lt at =
    let one = only_one 0 q.commands q.ids i c s.rising lt in
    let found : find (has_id id) q.commands ≡ Some c =
    ap (λ n. find (has_id n) q.commands) (sym (at c)) ∙ one.0 ∙ ap Some (sym is) in
    let rest : left ≡ without id q.commands = others ∙ one.1 ∙ ap (λ n. without n q.commands) (at c) in
    record {
      answer = rw found refl;
      after = ap (λ (cs : List Command). record q { commands = cs }) rest;
      sound = sound_without id q _ s rest refl;
    }

-- the same where the clauses speak of the queue's value
pub taken : (id : ℕ) (q now : Pending) (i : ℕ) (c : Command) (left : List Command) → IsSound q → c ≡ get_or q.commands i c
    → left ≡ remove q.commands i → q ≡ now → i < length now.commands → HoldsAt (λ c. c.id ≡ id) now.commands i
    → IsTaken id now c (record q { commands = left })
taken id q now i c left s is others view =
    subst (λ (p : Pending). i < length p.commands → HoldsAt (λ c. c.id ≡ id) p.commands i → IsTaken id p c (record q { commands = left }))
    view (taken_here id q i c left s is others)

pub left_fit : (places new : List Command) (count : ℕ) → count ≤ length places → length new ≡ length (take count places)
    → count - 1 ≤ length (new ++ drop count places)
left_fit places new count fits same = omega (arith, length-take-le count places fits, length-append new (drop count places), same)

-- the same in a queue's places, of which those that waited became `new`
pub taken_waiting : (id ids count : ℕ) (places new : List Command) (now : Pending) (i : ℕ) (c : Command) → count ≤ length places
    → IsSound (waiting ids count places) → waiting ids count places ≡ now → i < length now.commands
    → HoldsAt (λ d. d.id ≡ id) now.commands i
    → HoldsAt (λ d. d ≡ c) (take count places) i → length new ≡ length (take count places)
    → take (length (take count places) - 1) new ≡ remove (take count places) i
    → IsTaken id now c (waiting ids (count - 1) (new ++ drop count places))
taken_waiting id ids count places new now i c fits s view lt at value same others =
    taken id (waiting ids count places) now i c _ s (sym (value c)) (left_waiting places new count i fits same others) view lt at
