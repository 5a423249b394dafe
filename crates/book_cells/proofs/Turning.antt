-- Each step of a cell keeps its rule.
use Rattle.std.proofs.Common.{◌≡◌, ◌≢◌, ℕ, ◌+◌, ◌-◌, ◌%◌, ◌^◌, ◌<◌, ◌≤◌, ⊎_elim, Bool, true, false, List, [], ◌∷◌, ◌++◌, length, get_or, set, refl, sym, ap, ◌∙◌, subst, arith, Option, Some, length-set, cond, eqb, eq-eqb, ne_eqb, ◌||◌, ◌==◌}
use Rattle.std.proofs.Math.Nat.{mod-add-mod}
use Rattle.std.proofs.lemmas.Bool.{both_ways, eqb-true, or_from, cond-true, cond-false, cond_both, false_from_ne_true}
use mathlib.Core.Option.{Option as Maybe, some, none}
use mathlib.Core.Logic.{dite}
use native.Mathlib.Decide.{ℕ_discrete}
use lib.ListN.{get_elem?}
use lib.Seq.{set-get_or}
use Rattle.atomic_table.specs.Table.{State, Me, step, Act, Valid, carried_after, rest, keeps, takes, gives, stepped, opening, Allows, Splits, Joins, Final, Seen}
use Rattle.atomic_table.proofs.Lists.{at_set, set_here, set_else, set_again, at_longer, one_turn}
use Rattle.book_cells.specs.declared.act.Act.{Act as Deed}
use Rattle.book_cells.specs.declared.known.Made.{Made}
use Rattle.book_cells.specs.declared.known.Known.{Known}
use Rattle.book_cells.specs.declared.known.Stage.{Stage}
use Rattle.book_cells.specs.declared.known.Stage.TheVariants.{Spent, Idle, Waiting, Holding}
use Rattle.book_cells.specs.declared.kept.Kept.{Kept}
use Rattle.lists.specs.Each.{Each}
use Rattle.book_cells.specs.Acts.{made, acts_by, StartsWith, longer, is_among, sources, made_by, mine, Shown}
use Rattle.book_cells.specs.Passes.{shown}
use Rattle.atomic_table.specs.declared.shared.Seat.{Seat}
use Rattle.book_cells.specs.Turns.{wrapped, own_and_joined, at_stage, with_book, back_with, first_known, hands_out, split_off, takes_in, spent_known, Course, IsOwned, IsLive, HasTicket, HasTurn, Knows, IsOut, IsThere, IsLongest, drew, left, StandsFor, IsPlaced, IsCourse, Turning, IsTurn, GoesHome, looked}
use Rattle.lists.proofs.Members.{each_map, each_both, each_append}
use Rattle.lists.proofs.Places.{head_is}
use Rattle.book_cells.proofs.Rows.{at_inside, at_one, at_end, starts_further, starts_itself, no_more, only_one, acts_by_own, acts_by_other, drop_seen, among_more, among_less, among_last, among_each, longer_starts, longer_left, longer_right, either_way}

abbrev stage_number : Stage → ℕ
stage_number (Waiting n) = n
stage_number (Holding n) = n
stage_number stage = 0

pub front_of : {S : Type 0} (l : List (ℕ × S)) (x : S) (ys : List (ℕ × S)) → l ≡ (0, x) ∷ ys → l ≡ (0, x) ∷ rest l
front_of {S} l x ys e = e ∙ ap (λ (z : List (ℕ × S)). (0, x) ∷ rest z) (sym e)

-- the slot in hand has x now
pub put_in : {S V : Type 0} (v : V) (l : List (ℕ × S)) (x y : S) (m : Me S V) → m ≡ (v, (0, x) ∷ rest l) → l ≡ (0, y) ∷ []
    → m ≡ (v, (0, x) ∷ [])
put_in {S} {V} v l x y m e held = e ∙ ap (λ (z : List (ℕ × S)). let p : Me S V = (v, (0, x) ∷ rest z) in p) held

module _ {B O C R : Type 0} (opening_of : B → O) (acts_of : B → List (Deed C R)) (legal : O → List (Deed C R) → Type 0) where
  abbrev M : Type 0
  M = Me (Option (Kept B)) (Known B C R)

  pub left_is : (v : Known B C R) (k : Kept B) (m m' : M) → m ≡ (v, (0, Some k) ∷ []) → left acts_of (step 0 1 1 0 none) m 0 m'
      → m' ≡ (back_with v (acts_of k.book.value), [])
  left_is v k m m' e told = subst (λ (z : M). left acts_of (step 0 1 1 0 none) z 0 m') e told

  -- what the look tells where it finds the caller's ticket
  pub turned : (m m0 m' : M) (found ticket t0 : ℕ) → looked opening_of acts_of legal (step 0 1 0 0 none) m found m' → m ≡ m0
      → wrapped t0 ≡ ticket → m0.0.stage ≡ Waiting t0 → found ≡ ticket
      → (t : ℕ) → m0.0.stage ≡ Waiting t → (k : Kept B) × (IsTurn opening_of acts_of legal m0.0 m'.0 t k × (m'.1 ≡ (0, Some k) ∷ m0.1))
  turned m m0 m' found ticket t0 told same is waits here t at =
      let e : t0 ≡ t = ap stage_number (sym waits ∙ at) in
      let h = subst (λ (z : M). looked opening_of acts_of legal (step 0 1 0 0 none) z found m') same told in
      let x = (h t at).0 (ap wrapped (sym e) ∙ (is ∙ sym here)) in (x.0, (x.1, x.2))

module _ {B O C R : Type 0} (opening_of : B → O) (acts_of : B → List (Deed C R)) (legal : O → List (Deed C R) → Type 0) (b0 : B) where
  abbrev o : O
  o = opening_of b0

  abbrev S : Type 0
  S = Option (Kept B)

  abbrev V : Type 0
  V = Known B C R

  abbrev St : Type 0
  St = State S V

  abbrev Co : Type 0
  Co = Course C R

  abbrev Rule : St → Type 0
  Rule = Turning opening_of acts_of legal b0

  abbrev Ok : Co → St → Type 0
  Ok = IsCourse opening_of acts_of legal b0

  abbrev Live : Co → ℕ → V → Type 0
  Live g = IsLive g.seat_of g.numbers g.log b0

  abbrev Ticket : Co → ℕ → V → Type 0
  Ticket g t v = HasTicket g.served g.drawn g.drawer t v.number

  -- a pass whose ticket is out
  ticketed : (g : Co) (seat t : ℕ) (v : V) (st : Stage) → IsOut t st → Knows b0 g seat v st → Live g seat v × Ticket g t v
  ticketed g seat t v (Waiting n) out k = (k.0, subst (λ (z : ℕ). Ticket g z v) out k.1)
  ticketed g seat t v (Holding n) out k = (k.0, subst (λ (z : ℕ). Ticket g z v) out k.1)
  ticketed g seat t v st out k = absurd out

  -- a number is at one seat
  one_seat : (g : Co) (i j : ℕ) (v u : V) → Live g i v → Live g j u → v.number ≡ u.number → i ≡ j
  one_seat g i j v u l m e = sym l.own.seat_is ∙ (ap g.seat_of e ∙ m.own.seat_is)

  -- a ticket is at one seat
  one_holder : (g : Co) (i j t : ℕ) (v u : V) → Live g i v → Live g j u → Ticket g t v → Ticket g t u → i ≡ j
  one_holder g i j t v u l m a b = one_seat g i j v u l m (sym a.drew ∙ b.drew)

  one_number : (t n : ℕ) (st : Stage) → IsOut t st → IsOut n st → t ≡ n
  one_number t n (Waiting k) a b = sym a ∙ b
  one_number t n (Holding k) a b = sym a ∙ b
  one_number t n st a b = absurd a

  -- fewer tickets are out than there are numbers
  pub few : (g : Co) (s : St) → Ok g s → g.drawn ≤ g.served + 2 ^ 32
  few g s r = let gap : ℕ = g.drawn - g.served in let ordered = r.ordered in
      let who : (i : ℕ) → i < gap → (seat : ℕ) × (v : V) × (get_elem? s.views seat ≡ some v) × (v.number ≡ g.drawer (g.served + i))
      × IsOut (g.served + i) v.stage × Live g seat v = λ i l.
      let q = r.queue (g.served + i) (omega arith) (omega arith) in
      (q.0, q.1, q.2, q.3, q.4, (ticketed g q.0 (g.served + i) q.1 q.1.stage q.4 (r.seats q.0 q.1 q.2)).0) in
      let m : gap ≤ 2 ^ 32 =
      no_more gap (2 ^ 32) (λ i. g.drawer (g.served + i)) (λ i l. let w = who i l in subst (λ (z : ℕ). z < 2 ^ 32) w.3 w.5.own.small)
      (λ i j li lj e. let w = who i li in let x = who j lj in
      let seats : w.0 ≡ x.0 = one_seat g w.0 x.0 w.1 x.1 w.5 x.5 (w.3 ∙ (e ∙ sym x.3)) in
      let views : w.1 ≡ x.1 = at_one s.views w.0 x.0 w.1 x.1 seats w.2 x.2 in
      let same : g.served + i ≡ g.served + j =
      one_number (g.served + i) (g.served + j) x.1.stage (subst (λ (z : V). IsOut (g.served + i) z.stage) views w.4) x.4 in
      omega arith) in
      omega arith

  -- each seat's knowledge after one view changed
  seats_stay : (K : ℕ → V → Type 0) (vs : List V) (me : ℕ) (w : V) → K me w → ((j : ℕ) (d : V) → j ≢ me → get_elem? vs j ≡ some d → K j d)
      → (j : ℕ) (d : V) → get_elem? (set vs me w) j ≡ some d → K j d
  seats_stay K vs me w mine others j d e =
      ⊎_elim (λ (t : (j ≡ me) × (w ≡ d)). subst (λ (x : ℕ × V). K x.0 x.1) (λ i. (sym t.0 i, t.1 i)) mine)
      (λ (t : (j ≢ me) × (get_elem? vs j ≡ some d)). others j d t.0 t.1) (at_set vs me j w d e)

  set_elsewhere : (vs : List V) (me : ℕ) (w : V) (j : ℕ) (d : V) → j ≢ me → get_elem? vs j ≡ some d → get_elem? (set vs me w) j ≡ some d
  set_elsewhere vs me w j d ne e = set_else vs me j w ne ∙ e

  longest_stays : (log : List (Deed C R)) (vs : List V) (id : ℕ) (v w : V) → get_elem? vs id ≡ some v → IsThere w.stage → w.seen ≡ v.seen
      → IsLongest log vs → IsLongest log (set vs id w)
  longest_stays log vs id v w at there same h = dite (ℕ_discrete h.0 id)
      (λ e. let is : h.1 ≡ v = at_one vs h.0 id h.1 v e h.2 at in
      (id, w, set_here vs id w (at_inside vs id v at), there, same ∙ (ap (λ (x : V). x.seen) (sym is) ∙ h.4)))
      (λ ne. (h.0, h.1, set_elsewhere vs id w h.0 h.1 ne h.2, h.3, h.4))

  words_after : (ws : List ℕ) (a b : ℕ) → ws ≡ wrapped a ∷ wrapped b ∷ []
      → set ws 0 ((get_or ws 0 0 + 1) % 2 ^ 64) ≡ wrapped (a + 1) ∷ wrapped b ∷ []
  words_after ws a b e = ap (λ (l : List ℕ). set l 0 ((get_or l 0 0 + 1) % 2 ^ 64)) e
      ∙ ap (λ (n : ℕ). n ∷ wrapped b ∷ []) (mod-add-mod a (2 ^ 64) 1)

  words_served : (ws : List ℕ) (a b : ℕ) → ws ≡ wrapped a ∷ wrapped b ∷ []
      → set ws 1 ((get_or ws 1 0 + 1) % 2 ^ 64) ≡ wrapped a ∷ wrapped (b + 1) ∷ []
  words_served ws a b e = ap (λ (l : List ℕ). set l 1 ((get_or l 1 0 + 1) % 2 ^ 64)) e
      ∙ ap (λ (n : ℕ). wrapped a ∷ n ∷ []) (mod-add-mod b (2 ^ 64) 1)

  -- a pass that is as it was, but for what it has seen, what it handed out and its stage
  relive : (g g' : Co) (seat : ℕ) (v : V) (seen : List (Deed C R)) (handed : List ℕ) (st : Stage) → StartsWith g'.log seen
      → ((m : Made C R) → IsOwned g.seat_of g.numbers g.log seat m → IsOwned g'.seat_of g'.numbers g'.log seat m)
      → (v.is_first ≡ true → (seat ≡ 0) × (g'.numbers ≡ v.number ∷ handed)) → Live g seat v
      → Live g' seat (record v { seen = seen; handed = handed; stage = st })
  relive g g' seat v seen handed st prefix owned root l = record {
    opening_is = l.opening_is;
    prefix = prefix;
    own = owned (made v.number v.own) l.own;
    joined = each_map (IsOwned g.seat_of g.numbers g.log seat) (IsOwned g'.seat_of g'.numbers g'.log seat) owned v.joined l.joined;
    apart = l.apart;
    is_root = root;
  }

  -- what a pass knows goes on where its life, its ticket and its turn do
  knows_on : (g g' : Co) (j : ℕ) (d : V) → (Live g j d → Live g' j d) → ((n : ℕ) → Live g j d → Ticket g n d → Ticket g' n d)
      → ((n : ℕ) → Live g j d → Ticket g n d → HasTurn g.served g.log g.is_out n d.seen → HasTurn g'.served g'.log g'.is_out n d.seen)
      → (st : Stage) → Knows b0 g j d st → Knows b0 g' j d st
  knows_on g g' j d live ticket turn Spent k = tt
  knows_on g g' j d live ticket turn Idle k = live k
  knows_on g g' j d live ticket turn (Waiting n) k = (live k.0, ticket n k.0 k.1)
  knows_on g g' j d live ticket turn (Holding n) k = (live k.0, ticket n k.0 k.1, turn n k.0 k.1 k.2)

  -- a pass whose ticket is out isn't the one that has none
  not_idle : (vs : List V) (i j : ℕ) (b d : V) (n : ℕ) → get_elem? vs i ≡ some b → b.stage ≡ Idle → get_elem? vs j ≡ some d → IsOut n d.stage
      → j ≢ i
  not_idle vs i j b d n there idle here out e =
      subst (IsOut n) (ap (λ (v : V). v.stage) (at_one vs j i d b e here there) ∙ idle) out

  -- the book is where it was, for all passes whose tickets are out are where they were
  placed_on : (log : List (Deed C R)) (served : ℕ) (vs vs' : List V) (homes : List (Maybe S))
      → ((j : ℕ) (d : V) (n : ℕ) → get_elem? vs j ≡ some d → IsOut n d.stage → get_elem? vs' j ≡ some d)
      → (b : Bool) → IsPlaced opening_of acts_of o log served vs b homes → IsPlaced opening_of acts_of o log served vs' b homes
  placed_on log served vs vs' homes kept false p = p
  placed_on log served vs vs' homes kept true p =
      (p.0, (p.1.0, p.1.1, kept p.1.0 p.1.1 served p.1.2 (subst (IsOut served) (sym p.1.3) refl), p.1.3))

  -- Kind 1: a ticket is drawn.
  pub draws : (slots id : ℕ) (me : Me S V) → me.0.stage ≡ Idle
      → Allows Rule slots id me 0 (λ n. (n + 1) % 2 ^ 64) (drew (step slots 0 1 0 none) me)
  draws slots id me idle s held long at small =
      let g : Co = held.0 in let r : Ok g s = held.1 in let t : ℕ = g.drawn in let w : V = at_stage me.0 (Waiting t) in
      let ordered = r.ordered in
      let live : Live g id me.0 = subst (Knows b0 g id me.0) idle (r.seats id me.0 at) in
      let drawer' : ℕ → ℕ = λ n. cond (eqb n t) me.0.number (g.drawer n) in
      let g' : Co = record g { drawn = t + 1; drawer = drawer' } in
      let stays : (n k : ℕ) → HasTicket g.served t g.drawer n k → HasTicket g.served (t + 1) drawer' n k = λ n k h. let b = h.before in
      record { after = h.after; before = omega arith; drew = cond-false (eqb n t) me.0.number (g.drawer n) (ne_eqb n t (λ e. omega arith)) ∙ h.drew } in
      let kept_at : (j : ℕ) (d : V) (n : ℕ) → get_elem? s.views j ≡ some d → IsOut n d.stage → get_elem? (set s.views id w) j ≡ some d =
      λ j d n here out. set_elsewhere s.views id w j d (not_idle s.views id j me.0 d n at idle here out) here in
      let next : Ok g' (stepped s 0 ((get_or s.words 0 0 + 1) % 2 ^ 64) id me.1 w keeps) = record {
        words = words_after s.words t g.served r.words;
        ordered = omega arith;
        queue = λ n lo hi. dite (ℕ_discrete n t)
            (λ e. (id, w, set_here s.views id w (at_inside s.views id me.0 at), sym (cond-true (eqb n t) me.0.number (g.drawer n) (eq-eqb n t e)), sym e))
            (λ ne. let q = r.queue n lo (omega arith) in
            (q.0, q.1, kept_at q.0 q.1 n q.2 q.4, q.3 ∙ sym (cond-false (eqb n t) me.0.number (g.drawer n) (ne_eqb n t ne)), q.4));
        seats = seats_stay (λ j d. Knows b0 g' j d d.stage) s.views id w (
          relive g g' id me.0 me.0.seen me.0.handed (Waiting t) live.prefix (λ m h. h) live.is_root live,
          record { after = ordered; before = omega arith; drew = cond-true (eqb t t) me.0.number (g.drawer t) (eq-eqb t t refl) },
        )
            (λ j d ne there. knows_on g g' j d (λ l. l) (λ n _ h. stays n d.number h) (λ n _ _ h. h) d.stage (r.seats j d there));
        longest = longest_stays g.log s.views id me.0 w at tt refl r.longest;
        is_legal = r.is_legal;
        no_others = r.no_others;
        placed = placed_on g.log g.served s.views (set s.views id w) s.homes kept_at g.is_out r.placed;
      } in
      (w, keeps, tt, (g', next), (t, ap (λ (l : List ℕ). get_or l 0 0) (sym r.words), refl))

  -- where a pass waits for the ticket that is served, the book is at home
  at_home : (g : Co) (s : St) (r : Ok g s) (id : ℕ) (v : V) (t : ℕ) → get_elem? s.views id ≡ some v → v.stage ≡ Waiting t → t ≡ g.served
      → (b : Bool) → g.is_out ≡ b → IsPlaced opening_of acts_of o g.log g.served s.views b s.homes
      → (g.is_out ≡ false) × ((k : Kept B) × (s.homes ≡ some (Some k) ∷ []) × StandsFor opening_of acts_of o g.log g.served k)
  at_home g s r id v t at waits now false e p = (e, p)
  at_home g s r id v t at waits now true e p =
      let u : V = p.1.1 in let there = p.1.2 in
      let mine = ticketed g id g.served v v.stage (subst (IsOut g.served) (sym waits) now) (r.seats id v at) in
      let theirs = ticketed g p.1.0 g.served u u.stage (subst (IsOut g.served) (sym p.1.3) refl) (r.seats p.1.0 u there) in
      let seats : p.1.0 ≡ id = one_holder g p.1.0 id g.served u v theirs.0 mine.0 theirs.1 mine.1 in
      let same : u ≡ v = at_one s.views p.1.0 id u v seats there at in
      let clash : Holding g.served ≡ Waiting t = sym p.1.3 ∙ (ap (λ (z : V). z.stage) same ∙ waits) in
      absurd (cc)

  -- what a look at the word `serving` owes
  abbrev Looks : ℕ → Me S V → St → Type 0
  Looks id me s = (w : V) × (a : Act S) × Valid s.homes me.1 a × Rule (stepped s 1 (get_or s.words 1 0) id me.1 w a)
      × looked opening_of acts_of legal (step 0 1 0 0 none) me (get_or s.words 1 0) (w, carried_after me.1 a)

  -- Kind 2, where the ticket is served: the book comes out.
  comes : (id : ℕ) (me : Me S V) (t : ℕ) → me.0.stage ≡ Waiting t → (s : St) (g : Co) (r : Ok g s) → get_elem? s.views id ≡ some me.0
      → t ≡ g.served → Looks id me s
  comes id me t waits s g r at now =
      let home = at_home g s r id me.0 t at waits now g.is_out refl r.placed in let k : Kept B = home.1.0 in let stands = home.1.2 in
      let w : V = with_book me.0 g.log t in
      let known = subst (Knows b0 g id me.0) waits (r.seats id me.0 at) in let live = known.0 in let ticket = known.1 in
      let g' : Co = record g { is_out = true } in
      let here = set_here s.views id w (at_inside s.views id me.0 at) in
      let found : get_or s.words 1 0 ≡ wrapped g.served = ap (λ (l : List ℕ). get_or l 1 0) r.words in
      let next : Ok g' (stepped s 1 (get_or s.words 1 0) id me.1 w (takes 0 (Some k))) = record {
        words = set-get_or s.words 1 0 ∙ r.words;
        ordered = r.ordered;
        queue = λ n lo hi. let q = r.queue n lo hi in dite (ℕ_discrete q.0 id)
            (λ e. let same : q.1 ≡ me.0 = at_one s.views q.0 id q.1 me.0 e q.2 at in
            (id, w, here, ap (λ (v : V). v.number) (sym same) ∙ q.3, subst (IsOut n) (ap (λ (v : V). v.stage) same ∙ waits) q.4))
            (λ ne. (q.0, q.1, set_elsewhere s.views id w q.0 q.1 ne q.2, q.3, q.4));
        seats = seats_stay (λ j d. Knows b0 g' j d d.stage) s.views id w (
          relive g g' id me.0 g.log me.0.handed (Holding t) (starts_itself g.log) (λ m h. h) live.is_root live,
          ticket,
          record { now = now; sees_all = refl; out = refl },
        )
            (λ j d ne there. knows_on g g' j d (λ l. l) (λ n _ h. h) (λ n _ _ h. absurd (both_ways g.is_out home.0 h.out)) d.stage
            (r.seats j d there));
        longest = (id, w, here, tt, refl);
        is_legal = r.is_legal;
        no_others = r.no_others;
        placed = (ap (λ (l : List (Maybe S)). set l 0 none) home.1.1, (id, w, here, ap Holding now));
      } in
      let turn : (t' : ℕ) → t ≡ t' → IsTurn opening_of acts_of legal me.0 w t' k = λ t' same. record {
        known = ap (with_book me.0 g.log) same;
        goes_on = live.prefix;
        is_legal = subst (λ (x : O). legal x g.log) (sym stands.opening_is) r.is_legal;
        opening_is = (b0, live.opening_is, sym stands.opening_is);
        stands = record { opening_is = refl; acts_are = stands.acts_are; turns_are = stands.turns_are ∙ ap wrapped (sym now ∙ same) };
      } in (
        w,
        takes 0 (Some k),
        ap (λ (l : List (Maybe S)). get_elem? l 0) home.1.1,
        (g', next),
        λ t' waits'. let same : t ≡ t' = ap stage_number (sym waits ∙ waits') in
            (λ is. (k, turn t' same, refl), λ isnt. absurd (isnt (ap wrapped (sym same ∙ now) ∙ sym found))),
      )

  -- Kind 2, where another ticket is served: nothing is new.
  waits_on : (id : ℕ) (me : Me S V) (t : ℕ) → me.0.stage ≡ Waiting t → (s : St) (g : Co) (r : Ok g s) → get_elem? s.views id ≡ some me.0
      → t ≢ g.served → Looks id me s
  waits_on id me t waits s g r at other =
      let known = subst (Knows b0 g id me.0) waits (r.seats id me.0 at) in let after = known.1.after in let before = known.1.before in
      let most = few g s r in
      let found : get_or s.words 1 0 ≡ wrapped g.served = ap (λ (l : List ℕ). get_or l 1 0) r.words in (
        me.0,
        keeps,
        tt,
        subst (λ (ws : List ℕ). Rule record { words = ws; homes = s.homes; views = set s.views id me.0 }) (sym (set-get_or s.words 1 0))
            (subst (λ (vs : List V). Rule record { words = s.words; homes = s.homes; views = vs }) (sym (set_again s.views id me.0 at))
            (g, r)),
        λ t' waits'. let same : t ≡ t' = ap stage_number (sym waits ∙ waits') in (
          λ is. absurd (other (sym (one_turn g.served t (2 ^ 64) after (omega arith) (sym found ∙ (sym is ∙ ap wrapped (sym same)))))),
          λ isnt. refl,
        ),
      )

  pub looks : (slots id : ℕ) (me : Me S V) (t : ℕ) → me.0.stage ≡ Waiting t
      → Allows Rule slots id me 1 (λ n. n) (looked opening_of acts_of legal (step slots 1 0 0 none) me)
  looks slots id me t waits s held long at small =
      dite (ℕ_discrete t held.0.served) (λ e. comes id me t waits s held.0 held.1 at e) (λ ne. waits_on id me t waits s held.0 held.1 at ne)

  out_there : (g : Co) (s : St) (r : Ok g s) → g.is_out ≡ true → s.homes ≡ none ∷ []
  out_there g s r e = (subst (λ (b : Bool). IsPlaced opening_of acts_of o g.log g.served s.views b s.homes) e r.placed).0

  -- Kind 5: the book goes home, with the acts of `fresh` more.
  leaves : (slots id : ℕ) (v : V) (t : ℕ) (k : Kept B) (fresh : List (Deed C R)) → GoesHome opening_of acts_of legal v t fresh k
      → Allows Rule slots id (v, (0, Some k) ∷ []) 1 (λ n. (n + 1) % 2 ^ 64) (left acts_of (step slots 1 1 0 none) (v, (0, Some k) ∷ []))
  leaves slots id v t k fresh h s held long at small =
      let g : Co = held.0 in let r : Ok g s = held.1 in
      let known = subst (Knows b0 g id v) h.holds (r.seats id v at) in let live = known.0 in let ticket = known.1 in let turn = known.2 in
      let now : t ≡ g.served = turn.now in
      let log' : List (Deed C R) = acts_of k.book.value in let w : V = back_with v log' in
      let grown : log' ≡ g.log ++ fresh = h.added ∙ ap (λ (l : List (Deed C R)). l ++ fresh) turn.sees_all in
      let opens = h.opening_is in
      let is_o : opening_of k.book.value ≡ o = sym opens.2 ∙ ap opening_of (head_is opens.0 b0 [] [] (sym opens.1 ∙ live.opening_is)) in
      let g' : Co = record g { served = g.served + 1; log = log'; is_out = false } in
      let before = ticket.before in
      let ticket_now : Ticket g g.served v = subst (λ (z : ℕ). Ticket g z v) now ticket in
      let further : (seen : List (Deed C R)) → StartsWith g.log seen → StartsWith log' seen =
      λ seen p. subst (λ (l : List (Deed C R)). StartsWith l seen) (sym grown) (starts_further g.log seen fresh p) in
      let owned : (j : ℕ) (m : Made C R) → m.number ≢ v.number → IsOwned g.seat_of g.numbers g.log j m
      → IsOwned g.seat_of g.numbers log' j m = λ j m other q.
      let acts = acts_by_other v.number m.number g.log fresh log' m.acts grown h.mine other q.acts_are in
      record { seat_is = q.seat_is; acts_are = acts; in_use = q.in_use; small = q.small } in
      let apart : (j : ℕ) (m : Made C R) → j ≢ id → IsOwned g.seat_of g.numbers g.log j m → m.number ≢ v.number =
      λ j m ne h e. ne (sym h.seat_is ∙ (ap g.seat_of e ∙ live.own.seat_is)) in
      let others : (j : ℕ) (d : V) → j ≢ id → Live g j d → Live g' j d = λ j d ne l.
      relive g g' j d d.seen d.handed d.stage (further d.seen l.prefix) (λ m h. owned j m (apart j m ne h) h) l.is_root l in
      let later : (j n : ℕ) (d : V) → j ≢ id → Live g j d → Ticket g n d → g.served + 1 ≤ n = λ j n d ne l h. let after = h.after in
      let other : n ≢ g.served = λ e. ne (one_holder g j id g.served d v l live (subst (λ (z : ℕ). Ticket g z d) e h) ticket_now) in
      dite (ℕ_discrete n g.served) (λ e. absurd (other e)) (λ e. omega arith) in
      let know : (j : ℕ) (d : V) → j ≢ id → (st : Stage) → Knows b0 g j d st → Knows b0 g' j d st = λ j d ne.
      knows_on g g' j d (others j d ne) (λ n l h. record { after = later j n d ne l h; before = h.before; drew = h.drew })
      (λ n l h k. let a = later j n d ne l h in let b = k.now in absurd (omega arith)) in
      let next : Ok g' (stepped s 1 ((get_or s.words 1 0 + 1) % 2 ^ 64) id ((0, Some k) ∷ []) w gives) = record {
        words = words_served s.words g.drawn g.served r.words;
        ordered = omega arith;
        queue = λ n lo hi. let q = r.queue n (omega arith) hi in
            let ne : q.0 ≢ id = λ e. let same : q.1 ≡ v = at_one s.views q.0 id q.1 v e q.2 at in
            let is : t ≡ n = subst (IsOut n) (ap (λ (v : V). v.stage) same ∙ h.holds) q.4 in omega arith in
            (q.0, q.1, set_elsewhere s.views id w q.0 q.1 ne q.2, q.3, q.4);
        seats = seats_stay (λ j d. Knows b0 g' j d d.stage) s.views id w
            record {
              opening_is = live.opening_is;
              prefix = starts_itself log';
              own = record {
                seat_is = live.own.seat_is;
                acts_are = acts_by_own v.number g.log fresh log' v.own grown h.mine live.own.acts_are
                    ∙ ap (λ (l : List (Deed C R)). v.own ++ l) (sym (drop_seen v.seen fresh log' h.added));
                in_use = live.own.in_use;
                small = live.own.small;
              };
              joined =
                  each_both (λ (m : Made C R). m.number ≢ v.number) (IsOwned g.seat_of g.numbers g.log id)
                  (IsOwned g.seat_of g.numbers log' id) (owned id) v.joined live.apart live.joined;
              apart = live.apart;
              is_root = live.is_root;
            }
            (λ j d ne there. know j d ne d.stage (r.seats j d there));
        longest = (id, w, set_here s.views id w (at_inside s.views id v at), tt, refl);
        is_legal = subst (λ (x : O). legal x log') is_o h.is_legal;
        no_others = λ n not. let other : n ≢ v.number = λ e.
            both_ways (is_among n g.numbers) not (ap (λ (z : ℕ). is_among z g.numbers) e ∙ live.own.in_use) in
            acts_by_other v.number n g.log fresh log' [] grown h.mine other (r.no_others n not);
        placed = (
          k,
          ap (λ (l : List (Maybe S)). set l 0 (some (Some k))) (out_there g s r turn.out),
          record { opening_is = is_o; acts_are = refl; turns_are = h.turns ∙ ap (λ (n : ℕ). wrapped (n + 1)) now },
        );
      } in
      (w, gives, tt, (g', next), refl)

  pub leaves_from : (slots id : ℕ) (m : Me S V) (v : V) (t : ℕ) (fresh : List (Deed C R)) (k : Kept B) → m ≡ (v, (0, Some k) ∷ [])
      → GoesHome opening_of acts_of legal v t fresh k
      → Allows Rule slots id m 1 (λ n. (n + 1) % 2 ^ 64) (left acts_of (step slots 1 1 0 none) m)
  leaves_from slots id m v t fresh k e h =
      subst (λ (z : Me S V). Allows Rule slots id z 1 (λ n. (n + 1) % 2 ^ 64) (left acts_of (step slots 1 1 0 none) z)) (sym e)
      (leaves slots id v t k fresh h)

  -- The cell at its making.
  pub begins : (k : Kept B) (number : ℕ) → number < 2 ^ 32 → opening_of k.book.value ≡ o → acts_of k.book.value ≡ [] → k.idle ≡ 0
      → legal o []
      → Rule (opening (0 ∷ 0 ∷ []) (Some k ∷ []) (first_known b0 number))
  begins k number small is_o empty idle fine =
      let v : V = first_known b0 number in
      let g : Co = record { served = 0; drawn = 0; drawer = λ _. 0; seat_of = λ _. 0; numbers = number ∷ []; log = []; is_out = false } in
      let live : Live g 0 v = record {
        opening_is = refl;
        prefix = starts_itself [];
        own = record { seat_is = refl; acts_are = refl; in_use = ap (λ b. b || false) (eq-eqb number number refl); small = small };
        joined = tt;
        apart = tt;
        is_root = λ _. (refl, refl);
      } in
      let first : Ok g (opening (0 ∷ 0 ∷ []) (Some k ∷ []) v) = record {
        words = refl;
        ordered = omega arith;
        queue = λ t lo hi. absurd (omega arith);
        seats = λ j d there. let e =
            only_one v d j there in subst (λ (x : ℕ × V). Knows b0 g x.0 x.1 x.1.stage) (λ i. (sym e.0 i, e.1 i)) live;
        longest = (0, v, refl, tt, refl);
        is_legal = fine;
        no_others = λ n not. refl;
        placed = (k, refl, record { opening_is = is_o; acts_are = empty; turns_are = ap (λ (n : ℕ). wrapped (0 + n)) idle });
      } in
      (g, first)

  -- Kind 6: a pass is split off.
  pub splits : (id : ℕ) (v : V) (number : ℕ) → v.stage ≡ Idle → v.is_first ≡ true → is_among number (v.number ∷ v.handed) ≡ false
      → number < 2 ^ 32 → Splits Rule id v (hands_out number v) (split_off number v)
  splits id v number idle first unused small s held at =
      let g : Co = held.0 in let r : Ok g s = held.1 in let new : ℕ = length s.views in
      let live : Live g id v = subst (Knows b0 g id v) idle (r.seats id v at) in
      let root = live.is_root first in
      let w : V = hands_out number v in let u : V = split_off number v in
      let numbers' : List ℕ = g.numbers ++ number ∷ [] in
      let seat_of' : ℕ → ℕ = λ n. cond (eqb n number) new (g.seat_of n) in
      let g' : Co = record g { seat_of = seat_of'; numbers = numbers' } in
      let free : is_among number g.numbers ≡ false = ap (is_among number) root.1 ∙ unused in
      let owned : (j : ℕ) (m : Made C R) → IsOwned g.seat_of g.numbers g.log j m → IsOwned seat_of' numbers' g.log j m = λ j m h.
      let other : m.number ≢ number = λ e.
      both_ways (is_among number g.numbers) free (ap (λ (z : ℕ). is_among z g.numbers) (sym e) ∙ h.in_use) in
      let seat = cond-false (eqb m.number number) new (g.seat_of m.number) (ne_eqb m.number number other) ∙ h.seat_is in
      let used = among_more m.number g.numbers (number ∷ []) h.in_use in
      record { seat_is = seat; acts_are = h.acts_are; in_use = used; small = h.small } in
      let others : (j : ℕ) (d : V) → j ≢ id → Live g j d → Live g' j d = λ j d ne l.
      relive g g' j d d.seen d.handed d.stage l.prefix (owned j) (λ f. absurd (ne ((l.is_root f).0 ∙ sym root.0))) l in
      let mine : Live g' id w = relive g g' id v v.seen w.handed v.stage live.prefix (owned id)
      (λ f. (root.0, ap (λ (l : List ℕ). l ++ number ∷ []) root.1)) live in
      let theirs : Live g' new u = record {
        opening_is = live.opening_is;
        prefix = live.prefix;
        own = record {
          seat_is = cond-true (eqb number number) new (g.seat_of number) (eq-eqb number number refl);
          acts_are = r.no_others number free;
          in_use = among_last number g.numbers;
          small = small;
        };
        joined = tt;
        apart = tt;
        is_root = λ f. absurd cc;
      } in
      let K : ℕ → V → Type 0 = λ j d. Knows b0 g' j d d.stage in
      let still : (j : ℕ) (d : V) → get_elem? (set s.views id w) j ≡ some d → K j d =
      seats_stay K s.views id w (subst (Knows b0 g' id w) (sym idle) mine)
      (λ j d ne there. knows_on g g' j d (others j d ne) (λ n _ h. h) (λ n _ _ h. h) d.stage (r.seats j d there)) in
      let kept_at : (j : ℕ) (d : V) (n : ℕ) → get_elem? s.views j ≡ some d → IsOut n d.stage
      → get_elem? (set s.views id w ++ u ∷ []) j ≡ some d = λ j d n there out.
      at_longer (set s.views id w) (u ∷ []) j d (set_elsewhere s.views id w j d (not_idle s.views id j v d n at idle there out) there) in
      let next : Ok g' (record { words = s.words; homes = s.homes; views = set s.views id w ++ u ∷ [] }) = record {
        words = r.words;
        ordered = r.ordered;
        queue = λ n lo hi. let q = r.queue n lo hi in (q.0, q.1, kept_at q.0 q.1 n q.2 q.4, q.3, q.4);
        seats = λ j d there. ⊎_elim (still j d) (λ (t : (j ≡ length (set s.views id w)) × (u ≡ d)). let here : j ≡ new =
            t.0 ∙ length-set s.views id w in
            subst (λ (x : ℕ × V). K x.0 x.1) (λ i. (sym here i, t.1 i)) theirs) (at_end (set s.views id w) u d j there);
        longest = let h = longest_stays g.log s.views id v w at (subst IsThere (sym idle) tt) refl r.longest in
            (h.0, h.1, at_longer (set s.views id w) (u ∷ []) h.0 h.1 h.2, h.3, h.4);
        is_legal = r.is_legal;
        no_others = λ n not. r.no_others n (among_less n g.numbers (number ∷ []) not);
        placed = placed_on g.log g.served s.views (set s.views id w ++ u ∷ []) s.homes kept_at g.is_out r.placed;
      } in
      (g', next)

  -- Kinds 7 and 8: a pass takes another in, which is spent.
  pub joins : (id : ℕ) (v : V) (other : ℕ) (u : V) → v.stage ≡ Idle → u.stage ≡ Idle → u.is_first ≡ false
      → Joins Rule id v other u (takes_in v u) spent_known
  joins id v other u idle idle' second s held at differ there =
      let g : Co = held.0 in let r : Ok g s = held.1 in
      let w : V = takes_in v u in let z : V = spent_known in
      let at' : get_elem? s.views other ≡ some u = sym (set_else s.views id other w differ) ∙ there in
      let live : Live g id v = subst (Knows b0 g id v) idle (r.seats id v at) in
      let live' : Live g other u = subst (Knows b0 g other u) idle' (r.seats other u at') in
      let seat_of' : ℕ → ℕ = λ n. cond (eqb (g.seat_of n) other) id (g.seat_of n) in
      let g' : Co = record g { seat_of = seat_of' } in
      let stays : (j : ℕ) (m : Made C R) → j ≢ other → IsOwned g.seat_of g.numbers g.log j m → IsOwned seat_of' g.numbers g.log j m =
      λ j m ne h.
      let elsewhere = ne_eqb (g.seat_of m.number) other (λ e. ne (sym h.seat_is ∙ e)) in
      let seat = cond-false (eqb (g.seat_of m.number) other) id (g.seat_of m.number) elsewhere ∙ h.seat_is in
      record { seat_is = seat; acts_are = h.acts_are; in_use = h.in_use; small = h.small } in
      let comes_over : (m : Made C R) → IsOwned g.seat_of g.numbers g.log other m → IsOwned seat_of' g.numbers g.log id m = λ m h.
      let seat = cond-true (eqb (g.seat_of m.number) other) id (g.seat_of m.number) (eq-eqb (g.seat_of m.number) other h.seat_is) in
      record { seat_is = seat; acts_are = h.acts_are; in_use = h.in_use; small = h.small } in
      let others : (j : ℕ) (d : V) → j ≢ other → Live g j d → Live g' j d = λ j d ne l.
      relive g g' j d d.seen d.handed d.stage l.prefix (λ m h. stays j m ne h) l.is_root l in
      let kept = others id v (λ e. differ (sym e)) live in
      let apart_from : (m : Made C R) → IsOwned g.seat_of g.numbers g.log other m → m.number ≢ v.number =
      λ m h e. differ (sym h.seat_is ∙ (ap g.seat_of e ∙ live.own.seat_is)) in
      let theirs : Made C R → Type 0 = IsOwned g.seat_of g.numbers g.log other in
      let mine : Live g' id w = record {
        opening_is = kept.opening_is;
        prefix = longer_starts g.log v.seen u.seen live.prefix live'.prefix;
        own = kept.own;
        joined = each_append (IsOwned seat_of' g.numbers g.log id) v.joined (own_and_joined u) kept.joined
            (each_map theirs (IsOwned seat_of' g.numbers g.log id) comes_over (own_and_joined u) (live'.own, live'.joined));
        apart = each_append (λ (m : Made C R). m.number ≢ v.number) v.joined (own_and_joined u) live.apart
            (each_map theirs (λ (m : Made C R). m.number ≢ v.number) apart_from (own_and_joined u) (live'.own, live'.joined));
        is_root = live.is_root;
      } in
      let K : ℕ → V → Type 0 = λ j d. Knows b0 g' j d d.stage in
      let kept_at : (j : ℕ) (d : V) (n : ℕ) → get_elem? s.views j ≡ some d → IsOut n d.stage
      → get_elem? (set (set s.views id w) other z) j ≡ some d = λ j d n here out.
      set_elsewhere (set s.views id w) other z j d (not_idle s.views other j u d n at' idle' here out)
      (set_elsewhere s.views id w j d (not_idle s.views id j v d n at idle here out) here) in
      let here = set_elsewhere (set s.views id w) other z id w (λ e. differ (sym e)) (set_here s.views id w (at_inside s.views id v at)) in
      let new_one : longer v.seen u.seen ≡ g.log → IsLongest g.log (set (set s.views id w) other z) =
      λ e. (id, w, here, subst IsThere (sym idle) tt, e) in
      let h = r.longest in
      let longest : IsLongest g.log (set (set s.views id w) other z) = dite (ℕ_discrete h.0 id)
      (λ e. let is : h.1 ≡ v = at_one s.views h.0 id h.1 v e h.2 at in
      new_one (longer_left g.log v.seen u.seen (ap (λ (x : V). x.seen) (sym is) ∙ h.4) live'.prefix))
      (λ ne. dite (ℕ_discrete h.0 other)
      (λ e. let is : h.1 ≡ u = at_one s.views h.0 other h.1 u e h.2 at' in
      new_one (longer_right g.log v.seen u.seen (ap (λ (x : V). x.seen) (sym is) ∙ h.4) live.prefix))
      (λ ne'. (h.0, h.1, set_elsewhere (set s.views id w) other z h.0 h.1 ne' (set_elsewhere s.views id w h.0 h.1 ne h.2), h.3, h.4))) in
      let next : Ok g' (record { words = s.words; homes = s.homes; views = set (set s.views id w) other z }) = record {
        words = r.words;
        ordered = r.ordered;
        queue = λ n lo hi. let q = r.queue n lo hi in (q.0, q.1, kept_at q.0 q.1 n q.2 q.4, q.3, q.4);
        seats = seats_stay K (set s.views id w) other z tt (λ j d ne here. seats_stay (λ j d. j ≢ other → K j d) s.views id w
            (λ _. subst (Knows b0 g' id w) (sym idle) mine)
            (λ j d _ here ne. knows_on g g' j d (others j d ne) (λ n _ h. h) (λ n _ _ h. h) d.stage (r.seats j d here)) j d here ne);
        longest = longest;
        is_legal = r.is_legal;
        no_others = r.no_others;
        placed = placed_on g.log g.served s.views (set (set s.views id w) other z) s.homes kept_at g.is_out r.placed;
      } in
      (g', next)

  of_sources : (P : ℕ → Type 0) (Q : Made C R → Type 0) → ((m : Made C R) → Q m → P m.number) → (ms : List (Made C R)) → Each Q ms
      → Each P (sources ms)
  of_sources P Q f [] h = tt
  of_sources P Q f (m ∷ ms) h = (f m h.0, of_sources P Q f ms h.1)

  -- all acts of a number are what the pass that owns it made of it, where it made nothing of a number that it doesn't own
  made_of : (f : ℕ → ℕ) (numbers : List ℕ) (log : List (Deed C R)) (j n : ℕ) (ms : List (Made C R)) → Each (IsOwned f numbers log j) ms
      → (is_among n (sources ms) ≡ false → acts_by n log ≡ []) → acts_by n log ≡ made_by n ms
  made_of f numbers log j n [] h others = others refl
  made_of f numbers log j n (m ∷ ms) h others = cond_both (m.number == n) m.acts (made_by n ms) (λ l. acts_by n log ≡ l)
      (λ is. ap (λ (z : ℕ). acts_by z log) (sym (eqb-true m.number n is)) ∙ h.0.acts_are)
      (λ isnt. made_of f numbers log j n ms h.1 (λ e. others (or_from (m.number == n) (is_among n (sources ms)) isnt e)))

  -- what a book stands for when the cell is closed, with a pass that saw and owns these
  pub record IsClosed (saw : List (Deed C R)) (ms : List (Made C R)) (b : B) : Type 0 where
    pub opening_is : opening_of b ≡ o
    pub is_legal : legal o (acts_of b)
    pub seen : StartsWith (acts_of b) saw
    pub acts : (n : ℕ) → acts_by n (acts_of b) ≡ made_by n ms

  -- with all passes joined the book is at home, and has the acts that the passes made
  ends : (id : ℕ) (v : V) (s : St) (g : Co) (r : Ok g s) → get_elem? s.views id ≡ some v → v.stage ≡ Idle → v.is_first ≡ true
      → Each (λ (n : ℕ). is_among n (sources v.joined) ≡ true) v.handed
      → (k : Kept B) × (s.homes ≡ some (Some k) ∷ []) × IsClosed v.seen (own_and_joined v) k.book.value
  ends id v s g r at idle first all =
      let live : Live g id v = subst (Knows b0 g id v) idle (r.seats id v at) in let root = (live.is_root first).1 in
      let ms : List (Made C R) = own_and_joined v in
      let owned : Each (IsOwned g.seat_of g.numbers g.log id) ms = (live.own, live.joined) in
      let in_mine : (n : ℕ) → is_among n g.numbers ≡ true → is_among n (sources ms) ≡ true =
      λ n e. either_way (v.number == n) (is_among n v.handed) (is_among n (sources v.joined))
      (among_each (λ k. is_among k (sources v.joined) ≡ true) n v.handed all) (sym (ap (is_among n) root) ∙ e) in
      let acts : (n : ℕ) → acts_by n g.log ≡ made_by n ms = λ n. made_of g.seat_of g.numbers g.log id n ms owned
      (λ e. r.no_others n (false_from_ne_true (is_among n g.numbers) (λ h. both_ways (is_among n (sources ms)) e (in_mine n h)))) in
      elim g.is_out as (λ b. IsPlaced opening_of acts_of o g.log g.served s.views b s.homes
      → (k : Kept B) × (s.homes ≡ some (Some k) ∷ []) × IsClosed v.seen (own_and_joined v) k.book.value) [
        | false ↦ λ p. let closed : IsClosed v.seen ms p.0.book.value = record {
          opening_is = p.2.opening_is;
          is_legal = subst (λ (l : List (Deed C R)). legal o l) (sym p.2.acts_are) r.is_legal;
          seen = subst (λ (l : List (Deed C R)). StartsWith l v.seen) (sym p.2.acts_are) live.prefix;
          acts = λ n. ap (acts_by n) p.2.acts_are ∙ acts n;
        } in
            (p.0, p.1, closed)
        | true ↦ λ p. let u : V = p.1.1 in let there = p.1.2 in
            let theirs = ticketed g p.1.0 g.served u u.stage (subst (IsOut g.served) (sym p.1.3) refl) (r.seats p.1.0 u there) in
            let seats : p.1.0 ≡ id = sym theirs.0.own.seat_is
            ∙ among_each (λ k. g.seat_of k ≡ id) u.number (sources ms)
            (of_sources (λ k. g.seat_of k ≡ id) (IsOwned g.seat_of g.numbers g.log id) (λ m h. h.seat_is) ms owned)
            (in_mine u.number theirs.0.own.in_use) in
            let same : u ≡ v = at_one s.views p.1.0 id u v seats there at in
            let clash : Holding g.served ≡ Idle = sym p.1.3 ∙ (ap (λ (z : V). z.stage) same ∙ idle) in
            absurd (cc)
      ] r.placed

  pub closes : (t : Seat S V) (p : Shown B C R) (ws : List ℕ) (xs : List S) → shown t ≡ p → t.me.0.stage ≡ Idle → p.is_first ≡ true
      → Each (λ (n : ℕ). is_among n (sources p.joined) ≡ true) p.handed → Final (Seen Rule t.id t.me.0) ws xs
      → (x : S) → get_elem? xs 0 ≡ some x → (k : Kept B) × (x ≡ Some k) × IsClosed p.seen (mine p) k.book.value
  closes t p ws xs is idle first all f x at =
      let e = ends t.id t.me.0 f.0 f.1.0.0 f.1.0.1 f.1.1 idle (ap (λ (q : Shown B C R). q.is_first) is ∙ first)
      (subst (λ (q : Shown B C R). Each (λ (n : ℕ). is_among n (sources q.joined) ≡ true) q.handed) (sym is) all) in (
        e.0,
        at_one xs 0 0 x (Some e.0) refl at (f.4 0 (Some e.0) (ap (λ (l : List (Maybe S)). get_elem? l 0) e.1)),
        subst (λ (q : Shown B C R). IsClosed q.seen (mine q) e.0.book.value) is e.2,
      )
