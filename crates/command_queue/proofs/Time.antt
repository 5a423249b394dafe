-- What holds of the commands over time.
use Rattle.std.proofs.Common.{◌≡◌, ℕ, ◌+◌, ◌-◌, ◌^◌, ◌==◌, ◌<◌, ◌≤◌, Bool, true, false, not, cond, ltb, ◌&&◌, List, [], ◌∷◌, ◌++◌}
use Rattle.std.proofs.Common.{length, filter, map, Option, Some, None, refl, ap, ◌∙◌, arith}
use Rattle.std.specs.Prelude.{count_by, nat_le}
use Rattle.std.specs.List.{range_with_len}
use Rattle.std.proofs.lemmas.Bool.{and_parts, cond_both, eq-eqb, leb-false, ltb-true}
use Rattle.std.proofs.lemmas.Bool.Decides.{nat_tests}
use Rattle.std.proofs.lemmas.List.Sums.{length-filter}
use Rattle.command_queue.specs.declared.command.Command.{Command}
use Rattle.command_queue.specs.Pending.{Pending, IsSound, has_id, is_pending, without_command, with_try}
use Rattle.command_queue.proofs.Moves.{without, sound_put, sound_without}
use Rattle.command_queue.specs.declared.window.Window.{Window}
use Rattle.command_queue.specs.declared.window.Window.TheVariants.{Idle, Waiting}
use Rattle.command_queue.specs.Orders.{Orders, orders_of, Agrees, window_without, after_put, after_cancel, awaited_in, spent_id}
use Rattle.command_queue.specs.Orders.{expired, queue_less, after_tick, awaited_id, confirmed, confirmed_orders, after_confirmed, is_open}
use Rattle.command_queue.specs.Orders.{oldest_where_idle, sent, sent_orders, after_sent}
use Rattle.command_queue.specs.Moves.{Move, fresh_orders, after, sent_by, SentCommand, with_sent, all_sent}
use Rattle.command_queue.specs.Moves.{Put, Cancel, Tick, Store}
use Rattle.command_queue.proofs.Agreement.{put_both, push_agrees, agrees_cancelled, agrees_closed}

-- a sound queue and a window that agree
record IsSteady (k : Orders) : Type 0 where
  pub sound : IsSound k.queue
  pub agrees : Agrees k.window k.queue

-- ---- how often a command may still be sent

-- how many tries the commands with an id have left
abbrev left_in : ℕ → List Command → ℕ
left_in id [] = 0
left_in id (c ∷ cs) = cond (has_id id c) (3 - c.tries) 0 + left_in id cs

-- how often the command with an id may still be sent: three times where the id wasn't given yet
abbrev budget : ℕ → Pending → ℕ
budget id q = cond (ltb q.ids id) 3 0 + left_in id q.commands

-- one try of the command with an id
abbrev spends : ℕ → Option Command → ℕ
spends id None = 0
spends id (Some c) = cond (has_id id c) 1 0

left_push : (id : ℕ) (cs : List Command) (c : Command) → left_in id (cs ++ c ∷ []) ≡ left_in id cs + cond (has_id id c) (3 - c.tries) 0
left_push id [] c = omega arith
left_push id (d ∷ cs) c = omega (arith, left_push id cs c)

left_without : (id other : ℕ) (cs : List Command) → left_in id (without other cs) ≤ left_in id cs
left_without id other [] = omega arith
left_without id other (c ∷ cs) =
    let rest = left_without id other cs in
    cond_both (not (has_id other c)) (c ∷ without other cs) (without other cs) (λ xs. left_in id xs ≤ left_in id (c ∷ cs))
    (λ _. omega (arith, rest)) (λ _. omega (arith, rest))

put_spends : (id ids n : ℕ) → cond (ltb (ids + 1) id) 3 0 + (n + cond (ids + 1 == id) 3 0) ≤ cond (ltb ids id) 3 0 + n
put_spends id ids n = grind (arith, nat_tests)

try_spends : (b : Bool) (tries m n : ℕ) → tries < 3 → cond b 1 0 + (m + (cond b (3 - (tries + 1)) 0 + n)) ≤ m + (cond b (3 - tries) 0 + n)
try_spends true tries m n few = omega arith
try_spends false tries m n few = omega arith

-- ---- what each move does

abbrev down_by : Option Command → ℕ → ℕ
down_by None d = d
down_by (Some c) d = d + 1

-- orders go on to others, while this command is sent
record Goes (k : Orders) (o : Option Command) (m : Orders) : Type 0 where
  pub steady : IsSteady m
  pub down : m.down ≡ down_by o k.down
  pub fits : k.down < 2 ^ 32 → m.down < 2 ^ 32
  pub budgets : (id : ℕ) → spends id o + budget id m.queue ≤ budget id k.queue

goes_then : (k l m : Orders) (o : Option Command) → Goes k None l → Goes l o m → Goes k o m
goes_then k l m o g h = record {
  steady = h.steady;
  down = h.down ∙ ap (down_by o) g.down;
  fits = λ few. h.fits (g.fits few);
  budgets = λ id. omega (arith, g.budgets id, h.budgets id);
}

-- the queue stays, or loses a command
goes_same : (k : Orders) (w : Window) → IsSteady k → Agrees w k.queue → Goes k None (orders_of k.queue w k.down)
goes_same k w s a = record {
  steady = record { sound = s.sound; agrees = a };
  down = refl;
  fits = λ few. few;
  budgets = λ id. omega arith;
}

goes_less : (k : Orders) (id : ℕ) (w : Window) → IsSteady k → Agrees w (without_command id k.queue)
    → Goes k None (orders_of (without_command id k.queue) w k.down)
unfolding without_command
goes_less k id w s a = record {
  steady = record { sound = sound_without id k.queue _ s.sound refl refl; agrees = a };
  down = refl;
  fits = λ few. few;
  budgets = λ other. omega (arith, left_without other id k.queue.commands);
}

goes_put : (k : Orders) (payload : List ℕ) → IsSteady k → Goes k None (after_put k payload)
goes_put k payload s =
    let c : Command = record { id = k.queue.ids + 1; tries = 0; payload = payload } in
    put_both (λ q. Goes k None (record k { queue = q })) k.queue payload (goes_same k k.window s s.agrees) (λ room. record {
      steady = record {
        sound = sound_put k.queue _ c s.sound room refl refl refl refl;
        agrees = push_agrees k.window k.queue.commands c refl s.agrees;
      };
      down = refl;
      fits = λ few. few;
      budgets = λ id. omega (
        arith,
        left_push id k.queue.commands c,
        put_spends id k.queue.ids (left_in id k.queue.commands),
      );
    })

goes_cancel : (k : Orders) (id : ℕ) → IsSteady k → Goes k None (after_cancel k id)
unfolding after_cancel
goes_cancel k id s =
    cond_both (is_pending id k.queue) (record k { queue = without_command id k.queue; window = window_without id k.window }) k (Goes k None)
    (λ _. goes_less k id (window_without id k.window) s (agrees_cancelled id k.window k.queue s.sound s.agrees))
    (λ _. goes_same k k.window s s.agrees)

goes_tick : (w : Window) (ids : ℕ) (cs : List Command) (d : ℕ) → let q : Pending = record { ids = ids; commands = cs } in
    IsSteady (orders_of q w d) → Goes (orders_of q w d) None (orders_of (queue_less (spent_id (awaited_in w cs)) q) Idle d)
goes_tick Idle ids cs d s = goes_same _ Idle s s.agrees
goes_tick (Waiting id) ids [] d s = absurd s.agrees
goes_tick (Waiting id) ids (c ∷ cs) d s =
    let q : Pending = record { ids = ids; commands = c ∷ cs } in
    let k : Orders = orders_of q (Waiting id) d in
    rw (eq-eqb c.id id s.agrees.0)
    (cond_both (nat_le 3 c.tries) (Some c.id) None (λ o. Goes k None (orders_of (queue_less o q) Idle d))
    (λ _. goes_less k c.id Idle s (agrees_closed c.id q s.sound (refl, s.agrees.1, s.agrees.2)))
    (λ few. goes_same k Idle s (leb-false 3 c.tries few)))

goes_confirm : (response : Bool) (w : Window) (q : Pending) (d : ℕ) → IsSteady (orders_of q w d)
    → Goes (orders_of q w d) None (confirmed_orders (orders_of q w d) (cond response (awaited_id w) None))
goes_confirm false w q d s = goes_same _ w s s.agrees
goes_confirm true Idle q d s = goes_same _ Idle s s.agrees
goes_confirm true (Waiting id) q d s = goes_less _ id Idle s (agrees_closed id q s.sound s.agrees)

goes_send : (b : Bool) (w : Window) (ids : ℕ) (cs : List Command) (d : ℕ) → let k = orders_of (record { ids = ids; commands = cs }) w d in
    IsSteady k → (b ≡ true → d < 2 ^ 32 - 1)
    → Goes k (cond b (oldest_where_idle w cs) None) (sent_orders k (cond b (oldest_where_idle w cs) None))
unfolding with_try
goes_send false w ids cs d s left = goes_same _ w s s.agrees
goes_send true (Waiting id) ids cs d s left = goes_same _ (Waiting id) s s.agrees
goes_send true Idle ids [] d s left = goes_same _ Idle s s.agrees
goes_send true Idle ids (c ∷ cs) d s left = record {
  steady = record {
    sound = record { few = s.sound.few; rising = s.sound.rising; tries = (omega (arith, s.agrees), s.sound.tries.1) };
    agrees = (refl, omega arith, omega (arith, s.agrees));
  };
  down = refl;
  fits = λ _. omega (arith, left refl);
  budgets = λ id. try_spends (has_id id c) c.tries (cond (ltb ids id) 3 0) (left_in id cs) s.agrees;
}

goes_after : (k : Orders) (m : Move) → IsSteady k → Goes k (sent_by k m) (after k m)
unfolding after_tick expired after_confirmed confirmed after_sent sent
goes_after k (Put payload) s = goes_put k payload s
goes_after k (Cancel id) s = goes_cancel k id s
goes_after k Tick s = goes_tick k.window k.queue.ids k.queue.commands k.down s
goes_after k (Store access response) s =
    let l : Orders = after_confirmed k response in
    let g : Goes k None l = goes_confirm response k.window k.queue k.down s in
    let room : Bool = ltb l.down (2 ^ 32 - 1) in
    goes_then k l _ _ g (goes_send (is_open access && room) l.window l.queue.ids l.queue.commands l.down g.steady
    (λ h. ltb-true l.down (2 ^ 32 - 1) (and_parts (is_open access) room h).1))

-- ---- all that is sent

-- the downlinks with an id
abbrev of_id : ℕ → SentCommand → Bool
of_id id s = s.id == id

-- what holds of the downlinks that are sent from some orders on
pub record Sends (k : Orders) (sent : List SentCommand) : Type 0 where
  pub counters : map (λ s. s.down) sent ≡ range_with_len (k.down + 1) (length sent)
  pub fit : k.down < 2 ^ 32 → k.down + length sent < 2 ^ 32
  pub tries : (id : ℕ) → length (filter (of_id id) sent) ≤ budget id k.queue

count_cond : (b : Bool) (s : SentCommand) (later : List SentCommand) → length (cond b (s ∷ later) later) ≡ cond b 1 0 + length later
count_cond true s later = omega arith
count_cond false s later = omega arith

sends_more : (k : Orders) (o : Option Command) (m : Orders) (later : List SentCommand) → Goes k o m → Sends m later
    → Sends k (with_sent o m.down later)
sends_more k None m later g s = record {
  counters = s.counters ∙ ap (λ n. range_with_len (n + 1) (length later)) g.down;
  fit = λ h. omega (arith, g.down, s.fit (g.fits h));
  tries = λ id. omega (arith, g.budgets id, s.tries id);
}
sends_more k (Some c) m later g s = record {
  counters = ap (λ (xs : List ℕ). m.down ∷ xs) s.counters ∙ ap (λ n. n ∷ range_with_len (n + 1) (length later)) g.down;
  fit = λ h. omega (arith, g.down, s.fit (g.fits h));
  tries = λ id. omega (
    arith,
    g.budgets id,
    s.tries id,
    count_cond (has_id id c) (record { id = c.id; down = m.down }) (filter (of_id id) later),
  );
}

sends : (k : Orders) (moves : List Move) → IsSteady k → Sends k (all_sent k moves)
sends k [] s = record { counters = refl; fit = λ h. omega arith; tries = λ id. omega arith }
sends k (m ∷ moves) s =
    let g = goes_after k m s in
    sends_more k (sent_by k m) (after k m) (all_sent (after k m) moves) g (sends (after k m) moves g.steady)

pub fresh_sends : (ids down : ℕ) (moves : List Move) → Sends (fresh_orders ids down) (all_sent (fresh_orders ids down) moves)
fresh_sends ids down moves =
    sends _ moves (record { sound = record { few = omega arith; rising = omega arith; tries = tt }; agrees = tt })

pub three_tries : (ids down : ℕ) (moves : List Move) (id : ℕ) → count_by (λ s. s.id == id) (all_sent (fresh_orders ids down) moves) ≤ 3
three_tries ids down moves id =
    let tries = (fresh_sends ids down moves).tries id in
    grind (arith, nat_tests, length-filter (of_id id) (all_sent (fresh_orders ids down) moves))
