-- How the window and the queue go on agreeing.
use Rattle.std.proofs.Common.{◌≡◌, ℕ, ◌==◌, ◌-◌, ◌+◌, ◌^◌, ◌<◌, ◌&&◌, Bool, true, false, not, cond, List, [], ◌∷◌, ◌++◌, Option, Some, None}
use Rattle.std.proofs.Common.{Ok, Err, is_some, Result, refl, sym, ap, subst, ◌∙◌, arith, length}
use Rattle.std.specs.Prelude.{ok_or, slice_get, find, nat_lt, nat_le, IfSome, is_ok}
use Rattle.std.proofs.lemmas.Bool.{cond_both, eq-eqb, leb-false}
use Rattle.command_queue.specs.declared.command.Command.{Command}
use Rattle.command_queue.specs.declared.command.NoSuch.{NoSuch}
use Rattle.command_queue.specs.declared.command.QueueFault.TheVariants.{Full, IdsSpent}
use Rattle.command_queue.specs.Pending.{Pending, AreUntried, OnlyOldestTried, IsSound, has_id, no_such, is_pending, take_answer}
use Rattle.command_queue.specs.Pending.{without_command, with_try, with_command, with_command_by, put_answer}
use Rattle.command_queue.proofs.Moves.{without, untried_without}
use Rattle.ell_layer.specs.declared.access.Access.{Access}
use Rattle.command_queue.specs.declared.window.Window.{Window}
use Rattle.command_queue.specs.declared.window.Window.TheVariants.{Idle, Waiting}
use Rattle.command_queue.specs.Orders.{Orders, orders_of, AgreesWith, Agrees, window_without, after_cancel, is_open, oldest_where_idle}
use Rattle.command_queue.specs.Orders.{sent, sent_orders, after_sent, IsOldestAfterTry}

-- ---- a command less

idle_untried : (cs : List Command) → AreUntried cs → AgreesWith Idle cs
idle_untried [] u = tt
idle_untried (c ∷ cs) u = omega (arith, u.0)

waiting_by : (b : Bool) (other : ℕ) (c : Command) (cs : List Command) → AreUntried cs → AgreesWith (Waiting other) (c ∷ cs)
    → AgreesWith (cond b Idle (Waiting other)) (cond (not b) (c ∷ cs) cs)
waiting_by true other c cs u a = idle_untried cs u
waiting_by false other c cs u a = a

window_agrees : (id : ℕ) (w : Window) (cs : List Command) → OnlyOldestTried cs → AgreesWith w cs
    → AgreesWith (window_without id w) (without id cs)
window_agrees id Idle [] t a = tt
window_agrees id (Waiting other) [] t a = absurd a
window_agrees id Idle (c ∷ cs) t a =
    cond_both (not (has_id id c)) (c ∷ without id cs) (without id cs) (AgreesWith Idle) (λ _. a)
    (λ _. idle_untried (without id cs) (untried_without id cs t.1))
window_agrees id (Waiting other) (c ∷ cs) t a =
    rw (ap (λ n. n == id) a.0) (waiting_by (other == id) other c (without id cs) (untried_without id cs t.1) a)

-- a command is taken and cancelled
pub agrees_cancelled : (id : ℕ) (w : Window) (q : Pending) → IsSound q → Agrees w q → Agrees (window_without id w) (without_command id q)
unfolding without_command
agrees_cancelled id w q s a = window_agrees id w q.commands s.tries a

-- the awaited command is removed, and the window closed
pub agrees_closed : (id : ℕ) (q : Pending) → IsSound q → Agrees (Waiting id) q → Agrees Idle (without_command id q)
agrees_closed id q s a =
    subst (λ b. Agrees (cond b Idle (Waiting id)) (without_command id q)) (eq-eqb id id refl) (agrees_cancelled id (Waiting id) q s a)

pub closed : (w : Window) (id : ℕ) (q r : Pending) → w ≡ Waiting id → IsSound q → Agrees w q → r ≡ without_command id q → Agrees Idle r
closed w id q r waits s a is = subst (Agrees Idle) (sym is) (agrees_closed id q s (subst (λ v. Agrees v q) waits a))

found_taken : (id : ℕ) (cs : List Command) (n : NoSuch) → AgreesWith (Waiting id) cs → is_ok (ok_or (find (has_id id) cs) n) ≡ true
found_taken id [] n a = absurd a
found_taken id (c ∷ cs) n a = rw (eq-eqb c.id id a.0) refl

-- the command for which the window waits can be taken
pub awaited_taken : (w : Window) (id : ℕ) (q : Pending) (r : Result Command NoSuch) → w ≡ Waiting id → Agrees w q → r ≡ take_answer id q
    → is_ok r ≡ true
unfolding take_answer
awaited_taken w id q r waits a is = ap is_ok is ∙ found_taken id q.commands (no_such id) (subst (λ v. Agrees v q) waits a)

found_if : (o : Option Command) (n : NoSuch) → is_some o ≡ is_ok (ok_or o n)
found_if None n = refl
found_if (Some c) n = refl

pub cancel_refused : (id : ℕ) (k : Orders) (e : NoSuch) → take_answer id k.queue ≡ Err e → k ≡ after_cancel k id
unfolding take_answer is_pending after_cancel
cancel_refused id k e h = rw (found_if (find (has_id id) k.queue.commands) (no_such id) ∙ ap is_ok h) refl

pub cancel_taken : (id : ℕ) (k : Orders) (c : Command) → take_answer id k.queue ≡ Ok c
    → orders_of (without_command id k.queue) (window_without id k.window) k.down ≡ after_cancel k id
unfolding take_answer is_pending after_cancel
cancel_taken id k c h = rw (found_if (find (has_id id) k.queue.commands) (no_such id) ∙ ap is_ok h) refl

-- ---- a new command

-- what holds of a queue, and with one command more where there is room, holds when one was put
pub put_both : (P : Pending → Type 0) (q : Pending) (payload : List ℕ) → P q
    → (length q.commands < 8 → P (with_command_by q payload (Ok (q.ids + 1)))) → P (with_command q payload)
unfolding with_command put_answer
put_both P q payload same more =
    cond_both (nat_le 8 (length q.commands)) (Err Full) (cond (q.ids == 2 ^ 32 - 1) (Err IdsSpent) (Ok (q.ids + 1)))
    (λ r. P (with_command_by q payload r)) (λ _. same) (λ room.
    cond_both (q.ids == 2 ^ 32 - 1) (Err IdsSpent) (Ok (q.ids + 1)) (λ r. P (with_command_by q payload r)) (λ _. same)
    (λ _. more (leb-false 8 (length q.commands) room)))

pub push_agrees : (w : Window) (cs : List Command) (c : Command) → c.tries ≡ 0 → AgreesWith w cs → AgreesWith w (cs ++ c ∷ [])
push_agrees Idle [] c new a = omega (arith, new)
push_agrees (Waiting id) [] c new a = absurd a
push_agrees Idle (d ∷ cs) c new a = a
push_agrees (Waiting id) (d ∷ cs) c new a = a

-- a command is put
pub agrees_put : (w : Window) (q : Pending) (payload : List ℕ) → Agrees w q → Agrees w (with_command q payload)
agrees_put w q payload a =
    put_both (Agrees w) q payload a (λ _. push_agrees w q.commands (record { id = q.ids + 1; tries = 0; payload = payload }) refl a)

-- ---- what is sent

-- the oldest command is sent
pub agrees_sent : (ids : ℕ) (cs : List Command) (c : Command) → AgreesWith Idle cs → Some c ≡ slice_get cs 0
    → Agrees (Waiting c.id) (with_try (record { ids = ids; commands = cs }))
unfolding with_try
agrees_sent ids [] c a is = absurd cc
agrees_sent ids (d ∷ cs) c a is =
    let same : c ≡ d = cc in
    (ap (λ (x : Command). x.id) (sym same), omega arith, omega (arith, a))

first_sent : (b : Bool) (w : Window) (ids : ℕ) (cs : List Command) (d : ℕ)
    → IfSome (cond b (oldest_where_idle w cs) None)
    (λ c. IsOldestAfterTry (sent_orders (orders_of (record { ids = ids; commands = cs }) w d) (cond b (oldest_where_idle w cs) None)).queue
    c)
unfolding with_try
first_sent true Idle ids (c ∷ cs) d = refl
first_sent _ _ ids _ d = tt

-- the command that is sent stands first
pub sent_first : (k : Orders) (access : Access) → IfSome (sent k access) (λ c. IsOldestAfterTry (after_sent k access).queue c)
unfolding sent after_sent
sent_first k access = first_sent (is_open access && nat_lt k.down (2 ^ 32 - 1)) k.window k.queue.ids k.queue.commands k.down
