-- The commands of a meter are read back.
use Rattle.std.proofs.Common.{◌≡◌, ℕ, ◌<◌, ◌≤◌, Bool, true, false, cond, List, [], ◌∷◌, ◌++◌, length, map, codes, Ok, Err, refl, ap, sym, subst, ◌∙◌, arith, append_assoc, length-append}
use Rattle.std.proofs.lemmas.Bool.{and_from, le-leb, lt-ltb}
use Rattle.std.proofs.lemmas.List.{append-nil}
use Rattle.lists.specs.Each.{Each}
use Rattle.command_queue.specs.declared.command.Command.{Command}
use Rattle.command_queue.specs.Pending.{IdsRise, AreUntried, OnlyOldestTried, IsSound, newest_id, most_tries, may_follow}
use Rattle.command_queue.specs.declared.window.Window.{Window}
use Rattle.command_queue.specs.declared.window.Window.TheVariants.{Idle, Waiting}
use Rattle.command_queue.specs.Orders.{AgreesWith}
use Rattle.meter_slots.specs.Journal.{Start}
use Rattle.meter_slots.specs.Restoring.{window_fits, may_restore, with_restored, restored}
use Rattle.state_file.specs.declared.cause.StateCause.TheVariants as causes
use Rattle.state_file.specs.State.{with_command, with_line, with_lines}
use Rattle.state_file.specs.Text.{line_with, command_fields, commands_lines, IsSpeltCommand}
use Rattle.state_file.proofs.LineBack.{next, waits_back, command_back}

-- ---- a command of a sound queue may stand behind those before it

rise_top : (n : ℕ) (cs : List Command) (last : ℕ) → IdsRise n cs last → n ≤ last
rise_top n [] last h = h
rise_top n (c ∷ cs) last h = let rest = rise_top c.id cs last h.1 in let first = h.0 in omega arith

rise_at : (n : ℕ) (before : List Command) (d : Command) (after : List Command) (last : ℕ) → IdsRise n (before ++ d ∷ after) last
    → (newest_id n before < d.id) × (d.id ≤ last)
rise_at n [] d after last h = (h.0, rise_top d.id after last h.1)
rise_at n (c ∷ before) d after last h = rise_at c.id before d after last h.1

untried_at : (before : List Command) (d : Command) (after : List Command) → AreUntried (before ++ d ∷ after) → d.tries ≡ 0
untried_at [] d after u = u.0
untried_at (c ∷ before) d after u = untried_at before d after u.1

tries_at : (before : List Command) (d : Command) (after : List Command) → OnlyOldestTried (before ++ d ∷ after) → d.tries ≤ most_tries before
tries_at [] d after t = t.0
tries_at (c ∷ before) d after t = let none = untried_at before d after t.1 in omega arith

follows : (ids : ℕ) (before : List Command) (d : Command) (after : List Command) → IsSound (record { ids = ids; commands = before ++ d ∷ after })
    → may_follow (record { ids = ids; commands = before }) d ≡ true
unfolding may_follow
follows ids before d after s =
    let few : length before < 8 = (let all = length-append before (d ∷ after) in let eight = s.few in omega arith) in
    let rise = rise_at 0 before d after ids s.rising in
    rw (
      lt-ltb (length before) 8 few,
      lt-ltb (newest_id 0 before) d.id rise.0,
      le-leb d.id ids rise.1,
      le-leb d.tries (most_tries before) (tries_at before d after s.tries),
    ) refl

taken : (c : Start) (waits : Bool) (d : Command) → window_fits c.orders.queue.commands d waits ≡ true → may_follow c.orders.queue d ≡ true
    → with_command c waits d ≡ Ok (record c { orders = with_restored c.orders d waits })
unfolding may_restore restored
taken c waits d fits may =
    let k = c.orders in
    let both = and_from (window_fits k.queue.commands d waits) (may_follow k.queue d) fits may in
    ap (λ t. cond t (Ok (record c { orders = cond t (with_restored k d waits) k })) (Err causes.Command)) both

-- ---- those behind the oldest

abbrev with_commands : Start → List Command → Start
with_commands c cs = record c { orders = record c.orders { queue = record c.orders.queue { commands = cs } } }

later_back : (c : Start) (o : Command) (os ds : List Command)
    → IsSound (record { ids = c.orders.queue.ids; commands = (o ∷ os) ++ ds }) → Each IsSpeltCommand ds
    → with_lines (with_commands c (o ∷ os)) (map (λ d. line_with (codes "command") (command_fields d)) ds)
    ≡ Ok (with_commands c ((o ∷ os) ++ ds))
unfolding with_lines
later_back c o os [] s each = ap (λ cs. Ok (with_commands c cs)) (sym (append-nil (o ∷ os)))
later_back c o os (d ∷ ds) s each =
    let now = with_commands c (o ∷ os) in
    let more = with_commands c ((o ∷ os) ++ d ∷ []) in
    let same : ((o ∷ os) ++ d ∷ []) ++ ds ≡ (o ∷ os) ++ d ∷ ds = append_assoc (o ∷ os) (d ∷ []) ds in
    let read : with_line now (line_with (codes "command") (command_fields d)) ≡ Ok more =
    command_back now d each.0 ∙ taken now false d refl (follows c.orders.queue.ids (o ∷ os) d ds s) in
    next now more (line_with (codes "command") (command_fields d)) (map (λ e. line_with (codes "command") (command_fields e)) ds) read
    ∙ later_back c o (os ++ d ∷ []) ds (subst (λ cs. IsSound (record { ids = c.orders.queue.ids; commands = cs })) (sym same) s) each.1
    ∙ ap (λ cs. Ok (with_commands c cs)) same

-- ---- all

abbrev with_orders : Start → Window → List Command → Start
with_orders c w cs = record c { orders = record c.orders { queue = record c.orders.queue { commands = cs }; window = w } }

pub commands_back : (c : Start) (w : Window) (cs : List Command) → IsSound (record { ids = c.orders.queue.ids; commands = cs })
    → AgreesWith w cs → Each IsSpeltCommand cs
    → with_lines (with_orders c Idle []) (commands_lines w cs) ≡ Ok (with_orders c w cs)
unfolding with_lines
commands_back c Idle [] s agrees each = refl
commands_back c (Waiting id) [] s agrees each = absurd agrees
commands_back c Idle (o ∷ ds) s agrees each =
    let now = with_orders c Idle [] in
    let more = with_orders c Idle (o ∷ []) in
    let read : with_line now (line_with (codes "command") (command_fields o)) ≡ Ok more =
    command_back now o each.0 ∙ taken now false o (lt-ltb o.tries 3 agrees) (follows c.orders.queue.ids [] o ds s) in
    next now more (line_with (codes "command") (command_fields o)) (map (λ e. line_with (codes "command") (command_fields e)) ds) read
    ∙ later_back more o [] ds s each.1
commands_back c (Waiting id) (o ∷ ds) s agrees each =
    let now = with_orders c Idle [] in
    let more = with_orders c (Waiting o.id) (o ∷ []) in
    let read : with_line now (line_with (codes "waits") (command_fields o)) ≡ Ok more =
    waits_back now o each.0 ∙ taken now true o (le-leb 1 o.tries agrees.1) (follows c.orders.queue.ids [] o ds s) in
    next now more (line_with (codes "waits") (command_fields o)) (map (λ e. line_with (codes "command") (command_fields e)) ds) read
    ∙ later_back more o [] ds s each.1
    ∙ ap (λ n. Ok (with_orders c (Waiting n) (o ∷ ds))) agrees.0
