use Rattle.std.proofs.Common.{sym, ap}
use Rattle.receivers.specs.Counting.{with_class}
use Rattle.steps_main.proofs.Counted.{one_more}
use Rattle.steps_main.proofs.counting.counted.Goals as goal

pub returns-in-Own : goal.returns-in-Own
returns-in-Own c =
    one_more c.args.counts c.args.class (λ all its. record c.args.counts { lines = all; own = its }) _ _ _
    (ap (with_class c.args.counts) (sym c.in-Own.is)) c.one_more.ensures c.one_more-in-Own.ensures (λ few. few.own)

pub returns-in-Strange : goal.returns-in-Strange
returns-in-Strange c =
    one_more c.args.counts c.args.class (λ all its. record c.args.counts { lines = all; strangers = its }) _ _ _
    (ap (with_class c.args.counts) (sym c.in-Strange.is)) c.one_more.ensures c.one_more-in-Strange.ensures (λ few. few.strangers)

pub returns-in-Unframed : goal.returns-in-Unframed
returns-in-Unframed c =
    one_more c.args.counts c.args.class (λ all its. record c.args.counts { lines = all; unframed = its }) _ _ _
    (ap (with_class c.args.counts) (sym c.in-Unframed.is)) c.one_more.ensures c.one_more-in-Unframed.ensures (λ few. few.unframed)

pub returns-in-Bad : goal.returns-in-Bad
returns-in-Bad c =
    one_more c.args.counts c.args.class (λ all its. record c.args.counts { lines = all; bad = its }) _ _ _
    (ap (with_class c.args.counts) (sym c.in-Bad.is)) c.one_more.ensures c.one_more-in-Bad.ensures (λ few. few.bad)
