-- `bench_text::run_events` meets its contract: what is run so far and what is left to run are the whole run.
use lib.ListN.{length-take, length-drop}
use Rattle.std.proofs.Common.{arith, rules}
use Rattle.bench_text.proofs.RunLaws.{going_start, next_at, going_again, going_end}
use Rattle.bench_text.proofs.run_events.Goals as goal

pub loop-n-init : goal.loop-n-init
loop-n-init c = search going_start

pub put_event-used-requires : goal.put_event-used-requires
put_event-used-requires c =
    let l = c.loop-n in
    let e = c.in-Some.ensures in
    let x = next_at c.args.window.now l.text l.at l.used c.in-Some.n e.0 e.1 in
    let fits = x.fits in
    let least = x.least in
    let there = x.there in
    (simp (length-take, length-drop) (omega (arith, length-drop l.at c.args.window.now)), omega arith)

pub loop-n-preserved : goal.loop-n-preserved
loop-n-preserved c = going_again _ _ _ _ _ _ _ _ _ _ _ _ _ _ _ _ c.in-Some.ensures c.put_event-used.ensures (search rules) (search rules) (search rules) c.loop-n.invariant

pub returns : goal.returns
returns c = going_end _ _ _ _ _ _ _ _ _ _ _ c.in_default.ensures c.loop-n.invariant
