-- `smp::check_smp` meets its contract.
use Rattle.wire.proofs.GroupLaws.{taken_group, taken_none}
use Rattle.tables.proofs.RefusalLaws.{rows}
use Rattle.tables.proofs.ArrivalLaws.{arrival_there, arrival_refused, arrival_back}
use Rattle.rules.proofs.RuleLaws.{passes, stays_within}
use Rattle.smp.proofs.SmpLaws.{smp_table}
use native.Mathlib.Omega.{arith}
use Rattle.smp.proofs.check_smp.Goals as goal

pub returns-in_err-check_arrival : goal.returns-in_err-check_arrival
returns-in_err-check_arrival c = λ changes. arrival_refused _ _ _ _ _ _ c.permissions_sized-sizes.ensures _ _ _ c.from_residual.ensures.1 c.in_err-check_arrival.ensures

pub returns-then-request-lt4 : goal.returns-then-request-lt4
returns-then-request-lt4 c = search (arrival_back, c.in_ok-check_arrival.ensures, rows) depth 16

pub returns-then-request-ne64 : goal.returns-then-request-ne64
returns-then-request-ne64 c = search (arrival_back, c.in_ok-check_arrival.ensures, rows) depth 16

pub smp_source-requires : goal.smp_source-requires
smp_source-requires c = search (arrival_there, c.in_ok-check_arrival.ensures)

pub returns-in_default : goal.returns-in_default
returns-in_default c = search (arrival_back, c.in_ok-check_arrival.ensures, rows, taken_none) depth 16

pub too_long-requires : goal.too_long-requires
too_long-requires c = (search (arrival_there, c.in_ok-check_arrival.ensures), search (smp_table, c.in_ok-check_arrival.ensures), omega arith)

pub returns-then-too_long : goal.returns-then-too_long
returns-then-too_long c = λ changes. search (arrival_back, c.in_ok-check_arrival.ensures, rows, taken_group, passes) depth 16

pub returns : goal.returns
returns c = λ changes. search (arrival_back, c.in_ok-check_arrival.ensures, rows, taken_group, stays_within) depth 16
