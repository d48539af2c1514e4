-- `smp::smp_at` meets its contract.
use borrow.Author.Rules.{rules}
use Rattle.tables.proofs.OutcomeLaws.{refuses}
use Rattle.rules.proofs.RuleLaws.{told_long}
use Rattle.smp.proofs.SmpLaws.{smp_lent, smp_gives}
use Rattle.smp.proofs.smp_at.Goals as goal

pub returns-in_err-check_smp : goal.returns-in_err-check_smp
returns-in_err-check_smp c = refuses _ _ _ _ _ _ _ c.from_residual.ensures.1 (c.in_err-check_smp.ensures c.args.changes)

pub rule-ruled-requires : goal.rule-ruled-requires
rule-ruled-requires c = smp_lent _ _ _ _ _ _ _ _ c.in_ok-check_smp.ensures (search rules)

pub phys_in-requires : goal.phys_in-requires
phys_in-requires c = search told_long

pub returns : goal.returns
returns c = search (smp_gives, c.in_ok-check_smp.ensures)
