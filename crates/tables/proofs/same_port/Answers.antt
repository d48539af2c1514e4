-- `tables::same_port` meets its contract.
use mathlib.Core.Path.{sym, ◌∙◌}
use borrow.Author.Tests.{eqb-true, eqb-false}
use Rattle.tables.proofs.PortLaws.{port_same, port_other}
use Rattle.tables.proofs.same_port.Goals as goal

pub returns-then-eq : goal.returns-then-eq
returns-then-eq c = let e = eqb-true _ _ (sym c.eq.ensures ∙ c.if-eq.true) in search port_same

pub returns : goal.returns
returns c = let n = eqb-false _ _ (sym c.eq.ensures ∙ c.if-eq.false) in search port_other
