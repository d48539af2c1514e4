-- `wire::copy` meets its contract: the first k bytes are copied.
use Rattle.wire.proofs.Copies.{Pasted}
use Rattle.wire.proofs.copy.Given as goal

abbrev pub invariant-loop-k : goal.invariant-loop-k
invariant-loop-k l = Pasted l.initial.target l.at l.source l.from l.n l.target l.k
