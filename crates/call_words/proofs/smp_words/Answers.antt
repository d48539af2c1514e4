-- `call_words::smp_words` meets its contract.
use Rattle.call_words.specs.Gives.{smp_gives}
use Rattle.call_words.proofs.SaidLaws.{gave_smp}
use Rattle.call_words.proofs.smp_words.Goals as goal

pub returns-in-Ok : goal.returns-in-Ok
unfolding smp_gives
returns-in-Ok c = gave_smp _ _ _ _ _ _ _ _ _ _ c.in-Ok.ensures (rw c.from.ensures at c.put_reply.ensures.0) c.put_reply.ensures.1

pub returns-in-Err : goal.returns-in-Err
unfolding smp_gives
returns-in-Err c = gave_smp _ _ _ _ _ _ _ _ _ _ c.in-Err.ensures c.refusal_words.ensures.0 c.refusal_words.ensures.1
