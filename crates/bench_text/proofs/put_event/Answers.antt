-- `bench_text::put_event` meets its contract.
use Rattle.bench_text.proofs.RunLaws.{put_done}
use Rattle.bench_text.proofs.put_event.Goals as goal

pub returns : goal.returns
returns c = search put_done
