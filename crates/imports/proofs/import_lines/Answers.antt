-- `imports::import_lines` meets its contract.
use Rattle.imports.proofs.ImportLaws.{import_start, import_again, import_less, import_stop, import_end}
use Rattle.imports.proofs.import_lines.Goals as goal

pub loop-at-init : goal.loop-at-init
loop-at-init c = search import_start

pub returns-in-Err : goal.returns-in-Err
returns-in-Err c = search (import_stop, c.in-Err.ensures)

pub loop-at-smaller : goal.loop-at-smaller
loop-at-smaller c = search (import_less, c.in-Ok.ensures)

pub loop-at-preserved : goal.loop-at-preserved
loop-at-preserved c = search (import_again, c.in-Ok.ensures)

pub returns : goal.returns
returns c = search import_end
