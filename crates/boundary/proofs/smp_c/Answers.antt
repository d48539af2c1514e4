-- `boundary::smp_c` meets its contract.
use Rattle.boundary.proofs.CLaws.{count_fits, smp_wide, smp_fits}
use Rattle.boundary.proofs.smp_c.Goals as goal

pub returns-then-not-all_fit : goal.returns-then-not-all_fit
returns-then-not-all_fit c = search smp_wide

pub overflow_cast-changes : goal.overflow_cast-changes
overflow_cast-changes c = search count_fits

pub returns : goal.returns
returns c = search smp_fits
