-- `imports::import_sheet_at` meets its contract.
use Rattle.tables.proofs.OutcomeLaws.{refuses}
use Rattle.imports.proofs.ImportLaws.{import_there, import_ready, import_spoken, import_gives}
use borrow.Author.Rules.{rules}
use Rattle.std.proofs.Common.{arith}
use Rattle.imports.proofs.import_sheet_at.Goals as goal

pub returns-in_err-check_import : goal.returns-in_err-check_import
returns-in_err-check_import c = refuses _ _ _ _ _ _ _ c.from_residual.ensures.1 c.in_err-check_import.ensures

pub smp_source-requires : goal.smp_source-requires
smp_source-requires c = import_there _ _ _ _ _ _ c.in_ok-check_import.ensures

pub returns-in_err-source : goal.returns-in_err-source
returns-in_err-source c = import_spoken _ _ _ _ _ _ c.in_ok-check_import.ensures _ c.smp_source.ensures (grind arith)

pub import_lines-requires : goal.import_lines-requires
import_lines-requires c = import_ready _ _ _ _ _ _ c.in_ok-check_import.ensures (search rules)

pub returns : goal.returns
returns c =
    import_gives _ _ _ _ _ _ _ _ _ _ _ c.in_ok-check_import.ensures c.smp_source.ensures (grind arith) c.import_lines.ensures
