-- Request 07's sentences, each by computation.
-- Assumes nothing.
use mathlib.Core.Path.{refl}
use Rattle.wire.specs.Bits.{bit, set_bit, tab}
use Rattle.wire.specs.Groups.{outside_group}
use Rattle.permit.specs.Permission.{place, P, reaches, set_P, set_both, start_byte, start_table}
use Rattle.permit.specs.Orders.{apply}
use Rattle.tables.specs.Outcome.{outcome}
use Rattle.tables.specs.Phys.{phys_sized}
use Rattle.tables.specs.Arrival.{arrival_checks}
use Rattle.tables.specs.Refusals.{first_refusal}
use Rattle.requests.specs.Requests.{smp_source}
use Rattle.lines.specs.Text.{digits}
use Rattle.rack.specs.Rack.{rack, flat, rack_table}
use Rattle.sheet_lines.specs.Line.{numeral, line_text, is_figure, figures, number, before_comma, before_lf, before_end, switch, line_of}
use Rattle.imports.specs.Import.{unless_stopped, obeyed, import_lines}
use Rattle.wire.specs.Runs.{texts}
use Rattle.exports.specs.Export.{pair_text, row_text, sheet_text}
use Rattle.sheets.specs.Cases.{Cases, sends}

pub cases : Cases
unfolding bit set_bit tab outside_group place P reaches set_P set_both start_byte start_table apply outcome phys_sized arrival_checks first_refusal smp_source digits rack flat rack_table numeral line_text is_figure figures number before_comma before_lf before_end switch line_of unless_stopped obeyed import_lines texts pair_text row_text sheet_text sends
cases = (refl, refl, refl, refl, refl, refl, refl, refl, refl, refl, refl, refl, refl, refl, refl, refl, refl, refl, refl, refl, refl, refl, refl, refl, refl, refl, refl, refl)
