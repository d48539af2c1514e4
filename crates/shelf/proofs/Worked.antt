-- Cases 1 to 12, DISCOVER, and that later rows and descriptors are handled too, each by computation.
-- Assumes nothing.
use mathlib.Core.Path.{refl}
use Rattle.wire.specs.Address.{big_endian, address_at}
use Rattle.wire.specs.Groups.{outside_group}
use Rattle.wire.specs.Bits.{bit, set_bit, tab}
use Rattle.wire.specs.PhySet.{member, bits_of, set_byte, set_of, tally, phys_in, some}
use Rattle.permit.specs.Orders.{apply, row_orders, batch_orders, rows_end}
use Rattle.permit.specs.Permission.{place, P, reaches, set_P, set_both, start_byte, start_table}
use Rattle.tables.specs.Outcome.{outcome}
use Rattle.tables.specs.Phys.{phys_sized, ready_set, empty_set, zoned}
use Rattle.tables.specs.Ports.{same_port}
use Rattle.tables.specs.Routes.{routes_sized}
use Rattle.tables.specs.Arrival.{arrival_checks}
use Rattle.tables.specs.Refusals.{first_refusal}
use Rattle.links.specs.Links.{identified}
use Rattle.opens.specs.Open.{open_source, judge, byte20, sent}
use Rattle.searches.specs.Search.{same_bytes, zero_bytes, find_phy, find_route, search}
use Rattle.told_set.specs.ToldSet.{permitted, permitted_in_port, told, told_set}
use Rattle.broadcasts.specs.Broadcasts.{frame_byte, frame_of, typed_length}
use Rattle.requests.specs.Requests.{smp_source, right, replied}
use Rattle.phy_zone.specs.PhyZone.{sound, all_sound, configured, phy_zone_reply}
use Rattle.zone_permission.specs.ZonePermission.{operation_checks, orders_of, permission_reply}
use Rattle.zone_report.specs.ZoneReport.{row_count, rows, report_reply}
use Rattle.shown_rows.specs.ShownRows.{shown_byte, shown_rows}
use Rattle.discover.specs.Discover.{length_said, reaches_phy, shown, byte_at, description, discover_reply}
use Rattle.rules.specs.Rules.{smp_reply, length_field}
use Rattle.rack.specs.Rack.{rack, flat, rack_table}
use Rattle.shelf.specs.Cases.{Cases, LaterToo, asks, fresh, single89, after1, opens2, changes2, phy_zone, batch, rows89, discover, one_way, visitor, visits}

pub cases : Cases × LaterToo
unfolding big_endian address_at outside_group bit set_bit tab member bits_of set_byte set_of tally phys_in apply row_orders batch_orders rows_end place P reaches shown_byte shown_rows set_P set_both start_byte start_table outcome phys_sized routes_sized arrival_checks ready_set empty_set zoned first_refusal open_source judge byte20 sent same_bytes zero_bytes find_phy find_route search same_port some permitted permitted_in_port told told_set frame_byte frame_of typed_length smp_source right replied sound all_sound configured phy_zone_reply operation_checks orders_of permission_reply row_count rows report_reply length_said reaches_phy shown byte_at description discover_reply identified smp_reply length_field rack flat rack_table asks fresh single89 after1 opens2 changes2 phy_zone batch rows89 discover one_way visitor visits
cases = (
  (refl, (refl, refl), refl, refl, refl, refl, refl, refl, refl, refl, refl, refl, refl, refl, (refl, refl), refl, refl, refl, refl, refl, refl, refl, refl, refl, (refl, refl), refl, refl, refl),
  (refl, refl),
)
