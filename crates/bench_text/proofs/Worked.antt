-- Cases 1 to 5 as one input give document 01's lines, by computation.
-- Assumes nothing.
use mathlib.Core.Path.{refl}
use Rattle.wire.specs.Address.{big_endian, address_at}
use Rattle.wire.specs.Groups.{outside_group}
use Rattle.wire.specs.Bits.{bit, set_bit, tab}
use Rattle.wire.specs.PhySet.{member, bits_of, set_byte, set_of, tally, phys_in, some}
use Rattle.permit.specs.Orders.{apply, row_orders, batch_orders}
use Rattle.permit.specs.Permission.{place, P, reaches, set_P, set_both, start_byte, start_table}
use Rattle.tables.specs.Outcome.{outcome}
use Rattle.tables.specs.Phys.{phys_sized, ready_set, empty_set}
use Rattle.tables.specs.Ports.{same_port}
use Rattle.tables.specs.Routes.{routes_sized}
use Rattle.tables.specs.Arrival.{arrival_checks}
use Rattle.tables.specs.Refusals.{first_refusal}
use Rattle.opens.specs.Open.{open_source, judge, byte20, sent}
use Rattle.searches.specs.Search.{same_bytes, zero_bytes, find_phy, find_route, search}
use Rattle.told_set.specs.ToldSet.{permitted, permitted_in_port, told, told_set}
use Rattle.broadcasts.specs.Broadcasts.{frame_byte, frame_of}
use Rattle.requests.specs.Requests.{smp_source, right, replied}
use Rattle.zone_permission.specs.ZonePermission.{operation_checks, orders_of, permission_reply}
use Rattle.rules.specs.Rules.{smp_reply, length_field}
use Rattle.rack.specs.Rack.{rack, flat, rack_table}
use Rattle.lines.specs.Text.{digits, decimal, line}
use Rattle.call_words.specs.Gives.{smp_gives, open_gives, primitive_gives}
use Rattle.events.specs.Events.{gives, event_gives, event_length}
use Rattle.bench_text.specs.Stream.{ending, lines_of, whole_text}
use Rattle.bench_text.specs.Cases.{five_cases, five_lines, Worked}

pub worked : Worked
unfolding big_endian address_at outside_group bit set_bit tab member bits_of set_byte set_of tally phys_in apply row_orders batch_orders place P reaches set_P set_both start_byte start_table outcome phys_sized routes_sized arrival_checks ready_set empty_set first_refusal open_source judge byte20 sent same_bytes zero_bytes find_phy find_route search same_port some permitted permitted_in_port told told_set frame_byte frame_of smp_source right replied operation_checks orders_of permission_reply smp_reply length_field rack flat rack_table digits decimal line smp_gives open_gives primitive_gives gives event_gives event_length ending lines_of whole_text five_cases five_lines
worked = (refl, refl)
