-- Request 08's sentences, each by computation, but for the file of document 01's shelf, which is by the law of records there and back.
-- Assumes nothing.
use mathlib.Core.Path.{◌≡◌, refl, ap}
use mathlib.Core.List.{List, [], ◌∷◌, ◌++◌}
use Prim.Native.Nat.{ℕ, ◌+◌, ◌/◌}
use native.Mathlib.Omega.{arith}
use lib.ListN.{length}
use Rattle.wire.specs.Address.{big_endian}
use Rattle.wire.specs.Bits.{bit, set_bit, tab}
use Rattle.wire.specs.Runs.{every, texts}
use Rattle.permit.specs.Permission.{place, P, set_P, set_both, start_byte, start_table}
use Rattle.permit.specs.Orders.{apply}
use Rattle.tables.specs.Outcome.{outcome}
use Rattle.tables.specs.Phys.{phys_sized, zoned}
use Rattle.tables.specs.Refusals.{first_refusal}
use Rattle.phy_zone.specs.PhyZone.{sound}
use Rattle.file_pairs.specs.Pairs.{pair_record, row_records, pairs_of, in_place, ascending, orders_of, loaded}
use Rattle.file_pairs.specs.Described.{fair, fair_row, described}
use Rattle.file_phys.specs.Block.{block_of, numbered, writable, entry_writable, all_writable, rezoned}
use Rattle.file_trailer.specs.Trailer.{trailer, version_of, count_of, offset_of, size_of, pairs_in}
use Rattle.version_1.specs.Version1.{file_of}
use Rattle.version_2.specs.Version2.{whole_file_of, phys_of, block_in, version_checks, load_whole_checks, phys_after}
use Rattle.files.specs.Cases.{Cases, some_table, one_phy, reads_one, reads_two}
use Rattle.files.proofs.PairTrips.{records_of_loaded}

document_file : file_of 16 (loaded 16 (8 ∷ 9 ∷ [])) ≡ 0x08 ∷ 0x09 ∷ 0x00 ∷ 0x01 ∷ 0x00 ∷ 0x01 ∷ 0x00 ∷ 0x00 ∷ 0x00 ∷ 0x00 ∷ 0x00 ∷ 0x00 ∷ 0x00 ∷ 0x0E ∷ []
unfolding file_of trailer
document_file =
    ap (λ (x : List ℕ). x ++ trailer 1 (length x / 2) 0 (length x + 12))
    (records_of_loaded 16 (record { some = omega arith; most = omega arith }) (8 ∷ 9 ∷ []) ((omega arith, omega arith, omega arith, omega arith), tt))

pub cases : Cases
unfolding big_endian bit set_bit tab every texts place P set_P set_both start_byte start_table apply outcome phys_sized zoned first_refusal sound pair_record row_records pairs_of in_place ascending orders_of loaded fair fair_row described block_of numbered writable entry_writable all_writable rezoned trailer version_of count_of offset_of size_of pairs_in file_of whole_file_of phys_of block_in version_checks load_whole_checks phys_after some_table one_phy reads_one reads_two
cases = (refl, refl, refl, refl, document_file, refl, refl, refl, refl, refl, refl, refl, refl, refl, refl, refl, refl, refl, refl, refl, refl, refl, refl, refl, refl, refl, refl, refl, refl, refl, refl, refl, refl, refl, refl, refl, refl, refl, refl, refl, refl, refl, refl, refl, refl)
