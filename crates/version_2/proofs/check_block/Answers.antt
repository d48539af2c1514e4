-- `version_2::check_block` meets its contract.
use Rattle.version_2.proofs.WholeLoads.{measured_holds, count_off, pair_off, phy_off, zone_off, block_taken}
use borrow.Author.Rules.{rules}
use Rattle.version_2.proofs.check_block.Goals as goal

pub returns-then-phys_of-count : goal.returns-then-phys_of-count
returns-then-phys_of-count c = search count_off

pub are_pairs_ascending-requires : goal.are_pairs_ascending-requires
are_pairs_ascending-requires c = search (rules, measured_holds)

pub returns-then-not-are_pairs_ascending : goal.returns-then-not-are_pairs_ascending
returns-then-not-are_pairs_ascending c = search pair_off

pub returns-then-not-is_block_numbered : goal.returns-then-not-is_block_numbered
returns-then-not-is_block_numbered c = search phy_off

pub returns-then-not-is_block_writable : goal.returns-then-not-is_block_writable
returns-then-not-is_block_writable c = search zone_off

pub returns : goal.returns
returns c = search block_taken
