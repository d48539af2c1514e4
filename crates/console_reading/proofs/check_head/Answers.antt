-- `console_reading::check_head` meets its contract.
use Rattle.tables.proofs.RefusalLaws.{rows}
use Rattle.console_reading.proofs.ReadLaws.{then_length, length-rows, length_short}
use Rattle.console_reading.proofs.check_head.Goals as goal

pub returns-then-response-lt4 : goal.returns-then-response-lt4
returns-then-response-lt4 c = search rows depth 16

pub returns-then-response-ne65 : goal.returns-then-response-ne65
returns-then-response-ne65 c = search rows depth 16

pub returns-then-not-is_possible : goal.returns-then-not-is_possible
returns-then-not-is_possible c = search rows depth 16

pub returns-then-is_report : goal.returns-then-is_report
returns-then-is_report c = search (then_length, length-rows) depth 16

pub returns : goal.returns
returns c = search (then_length, length_short) depth 16
