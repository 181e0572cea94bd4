-- `reader::reading::check` meets its contract: each answer follows from the length, from what the pass came to and from the two counts. Assumes nothing.
use Rattle.std.proofs.Common.{rules}
use Rattle.reader.proofs.ReadingLaws.{long_reading, bad_reading, many_nodes_reading, many_operators_reading, good_reading}
use Rattle.reader.proofs.reading.check.Goals as goal

pub returns-then-too_long : goal.returns-then-too_long
returns-then-too_long c = search (rules, long_reading)

pub returns-in-Err : goal.returns-in-Err
returns-in-Err c = search (rules, bad_reading)

pub returns-then-n-gt-NODE_LIMIT : goal.returns-then-n-gt-NODE_LIMIT
returns-then-n-gt-NODE_LIMIT c = search (rules, many_nodes_reading)

pub returns-then-operator_count-gt-OPERATOR_LIMIT : goal.returns-then-operator_count-gt-OPERATOR_LIMIT
returns-then-operator_count-gt-OPERATOR_LIMIT c = search (rules, many_operators_reading)

pub returns : goal.returns
returns c = search (rules, good_reading)
