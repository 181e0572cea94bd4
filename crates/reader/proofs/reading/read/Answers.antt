-- `reader::reading::read` meets its contract: the answer is that of `check`, and where it is good the reading functions write the nodes. Assumes nothing.
use Rattle.std.proofs.Common.{rules}
use Rattle.reader.proofs.ReadingLaws.{ready, written}
use Rattle.reader.proofs.reading.read.Goals as goal

pub read-requires-clause-readable : goal.read-requires-clause-readable
read-requires-clause-readable c =
    ready c.args.vocabulary.inputs c.args.vocabulary.outputs c.args.vocabulary.temporal c.args.text.now _ c.new.ensures _ _ c.in_ok-n.ensures (search rules)

pub returns : goal.returns
returns c =
    record {
      reading = c.in_ok-n.ensures;
      nodes = written c.args.vocabulary.inputs c.args.vocabulary.outputs c.args.vocabulary.temporal c.args.text.now _ c.new.ensures _ _ _ _ c.read.ensures;
    }
