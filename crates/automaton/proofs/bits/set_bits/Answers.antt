-- `automaton::bits::set_bits` meets its contract. Assumes nothing.
use Rattle.automaton.proofs.BitLaws.{set_shifted}
use Rattle.automaton.proofs.bits.set_bits.Goals as goal

pub returns : goal.returns
returns c = set_shifted c.args.x c.args.k c.args.bits c.requires.1 c.requires.2
