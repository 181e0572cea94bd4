-- `automaton::evaluate::has_name` meets its contract: a letter has no bit beyond its word. Assumes nothing.
use Rattle.std.proofs.Common.{sym, ◌∙◌}
use borrow.Author.Tests.{le-ltb}
use Rattle.automaton.specs.inner.Sizes.{word_bits}
use Rattle.automaton.proofs.BitLaws.{bit_high}
use Rattle.automaton.proofs.evaluate.has_name.Goals as goal

pub returns-else-argument-lt-WORD_BITS : goal.returns-else-argument-lt-WORD_BITS
returns-else-argument-lt-WORD_BITS c =
    le-ltb c.args.argument word_bits c.if-argument-lt-WORD_BITS.false
    ∙ sym (bit_high c.args.letter word_bits c.args.argument c.ranges.letter.fits c.if-argument-lt-WORD_BITS.false)
