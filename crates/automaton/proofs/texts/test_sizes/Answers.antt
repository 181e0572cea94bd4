-- `automaton::texts::test_sizes` meets its contract: each return is what the tests before it decided. Assumes nothing.
use mathlib.Core.Path.{sym, ◌∙◌}
use Rattle.automaton.proofs.TextLaws.{by_alphabet, by_length}
use Rattle.automaton.proofs.texts.test_sizes.Goals as goal

pub returns-then-bad_alphabet : goal.returns-then-bad_alphabet
returns-then-bad_alphabet c s = by_alphabet s c.args.i c.args.o c.args.text.now (sym c.bad_alphabet.ensures ∙ c.if-bad_alphabet.true)

pub returns-then-too_long : goal.returns-then-too_long
returns-then-too_long c s =
    by_length s c.args.i c.args.o c.args.text.now (sym c.bad_alphabet.ensures ∙ c.if-bad_alphabet.false) (sym c.too_long.ensures ∙ c.if-too_long.true)
