-- `automaton::coordinates::coordinate` meets its contract: below the limit the formula is the word, and from there on no valuation has the coordinate. Assumes nothing.
use mathlib.Core.Path.{sym, ap, ◌∙◌}
use Prim.Native.Nat.{ℕ, ◌+◌, ◌*◌, ◌/◌, ◌^◌, ◌≤◌}
use native.Mathlib.Omega.{arith}
use lib.Pow.{pow_mono}
use borrow.Author.Rules.{rules}
use Rattle.reader.specs.Limits.{operator_limit}
use Rattle.automaton.specs.inner.Sizes.{coordinate_limit}
use Rattle.automaton.specs.inner.Evaluation.{all_valuations}
use Rattle.automaton.proofs.BitLaws.{no_coordinate}
use Rattle.automaton.proofs.CoordinateWordLaws.{coordinate_formula, shifted_few, shifted_twice}
use Rattle.automaton.proofs.coordinates.coordinate.Goals as goal

pub overflow_shl-p-then-j-lt-COORDINATE_LIMIT : goal.overflow_shl-p-then-j-lt-COORDINATE_LIMIT
overflow_shl-p-then-j-lt-COORDINATE_LIMIT c =
    shifted_few c.args.j c.if-j-lt-COORDINATE_LIMIT.true

pub overflow_add-result : goal.overflow_add-result
overflow_add-result c =
    let h : 2 ^ (2 ^ c.args.j) ≤ 2 ^ (2 ^ operator_limit) = pow_mono (pow_mono {i = c.args.j} {j = operator_limit} (omega (arith, c.if-j-lt-COORDINATE_LIMIT.true))) in
    let e = shifted_twice c.args.j c.if-j-lt-COORDINATE_LIMIT.true in
    search rules

pub returns-then-j-lt-COORDINATE_LIMIT : goal.returns-then-j-lt-COORDINATE_LIMIT
returns-then-j-lt-COORDINATE_LIMIT c =
    ap (λ (p : ℕ). p * (all_valuations / (p + 1))) (shifted_twice c.args.j c.if-j-lt-COORDINATE_LIMIT.true) ∙ coordinate_formula c.args.j coordinate_limit c.if-j-lt-COORDINATE_LIMIT.true

pub returns-else-j-lt-COORDINATE_LIMIT : goal.returns-else-j-lt-COORDINATE_LIMIT
returns-else-j-lt-COORDINATE_LIMIT c =
    sym (no_coordinate c.args.j c.if-j-lt-COORDINATE_LIMIT.false)
