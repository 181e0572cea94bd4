-- `automaton::coordinates::start_word` meets its contract. Assumes nothing.
use Prim.Native.Nat.{ℕ, ◌/◌, ◌%◌, ◌≤◌, ◌<◌}
use native.Mathlib.Omega.{arith}
use mathlib.Core.Path.{◌≡◌, ap, ap₂, ◌∙◌}
use Rattle.automaton.specs.Bits.{bit, of_bits}
use Rattle.automaton.specs.inner.Sizes.{vector_limit, word_bits}
use Rattle.automaton.proofs.BitLaws.{of_bits_mod, bit_shifted}
use Rattle.automaton.proofs.coordinates.start_word.Goals as goal

-- the quotient is 0
first_word : (n : ℕ) → n ≤ vector_limit → of_bits (λ v. bit v (n / vector_limit / 2)) vector_limit ≡ of_bits (λ v. bit v 0) vector_limit
first_word n h = let e : n / vector_limit / 2 ≡ 0 = omega arith in ap (λ (j : ℕ). of_bits (λ v. bit v j) vector_limit) e

pub returns-then-vectors-lt-VECTORS : goal.returns-then-vectors-lt-VECTORS
returns-then-vectors-lt-VECTORS c =
    let h : c.args.vectors < word_bits = omega (arith, c.if-vectors-lt-VECTORS.true) in
    ap₂ (λ (x y : ℕ). x % y) (c.coordinate-all.ensures ∙ first_word c.args.vectors (omega arith)) (bit_shifted c.args.vectors h)
    ∙ of_bits_mod (λ v. bit v 0) vector_limit c.args.vectors (omega arith)
