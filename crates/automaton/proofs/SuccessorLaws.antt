-- The state after a letter (specs/State.antt), read off the table of valuations (specs/inner/Representation.antt).
-- Assumes nothing.
use Prim.Native.Nat.{ℕ, suc, ◌+◌, ◌*◌, ◌/◌, ◌%◌, ◌^◌, ◌≤◌, ◌<◌}
use mathlib.Core.Path.{◌≡◌, ap, ◌∙◌}
use mathlib.Core.Bool.{Bool}
use mathlib.Core.List.{List}
use native.Mathlib.Nat.{mod-eq_of_lt, pow-suc}
use native.Mathlib.Omega.{arith}
use lib.ListN.{get_or}
use Rattle.reader.specs.Formula.{Formula, operators}
use Rattle.automaton.specs.inner.Sizes.{vector_limit, pair_limit}
use Rattle.automaton.specs.Bits.{bit, of_bits}
use Rattle.automaton.specs.Valuation.{present, vectors}
use Rattle.automaton.specs.State.{after}
use Rattle.automaton.specs.inner.Representation.{Tabulates}
use Rattle.automaton.proofs.BitLaws.{of_bits_ext}
use Rattle.automaton.proofs.ValuationLaws.{present_lt}
use Rattle.automaton.proofs.PairLaws.{present_even}

-- whether a state holds the valuation that the table has for a letter and k
abbrev pub held : List ℕ → ℕ → ℕ → ℕ → Bool
held table a state k = bit state (get_or table (a * pair_limit + k) 0 % vector_limit)

-- those 2 * k and 2 * k + 1 are the next state, if the table is the formula's
pub held_after : (φ : Formula) (L : ℕ) (table : List ℕ) (a n state : ℕ) → Tabulates φ L table → a < L → n ≤ vector_limit → n ≡ 2 ^ suc (operators φ)
    → of_bits (λ v. held table a state (v / 2)) (2 * (n / 2)) ≡ after φ state a
unfolding Tabulates after vectors
held_after φ L table a n state t h few e =
    let even : 2 * (n / 2) ≡ n = omega (arith, pow-suc 2 (operators φ)) in
    ap (of_bits (λ v. held table a state (v / 2))) even
    ∙ of_bits_ext (λ v. held table a state (v / 2)) (λ v. bit state (present φ a v)) n
    (λ v l.
    let q : get_or table (a * pair_limit + v / 2) 0 ≡ present φ a (2 * (v / 2)) = t a (v / 2) h (omega arith) in
    let p : present φ a (2 * (v / 2)) < 2 ^ suc (operators φ) = present_lt φ a (2 * (v / 2)) in
    ap (bit state) (mod-eq_of_lt (omega arith) ∙ q ∙ present_even φ a v))
    ∙ ap (of_bits (λ v. bit state (present φ a v))) e
