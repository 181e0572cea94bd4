-- The meaning of a formula's automaton: after a non-empty trace its state accepts exactly when the trace satisfies the formula;
-- so does bit 0 of the trace's valuation, and a formula without temporal operators takes its value from the letter alone.
-- Assumes nothing.
use Prim.Native.Nat.{ℕ, ◌+◌}
use mathlib.Core.Path.{◌≡◌, refl, ◌∙◌}
use mathlib.Core.Bool.{true, false}
use mathlib.Core.List.{List, [], ◌∷◌}
use mathlib.Core.Logic.{◌↔◌}
use native.Mathlib.Nat.{zero-lt-suc}
use native.Mathlib.Omega.{arith}
use lib.Dec.{T}
use lib.ListN.{length}
use Rattle.machine.specs.Letters.{Letter, Trace}
use Rattle.machine.specs.Run.{run}
use Rattle.machine.proofs.AutomatonLaws.{Recognizes}
use Rattle.reader.specs.Formula.{Formula, constant, name, unary, neg, next, weak, eventually, always, binary, until, release, conj, disj, impl, operators}
use Rattle.automaton.specs.Bits.{bit}
use Rattle.automaton.specs.Trace.{Satisfies}
use Rattle.automaton.specs.Valuation.{value, coords, ends, vectors, present, end_vector}
use Rattle.automaton.specs.State.{start, after, accepts, machine_of}
use Rattle.automaton.specs.inner.Fold.{valuation}
use Rattle.automaton.proofs.BitLaws.{bit_of_bits, bit_gather}
use Rattle.automaton.proofs.StepLaws.{by_test, by_true}
use Rattle.automaton.proofs.ValuationLaws.{Right, value_holds, valuation_lt, valuation_right}

-- coordinate 0 of the present position is the formula's value
present_zero : (φ : Formula) (a v : ℕ) → bit (present φ a v) 0 ≡ value φ 1 a v
unfolding present
present_zero φ a v = bit_gather (value φ 1 a v ∷ coords φ 1 a v) 0 (zero-lt-suc (length (coords φ 1 a v)))

end_zero : (φ : Formula) → bit (end_vector φ) 0 ≡ false
unfolding end_vector
end_zero φ = bit_gather (false ∷ ends φ) 0 (zero-lt-suc (length (ends φ)))

-- coordinate 0 of a trace's valuation says whether the trace satisfies the formula
valuation_decides : (φ : Formula) (w : List ℕ) → T (bit (valuation φ w) 0) ↔ Satisfies φ w
unfolding Satisfies valuation
valuation_decides φ [] = by_test (end_zero φ) (λ t. t, λ x. x)
valuation_decides φ (a ∷ w) =
    let v = valuation φ w in
    by_test (present_zero φ a v) (value_holds (a ∷ w) 0 (zero-lt-suc (length w)) v φ 1 (valuation_right φ (a ∷ w) (length w) 1 (omega arith)))

-- for the trial call
pub valuation_satisfies : (φ : Formula) (w : List ℕ) → (bit (valuation φ w) 0 ≡ true) ↔ Satisfies φ w
valuation_satisfies φ w = by_true (valuation_decides φ w)

-- after a trace the state holds the end valuation exactly when the state before held the trace's valuation
run_valuation : (φ : Formula) (w : Trace) (s : ℕ) → accepts φ (run (after φ) s w) ≡ bit s (valuation φ w)
unfolding run valuation accepts after
run_valuation φ [] s = refl
run_valuation φ (a ∷ w) s = run_valuation φ w (after φ s a) ∙ bit_of_bits (λ v. bit s (present φ a v)) (vectors φ) (valuation φ w) (valuation_lt φ w)

-- demand 2's claim, for the automaton as the specification defines it
pub run_accepts : (φ : Formula) (a : Letter) (w : Trace) → T (accepts φ (run (after φ) (start φ) (a ∷ w))) ↔ Satisfies φ (a ∷ w)
unfolding start
run_accepts φ a w =
    by_test
    (run_valuation φ (a ∷ w) (start φ) ∙ bit_of_bits (λ u. bit u 0) (vectors φ) (valuation φ (a ∷ w)) (valuation_lt φ (a ∷ w)))
    (valuation_decides φ (a ∷ w))

-- so the formula's machine recognizes the traces that satisfy the formula
pub formula_recognizes : (φ : Formula) (L : ℕ) → Recognizes (machine_of φ) L (Satisfies φ)
formula_recognizes φ L a w h = by_true (run_accepts φ a w)

-- ---- formulas without temporal operators

-- whatever the valuations mean, they are right for such a formula
module _ (w : List ℕ) (p v : ℕ) where
  pub static_right : (φ : Formula) (k : ℕ) → operators φ ≡ 0 → Right w p φ k v
  unfolding Right operators
  static_right (constant b) k e = tt
  static_right (name n) k e = tt
  static_right (unary neg φ) k e = static_right φ k e
  static_right (unary next φ) k e = absurd (let z : ⊥ = omega arith in z)
  static_right (unary weak φ) k e = absurd (let z : ⊥ = omega arith in z)
  static_right (unary eventually φ) k e = absurd (let z : ⊥ = omega arith in z)
  static_right (unary always φ) k e = absurd (let z : ⊥ = omega arith in z)
  static_right (binary until φ ψ) k e = absurd (let z : ⊥ = omega arith in z)
  static_right (binary release φ ψ) k e = absurd (let z : ⊥ = omega arith in z)
  static_right (binary conj φ ψ) k e = (static_right φ k (omega arith), static_right ψ (k + operators φ) (omega arith))
  static_right (binary disj φ ψ) k e = (static_right φ k (omega arith), static_right ψ (k + operators φ) (omega arith))
  static_right (binary impl φ ψ) k e = (static_right φ k (omega arith), static_right ψ (k + operators φ) (omega arith))

-- for conditions
pub value_satisfies : (κ : Formula) (x v : ℕ) → operators κ ≡ 0 → (value κ 1 x v ≡ true) ↔ Satisfies κ (x ∷ [])
unfolding Satisfies
value_satisfies κ x v e = by_true (value_holds (x ∷ []) 0 (zero-lt-suc 0) v κ 1 (static_right (x ∷ []) 1 v κ 1 e))
