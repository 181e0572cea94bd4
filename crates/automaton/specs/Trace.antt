-- The meaning of LTLf (specification, "Meaning"): a formula at a position of a finite trace, which the specification calls a list of letters.
-- A name is the number of its bit in a letter. Assumes nothing.
use Rattle.std.specs.Prelude.{ℕ, suc, ◌≤◌, ◌<◌, [], ◌∷◌, ◌⊎◌, T, length, get_or}
use Rattle.machine.specs.Letters.{Trace}
use Rattle.reader.specs.Formula.{Formula, constant, name, unary, neg, next, weak, eventually, always, binary, until, release, conj, disj, impl}
use Rattle.automaton.specs.Bits.{bit}

-- at some position q from p on and below the length n Q holds, and at each position from p up to q, q itself left out, P holds
abbrev pub Until : (P Q : ℕ → Type 0) (n p : ℕ) → Type 0
Until P Q n p = (q : ℕ) × (p ≤ q) × (q < n) × Q q × ((r : ℕ) → p ≤ r → r < q → P r)

-- the formula holds at position p of the trace w. R is the dual of U, F is U with true on its left, and G the dual of F
unfoldable pub Holds : Formula → (w : Trace) (p : ℕ) → Type 0
Holds (constant b) w p = T b
Holds (name k) w p = T (bit (get_or w p 0) k)
Holds (unary neg φ) w p = Holds φ w p → ⊥
Holds (unary next φ) w p = (suc p < length w) × Holds φ w (suc p)
Holds (unary weak φ) w p = (length w ≤ suc p) ⊎ Holds φ w (suc p)
Holds (unary eventually φ) w p = Until (λ q. Unit {0}) (Holds φ w) (length w) p
Holds (unary always φ) w p = Until (λ q. Unit {0}) (λ q. Holds φ w q → ⊥) (length w) p → ⊥
Holds (binary until φ ψ) w p = Until (Holds φ w) (Holds ψ w) (length w) p
Holds (binary release φ ψ) w p = Until (λ q. Holds φ w q → ⊥) (λ q. Holds ψ w q → ⊥) (length w) p → ⊥
Holds (binary conj φ ψ) w p = Holds φ w p × Holds ψ w p
Holds (binary disj φ ψ) w p = Holds φ w p ⊎ Holds ψ w p
Holds (binary impl φ ψ) w p = Holds φ w p → Holds ψ w p

-- a trace satisfies a formula if the formula holds at its first position; the empty trace satisfies none
unfoldable pub Satisfies : Formula → Trace → Type 0
unfolding Holds
Satisfies φ [] = ⊥
Satisfies φ (a ∷ w) = Holds φ (a ∷ w) 0
