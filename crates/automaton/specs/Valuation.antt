-- Valuations of the temporal subformulas, which the specification calls vectors ("Automaton"), and how a letter makes one from the next position's.
-- Coordinate 0 is the whole formula; a subformula's own operators have the coordinates from k on, in the order of their bytes in the text:
-- a prefix operator comes before its operand's, an infix one between its two operands'.
-- Assumes nothing.
use Rattle.std.specs.Prelude.{ℕ, suc, ◌+◌, ◌^◌, Bool, true, false, not, ◌&&◌, ◌||◌, List, [], ◌∷◌, ◌++◌}
use Rattle.machine.specs.Letters.{Letter}
use Rattle.reader.specs.Formula.{Formula, constant, name, unary, neg, next, weak, eventually, always, binary, until, release, conj, disj, impl, operators}
use Rattle.automaton.specs.Bits.{bit, gather}

-- a valuation, as the number whose bits are its coordinates
abbrev pub Valuation : Type 0
Valuation = ℕ

-- a formula's value, given the letter a and the valuation v of the next position
unfoldable pub value : Formula → (k : ℕ) (a : Letter) (v : Valuation) → Bool
value (constant b) k a v = b
value (name n) k a v = bit a n
value (unary neg φ) k a v = not (value φ k a v)
value (unary next φ) k a v = bit v k
value (unary weak φ) k a v = bit v k
value (unary eventually φ) k a v = value φ (suc k) a v || bit v k
value (unary always φ) k a v = value φ (suc k) a v && bit v k
value (binary until φ ψ) k a v = value ψ (suc (k + operators φ)) a v || (value φ k a v && bit v (k + operators φ))
value (binary release φ ψ) k a v = value ψ (suc (k + operators φ)) a v && (value φ k a v || bit v (k + operators φ))
value (binary conj φ ψ) k a v = value φ k a v && value ψ (k + operators φ) a v
value (binary disj φ ψ) k a v = value φ k a v || value ψ (k + operators φ) a v
value (binary impl φ ψ) k a v = not (value φ k a v) || value ψ (k + operators φ) a v

-- what the coordinates from k on say at the present position: for X and N the operand's value, for the others the operator's own
unfoldable pub coords : Formula → (k : ℕ) (a : Letter) (v : Valuation) → List Bool
unfolding value
coords (constant b) k a v = []
coords (name n) k a v = []
coords (unary neg φ) k a v = coords φ k a v
coords (unary next φ) k a v = value φ (suc k) a v ∷ coords φ (suc k) a v
coords (unary weak φ) k a v = value φ (suc k) a v ∷ coords φ (suc k) a v
coords (unary eventually φ) k a v = value (unary eventually φ) k a v ∷ coords φ (suc k) a v
coords (unary always φ) k a v = value (unary always φ) k a v ∷ coords φ (suc k) a v
coords (binary until φ ψ) k a v = coords φ k a v ++ (value (binary until φ ψ) k a v ∷ coords ψ (suc (k + operators φ)) a v)
coords (binary release φ ψ) k a v = coords φ k a v ++ (value (binary release φ ψ) k a v ∷ coords ψ (suc (k + operators φ)) a v)
coords (binary conj φ ψ) k a v = coords φ k a v ++ coords ψ (k + operators φ) a v
coords (binary disj φ ψ) k a v = coords φ k a v ++ coords ψ (k + operators φ) a v
coords (binary impl φ ψ) k a v = coords φ k a v ++ coords ψ (k + operators φ) a v

-- what they are past the last position: 1 for N, R and G, 0 for X, U and F
unfoldable pub ends : Formula → List Bool
ends (constant b) = []
ends (name n) = []
ends (unary neg φ) = ends φ
ends (unary next φ) = false ∷ ends φ
ends (unary weak φ) = true ∷ ends φ
ends (unary eventually φ) = false ∷ ends φ
ends (unary always φ) = true ∷ ends φ
ends (binary until φ ψ) = ends φ ++ (false ∷ ends ψ)
ends (binary release φ ψ) = ends φ ++ (true ∷ ends ψ)
ends (binary conj φ ψ) = ends φ ++ ends ψ
ends (binary disj φ ψ) = ends φ ++ ends ψ
ends (binary impl φ ψ) = ends φ ++ ends ψ

-- the valuation of the present position, from its letter and the valuation of the next
unfoldable pub present : (φ : Formula) (a : Letter) (v : Valuation) → Valuation
unfolding value coords gather
present φ a v = gather (value φ 1 a v ∷ coords φ 1 a v)

-- the end valuation, whose coordinate 0 is 0
unfoldable pub end_vector : Formula → Valuation
unfolding ends gather
end_vector φ = gather (false ∷ ends φ)

-- the number of valuations
unfoldable pub vectors : Formula → ℕ
unfolding operators
vectors φ = 2 ^ suc (operators φ)
