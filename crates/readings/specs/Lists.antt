-- The automaton of a formula as two lists, computed from the definitions (specification, "Automaton"): the specification's moves and marks of the n
-- reachable states.
-- Assumes nothing.
use Rattle.std.specs.Prelude.{ℕ, zero, suc, ◌*◌, List, [], ◌∷◌, ◌++◌, length}
use Rattle.machine.specs.Discovery as machine
use Rattle.machine.specs.Discovery.{state_at, position, target}
use Rattle.reader.specs.Formula.{Formula}
use Rattle.automaton.specs.Bits.{one}
use Rattle.automaton.specs.State.{accepts, machine_of}
use Rattle.automaton.specs.Discovery.{states}

-- the list of f k for each k below n
unfoldable pub list_of : (ℕ → ℕ) → ℕ → List ℕ
list_of f zero = []
list_of f (suc n) = list_of f n ++ (f n ∷ [])

-- the transitions of the states ws: at s * L + a the number of the state to which letter a leads from state s
unfoldable pub transitions_on : (φ : Formula) (L : ℕ) (ws : List ℕ) → List ℕ
unfolding list_of position target
transitions_on φ L ws = list_of (λ u. position (machine_of φ) (target (machine_of φ) L ws u) ws) (length ws * L)

unfoldable pub transitions_of : (φ : Formula) (L : ℕ) → List ℕ
unfolding transitions_on machine.states
transitions_of φ L = transitions_on φ L (states φ L)

-- the flags: at s 1 for an accepting state, else 0
unfoldable pub flags_on : (φ : Formula) (ws : List ℕ) → List ℕ
unfolding list_of accepts
flags_on φ ws = list_of (λ s. one (accepts φ (state_at (machine_of φ) ws s))) (length ws)

unfoldable pub flags_of : (φ : Formula) (L : ℕ) → List ℕ
unfolding flags_on machine.states
flags_of φ L = flags_on φ (states φ L)
