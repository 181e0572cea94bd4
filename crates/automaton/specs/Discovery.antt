-- The reachable states of a formula and their numbers (specification, "Automaton"): those of its machine, with the limit on states.
-- The discovery itself is machine's specs/Discovery.antt.
-- Assumes nothing.
use Rattle.std.specs.Prelude.{ℕ, List}
use Rattle.machine.specs.Discovery as machine
use Rattle.reader.specs.Formula.{Formula}
use Rattle.automaton.specs.Limits.{state_limit}
use Rattle.automaton.specs.State.{machine_of}

-- the states in the order of their discovery
abbrev pub states : (φ : Formula) (L : ℕ) → List ℕ
states φ L = machine.states (machine_of φ) L state_limit

-- their number: the specification's n where it is at most the limit, and else more than the limit
abbrev pub number_of_states : (φ : Formula) (L : ℕ) → ℕ
number_of_states φ L = machine.number_of_states (machine_of φ) L state_limit
