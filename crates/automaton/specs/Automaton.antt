-- Demand 2: what it means that transitions and accepting flags, which the specification calls moves and marks, hold the automaton of a formula: they hold that
-- of its machine (machine's specs/Automaton.antt), and the good traces are those that satisfy the formula.
-- Assumes nothing.
use Rattle.std.specs.Prelude.{ℕ, List}
use Rattle.machine.specs.Automaton as machine
use Rattle.reader.specs.Formula.{Formula}
use Rattle.automaton.specs.Limits.{state_limit}
use Rattle.automaton.specs.Trace.{Satisfies}
use Rattle.automaton.specs.State.{machine_of}

-- the automaton with n states
abbrev pub Automaton : (φ : Formula) (L n : ℕ) (transitions accepting : List ℕ) → Type 0
Automaton φ L n transitions accepting = machine.Automaton (machine_of φ) (Satisfies φ) L state_limit n transitions accepting

-- more different states than the limit are reachable
abbrev pub TooManyStates : (φ : Formula) (L : ℕ) → Type 0
TooManyStates φ L = machine.TooManyStates (machine_of φ) L state_limit
