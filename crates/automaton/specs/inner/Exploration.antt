-- What the functions that explore the states of a formula hand back to each other and to the calls: the exploration of its machine, whose states are words
-- in an array.
-- Assumes nothing.
use Rattle.std.specs.Prelude.{ℕ, ◌*◌, ◌≡◌, List, length, get_or, Some, None, Result}
use Rattle.machine.specs.inner.Exploration as machine
use Rattle.reader.specs.declared.refusal.Refusal.{Refusal}
use Rattle.reader.specs.declared.refusal.Refusal.TheVariants.{StateCount}
use Rattle.reader.specs.Formula.{Formula}
use Rattle.automaton.specs.Limits.{state_limit}
use Rattle.automaton.specs.State.{machine_of}
use Rattle.automaton.specs.Discovery.{states, number_of_states}
use Rattle.automaton.specs.Automaton.{Automaton, TooManyStates}
use Rattle.automaton.specs.Buffer.{Kept}
use Rattle.automaton.specs.Construction.{count_refusal, construction_of}

-- what an array of words holds at a place
abbrev pub word_at : List ℕ → ℕ → ℕ
word_at list i = get_or list i 0

-- after t steps the list holds the states discovered
abbrev pub Listed : (φ : Formula) (L t : ℕ) (list : List ℕ) → Type 0
Listed φ L t list = machine.Listed (machine_of φ) L (length list) t (word_at list)

-- the list holds all states, which are at most the limit
abbrev pub AllListed : (φ : Formula) (L : ℕ) (list : List ℕ) → Type 0
AllListed φ L list = machine.AllListed (machine_of φ) L state_limit (length list) (word_at list)

-- the first t transitions are the numbers of the states to which they lead
abbrev pub Filled : (φ : Formula) (L : ℕ) (transitions : List ℕ) (t : ℕ) → Type 0
Filled φ L transitions t = machine.Filled (machine_of φ) L (states φ L) transitions t

-- the buffers of n states: the automaton, and beyond n states' share they are as they were
pub record Written (φ : Formula) (L n : ℕ) (transitions accepting transitions' accepting' : List ℕ) : Type 0 where
  pub automaton : Automaton φ L n transitions' accepting'
  pub transitions_kept : Kept (n * L) transitions transitions'
  pub accepting_kept : Kept n accepting accepting'

-- what `build` hands back, with the refusal by the number of states
pub record BuiltAutomaton (φ : Formula) (L room : ℕ) (transitions accepting transitions' accepting' : List ℕ) (r : Result ℕ Refusal) : Type 0 where
  pub answer : r ≡ construction_of (count_refusal L room transitions accepting (number_of_states φ L)) (number_of_states φ L)
  pub written : count_refusal L room transitions accepting (number_of_states φ L) ≡ None
      → Written φ L (number_of_states φ L) transitions accepting transitions' accepting'
  pub many : count_refusal L room transitions accepting (number_of_states φ L) ≡ Some StateCount → TooManyStates φ L
  pub untouched : (count_refusal L room transitions accepting (number_of_states φ L) ≡ None → ⊥) → (transitions' ≡ transitions) × (accepting' ≡ accepting)
