-- What the first two tests of a given automaton come to.
-- Assumes nothing.
use Rattle.std.specs.Prelude.{◌≡◌, ℕ, true, false, ◌⊎◌, List, Result, Ok, Err}
use Rattle.reader.specs.declared.refusal.Refusal.{Refusal}
use Rattle.reader.specs.declared.refusal.Refusal.TheVariants.{Alphabet, GivenCount}
use Rattle.automaton.specs.Alphabet.{bad_alphabet}
use Rattle.plays.specs.Arena.{Arena, arena}
use Rattle.game.specs.declared.arena.Automaton.{Automaton}
use Rattle.game.specs.inner.Valid.{arena_from}
use Rattle.game.specs.Given.{bad_count}

-- the arena of an automaton with a mask
abbrev pub arena_at : Automaton → (mask : ℕ) → Arena
arena_at a mask = arena_from a.states a.inputs a.outputs a.transitions.now a.accepting.now mask

-- the numbers are in range, and the automaton is that of the numbers and the two buffers; or the first that is not is refused
abbrev pub Sized : (i o n : ℕ) (transitions accepting : List ℕ) → Result Automaton Refusal → Type 0
Sized i o n transitions accepting (Ok a) =
    (bad_alphabet i o ≡ false) × (bad_count n ≡ false) × ((mask : ℕ) → arena_at a mask ≡ arena i o n transitions accepting mask)
Sized i o n transitions accepting (Err x) =
    ((bad_alphabet i o ≡ true) × (x ≡ Alphabet)) ⊎ ((bad_alphabet i o ≡ false) × (bad_count n ≡ true) × (x ≡ GivenCount))
