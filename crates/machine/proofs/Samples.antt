-- A small machine, computed from the definitions: its states, too low a limit, a run and a walk.
-- Assumes nothing.
use Prim.Native.Nat.{ℕ, ◌+◌, ◌%◌}
use mathlib.Core.Path.{◌≡◌, refl}
use mathlib.Core.List.{[], ◌∷◌}
use borrow.Author.Tests.{eqb-true, eq-eqb}
use lib.Dec.{eqb}
use Rattle.machine.specs.Machine.{Machine}
use Rattle.machine.specs.Run.{run}
use Rattle.machine.specs.Discovery.{position, extend, target, look, discovered, states, number_of_states}
use Rattle.machine.specs.Automaton.{walk}

-- the sum of the letters modulo m, accepting where it is 0
abbrev sum : ℕ → Machine ℕ
sum m = record { same = eqb; equal = λ x y. (eqb-true x y, eq-eqb x y); first = 0; after = λ s a. (s + a) % m; accepts = λ s. eqb s 0 }

-- by the letters 0, 1 and 2 the state 1 is found before 2
sum_states : states (sum 3) 3 10 ≡ 0 ∷ 1 ∷ 2 ∷ []
unfolding states discovered look target extend position
sum_states = refl

-- with a limit of 2 states there are more
sum_over : number_of_states (sum 3) 3 2 ≡ 3
unfolding number_of_states states discovered look target extend position
sum_over = refl

-- the letters 2, 2, 1 lead to 2, by the machine and along its transitions
sum_run : run (sum 3).after 0 (2 ∷ 2 ∷ 1 ∷ []) ≡ 2
unfolding run
sum_run = refl

sum_walk : walk (0 ∷ 1 ∷ 2 ∷ 1 ∷ 2 ∷ 0 ∷ 2 ∷ 0 ∷ 1 ∷ []) 3 0 (2 ∷ 2 ∷ 1 ∷ []) ≡ 2
unfolding run
sum_walk = refl
