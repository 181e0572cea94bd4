-- The exploration as functions make it, in two walks. The first lists the states: each step finds a place for the state that it looks at, or puts it at the
-- end. The second, over the finished list, writes each transition, as a place of the state that it leads to.
-- A list of states is given by what it holds at each place, `at`, whatever words it is kept in.
-- Assumes nothing.
use Rattle.std.specs.Prelude.{ℕ, suc, ◌+◌, ◌*◌, ◌≤◌, ◌<◌, min, ◌≡◌, List, length, get_or}
use Rattle.machine.specs.Machine.{Machine}
use Rattle.machine.specs.Discovery.{state_at, position, target, discovered, states, number_of_states}

-- p is a place of x among the first n, or n where it has none
pub record Place {S : Type 0} (at : ℕ → S) (n : ℕ) (x : S) (p : ℕ) : Type 0 where
  pub within : p ≤ n
  pub here : p < n → at p ≡ x
  pub nowhere : p ≡ n → (k : ℕ) → k < n → at k ≡ x → ⊥

-- after t steps the n places hold the states discovered
pub record Listed {S : Type 0} (M : Machine S) (L n t : ℕ) (at : ℕ → S) : Type 0 where
  pub count : n ≡ length (discovered M L t)
  pub members : (i : ℕ) → i < n → at i ≡ state_at M (discovered M L t) i

-- after all steps there are r states, or more than the limit where r is one more than that; the places hold them
pub record AllListed {S : Type 0} (M : Machine S) (L limit r : ℕ) (at : ℕ → S) : Type 0 where
  pub number : r ≡ min (suc limit) (number_of_states M L limit)
  pub members : r ≤ limit → (i : ℕ) → i < r → at i ≡ state_at M (states M L limit) i

-- after every letter of state s: r states are listed, or there are more than the limit where r is one more than that
pub record StateListed {S : Type 0} (M : Machine S) (L limit s r : ℕ) (at : ℕ → S) : Type 0 where
  pub within : r ≤ limit → Listed M L r (s * L + L) at
  pub beyond : r ≡ suc limit → AllListed M L limit r at

-- the first t transitions are the numbers, in the list ws, of the states to which they lead
unfoldable pub Filled : {S : Type 0} (M : Machine S) (L : ℕ) (ws : List S) (transitions : List ℕ) (t : ℕ) → Type 0
Filled M L ws transitions t = (u : ℕ) → u < t → get_or transitions u 0 ≡ position M (target M L ws u) ws
