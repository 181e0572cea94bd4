-- The reachable states of a machine and their numbers (specification, "Automaton"): by first discovery, breadth first, letters ascending, the start 0.
-- Step t of the discovery looks at letter t % L of state t / L. proofs/Reachable.antt: where they are at most the limit, `states` holds every reachable
-- state, and each once; where they are more, it holds more than the limit of different ones.
-- Assumes nothing.
use Rattle.std.specs.Prelude.{ℕ, zero, suc, ◌*◌, ◌/◌, ◌%◌, ◌<◌, ◌≡◌, cond, List, [], ◌∷◌, ◌++◌, ltb, length, get_or}
use Rattle.machine.specs.Letters.{Letter}
use Rattle.machine.specs.Machine.{Machine}

-- the states that letters below L reach from the start, itself included
pub data Reachable {S : Type 0} (M : Machine S) (L : ℕ) : S → Type 0 where
  begin : Reachable M L M.first
  step : {s : S} (a : Letter) → a < L → Reachable M L s → Reachable M L (M.after s a)

-- the state of number s in a list
abbrev pub state_at : {S : Type 0} (M : Machine S) (ws : List S) (s : ℕ) → S
state_at M ws s = get_or ws s M.first

-- the first place of x in a list, or the list's length where it is not there
unfoldable pub position : {S : Type 0} (M : Machine S) (x : S) → List S → ℕ
position M x [] = 0
position M x (y ∷ ys) = cond (M.same x y) 0 (suc (position M x ys))

-- x is put at the end where it is new
unfoldable pub extend : {S : Type 0} (M : Machine S) (ws : List S) (x : S) → List S
unfolding position
extend M ws x = cond (ltb (position M x ws) (length ws)) ws (ws ++ (x ∷ []))

-- the state to which step t looks, in the list of the states discovered before it
unfoldable pub target : {S : Type 0} (M : Machine S) (L : ℕ) (ws : List S) (t : ℕ) → S
target M L ws t = M.after (state_at M ws (t / L)) (t % L)

-- step t, if there is a state t / L by then
unfoldable pub look : {S : Type 0} (M : Machine S) (L t : ℕ) (ws : List S) → List S
unfolding extend target
look M L t ws = cond (ltb t (length ws * L)) (extend M ws (target M L ws t)) ws

-- the states discovered in the first t steps, in the order of discovery
unfoldable pub discovered : {S : Type 0} (M : Machine S) (L t : ℕ) → List S
unfolding look
discovered M L zero = M.first ∷ []
discovered M L (suc t) = look M L t (discovered M L t)

-- the states after as many steps as the first `limit` states have moves
unfoldable pub states : {S : Type 0} (M : Machine S) (L limit : ℕ) → List S
unfolding discovered
states M L limit = discovered M L (limit * L)

-- their number: that of the reachable states where it is at most the limit, and else more than the limit
unfoldable pub number_of_states : {S : Type 0} (M : Machine S) (L limit : ℕ) → ℕ
unfolding states
number_of_states M L limit = length (states M L limit)

-- the members of the list are different
abbrev pub Distinct : {S : Type 0} (M : Machine S) → List S → Type 0
Distinct M ws = (s t : ℕ) → s < length ws → t < length ws → state_at M ws s ≡ state_at M ws t → s ≡ t
