-- The call for a given automaton (specification, "Calls" and "Refusals").
-- Its order of refusals is 1, 10, 3, 12, 11, 13, 15.
-- Assumes nothing.
use Rattle.std.specs.Prelude.{◌≡◌, ℕ, zero, suc, ◌*◌, ◌/◌, ◌^◌, Bool, true, cond, not, ◌&&◌, ◌||◌, length, take, ◌==◌, nat_le, nat_lt, Option, Some, None, Ok, Err}
use Rattle.reader.specs.declared.refusal.Refusal.{Refusal}
use Rattle.reader.specs.declared.refusal.Refusal.TheVariants.{Alphabet, Buffer, GivenCount, Move, State, Value, Unsatisfiable}
use Rattle.reader.specs.Refusal.{first_number, first_place, answer_number, answer_place}
use Rattle.automaton.specs.Limits.{state_limit}
use Rattle.automaton.specs.Alphabet.{bad_alphabet, after_list}
use Rattle.game.specs.Answer.{Answer, verdict_of}
use Rattle.plays.specs.declared.mode.Mode.{Mode}
use Rattle.plays.specs.Arena.{Arena, holds}
use Rattle.plays.specs.Strategy.{Table}
use Rattle.game.specs.Tables.{Tables, Verdict}

-- refusal 10: no states, or more than the limit
abbrev pub bad_count : ℕ → Bool
bad_count n = n == 0 || nat_lt state_limit n

-- the transitions of the n states
abbrev pub move_count : Arena → ℕ
move_count G = G.states * (G.inputs * G.outputs)

-- refusal 3, for what is read: n states' share
abbrev pub short_read : Arena → Bool
short_read G = nat_lt (length G.transitions) (move_count G) || nat_lt (length G.accepting) G.states

-- refusal 3, for the system's table, here and in the follower
abbrev pub short_strategy : Arena → Table → Bool
short_strategy G σ = nat_lt (length σ) (G.states * G.inputs)

-- refusal 3, for both tables
abbrev pub short_tables : Arena → Table → Table → Bool
short_tables G σ τ = short_strategy G σ || nat_lt (length τ) G.states

-- refusal 13: the mask has a bit from 2^i up
abbrev pub bad_mask : Arena → Bool
bad_mask G = not (G.mask / 2 ^ G.inputs == 0)

-- no number below n passes c
unfoldable pub none_below : (c : ℕ → Bool) (n : ℕ) → Bool
none_below c zero = true
none_below c (suc n) = not (c n) && none_below c n

-- refusal 15: no input number has the condition
abbrev pub none_holds : Arena → Bool
none_holds G = none_below (holds G) G.inputs

-- the later refusals, once the numbers i, o and n are in range: 3, 12, 11, 13, 15
unfoldable pub later_refusal : (start : ℕ) (G : Arena) (σ τ : Table) → Option Refusal
later_refusal start G σ τ =
    cond (short_read G || short_tables G σ τ) (Some (Buffer G.states))
    (cond (nat_le G.states start) (Some State)
    (after_list G.states (take (move_count G) G.transitions) Move
    (cond (bad_mask G) (Some (Value 0))
    (cond (none_holds G) (Some Unsatisfiable) None))))

-- the refusal that comes first
unfoldable pub given_refusal : (i o start : ℕ) (G : Arena) (σ τ : Table) → Option Refusal
given_refusal i o start G σ τ = cond (bad_alphabet i o) (Some Alphabet) (cond (bad_count G.states) (Some GivenCount) (later_refusal start G σ τ))

-- the promise with this refusal coming first: the specification's number and place, the answer and both tables on every input
pub record Solved (refusal : Option Refusal) (mode : Mode) (start : ℕ) (G : Arena) (σ₀ τ₀ σ τ : Table) (r : Answer) : Type 0 where
  pub number : answer_number r ≡ first_number refusal
  pub place : answer_place r ≡ first_place refusal
  pub refused : (x : Refusal) → refusal ≡ Some x → (r ≡ Err x) × (σ ≡ σ₀) × (τ ≡ τ₀)
  pub served : refusal ≡ None → (round : ℕ) × (r ≡ Ok (verdict_of G.states round)) × Tables mode G σ₀ τ₀ σ τ × Verdict mode G σ τ start round

-- the whole promise
abbrev pub GivenSolved : (mode : Mode) (i o start : ℕ) (G : Arena) (σ₀ τ₀ σ τ : Table) (r : Answer) → Type 0
GivenSolved mode i o start G σ₀ τ₀ σ τ r = Solved (given_refusal i o start G σ₀ τ₀) mode start G σ₀ τ₀ σ τ r
