-- The follower (specification, "Calls"): one step of the system's strategy from a position, which is a state and whether a goal was entered.
-- Its answer is the declared type `Followed`, none where there is no row, or a refusal; its order is 1, 10, 3, 12, 13, "no row", 11.
-- Assumes nothing.
use Rattle.std.specs.Prelude.{◌≡◌, ℕ, cond, ◌||◌, nat_le, Option, Some, None, Result, Ok, Err}
use Rattle.reader.specs.declared.refusal.Refusal.{Refusal}
use Rattle.reader.specs.declared.refusal.Refusal.TheVariants.{Alphabet, Buffer, GivenCount, Move, State, Value}
use Rattle.reader.specs.Refusal.{first_number, first_place, answer_number, answer_place}
use Rattle.automaton.specs.Alphabet.{bad_alphabet}
use Rattle.game.specs.declared.follow.Position.{Position}
use Rattle.game.specs.declared.follow.Followed.{Followed}
use Rattle.plays.specs.Arena.{Input, Output, Arena, move_index, next, goal}
use Rattle.plays.specs.Strategy.{Table, system_byte}
use Rattle.game.specs.Given.{bad_count, short_read, short_strategy}

-- the position after a step into state t
abbrev pub position_at : Arena → Position → ℕ → Position
position_at G p t = record { state = t; reached = p.reached || goal G t }

-- the answers: the output with the next position, none where there is no row, or a refusal
abbrev pub FollowAnswer : Type 0
FollowAnswer = Result (Option Followed) Refusal

-- the move by output y: refused where it leads to no state
abbrev pub moved_by : (G : Arena) (p : Position) (x : Input) (y : Output) → FollowAnswer
moved_by G p x y =
    cond (nat_le G.states (next G p.state x y)) (Err (Move (move_index G p.state x y)))
    (Ok (Some (record { output = y; next = position_at G p (next G p.state x y) })))

-- the refusal that comes first: 1, 10, 3, 12, 13, and 11, which "no row" comes before
unfoldable pub follow_refusal : (i o : ℕ) (G : Arena) (σ : Table) (p : Position) (x : ℕ) → Option Refusal
unfolding next
follow_refusal i o G σ p x =
    cond (bad_alphabet i o) (Some Alphabet)
    (cond (bad_count G.states) (Some GivenCount)
    (cond (short_read G || short_strategy G σ) (Some (Buffer G.states))
    (cond (nat_le G.states p.state) (Some State)
    (cond (nat_le G.inputs x) (Some (Value 0))
    (cond (nat_le G.outputs (system_byte G σ p.state x)) None
    (cond (nat_le G.states (next G p.state x (system_byte G σ p.state x))) (Some (Move (move_index G p.state x (system_byte G σ p.state x))))
    None))))))

-- the answer once the numbers i, o and n are in range: 3, 12, 13, "no row", 11
unfoldable pub later_followed : (G : Arena) (σ : Table) (p : Position) (x : ℕ) → FollowAnswer
unfolding next goal
later_followed G σ p x =
    cond (short_read G || short_strategy G σ) (Err (Buffer G.states))
    (cond (nat_le G.states p.state) (Err State)
    (cond (nat_le G.inputs x) (Err (Value 0))
    (cond (nat_le G.outputs (system_byte G σ p.state x)) (Ok None)
    (moved_by G p x (system_byte G σ p.state x)))))

-- the answer on every input
unfoldable pub followed : (i o : ℕ) (G : Arena) (σ : Table) (p : Position) (x : ℕ) → FollowAnswer
unfolding later_followed
followed i o G σ p x =
    cond (bad_alphabet i o) (Err Alphabet) (cond (bad_count G.states) (Err GivenCount) (later_followed G σ p x))

-- the whole promise: the answer, and the specification's number and place of it, 0 for a move and for "no row"
pub record FollowedBy (i o : ℕ) (G : Arena) (σ : Table) (p : Position) (x : ℕ) (r : FollowAnswer) : Type 0 where
  pub answer : r ≡ followed i o G σ p x
  pub number : answer_number r ≡ first_number (follow_refusal i o G σ p x)
  pub place : answer_place r ≡ first_place (follow_refusal i o G σ p x)
