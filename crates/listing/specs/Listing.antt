-- What the program prints (specification, "Program"), as a function of the answer and of the buffers that the call leaves: the verdict, n and the round
-- number, then a line for each state, or the refusal's number and place. Fields are parted by one blank and each line ends with 0x0A.
-- Assumes nothing.
use Rattle.std.specs.Prelude.{ℕ, zero, suc, ◌*◌, ◌^◌, Bool, cond, List, [], ◌∷◌, ◌++◌, eqb, get_or, Ok, Err}
use Rattle.plays.specs.Strategy.{Table}
use Rattle.plays.specs.Arena.{State}
use Rattle.reader.specs.Text.{Text}
use Rattle.reader.specs.Refusal.{number_of, place_of}
use Rattle.game.specs.declared.answer.Outcome.TheVariants.{Can, Cannot}
use Rattle.game.specs.Answer.{Answer}
use Rattle.game.specs.Rule.{Buffers}
use Rattle.game.specs.Tables.{no_move}
use Rattle.listing.specs.Decimal.{decimal}
use Rattle.listing.specs.Input.{newline, blank}

-- `can`, `cannot` and `refused`, each with the blank after it
abbrev pub can_word : Text
can_word = 99 ∷ 97 ∷ 110 ∷ blank ∷ []

abbrev pub cannot_word : Text
cannot_word = 99 ∷ 97 ∷ 110 ∷ 110 ∷ 111 ∷ 116 ∷ blank ∷ []

abbrev pub refused_word : Text
refused_word = 114 ∷ 101 ∷ 102 ∷ 117 ∷ 115 ∷ 101 ∷ 100 ∷ blank ∷ []

-- the bytes of a table from an index on, so many of them, each after a blank
unfoldable pub fields : (table : Table) (from count : ℕ) → Text
fields table from zero = []
fields table from (suc count) = (blank ∷ decimal (get_or table from 0)) ++ fields table (suc from) count

-- `*` for a goal, `-` for any other state
abbrev pub goal_mark : (accepting : List ℕ) (s : State) → ℕ
goal_mark accepting s = cond (eqb (get_or accepting s 0) 0) 45 42

-- the system, the specification's station, wins a state where the environment has no move
abbrev pub won_by_system : (environment : Table) (s : State) → Bool
won_by_system environment s = eqb (get_or environment s 0) no_move

-- the winner, `S` or `O`, and its row: byte s × 2^i + X for each input X, or byte s
unfoldable pub winner_fields : (inputs : ℕ) (system environment : Table) (s : State) → Text
winner_fields inputs system environment s =
    cond (won_by_system environment s)
    ((83 ∷ []) ++ fields system (s * inputs) inputs)
    ((79 ∷ []) ++ fields environment s 1)

-- the line of a state
unfoldable pub state_line : (inputs : ℕ) (accepting : List ℕ) (system environment : Table) (s : State) → Text
state_line inputs accepting system environment s =
    decimal s ++ ((blank ∷ goal_mark accepting s ∷ blank ∷ []) ++ (winner_fields inputs system environment s ++ (newline ∷ [])))

-- the lines of so many states from s on
unfoldable pub state_lines : (inputs : ℕ) (accepting : List ℕ) (system environment : Table) (s : State) (count : ℕ) → Text
state_lines inputs accepting system environment s zero = []
state_lines inputs accepting system environment s (suc count) =
    state_line inputs accepting system environment s ++ state_lines inputs accepting system environment (suc s) count

-- a refusal's line
unfoldable pub refusal_line : (number place : ℕ) → Text
refusal_line number place = refused_word ++ (decimal number ++ ((blank ∷ decimal place) ++ (newline ∷ [])))

-- a verdict's lines: its word, n, the round number r, and the n states
unfoldable pub verdict_lines : (inputs : ℕ) (accepting : List ℕ) (system environment : Table) (word : Text) (n r : ℕ) → Text
verdict_lines inputs accepting system environment word n r =
    word ++ (decimal n ++ ((blank ∷ decimal r) ++ ((newline ∷ []) ++ state_lines inputs accepting system environment 0 n)))

-- the whole listing, with i inputs; "cannot" has the round number 0
abbrev pub listing : (i : ℕ) (tables : Buffers) (answer : Answer) → Text
listing i tables (Ok (Can n r)) = verdict_lines (2 ^ i) tables.accepting tables.system tables.environment can_word n r
listing i tables (Ok (Cannot n)) = verdict_lines (2 ^ i) tables.accepting tables.system tables.environment cannot_word n 0
listing i tables (Err x) = refusal_line (number_of x) (place_of x)

-- refusal 14, which only the program has: the input is no request
abbrev pub malformed : Text
malformed = refusal_line 14 0
