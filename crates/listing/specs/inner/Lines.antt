-- The lines of a solved game (specs/Listing.antt) over its tables as the program holds them.
-- Assumes nothing.
use Rattle.std.specs.Prelude.{ℕ}
use Rattle.plays.specs.Arena.{State}
use Rattle.reader.specs.Text.{Text}
use Rattle.listing.specs.declared.render.Tables.{Tables}
use Rattle.listing.specs.Listing.{winner_fields, state_line, state_lines, verdict_lines}

-- a state's winner and its row
abbrev pub winner_of : Tables → State → Text
winner_of t s = winner_fields t.inputs t.system.now t.environment.now s

-- a state's line
abbrev pub line_of : Tables → State → Text
line_of t s = state_line t.inputs t.accepting.now t.system.now t.environment.now s

-- the lines of all states
abbrev pub lines_of : Tables → Text
lines_of t = state_lines t.inputs t.accepting.now t.system.now t.environment.now 0 t.states

-- the lines of a verdict with its word and the round number
abbrev pub verdict_of : Tables → (word : Text) (round : ℕ) → Text
verdict_of t word round = verdict_lines t.inputs t.accepting.now t.system.now t.environment.now word t.states round
