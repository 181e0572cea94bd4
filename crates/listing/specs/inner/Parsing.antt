-- What the parts of an input are (specs/Input.antt), for the function that finds them.
-- Assumes nothing.
use Rattle.std.specs.Prelude.{ℕ}
use Rattle.reader.specs.Text.{Text}
use Rattle.plays.specs.declared.mode.Mode.{Mode}
use Rattle.listing.specs.declared.input.Request.{Request}
use Rattle.listing.specs.Input.{Asks}

-- the input is no request
abbrev pub AsksNothing : Text → Type 0
AsksNothing input = (i o : ℕ) (mode : Mode) (condition rule : Text) → Asks input i o mode condition rule → ⊥

-- the input asks for these parts
abbrev pub AsksFor : Text → Request → Type 0
AsksFor input r = Asks input r.i r.o r.mode r.condition.now r.rule.now
