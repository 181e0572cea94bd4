-- One pass over a text, left to right: the step at each byte, and what the pass comes to.
-- Assumes nothing.
use Rattle.std.specs.Prelude.{ℕ, zero, suc, Bool, true, false, cond, [], ◌∷◌, eqb, Option, Some, None, Result, Ok, Err}
use Rattle.reader.specs.declared.marks.Kind.{Kind}
use Rattle.reader.specs.declared.marks.Kind.TheVariants.{Operand, Prefix, Infix, Open, Close, Other}
use Rattle.reader.specs.declared.scan.ScanState.{ScanState}
use Rattle.reader.specs.Text.{Text}

-- the state with an operand due (true) or after one (false), and d parentheses open
abbrev pub state : (w : Bool) (d : ℕ) → ScanState
state w d = record { operand_due = w; depth = d }

-- the state at the beginning of a text
abbrev pub start : ScanState
start = state true 0

-- the state after a mark, or none where the mark cannot stand
abbrev pub mark_step : (k : Kind) (w : Bool) (d : ℕ) → Option ScanState
mark_step Operand true d = Some (state false d)
mark_step Operand false d = None
mark_step Prefix true d = Some (state true d)
mark_step Prefix false d = None
mark_step (Infix l) true d = None
mark_step (Infix l) false d = Some (state true d)
mark_step Open true d = Some (state true (suc d))
mark_step Open false d = None
mark_step Close true d = None
mark_step Close false zero = None
mark_step Close false (suc d) = Some (state false d)
mark_step Other w d = None

-- the state after a byte: a blank changes nothing
unfoldable pub step_of : (kind : ℕ → Kind) (b : ℕ) (x : ScanState) → Option ScanState
step_of kind b x = cond (eqb b 32) (Some x) (mark_step (kind b) x.operand_due x.depth)

-- the pass goes on after a step, or stops at the place
abbrev pub follow : Option ScanState → (at : ℕ) → (ScanState → Result (Unit {0}) ℕ) → Result (Unit {0}) ℕ
follow (Some x) at k = k x
follow None at k = Err at

-- the end of the text: good after an operand with no parenthesis open
abbrev pub end_of : (x : ScanState) (at : ℕ) → Result (Unit {0}) ℕ
end_of x at = cond x.operand_due (Err at) (cond (eqb x.depth 0) (Ok tt) (Err at))

-- the pass over the bytes that are left, from the place at on: the place at which the text is bad, or none
unfoldable pub scan_of : (kind : ℕ → Kind) (s : Text) (at : ℕ) (x : ScanState) → Result (Unit {0}) ℕ
scan_of kind [] at x = end_of x at
scan_of kind (b ∷ s) at x = follow (step_of kind b x) at (scan_of kind s (suc at))
