-- `listing::input::split_line` meets its contract: the line ends at the first 0x0A.
-- Assumes nothing.
use mathlib.Core.Path.{sym, ◌∙◌}
use Rattle.listing.proofs.RequestLaws.{no_newline, first_newline}
use Rattle.listing.proofs.input.split_line.Goals as goal

pub returns-in_err-end : goal.returns-in_err-end
returns-in_err-end c = rw c.from_residual.ensures (no_newline c.args.text.now (sym c.newline_at.ensures ∙ c.in_err-end.was))

pub returns : goal.returns
returns c = first_newline c.args.text.now c.in_ok-end.end (sym c.newline_at.ensures ∙ c.in_ok-end.was)
