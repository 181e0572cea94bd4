-- `capi::airtable_solve_given` meets its contract: the numbers are those of the answer, which the library solved for the mode at this number.
-- Assumes nothing.
use mathlib.Core.Path.{sym}
use Rattle.capi.proofs.airtable_solve_given.Goals as goal

pub returns : goal.returns
returns c =
    record {
      answer = c.solve_given-answer.result;
      solved = rw (sym c.mode_at.ensures) c.solve_given-answer.ensures;
      number_of = c.answer_number.ensures;
      can_of = c.can_flag.ensures;
      round_of = c.round_of.ensures;
      place_of = c.answer_place.ensures;
    }
