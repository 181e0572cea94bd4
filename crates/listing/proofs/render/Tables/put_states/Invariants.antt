-- What was written are the lines of the states so far.
use Rattle.listing.specs.Listing.{state_lines}
use Rattle.listing.specs.inner.Writing.{Puts}
use Rattle.listing.proofs.render.Tables.put_states.Given as goal

abbrev pub invariant-loop-s : goal.invariant-loop-s
invariant-loop-s l =
    Puts l.initial.out (state_lines l.self.inputs l.self.accepting.now l.self.system.now l.self.environment.now 0 l.s) l.out
