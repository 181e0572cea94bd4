-- What was read lies within the input. The room that is left falls, since a turn that goes on has read a byte.
use Rattle.std.proofs.Common.{length, ◌-◌, ◌≤◌}
use Rattle.airtable.proofs.receive.Given as goal

abbrev pub invariant-loop-done : goal.invariant-loop-done
invariant-loop-done g l = l.done ≤ length l.input

abbrev pub decreases-loop-done : goal.decreases-loop-done
decreases-loop-done g l = length l.initial.input - l.done
