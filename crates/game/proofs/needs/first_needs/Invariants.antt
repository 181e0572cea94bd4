-- `game::needs::first_needs` meets its contract. The invariant: the states below s are marked.
-- Assumes nothing.
use Rattle.std.proofs.Common.{◌≡◌, length}
use Rattle.automaton.specs.Limits.{state_limit}
use Rattle.game.specs.inner.Needs.{Marked}
use Rattle.game.proofs.needs.first_needs.Given as goal

abbrev pub invariant-loop-s : goal.invariant-loop-s
invariant-loop-s l = Marked l.s l.system l.needs × (length l.needs ≡ state_limit)
