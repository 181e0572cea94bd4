-- `game::rounds::RoundRanks::promote` meets its contract. The invariant: the states below s have been promoted.
-- Assumes nothing.
use Rattle.std.proofs.Common.{◌≡◌}
use Rattle.game.specs.inner.Rounds.{Promoted}
use Rattle.game.proofs.rounds.RoundRanks.promote.Given as goal

abbrev pub invariant-loop-s : goal.invariant-loop-s
invariant-loop-s l = Promoted l.s l.r l.initial.self.outer l.initial.self.inner l.self.outer l.gave × (l.self.inner ≡ l.initial.self.inner)
