-- `game::rounds::RoundRanks::pass` meets its contract. The invariant: the pass has been made over the states below s.
-- Assumes nothing.
use Rattle.std.proofs.Common.{◌≡◌, length}
use Rattle.automaton.specs.Limits.{state_limit}
use Rattle.plays.specs.inner.Rank.{is_fair}
use Rattle.game.specs.inner.Game.{arena_of}
use Rattle.game.specs.inner.Rounds.{Passed}
use Rattle.game.proofs.rounds.RoundRanks.pass.Given as goal

abbrev pub invariant-loop-s : goal.invariant-loop-s
invariant-loop-s l = Passed (is_fair l.g.mode) (arena_of l.g) l.initial.self.outer l.initial.self.inner l.self.inner l.p l.s l.gave
    × (l.self.outer ≡ l.initial.self.outer) × (length l.self.inner ≡ state_limit)
