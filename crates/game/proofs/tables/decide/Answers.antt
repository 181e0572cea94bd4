-- `game::tables::decide` meets its contract: both tables are filled by the solver's ranks, and the round number is the solver's.
-- Assumes nothing.
use Rattle.std.proofs.Common.{◌≡◌, ℕ, subst, sym, rules}
use Rattle.plays.specs.declared.mode.Mode.{Mode}
use Rattle.plays.proofs.ModeLaws.{same_mode}
use Rattle.game.specs.inner.Game.{arena_of}
use Rattle.game.specs.Tables.{Tables, Verdict}
use Rattle.game.proofs.StrategyLaws.{filled}
use Rattle.game.proofs.tables.decide.Goals as goal

pub returns : goal.returns
returns c =
    let g = c.args.g.now in
    let solution = c.solve-solution in
    let σ = c.fill_system.new.system in
    let τ = c.fill_environment.new.environment in
    let here = subst
    (λ (m : Mode). Tables m (arena_of g) c.args.system.now c.args.environment.now σ τ × Verdict m (arena_of g) σ τ c.args.start solution.result.round)
    (same_mode g.mode) (filled solution.ensures c.fill_system.ensures c.fill_environment.ensures g.valid c.requires.inputs_nonzero.1) in
    let round : c.from.result ≡ solution.result.round = search rules in
    record { tables = here.0; verdict = subst (λ (r : ℕ). Verdict g.mode (arena_of g) σ τ c.args.start r) (sym round) here.1 }
