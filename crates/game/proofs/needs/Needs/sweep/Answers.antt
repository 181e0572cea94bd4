-- `game::needs::Needs::sweep` meets its contract. The invariant: the sweep has been made over the states below s, with the same limit.
-- Assumes nothing.
use Rattle.std.proofs.Common.{◌≡◌, ◌+◌, ◌<◌, Bool, length, sym, subst₂, arith, rules}
use Rattle.automaton.specs.Limits.{state_limit}
use Rattle.plays.specs.Arena.{Arena}
use Rattle.game.specs.declared.needs.Needs.{Needs}
use Rattle.game.specs.inner.Game.{arena_of}
use Rattle.game.specs.inner.Needs.{Swept}
use Rattle.game.proofs.LiftLaws.{sweep_stays, sweep_lifts}
use Rattle.game.proofs.needs.Needs.sweep.Goals as goal
use Rattle.game.proofs.needs.Needs.sweep.Goals.{else-need-self, then-need-self}

-- one more state passed, whichever way the branch went
pub loop-s-preserved : goal.loop-s-preserved
loop-s-preserved c =
    let small : c.loop-s.s < length c.loop-s.self.ranks = omega (arith, c.args.g.now.valid.moving.states_fit, (let n : length c.loop-s.self.ranks ≡ state_limit = search rules in n)) in
    let G : Arena = arena_of c.args.g.now in
    let P : Needs → Bool → Type 0 = λ new lifted. Swept G new.limit c.args.self.now.ranks new.ranks (c.loop-s.s + 1) lifted × (new.limit ≡ c.args.self.now.limit) in
    elim c.if-need-self.branch [
      | then-need-self w ↦ subst₂ P (sym w.self-is) (sym w.lifted-is) (sweep_lifts c.loop-s.invariant.0 (omega arith) small (c.next_need-need.ensures.lifts w.if-need-self.true), c.loop-s.invariant.1)
      | else-need-self w ↦ subst₂ P (sym w.self-is) (sym w.lifted-is) (sweep_stays c.loop-s.invariant.0 (c.next_need-need.ensures.stands w.if-need-self.false), c.loop-s.invariant.1)
    ]
