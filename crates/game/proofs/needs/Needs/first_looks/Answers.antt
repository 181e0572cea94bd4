-- `game::needs::Needs::first_looks` meets its contract. The invariant: the passes are those of the states below s.
-- Assumes nothing.
use Rattle.std.proofs.Common.{◌≡◌, ℕ, ◌+◌, ◌<◌, Bool, List, length, replicate, sym, refl, subst, arith, rules}
use Rattle.automaton.specs.Limits.{state_limit}
use Rattle.plays.specs.Arena.{Arena}
use Rattle.game.specs.inner.Game.{arena_of}
use Rattle.game.specs.inner.Wide.{Hopeful, Looks}
use Rattle.game.proofs.LimitLaws.{zeros}
use Rattle.game.proofs.WidenLaws.{no_looks, looks_stays, looks_more}
use Rattle.game.proofs.needs.Needs.first_looks.Goals as goal
use Rattle.game.proofs.needs.Needs.first_looks.Goals.{else-hopeful, then-hopeful}

pub loop-s-init : goal.loop-s-init
loop-s-init c =
    (no_looks c.args.self.now.limit c.args.system.now c.args.self.now.ranks (replicate state_limit 0) (zeros state_limit), refl)

-- one more state passed, whichever way the branch went
pub loop-s-preserved : goal.loop-s-preserved
loop-s-preserved c =
    let small : c.loop-s.s < length c.loop-s.due = omega (arith, c.args.g.now.valid.moving.states_fit, c.loop-s.invariant.1) in
    let is : (b : Bool) → c.hopeful.result ≡ b
    → Hopeful (arena_of c.args.g.now) c.args.self.now.limit
    c.args.system.now c.args.self.now.ranks c.loop-s.s b = λ b e. subst (Hopeful (arena_of c.args.g.now) c.args.self.now.limit c.args.system.now c.args.self.now.ranks c.loop-s.s) e
    c.hopeful.ensures in
    let G : Arena = arena_of c.args.g.now in
    let P : List ℕ → Type 0 = λ due. Looks G c.args.self.now.limit c.args.system.now c.args.self.now.ranks due (c.loop-s.s + 1) in
    let passed : P c.if-hopeful.due =
    (elim c.if-hopeful.branch [
      | then-hopeful w ↦ subst P (sym w.due-is) (looks_more c.loop-s.invariant.0 c.requires.bounds c.requires.of_system.exact c.requires.of_system.small c.requires.limit_le_states (omega arith) small (is _ w.if-hopeful.true) w.max.ensures)
      | else-hopeful w ↦ subst P (sym w.due-is) (looks_stays c.loop-s.invariant.0 (is _ w.if-hopeful.false))
    ]) in
    (passed, search rules)
