-- `game::needs::Needs::pass` meets its contract. The invariant: the pass has been made over the states below s, with the same limit.
-- Assumes nothing.
use Rattle.std.proofs.Common.{ℕ, ◌+◌, Bool, true, ◌⊎◌, sym, ◌∙◌, subst}
use Rattle.plays.specs.Arena.{Arena}
use Rattle.game.specs.inner.Game.{arena_of}
use Rattle.game.specs.inner.Wide.{Widened}
use Rattle.game.proofs.WidenLaws.{widen_more}
use Rattle.game.proofs.needs.Needs.pass.Goals as goal
use Rattle.game.proofs.needs.Needs.pass.Goals.{else-look, then-look}

-- one more state passed, whichever way the branch went
pub loop-s-preserved : goal.loop-s-preserved
loop-s-preserved c =
    let G : Arena = arena_of c.args.g.now in
    let P : Bool → Type 0 = λ going. Widened G c.loop-s.self.limit c.args.system.now c.args.self.now.ranks c.look.new.self.ranks c.look.new.due c.args.p (c.loop-s.s + 1) going in
    let passed : P c.if-look.going =
    (elim c.if-look.branch [ then-look w ↦ subst P (sym w.going-is) (widen_more c.loop-s.invariant.0 c.look.ensures.looked true (λ _. ◌⊎◌.inl w.if-look.true) (λ f. absurd (mathlib.Core.Bool.true≢false f))) | else-look w ↦ subst P (sym w.going-is) (widen_more c.loop-s.invariant.0 c.look.ensures.looked c.loop-s.going (λ f. ◌⊎◌.inr f) (λ f. (w.if-look.false, f))) ]) in (
      subst (λ (l : ℕ). Widened G l c.args.system.now c.args.self.now.ranks c.look.new.self.ranks c.look.new.due c.args.p (c.loop-s.s + 1) c.if-look.going) (sym c.look.ensures.limit_kept) passed,
      c.look.ensures.limit_kept ∙ c.loop-s.invariant.1,
    )
