-- `game::rounds::RoundRanks::pass` meets its contract. The invariant: the pass has been made over the states below s.
-- Assumes nothing.
use Rattle.std.proofs.Common.{◌≡◌, ℕ, ◌+◌, ◌<◌, Bool, List, length, sym, subst, subst₂, ◌∙◌, length-set, arith}
use Rattle.automaton.specs.Limits.{state_limit}
use Rattle.plays.specs.inner.Rank.{is_fair}
use Rattle.game.specs.declared.rounds.RoundRanks.{RoundRanks}
use Rattle.game.specs.inner.Game.{arena_of}
use Rattle.game.specs.inner.Rounds.{Unranked, Attracts, Keeps, Passed}
use Rattle.game.proofs.PassLaws.{pass_stays, pass_gains}
use Rattle.game.proofs.rounds.RoundRanks.pass.Goals as goal
use Rattle.game.proofs.rounds.RoundRanks.pass.Goals.{else-attracted, then-attracted}

-- one more state passed, whichever way the branch went
pub loop-s-preserved : goal.loop-s-preserved
loop-s-preserved c =
    let g = c.args.g.now in
    let s = c.loop-s.s in
    let inner = c.loop-s.self.inner in
    let e = c.loop-s.invariant.1 in
    let long = c.loop-s.invariant.2 in
    let fits : s < length inner = omega (arith, g.valid.moving.states_fit, long) in
    let P : RoundRanks → Bool → Type 0 = λ new gave.
    Passed (is_fair g.mode) (arena_of g) c.args.self.now.outer c.args.self.now.inner new.inner c.args.p (s + 1) gave
    × (new.outer ≡ c.args.self.now.outer) × (length new.inner ≡ state_limit) in
    (elim c.if-attracted.branch [
      | then-attracted w ↦
          let d = subst (λ (outer : List ℕ). Unranked outer inner s × Attracts (is_fair g.mode) (arena_of g) outer inner c.args.p s) e
          (c.attracted.ensures.gains w.if-attracted.true) in
          subst₂ P (sym w.self-is) (sym w.gave-is) (
            pass_gains c.loop-s.invariant.0 g.valid c.loop-s-test.true fits (omega (arith, c.requires.inner_ranks.below 0)) d.0 d.1,
            e,
            length-set inner s c.args.p ∙ long,
          )
      | else-attracted w ↦
          let d = subst (λ (outer : List ℕ). Unranked outer inner s → Keeps (is_fair g.mode) (arena_of g) outer inner c.args.p s) e
          (c.attracted.ensures.stays w.if-attracted.false) in
          subst₂ P (sym w.self-is) (sym w.gave-is) (pass_stays c.loop-s.invariant.0 d, e, long)
    ])
