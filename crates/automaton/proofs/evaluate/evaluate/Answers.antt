-- `automaton::evaluate::evaluate` meets its contract. The invariant: the nodes below i have their words. Assumes nothing.
use Rattle.std.proofs.Common.{rules, ◌≡◌, refl, ◌∙◌, ap, arith, add-one, slice_index_or, length-set, ℕ}
use Rattle.automaton.specs.inner.Evaluation.{Evaluated}
use Rattle.automaton.proofs.EvaluationLaws.{evaluated_more}
use Rattle.automaton.proofs.evaluate.evaluate.Goals as goal

pub loop-i-init : goal.loop-i-init
unfolding Evaluated
loop-i-init c = (refl, λ i h k φ t. absurd (let z : ⊥ = omega arith in z))

pub loop-i-preserved : goal.loop-i-preserved
loop-i-preserved c =
    let left : c.unwrap_or-left.result ≡ slice_index_or c.loop-i.words c.left_of.result 0 = search rules in
    let right : c.unwrap_or-right.result ≡ slice_index_or c.loop-i.words c.saturating_sub.result 0 = search rules in (
      simp length-set c.loop-i.invariant.0,
      rw add-one
          (evaluated_more c.args.nodes.now c.args.letter c.loop-i.words c.loop-i.i _ _ _ _ (omega (arith, c.unwrap_or-left.array_long))
          refl (left ∙ ap (λ (k : ℕ). slice_index_or c.loop-i.words k 0) c.left_of.ensures)
          (right ∙ ap (λ (k : ℕ). slice_index_or c.loop-i.words k 0) c.saturating_sub.ensures) c.node_word.ensures c.loop-i.invariant.1),
    )
