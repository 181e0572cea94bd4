-- What a round leaves out is outplayed, when stable: where the system has an inner rank, a budget does not help that is one above those with which the
-- environment is outplayed on every state without an outer rank.
-- Assumes nothing.
use Rattle.std.proofs.Common.{◌≡◌, ℕ, zero, suc, ◌-◌, ◌<◌, ◌≤◌, Bool, true, false, List, get_or, refl, ⊎_elim, arith}
use Rattle.game.specs.inner.Limits.{rank_limit}
use Rattle.plays.specs.Arena.{Arena, next, goal, holds}
use Rattle.plays.specs.inner.Rank.{Safe, Forces}
use Rattle.plays.specs.inner.Beaten.{unspent, Outplayed, answered}
use Rattle.game.specs.inner.Valid.{Valid}
use Rattle.game.specs.inner.Serving.{ranked_below}
use Rattle.game.specs.inner.Rounds.{Favorable, Attraction}
use Rattle.reader.proofs.BoolLaws.{clash}
use Rattle.plays.proofs.CaseLaws.{below_or}
use Rattle.game.proofs.IndexLaws.{next_below}
use Rattle.game.proofs.LimitLaws.{ranked_below_lem, below_none}

-- what the system can force, it forces by an output for each number, which is to its liking where the number is an input
output_for : (G : Arena) (s : ℕ) (R : ℕ → ℕ → Type 0) → Forces G true s R → (x : ℕ)
    → (y : ℕ) × (x < G.inputs → (y < G.outputs) × Safe G true (next G s x y) (R x (next G s x y)))
output_for G s R h x = below_or x G.inputs (λ l. let w = h x l in (w.0, λ _. (w.1, w.2))) (λ l. (0, λ b. absurd (let z : ⊥ = omega arith in z)))

module _ {G : Arena} (v : Valid G) {outer inner : List ℕ} (small : (t : ℕ) → get_or outer t 0 < rank_limit) (at : Attraction false G outer inner) {k : ℕ}
    (less : (t : ℕ) → t < G.states → get_or outer t 0 ≡ 0 → Outplayed G t (k - 1)) where
  -- a step to a state without an outer rank: without the condition it costs one, with it nothing
  entered_outplayed : (t : ℕ) (h : Bool) → t < G.states → get_or outer t 0 ≡ 0 → (h ≡ true → Outplayed G t k) → Outplayed G t (unspent h k)
  entered_outplayed t true l z lower = lower refl
  entered_outplayed t false l z lower = less t l z

  -- with the condition the inner rank falls
  outplayed_up_to : (n s : ℕ) → s < G.states → 0 < get_or inner s 0 → get_or inner s 0 ≤ n → Outplayed G s k
  outplayed_up_to zero s l p le = absurd (let z : ⊥ = omega arith in z)
  outplayed_up_to (suc n) s l p le =
      let choice = output_for G s (Favorable G true (ranked_below (get_or inner s 0) inner) (ranked_below rank_limit outer)) (at.ranks.forced s p) in
      answered (λ x. (choice x).0) (λ x xl. ((choice x).1 xl).0)
      (λ x xl undone.
      let t = next G s x (choice x).0 in
      let w = (choice x).1 xl in
      let tl = next_below v s x (choice x).0 l xl w.0 in
      ⊎_elim
      (λ g. clash (goal G t) g undone)
      (λ f.
      entered_outplayed t (holds G x) tl (below_none rank_limit outer t f.0 (small t))
      (λ e. let i = ranked_below_lem (get_or inner s 0) inner t (f.1 e) in outplayed_up_to n t tl i.0 (omega arith)))
      w.1)

  pub inner_outplayed : (s : ℕ) → s < G.states → 0 < get_or inner s 0 → Outplayed G s k
  inner_outplayed s l p = outplayed_up_to (get_or inner s 0) s l p (omega arith)
