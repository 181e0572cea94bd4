-- Where the system is beaten. Fair, what a round leaves out: where the environment has an inner rank, a budget does not help that is one above those with
-- which the system is beaten on every state without an outer rank. Stable, after the last round: with every budget below the system's inner rank, and with
-- every one where it has none.
-- Assumes nothing.
use Rattle.std.proofs.Common.{◌≡◌, ℕ, zero, suc, ◌-◌, ◌<◌, ◌≤◌, Bool, true, false, not, List, get_or, refl, ap, subst, arith}
use Rattle.game.specs.inner.Limits.{rank_limit}
use Rattle.plays.specs.Arena.{Arena, next, holds}
use Rattle.plays.specs.inner.Rank.{Ranked}
use Rattle.plays.specs.inner.Beaten.{left, Beaten, over, forced}
use Rattle.game.specs.inner.Valid.{Valid}
use Rattle.game.specs.inner.Serving.{ranked_below}
use Rattle.game.specs.inner.Rounds.{Favorable, Attraction}
use Rattle.reader.proofs.BoolLaws.{on}
use Rattle.plays.proofs.CaseLaws.{zero_or}
use Rattle.plays.proofs.BeatenLaws.{held_beaten}
use Rattle.game.proofs.IndexLaws.{next_below}
use Rattle.game.proofs.LimitLaws.{ranked_below_lem, below_none, not_lower}

module _ {G : Arena} (v : Valid G) {outer inner : List ℕ} (small : (t : ℕ) → get_or outer t 0 < rank_limit) (at : Attraction true G outer inner) {m k : ℕ}
    (less : (t : ℕ) → t < G.states → get_or outer t 0 ≡ 0 → Beaten true G m t (k - 1)) where
  -- a step to a state without an outer rank: with the condition it costs one, without it nothing
  entered_beaten : (t : ℕ) (h : Bool) → t < G.states → get_or outer t 0 ≡ 0 → (h ≡ false → Beaten true G m t k) → Beaten true G m t (left true m h k)
  entered_beaten t true l z lower = less t l z
  entered_beaten t false l z lower = lower refl

  -- without the condition the inner rank falls
  beaten_up_to : (n s : ℕ) → s < G.states → 0 < get_or inner s 0 → get_or inner s 0 ≤ n → Beaten true G m s k
  beaten_up_to zero s l p le = absurd (let z : ⊥ = omega arith in z)
  beaten_up_to (suc n) s l p le =
      let w = at.ranks.forced s p in
      let x = w.0 in
      forced x w.1 (λ y yl. (w.2 y yl).0)
      (λ y yl.
      let t = next G s x y in
      let f = (w.2 y yl).1 in
      let tl = next_below v s x y l w.1 yl in
      entered_beaten t (holds G x) tl (below_none rank_limit outer t f.0 (small t))
      (λ e. let i = ranked_below_lem (get_or inner s 0) inner t (f.1 (ap not e)) in beaten_up_to n t tl i.0 (omega arith)))

  pub inner_beaten : (s : ℕ) → s < G.states → 0 < get_or inner s 0 → Beaten true G m s k
  inner_beaten s l p = beaten_up_to (get_or inner s 0) s l p (omega arith)

-- stable: the environment has the outer ranks, which are a certificate, and each state has one of the two ranks
module _ {G : Arena} (v : Valid G) {outer inner : List ℕ} (at : Attraction false G outer inner) (certificate : Ranked G false true G.states outer)
    (total : (s : ℕ) → s < G.states → get_or outer s 0 ≡ 0 → 0 < get_or inner s 0) {m : ℕ} where
  -- a step against the inner ranks below k + 1: with the condition it costs one, without it the environment has its certificate
  kept_beaten : (k x t : ℕ) → Favorable G false (ranked_below rank_limit outer) (ranked_below (suc k) inner) x t
      → ((0 < get_or inner t 0 → k < get_or inner t 0) → Beaten false G m t k) → Beaten false G m t (left false m (holds G x) (suc k))
  kept_beaten k x t f less =
      on (holds G x)
      (λ e. rw e (let z : k ≡ suc k - 1 = omega arith in subst (λ (i : ℕ). Beaten false G m t i) z (less (not_lower (suc k) inner t f.0))))
      (λ e. rw e (held_beaten G G.states outer certificate m t m (ranked_below_lem rank_limit outer t (f.1 (ap not e))).0))

  pub needs_beaten : (k s : ℕ) → s < G.states → (0 < get_or inner s 0 → k < get_or inner s 0) → Beaten false G m s k
  needs_beaten zero s l h = over refl
  needs_beaten (suc k) s l h =
      zero_or (get_or outer s 0)
      (λ z.
      let w = at.stayed s (suc k) (omega arith) (h (total s l z)) in
      let x = w.0 in
      forced x w.1 (λ y yl. (w.2 y yl).0)
      (λ y yl.
      let t = next G s x y in
      kept_beaten k x t (w.2 y yl).1 (needs_beaten k t (next_below v s x y l w.1 yl))))
      (held_beaten G G.states outer certificate m s (suc k))
