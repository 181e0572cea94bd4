-- Laws of the rounds that give outer ranks: before the first, one more round, and after the last, when both players' ranks are exact.
-- Assumes nothing.
use Rattle.std.proofs.Common.{◌≡◌, ℕ, ◌+◌, ◌-◌, ◌<◌, ◌≤◌, Bool, true, false, not, ◌⊎◌, List, get_or, sym, subst, ⊎_elim, arith}
use Rattle.game.specs.inner.Limits.{rank_limit}
use Rattle.plays.specs.Arena.{Arena, holds}
use Rattle.plays.specs.inner.Rank.{Forces, Falls, Ranked}
use Rattle.plays.specs.inner.Beaten.{Beaten, over, Outplayed, spent}
use Rattle.plays.specs.inner.Exact.{ExactRounds, ExactDistances, ExactNeeds, ExactCounts}
use Rattle.game.specs.inner.Valid.{Valid}
use Rattle.game.specs.inner.Serving.{ranked_below}
use Rattle.game.specs.inner.Rounds.{Unranked, Favorable, Grows, Attraction, Promoted, Found}
use Rattle.plays.proofs.CaseLaws.{zero_or, below_or}
use Rattle.game.proofs.LimitLaws.{ranked_below_lem, below_none, not_lower}
use Rattle.game.proofs.ForcingLaws.{forces_map}
use Rattle.game.proofs.BeatenRounds.{inner_beaten, needs_beaten}
use Rattle.game.proofs.OutplayedRounds.{inner_outplayed}

-- L s k is so of each state s below n with every budget k below the limit that is below the state's outer rank, and with every one where it has none
abbrev pub Short : (L : ℕ → ℕ → Type 0) (n : ℕ) (outer : List ℕ) (limit : ℕ) → Type 0
Short L n outer limit = (s k : ℕ) → s < n → k < limit → (0 < get_or outer s 0 → k < get_or outer s 0) → L s k

-- the outer ranks of the rounds so far, all below the limit; their player loses with every budget below the limit that is short of a state's rank
pub record OuterRanks (fair : Bool) (G : Arena) (outer : List ℕ) (limit : ℕ) : Type 0 where
  pub within : (t : ℕ) → 0 < get_or outer t 0 → t < G.states
  pub below : (t : ℕ) → get_or outer t 0 < limit
  pub forced : (s : ℕ) → 0 < get_or outer s 0 → Forces G fair s (Falls G fair true G.states outer s)
  pub beaten : fair ≡ true → (m : ℕ) → Short (Beaten true G m) G.states outer limit
  pub outplayed : fair ≡ false → Short (Outplayed G) G.states outer limit

-- both players' ranks after the last round, and that they are exact
pub record Certified (fair : Bool) (G : Arena) (outer inner : List ℕ) : Type 0 where
  pub outer_ranked : Ranked G fair true G.states outer
  pub inner_ranked : Ranked G (not fair) false G.states inner
  pub outer_bound : (t : ℕ) → get_or outer t 0 ≤ G.states
  pub inner_bound : (t : ℕ) → get_or inner t 0 ≤ G.states
  pub each : (s : ℕ) → s < G.states → ((0 < get_or outer s 0) × (get_or inner s 0 ≡ 0)) ⊎ ((get_or outer s 0 ≡ 0) × (0 < get_or inner s 0))
  pub rounds : fair ≡ true → ExactRounds G outer
  pub distances : fair ≡ true → ExactDistances G inner
  pub needs : fair ≡ false → ExactNeeds G G.states inner
  pub counts : fair ≡ false → ExactCounts G outer

-- the outer ranks are the system's when fair
pub found_fair : {fair : Bool} {G : Arena} {outer inner : List ℕ} → fair ≡ true → Certified fair G outer inner → Found fair G outer inner
found_fair {fair = true} e h =
    record {
      ranking = record {
        of_system = h.outer_ranked;
        of_environment = h.inner_ranked;
        system_bound = h.outer_bound;
        environment_bound = h.inner_bound;
        each = h.each;
      };
      rounds = h.rounds;
      distances = h.distances;
      needs = λ d. absurd (mathlib.Core.Bool.true≢false d);
      counts = λ d. absurd (mathlib.Core.Bool.true≢false d);
    }
found_fair {fair = false} e h = absurd (mathlib.Core.Bool.false≢true e)

-- and the environment's when stable
pub found_stable : {fair : Bool} {G : Arena} {outer inner : List ℕ} → fair ≡ false → Certified fair G outer inner → Found fair G inner outer
found_stable {fair = true} e h = absurd (mathlib.Core.Bool.true≢false e)
found_stable {fair = false} e h =
    record {
      ranking = record {
        of_system = h.inner_ranked;
        of_environment = h.outer_ranked;
        system_bound = h.inner_bound;
        environment_bound = h.outer_bound;
        each = λ s l. ⊎_elim (λ w. ◌⊎◌.inr (w.1, w.0)) (λ w. ◌⊎◌.inl (w.1, w.0)) (h.each s l);
      };
      rounds = λ d. absurd (mathlib.Core.Bool.false≢true d);
      distances = λ d. absurd (mathlib.Core.Bool.false≢true d);
      needs = h.needs;
      counts = h.counts;
    }

-- before the first round
pub no_rounds : {fair : Bool} {G : Arena} (outer : List ℕ) → ((t : ℕ) → get_or outer t 0 ≡ 0) → OuterRanks fair G outer 1
no_rounds outer z =
    record {
      within = λ t p. let e = z t in absurd (let q : ⊥ = omega arith in q);
      below = λ t. let e = z t in omega arith;
      forced = λ s p. let e = z s in absurd (let q : ⊥ = omega arith in q);
      beaten = λ e m s k l lt h. over (let q : k ≡ 0 = omega arith in q);
      outplayed = λ e s k l lt h. spent (let q : k ≡ 0 = omega arith in q);
    }

module _ {fair : Bool} {G : Arena} (v : Valid G) {outer inner : List ℕ} {r : ℕ} (so_far : OuterRanks fair G outer r) (at : Attraction fair G outer inner) where
  small : r ≤ G.states + 1 → (t : ℕ) → get_or outer t 0 < rank_limit
  small le t = omega (arith, so_far.below t, v.moving.states_fit)

  -- the inner ranks in a known mode
  in_mode : (mode : Bool) → fair ≡ mode → Attraction mode G outer inner
  in_mode mode e = subst (λ (f : Bool). Attraction f G outer inner) e at

  -- one more round
  module _ {new : List ℕ} {gave : Bool} (pro : Promoted G.states r outer inner new gave) where
    new_below : (t : ℕ) → get_or new t 0 < r + 1
    new_below t =
        zero_or (get_or outer t 0)
        (λ e. zero_or (get_or inner t 0)
        (λ f. below_or t G.states
        (λ l. omega (arith, pro.added t l (e, f)))
        (λ l. omega (arith, pro.beyond t l, so_far.below t)))
        (λ p. omega (arith, pro.other t p, so_far.below t)))
        (λ p. omega (arith, pro.extends t p, so_far.below t))

    new_positive : (t : ℕ) → t < G.states → get_or inner t 0 ≡ 0 → 0 < get_or new t 0
    new_positive t l f =
        zero_or (get_or outer t 0)
        (λ e. omega (arith, pro.added t l (e, f), so_far.below t))
        (λ p. omega (arith, pro.extends t p))

    new_within : (t : ℕ) → 0 < get_or new t 0 → t < G.states
    new_within t p = below_or t G.states (λ l. l) (λ l. so_far.within t (let q = pro.beyond t l in omega arith))

    -- the certificate of a state with the rank r
    new_forced : (u : ℕ) → u < G.states → Unranked outer inner u → Forces G fair u (Falls G fair true G.states new u)
    new_forced u l un =
        let is = pro.added u l un in
        let no_inner : (t : ℕ) → ranked_below rank_limit inner t ≡ false → get_or inner t 0 ≡ 0 = λ t e.
        below_none rank_limit inner t e (omega (arith, at.ranks.below t, v.moving.states_fit)) in
        forces_map v fair u (Favorable G fair (ranked_below rank_limit outer) (ranked_below rank_limit inner)) (Falls G fair true G.states new u) l
        (λ x t tl d. (
          new_positive t tl (no_inner t d.0),
          (λ h. let z = (ranked_below_lem rank_limit outer t (d.1 h)).0 in omega (arith, pro.extends t z, so_far.below t)),
          (λ h. omega (arith, new_below t)),
        ))
        (at.keeps u l un)

    -- the certificate of a state with an earlier rank
    old_forced : (u : ℕ) → 0 < get_or outer u 0 → Forces G fair u (Falls G fair true G.states new u)
    old_forced u w =
        let is = pro.extends u w in
        forces_map v fair u (Falls G fair true G.states outer u) (Falls G fair true G.states new u) (so_far.within u w)
        (λ x t tl d. let o = pro.extends t d.0 in (omega (arith, d.0), (λ h. omega (arith, d.1 h)), (λ h. omega (arith, d.2 h))))
        (so_far.forced u w)

    -- a loss with all that is short goes on by one budget, where the states with an inner rank are lost with r once those without an outer rank are with r - 1
    short_more : {L : ℕ → ℕ → Type 0} → Short L G.states outer r
        → (((t : ℕ) → t < G.states → get_or outer t 0 ≡ 0 → L t (r - 1)) → (s : ℕ) → s < G.states → 0 < get_or inner s 0 → L s r)
        → Short L G.states new (r + 1)
    short_more {L} short more s k l lt h =
        below_or k r
        (λ b. short s k l b (λ p. let q = pro.extends s p in omega (arith, h (omega arith))))
        (λ b.
        let is : k ≡ r = omega arith in
        subst (L s) (sym is)
        (more (λ t tl z. short t (r - 1) tl (omega (arith, so_far.below t)) (λ p. absurd (let q : ⊥ = omega arith in q))) s l
        (zero_or (get_or inner s 0)
        (λ f. absurd (let q : ⊥ = omega (arith, h (new_positive s l f), new_below s) in q))
        (λ p. p))))

    pub round_more : r ≤ G.states + 1 → OuterRanks fair G new (r + 1)
    round_more le =
        record {
          within = new_within;
          below = new_below;
          forced = λ u p.
              zero_or (get_or outer u 0)
              (λ e. new_forced u (new_within u p) (e, zero_or (get_or inner u 0) (λ f. f) (λ w. omega (arith, pro.other u w))))
              (old_forced u);
          beaten = λ e m. short_more (so_far.beaten e m) (inner_beaten v (small le) (in_mode true e));
          outplayed = λ e. short_more (so_far.outplayed e) (inner_outplayed v (small le) (in_mode false e));
        }

    pub round_grows : gave ≡ true → Grows G.states outer new
    round_grows e =
        let w = pro.more e in
        (w.0, w.1, w.2.0, new_positive w.0 w.1 w.2.1)

  -- after a round that gave no rank: each state has one of the two
  module _ (le : r ≤ G.states + 1) (total : (s : ℕ) → s < G.states → get_or outer s 0 ≡ 0 → 0 < get_or inner s 0) where
    outer_ranked : Ranked G fair true G.states outer
    outer_ranked = record { within = so_far.within; forced = so_far.forced }

    inner_ranked : Ranked G (not fair) false G.states inner
    inner_ranked =
        record {
          within = at.ranks.within;
          forced = λ u p.
              forces_map v (not fair) u (Favorable G (not fair) (ranked_below (get_or inner u 0) inner) (ranked_below rank_limit outer))
              (Falls G (not fair) false G.states inner u) (at.ranks.within u p)
              (λ x t tl d. (
                total t tl (below_none rank_limit outer t d.0 (small le t)),
                (λ h. (ranked_below_lem (get_or inner u 0) inner t (d.1 h)).1),
                (λ h. omega (arith, at.ranks.below t)),
              ))
              (at.ranks.forced u p);
        }

    -- fair: a pass before the one that gave a state its inner rank left it out
    exact_distances : fair ≡ true → ExactDistances G inner
    exact_distances e s p some lt =
        forces_map v true s (Favorable G true (ranked_below rank_limit outer) (ranked_below p inner))
        (λ x t. (0 < get_or inner t 0 → p ≤ get_or inner t 0) × (holds G x ≡ true → get_or inner t 0 ≡ 0)) (at.ranks.within s (omega arith))
        (λ x t tl d. (not_lower p inner t d.0, λ h. at.ranks.apart t (ranked_below_lem rank_limit outer t (d.1 h)).0))
        ((in_mode true e).stayed s p some lt)

    -- stable: so the system is beaten with less
    exact_needs : fair ≡ false → ExactNeeds G G.states inner
    exact_needs e =
        record {
          ranked = subst (λ (f : Bool). Ranked G (not f) false G.states inner) e inner_ranked;
          beaten = λ s k l h.
              needs_beaten v (in_mode false e) (subst (λ (f : Bool). Ranked G f true G.states outer) e outer_ranked) total k s l h;
        }

    certified : Certified fair G outer inner
    certified =
        record {
          outer_ranked = outer_ranked;
          inner_ranked = inner_ranked;
          outer_bound = λ t. omega (arith, so_far.below t);
          inner_bound = λ t. omega (arith, at.ranks.below t);
          each = λ s l. zero_or (get_or outer s 0) (λ e. ◌⊎◌.inr (e, total s l e)) (λ p. ◌⊎◌.inl (p, at.ranks.apart s p));
          rounds = λ e s k m l lt. so_far.beaten e m s k l (omega (arith, so_far.below s)) (λ p. lt);
          distances = exact_distances;
          needs = exact_needs;
          counts = λ e s k l lt. so_far.outplayed e s k l (omega (arith, so_far.below s)) (λ p. lt);
        }

  pub rounds_end : {new : List ℕ} {gave : Bool} → Promoted G.states r outer inner new gave → gave ≡ false → r ≤ G.states + 1 → Certified fair G new inner
  rounds_end pro e le =
      let z = pro.none e in
      subst (λ (l : List ℕ). Certified fair G l inner) (sym z.0) (certified le z.1)
