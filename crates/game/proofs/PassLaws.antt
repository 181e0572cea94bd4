-- Laws of the passes that give inner ranks: before the first, one more state, after each, and after the last.
-- Assumes nothing.
use Rattle.std.proofs.Common.{◌≡◌, ℕ, ◌+◌, ◌<◌, ◌≤◌, Bool, true, false, not, List, length, get_or, set, sym, ap, ◌∙◌, subst, arith, get_or-set_other, get_or-set_same}
use Rattle.game.specs.inner.Limits.{rank_limit}
use Rattle.plays.specs.Arena.{Arena}
use Rattle.game.specs.inner.Valid.{Valid}
use Rattle.game.specs.inner.Serving.{ranked_below}
use Rattle.game.specs.inner.Rounds.{Unranked, Attracts, Keeps, InnerRanks, Stayed, Passed, Attraction}
use Rattle.plays.proofs.CaseLaws.{zero_or, same_or}
use Rattle.game.proofs.LimitLaws.{none_below_lem, not_below, below_none, same_below}
use Rattle.game.proofs.ForcingLaws.{favorable_map}

-- before the first pass there are no ranks
pub no_ranks : {fair : Bool} {G : Arena} {outer : List ℕ} (inner : List ℕ) → ((t : ℕ) → get_or inner t 0 ≡ 0) → InnerRanks fair G outer inner 1
no_ranks inner z =
    record {
      apart = λ t p. z t;
      within = λ t p. let e = z t in absurd (let q : ⊥ = omega arith in q);
      below = λ t. let e = z t in omega arith;
      forced = λ s p. let e = z s in absurd (let q : ⊥ = omega arith in q);
    }

-- and no pass left out a state
pub no_passes : (fair : Bool) (G : Arena) (outer inner : List ℕ) → Stayed fair G outer inner 1
no_passes fair G outer inner s p l z pos lt up = absurd (let q : ⊥ = omega arith in q)

wider : {fair : Bool} {G : Arena} {outer inner : List ℕ} {k : ℕ} (n : ℕ) → k ≤ n → InnerRanks fair G outer inner k → InnerRanks fair G outer inner n
wider n le h = record { apart = h.apart; within = h.within; below = λ t. omega (arith, h.below t); forced = h.forced }

-- one more state of a pass
module _ {fair : Bool} {G : Arena} {outer old inner : List ℕ} {p k : ℕ} {gave : Bool} (so_far : Passed fair G outer old inner p k gave) where
  -- that gets no rank
  pub pass_stays : (Unranked outer inner k → Keeps fair G outer inner p k) → Passed fair G outer old inner p (k + 1) gave
  pass_stays here =
      record {
        ranks = so_far.ranks;
        stayed = so_far.stayed;
        keeps = λ s l. same_or s k
            (λ e. subst (λ (i : ℕ). Unranked outer inner i → Keeps fair G outer inner p i) (sym e) here)
            (λ d. so_far.keeps s (omega arith));
        extends = so_far.extends;
        more = λ e. let w = so_far.more e in (w.0, omega arith, w.2, w.3);
        none = so_far.none;
      }

  -- that gets the rank p
  module _ (v : Valid G) (hk : k < G.states) (long : k < length inner) (pos : 0 < p) (un : Unranked outer inner k)
      (force : Attracts fair G outer inner p k) where
    abbrev new : List ℕ
    new = set inner k p

    same : get_or new k 0 ≡ p
    same = get_or-set_same inner k p 0 long

    other : (t : ℕ) → (t ≡ k → ⊥) → get_or new t 0 ≡ get_or inner t 0
    other t d = get_or-set_other inner k t p 0 d

    -- the ranks of earlier passes are as they were
    earlier : (q : ℕ) → q ≤ p → (t : ℕ) → ranked_below q new t ≡ ranked_below q inner t
    earlier q le t =
        same_or t k
        (λ e.
        let a = ap (λ (i : ℕ). get_or new i 0) e ∙ same in
        not_below q new t (omega arith) ∙ sym (none_below_lem q inner t (ap (λ (i : ℕ). get_or inner i 0) e ∙ un.1)))
        (λ d. same_below q new inner t (other t d))

    attracts : (q : ℕ) → q ≤ p → (s : ℕ) → s < G.states → Attracts fair G outer inner q s → Attracts fair G outer new q s
    attracts q le s l =
        favorable_map v (not fair) s (ranked_below q inner) (ranked_below rank_limit outer) (ranked_below q new) (ranked_below rank_limit outer) l
        (λ t e. earlier q le t ∙ e) (λ t e. e)

    keeps : (q : ℕ) → q ≤ p → (s : ℕ) → s < G.states → Keeps fair G outer inner q s → Keeps fair G outer new q s
    keeps q le s l =
        favorable_map v fair s (ranked_below rank_limit outer) (ranked_below q inner) (ranked_below rank_limit outer) (ranked_below q new) l
        (λ t e. e) (λ t e. earlier q le t ∙ e)

    -- a state's certificate speaks of the ranks below its own
    forced : (u : ℕ) → 0 < get_or new u 0 → Attracts fair G outer new (get_or new u 0) u
    forced u h =
        same_or u k
        (λ e.
        subst (λ (w : ℕ). Attracts fair G outer new (get_or new w 0) w) (sym e)
        (subst (λ (q : ℕ). Attracts fair G outer new q k) (sym same) (attracts p (omega arith) k hk force)))
        (λ d.
        let i = so_far.ranks in
        let q = other u d in
        let w : 0 < get_or inner u 0 = omega arith in
        subst (λ (q : ℕ). Attracts fair G outer new q u) (sym q)
        (attracts (get_or inner u 0) (omega (arith, i.below u)) u (i.within u w) (i.forced u w)))

    ranks : InnerRanks fair G outer new (p + 1)
    ranks =
        let i = so_far.ranks in
        record {
          apart = λ t h. other t (λ e. let q = ap (λ (j : ℕ). get_or outer j 0) e in let z : ⊥ = omega (arith, un.0) in z) ∙ i.apart t h;
          within = λ t h. same_or t k (λ e. omega arith) (λ d. i.within t (let q = other t d in omega arith));
          below = λ t. same_or t k
              (λ e. let q = ap (λ (j : ℕ). get_or new j 0) e in omega (arith, same))
              (λ d. omega (arith, other t d, i.below t));
          forced = forced;
        }

    -- a state that an earlier pass left out was left out before this state got its rank
    stayed : Stayed fair G outer new p
    stayed s q l z pos lt up =
        keeps q (omega arith) s l
        (so_far.stayed s q l z pos lt
        (λ h.
        let o = other s (λ e. let w = ap (λ (j : ℕ). get_or inner j 0) e in let z' : ⊥ = omega (arith, un.1) in z') in
        omega (arith, up (omega arith))))

    -- a state without a rank is another one, and was without one
    was : (s : ℕ) → Unranked outer new s → (s ≡ k → ⊥) × Unranked outer inner s
    was s z =
        let d : s ≡ k → ⊥ = λ e. let q = ap (λ (j : ℕ). get_or new j 0) e in let z' : ⊥ = omega (arith, same, z.1) in z' in
        (d, (z.0, sym (other s d) ∙ z.1))

    pub pass_gains : Passed fair G outer old new p (k + 1) true
    pass_gains =
        record {
          ranks = ranks;
          stayed = stayed;
          keeps = λ s l z.
              let w = was s z in
              let d = w.0 in
              let l' : s < k = omega arith in
              keeps p (omega arith) s (omega arith) (so_far.keeps s l' w.1);
          extends = λ t h.
              let e = so_far.extends t h in
              other t (λ d. let q = ap (λ (j : ℕ). get_or inner j 0) d in let z : ⊥ = omega (arith, un.1) in z) ∙ e;
          more = λ e. (
            k,
            omega arith,
            zero_or (get_or old k 0) (λ z. z) (λ h. absurd (let z : ⊥ = omega (arith, so_far.extends k h, un.1) in z)),
            omega (arith, same),
          );
          none = λ e. absurd (mathlib.Core.Bool.true≢false e);
        }

-- after a pass over all states: those that it left out have no rank yet, and are kept from the ranks below it
pub pass_stayed : {fair : Bool} {G : Arena} {outer old inner : List ℕ} {p : ℕ} {gave : Bool} → Passed fair G outer old inner p G.states gave
    → Stayed fair G outer inner (p + 1)
pass_stayed {fair} {G} {outer} {old} {inner} {p} h s q l z pos lt up =
    same_or q p
    (λ e.
    let none = zero_or (get_or inner s 0) (λ n. n) (λ n. absurd (let w : ⊥ = omega (arith, up n, h.ranks.below s) in w)) in
    subst (λ (i : ℕ). Keeps fair G outer inner i s) (sym e) (h.keeps s l (z, none)))
    (λ d. h.stayed s q l z pos (omega arith) up)

-- after a pass that gave no rank
pub passes_end : {fair : Bool} {G : Arena} {outer old inner : List ℕ} {p : ℕ} {gave : Bool} → Valid G → p ≤ G.states + 1 → InnerRanks fair G outer old p
    → Passed fair G outer old inner p G.states gave → gave ≡ false → Attraction fair G outer inner
passes_end {fair} {G} {outer} {old} {inner} {p} v le i last e =
    let i' = subst (λ (l : List ℕ). InnerRanks fair G outer l p) (sym (last.none e)) i in
    record {
      ranks = wider (G.states + 1) le i';
      stayed = λ s q pos lt.
          let none = zero_or (get_or outer s 0) (λ n. n) (λ n. absurd (let w : ⊥ = omega (arith, i'.apart s n) in w)) in
          last.stayed s q (i'.within s (omega arith)) none pos (omega (arith, i'.below s)) (λ h. lt);
      keeps = λ s l z.
          favorable_map v fair s (ranked_below rank_limit outer) (ranked_below p inner) (ranked_below rank_limit outer) (ranked_below rank_limit inner) l
          (λ t w. w) (λ t d. none_below_lem rank_limit inner t (below_none p inner t d (i'.below t))) (last.keeps s l z);
    }
