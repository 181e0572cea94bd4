-- Laws of the needs: what a look at a state says, the lift of one state, the sweeps over all states, and the needs after the last one.
-- Assumes nothing.
use Rattle.std.proofs.Common.{◌≡◌, ℕ, ◌+◌, ◌-◌, ◌<◌, ◌≤◌, Bool, true, false, ◌⊎◌, List, length, get_or, set, sym, refl, ap, ◌∙◌, subst, ⊎_elim, arith, get_or-set_other, get_or-set_same, le-ltb, lt-ltb, eq-eqb, ne_eqb}
use mathlib.Core.Bool.{beq}
use Rattle.automaton.specs.Limits.{state_limit}
use Rattle.plays.specs.Arena.{Arena, next, goal, holds}
use Rattle.plays.specs.inner.Rank.{Forces, Ranked}
use Rattle.plays.specs.inner.Beaten.{Beaten, forced}
use Rattle.game.specs.inner.Valid.{Valid}
use Rattle.game.specs.inner.Serving.{ranked_below, safe_below, IsUnserved, AllServed}
use Rattle.game.specs.inner.Needs.{Bounds, Shrinks, Stands, raised_need, height_of, Higher, NextNeed, Swept}
use Rattle.game.specs.inner.Wide.{Enters, Bars}
use Rattle.reader.proofs.BoolLaws.{on, clash}
use Rattle.plays.proofs.CaseLaws.{zero_or, same_or, below_or}
use Rattle.game.proofs.LimitLaws.{ranked_below_lem, not_lower}
use Rattle.game.proofs.IndexLaws.{next_below}
use Rattle.game.proofs.ServingLaws.{served_at, unserved_at}

-- ---- heights

pub raised_low : (l k : ℕ) → k < l → raised_need l k ≡ k + 1
raised_low l k h = rw (lt-ltb k l h)

pub raised_high : (l k : ℕ) → l ≤ k → raised_need l k ≡ 0
raised_high l k h = rw (le-ltb k l h)

pub height_none : (k : ℕ) → k ≡ 0 → height_of k ≡ state_limit + 1
height_none k e = rw (eq-eqb k 0 e)

pub height_some : (k : ℕ) → 0 < k → height_of k ≡ k
height_some k p = rw (ne_eqb k 0 (λ e. let z : ⊥ = omega arith in z))

height_dropped : (k : ℕ) → 0 < k → k ≤ state_limit → height_of k < height_of 0
height_dropped k p small = omega (arith, height_some k p, height_none 0 refl)

-- the next need is higher
height_raised : (l k : ℕ) → 0 < k → k ≤ state_limit → height_of k < height_of (raised_need l k)
height_raised l k p small =
    below_or k l
    (λ h.
    let e = raised_low l k h in
    omega (arith, height_some k p, height_some (raised_need l k) (omega arith)))
    (λ h. omega (arith, height_some k p, height_none (raised_need l k) (raised_high l k h)))

-- ---- a look at one state

pub beq_true : (b : Bool) → beq b true ≡ b
beq_true true = refl
beq_true false = refl

-- what the first input that no output serves says of state s: every input has an output into a need below p, or within the limit m, as its condition asks,
-- or one has none
module _ (G : Arena) (m : ℕ) (needs : List ℕ) (p s : ℕ) where
  pub all_enter : AllServed G (ranked_below p needs) (safe_below true (m + 1) needs) s → Forces G true s (Enters G m p needs)
  all_enter all x h =
      let w = served_at G (ranked_below p needs) (safe_below true (m + 1) needs) s all x h in
      let t = next G s x w.0 in (
        w.0,
        w.1,
        ⊎_elim
            (λ g. ◌⊎◌.inl g)
            (λ d. ◌⊎◌.inr (on (holds G x)
            (λ e. let q = ranked_below_lem p needs t (rw e at d.1) in (q.0, (λ _. q.1), (λ z. clash (holds G x) e z)))
            (λ e.
            let q = ranked_below_lem (m + 1) needs t (sym (beq_true (ranked_below (m + 1) needs t)) ∙ rw e at d.1) in
            (q.0, (λ z. clash (holds G x) z e), (λ _. omega (arith, q.1))))))
            w.2,
      )

  bars_at : (r : ℕ) → IsUnserved G (ranked_below p needs) (safe_below true (m + 1) needs) s r → (y : ℕ) → y < G.outputs → (goal G (next G s r y) ≡ false) × Bars G m p needs r (next G s r y)
  bars_at r u y h =
      let t = next G s r y in
      let w = unserved_at G (ranked_below p needs) (safe_below true (m + 1) needs) s r u y h in (
        w.0,
        λ some. (
          (λ e. not_lower p needs t (rw e at w.1) some),
          (λ e. omega (arith, not_lower (m + 1) needs t (sym (beq_true (ranked_below (m + 1) needs t)) ∙ rw e at w.1) some)),
        ),
      )

  pub one_bars : (r : ℕ) → r < G.inputs → IsUnserved G (ranked_below p needs) (safe_below true (m + 1) needs) s r → Forces G false s (Bars G m p needs)
  one_bars r one u = (r, one, bars_at r u)

-- a state without a need has none to lift
pub look_none : {G : Arena} {l : ℕ} {needs : List ℕ} {s : ℕ} → get_or needs s 0 ≡ 0 → NextNeed G l needs s 0
look_none e =
    record {
      stands = λ _ p. absurd (let z : ⊥ = omega arith in z);
      lifts = λ d. absurd (d (sym e));
    }

-- a need above the limit is dropped: with less the system is beaten
pub look_above : {G : Arena} {l : ℕ} {needs : List ℕ} {s : ℕ} → Bounds G l needs → s < G.states → l < get_or needs s 0 → NextNeed G l needs s 0
look_above {needs = needs} {s} b hs above =
    let some : 0 < get_or needs s 0 = omega arith in
    record {
      stands = λ e. absurd (let z : ⊥ = omega arith in z);
      lifts = λ _.
          record {
            some = some;
            small = omega arith;
            higher = height_dropped (get_or needs s 0) some (b.small s);
            beaten = λ k kl _. b.beaten s k hs kl (λ _. omega arith);
          };
    }

-- a state with a need of at most the limit, by the first input that no output serves
module _ {G : Arena} (v : Valid G) {l : ℕ} {needs : List ℕ} {s : ℕ} (b : Bounds G l needs) (hs : s < G.states) (some : 0 < get_or needs s 0)
    (within : get_or needs s 0 ≤ l) where
  abbrev own : ℕ
  own = get_or needs s 0

  -- all inputs are served: the need stands
  pub look_stands : AllServed G (ranked_below (get_or needs s 0) needs) (safe_below true (l + 1) needs) s → NextNeed G l needs s own
  look_stands all =
      record {
        stands = λ _ _. (within, all_enter G l needs own s all);
        lifts = λ d. absurd (d refl);
      }

  module _ {r : ℕ} (one : r < G.inputs) (u : IsUnserved G (ranked_below (get_or needs s 0) needs) (safe_below true (l + 1) needs) s r) where
    entered : (y : ℕ) → y < G.outputs → next G s r y < G.states
    entered y hy = next_below v s r y hs one hy

    bars : (y : ℕ) → y < G.outputs → (goal G (next G s r y) ≡ false) × Bars G l own needs r (next G s r y)
    bars = bars_at G l needs own s r u

    -- an input with the condition is unserved: each output leaves the system beaten with one less than the need, so it is beaten with the need
    module _ (has : holds G r ≡ true) where
      beaten_own : Beaten false G l s own
      beaten_own =
          forced {k = own} r one (λ y h. (bars y h).0)
          (λ y h. rw has (b.beaten (next G s r y) (own - 1) (entered y h) (omega arith) (λ w. omega (arith, ((bars y h).1 w).0 has))))

      raised_beaten : (k : ℕ) → k ≤ l → (0 < raised_need l own → k < raised_need l own) → Beaten false G l s k
      raised_beaten k kl q =
          let le : k ≤ own = below_or own l
          (λ h. let e = raised_low l own h in omega (arith, q (omega arith)))
          (λ h. omega arith) in
          same_or k own
          (λ e. subst (λ (i : ℕ). Beaten false G l s i) (sym e) beaten_own)
          (λ d. b.beaten s k hs kl (λ p. omega arith))

      raised_small : l ≤ state_limit → raised_need l own ≤ state_limit
      raised_small le = below_or own l (λ h. omega (arith, raised_low l own h)) (λ h. omega (arith, raised_high l own h))

      pub look_raises : l ≤ state_limit → NextNeed G l needs s (raised_need l own)
      look_raises le =
          let up = height_raised l own some (b.small s) in
          record {
            stands = λ e. let q = ap height_of e in absurd (let z : ⊥ = omega arith in z);
            lifts = λ _. record { some = some; small = raised_small le; higher = up; beaten = raised_beaten };
          }

    -- one without it: each output leaves the system beaten with the limit, so it is beaten with every budget
    module _ (has : holds G r ≡ false) where
      beaten_all : (k : ℕ) → Beaten false G l s k
      beaten_all k =
          forced {k = k} r one (λ y h. (bars y h).0)
          (λ y h. rw has (b.beaten (next G s r y) l (entered y h) (omega arith) (λ w. ((bars y h).1 w).1 has)))

      pub look_drops : NextNeed G l needs s 0
      look_drops =
          record {
            stands = λ e. absurd (let z : ⊥ = omega arith in z);
            lifts = λ _. record { some = some; small = omega arith; higher = height_dropped own some (b.small s); beaten = λ k _ _. beaten_all k };
          }

-- ---- the needs with one state lifted

module _ {G : Arena} {l : ℕ} {needs : List ℕ} {s w : ℕ} (b : Bounds G l needs) (hs : s < G.states) (high : Higher G l needs s w)
    (long : s < length needs) where
  abbrev new : List ℕ
  new = set needs s w

  same : (t : ℕ) → t ≡ s → get_or new t 0 ≡ w
  same t e = ap (λ (i : ℕ). get_or new i 0) e ∙ get_or-set_same needs s w 0 long

  other : (t : ℕ) → (t ≡ s → ⊥) → get_or new t 0 ≡ get_or needs t 0
  other t d = get_or-set_other needs s t w 0 d

  lifted_beaten : (u k : ℕ) → u < G.states → k ≤ l → (0 < get_or new u 0 → k < get_or new u 0) → Beaten false G l u k
  lifted_beaten u k hu kl q =
      same_or u s
      (λ e.
      subst (λ (i : ℕ). Beaten false G l i k) (sym e)
      (high.beaten k kl (subst (λ (n : ℕ). 0 < n → k < n) (same u e) q)))
      (λ d. b.beaten u k hu kl (subst (λ (n : ℕ). 0 < n → k < n) (other u d) q))

  lifted_bounds : Bounds G l new
  lifted_bounds =
      record {
        within = λ t p. same_or t s (λ e. omega arith) (λ d. b.within t (let q = other t d in omega arith));
        small = λ t. same_or t s (λ e. omega (arith, same t e, high.small)) (λ d. omega (arith, other t d, b.small t));
        beaten = lifted_beaten;
      }

  lifted_kept : Shrinks needs new
  lifted_kept t p =
      same_or t s
      (λ e. subst (λ (i : ℕ). 0 < get_or needs i 0) (sym e) high.some)
      (λ d. let q = other t d in omega arith)

  lifted_here : height_of (get_or needs s 0) < height_of (get_or new s 0)
  lifted_here = rw (same s refl) high.higher

  lifted_rises : (t : ℕ) → height_of (get_or needs t 0) ≤ height_of (get_or new t 0)
  lifted_rises t =
      same_or t s
      (λ e. subst (λ (i : ℕ). height_of (get_or needs i 0) ≤ height_of (get_or new i 0)) (sym e) (omega (arith, lifted_here)))
      (λ d. omega (arith, ap height_of (other t d)))

-- ---- a sweep

-- before its first state
pub sweep_starts : {G : Arena} {l : ℕ} {needs : List ℕ} → Bounds G l needs → Swept G l needs needs 0 false
sweep_starts b =
    record {
      bounds = b;
      kept = λ t p. p;
      rises = λ t. omega arith;
      more = λ e. absurd (mathlib.Core.Bool.false≢true e);
      stand = λ e s h. absurd (let z : ⊥ = omega arith in z);
    }

-- one more state
module _ {G : Arena} {l : ℕ} {old needs : List ℕ} {k : ℕ} {lifted : Bool} (so_far : Swept G l old needs k lifted) where
  -- whose need stands
  pub sweep_stays : Stands G l needs k → Swept G l old needs (k + 1) lifted
  sweep_stays here =
      record {
        bounds = so_far.bounds;
        kept = so_far.kept;
        rises = so_far.rises;
        more = λ e. let w = so_far.more e in (w.0, omega arith, w.2);
        stand = λ e s h. same_or s k (λ q. subst (λ (i : ℕ). Stands G l needs i) (sym q) here) (λ d. so_far.stand e s (omega arith));
      }

  -- whose need is lifted
  pub sweep_lifts : {w : ℕ} → k < G.states → k < length needs → Higher G l needs k w → Swept G l old (set needs k w) (k + 1) true
  sweep_lifts hk long high =
      let b = so_far.bounds in
      record {
        bounds = lifted_bounds b hk high long;
        kept = λ t p. so_far.kept t (lifted_kept b hk high long t p);
        rises = λ t. omega (arith, so_far.rises t, lifted_rises b hk high long t);
        more = λ e. (k, omega arith, omega (arith, so_far.rises k, lifted_here b hk high long));
        stand = λ e. absurd (mathlib.Core.Bool.true≢false e);
      }

-- after a sweep that lifted none the needs are a certificate, and within the limit
module _ {G : Arena} {l : ℕ} {old needs : List ℕ} {lifted : Bool} (last : Swept G l old needs G.states lifted) (e : lifted ≡ false) where
  stand : (s : ℕ) → Stands G l needs s
  stand s p = last.stand e s (last.bounds.within s p) p

  pub sweeps_end : Ranked G true false l needs
  sweeps_end = record { within = last.bounds.within; forced = λ s p. (stand s p).1 }

  pub sweeps_low : (t : ℕ) → get_or needs t 0 ≤ l
  sweeps_low t = zero_or (get_or needs t 0) (λ z. omega arith) (λ p. (stand t p).0)
