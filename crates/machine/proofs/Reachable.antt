-- The list of the discovered states (specs/Discovery.antt) holds each reachable state exactly once, where they are at most the limit,
-- and more than the limit of different ones where they are more. Assumes nothing.
use Prim.Native.Nat.{ℕ, suc, ◌+◌, ◌-◌, ◌*◌, ◌/◌, ◌%◌, ◌≤◌, ◌<◌}
use mathlib.Core.Path.{◌≡◌, refl, sym, ap, ap₂, ◌∙◌, subst}
use mathlib.Core.List.{[], ◌∷◌}
use native.Mathlib.Nat.{not-suc-le-zero, mul-le-mul_right, mod-lt}
use native.Mathlib.Omega.{arith}
use lib.Arith.{digits_lt, digits_div, digits_mod}
use lib.ListN.{length, take, length-append, get_or-append}
use lib.Seq.{length-take-le, get_or-take}
use Rattle.machine.specs.Machine.{Machine}
use Rattle.machine.specs.Discovery.{Reachable, begin, step, state_at, position, target, discovered, states, number_of_states, Distinct}
use Rattle.machine.specs.Automaton.{Numbering, TooManyStates}
use Rattle.machine.proofs.PositionLaws.{get_d_position, position_none, zero_in, Once, once_more, All, all_more}
use Rattle.machine.proofs.DiscoveryLaws.{looked, quotient_lt, by_steps, closed, discovered_stays}

-- ---- of each list

module _ {S : Type 0} (M : Machine S) (L : ℕ) where
  -- no state stands twice
  once : (t : ℕ) → Once M (discovered M L t)
  once =
      by_steps M L (Once M) (once_more M [] M.first (position_none M M.first) (λ i h. absurd (not-suc-le-zero h)))
      (λ t h n o. once_more M (discovered M L t) (looked M L t) n o)

  pub once_distinct : (t : ℕ) → Distinct M (discovered M L t)
  once_distinct t i j hi hj e = sym (once t i hi) ∙ ap (λ (y : S). position M y (discovered M L t)) e ∙ once t j hj

  -- each is reachable
  all_reachable : 0 < L → (t : ℕ) → All M (Reachable M L) (discovered M L t)
  unfolding target
  all_reachable pos =
      by_steps M L (All M (Reachable M L)) (all_more M (Reachable M L) [] M.first begin (λ i h. absurd (not-suc-le-zero h)))
      (λ t h n o.
      all_more M (Reachable M L) (discovered M L t) (looked M L t)
      (step (t % L) (mod-lt t pos) (o (t / L) (quotient_lt t (length (discovered M L t)) L pos h))) o)

  -- the start is state 0
  pub starts : (t : ℕ) → (0 < length (discovered M L t)) × (state_at M (discovered M L t) 0 ≡ M.first)
  starts =
      by_steps M L (λ us. (0 < length us) × (state_at M us 0 ≡ M.first)) (omega arith, refl)
      (λ t h n p.
      let ws = discovered M L t in
      (omega (arith, length-append ws (looked M L t ∷ []), p.0), get_or-append ws (looked M L t ∷ []) M.first 0 p.0 ∙ p.1))

-- ---- of the whole list

module _ {S : Type 0} (M : Machine S) (L limit : ℕ) where
  pub some_states : 0 < length (states M L limit)
  unfolding states
  some_states = (starts M L (limit * L)).0

  pub first_state : state_at M (states M L limit) 0 ≡ M.first
  unfolding states
  first_state = (starts M L (limit * L)).1

  pub distinct : Distinct M (states M L limit)
  unfolding states
  distinct = once_distinct M L (limit * L)

module _ {S : Type 0} (M : Machine S) (L limit : ℕ) (pos : 0 < L) where
  pub reachable : (s : ℕ) → s < length (states M L limit) → Reachable M L (state_at M (states M L limit) s)
  unfolding states
  reachable = all_reachable M L pos (limit * L)

  module _ (few : length (states M L limit) ≤ limit) where
    -- where there are at most the limit, every transition leads into the list
    pub stays_in : (s a : ℕ) → s < length (states M L limit) → a < L
        → position M (M.after (state_at M (states M L limit) s) a) (states M L limit) < length (states M L limit)
    unfolding states target
    stays_in s a hs ha =
        let ws = states M L limit in
        let l : s * L + a < length ws * L = digits_lt hs ha in
        let m = mul-le-mul_right L few in
        subst (λ (y : S). position M y ws < length ws) (ap₂ (λ (i j : ℕ). M.after (state_at M ws i) j) (digits_div s ha) (digits_mod s ha))
        (closed M L pos (limit * L) (s * L + a) (omega arith) l)

    -- so every reachable state is in the list
    found : {y : S} → Reachable M L y → position M y (states M L limit) < length (states M L limit)
    found begin =
        subst (λ (y : S). position M y (states M L limit) < length (states M L limit)) (first_state M L limit)
        (zero_in M (states M L limit) (some_states M L limit))
    found (step {s = s} a h r) =
        let i = found r in
        subst (λ (y : S). position M (M.after y a) (states M L limit) < length (states M L limit)) (get_d_position M (states M L limit) s i)
        (stays_in (position M s (states M L limit)) a i h)

    -- a larger limit finds the same list
    pub same_states : (more : ℕ) → limit ≤ more → states M L more ≡ states M L limit
    unfolding states
    same_states more h =
        let m = mul-le-mul_right L h in
        let k = mul-le-mul_right L few in
        let e : limit * L + (more * L - limit * L) ≡ more * L = omega arith in
        ap (discovered M L) (sym e) ∙ discovered_stays M L (limit * L) (more * L - limit * L) k

  -- the list holds each reachable state exactly once, where they are at most the limit
  pub numbered : number_of_states M L limit ≤ limit → Numbering M L (states M L limit)
  unfolding number_of_states
  numbered few =
      record {
        first = first_state M L limit;
        distinct = distinct M L limit;
        reachable = reachable;
        complete = λ y r. (position M y (states M L limit), found few r, get_d_position M (states M L limit) y (found few r));
      }

  -- where they are more, its first are different and reachable, one more than the limit of them
  pub too_many : limit < number_of_states M L limit → TooManyStates M L limit
  unfolding number_of_states
  too_many many =
      let ws = states M L limit in
      let l = length-take-le (suc limit) ws many in
      let same : (s : ℕ) → s < suc limit → state_at M (take (suc limit) ws) s ≡ state_at M ws s = λ s h. get_or-take (suc limit) ws s M.first h in
      record {
        some = take (suc limit) ws;
        many = l;
        distinct = λ s t hs ht e. distinct M L limit s t (omega arith) (omega arith) (sym (same s (omega arith)) ∙ e ∙ same t (omega arith));
        reachable = λ s h. subst (Reachable M L) (sym (same s (omega arith))) (reachable s (omega arith));
      }
