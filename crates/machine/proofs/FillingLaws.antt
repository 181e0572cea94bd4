-- The second walk's steps (specs/inner/Exploration.antt): once all states are listed, a search for the state that a letter leads to ends at its number; and a
-- letter that leads where an earlier one does has its transition. Assumes nothing.
use Prim.Native.Nat.{ℕ, suc, ◌+◌, ◌*◌, ◌≤◌, ◌<◌, min}
use mathlib.Core.Path.{◌≡◌, sym, ap, ap₂, ◌∙◌}
use mathlib.Core.List.{List}
use mathlib.Core.Logic.{⊎_elim}
use native.Mathlib.Nat.{eq-or-lt_of_le}
use native.Mathlib.Omega.{arith}
use borrow.Author.Count.{below_more}
use lib.Arith.{digits_div, digits_mod}
use lib.ListN.{length, get_or}
use Rattle.machine.specs.Machine.{Machine}
use Rattle.machine.specs.Discovery.{state_at, position, target, states, number_of_states}
use Rattle.machine.specs.inner.Exploration.{Place, AllListed, Filled}
use Rattle.machine.proofs.PositionLaws.{get_d_position, position_any}
use Rattle.machine.proofs.Reachable.{distinct, stays_in}

module _ {S : Type 0} (M : Machine S) (L limit n : ℕ) (at : ℕ → S) (few : n ≤ limit) (all : AllListed M L limit n at) where
  pub all_count : n ≡ length (states M L limit)
  unfolding number_of_states
  all_count = let e : n ≡ min (suc limit) (length (states M L limit)) = all.number in omega arith

  -- letter a of state s
  module _ (s a : ℕ) (hs : s < n) (ha : a < L) where
    -- the state that it leads to, in the list and at the places
    abbrev entered : S
    entered = M.after (state_at M (states M L limit) s) a

    at_entered : M.after (at s) a ≡ entered
    at_entered = ap (λ (y : S). M.after y a) (all.members few s hs)

    -- its number, by the letter and the state
    number_at : position M (target M L (states M L limit) (s * L + a)) (states M L limit) ≡ position M entered (states M L limit)
    unfolding target
    number_at =
        let ws = states M L limit in
        ap₂ (λ (i j : ℕ). position M (M.after (state_at M ws i) j) ws) (digits_div s ha) (digits_mod s ha)

    -- a search for it ends at a place, which is its number
    pub place_is_number : (x : S) (p : ℕ) → x ≡ M.after (at s) a → Place at n x p
        → (p < n) × (p ≡ position M (target M L (states M L limit) (s * L + a)) (states M L limit))
    place_is_number x p e place =
        let ws = states M L limit in
        let c = all_count in
        let q = position M entered ws in
        let l : q < length ws = stays_in M L limit (omega arith) (omega arith) s a (omega arith) ha in
        let here : at q ≡ x = all.members few q (omega arith) ∙ get_d_position M ws entered l ∙ sym at_entered ∙ sym e in
        let some : p < n = ⊎_elim (λ f. absurd (place.nowhere f q (omega arith) here)) (λ h. h) (eq-or-lt_of_le place.within) in
        let same : q ≡ p =
        position_any M ws entered p (distinct M L limit) (omega arith) (sym (all.members few p some) ∙ place.here some ∙ e ∙ at_entered) in
        (some, sym same ∙ sym number_at)

    -- one more transition, where those before it are kept
    module _ (transitions written : List ℕ) (filled : Filled M L (states M L limit) transitions (s * L + a))
        (kept : (u : ℕ) → u < s * L + a → get_or written u 0 ≡ get_or transitions u 0) where
      stored : get_or written (s * L + a) 0 ≡ position M (target M L (states M L limit) (s * L + a)) (states M L limit)
          → Filled M L (states M L limit) written (s * L + (a + 1))
      unfolding Filled
      stored e u h =
          let ws = states M L limit in
          below_more (λ (k : ℕ). get_or written k 0 ≡ position M (target M L ws k) ws) (s * L + a) (λ k b. kept k b ∙ filled k b) e u (omega arith)

      -- a place of the state that the letter leads to
      pub filled_place : (x : S) (p : ℕ) → x ≡ M.after (at s) a → Place at n x p → get_or written (s * L + a) 0 ≡ p
          → Filled M L (states M L limit) written (s * L + (a + 1))
      filled_place x p e place put = stored (put ∙ (place_is_number x p e place).1)

      -- the transition of an earlier letter that leads every state where this one does
      pub filled_twin : (b : ℕ) → b < a → ((y : S) → M.after y b ≡ M.after y a) → get_or written (s * L + a) 0 ≡ get_or transitions (s * L + b) 0
          → Filled M L (states M L limit) written (s * L + (a + 1))
      unfolding Filled target
      filled_twin b h twin copied =
          let ws = states M L limit in
          let hb : b < L = omega arith in
          stored
          (copied ∙ filled (s * L + b) (omega arith)
          ∙ ap₂ (λ (i j : ℕ). position M (M.after (state_at M ws i) j) ws) (digits_div s hb) (digits_mod s hb)
          ∙ ap (λ (y : S). position M y ws) (twin (state_at M ws s)) ∙ sym number_at)
