-- The first walk's steps (specs/inner/Exploration.antt): a step that finds a new state or a listed one, a letter that leads where an earlier one does, and the
-- two ends. Assumes nothing.
use Prim.Native.Nat.{ℕ, suc, ◌+◌, ◌-◌, ◌*◌, ◌/◌, ◌%◌, ◌≤◌, ◌<◌}
use mathlib.Core.Path.{◌≡◌, refl, sym, ap, ap₂, ◌∙◌, subst}
use mathlib.Core.List.{List, [], ◌∷◌, ◌++◌}
use mathlib.Core.Logic.{⊎_elim}
use native.Mathlib.Numerals.{add-one}
use native.Mathlib.Nat.{add-mul, mul-le-mul_right, not-suc-le-zero, eq-or-lt_of_le}
use native.Mathlib.Omega.{arith}
use borrow.Author.Count.{below_more}
use lib.Arith.{digits_lt, digits_div, digits_mod}
use lib.ListN.{length, length-append, get_or-append}
use lib.Seq.{get_or-append_seam}
use Rattle.machine.specs.Machine.{Machine}
use Rattle.machine.specs.Discovery.{state_at, position, target, discovered, states, number_of_states}
use Rattle.machine.specs.inner.Exploration.{Place, Listed, AllListed, StateListed}
use Rattle.machine.proofs.PositionLaws.{position_any, position_absent}
use Rattle.machine.proofs.DiscoveryLaws.{looked, looked_place, discovered_old, discovered_new, discovered_grows, discovered_stays, quotient_lt, closed}
use Rattle.machine.proofs.Reachable.{once_distinct}

-- before the first step the one place holds the start
pub listed_none : {S : Type 0} (M : Machine S) (L : ℕ) (at : ℕ → S) → at 0 ≡ M.first → Listed M L 1 0 at
unfolding discovered
listed_none M L at e =
    record { count = refl; members = below_more (λ (i : ℕ). at i ≡ state_at M (M.first ∷ []) i) 0 (λ i l. absurd (not-suc-le-zero l)) e }

-- ---- step t
module _ {S : Type 0} (M : Machine S) (L t n : ℕ) (at : ℕ → S) (pos : 0 < L) (more : t < n * L) (done : Listed M L n t at) where
  has_more : t < length (discovered M L t) * L
  has_more = subst (λ (m : ℕ). t < m * L) done.count more

  -- it looks at a state of the list, which stays
  stays : looked_place M L t < length (discovered M L t) → Listed M L n (t + 1) at
  stays l =
      let same : discovered M L (t + 1) ≡ discovered M L t = ap (discovered M L) (add-one t) ∙ discovered_old M L t has_more l in
      record {
        count = done.count ∙ ap (λ (us : List S). length us) (sym same);
        members = λ i b. done.members i b ∙ ap (λ (us : List S). state_at M us i) (sym same);
      }

  -- an earlier step looked at the same state
  pub listed_again : (u : ℕ) → u < t → target M L (discovered M L t) u ≡ looked M L t → Listed M L n (t + 1) at
  listed_again u h e =
      let ws = discovered M L t in
      let l = has_more in
      stays (subst (λ (y : S). position M y ws < length ws) e (closed M L pos t u h (omega arith)))

  module _ (x : S) (next : x ≡ M.after (at (t / L)) (t % L)) where
    -- x is what the step looks at
    is_looked : x ≡ looked M L t
    unfolding target
    is_looked = next ∙ ap (λ (s : S). M.after s (t % L)) (done.members (t / L) (quotient_lt t n L pos more))

    -- x stands at a place
    pub listed_old : (p : ℕ) → p < n → at p ≡ x → Listed M L n (t + 1) at
    listed_old p h e =
        let c = done.count in
        let q : looked_place M L t ≡ p =
        position_any M (discovered M L t) (looked M L t) p (once_distinct M L t) (omega arith) (sym (done.members p h) ∙ e ∙ is_looked) in
        stays (omega arith)

    module _ (absent : (k : ℕ) → k < n → at k ≡ x → ⊥) where
      is_new : looked_place M L t ≡ length (discovered M L t)
      is_new =
          let c = done.count in
          position_absent M (discovered M L t) (looked M L t) (λ k l q. absent k (omega arith) (done.members k (omega arith) ∙ q ∙ sym is_looked))

      -- x stands nowhere: it is put at place n
      pub listed_new : (now : ℕ → S) → ((i : ℕ) → i < n → now i ≡ at i) → now n ≡ x → Listed M L (n + 1) (t + 1) now
      listed_new now same here =
          let ws = discovered M L t in
          let y = looked M L t in
          let us = ws ++ (y ∷ []) in
          let c = done.count in
          let grown : discovered M L (t + 1) ≡ us = ap (discovered M L) (add-one t) ∙ discovered_new M L t has_more is_new in
          let at_end : state_at M us n ≡ y = ap (λ (i : ℕ). state_at M us i) c ∙ get_or-append_seam ws y [] M.first in
          let members : (i : ℕ) → i < n + 1 → now i ≡ state_at M us i =
          below_more (λ (i : ℕ). now i ≡ state_at M us i) n
          (λ i l. same i l ∙ done.members i l ∙ sym (get_or-append ws (y ∷ []) M.first i (omega arith))) (here ∙ is_looked ∙ sym at_end) in
          record {
            count = omega (arith, length-append ws (y ∷ []), ap (λ (vs : List S). length vs) grown);
            members = λ i l. members i l ∙ ap (λ (vs : List S). state_at M vs i) (sym grown);
          }

      -- and where the places are as many as the limit there are too many
      pub listed_over : (limit : ℕ) → n ≡ limit → limit < number_of_states M L limit
      unfolding states number_of_states
      listed_over limit full =
          let most = limit * L in
          let ws = discovered M L t in
          let c = done.count in
          let b : n * L ≡ limit * L = ap (λ (m : ℕ). m * L) full in
          let one_more : length (discovered M L (suc t)) ≡ length ws + 1 =
          ap (λ (vs : List S). length vs) (discovered_new M L t has_more is_new) ∙ length-append ws (looked M L t ∷ []) in
          let d : suc t + (most - suc t) ≡ most = omega arith in
          let grows : length (discovered M L (suc t)) ≤ length (discovered M L most) =
          subst (λ (i : ℕ). length (discovered M L (suc t)) ≤ length (discovered M L i)) d (discovered_grows M L (suc t) (most - suc t)) in
          omega arith

-- ---- the ends

-- after the last step the places hold all states
pub listed_all : {S : Type 0} (M : Machine S) (L limit t n : ℕ) (at : ℕ → S) → Listed M L n t at → n ≤ limit → t ≡ n * L → AllListed M L limit n at
unfolding states number_of_states
listed_all {S} M L limit t n at done few all =
    let most = limit * L in
    let c = done.count in
    let nl = mul-le-mul_right L few in
    let d : t + (most - t) ≡ most = omega arith in
    let s : discovered M L most ≡ discovered M L t =
    ap (discovered M L) (sym d) ∙ discovered_stays M L t (most - t) (subst (λ (m : ℕ). m * L ≤ t) c (omega arith)) in
    let len : length (discovered M L most) ≡ n = ap (λ (us : List S). length us) s ∙ sym c in
    record { number = omega arith; members = λ q i l. done.members i l ∙ ap (λ (us : List S). state_at M us i) (sym s) }

-- with one state more than the limit there is nothing to say of the places
pub listed_many : {S : Type 0} (M : Machine S) (L limit : ℕ) (at : ℕ → S) → limit < number_of_states M L limit → AllListed M L limit (suc limit) at
listed_many M L limit at many = record { number = omega arith; members = λ q. absurd (let z : ⊥ = omega arith in z) }

-- ---- the steps of one state: step s * L + a looks at letter a of state s
module _ {S : Type 0} (M : Machine S) (L s a n : ℕ) (at : ℕ → S) (hs : s < n) (ha : a < L) (done : Listed M L n (s * L + a) at) where
  letters : 0 < L
  letters = omega arith

  more : s * L + a < n * L
  more = digits_lt hs ha

  step_on : (m : ℕ) (now : ℕ → S) → Listed M L m (s * L + a + 1) now → Listed M L m (s * L + (a + 1)) now
  step_on m now = subst (λ (t : ℕ). Listed M L m t now) (let e : s * L + a + 1 ≡ s * L + (a + 1) = omega arith in e)

  module _ (x : S) (p : ℕ) (next : x ≡ M.after (at s) a) (place : Place at n x p) where
    next_at : x ≡ M.after (at ((s * L + a) / L)) ((s * L + a) % L)
    next_at = next ∙ sym (ap₂ (λ (i j : ℕ). M.after (at i) j) (digits_div s ha) (digits_mod s ha))

    pub letter_old : (p ≡ n → ⊥) → Listed M L n (s * L + (a + 1)) at
    letter_old old =
        let l : p < n = ⊎_elim (λ e. absurd (old e)) (λ l. l) (eq-or-lt_of_le place.within) in
        step_on n at (listed_old M L (s * L + a) n at letters more done x next_at p l (place.here l))

    module _ (new : p ≡ n) where
      pub letter_new : (now : ℕ → S) → ((i : ℕ) → i < n → now i ≡ at i) → now n ≡ x → Listed M L (n + 1) (s * L + (a + 1)) now
      letter_new now same here =
          step_on (n + 1) now (listed_new M L (s * L + a) n at letters more done x next_at (place.nowhere new) now same here)

      pub letter_over : (limit : ℕ) → n ≡ limit → StateListed M L limit s (suc limit) at
      letter_over limit full =
          record {
            within = λ q. absurd (let z : ⊥ = omega arith in z);
            beyond = λ q.
                listed_many M L limit at (listed_over M L (s * L + a) n at letters more done x next_at (place.nowhere new) limit full);
          }

  -- a letter that leads every state where an earlier one does finds nothing new
  pub letter_twin : (b : ℕ) → b < a → ((y : S) → M.after y b ≡ M.after y a) → Listed M L n (s * L + (a + 1)) at
  unfolding target
  letter_twin b h twin =
      let ws = discovered M L (s * L + a) in
      let hb : b < L = omega arith in
      let e : target M L ws (s * L + b) ≡ looked M L (s * L + a) =
      ap₂ (λ (i j : ℕ). M.after (state_at M ws i) j) (digits_div s hb) (digits_mod s hb) ∙ twin (state_at M ws s)
      ∙ sym (ap₂ (λ (i j : ℕ). M.after (state_at M ws i) j) (digits_div s ha) (digits_mod s ha)) in
      step_on n at (listed_again M L (s * L + a) n at letters more done (s * L + b) (omega arith) e)

-- after the last letter, and on to the next state
pub letters_done : {S : Type 0} (M : Machine S) (L limit n s a : ℕ) (at : ℕ → S) → Listed M L n (s * L + a) at → a ≡ L → n ≤ limit
    → StateListed M L limit s n at
letters_done M L limit n s a at done all few =
    record { within = λ q. subst (λ (i : ℕ). Listed M L n (s * L + i) at) all done; beyond = λ q. absurd (let z : ⊥ = omega arith in z) }

pub next_state : {S : Type 0} (M : Machine S) (L limit s r : ℕ) (at : ℕ → S) → StateListed M L limit s r at → r ≤ limit → Listed M L r ((s + 1) * L) at
next_state M L limit s r at done few =
    let e : s * L + L ≡ (s + 1) * L = omega (arith, add-mul s 1 L) in
    subst (λ (t : ℕ). Listed M L r t at) e (done.within few)
