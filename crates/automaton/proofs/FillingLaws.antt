-- The second walk's steps for states that are words in an array (specs/inner/Exploration.antt): the laws of any machine's, at the formula's. The transitions
-- of one state s are numbered s * L + a. Also what such a walk keeps of a buffer beyond what it has settled. Assumes nothing.
use Prim.Native.Nat.{ℕ, ◌+◌, ◌*◌, ◌≤◌, ◌<◌}
use mathlib.Core.Path.{◌≡◌, ◌∙◌, subst}
use mathlib.Core.List.{List}
use native.Mathlib.Nat.{zero-mul, add-mul}
use native.Mathlib.Omega.{arith}
use lib.Arith.{digits_lt}
use lib.ListN.{get_or, length, set, length-set}
use lib.Seq.{get_or-set_same, get_or-set_other}
use Rattle.std.specs.Prelude.{Option, Some, None}
use Rattle.std.specs.Option.{unwrap_or}
use Rattle.machine.specs.inner.Exploration as specs
use Rattle.machine.proofs.FillingLaws as machine
use Rattle.reader.specs.Formula.{Formula}
use Rattle.automaton.specs.Limits.{state_limit}
use Rattle.automaton.specs.Buffer.{Kept}
use Rattle.automaton.specs.State.{after, machine_of}
use Rattle.automaton.specs.inner.Exploration.{word_at, AllListed, Filled}
use Rattle.automaton.specs.inner.States.{Found}
use Rattle.automaton.proofs.StateListLaws.{found_place}
use Rattle.automaton.proofs.ArrayLaws.{kept_more}

-- ---- what is kept: one byte more is stored
pub kept_stored : (used more x : ℕ) (old new : List ℕ) → Kept used old new → used < more → Kept more old (set new used x)
kept_stored used more x old new kept h =
    record {
      size = simp length-set kept.size;
      beyond = λ k l. kept_more new old used x kept.beyond k (omega arith);
    }

-- one row after the others
pub kept_row : (L s : ℕ) (old mid new : List ℕ) → Kept (s * L) old mid → Kept (s * L + L) mid new → Kept ((s + 1) * L) old new
kept_row L s old mid new kept row =
    let e = add-mul s 1 L in
    record {
      size = row.size ∙ kept.size;
      beyond = λ k l. row.beyond k (omega arith) ∙ kept.beyond k (omega arith);
    }

-- ---- the numbers at letter a of state s
pub record Turn (L n s a : ℕ) (transitions : List ℕ) : Type 0 where
  pub letter : a < L
  pub state : s < n
  pub few : n ≤ state_limit
  pub room : n * L ≤ length transitions

pub turn_room : (L n s a : ℕ) (transitions : List ℕ) → Turn L n s a transitions → s * L + a < length transitions
turn_room L n s a transitions at = omega (arith, digits_lt at.state at.letter, at.room)

module _ (φ : Formula) (L s a : ℕ) (list transitions : List ℕ) (at : Turn L (length list) s a transitions) (all : AllListed φ L list)
    (filled : Filled φ L transitions (s * L + a)) where
  -- the letter's transition is stored, and those before it stay
  put : (p : ℕ) → get_or (set transitions (s * L + a) p) (s * L + a) 0 ≡ p
  put p = get_or-set_same transitions (s * L + a) p 0 (turn_room L (length list) s a transitions at)

  stays : (p u : ℕ) → u < s * L + a → get_or (set transitions (s * L + a) p) u 0 ≡ get_or transitions u 0
  stays p u h = get_or-set_other transitions (s * L + a) u p 0 (λ q. let z : ⊥ = omega arith in z)

  -- the letter has a twin before it, whose transition is copied
  pub letter_twin : (b : ℕ) → b < a → ((state : ℕ) → after φ state b ≡ after φ state a)
      → Filled φ L (set transitions (s * L + a) (get_or transitions (s * L + b) 0)) (s * L + (a + 1))
  letter_twin b h same =
      let p = get_or transitions (s * L + b) 0 in
      machine.filled_twin (machine_of φ) L state_limit (length list) (word_at list) at.few all s a at.state at.letter transitions
      (set transitions (s * L + a) p) filled (stays p) b h same (put p)

  -- the state that it leads to is found
  pub letter_found : (x : ℕ) (o : Option ℕ) → x ≡ after φ (get_or list s 0) a → Found list x o
      → Filled φ L (set transitions (s * L + a) (unwrap_or o 0)) (s * L + (a + 1))
  letter_found x None next found =
      let within = (machine.place_is_number (machine_of φ) L state_limit (length list) (word_at list) at.few all s a at.state at.letter x (length list) next
      (found_place list x None found)).0 in
      absurd (let z : ⊥ = omega arith in z)
  letter_found x (Some p) next found =
      machine.filled_place (machine_of φ) L state_limit (length list) (word_at list) at.few all s a at.state at.letter transitions
      (set transitions (s * L + a) p) filled (stays p) x p next (found_place list x (Some p) found) (put p)

-- ---- before the first state, and on to the next
pub filled_none : (φ : Formula) (L : ℕ) (transitions : List ℕ) → Filled φ L transitions (0 * L)
unfolding specs.Filled
filled_none φ L transitions u h = absurd (let z : ⊥ = omega (arith, zero-mul L) in z)

pub filled_row : (φ : Formula) (L s : ℕ) (transitions : List ℕ) → Filled φ L transitions (s * L + L) → Filled φ L transitions ((s + 1) * L)
filled_row φ L s transitions filled =
    let e : s * L + L ≡ (s + 1) * L = omega (arith, add-mul s 1 L) in
    subst (λ (t : ℕ). Filled φ L transitions t) e filled
