-- Whether some input has the condition (specs/Given.antt, `none_holds`): by the inputs one by one, and by the mask, which is then not 0. And that the environment
-- can keep its promise where one has it.
-- Assumes nothing.
use Rattle.std.proofs.Common.{◌≡◌, ℕ, zero, suc, ◌*◌, ◌/◌, ◌^◌, ◌<◌, Bool, true, false, not, eqb, subst, ⊎_elim, div-lt_iff_lt-mul, arith, pow_pos, eqb-true}
use borrow.Author.Tests.{eqb-false}
use Rattle.reader.proofs.BoolLaws.{on, clash, not_true→, not_false→, and_true, and_cases, not_true_is_false}
use Rattle.automaton.specs.Bits.{bit}
use Rattle.automaton.proofs.BitLaws.{bit_zero, bits_none}
use Rattle.plays.specs.declared.mode.Mode.{Mode}
use Rattle.plays.specs.Arena.{Arena, holds}
use Rattle.plays.specs.Endless.{Able}
use Rattle.plays.proofs.AbleLaws.{able}
use Rattle.game.specs.Given.{bad_mask, none_below, none_holds}

-- ---- a test on the numbers below n, one by one

module _ (c : ℕ → Bool) where
  pub none_passes : (n : ℕ) → none_below c n ≡ true → (x : ℕ) → x < n → c x ≡ false
  unfolding none_below
  none_passes zero e x h = absurd (let z : ⊥ = omega arith in z)
  none_passes (suc n) e x h =
      let w = and_true (not (c n)) (none_below c n) e in
      on (eqb x n)
      (λ t. subst (λ (k : ℕ). c k ≡ false) (let s : n ≡ x = omega (arith, eqb-true x n t) in s) (not_true→ (c n) w.0))
      (λ f. none_passes n w.1 x (omega (arith, eqb-false x n f)))

  pub some_passes : (n : ℕ) → none_below c n ≡ false → (x : ℕ) × (x < n) × (c x ≡ true)
  unfolding none_below
  some_passes zero e = absurd (mathlib.Core.Bool.true≢false e)
  some_passes (suc n) e =
      ⊎_elim
      (λ t. (n, omega arith, not_false→ (c n) t))
      (λ t. let w = some_passes n t in (w.0, omega (arith, w.1), w.2))
      (and_cases (not (c n)) (none_below c n) e)

-- ---- the condition of an arena

-- a mask of 0 has no input, and another one, without a bit too high, has some
pub empty_mask : (G : Arena) → G.mask ≡ 0 → none_holds G ≡ true
unfolding holds
empty_mask G z =
    on (none_holds G) (λ t. t)
    (λ f. let w = some_passes (holds G) G.inputs f in clash (bit 0 w.0) (subst (λ (m : ℕ). bit m w.0 ≡ true) z w.2) (bit_zero w.0))

pub some_mask : (G : Arena) → bad_mask G ≡ false → (G.mask ≡ 0 → ⊥) → none_holds G ≡ false
unfolding holds
some_mask G fits some =
    not_true_is_false (none_holds G)
    (λ t.
    let z : G.mask / 2 ^ G.inputs ≡ 0 = eqb-true (G.mask / 2 ^ G.inputs) 0 (not_false→ (eqb (G.mask / 2 ^ G.inputs) 0) fits) in
    let l : G.mask < 1 * 2 ^ G.inputs = (div-lt_iff_lt-mul (pow_pos G.inputs)).0 (let q : G.mask / 2 ^ G.inputs < 1 = omega arith in q) in
    some (bits_none G.mask G.inputs (omega arith) (none_passes (holds G) G.inputs t)))

-- where some input has the condition, the environment can keep its promise
pub met_able : (mode : Mode) (G : Arena) → none_holds G ≡ false → Able mode G
met_able mode G f = let w = some_passes (holds G) G.inputs f in able G w.0 w.1 w.2 mode
