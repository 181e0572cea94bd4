-- Laws of the sizes of an alphabet that is in range (specs/Alphabet.antt).
-- Assumes nothing.
use Prim.Native.Nat.{ℕ, ◌+◌, ◌*◌, ◌^◌, ◌≤◌, ◌<◌}
use mathlib.Core.Path.{◌≡◌, ◌∙◌}
use mathlib.Core.Bool.{false, cond}
use native.Mathlib.Omega.{arith}
use lib.Dec.{ltb, leb}
use lib.Pow.{pow_pos, pow_mono}
use borrow.Author.Tests.{ltb-false, le-leb}
use Rattle.reader.proofs.BoolLaws.{or_left, or_right}
use Rattle.automaton.specs.Limits.{name_limit, letter_limit}
use Rattle.automaton.specs.Alphabet.{bad_alphabet, letter_count}

pub inputs_fit : (i o : ℕ) → bad_alphabet i o ≡ false → i ≤ name_limit
inputs_fit i o e = ltb-false name_limit i (or_left (ltb name_limit i) (ltb name_limit o) e)

pub outputs_fit : (i o : ℕ) → bad_alphabet i o ≡ false → o ≤ name_limit
outputs_fit i o e = ltb-false name_limit o (or_right (ltb name_limit i) (ltb name_limit o) e)

-- a power as the code has it
pub power_is : (k r : ℕ) → k ≤ 2 * name_limit → r ≡ cond (leb k (2 * name_limit)) (2 ^ k) 0 → r ≡ 2 ^ k
power_is k r h e = e ∙ rw (le-leb k (2 * name_limit) h)

-- the number of letters, by the code's power
pub record LettersFit (i o r : ℕ) : Type 0 where
  pub is : r ≡ letter_count i o
  pub some : 0 < r
  pub few : r ≤ letter_limit

pub letters_fit : (i o r : ℕ) → bad_alphabet i o ≡ false → r ≡ cond (leb (i + o) (2 * name_limit)) (2 ^ (i + o)) 0 → LettersFit i o r
letters_fit i o r b e =
    let h = inputs_fit i o b in
    let g = outputs_fit i o b in
    let k : i + o ≤ 2 * name_limit = omega arith in
    let q = power_is (i + o) r k e in
    let p : 0 < 2 ^ (i + o) = pow_pos (i + o) in
    let m : 2 ^ (i + o) ≤ letter_limit = pow_mono {j = 2 * name_limit} k in
    record { is = q; some = omega arith; few = omega arith }
