-- Laws of numbers as sets of bits (specs/Bits.antt). Assumes nothing.
use Prim.Native.Nat.{ℕ, zero, suc, ◌+◌, ◌-◌, ◌*◌, ◌/◌, ◌%◌, ◌^◌, ◌≤◌, ◌<◌}
use mathlib.Core.Path.{◌≡◌, refl, sym, ap, ap₂, ◌∙◌, subst}
use mathlib.Core.Bool.{Bool, true, false, not, ◌&&◌, ◌||◌}
use mathlib.Core.List.{List}
use mathlib.Core.Logic.{⊎_elim}
use native.Mathlib.Nat.{mul-add-mod_self_right, mod-eq_of_lt, pow-suc, mul_comm, mul_assoc, add-mul, add_comm, add-zero, add-suc, le_refl, lt_of_lt_of_le, mul-lt-mul_of_pos_right}
use native.Mathlib.Nat.{le_of_suc-le-suc, not-suc-le-zero, eq-or-lt_of_le, le_step, add-mul-div_right, add-mul-mod_self_right, div-eq_of_lt}
use native.Mathlib.Nat.{div-lt_iff_lt-mul}
use native.Mathlib.Omega.{arith}
use lib.Dec.{eqb}
use borrow.Author.Tests.{eqb-false}
use lib.ListN.{length, get_or}
use lib.Arith.{digits_lt}
use lib.Bits.{bit_and, bit_or, bit_xor, and_block, or_block, xor_block, or_shifted_r}
use lib.Pow.{pow_pos, pow_mono, pow-add, high, shl_exact}
use Rattle.reader.specs.Limits.{operator_limit}
use mir.Val.{bool_byte}
use Rattle.automaton.specs.Bits.{bit, one, of_bits, gather}
use Rattle.automaton.specs.inner.Sizes.{coordinate_limit, vector_limit, pair_limit, word_bits}

-- a bool as the code makes a number of it
pub byte_one : (b : Bool) → bool_byte b ≡ one b
byte_one true = refl
byte_one false = refl

pub one_lt : (b : Bool) → one b < 2
one_lt true = omega arith
one_lt false = omega arith

pub of_bits_lt : (f : ℕ → Bool) (n : ℕ) → of_bits f n < 2 ^ n
unfolding of_bits
of_bits_lt f zero = omega arith
of_bits_lt f (suc n) = rw (pow-suc, mul_comm (2 ^ n) 2) (digits_lt (one_lt (f n)) (of_bits_lt f n))

one_odd : (b : Bool) → eqb (one b % 2) 1 ≡ b
one_odd true = refl
one_odd false = refl

-- what stands above bit k does not change it
above : (x y d k : ℕ) → (x * 2 ^ (suc d + k) + y) / 2 ^ k % 2 ≡ y / 2 ^ k % 2
above x y d k =
    ap (λ (m : ℕ). m / 2 ^ k % 2)
    (add_comm (x * 2 ^ (suc d + k)) y ∙ ap (λ (m : ℕ). y + m) (ap (λ (m : ℕ). x * m) (pow-add 2 (suc d) k) ∙ sym (mul_assoc x (2 ^ suc d) (2 ^ k))))
    ∙ ap (λ (m : ℕ). m % 2) (add-mul-div_right y (x * 2 ^ suc d) (pow_pos k))
    ∙ ap (λ (m : ℕ). (y / 2 ^ k + m) % 2) (ap (λ (m : ℕ). x * m) (pow-suc 2 d) ∙ sym (mul_assoc x (2 ^ d) 2))
    ∙ add-mul-mod_self_right (y / 2 ^ k) (x * 2 ^ d) 2

pub above' : (x y n k : ℕ) → k < n → (x * 2 ^ n + y) / 2 ^ k % 2 ≡ y / 2 ^ k % 2
above' x y n k h =
    let e : suc (n - suc k) + k ≡ n = omega arith in
    subst (λ (m : ℕ). (x * 2 ^ m + y) / 2 ^ k % 2 ≡ y / 2 ^ k % 2) e (above x y (n - suc k) k)

pub bit_of_bits : (f : ℕ → Bool) (n k : ℕ) → k < n → bit (of_bits f n) k ≡ f k
unfolding of_bits bit
bit_of_bits f zero k h = absurd (not-suc-le-zero h)
bit_of_bits f (suc n) k h =
    ⊎_elim
    (λ e. subst (λ (m : ℕ). bit (of_bits f (suc n)) m ≡ f m) (sym e) (ap (λ (m : ℕ). eqb (m % 2) 1) (high (one (f n)) n (of_bits_lt f n)) ∙ one_odd (f n)))
    (λ l. ap (λ (m : ℕ). eqb m 1) (above' (one (f n)) (of_bits f n) n k l) ∙ bit_of_bits f n k l)
    (eq-or-lt_of_le (le_of_suc-le-suc h))

-- a number below 2 ^ n has no bit from n on
pub bit_high : (x n k : ℕ) → x < 2 ^ n → n ≤ k → bit x k ≡ false
unfolding bit
bit_high x n k h l = ap (λ (m : ℕ). eqb (m % 2) 1) (div-eq_of_lt (lt_of_lt_of_le h (pow_mono l)))

pub of_bits_ext : (f g : ℕ → Bool) (n : ℕ) → ((k : ℕ) → k < n → f k ≡ g k) → of_bits f n ≡ of_bits g n
unfolding of_bits
of_bits_ext f g zero h = refl
of_bits_ext f g (suc n) h = ap₂ (λ (b : Bool) (m : ℕ). one b * 2 ^ n + m) (h n (le_refl (suc n))) (of_bits_ext f g n (λ k l. h k (le_step l)))

-- a number without a bit is 0, and 0 has no bit
pub of_bits_none : (f : ℕ → Bool) (n : ℕ) → ((k : ℕ) → k < n → f k ≡ false) → of_bits f n ≡ 0
unfolding of_bits
of_bits_none f zero h = refl
of_bits_none f (suc n) h =
    let e : 0 * 2 ^ n + 0 ≡ 0 = omega arith in
    ap₂ (λ (b : Bool) (m : ℕ). one b * 2 ^ n + m) (h n (le_refl (suc n))) (of_bits_none f n (λ k l. h k (le_step l))) ∙ e

-- a number from two parts of its bits
pub of_bits_append : (f : ℕ → Bool) (n m : ℕ) → of_bits f (n + m) ≡ of_bits (λ v. f (n + v)) m * 2 ^ n + of_bits f n
unfolding of_bits
of_bits_append f n zero = ap (of_bits f) (add-zero n) ∙ omega arith
of_bits_append f n (suc m) =
    ap (of_bits f) (add-suc n m)
    ∙ ap₂ (λ (x y : ℕ). one (f (n + m)) * x + y) (pow-add 2 n m ∙ mul_comm (2 ^ n) (2 ^ m)) (of_bits_append f n m)
    ∙ omega (arith, mul_assoc (one (f (n + m))) (2 ^ m) (2 ^ n), add-mul (one (f (n + m)) * 2 ^ m) (of_bits (λ v. f (n + v)) m) (2 ^ n))

-- and with the number of the other bits
pub of_bits_others : (f : ℕ → Bool) (n : ℕ) → of_bits f n + of_bits (λ k. not (f k)) n + 1 ≡ 2 ^ n
unfolding of_bits
of_bits_others f zero = refl
of_bits_others f (suc n) = split (f n) (of_bits f n) (of_bits (λ k. not (f k)) n) (of_bits_others f n) ∙ sym (pow-suc 2 n)
  where
    split : (b : Bool) (x y : ℕ) → x + y + 1 ≡ 2 ^ n → one b * 2 ^ n + x + (one (not b) * 2 ^ n + y) + 1 ≡ 2 ^ n * 2
    split true x y e = omega arith
    split false x y e = omega arith

pub bit_zero : (k : ℕ) → bit 0 k ≡ false
bit_zero k = bit_high 0 0 k (pow_pos 0) (omega arith)

pub bits_none : (x n : ℕ) → x < 2 ^ n → ((k : ℕ) → k < n → bit x k ≡ false) → x ≡ 0
unfolding bit
bits_none x zero h none = omega arith
bits_none x (suc n) h none =
    let l : x < 2 * 2 ^ n = subst (λ (m : ℕ). x < m) (pow-suc 2 n ∙ mul_comm (2 ^ n) 2) h in
    let two : x / 2 ^ n < 2 = (div-lt_iff_lt-mul (pow_pos n)).1 l in
    let even = eqb-false (x / 2 ^ n % 2) 1 (none n (le_refl (suc n))) in
    let low : x / 2 ^ n < 1 = omega (arith, mod-eq_of_lt two) in
    let m : x < 1 * 2 ^ n = (div-lt_iff_lt-mul (pow_pos n)).0 low in
    bits_none x n (omega arith) (λ k l. none k (le_step l))

one_and : (a b : Bool) → bit_and (one a) (one b) ≡ one (a && b)
one_and true true = refl
one_and true false = refl
one_and false true = refl
one_and false false = refl

one_or : (a b : Bool) → bit_or (one a) (one b) ≡ one (a || b)
one_or true true = refl
one_or true false = refl
one_or false true = refl
one_or false false = refl

one_xor : (a : Bool) → bit_xor (one a) 1 ≡ one (not a)
one_xor true = refl
one_xor false = refl

pub of_bits_and : (f g : ℕ → Bool) (n : ℕ) → bit_and (of_bits f n) (of_bits g n) ≡ of_bits (λ k. f k && g k) n
unfolding of_bits
of_bits_and f g zero = refl
of_bits_and f g (suc n) =
    and_block n (one (f n)) (one (g n)) (of_bits f n) (of_bits g n) (of_bits_lt f n) (of_bits_lt g n)
    ∙ ap₂ (λ (x y : ℕ). x * 2 ^ n + y) (one_and (f n) (g n)) (of_bits_and f g n)

pub of_bits_or : (f g : ℕ → Bool) (n : ℕ) → bit_or (of_bits f n) (of_bits g n) ≡ of_bits (λ k. f k || g k) n
unfolding of_bits
of_bits_or f g zero = refl
of_bits_or f g (suc n) =
    or_block n (one (f n)) (one (g n)) (of_bits f n) (of_bits g n) (of_bits_lt f n) (of_bits_lt g n)
    ∙ ap₂ (λ (x y : ℕ). x * 2 ^ n + y) (one_or (f n) (g n)) (of_bits_or f g n)

pub of_bits_not : (f : ℕ → Bool) (n : ℕ) → bit_xor (of_bits f n) (of_bits (λ k. true) n) ≡ of_bits (λ k. not (f k)) n
unfolding of_bits
of_bits_not f zero = refl
of_bits_not f (suc n) =
    xor_block n (one (f n)) 1 (of_bits f n) (of_bits (λ k. true) n) (of_bits_lt f n) (of_bits_lt (λ k. true) n)
    ∙ ap₂ (λ (x y : ℕ). x * 2 ^ n + y) (one_xor (f n)) (of_bits_not f n)

-- ---- a list as a number
pub gather_lt : (bs : List Bool) → gather bs < 2 ^ length bs
unfolding gather
gather_lt bs = of_bits_lt (λ j. get_or bs j false) (length bs)

pub bit_gather : (bs : List Bool) (k : ℕ) → k < length bs → bit (gather bs) k ≡ get_or bs k false
unfolding gather
bit_gather bs k h = bit_of_bits (λ j. get_or bs j false) (length bs) k h

-- ---- what the code's shifts do

-- `x | (bits << k)`, for an x with bits below k only, where nothing is shifted out
pub set_shifted : (x k bits : ℕ) → bits * 2 ^ k < 2 ^ word_bits → x < 2 ^ k → bit_or x (bits * 2 ^ k % 2 ^ 64) ≡ bits * 2 ^ k + x
set_shifted x k bits h hx = ap (bit_or x) (mod-eq_of_lt h) ∙ or_shifted_r bits k x hx

-- j bits from bit k on stay within a word
pub shift_fits : (j k bits : ℕ) → bits < 2 ^ j → j + k ≤ word_bits → bits * 2 ^ k < 2 ^ word_bits
shift_fits j k bits h fits = lt_of_lt_of_le (subst (λ (m : ℕ). bits * 2 ^ k < m) (sym (pow-add 2 j k)) (mul-lt-mul_of_pos_right h (pow_pos k))) (pow_mono fits)

-- no valuation has a coordinate beyond the limit
pub no_coordinate : (j : ℕ) → coordinate_limit ≤ j → of_bits (λ v. bit v j) vector_limit ≡ 0
no_coordinate j h = of_bits_none (λ v. bit v j) vector_limit (λ v l. bit_high v coordinate_limit j l h)

-- two bits more, where the bits 2 * k and 2 * k + 1 are both f k
pub pair_step : (f : ℕ → Bool) (k x b : ℕ) → x ≡ of_bits (λ v. f (v / 2)) (2 * k)
    → b ≡ one (f k) → 3 * b * 2 ^ (2 * k) + x ≡ of_bits (λ v. f (v / 2)) (2 * (k + 1))
unfolding of_bits
pair_step f k x b ex eb =
    let low : 2 * k / 2 ≡ k = omega arith in
    let high : suc (2 * k) / 2 ≡ k = omega arith in
    let two : 2 * (k + 1) ≡ suc (suc (2 * k)) = omega arith in
    let one_high : one (f (suc (2 * k) / 2)) ≡ b = ap (λ (i : ℕ). one (f i)) high ∙ sym eb in
    let one_low : one (f (2 * k / 2)) ≡ b = ap (λ (i : ℕ). one (f i)) low ∙ sym eb in
    let sum : 3 * b * 2 ^ (2 * k) + x ≡ b * 2 ^ suc (2 * k) + (b * 2 ^ (2 * k) + x) = triple b (2 * k) x in
    sum
    ∙ ap₂ (λ (y z : ℕ). y * 2 ^ suc (2 * k) + z) (sym one_high) (ap₂ (λ (y z : ℕ). y * 2 ^ (2 * k) + z) (sym one_low) ex)
    ∙ ap (of_bits (λ v. f (v / 2))) (sym two)
  where
    triple : (b n x : ℕ) → 3 * b * 2 ^ n + x ≡ b * 2 ^ suc n + (b * 2 ^ n + x)
    triple b n x = omega (arith, mul_assoc 3 b (2 ^ n), mul_assoc b (2 ^ n) 2, ap (λ (m : ℕ). b * m) (pow-suc 2 n))

-- a word whose bits are all one bit
pub same_false : (b : Bool) → b ≡ false → 0 ≡ of_bits (λ v. b) vector_limit
same_false b e = sym (of_bits_none (λ v. b) vector_limit (λ k l. e))

pub same_true : (b : Bool) → b ≡ true → 0xFFFF_FFFF_FFFF_FFFF ≡ of_bits (λ v. b) vector_limit
same_true b e = omega (arith, of_bits_others (λ v. b) vector_limit, of_bits_none (λ v. not b) vector_limit (λ k l. ap not e))

-- `1 << w`
pub one_shifted : (w : ℕ) → w ≤ coordinate_limit → 1 * 2 ^ w % 2 ^ 64 ≡ 2 ^ w
one_shifted w h = shl_exact 1 w word_bits (omega arith) (omega arith) ∙ omega arith

-- `(1 << w) / 2`
pub half_few : (w : ℕ) → w ≤ coordinate_limit → 1 * 2 ^ w % 2 ^ 64 / 2 ≤ pair_limit
half_few w h =
    let few : 2 ^ w ≤ vector_limit = pow_mono {i = w} {j = coordinate_limit} h in
    omega (arith, one_shifted w h)

-- the pairs of valuations
pub pairs_few : (w : ℕ) → w ≤ coordinate_limit → 2 ^ (w - 1) ≤ pair_limit
pairs_few w h = pow_mono {i = w - 1} {j = operator_limit} (omega arith)

-- the low bits of a word
pub of_bits_mod : (f : ℕ → Bool) (n k : ℕ) → k ≤ n → of_bits f n % 2 ^ k ≡ of_bits f k
of_bits_mod f n k h =
    let e : n ≡ k + (n - k) = omega arith in
    ap (λ (m : ℕ). of_bits f m % 2 ^ k) e ∙ ap (λ (m : ℕ). m % 2 ^ k) (of_bits_append f k (n - k))
    ∙ mul-add-mod_self_right (of_bits (λ v. f (k + v)) (n - k)) (2 ^ k) (of_bits f k) ∙ mod-eq_of_lt (of_bits_lt f k)

-- `1 << k`
pub bit_shifted : (k : ℕ) → k < word_bits → 1 * 2 ^ k % 2 ^ 64 ≡ 2 ^ k
bit_shifted k h = shl_exact 1 k word_bits (omega arith) (omega arith) ∙ omega arith
