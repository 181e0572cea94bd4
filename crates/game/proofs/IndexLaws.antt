-- Laws of indices into transitions and tables.
-- Assumes nothing.
use Rattle.std.proofs.Common.{ℕ, ◌+◌, ◌*◌, ◌<◌, ◌≤◌, mul-le-mul_right, suc-mul, mul-le-mul, mul-le-mul_left, mul-suc, arith}
use Rattle.automaton.specs.Limits.{state_limit, number_limit, letter_limit}
use Rattle.plays.specs.Arena.{Arena, next}
use Rattle.game.specs.inner.Valid.{Valid}

-- a letter's number is below the number of letters
pub letter_below : (P Q x y : ℕ) → x < P → y < Q → x + P * y < P * Q
letter_below P Q x y hx hy = omega (arith, mul-le-mul_left P hy, mul-suc P y)

-- row s of n rows, each k long
pub row_below : (n k s j : ℕ) → s < n → j < k → s * k + j < n * k
row_below n k s j hs hj = omega (arith, mul-le-mul_right k hs, suc-mul s k)

pub product_small : (a b c d : ℕ) → a ≤ c → b ≤ d → a * b ≤ c * d
product_small a b c d h k = mul-le-mul h k

-- input x of state s, where the states and the inputs are within their limits
pub pair_below : (n P s x : ℕ) → n ≤ state_limit → P ≤ number_limit → s < n → x < P → s * P + x < state_limit * number_limit
pair_below n P s x hn h_p hs hx = omega (arith, row_below n P s x hs hx, product_small n P state_limit number_limit hn h_p)

pub record At (n P Q s x y : ℕ) : Type 0 where
  pub letters : P * Q ≤ letter_limit
  pub row : s * (P * Q) ≤ state_limit * letter_limit
  pub column : P * y ≤ letter_limit
  pub below : s * (P * Q) + (x + P * y) < n * (P * Q)

pub at_facts : (n P Q s x y : ℕ) → n ≤ state_limit → P ≤ number_limit → Q ≤ number_limit → s < n → x < P → y < Q → At n P Q s x y
at_facts n P Q s x y hn h_p h_q hs hx hy =
    let l : P * Q ≤ letter_limit = mul-le-mul h_p h_q in
    let s' : s ≤ state_limit = omega arith in
    let y' : y ≤ number_limit = omega arith in
    record { letters = l; row = mul-le-mul s' l; column = mul-le-mul h_p y'; below = row_below n (P * Q) s (x + P * y) hs (letter_below P Q x y hx hy) }

-- a transition leads to a state
pub next_below : {G : Arena} → Valid G → (s x y : ℕ) → s < G.states → x < G.inputs → y < G.outputs → next G s x y < G.states
unfolding next
next_below {G} v s x y hs hx hy =
    let m = v.moving in
    let i = at_facts G.states G.inputs G.outputs s x y m.states_fit m.inputs_fit m.outputs_fit hs hx hy in
    m.closed (s * (G.inputs * G.outputs) + (x + G.inputs * y)) i.below
