-- Loops that fill a table row by row, and loops that make a number bit by bit without knowing the bits. Assumes nothing.
use Prim.Native.Nat.{ℕ, ◌+◌, ◌*◌, ◌^◌, ◌≤◌, ◌<◌}
use mathlib.Core.Path.{◌≡◌, sym, ◌∙◌, subst}
use mathlib.Core.List.{List}
use mathlib.Core.Logic.{⊎_elim}
use native.Mathlib.Nat.{eq-or-lt_of_le, pow-suc, mul_comm}
use native.Mathlib.Omega.{arith}
use native.Mathlib.Numerals.{add-one}
use lib.Arith.{digits_lt}
use lib.ListN.{get_or}
use Rattle.reader.specs.Formula.{Formula, operators}
use Rattle.automaton.specs.inner.Sizes.{pair_limit}
use Rattle.automaton.specs.Valuation.{present, vectors}
use Rattle.automaton.specs.inner.Representation.{Tabulates}

-- the rows of m entries below a, and then row a, with what is in front of it kept
pub rows_more : (m : ℕ) (f : ℕ → ℕ → ℕ) (l l₀ : List ℕ) (a : ℕ) → m ≤ pair_limit → ((b k : ℕ) → b < a → k < m → get_or l₀ (b * pair_limit + k) 0 ≡ f b k)
    → ((k : ℕ) → k < m → get_or l (a * pair_limit + k) 0 ≡ f a k) → ((k : ℕ) → k < a * pair_limit → get_or l k 0 ≡ get_or l₀ k 0)
    → (b k : ℕ) → b < a + 1 → k < m → get_or l (b * pair_limit + k) 0 ≡ f b k
rows_more m f l l₀ a few old row front b k hb hk =
    ⊎_elim
    (λ (q : b ≡ a). subst (λ (x : ℕ). get_or l (x * pair_limit + k) 0 ≡ f x k) (sym q) (row k hk))
    (λ (q : b < a). front (b * pair_limit + k) (omega arith) ∙ old b k q hk)
    (eq-or-lt_of_le {n = b} {m = a} (omega arith))

-- full rows hold what the table is asked for
pub rows_tabulate : (φ : Formula) (L m : ℕ) (l : List ℕ) → m ≡ 2 ^ operators φ
    → ((a k : ℕ) → a < L → k < m → get_or l (a * pair_limit + k) 0 ≡ present φ a (2 * k)) → Tabulates φ L l
unfolding Tabulates vectors
rows_tabulate φ L m l e all a k ha hk = all a k ha (omega (arith, pow-suc 2 (operators φ)))

-- one more bit, whichever it is
pub set_lt : (b x k : ℕ) → b < 2 → x < 2 ^ k → b * 2 ^ k + x < 2 ^ (k + 1)
set_lt b x k hb hx = rw (add-one, pow-suc, mul_comm (2 ^ k) 2) (digits_lt hb hx)
