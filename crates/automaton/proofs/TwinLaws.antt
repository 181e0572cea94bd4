-- Twins (specs/inner/Representation.antt): letters with equal rows in the table lead every state to the same state, so that the exploration
-- copies a twin's step. Assumes nothing.
use Prim.Native.Nat.{ℕ, suc, ◌+◌, ◌-◌, ◌*◌, ◌/◌, ◌^◌, ◌≤◌, ◌<◌}
use mathlib.Core.Path.{◌≡◌, sym, ap, ◌∙◌, subst}
use mathlib.Core.List.{List}
use native.Mathlib.Nat.{not-suc-le-zero, pow-suc}
use native.Mathlib.Omega.{arith}
use borrow.Author.Count.{below_more}
use lib.ListN.{get_or, length, set, drop}
use lib.Seq.{get_or-set_same, get_or-set_other}
use Rattle.std.specs.List.{slice_range}
use Rattle.std.proofs.lemmas.List.{get_or-take, get_or-drop}
use Rattle.reader.specs.Formula.{Formula, operators}
use Rattle.automaton.specs.Bits.{bit}
use Rattle.automaton.specs.Valuation.{present, vectors}
use Rattle.automaton.specs.State.{after}
use Rattle.automaton.specs.inner.Sizes.{pair_limit}
use Rattle.automaton.specs.inner.Representation.{Tabulates, SameRow, Twins}
use Rattle.automaton.proofs.BitLaws.{of_bits_ext}
use Rattle.automaton.proofs.PairLaws.{present_even}

-- equal rows, as slices
pub same_slices : (table : List ℕ) (m a b : ℕ)
    → slice_range table (a * pair_limit) (a * pair_limit + m) ≡ slice_range table (b * pair_limit) (b * pair_limit + m) → SameRow table m a b
same_slices table m a b e k h = sym (entry a) ∙ ap (λ (l : List ℕ). get_or l k 0) e ∙ entry b
  where
    entry : (c : ℕ) → get_or (slice_range table (c * pair_limit) (c * pair_limit + m)) k 0 ≡ get_or table (c * pair_limit + k) 0
    entry c = get_or-take (c * pair_limit + m - c * pair_limit) (drop (c * pair_limit) table) k 0 (omega arith) ∙ get_or-drop (c * pair_limit) table k 0

-- one more letter's twin is stored
pub twins_none : (m : ℕ) (table twins : List ℕ) → Twins 0 m table twins
twins_none m table twins a l = absurd (not-suc-le-zero l)

pub twins_more : (m a b : ℕ) (table twins : List ℕ) → Twins a m table twins → a < length twins → b ≤ a → SameRow table m b a
    → Twins (a + 1) m table (set twins a b)
twins_more m a b table twins all h small same =
    below_more (λ (k : ℕ). (get_or (set twins a b) k 0 ≤ k) × SameRow table m (get_or (set twins a b) k 0) k) a
    (λ k l. subst (λ (x : ℕ). (x ≤ k) × SameRow table m x k) (sym (get_or-set_other twins a k b 0 (λ q. let z : ⊥ = omega arith in z))) (all k l))
    (subst (λ (x : ℕ). (x ≤ a) × SameRow table m x a) (sym (get_or-set_same twins a b 0 h)) (small, same))

-- letters with equal rows lead a state to the same state
pub same_after : (φ : Formula) (L m a b state : ℕ) (table : List ℕ) → Tabulates φ L table → m ≡ 2 ^ suc (operators φ) → a < L → b < L
    → SameRow table (m / 2) a b → after φ state a ≡ after φ state b
unfolding Tabulates after vectors
same_after φ L m a b state table tab e ha hb same =
    of_bits_ext (λ v. bit state (present φ a v)) (λ v. bit state (present φ b v)) (2 ^ suc (operators φ)) (λ v l.
    let h : 2 * (v / 2) < 2 ^ suc (operators φ) = omega arith in
    let q : v / 2 < m / 2 = omega (arith, pow-suc 2 (operators φ)) in
    ap (bit state) (sym (present_even φ a v) ∙ sym (tab a (v / 2) ha h) ∙ same (v / 2) q ∙ tab b (v / 2) hb h ∙ present_even φ b v))

pub twin_after : (φ : Formula) (L m a b state : ℕ) (table twins : List ℕ) → Tabulates φ L table → m ≡ 2 ^ suc (operators φ)
    → Twins L (m / 2) table twins → a < L → b ≡ get_or twins a 0 → after φ state b ≡ after φ state a
twin_after φ L m a b state table twins tab e twin ha is =
    ap (after φ state) is ∙ same_after φ L m (get_or twins a 0) a state table tab e (let q = (twin a ha).0 in omega arith) ha (twin a ha).1
