-- The lists that are computed from the definitions hold the automaton of the formula.
-- Assumes nothing.
use Prim.Native.Nat.{ℕ, zero, suc, ◌*◌, ◌≤◌, ◌<◌}
use mathlib.Core.Path.{◌≡◌, refl, ◌∙◌, subst}
use mathlib.Core.List.{[], ◌∷◌, ◌++◌}
use native.Mathlib.Nat.{not-suc-le-zero}
use native.Mathlib.Omega.{arith}
use borrow.Author.Count.{below_more}
use lib.ListN.{length, get_or, length-append, get_or-append}
use lib.Seq.{get_or-append_seam}
use Rattle.machine.specs.Discovery as machine
use Rattle.machine.specs.Discovery.{state_at, position, target}
use Rattle.machine.specs.inner.Exploration.{Filled}
use Rattle.machine.proofs.AutomatonLaws.{moved_at, automaton_holds}
use Rattle.reader.specs.Formula.{Formula}
use Rattle.automaton.specs.Limits.{state_limit}
use Rattle.automaton.specs.Bits.{one}
use Rattle.automaton.specs.Trace.{Satisfies}
use Rattle.automaton.specs.State.{accepts, machine_of}
use Rattle.automaton.specs.Discovery.{states, number_of_states}
use Rattle.automaton.specs.Automaton.{Automaton}
use Rattle.automaton.proofs.Meaning.{formula_recognizes}
use Rattle.readings.specs.Lists.{list_of, transitions_of, flags_of}

list_of_length : (f : ℕ → ℕ) (n : ℕ) → length (list_of f n) ≡ n
unfolding list_of
list_of_length f zero = refl
list_of_length f (suc n) = length-append (list_of f n) (f n ∷ []) ∙ omega (arith, list_of_length f n)

list_of_at : (f : ℕ → ℕ) (n k : ℕ) → k < n → get_or (list_of f n) k 0 ≡ f k
unfolding list_of
list_of_at f zero k h = absurd (not-suc-le-zero h)
list_of_at f (suc n) k h =
    below_more (λ (j : ℕ). get_or (list_of f n ++ (f n ∷ [])) j 0 ≡ f j) n
    (λ j l. get_or-append (list_of f n) (f n ∷ []) 0 j (omega (arith, list_of_length f n)) ∙ list_of_at f n j l)
    (subst (λ (j : ℕ). get_or (list_of f n ++ (f n ∷ [])) j 0 ≡ f n) (list_of_length f n) (get_or-append_seam (list_of f n) (f n) [] 0))
    k (omega arith)

-- the computed lists hold the automaton, where it has no more states than the limit
pub computed : (φ : Formula) (L : ℕ) → 0 < L → number_of_states φ L ≤ state_limit → Automaton φ L (number_of_states φ L) (transitions_of φ L) (flags_of φ L)
unfolding transitions_of flags_of machine.number_of_states Filled
computed φ L pos few =
    let n = length (states φ L) in
    let M = machine_of φ in
    automaton_holds M L state_limit n pos refl (transitions_of φ L) (flags_of φ L)
    (moved_at M L state_limit n pos refl (transitions_of φ L) few
    (λ u h. list_of_at (λ v. position M (target M L (states φ L) v) (states φ L)) (n * L) u h))
    (λ s h. list_of_at (λ t. one (accepts φ (state_at M (states φ L) t))) n s h)
    (Satisfies φ) (formula_recognizes φ L) few
