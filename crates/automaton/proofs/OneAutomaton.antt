-- The promise on the buffers has one answer: a formula, its letters and the old contents determine the transitions and the flags, every byte of them.
-- Assumes nothing.
use Prim.Native.Nat.{ℕ, ◌*◌, ◌<◌}
use mathlib.Core.Path.{◌≡◌, sym, subst₂}
use mathlib.Core.List.{List}
use Rattle.machine.specs.Letters.{Trace}
use Rattle.machine.specs.Machine.{Machine}
use Rattle.machine.specs.Automaton as machine
use Rattle.machine.proofs.OneAutomaton.{one_transition, one_flag}
use Rattle.reader.specs.Formula.{Formula}
use Rattle.automaton.specs.Buffer.{Kept}
use Rattle.automaton.specs.inner.Exploration.{Written}
use Rattle.automaton.proofs.BufferLaws.{one_buffer}

-- the automaton of a machine, with the rest of the buffers kept, is one
module _ {S : Type 0} {M : Machine S} {Good Good' : Trace → Type 0} {L limit n : ℕ} {t a t' a' : List ℕ}
    (x : machine.Automaton M Good L limit n t a) (y : machine.Automaton M Good' L limit n t' a') where
  pub one_transitions : 0 < L → (old : List ℕ) → Kept (n * L) old t → Kept (n * L) old t' → t ≡ t'
  one_transitions pos old c d = one_buffer (n * L) old t t' c d (one_transition x y pos)

  pub one_accepting : (old : List ℕ) → Kept n old a → Kept n old a' → a ≡ a'
  one_accepting old c d = one_buffer n old a a' c d (one_flag x y)

-- a formula and its letters determine both buffers
pub one_automaton : (L : ℕ) → 0 < L → (φ ψ : Formula) → φ ≡ ψ → (n m : ℕ) → n ≡ m → (t a t₁ a₁ t₂ a₂ : List ℕ)
    → Written φ L n t a t₁ a₁ → Written ψ L m t a t₂ a₂ → (t₁ ≡ t₂) × (a₁ ≡ a₂)
one_automaton L pos φ ψ e n m f t a t₁ a₁ t₂ a₂ x y =
    let z : Written φ L n t a t₂ a₂ = subst₂ (λ (χ : Formula) (k : ℕ). Written χ L k t a t₂ a₂) (sym e) (sym f) y in (
      one_transitions x.automaton z.automaton pos t x.transitions_kept z.transitions_kept,
      one_accepting x.automaton z.automaton a x.accepting_kept z.accepting_kept,
    )
