-- A machine, its letters and the limit determine the automaton: the number of states, and every transition and flag of theirs.
-- Assumes nothing.
use Prim.Native.Nat.{ℕ, ◌*◌, ◌/◌, ◌%◌, ◌<◌}
use mathlib.Core.Path.{◌≡◌, sym, ◌∙◌, subst}
use mathlib.Core.List.{List}
use native.Mathlib.Nat.{mod-lt, div-add-mod'}
use lib.ListN.{get_or}
use Rattle.machine.specs.Letters.{Letter, Trace}
use Rattle.machine.specs.Machine.{Machine}
use Rattle.machine.specs.Automaton.{move, Automaton}
use Rattle.machine.proofs.DiscoveryLaws.{quotient_lt}

-- two automata of one machine, whatever they say of the traces
pub one_count : {S : Type 0} {M : Machine S} {Good Good' : Trace → Type 0} {L limit n m : ℕ} {t a t' a' : List ℕ}
    → Automaton M Good L limit n t a → Automaton M Good' L limit m t' a' → n ≡ m
one_count x y = x.count ∙ sym y.count

module _ {S : Type 0} {M : Machine S} {Good Good' : Trace → Type 0} {L limit n : ℕ} {t a t' a' : List ℕ}
    (x : Automaton M Good L limit n t a) (y : Automaton M Good' L limit n t' a') where
  -- a transition leads to the one state that is there
  pub one_move : (s : ℕ) (b : Letter) → s < n → b < L → move t L s b ≡ move t' L s b
  one_move s b l m =
      let u = x.moved s b l m in
      let v = y.moved s b l m in
      x.numbering.distinct (move t L s b) (move t' L s b)
      (subst (λ (j : ℕ). move t L s b < j) x.count u.0) (subst (λ (j : ℕ). move t' L s b < j) x.count v.0) (u.1 ∙ sym v.1)

  pub one_transition : 0 < L → (k : ℕ) → k < n * L → get_or t k 0 ≡ get_or t' k 0
  one_transition pos k h =
      subst (λ (j : ℕ). get_or t j 0 ≡ get_or t' j 0) (div-add-mod' k L) (one_move (k / L) (k % L) (quotient_lt k n L pos h) (mod-lt k pos))

  pub one_flag : (s : ℕ) → s < n → get_or a s 0 ≡ get_or a' s 0
  one_flag s h = x.marked s h ∙ sym (y.marked s h)
