-- `automaton::fill::fill_transitions` meets its contract. Assumes nothing.
use mathlib.Core.Path.{refl}
use Rattle.automaton.proofs.FillingLaws.{filled_none}
use Rattle.automaton.proofs.fill.fill_transitions.Goals as goal

pub loop-s-init : goal.loop-s-init
loop-s-init c =
    record { kept = record { size = refl; beyond = λ u l. refl }; filled = λ φ t all. filled_none φ _ _ }
