-- `automaton::fill::mark_states` meets its contract. The invariant: the flags below s are right, and those from s on are as they were.
-- Assumes nothing.
use Prim.Native.Nat.{ℕ, ◌<◌}
use mathlib.Core.Path.{◌≡◌}
use lib.ListN.{get_or}
use Rattle.automaton.specs.Bits.{bit, one}
use Rattle.automaton.specs.Buffer.{Kept}
use Rattle.automaton.proofs.fill.mark_states.Given as goal

abbrev pub invariant-loop-s : goal.invariant-loop-s
invariant-loop-s l =
    record {
      kept : Kept l.s l.initial.accepting l.accepting;
      marked : (u : ℕ) → u < l.s → get_or l.accepting u 0 ≡ one (bit (get_or l.states u 0) l.end);
    }
