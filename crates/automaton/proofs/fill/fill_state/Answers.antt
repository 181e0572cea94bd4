-- `automaton::fill::fill_state` meets its contract. Assumes nothing.
use Prim.Native.Nat.{ℕ, ◌+◌, ◌*◌, ◌<◌, ◌≤◌}
use mathlib.Core.Path.{ap, ◌∙◌, subst, sym}
use mathlib.Core.List.{List}
use native.Mathlib.Omega.{arith}
use lib.ListN.{length, set}
use Rattle.automaton.specs.Limits.{state_limit}
use Rattle.automaton.specs.Buffer.{Kept}
use Rattle.automaton.specs.State.{after}
use Rattle.automaton.specs.inner.Exploration.{Filled}
use Rattle.automaton.proofs.FillingLaws.{Turn, kept_stored, letter_twin, letter_found}
use Rattle.automaton.proofs.fill.fill_state.Goals as goal

-- the numbers at letter a of state s, with what the invariant keeps of the room
turn : {L n s a : ℕ} {old new : List ℕ} → a < L → s < n → n ≤ state_limit → n * L ≤ length old → Kept (s * L + a) old new → Turn L n s a new
turn letter state few room kept = record { letter = letter; state = state; few = few; room = omega (arith, room, kept.size) }

pub loop-a-preserved-then-b-a : goal.loop-a-preserved-then-b-a
loop-a-preserved-then-b-a c =
    let i = c.loop-a.invariant in
    record {
      kept = kept_stored _ _ _ c.args.transitions.now c.loop-a.transitions i.kept (omega arith);
      filled = λ φ t all filled.
          letter_twin φ _ _ _ c.args.states.now c.loop-a.transitions (turn c.loop-a-test.true c.requires.0 c.get-from.ensures.few c.requires.1 i.kept) all
          (i.filled φ t all filled) c.twin-b.result c.if-b-a.true (c.twin-b.ensures.same φ t);
    }

pub loop-a-preserved : goal.loop-a-preserved
loop-a-preserved c =
    let i = c.loop-a.invariant in
    record {
      kept = kept_stored _ _ _ c.args.transitions.now c.loop-a.transitions i.kept (omega arith);
      filled = λ φ t all filled.
          let at = c.args.s * c.args.twins.table.letters + c.loop-a.a in
          subst (λ (p : ℕ). Filled φ c.args.twins.table.letters (set c.loop-a.transitions at p) (c.args.s * c.args.twins.table.letters + (c.loop-a.a + 1)))
          (sym c.unwrap_or-p.ensures)
          (letter_found φ _ _ _ c.args.states.now c.loop-a.transitions (turn c.loop-a-test.true c.requires.0 c.get-from.ensures.few c.requires.1 i.kept) all
          (i.filled φ t all filled) c.successor.result c.find.result
          (c.successor.ensures φ t ∙ ap (λ (s : ℕ). after φ s c.loop-a.a) c.get-from.ensures.word) c.find.ensures);
    }
