-- `automaton::explore::list_letters` meets its contract. Assumes nothing.
use Prim.Native.Nat.{ℕ}
use mathlib.Core.Path.{sym, ap, ◌∙◌}
use native.Mathlib.Omega.{arith}
use Rattle.automaton.specs.State.{after}
use Rattle.automaton.proofs.ListingLaws.{letter_twin, letter_extended, letter_over}
use Rattle.automaton.proofs.StateListLaws.{extended_keeps}
use Rattle.automaton.proofs.explore.list_letters.Goals as goal

pub loop-a-preserved-then-twin-a : goal.loop-a-preserved-then-twin-a
loop-a-preserved-then-twin-a c =
    let i = c.loop-a.invariant in
    record {
      state = i.state;
      from = i.from;
      grown = i.grown;
      listed = λ φ t done.
          letter_twin φ _ _ _ c.loop-a.states i.state c.loop-a-test.true (i.listed φ t done) c.twin.result c.if-twin-a.true (c.twin.ensures.same φ t);
    }

pub returns-in_err-insert-clause-listed : goal.returns-in_err-insert-clause-listed
returns-in_err-insert-clause-listed c φ t done =
    let i = c.loop-a.invariant in
    let full = c.in_err-insert.ensures.inserted in
    rw c.from_residual.ensures
    (letter_over φ _ _ _ c.loop-a.states i.state c.loop-a-test.true (i.listed φ t done) c.successor.result
    (c.successor.ensures φ t ∙ ap (λ (s : ℕ). after φ s c.loop-a.a) (sym i.from)) full.0 full.1)

pub loop-a-preserved : goal.loop-a-preserved
loop-a-preserved c =
    let i = c.loop-a.invariant in
    let kept = extended_keeps c.loop-a.states c.successor.result c.insert.new.self c.in_ok-insert.ensures.inserted in
    record {
      state = omega (arith, kept.grown, i.state);
      from = kept.same _ i.state ∙ i.from;
      grown = omega (arith, kept.grown, i.grown);
      listed = λ φ t done.
          letter_extended φ _ _ _ c.loop-a.states i.state c.loop-a-test.true (i.listed φ t done) c.successor.result
          (c.successor.ensures φ t ∙ ap (λ (s : ℕ). after φ s c.loop-a.a) (sym i.from)) _ c.in_ok-insert.ensures.inserted;
    }
