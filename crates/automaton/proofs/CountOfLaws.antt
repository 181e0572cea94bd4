-- The number of a rule's states in an order of refusals: where the rule is not good it does not matter, and where it is, the rule has one.
-- Assumes nothing.
use Prim.Native.Nat.{ℕ}
use mathlib.Core.Path.{◌≡◌, refl, sym, ap, ◌∙◌}
use mathlib.Core.List.{List}
use Rattle.std.specs.Prelude.{Option, Ok, Err}
use Rattle.reader.specs.declared.refusal.Refusal.{Refusal}
use Rattle.reader.specs.Marks.{rule_kind}
use Rattle.reader.specs.Reading.{Reading, ReadingOf}
use Rattle.reader.specs.Refusal.{after_rule}
use Rattle.automaton.specs.Construction.{CountOf}

-- `later` is the order of the refusals that come after the rule's own, for a number of states
pub one_refusal : (i o : ℕ) (text : List ℕ) (later : ℕ → Option Refusal) (ρ : Reading) (n m : ℕ) → ReadingOf i (rule_kind i o) text ρ
    → CountOf i o text n → CountOf i o text m → after_rule ρ (later n) ≡ after_rule ρ (later m)
unfolding ReadingOf
one_refusal i o text later (Ok k) n m r c d = ap later (c r.0 r.1 ∙ sym (d r.0 r.1))
one_refusal i o text later (Err e) n m r c d = refl
