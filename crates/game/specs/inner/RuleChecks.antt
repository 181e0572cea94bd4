-- What the rule call's tests come to before the automaton is built.
-- Assumes nothing.
use Rattle.std.specs.Prelude.{◌≡◌, ℕ, Bool, true, false, ◌↔◌, List, Some, Result, Ok, Err}
use Rattle.reader.specs.declared.refusal.Refusal.{Refusal}
use Rattle.reader.specs.declared.refusal.Refusal.TheVariants.{StateCount}
use Rattle.reader.specs.Limits.{too_long}
use Rattle.reader.specs.Formula.{Formula}
use Rattle.reader.specs.Marks.{rule_kind, condition_kind}
use Rattle.reader.specs.Reading.{Reading, ReadingOf, IsGood}
use Rattle.automaton.specs.Alphabet.{bad_alphabet}
use Rattle.automaton.specs.Condition.{mask_of, Judges, NoneSatisfies}
use Rattle.game.specs.Rule.{Buffers, rule_refusal}

-- the readings of the two texts, and whether no input number satisfies the condition
pub record Read (i o : ℕ) (rule condition : List ℕ) : Type 0 where
  pub reading : Reading
  pub read : ReadingOf i (rule_kind i o) rule reading
  pub condition_reading : Reading
  pub condition_read : ReadingOf i (condition_kind i) condition condition_reading
  pub none : Bool
  pub none_satisfies : (none ≡ true) ↔ NoneSatisfies i condition

-- the refusal x comes first, whatever the buffers and the number of states, and is not 9
pub record RuleRefused (i o : ℕ) (rule condition : List ℕ) (x : Refusal) : Type 0 where
  pub texts : Read i o rule condition
  pub first : (old : Buffers) (n : ℕ) → rule_refusal i o rule condition old texts.reading texts.condition_reading texts.none n ≡ Some x
  pub not_count : x ≡ StateCount → ⊥

-- every test before the states are counted is passed, and the mask is the condition's
pub record TestsPassed (i o : ℕ) (rule condition : List ℕ) (mask : ℕ) : Type 0 where
  pub texts : Read i o rule condition
  pub alphabet : bad_alphabet i o ≡ false
  pub rule_fits : too_long rule ≡ false
  pub condition_fits : too_long condition ≡ false
  pub rule_nodes : ℕ
  pub rule_good : texts.reading ≡ Ok rule_nodes
  pub condition_nodes : ℕ
  pub condition_good : texts.condition_reading ≡ Ok condition_nodes
  pub some : texts.none ≡ false
  pub assumption : Formula
  pub assumed : IsGood i (condition_kind i) condition assumption
  pub mask_is : mask ≡ mask_of assumption i
  pub judges : Judges assumption i (mask_of assumption i)

-- the tests come to the refusal that comes first, or to the mask
abbrev pub RuleChecked : (i o : ℕ) (rule condition : List ℕ) → Result ℕ Refusal → Type 0
RuleChecked i o rule condition (Ok mask) = TestsPassed i o rule condition mask
RuleChecked i o rule condition (Err x) = RuleRefused i o rule condition x
