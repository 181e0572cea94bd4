-- The refusal of a rule that comes first (specs/Rule.antt): one before the states are counted, whatever the buffers and the states, or one by their number. So a
-- property of refusals holds of it where it holds of each one that may come.
-- Assumes nothing.
use Rattle.std.proofs.Common.{◌≡◌, ℕ, ◌<◌, ◌≤◌, Bool, true, false, ◌||◌, ltb, List, sym, refl, subst, arith, ltb-false, ltb-true}
use Rattle.std.specs.Prelude.{Option, Some, None, Ok, Err}
use Rattle.reader.specs.Reading.{Reading}
use Rattle.reader.specs.declared.reading.Unreadable.TheVariants.{TooLong, Bad, TooManyNodes, TooManyOperators}
use Rattle.reader.specs.declared.refusal.Refusal.{Refusal}
use Rattle.reader.specs.declared.refusal.Refusal.TheVariants.{Alphabet, TextLength, Buffer, RuleText, RuleNodes, RuleOperators}
use Rattle.reader.specs.declared.refusal.Refusal.TheVariants.{ConditionText, ConditionNodes, StateCount, Unsatisfiable}
use Rattle.reader.specs.Limits.{too_long}
use Rattle.reader.specs.Refusal.{number_of, needed_of}
use Rattle.reader.proofs.BoolLaws.{on}
use Rattle.automaton.specs.Limits.{state_limit}
use Rattle.automaton.specs.Alphabet.{bad_alphabet}
use Rattle.game.specs.Rule.{Buffers, short_buffers, size_refusal, rule_refusal}

-- ---- the refusals before the states are counted, for texts with the readings ρ and κ
pub data Early (ρ κ : Reading) : Refusal → Type 0 where
  alphabet : Early ρ κ Alphabet
  text_length : Early ρ κ TextLength
  rule_text : (k : ℕ) → ρ ≡ Err (Bad k) → Early ρ κ (RuleText k)
  rule_nodes : Early ρ κ RuleNodes
  rule_operators : Early ρ κ RuleOperators
  condition_text : (k : ℕ) → κ ≡ Err (Bad k) → Early ρ κ (ConditionText k)
  condition_nodes : Early ρ κ ConditionNodes
  unsatisfiable : Early ρ κ Unsatisfiable

-- none of them is 3
pub early_number : {ρ κ : Reading} {x : Refusal} → Early ρ κ x → number_of x ≡ 3 → ⊥
early_number alphabet = λ e. omega arith
early_number text_length = λ e. omega arith
early_number (rule_text k e) = λ e. omega arith
early_number rule_nodes = λ e. omega arith
early_number rule_operators = λ e. omega arith
early_number (condition_text k e) = λ e. omega arith
early_number condition_nodes = λ e. omega arith
early_number unsatisfiable = λ e. omega arith

-- none of them tells a number of states
pub early_needed : {ρ κ : Reading} {x : Refusal} → Early ρ κ x → needed_of x ≡ 0
early_needed alphabet = refl
early_needed text_length = refl
early_needed (rule_text k e) = refl
early_needed rule_nodes = refl
early_needed rule_operators = refl
early_needed (condition_text k e) = refl
early_needed condition_nodes = refl
early_needed unsatisfiable = refl

-- ---- which one comes first: one of these, or the one by the number of states
pub data First (i o : ℕ) (rule condition : List ℕ) (ρ κ : Reading) (none : Bool) : Type 0 where
  early : (x : Refusal) → Early ρ κ x → ((old : Buffers) (n : ℕ) → rule_refusal i o rule condition old ρ κ none n ≡ Some x) → First i o rule condition ρ κ none
  by_size : bad_alphabet i o ≡ false → none ≡ false
      → ((old : Buffers) (n : ℕ) → rule_refusal i o rule condition old ρ κ none n ≡ size_refusal i o old n)
      → First i o rule condition ρ κ none

module _ (i o : ℕ) (rule condition : List ℕ) where
  module _ (a : bad_alphabet i o ≡ false) (b : (too_long rule || too_long condition) ≡ false) where
    by_readings : (ρ κ : Reading) (none : Bool) → First i o rule condition ρ κ none
    unfolding rule_refusal
    by_readings (Ok l) (Ok m) true = early Unsatisfiable unsatisfiable (λ old n. rw (a, b))
    by_readings (Ok l) (Ok m) false = by_size a refl (λ old n. rw (a, b))
    by_readings (Ok l) (Err TooLong) none = early TextLength text_length (λ old n. rw (a, b))
    by_readings (Ok l) (Err (Bad k)) none = early (ConditionText k) (condition_text k refl) (λ old n. rw (a, b))
    by_readings (Ok l) (Err TooManyNodes) none = early ConditionNodes condition_nodes (λ old n. rw (a, b))
    by_readings (Ok l) (Err TooManyOperators) none = early ConditionNodes condition_nodes (λ old n. rw (a, b))
    by_readings (Err TooLong) κ none = early TextLength text_length (λ old n. rw (a, b))
    by_readings (Err (Bad k)) κ none = early (RuleText k) (rule_text k refl) (λ old n. rw (a, b))
    by_readings (Err TooManyNodes) κ none = early RuleNodes rule_nodes (λ old n. rw (a, b))
    by_readings (Err TooManyOperators) κ none = early RuleOperators rule_operators (λ old n. rw (a, b))

  pub comes_first : (ρ κ : Reading) (none : Bool) → First i o rule condition ρ κ none
  unfolding rule_refusal
  comes_first ρ κ none =
      on (bad_alphabet i o)
      (λ t. early Alphabet alphabet (λ old n. rw t))
      (λ a. on (too_long rule || too_long condition)
      (λ t. early TextLength text_length (λ old n. rw (a, t)))
      (λ b. by_readings a b ρ κ none))

-- ---- a property of the one that comes first

-- each refusal that may come has the property, told what was tested before it
pub record EachHas (P : Option Refusal → Type 0) (i o : ℕ) (old : Buffers) (ρ κ : Reading) (none : Bool) (n : ℕ) : Type 0 where
  pub before : (x : Refusal) → Early ρ κ x → P (Some x)
  pub count : state_limit < n → P (Some StateCount)
  pub buffer : bad_alphabet i o ≡ false → n ≤ state_limit → short_buffers i o n old ≡ true → P (Some (Buffer n))
  pub nothing : bad_alphabet i o ≡ false → none ≡ false → n ≤ state_limit → short_buffers i o n old ≡ false → P None

module _ (P : Option Refusal → Type 0) (i o : ℕ) (rule condition : List ℕ) (old : Buffers) (n : ℕ) (ρ κ : Reading) (none : Bool)
    (e : EachHas P i o old ρ κ none n) where
  size_has : bad_alphabet i o ≡ false → none ≡ false → P (size_refusal i o old n)
  size_has a m =
      on (ltb state_limit n)
      (λ t. rw t (e.count (ltb-true state_limit n t)))
      (λ c. rw c (on (short_buffers i o n old)
      (λ t. rw t (e.buffer a (ltb-false state_limit n c) t))
      (λ d. rw d (e.nothing a m (ltb-false state_limit n c) d))))

  -- so has the one that comes first
  pub first_has : P (rule_refusal i o rule condition old ρ κ none n)
  first_has = go (comes_first i o rule condition ρ κ none)
    where
      go : First i o rule condition ρ κ none → P (rule_refusal i o rule condition old ρ κ none n)
      go (early x h same) = subst P (sym (same old n)) (e.before x h)
      go (by_size a m same) = subst P (sym (same old n)) (size_has a m)

-- what is known where the call is served: i, o and n are in range, some input meets the condition, and every buffer has room
abbrev pub Served : (i o : ℕ) (old : Buffers) (none : Bool) (n : ℕ) → Type 0
Served i o old none n = (bad_alphabet i o ≡ false) × (none ≡ false) × (n ≤ state_limit) × (short_buffers i o n old ≡ false)

pub first_served : (i o : ℕ) (rule condition : List ℕ) (old : Buffers) (ρ κ : Reading) (none : Bool) (n : ℕ)
    → rule_refusal i o rule condition old ρ κ none n ≡ None → Served i o old none n
first_served i o rule condition old ρ κ none n =
    first_has (λ x. x ≡ None → Served i o old none n) i o rule condition old n ρ κ none
    record {
      before = λ x h e. let z : ◌≡◌ {A = ℕ} 0 1 = cc in absurd (omega arith);
      count = λ _ e. let z : ◌≡◌ {A = ℕ} 0 1 = cc in absurd (omega arith);
      buffer = λ _ _ _ e. let z : ◌≡◌ {A = ℕ} 0 1 = cc in absurd (omega arith);
      nothing = λ a m l s _. (a, m, l, s);
    }
