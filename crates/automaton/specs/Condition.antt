-- The condition (specification, "Texts" and "Game"), which the field calls the assumption: a formula over the inputs,
-- judged on one input number. The layer's call turns its text into a mask, or refuses; its order of refusals is 1, 2, 7, 8, 15.
-- Assumes nothing.
use Rattle.std.specs.Prelude.{ℕ, ◌^◌, ◌<◌, ◌≡◌, Bool, true, cond, [], ◌∷◌, ◌↔◌, Option, Some, None, Result, Ok, Err}
use Rattle.reader.specs.declared.refusal.Refusal.{Refusal}
use Rattle.reader.specs.declared.refusal.Refusal.TheVariants.{Alphabet, TextLength, Unsatisfiable}
use Rattle.reader.specs.Text.{Text}
use Rattle.reader.specs.Limits.{too_long}
use Rattle.reader.specs.Formula.{Formula}
use Rattle.reader.specs.Marks.{condition_kind}
use Rattle.reader.specs.Reading.{Reading, ReadingOf, IsGood}
use Rattle.reader.specs.Refusal.{first_number, first_place, answer_number, answer_place, after_condition}
use Rattle.automaton.specs.Alphabet.{bad_alphabet}
use Rattle.automaton.specs.Bits.{bit, of_bits}
use Rattle.automaton.specs.Trace.{Satisfies}
use Rattle.automaton.specs.Valuation.{value}

-- the mask of a condition: bit x says whether input number x has it
unfoldable pub mask_of : (κ : Formula) (i : ℕ) → ℕ
unfolding value of_bits
mask_of κ i = of_bits (λ x. value κ 1 x 0) (2 ^ i)

-- a mask judges each input number as the condition does on that input alone
abbrev pub Judges : (κ : Formula) (i mask : ℕ) → Type 0
Judges κ i mask = (x : ℕ) → x < 2 ^ i → (bit mask x ≡ true) ↔ Satisfies κ (x ∷ [])

-- refusal 15: the text is a condition within its limits, and no input number satisfies it
abbrev pub NoneSatisfies : (i : ℕ) (text : Text) → Type 0
NoneSatisfies i text = (κ : Formula) × IsGood i (condition_kind i) text κ × ((x : ℕ) → x < 2 ^ i → Satisfies κ (x ∷ []) → ⊥)

-- the condition's refusals, 7, 8 and 15, for a text with the reading κ, of which `none` tells whether no input number satisfies it
abbrev pub after_assumption : (κ : Reading) (none : Bool) (later : Option Refusal) → Option Refusal
after_assumption κ none later = after_condition κ (cond none (Some Unsatisfiable) later)

-- the refusal that comes first
unfoldable pub condition_refusal : (i : ℕ) (text : Text) (κ : Reading) (none : Bool) → Option Refusal
condition_refusal i text κ none = cond (bad_alphabet i 0) (Some Alphabet) (cond (too_long text) (Some TextLength) (after_assumption κ none None))

-- the answer of a served call
pub record Masked (i : ℕ) (text : Text) (r : Result ℕ Refusal) : Type 0 where
  pub formula : Formula
  pub good : IsGood i (condition_kind i) text formula
  pub answer : r ≡ Ok (mask_of formula i)
  pub judges : Judges formula i (mask_of formula i)

-- the whole promise
pub record Conditioned (i : ℕ) (text : Text) (r : Result ℕ Refusal) : Type 0 where
  pub reading : Reading
  pub read : ReadingOf i (condition_kind i) text reading
  pub none : Bool
  pub none_satisfies : (none ≡ true) ↔ NoneSatisfies i text
  pub refusal : Option Refusal
  pub first : refusal ≡ condition_refusal i text reading none
  pub number : answer_number r ≡ first_number refusal
  pub place : answer_place r ≡ first_place refusal
  pub refused : (x : Refusal) → refusal ≡ Some x → r ≡ Err x
  pub served : refusal ≡ None → Masked i text r
