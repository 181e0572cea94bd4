-- The trial call (specification, "Calls"): whether a list of letters satisfies a rule, or a refusal.
-- Its order of refusals is 1, 2, 4, 5, 6, 13, the last with the index of the first letter that is too large.
-- Assumes nothing.
use Rattle.std.specs.Prelude.{ℕ, ◌≡◌, Bool, true, cond, ◌↔◌, Option, Some, None, Result, Ok, Err}
use Rattle.reader.specs.declared.refusal.Refusal.{Refusal}
use Rattle.reader.specs.declared.refusal.Refusal.TheVariants.{Alphabet, TextLength, Value}
use Rattle.machine.specs.Letters.{Trace}
use Rattle.reader.specs.Text.{Text}
use Rattle.reader.specs.Limits.{too_long}
use Rattle.reader.specs.Formula.{Formula}
use Rattle.reader.specs.Marks.{rule_kind}
use Rattle.reader.specs.Reading.{Reading, ReadingOf, IsGood}
use Rattle.reader.specs.Refusal.{first_number, first_place, answer_number, answer_place, after_rule}
use Rattle.automaton.specs.Alphabet.{bad_alphabet, letter_count, first_over, after_list}
use Rattle.automaton.specs.Trace.{Satisfies}

-- the refusal that comes first, for a text with the reading ρ
unfoldable pub trial_refusal : (i o : ℕ) (text : Text) (letters : Trace) (ρ : Reading) → Option Refusal
unfolding first_over
trial_refusal i o text letters ρ =
    cond (bad_alphabet i o) (Some Alphabet)
    (cond (too_long text) (Some TextLength)
    (after_rule ρ
    (after_list (letter_count i o) letters Value None)))

-- the answer of a served call
pub record Judged (i o : ℕ) (text : Text) (letters : Trace) (r : Result Bool Refusal) : Type 0 where
  pub formula : Formula
  pub good : IsGood i (rule_kind i o) text formula
  pub satisfied : Bool
  pub answer : r ≡ Ok satisfied
  pub right : (satisfied ≡ true) ↔ Satisfies formula letters

-- the whole promise: number and place, and where the call is served whether the list satisfies the rule
pub record Tried (i o : ℕ) (text : Text) (letters : Trace) (r : Result Bool Refusal) : Type 0 where
  pub reading : Reading
  pub read : ReadingOf i (rule_kind i o) text reading
  pub refusal : Option Refusal
  pub first : refusal ≡ trial_refusal i o text letters reading
  pub number : answer_number r ≡ first_number refusal
  pub place : answer_place r ≡ first_place refusal
  pub refused : (x : Refusal) → refusal ≡ Some x → r ≡ Err x
  pub served : refusal ≡ None → Judged i o text letters r
