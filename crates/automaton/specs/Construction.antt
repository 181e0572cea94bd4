-- The automaton layer's own call: from a rule's text to transitions and accepting flags. Its answer is the number of states, or a refusal.
-- The specification names no such call; its order of refusals is that of a rule with the condition's left out: 1, 2, 4, 5, 6, 9, 3. A caller that holds
-- more for each state than these two buffers says for how many states it has room, so that 3 comes before anything is written.
-- Assumes nothing.
use Rattle.std.specs.Prelude.{ℕ, ◌*◌, ◌≡◌, Bool, cond, ◌||◌, List, ltb, length, Option, Some, None, Result, Ok, Err}
use Rattle.reader.specs.Text.{Text}
use Rattle.reader.specs.declared.refusal.Refusal.{Refusal}
use Rattle.reader.specs.declared.refusal.Refusal.TheVariants.{Alphabet, TextLength, Buffer, StateCount}
use Rattle.reader.specs.Limits.{too_long}
use Rattle.reader.specs.Formula.{Formula}
use Rattle.reader.specs.Marks.{rule_kind}
use Rattle.reader.specs.Reading.{Reading, ReadingOf, IsGood}
use Rattle.reader.specs.Refusal.{first_number, first_place, answer_number, answer_place, after_rule}
use Rattle.automaton.specs.Limits.{state_limit}
use Rattle.automaton.specs.Alphabet.{bad_alphabet, letter_count}
use Rattle.automaton.specs.Discovery.{number_of_states}
use Rattle.automaton.specs.Automaton.{Automaton, TooManyStates}
use Rattle.automaton.specs.Buffer.{Kept}

-- n is the number of the rule's states, if the text is a rule within its limits
abbrev pub CountOf : (i o : ℕ) (text : Text) (n : ℕ) → Type 0
CountOf i o text n = (φ : Formula) → IsGood i (rule_kind i o) text φ → n ≡ number_of_states φ (letter_count i o)

-- the buffers are too short for n states
abbrev pub short_automaton : (L n : ℕ) (transitions accepting : List ℕ) → Bool
short_automaton L n transitions accepting = ltb (length transitions) (n * L) || ltb (length accepting) n

-- what a rule with n states is refused by once they are counted: 9, and 3 where the caller has no room for them, or a buffer is too short
abbrev pub count_refusal : (L room : ℕ) (transitions accepting : List ℕ) (n : ℕ) → Option Refusal
count_refusal L room transitions accepting n =
    cond (ltb state_limit n) (Some StateCount) (cond (ltb room n || short_automaton L n transitions accepting) (Some (Buffer n)) None)

-- the refusal that comes first, for a text with the reading ρ whose rule has n states
unfoldable pub construct_refusal : (i o : ℕ) (text : Text) (room : ℕ) (transitions accepting : List ℕ) (ρ : Reading) (n : ℕ) → Option Refusal
construct_refusal i o text room transitions accepting ρ n =
    cond (bad_alphabet i o) (Some Alphabet)
    (cond (too_long text) (Some TextLength)
    (after_rule ρ
    (count_refusal (letter_count i o) room transitions accepting n)))

-- the answer to the refusal that comes first and a number of states
abbrev pub construction_of : Option Refusal → ℕ → Result ℕ Refusal
construction_of None n = Ok n
construction_of (Some x) n = Err x

-- the buffers of a served call: the automaton of the text's formula with n states, and beyond n states' share they are as they were
pub record ConstructionServed (i o : ℕ) (text : Text) (n : ℕ) (transitions accepting transitions' accepting' : List ℕ) : Type 0 where
  pub formula : Formula
  pub good : IsGood i (rule_kind i o) text formula
  pub automaton : Automaton formula (letter_count i o) n transitions' accepting'
  pub transitions_kept : Kept (n * letter_count i o) transitions transitions'
  pub accepting_kept : Kept n accepting accepting'

-- refusal 9: the text's formula has more states than the limit
pub record Over (i o : ℕ) (text : Text) : Type 0 where
  pub formula : Formula
  pub good : IsGood i (rule_kind i o) text formula
  pub many : TooManyStates formula (letter_count i o)

-- the whole promise: the answer and both buffers on every input
pub record Constructed (i o : ℕ) (text : Text) (room : ℕ) (transitions accepting transitions' accepting' : List ℕ) (r : Result ℕ Refusal) : Type 0 where
  pub reading : Reading
  pub read : ReadingOf i (rule_kind i o) text reading
  pub states : ℕ
  pub counted : CountOf i o text states
  pub refusal : Option Refusal
  pub first : refusal ≡ construct_refusal i o text room transitions accepting reading states
  pub number : answer_number r ≡ first_number refusal
  pub place : answer_place r ≡ first_place refusal
  pub answer : r ≡ construction_of refusal states
  pub served : refusal ≡ None → ConstructionServed i o text states transitions accepting transitions' accepting'
  pub over : refusal ≡ Some StateCount → Over i o text
  pub untouched : (refusal ≡ None → ⊥) → (transitions' ≡ transitions) × (accepting' ≡ accepting)
