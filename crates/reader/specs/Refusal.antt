-- The refusals (specification, "Refusals"): the declared type `Refusal`, one case for each row of the specification's table that a call of the
-- library can return.
-- Assumes nothing.
use Rattle.std.specs.Prelude.{ℕ, Option, Some, None, Result, Ok, Err}
use Rattle.reader.specs.declared.reading.Unreadable.{Unreadable}
use Rattle.reader.specs.declared.reading.Unreadable.TheVariants.{TooLong, Bad, TooManyNodes, TooManyOperators}
use Rattle.reader.specs.Reading.{Reading}
use Rattle.reader.specs.declared.refusal.Subject.{Subject}
use Rattle.reader.specs.declared.refusal.Subject.TheVariants.{Rule, Condition}
use Rattle.reader.specs.declared.refusal.Refusal.{Refusal}
use Rattle.reader.specs.declared.refusal.Refusal.TheVariants.{Alphabet, TextLength, Buffer, RuleText, RuleNodes, RuleOperators}
use Rattle.reader.specs.declared.refusal.Refusal.TheVariants.{ConditionText, ConditionNodes, StateCount, GivenCount, Move, State, Value, Unsatisfiable}

-- the specification's number of a refusal
abbrev pub number_of : Refusal → ℕ
number_of Alphabet = 1
number_of TextLength = 2
number_of (Buffer n) = 3
number_of (RuleText k) = 4
number_of RuleNodes = 5
number_of RuleOperators = 6
number_of (ConditionText k) = 7
number_of ConditionNodes = 8
number_of StateCount = 9
number_of GivenCount = 10
number_of (Move k) = 11
number_of State = 12
number_of (Value k) = 13
number_of Unsatisfiable = 15

-- the place or index that goes with it; 0 where there is none
abbrev pub place_of : Refusal → ℕ
place_of Alphabet = 0
place_of TextLength = 0
place_of (Buffer n) = 0
place_of (RuleText k) = k
place_of RuleNodes = 0
place_of RuleOperators = 0
place_of (ConditionText k) = k
place_of ConditionNodes = 0
place_of StateCount = 0
place_of GivenCount = 0
place_of (Move k) = k
place_of State = 0
place_of (Value k) = k
place_of Unsatisfiable = 0

-- the number of states that the buffers must have room for, which goes with 3; 0 for every other refusal
abbrev pub needed_of : Refusal → ℕ
needed_of Alphabet = 0
needed_of TextLength = 0
needed_of (Buffer n) = n
needed_of (RuleText k) = 0
needed_of RuleNodes = 0
needed_of RuleOperators = 0
needed_of (ConditionText k) = 0
needed_of ConditionNodes = 0
needed_of StateCount = 0
needed_of GivenCount = 0
needed_of (Move k) = 0
needed_of State = 0
needed_of (Value k) = 0
needed_of Unsatisfiable = 0

-- the number of the refusal that comes first; 0 where none comes, so that the call is served
abbrev pub first_number : Option Refusal → ℕ
first_number None = 0
first_number (Some x) = number_of x

-- and its place
abbrev pub first_place : Option Refusal → ℕ
first_place None = 0
first_place (Some x) = place_of x

-- the specification's number of a call's answer, whatever a served call gives: 0 for a served call
abbrev pub answer_number : {T : Type 0} → Result T Refusal → ℕ
answer_number (Ok t) = 0
answer_number (Err x) = number_of x

-- the place that goes with it: 0 where there is none
abbrev pub answer_place : {T : Type 0} → Result T Refusal → ℕ
answer_place (Ok t) = 0
answer_place (Err x) = place_of x

-- what a rule's or a condition's text is refused by that is none within the limits
-- (`TooLong` never arises in a call, which tests the length before it reads, nor do too many operators of a condition, which has no temporal one)
abbrev pub text_refusal : Subject → Unreadable → Refusal
text_refusal subject TooLong = TextLength
text_refusal Rule (Bad k) = RuleText k
text_refusal Condition (Bad k) = ConditionText k
text_refusal Rule TooManyNodes = RuleNodes
text_refusal Condition TooManyNodes = ConditionNodes
text_refusal Rule TooManyOperators = RuleOperators
text_refusal Condition TooManyOperators = ConditionNodes

-- what the reading of such a text is refused by, and where it is good what comes after
abbrev pub after_text : Subject → Reading → Option Refusal → Option Refusal
after_text subject (Ok n) later = later
after_text subject (Err e) later = Some (text_refusal subject e)

-- the rule's refusals: 4, 5 and 6
abbrev pub after_rule : Reading → Option Refusal → Option Refusal
after_rule ρ later = after_text Rule ρ later

-- the condition's: 7 and 8
abbrev pub after_condition : Reading → Option Refusal → Option Refusal
after_condition ρ later = after_text Condition ρ later
