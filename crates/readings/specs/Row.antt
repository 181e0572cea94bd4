-- What a row of the specification's "Readings" says: on i, o, the text of a rule, a mode and the text of a condition, the verdict, n and the round number; or that
-- no input meets the condition, so that the call is refused by 15.
-- It is said of the texts themselves and by the definitions: the grammar's formulas, the number of reachable states, and the plays on the formula's automaton.
-- Each text has one formula (reader, proofs/Unambiguous: one_formula) and no rule has two round numbers (plays, proofs/RoundLaws: one_round), so that one
-- excludes every other, and "can" excludes "cannot". The rows are checked together, as one theorem (specs/Rows.antt, proofs/Readings.antt).
-- Assumes nothing.
use Rattle.std.specs.Prelude.{ℕ, ◌^◌, ◌<◌, ◌≤◌, ◌≡◌, false, ◌||◌, List, [], ◌∷◌, Ok, Err}
use Rattle.reader.specs.Text.{Text}
use Rattle.reader.specs.declared.refusal.Refusal.TheVariants.{Unsatisfiable}
use Rattle.reader.specs.Limits.{too_long}
use Rattle.reader.specs.Formula.{Formula}
use Rattle.reader.specs.Marks.{rule_kind, condition_kind}
use Rattle.reader.specs.Reading.{IsGood}
use Rattle.automaton.specs.Limits.{state_limit}
use Rattle.automaton.specs.Alphabet.{bad_alphabet, letter_count}
use Rattle.automaton.specs.Trace.{Satisfies}
use Rattle.automaton.specs.Automaton.{Automaton}
use Rattle.automaton.specs.Condition.{mask_of, Judges, NoneSatisfies}
use Rattle.automaton.specs.Discovery.{number_of_states}
use Rattle.plays.specs.declared.mode.Mode.{Mode}
use Rattle.game.specs.Answer.{Answer, verdict_of}
use Rattle.plays.specs.Arena.{Arena, arena}
use Rattle.plays.specs.Strategy.{SystemWins, EnvironmentWins, Table}
use Rattle.plays.specs.Round.{RoundNumber}
use Rattle.game.specs.Rule.{Satisfied, Can, Cannot, Buffers, short_buffers, RuleSolved}
use Rattle.readings.specs.Lists.{transitions_of, flags_of}

-- a row with a verdict: i and o, the bytes of a rule, the mode, the bytes of a condition, n, and the round number: the station can where it is above 0
pub record Row : Type 0 where
  pub inputs : ℕ
  pub outputs : ℕ
  pub rule : Text
  pub mode : Mode
  pub condition : Text
  pub count : ℕ
  pub round : ℕ

abbrev pub row_of : (i o : ℕ) (rule : Text) (mode : Mode) (condition : Text) (n round : ℕ) → Row
row_of i o rule mode condition n round = record { inputs = i; outputs = o; rule = rule; mode = mode; condition = condition; count = n; round = round }

-- a row of the specification's list: one with a verdict; or i and o, the bytes of a rule, the mode and the bytes of an unsatisfiable condition
pub data Line : Type 0 where
  decided : Row → Line
  unsatisfiable : (i o : ℕ) (rule : Text) (mode : Mode) (condition : Text) → Line

-- in the list i = o = 1
abbrev pub row : (rule : Text) (mode : Mode) (condition : Text) (n round : ℕ) → Line
row rule mode condition n round = decided (row_of 1 1 rule mode condition n round)

abbrev pub unmet : (rule : Text) (mode : Mode) (condition : Text) → Line
unmet rule mode condition = unsatisfiable 1 1 rule mode condition

-- the number of its letters
abbrev pub letters_of : Row → ℕ
letters_of r = letter_count r.inputs r.outputs

-- the verdict on an arena with the round number r: "can" where r is above 0, by a table of the system's that wins from the start with r and keeps the rule;
-- "cannot" where r is 0, by one of the environment's. And r is the round number: no way of answering does with a smaller one
pub record VerdictOn (r : ℕ) (mode : Mode) (φ : Formula) (G : Arena) : Type 0 where
  pub can : 0 < r → (σ : Table) × SystemWins mode G r σ 0 × Can mode φ G r σ
  pub cannot : r ≡ 0 → (τ : Table) × EnvironmentWins mode G τ 0 × Cannot mode φ G τ
  pub round : RoundNumber mode G (Satisfied φ G) r

-- the arena of a row: its numbers, and an automaton's lists and a mask
abbrev pub arena_for : (r : Row) (transitions flags : List ℕ) (mask : ℕ) → Arena
arena_for r transitions flags mask = arena r.inputs r.outputs r.count transitions flags mask

-- what a row with a verdict says: i and o are in range, its texts are good and within all limits, some input number satisfies the condition, the rule has n
-- states, and the verdict holds on the rule's automaton: on the lists and the mask that are computed from the definitions, and on any others that hold the
-- same, such as the rule call's buffers
pub record RowHolds (r : Row) : Type 0 where
  pub small : bad_alphabet r.inputs r.outputs ≡ false
  pub formula : Formula
  pub good : IsGood r.inputs (rule_kind r.inputs r.outputs) r.rule formula
  pub assumption : Formula
  pub assumed : IsGood r.inputs (condition_kind r.inputs) r.condition assumption
  pub judges : Judges assumption r.inputs (mask_of assumption r.inputs)
  pub met : (x : ℕ) × (x < 2 ^ r.inputs) × Satisfies assumption (x ∷ [])
  pub short : (too_long r.rule || too_long r.condition) ≡ false
  pub counted : r.count ≡ number_of_states formula (letters_of r)
  pub few : r.count ≤ state_limit
  pub automaton : Automaton formula (letters_of r) r.count (transitions_of formula (letters_of r)) (flags_of formula (letters_of r))
  pub verdict :
      (transitions flags : List ℕ) (mask : ℕ) → Automaton formula (letters_of r) r.count transitions flags → Judges assumption r.inputs mask
      → VerdictOn r.round r.mode formula (arena_for r transitions flags mask)

-- the rule call's promise for the row's texts
abbrev pub SolvedFor : (r : Row) (old new : Buffers) (answer : Answer) → Type 0
SolvedFor r old new answer = RuleSolved r.mode r.inputs r.outputs r.rule r.condition old new answer

-- what that promise makes of the row: in buffers that are long enough for n states it answers with this verdict, this n and this round number
abbrev pub Answered : Row → Type 0
Answered r =
    (old new : Buffers) (answer : Answer)
    → short_buffers r.inputs r.outputs r.count old ≡ false
    → SolvedFor r old new answer
    → answer ≡ Ok (verdict_of r.count r.round)

-- what the other kind of row says: i and o are in range, its texts are good and within all limits, and no input number satisfies the condition
pub record Unmet (i o : ℕ) (rule condition : Text) : Type 0 where
  pub small : bad_alphabet i o ≡ false
  pub formula : Formula
  pub good : IsGood i (rule_kind i o) rule formula
  pub short : (too_long rule || too_long condition) ≡ false
  pub none : NoneSatisfies i condition

-- what a row of either kind says
abbrev pub LineHolds : Line → Type 0
LineHolds (decided r) = RowHolds r
LineHolds (unsatisfiable i o rule mode condition) = Unmet i o rule condition

-- what the rule call's promise makes of it: the other kind is refused by 15 in whatever buffers, which stay as they are
abbrev pub LineAnswered : Line → Type 0
LineAnswered (decided r) = Answered r
LineAnswered (unsatisfiable i o rule mode condition) =
    (old new : Buffers) (answer : Answer) → RuleSolved mode i o rule condition old new answer → (answer ≡ Err Unsatisfiable) × (new ≡ old)

-- P holds of every row of a list
abbrev pub All : (Line → Type 0) → List Line → Type 0
All P [] = Unit {0}
All P (l ∷ ls) = P l × All P ls
