-- The rule call (specification, "Calls"): demands 1, 2 and 3 for a rule. Its order of refusals is 1, 2, 4 to 8, 15, 9, 3.
-- Assumes nothing.
use Rattle.std.specs.Prelude.{◌≡◌, ℕ, ◌*◌, ◌^◌, ◌<◌, ◌≤◌, Bool, true, cond, ◌||◌, ◌↔◌, List, length, take, nat_lt, Option, Some, None, Ok, Err}
use Rattle.reader.specs.Text.{Text}
use Rattle.reader.specs.declared.refusal.Refusal.{Refusal}
use Rattle.reader.specs.declared.refusal.Refusal.TheVariants.{Alphabet, TextLength, Buffer, StateCount}
use Rattle.reader.specs.Limits.{too_long}
use Rattle.reader.specs.Formula.{Formula}
use Rattle.reader.specs.Marks.{rule_kind, condition_kind}
use Rattle.reader.specs.Reading.{Reading, ReadingOf, IsGood}
use Rattle.reader.specs.Refusal.{first_number, first_place, answer_number, answer_place, after_rule}
use Rattle.automaton.specs.Limits.{state_limit}
use Rattle.automaton.specs.Alphabet.{bad_alphabet, letter_count}
use Rattle.automaton.specs.Trace.{Satisfies}
use Rattle.automaton.specs.Automaton.{Automaton}
use Rattle.automaton.specs.Buffer.{Kept}
use Rattle.automaton.specs.Construction.{CountOf, short_automaton, Over}
use Rattle.automaton.specs.Condition.{mask_of, Judges, NoneSatisfies, after_assumption}
use Rattle.game.specs.Answer.{Answer, verdict_of}
use Rattle.plays.specs.declared.mode.Mode.{Mode}
use Rattle.plays.specs.Arena.{Input, Arena, arena}
use Rattle.plays.specs.Play.{Step, stands_on, letters, Along}
use Rattle.plays.specs.Strategy.{Table, system_byte, environment_byte, BySystem, ByEnvironment, Assumed, Failed}
use Rattle.plays.specs.Round.{RoundNumber}
use Rattle.game.specs.Tables.{Tables, Verdict}

-- a beginning of the play, its first k steps for a k from 1 to its length, satisfies the rule
abbrev pub Satisfied : Formula → Arena → List Step → Type 0
Satisfied φ G p = (k : ℕ) × (0 < k) × (k ≤ length p) × Satisfies φ (take k (letters G p))

-- "can", with the round number r: every play from the start that follows the system's strategy has a beginning that satisfies the rule, where the condition
-- has come r times, and until then comes to no byte that is no output
pub record Can (mode : Mode) (φ : Formula) (G : Arena) (r : ℕ) (σ : Table) : Type 0 where
  pub satisfying : (p : List Step) → Along G (BySystem G σ) 0 p → Assumed mode G r p → Satisfied φ G p
  pub answers : (p : List Step) → Along G (BySystem G σ) 0 p → (Satisfied φ G p → ⊥) → (x : Input) → x < G.inputs
      → system_byte G σ (stands_on G 0 p) x < G.outputs

-- "cannot": no play from the start that follows the environment's strategy has a beginning that satisfies the rule, fails the assumption,
-- or comes to a byte that is no input
pub record Cannot (mode : Mode) (φ : Formula) (G : Arena) (τ : Table) : Type 0 where
  pub avoiding : (p : List Step) → Along G (ByEnvironment G τ) 0 p → Satisfied φ G p → ⊥
  pub keeping : (p : List Step) → Along G (ByEnvironment G τ) 0 p → Failed mode G p → ⊥
  pub answers : (p : List Step) → Along G (ByEnvironment G τ) 0 p → environment_byte τ (stands_on G 0 p) < G.inputs

-- the four buffers that are lent: transitions, accepting flags, the system's table and the environment's
pub record Buffers : Type 0 where
  pub transitions : List ℕ
  pub accepting : List ℕ
  pub system : Table
  pub environment : Table

abbrev pub buffers : (t a : List ℕ) (σ τ : Table) → Buffers
buffers t a σ τ = record { transitions = t; accepting = a; system = σ; environment = τ }

-- refusal 3: a buffer is too short for n states
abbrev pub short_buffers : (i o n : ℕ) → Buffers → Bool
short_buffers i o n old =
    short_automaton (letter_count i o) n old.transitions old.accepting
    || (nat_lt (length old.system) (n * 2 ^ i) || nat_lt (length old.environment) n)

-- the refusals once the states are counted: 9, and 3 by their number
abbrev pub size_refusal : (i o : ℕ) (old : Buffers) (n : ℕ) → Option Refusal
size_refusal i o old n = cond (nat_lt state_limit n) (Some StateCount) (cond (short_buffers i o n old) (Some (Buffer n)) None)

-- the refusal that comes first, for texts with the readings ρ and κ, a condition of which `none` tells whether no input number satisfies it, and a rule
-- with n states
unfoldable pub rule_refusal : (i o : ℕ) (rule condition : Text) (old : Buffers) (ρ κ : Reading) (none : Bool) (n : ℕ) → Option Refusal
rule_refusal i o rule condition old ρ κ none n =
    cond (bad_alphabet i o) (Some Alphabet)
    (cond (too_long rule || too_long condition) (Some TextLength)
    (after_rule ρ
    (after_assumption κ none
    (size_refusal i o old n))))

-- a served call: the formulas of the two texts, the automaton, both tables, the verdict with its round number r and what it promises
pub record RuleServed (mode : Mode) (i o : ℕ) (rule condition : Text) (old new : Buffers) (n r : ℕ) : Type 0 where
  pub formula : Formula
  pub good : IsGood i (rule_kind i o) rule formula
  pub assumption : Formula
  pub assumed : IsGood i (condition_kind i) condition assumption
  pub judges : Judges assumption i (mask_of assumption i)
  pub automaton : Automaton formula (letter_count i o) n new.transitions new.accepting
  pub transitions_kept : Kept (n * letter_count i o) old.transitions new.transitions
  pub accepting_kept : Kept n old.accepting new.accepting
  pub tables : Tables mode (arena i o n new.transitions new.accepting (mask_of assumption i))
      old.system old.environment new.system new.environment
  pub verdict : Verdict mode (arena i o n new.transitions new.accepting (mask_of assumption i)) new.system new.environment 0 r
  pub can_promise : 0 < r → Can mode formula (arena i o n new.transitions new.accepting (mask_of assumption i)) r new.system
  pub cannot_promise : r ≡ 0 → Cannot mode formula (arena i o n new.transitions new.accepting (mask_of assumption i)) new.environment
  pub round : RoundNumber mode (arena i o n new.transitions new.accepting (mask_of assumption i))
      (Satisfied formula (arena i o n new.transitions new.accepting (mask_of assumption i))) r

-- the whole promise: the specification's number and place, the answer and the four buffers on every input
pub record RuleSolved (mode : Mode) (i o : ℕ) (rule condition : Text) (old new : Buffers) (r : Answer) : Type 0 where
  pub reading : Reading
  pub read : ReadingOf i (rule_kind i o) rule reading
  pub condition_reading : Reading
  pub condition_read : ReadingOf i (condition_kind i) condition condition_reading
  pub none : Bool
  pub none_satisfies : (none ≡ true) ↔ NoneSatisfies i condition
  pub states : ℕ
  pub counted : CountOf i o rule states
  pub refusal : Option Refusal
  pub first : refusal ≡ rule_refusal i o rule condition old reading condition_reading none states
  pub number : answer_number r ≡ first_number refusal
  pub place : answer_place r ≡ first_place refusal
  pub served : refusal ≡ None → (round : ℕ) × (r ≡ Ok (verdict_of states round)) × RuleServed mode i o rule condition old new states round
  pub refused : (x : Refusal) → refusal ≡ Some x → (r ≡ Err x) × (new ≡ old)
  pub over : refusal ≡ Some StateCount → Over i o rule
