-- What an answer of the two calls that solve a game says of plays without end. proofs/EndlessAnswers.antt: both follow from the calls' promises
-- (`RuleSolved`, `GivenSolved`), so that every answer of the code says it.
-- Assumes nothing.
use Rattle.std.specs.Prelude.{ℕ, List, Ok, Err}
use Rattle.reader.specs.Text.{Text}
use Rattle.reader.specs.Formula.{Formula}
use Rattle.reader.specs.Marks.{rule_kind, condition_kind}
use Rattle.reader.specs.Reading.{IsGood}
use Rattle.automaton.specs.Trace.{Satisfies}
use Rattle.automaton.specs.Condition.{mask_of, Judges}
use Rattle.game.specs.declared.answer.Outcome.TheVariants.{Can, Cannot}
use Rattle.game.specs.Answer.{Answer}
use Rattle.plays.specs.declared.mode.Mode.{Mode}
use Rattle.plays.specs.Arena.{State, Arena, arena}
use Rattle.plays.specs.Play.{Step, letters}
use Rattle.game.specs.Rule.{Buffers}
use Rattle.plays.specs.Strategy.{Table}
use Rattle.plays.specs.Round.{Reaching}
use Rattle.plays.specs.Endless.{Able, CanEndless, CannotEndless}

-- a beginning satisfies the rule
abbrev pub Satisfying : Formula → Arena → List Step → Type 0
Satisfying φ G p = Satisfies φ (letters G p)

-- the formulas of a rule and of a condition, whose mask judges inputs as the condition does
pub record Texts (i o : ℕ) (rule condition : Text) : Type 0 where
  pub formula : Formula
  pub good : IsGood i (rule_kind i o) rule formula
  pub assumption : Formula
  pub assumed : IsGood i (condition_kind i) condition assumption
  pub judges : Judges assumption i (mask_of assumption i)

-- the arena of n states that a rule call left, with the condition's mask
abbrev pub arena_left : (i o n : ℕ) (new : Buffers) (κ : Formula) → Arena
arena_left i o n new κ = arena i o n new.transitions new.accepting (mask_of κ i)

-- the rule call's answer: on "can", by the step that its round number says, and on "cannot", in terms of beginnings that satisfy the rule; and on both that the
-- environment can keep its promise
abbrev pub RuleEndless : (mode : Mode) (i o : ℕ) (rule condition : Text) (new : Buffers) (r : Answer) → Type 0
RuleEndless mode i o rule condition new (Ok (Can n k)) =
    (t : Texts i o rule condition)
    × Able mode (arena_left i o n new t.assumption)
    × CanEndless mode (arena_left i o n new t.assumption) k new.system 0 (Satisfying t.formula (arena_left i o n new t.assumption))
RuleEndless mode i o rule condition new (Ok (Cannot n)) =
    (t : Texts i o rule condition)
    × Able mode (arena_left i o n new t.assumption)
    × CannotEndless mode (arena_left i o n new t.assumption) new.environment 0 (Satisfying t.formula (arena_left i o n new t.assumption))
RuleEndless mode i o rule condition new (Err x) = Unit {0}

-- the answer for a given automaton, in terms of goals entered
abbrev pub GivenEndless : (mode : Mode) (G : Arena) (σ τ : Table) (start : State) (r : Answer) → Type 0
GivenEndless mode G σ τ start (Ok (Can n k)) = Able mode G × CanEndless mode G k σ start (Reaching G start)
GivenEndless mode G σ τ start (Ok (Cannot n)) = Able mode G × CannotEndless mode G τ start (Reaching G start)
GivenEndless mode G σ τ start (Err x) = Unit {0}
