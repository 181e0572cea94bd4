-- The calls from C have one outcome: two runs on one input, with the same in the buffers before, for which the call's promise holds agree as
-- specs/Agreement.antt says. Each rests on the library call's theorem.
-- Assumes nothing.
use Prim.Native.Nat.{ℕ}
use mathlib.Core.Path.{◌≡◌, sym, ap, ◌∙◌}
use mathlib.Core.List.{List}
use Rattle.reader.specs.Refusal.{answer_number, answer_place}
use Rattle.automaton.proofs.OneAnswer.{one_trial}
use Rattle.game.specs.Answer.{answer_states, answer_round}
use Rattle.game.specs.Follower.{FollowAnswer}
use Rattle.plays.specs.declared.mode.Mode.{Mode}
use Rattle.plays.specs.Arena.{arena}
use Rattle.game.specs.Rule.{Buffers}
use Rattle.game.proofs.OneAnswer.{one_rule, same_buffers, one_given}
use Rattle.capi.specs.Verdict.{can_flag, RuleWritten, GivenWritten}
use Rattle.capi.specs.Step.{StepWritten}
use Rattle.capi.specs.Trial.{satisfied_flag, TrialWritten}
use Rattle.capi.specs.Agreement.{RuleWrittenAgree, GivenWrittenAgree, StepWrittenAgree, TrialWrittenAgree}

-- a number of an answer that is the same is the same
numbers : {A : Type 0} {a b : A} {k m : ℕ} (f : A → ℕ) → a ≡ b → k ≡ f a → m ≡ f b → k ≡ m
numbers f e p q = p ∙ ap f e ∙ sym q

-- two runs of `airtable_solve_rule` agree
pub one_solve_rule : {mode : Mode} {i o : ℕ} {rule condition : List ℕ} {old new new' : Buffers}
    {number can n round place number' can' n' round' place' : ℕ}
    → RuleWritten mode i o rule condition old new number can n round place → RuleWritten mode i o rule condition old new' number' can' n' round' place'
    → RuleWrittenAgree new new' number can n round place number' can' n' round' place'
one_solve_rule x y =
    let w = one_rule x.solved y.solved in
    record {
      same_number = numbers answer_number w.answer x.number_of y.number_of;
      same_can = numbers can_flag w.answer x.can_of y.can_of;
      same_n = numbers answer_states w.answer x.n_of y.n_of;
      same_round = numbers answer_round w.answer x.round_of y.round_of;
      same_place = numbers answer_place w.answer x.place_of y.place_of;
      same_buffers = same_buffers w;
    }

-- two runs of `airtable_solve_given` agree
pub one_solve_given : {mode : Mode} (i o : ℕ) {start n : ℕ} {transitions accepting : List ℕ} {mask : ℕ} {σ₀ τ₀ σ τ σ' τ' : List ℕ}
    {number can round place number' can' round' place' : ℕ}
    → GivenWritten mode i o start (arena i o n transitions accepting mask) σ₀ τ₀ σ τ number can round place
    → GivenWritten mode i o start (arena i o n transitions accepting mask) σ₀ τ₀ σ' τ' number' can' round' place'
    → GivenWrittenAgree σ τ σ' τ' number can round place number' can' round' place'
one_solve_given i o x y =
    let w = one_given i o x.solved y.solved in
    record {
      same_number = numbers answer_number w.answer x.number_of y.number_of;
      same_can = numbers can_flag w.answer x.can_of y.can_of;
      same_round = numbers answer_round w.answer x.round_of y.round_of;
      same_place = numbers answer_place w.answer x.place_of y.place_of;
      same_system = w.system;
      same_environment = w.environment;
    }

-- two runs of `airtable_follow` agree: its promise gives each number as a function of the input
pub one_follow : {answer : FollowAnswer} {state₀ reached₀ state reached row output place number state' reached' row' output' place' number' : ℕ}
    → StepWritten answer state₀ reached₀ state reached row output place number
    → StepWritten answer state₀ reached₀ state' reached' row' output' place' number'
    → StepWrittenAgree state reached row output place number state' reached' row' output' place' number'
one_follow x y =
    record {
      same_state = x.state_of ∙ sym y.state_of;
      same_reached = x.reached_of ∙ sym y.reached_of;
      same_row = x.row_of ∙ sym y.row_of;
      same_output = x.output_of_lem ∙ sym y.output_of_lem;
      same_place = x.place_of ∙ sym y.place_of;
      same_number = x.number_of ∙ sym y.number_of;
    }

-- two runs of `airtable_try_rule` agree
pub one_try_rule : {i o : ℕ} {text letters : List ℕ} {number satisfied place number' satisfied' place' : ℕ}
    → TrialWritten i o text letters number satisfied place → TrialWritten i o text letters number' satisfied' place'
    → TrialWrittenAgree number satisfied place number' satisfied' place'
one_try_rule x y =
    let e = one_trial x.tried y.tried in
    record {
      same_number = numbers answer_number e x.number_of y.number_of;
      same_satisfied = numbers satisfied_flag e x.satisfied_of y.satisfied_of;
      same_place = numbers answer_place e x.place_of y.place_of;
    }
