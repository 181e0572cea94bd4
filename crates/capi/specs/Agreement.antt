-- What two runs of a call from C on one input, with the same in its buffers before, have in common (proofs/OneAnswer.antt: any two for which its promise
-- holds): everything, that is every single number that is written and every byte of every buffer. The names with ' are the second run's. No promise of a call
-- that the specification names rests on this file.
-- Assumes nothing.
use Rattle.std.specs.Prelude.{ℕ, ◌≡◌}
use Rattle.plays.specs.Strategy.{Table}
use Rattle.game.specs.Rule.{Buffers}

-- the rule call, with its four buffers
pub record RuleWrittenAgree (new new' : Buffers) (number can n round place number' can' n' round' place' : ℕ) : Type 0 where
  pub same_number : number ≡ number'
  pub same_can : can ≡ can'
  pub same_n : n ≡ n'
  pub same_round : round ≡ round'
  pub same_place : place ≡ place'
  pub same_buffers : new ≡ new'

-- the call for a given automaton, with its two tables
pub record GivenWrittenAgree (σ τ σ' τ' : Table) (number can round place number' can' round' place' : ℕ) : Type 0 where
  pub same_number : number ≡ number'
  pub same_can : can ≡ can'
  pub same_round : round ≡ round'
  pub same_place : place ≡ place'
  pub same_system : σ ≡ σ'
  pub same_environment : τ ≡ τ'

-- the follower
pub record StepWrittenAgree (state reached row output place number state' reached' row' output' place' number' : ℕ) : Type 0 where
  pub same_state : state ≡ state'
  pub same_reached : reached ≡ reached'
  pub same_row : row ≡ row'
  pub same_output : output ≡ output'
  pub same_place : place ≡ place'
  pub same_number : number ≡ number'

-- the trial call
pub record TrialWrittenAgree (number satisfied place number' satisfied' place' : ℕ) : Type 0 where
  pub same_number : number ≡ number'
  pub same_satisfied : satisfied ≡ satisfied'
  pub same_place : place ≡ place'
