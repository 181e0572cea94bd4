-- What two runs of a call that solves a game have in common: everything. Two runs are two answers, each with the buffers that it left, for one input and the
-- same buffers before; proofs/OneAnswer.antt says that any two for which the call's promise holds agree so. The answer with n and the round number, the
-- automaton and every byte of both tables are determined. No promise of a call that the specification names rests on this file.
-- Assumes nothing.
use Rattle.std.specs.Prelude.{◌≡◌}
use Rattle.plays.specs.Strategy.{Table}
use Rattle.game.specs.Answer.{Answer}
use Rattle.game.specs.Rule.{Buffers}

-- two runs of the call for a given automaton
pub record GivenAgree (σ τ σ' τ' : Table) (r r' : Answer) : Type 0 where
  pub answer : r ≡ r'
  pub system : σ ≡ σ'
  pub environment : τ ≡ τ'

-- two runs of the rule call
pub record RuleAgree (new new' : Buffers) (r r' : Answer) : Type 0 where
  pub answer : r ≡ r'
  pub transitions : new.transitions ≡ new'.transitions
  pub accepting : new.accepting ≡ new'.accepting
  pub system : new.system ≡ new'.system
  pub environment : new.environment ≡ new'.environment
