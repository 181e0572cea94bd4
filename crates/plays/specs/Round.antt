-- The round number (specification, "Round number"): how many steps with the condition it takes at worst until the rule is satisfied, by the best way of
-- answering that there is. Said over ways with any memory and over plays; nothing here speaks of how the number is found.
-- `Done p` says that a beginning of the play p does what it has to: for a rule, it satisfies the rule (`Satisfied`, in the specs of game); for a given
-- automaton, it enters a goal (`Reaching`).
-- Assumes nothing.
use Rattle.std.specs.Prelude.{ℕ, ◌<◌, ◌≡◌, true, List}
use Rattle.plays.specs.declared.mode.Mode.{Mode}
use Rattle.plays.specs.Arena.{State, Arena}
use Rattle.plays.specs.Play.{Step, reaches}
use Rattle.plays.specs.Strategy.{Assumed}
use Rattle.plays.specs.Way.{SystemWay, Outputs, ByWay}

-- for a given automaton: a step of the play from state s enters a goal
abbrev pub Reaching : (G : Arena) (s : State) (p : List Step) → Type 0
Reaching G s p = reaches G s p ≡ true

-- a way does with A, which says on which plays the environment has done its part: every play by the way of which A is so is done
abbrev pub Does : (G : Arena) (Done A : List Step → Type 0) (ω : SystemWay) → Type 0
Does G Done A ω = (p : List Step) → ByWay G ω p → A p → Done p

-- a play that shows that a way does not do with A: it is by the way, A is so, and it is not done
pub record Counterplay (G : Arena) (Done A : List Step → Type 0) (ω : SystemWay) : Type 0 where
  pub play : List Step
  pub by : ByWay G ω play
  pub assumed : A play
  pub undone : Done play → ⊥

-- r is the smallest number k, from 1 up, such that some way does with A k, and 0 where there is none. Against every way there is a counterplay with every
-- smaller number, and with every number at all where r is 0. No other number is (proofs/RoundLaws.antt, one_smallest)
pub record Smallest (G : Arena) (Done : List Step → Type 0) (A : ℕ → List Step → Type 0) (r : ℕ) : Type 0 where
  pub some : 0 < r → (ω : SystemWay) × Outputs G ω × Does G Done (A r) ω
  pub smallest : (k : ℕ) → 0 < k → (0 < r → k < r) → (ω : SystemWay) → Outputs G ω → Counterplay G Done (A k) ω

-- r is the round number: the smallest k such that, by some way, every play on which the condition has come k times, in a row when stable, is done
abbrev pub RoundNumber : (mode : Mode) (G : Arena) (Done : List Step → Type 0) (r : ℕ) → Type 0
RoundNumber mode G Done r = Smallest G Done (Assumed mode G) r
