-- Laws of what a player can force by one step.
-- Assumes nothing.
use Rattle.std.proofs.Common.{◌≡◌, ℕ, ◌<◌, Bool, true, false, ◌⊎◌}
use Rattle.plays.specs.Arena.{Arena, next}
use Rattle.plays.specs.inner.Rank.{Safe, Forces}
use Rattle.game.specs.inner.Valid.{Valid}
use Rattle.game.specs.inner.Rounds.{Favorable}
use Rattle.game.proofs.IndexLaws.{next_below}

pub safe_map : (G : Arena) (player : Bool) (t : ℕ) {D E : Type 0} → (D → E) → Safe G player t D → Safe G player t E
safe_map G true t f (◌⊎◌.inl g) = ◌⊎◌.inl g
safe_map G true t f (◌⊎◌.inr d) = ◌⊎◌.inr (f d)
safe_map G false t f (g, d) = (g, f d)

module _ {G : Arena} (v : Valid G) where
  -- what a player can force, it can force of whatever follows from it on a state
  pub forces_map : (player : Bool) (s : ℕ) (R Q : ℕ → ℕ → Type 0) → s < G.states → ((x t : ℕ) → t < G.states → R x t → Q x t)
      → Forces G player s R → Forces G player s Q
  forces_map true s R Q hs f h = λ x l.
      let w = h x l in
      let t = next G s x w.0 in
      (w.0, w.1, safe_map G true t (f x t (next_below v s x w.0 hs l w.1)) w.2)
  forces_map false s R Q hs f h =
      (h.0, h.1, λ y l. let t = next G s h.0 y in safe_map G false t (f h.0 t (next_below v s h.0 y hs h.1 l)) (h.2 y l))

  -- a favorable step stays one where more states are won and fewer are lost
  pub favorable_map : (player : Bool) (s : ℕ) (won lost won' lost' : ℕ → Bool) → s < G.states
      → ((t : ℕ) → won t ≡ true → won' t ≡ true) → ((t : ℕ) → lost t ≡ false → lost' t ≡ false)
      → Forces G player s (Favorable G player won lost) → Forces G player s (Favorable G player won' lost')
  favorable_map player s won lost won' lost' hs f g =
      forces_map player s (Favorable G player won lost) (Favorable G player won' lost') hs (λ x t l d. (g t d.0, λ j. f t (d.1 j)))
