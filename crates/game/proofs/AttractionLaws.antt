-- Laws of one state in a pass: whether the player of the inner ranks attracts it, as the code finds it.
-- Assumes nothing.
use Rattle.std.proofs.Common.{◌≡◌, ℕ, Bool, true, false, List, Option, Some, None, sym, subst, arith}
use Rattle.std.specs.Option.{is_some, is_none}
use Rattle.game.specs.inner.Limits.{rank_limit}
use Rattle.plays.specs.Arena.{Arena}
use Rattle.game.specs.inner.Serving.{ranked_below, safe_below, FirstUnserved}
use Rattle.game.specs.inner.Rounds.{Unranked, Apart, Attracted}
use Rattle.reader.proofs.BoolLaws.{on}
use Rattle.game.proofs.LimitLaws.{ranked_below_lem, none_below_lem}
use Rattle.game.proofs.ServingLaws.{all_served, one_unserved}

-- a state with a rank
pub attracted_not : {fair : Bool} {G : Arena} {outer inner : List ℕ} {p s : ℕ} → (Unranked outer inner s → ⊥) → Attracted fair G outer inner p s false
attracted_not h = record { gains = λ e. absurd (mathlib.Core.Bool.false≢true e); stays = λ e z. absurd (h z) }

-- no state is ranked both ways
module _ (outer inner : List ℕ) (p : ℕ) (apart : Apart outer inner) (t : ℕ) where
  not_outer : ranked_below p inner t ≡ true → ranked_below rank_limit outer t ≡ false
  not_outer e =
      let i = ranked_below_lem p inner t e in
      on (ranked_below rank_limit outer t) (λ w. let o = apart t (ranked_below_lem rank_limit outer t w).0 in absurd (let z : ⊥ = omega arith in z)) (λ w. w)

  not_inner : ranked_below rank_limit outer t ≡ true → ranked_below p inner t ≡ false
  not_inner e = none_below_lem p inner t (apart t (ranked_below_lem rank_limit outer t e).0)

module _ {fair : Bool} {G : Arena} {outer inner : List ℕ} {p s : ℕ} (apart : Apart outer inner) (un : Unranked outer inner s) where
  -- fair: the environment attracts where some input is unserved
  pub attracted_fair : fair ≡ true → (r : Option ℕ) → FirstUnserved G (ranked_below rank_limit outer) (safe_below false p inner) s r
      → Attracted fair G outer inner p s (is_some r)
  attracted_fair e (Some x) u =
      subst (λ (f : Bool). Attracted f G outer inner p s true) (sym e)
      (record { gains = λ _. (un, one_unserved G s (not_inner outer inner p apart) x u.0 u.1); stays = λ h. absurd (mathlib.Core.Bool.true≢false h) })
  attracted_fair e None u =
      subst (λ (f : Bool). Attracted f G outer inner p s false) (sym e)
      (record { gains = λ h. absurd (mathlib.Core.Bool.false≢true h); stays = λ _ z. all_served G s (not_inner outer inner p apart) u })

  -- stable: the system attracts where every input is served
  pub attracted_stable : fair ≡ false → (r : Option ℕ) → FirstUnserved G (ranked_below p inner) (safe_below false rank_limit outer) s r
      → Attracted fair G outer inner p s (is_none r)
  attracted_stable e (Some x) u =
      subst (λ (f : Bool). Attracted f G outer inner p s false) (sym e)
      (record { gains = λ h. absurd (mathlib.Core.Bool.false≢true h); stays = λ _ z. one_unserved G s (not_outer outer inner p apart) x u.0 u.1 })
  attracted_stable e None u =
      subst (λ (f : Bool). Attracted f G outer inner p s true) (sym e)
      (record { gains = λ _. (un, all_served G s (not_outer outer inner p apart) u); stays = λ h. absurd (mathlib.Core.Bool.true≢false h) })
