-- A verdict by its round number: "cannot" where it is 0, "can" where it is above. Its states are those it is of.
-- Assumes nothing.
use Rattle.std.proofs.Common.{◌≡◌, ℕ, ◌<◌, Bool, cond, eqb, sym, refl, ap, subst, arith, eq-eqb, ne_eqb, eqb-true}
use borrow.Author.Tests.{eqb-false}
use Rattle.reader.proofs.BoolLaws.{on}
use Rattle.game.specs.declared.answer.Outcome.{Outcome}
use Rattle.game.specs.declared.answer.Outcome.TheVariants.{Can, Cannot}
use Rattle.game.specs.Answer.{outcome_states, outcome_round, verdict_of}

pub verdict_cannot : (n r : ℕ) → r ≡ 0 → verdict_of n r ≡ Cannot n
verdict_cannot n r e = ap (λ (b : Bool). cond b (Cannot n) (Can n r)) (eq-eqb r 0 e)

pub verdict_can : (n r : ℕ) → (r ≡ 0 → ⊥) → verdict_of n r ≡ Can n r
verdict_can n r d = ap (λ (b : Bool). cond b (Cannot n) (Can n r)) (ne_eqb r 0 d)

-- what holds of both answers holds of the verdict
pub of_verdict : (P : Outcome → Type 0) (n r : ℕ) → (r ≡ 0 → P (Cannot n)) → (0 < r → P (Can n r)) → P (verdict_of n r)
of_verdict P n r cannot can =
    on (eqb r 0)
    (λ e. let z : r ≡ 0 = eqb-true r 0 e in subst P (sym (verdict_cannot n r z)) (cannot z))
    (λ e. let d : r ≡ 0 → ⊥ = eqb-false r 0 e in subst P (sym (verdict_can n r d)) (can (omega (arith, d))))

pub verdict_states : (n r : ℕ) → outcome_states (verdict_of n r) ≡ n
verdict_states n r = of_verdict (λ x. outcome_states x ≡ n) n r (λ e. refl) (λ l. refl)

pub verdict_round : (n r : ℕ) → outcome_round (verdict_of n r) ≡ r
verdict_round n r = of_verdict (λ x. outcome_round x ≡ r) n r (λ e. sym e) (λ l. refl)
