-- Lists of states (specs/inner/States.antt): a search's answer, and the list with one more state at its end. Assumes nothing.
use Prim.Native.Nat.{ℕ, ◌≤◌, ◌<◌}
use mathlib.Core.Path.{◌≡◌, refl, sym, ap, ◌∙◌, subst}
use mathlib.Core.Bool.{Bool, true≢false}
use mathlib.Core.List.{List, [], ◌∷◌}
use mathlib.Core.Logic.{inl, inr}
use native.Mathlib.Nat.{le_refl}
use native.Mathlib.Omega.{arith}
use lib.Dec.{eqb}
use lib.ListN.{length, get_or, length-append, get_or-append}
use borrow.Author.Tests.{eqb-true, eq-eqb, lt-ltb}
use Rattle.std.specs.List.{position, position_or_len}
use Rattle.std.specs.Prelude.{Option, Some, None}
use Rattle.std.specs.Option.{is_some, unwrap_or}
use Rattle.std.proofs.lemmas.Bool.{cases_lt}
use Rattle.std.proofs.lemmas.List.Sums.{fails_before_first}
use Rattle.std.proofs.lemmas.List.Quantifiers.{position-Some}
use Rattle.machine.specs.inner.Exploration.{Place}
use Rattle.automaton.specs.inner.States.{Found, Extended}
use Rattle.automaton.specs.inner.Exploration.{word_at}

abbrev is : ℕ → ℕ → Bool
is x y = eqb y x

-- the first place that a search meets is a place
pub found_first : (list : List ℕ) (x : ℕ) (o : Option ℕ) → o ≡ position (λ y. eqb y x) list → Found list x o
found_first list x None e =
    λ k l here. elim (cases_lt (position_or_len (is x) list) (length list)) [
      | inl inside ↦ absurd (true≢false (ap (λ o. is_some o) (let none = sym e in rw (lt-ltb (position_or_len (is x) list) (length list) inside) at none)))
      | inr past ↦ absurd (true≢false (sym (eq-eqb _ _ here) ∙ fails_before_first (is x) list k 0 (omega arith)))
    ]
found_first list x (Some p) e = let h = position-Some (is x) list p 0 (sym e) in (h.0, eqb-true _ _ h.1)

-- what a search finds is a place of any machine's list, the length where it finds none
pub found_place : (list : List ℕ) (x : ℕ) (o : Option ℕ) → Found list x o → Place (word_at list) (length list) x (unwrap_or o (length list))
found_place list x None absent = record { within = le_refl (length list); here = λ h. absurd (let z : ⊥ = omega arith in z); nowhere = λ _. absent }
found_place list x (Some p) (l, e) = record { within = omega arith; here = λ _. e; nowhere = λ q. absurd (let z : ⊥ = omega arith in z) }

-- a list with one more state has what it had
pub record Prefix (list new : List ℕ) : Type 0 where
  pub grown : length list ≤ length new
  pub same : (s : ℕ) → s < length list → get_or new s 0 ≡ get_or list s 0

pub extended_keeps : (list : List ℕ) (x : ℕ) (new : List ℕ) → Extended list x new → Prefix list new
extended_keeps list x new (inl (here, e)) = subst (λ (l : List ℕ). Prefix list l) (sym e) (record { grown = le_refl (length list); same = λ s h. refl })
extended_keeps list x new (inr (absent, e)) =
    subst (λ (l : List ℕ). Prefix list l) (sym e)
    (record { grown = omega (arith, length-append list (x ∷ [])); same = λ s h. get_or-append list (x ∷ []) 0 s h })
