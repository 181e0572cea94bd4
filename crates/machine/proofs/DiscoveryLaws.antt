-- The list of the states discovered so far (specs/Discovery.antt): what a step does to it, that it only grows, and when it stays.
-- Assumes nothing.
use Prim.Native.Nat.{ℕ, zero, suc, ◌+◌, ◌*◌, ◌/◌, ◌%◌, ◌≤◌, ◌<◌}
use mathlib.Core.Path.{◌≡◌, refl, sym, ap, ◌∙◌, subst}
use mathlib.Core.Bool.{Bool, true, false, cond}
use mathlib.Core.List.{List, [], ◌∷◌, ◌++◌}
use mathlib.Core.Logic.{◌⊎◌, inl, inr}
use native.Mathlib.Nat.{div-lt_iff_lt-mul, le_refl, le_trans, not-suc-le-zero, add-zero, add-suc, eq-or-lt_of_le}
use native.Mathlib.Omega.{arith}
use borrow.Author.Count.{below_more}
use borrow.Author.Tests.{lt-ltb, le-ltb, ltb-true, ltb-false}
use lib.Dec.{ltb}
use lib.ListN.{length, length-append, get_or-append}
use Rattle.machine.specs.Machine.{Machine}
use Rattle.machine.specs.Discovery.{position, extend, target, look, discovered}
use Rattle.machine.proofs.PositionLaws.{position_le, position_append, position_new}

-- the state to which step t looks, and its place among the states discovered before
abbrev pub looked : {S : Type 0} (M : Machine S) (L t : ℕ) → S
looked M L t = target M L (discovered M L t) t

abbrev pub looked_place : {S : Type 0} (M : Machine S) (L t : ℕ) → ℕ
looked_place M L t = position M (looked M L t) (discovered M L t)

-- ---- what step t does

module _ {S : Type 0} (M : Machine S) (L t : ℕ) where
  abbrev ws : List S
  ws = discovered M L t

  pub discovered_old : t < length (discovered M L t) * L → looked_place M L t < length (discovered M L t) → discovered M L (suc t) ≡ discovered M L t
  unfolding discovered look extend
  discovered_old more h =
      ap (λ (b : Bool). cond b (extend M ws (looked M L t)) ws) (lt-ltb t (length ws * L) more)
      ∙ ap (λ (b : Bool). cond b ws (ws ++ (looked M L t ∷ []))) (lt-ltb (looked_place M L t) (length ws) h)

  pub discovered_new : t < length (discovered M L t) * L → looked_place M L t ≡ length (discovered M L t)
      → discovered M L (suc t) ≡ discovered M L t ++ (looked M L t ∷ [])
  unfolding discovered look extend
  discovered_new more e =
      ap (λ (b : Bool). cond b (extend M ws (looked M L t)) ws) (lt-ltb t (length ws * L) more)
      ∙ ap (λ (b : Bool). cond b ws (ws ++ (looked M L t ∷ []))) (le-ltb (looked_place M L t) (length ws) (omega arith))

  discovered_end : length (discovered M L t) * L ≤ t → discovered M L (suc t) ≡ discovered M L t
  unfolding discovered look
  discovered_end h = ap (λ (b : Bool). cond b (extend M ws (looked M L t)) ws) (le-ltb t (length ws * L) h)

-- it finds a state that is there, or a new one, or there is nothing left to look at
pub data Step {S : Type 0} (M : Machine S) (L t : ℕ) : Type 0 where
  old : t < length (discovered M L t) * L → looked_place M L t < length (discovered M L t) → discovered M L (suc t) ≡ discovered M L t → Step M L t
  new : t < length (discovered M L t) * L → looked_place M L t ≡ length (discovered M L t) → discovered M L (suc t) ≡ discovered M L t ++ (looked M L t ∷ [])
      → Step M L t
  end : length (discovered M L t) * L ≤ t → discovered M L (suc t) ≡ discovered M L t → Step M L t

pub step_cases : {S : Type 0} (M : Machine S) (L t : ℕ) → Step M L t
step_cases M L t = go (ltb t (length (discovered M L t) * L)) refl
  where
    within : t < length (discovered M L t) * L
        → (looked_place M L t ≡ length (discovered M L t)) ⊎ (looked_place M L t < length (discovered M L t)) → Step M L t
    within h (inl e) = new h e (discovered_new M L t h e)
    within h (inr l) = old h l (discovered_old M L t h l)

    go : (b : Bool) → ltb t (length (discovered M L t) * L) ≡ b → Step M L t
    go true e = within (ltb-true t (length (discovered M L t) * L) e) (eq-or-lt_of_le (position_le M (discovered M L t) (looked M L t)))
    go false e = let h = ltb-false t (length (discovered M L t) * L) e in end h (discovered_end M L t h)

-- ---- many steps

-- a property of lists that one more new state keeps holds of each list
pub by_steps : {S : Type 0} (M : Machine S) (L : ℕ) (P : List S → Type 0) → P (M.first ∷ [])
    → ((t : ℕ) → t < length (discovered M L t) * L → looked_place M L t ≡ length (discovered M L t)
    → P (discovered M L t) → P (discovered M L t ++ (looked M L t ∷ [])))
    → (t : ℕ) → P (discovered M L t)
unfolding discovered
by_steps M L P p q zero = p
by_steps M L P p q (suc t) = go (step_cases M L t) (by_steps M L P p q t)
  where
    go : Step M L t → P (discovered M L t) → P (discovered M L (suc t))
    go (old h l e) r = subst P (sym e) r
    go (new h n e) r = subst P (sym e) (q t h n r)
    go (end h e) r = subst P (sym e) r

-- the list only grows
pub discovered_grows : {S : Type 0} (M : Machine S) (L t d : ℕ) → length (discovered M L t) ≤ length (discovered M L (t + d))
discovered_grows {S} M L t zero =
    subst (λ (i : ℕ). length (discovered M L t) ≤ length (discovered M L i)) (sym (add-zero t)) (le_refl (length (discovered M L t)))
discovered_grows {S} M L t (suc d) =
    subst (λ (i : ℕ). length (discovered M L t) ≤ length (discovered M L i)) (sym (add-suc t d))
    (le_trans (discovered_grows M L t d) (go (step_cases M L (t + d))))
  where
    go : Step M L (t + d) → length (discovered M L (t + d)) ≤ length (discovered M L (suc (t + d)))
    go (old h l e) = omega (arith, ap (λ (us : List S). length us) e)
    go (new h n e) = omega (arith, ap (λ (us : List S). length us) e ∙ length-append (discovered M L (t + d)) (looked M L (t + d) ∷ []))
    go (end h e) = omega (arith, ap (λ (us : List S). length us) e)

-- once every state's letters have been looked at it stays
pub discovered_stays : {S : Type 0} (M : Machine S) (L t d : ℕ) → length (discovered M L t) * L ≤ t → discovered M L (t + d) ≡ discovered M L t
discovered_stays {S} M L t zero h = ap (discovered M L) (add-zero t)
discovered_stays {S} M L t (suc d) h =
    let e = discovered_stays M L t d h in
    ap (discovered M L) (add-suc t d) ∙ discovered_end M L (t + d) (subst (λ (us : List S). length us * L ≤ t + d) (sym e) (omega arith)) ∙ e

-- ---- the numbers of the states to which the steps look

pub quotient_lt : (u n L : ℕ) → 0 < L → u < n * L → u / L < n
quotient_lt u n L p h = (div-lt_iff_lt-mul p).1 h

-- in the list with one state more: each step before looks at what it looked at, whose number is the same, and the new state has the next number
module _ {S : Type 0} (M : Machine S) (L : ℕ) (pos : 0 < L) (ws : List S) (x : S) (u : ℕ) (h : u < length ws * L) where
  target_kept : target M L (ws ++ (x ∷ [])) u ≡ target M L ws u
  unfolding target
  target_kept = ap (λ (s : S). M.after s (u % L)) (get_or-append ws (x ∷ []) M.first (u / L) (quotient_lt u (length ws) L pos h))

  pub number_kept : position M (target M L ws u) ws < length ws → position M (target M L (ws ++ (x ∷ [])) u) (ws ++ (x ∷ [])) ≡ position M (target M L ws u) ws
  number_kept l = ap (λ (y : S). position M y (ws ++ (x ∷ []))) target_kept ∙ position_append M ws (x ∷ []) (target M L ws u) l

  pub number_new : x ≡ target M L ws u → position M x ws ≡ length ws → position M (target M L (ws ++ (x ∷ [])) u) (ws ++ (x ∷ [])) ≡ length ws
  number_new e n = ap (λ (y : S). position M y (ws ++ (x ∷ []))) (target_kept ∙ sym e) ∙ position_new M ws x n

-- each step before t that looks from a state of the list looks at a state of the list
abbrev pub Closed : {S : Type 0} (M : Machine S) (L t : ℕ) → List S → Type 0
Closed M L t ws = (u : ℕ) → u < t → u < length ws * L → position M (target M L ws u) ws < length ws

closed_suc : {S : Type 0} (M : Machine S) (L t : ℕ) (ws : List S) → Closed M L t ws → (t < length ws * L → position M (target M L ws t) ws < length ws)
    → Closed M L (suc t) ws
closed_suc M L t ws f g u b = below_more (λ u. u < length ws * L → position M (target M L ws u) ws < length ws) t f g u (omega arith)

pub closed : {S : Type 0} (M : Machine S) (L : ℕ) → 0 < L → (t : ℕ) → Closed M L t (discovered M L t)
closed M L pos zero = λ u b. absurd (not-suc-le-zero b)
closed M L pos (suc t) = go (step_cases M L t) (closed M L pos t)
  where
    go : Step M L t → Closed M L t (discovered M L t) → Closed M L (suc t) (discovered M L (suc t))
    go (old h l e) f = subst (Closed M L (suc t)) (sym e) (closed_suc M L t (discovered M L t) f (λ m. l))
    go (end h e) f = subst (Closed M L (suc t)) (sym e) (closed_suc M L t (discovered M L t) f (λ m. absurd (let z : ⊥ = omega arith in z)))
    go (new h n e) f =
        let ws = discovered M L t in
        let x = looked M L t in
        let us = ws ++ (x ∷ []) in
        let longer : length us ≡ length ws + 1 = length-append ws (x ∷ []) in
        subst (Closed M L (suc t)) (sym e)
        (closed_suc M L t us
        (λ u b m. let l : u < length ws * L = omega arith in omega (arith, number_kept M L pos ws x u l (f u b l), f u b l))
        (λ m. omega (arith, number_new M L pos ws x t h refl n)))
