-- The first position of a state in a list (specs/Discovery.antt). Assumes nothing.
use Prim.Native.Nat.{ℕ, zero, suc, ◌≤◌, ◌<◌}
use mathlib.Core.Path.{◌≡◌, refl, sym, ap, ◌∙◌, subst}
use mathlib.Core.Bool.{Bool, true, false, cond}
use mathlib.Core.List.{List, [], ◌∷◌, ◌++◌}
use mathlib.Core.Logic.{⊎_elim, ◌⊎◌, inl, inr}
use native.Mathlib.Nat.{not-suc-le-zero, le_of_suc-le-suc, zero-lt-suc}
use native.Mathlib.Omega.{arith}
use borrow.Author.Count.{below_more}
use lib.ListN.{length, length-append, get_or-append}
use lib.Seq.{get_or-append_seam}
use Rattle.machine.specs.Machine.{Machine}
use Rattle.machine.specs.Discovery.{position, state_at, Distinct}

module _ {S : Type 0} (M : Machine S) where
  -- ---- by the head of the list

  pub position_none : (x : S) → position M x [] ≡ 0
  unfolding position
  position_none x = refl

  position_head : (x w : S) (ws : List S) → x ≡ w → position M x (w ∷ ws) ≡ 0
  unfolding position
  position_head x w ws e = ap (λ (b : Bool). cond b 0 (suc (position M x ws))) ((M.equal x w).1 e)

  different : (x w : S) (b : Bool) → M.same x w ≡ b → (x ≡ w → ⊥) → b ≡ false
  different x w true e n = absurd (n ((M.equal x w).0 e))
  different x w false e n = refl

  position_tail : (x w : S) (ws : List S) → (x ≡ w → ⊥) → position M x (w ∷ ws) ≡ suc (position M x ws)
  unfolding position
  position_tail x w ws n = ap (λ (b : Bool). cond b 0 (suc (position M x ws))) (different x w (M.same x w) refl n)

  head_or_tail : (x w : S) → (x ≡ w) ⊎ (x ≡ w → ⊥)
  head_or_tail x w = go (M.same x w) refl
    where
      go : (b : Bool) → M.same x w ≡ b → (x ≡ w) ⊎ (x ≡ w → ⊥)
      go true e = inl ((M.equal x w).0 e)
      go false e = inr (λ q. mathlib.Core.Bool.true≢false (sym ((M.equal x w).1 q) ∙ e))

  -- ---- where it is

  -- none of the states below i is x
  abbrev pub Absent : (ws : List S) (x : S) (i : ℕ) → Type 0
  Absent ws x i = (k : ℕ) → k < i → state_at M ws k ≡ x → ⊥

  pub position_found : (ws : List S) (x : S) (i : ℕ) → i < length ws → state_at M ws i ≡ x → Absent ws x i → position M x ws ≡ i
  position_found [] x i h e n = absurd (not-suc-le-zero h)
  position_found (w ∷ ws) x zero h e n = position_head x w ws (sym e)
  position_found (w ∷ ws) x (suc i) h e n =
      position_tail x w ws (λ q. n 0 (zero-lt-suc i) (sym q)) ∙ ap suc (position_found ws x i (le_of_suc-le-suc h) e (λ k l q. n (suc k) (omega arith) q))

  pub position_absent : (ws : List S) (x : S) → Absent ws x (length ws) → position M x ws ≡ length ws
  position_absent [] x n = position_none x
  position_absent (w ∷ ws) x n =
      position_tail x w ws (λ q. n 0 (zero-lt-suc (length ws)) (sym q)) ∙ ap suc (position_absent ws x (λ k l q. n (suc k) (omega arith) q))

  pub position_le : (ws : List S) (x : S) → position M x ws ≤ length ws
  position_le [] x = omega (arith, position_none x)
  position_le (w ∷ ws) x = ⊎_elim (λ e. omega (arith, position_head x w ws e)) (λ n. omega (arith, position_tail x w ws n, position_le ws x)) (head_or_tail x w)

  pub get_d_position : (ws : List S) (x : S) → position M x ws < length ws → state_at M ws (position M x ws) ≡ x
  get_d_position [] x h = absurd (not-suc-le-zero h)
  get_d_position (w ∷ ws) x h =
      ⊎_elim (λ e. ap (λ (k : ℕ). state_at M (w ∷ ws) k) (position_head x w ws e) ∙ sym e)
      (λ n. ap (λ (k : ℕ). state_at M (w ∷ ws) k) (position_tail x w ws n) ∙ get_d_position ws x (omega (arith, position_tail x w ws n)))
      (head_or_tail x w)

  -- the first state is in the list
  pub zero_in : (ws : List S) → 0 < length ws → position M (state_at M ws 0) ws < length ws
  zero_in ws h = omega (arith, position_found ws (state_at M ws 0) 0 h refl (λ k l. absurd (not-suc-le-zero l)))

  -- ---- in a list with more at its end

  -- a state that is there keeps its position
  pub position_append : (ws us : List S) (x : S) → position M x ws < length ws → position M x (ws ++ us) ≡ position M x ws
  position_append [] us x h = absurd (not-suc-le-zero h)
  position_append (w ∷ ws) us x h =
      ⊎_elim (λ e. position_head x w (ws ++ us) e ∙ sym (position_head x w ws e))
      (λ n. position_tail x w (ws ++ us) n ∙ ap suc (position_append ws us x (omega (arith, position_tail x w ws n))) ∙ sym (position_tail x w ws n))
      (head_or_tail x w)

  -- a state that is not there has the next position once it is put at the end
  pub position_new : (ws : List S) (x : S) → position M x ws ≡ length ws → position M x (ws ++ (x ∷ [])) ≡ length ws
  position_new [] x e = position_head x x [] refl
  position_new (w ∷ ws) x h =
      ⊎_elim (λ e. absurd (let z : ⊥ = omega (arith, position_head x w ws e) in z))
      (λ n. position_tail x w (ws ++ (x ∷ [])) n ∙ ap suc (position_new ws x (omega (arith, position_tail x w ws n))))
      (head_or_tail x w)

  -- what holds at each index of a list, and at the next, holds at each index of the list with one more
  pub indices_more : (P : ℕ → Type 0) (ws : List S) (x : S) → ((i : ℕ) → i < length ws → P i) → P (length ws) → (i : ℕ) → i < length (ws ++ (x ∷ [])) → P i
  indices_more P ws x all here i h = below_more P (length ws) all here i (omega (arith, length-append ws (x ∷ [])))

  -- each state's first position is its own
  abbrev pub Once : List S → Type 0
  Once ws = (i : ℕ) → i < length ws → position M (state_at M ws i) ws ≡ i

  pub once_more : (ws : List S) (x : S) → position M x ws ≡ length ws → Once ws → Once (ws ++ (x ∷ []))
  once_more ws x e o =
      let us = ws ++ (x ∷ []) in
      indices_more (λ i. position M (state_at M us i) us ≡ i) ws x
      (λ i l.
      ap (λ (y : S). position M y us) (get_or-append ws (x ∷ []) M.first i l)
      ∙ position_append ws (x ∷ []) (state_at M ws i) (omega (arith, o i l)) ∙ o i l)
      (ap (λ (y : S). position M y us) (get_or-append_seam ws x [] M.first) ∙ position_new ws x e)

  -- in a list without doubles any place of a state is its position
  pub position_any : (ws : List S) (x : S) (p : ℕ) → Distinct M ws → p < length ws → state_at M ws p ≡ x → position M x ws ≡ p
  position_any ws x p d h e =
      position_found ws x p h e (λ k l q. let same = d k p (omega arith) h (q ∙ sym e) in let z : ⊥ = omega arith in z)

  -- each state has a property
  abbrev pub All : (S → Type 0) → List S → Type 0
  All P ws = (i : ℕ) → i < length ws → P (state_at M ws i)

  pub all_more : (P : S → Type 0) (ws : List S) (x : S) → P x → All P ws → All P (ws ++ (x ∷ []))
  all_more P ws x p all =
      indices_more (λ i. P (state_at M (ws ++ (x ∷ [])) i)) ws x
      (λ i l. subst P (sym (get_or-append ws (x ∷ []) M.first i l)) (all i l)) (subst P (sym (get_or-append_seam ws x [] M.first)) p)
