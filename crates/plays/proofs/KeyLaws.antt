-- The table that is mixed from two certificates still wins with n when stable: any keys, however large, that fall at each step with the condition become
-- ranks of at most n by counting the states whose key is no larger.
-- Assumes nothing.
use Prim.Native.Nat.{ℕ, zero, suc, ◌+◌, ◌<◌, ◌≤◌}
use mathlib.Core.Path.{◌≡◌, refl, subst}
use mathlib.Core.Bool.{Bool, true, false, cond, ◌&&◌}
use mathlib.Core.List.{List, [], ◌∷◌}
use mathlib.Core.Logic.{◌⊎◌, ⊎_elim}
use native.Mathlib.Omega.{arith}
use lib.Dec.{ltb, leb}
use lib.ListN.{get_or}
use borrow.Author.Tests.{ltb-true, lt-ltb, le-leb, lt-leb, leb-true}
use Rattle.plays.specs.declared.mode.Mode.TheVariants.{Stable}
use Rattle.plays.specs.Arena.{Arena, next, goal, holds}
use Rattle.plays.specs.Strategy.{system_byte, SystemWins}
use Rattle.plays.specs.inner.Rank.{AllowedOutput}
use Rattle.reader.proofs.BoolLaws.{on, and_true}
use Rattle.plays.proofs.CaseLaws.{zero_or, below_or}
use Rattle.plays.proofs.RankLaws.{system_wins}

-- ---- ranks by counting

module _ (key : ℕ → ℕ) where
  -- state u has a key, of at most k
  abbrev counted : ℕ → ℕ → Bool
  counted k u = ltb 0 (key u) && leb (key u) k

  -- the number of states below n of which this is so
  unfoldable tally : ℕ → ℕ → ℕ
  tally k zero = 0
  tally k (suc n) = cond (counted k n) (suc (tally k n)) (tally k n)

  tally_bound : (k n : ℕ) → tally k n ≤ n
  unfolding tally
  tally_bound k zero = omega arith
  tally_bound k (suc n) = let ih = tally_bound k n in on (counted k n) (λ e. rw e (omega arith)) (λ e. rw e (omega arith))

  counted_in : (k u : ℕ) → 0 < key u → key u ≤ k → counted k u ≡ true
  counted_in k u w le = rw (lt-ltb 0 (key u) w, le-leb (key u) k le)

  counted_out : (k u : ℕ) → k < key u → counted k u ≡ false
  counted_out k u l = rw (lt-ltb 0 (key u) (let y : 0 < key u = omega arith in y), lt-leb (key u) k l)

  counted_is : (k u : ℕ) → counted k u ≡ true → (0 < key u) × (key u ≤ k)
  counted_is k u e =
      let d = and_true (ltb 0 (key u)) (leb (key u) k) e in
      (ltb-true 0 (key u) d.0, leb-true (key u) k d.1)

  module _ (k l : ℕ) (le : k ≤ l) where
    -- one more state adds no less to the larger tally
    tally_step : (n : ℕ) → tally k (suc n) + tally l n ≤ tally l (suc n) + tally k n
    unfolding tally
    tally_step n =
        on (counted k n)
        (λ e. let d = counted_is k n e in rw (e, counted_in l n d.0 (let y : key n ≤ l = omega (arith, d.1) in y)) (omega arith))
        (λ e. on (counted l n) (λ f. rw (e, f) (omega arith)) (λ f. rw (e, f) (omega arith)))

    tally_grows : (n : ℕ) → tally k n ≤ tally l n
    unfolding tally
    tally_grows zero = omega arith
    tally_grows (suc n) = omega (arith, tally_grows n, tally_step n)

    -- a state whose key is above k and at most l
    tally_here : (n : ℕ) → k < key n → key n ≤ l → tally k (suc n) < tally l (suc n)
    unfolding tally
    tally_here n a b =
        rw (counted_out k n a, counted_in l n (let y : 0 < key n = omega arith in y) b) (omega (arith, tally_grows n))

    tally_more : (s : ℕ) → k < key s → key s ≤ l → (n : ℕ) → s < n → tally k n < tally l n
    tally_more s a b zero h = omega arith
    tally_more s a b (suc n) h =
        below_or s n
        (λ m. omega (arith, tally_more s a b n m, tally_step n))
        (λ m. subst (λ (i : ℕ). tally k (suc i) < tally l (suc i)) (let y : s ≡ n = omega arith in y) (tally_here s a b))

  tally_none : (n : ℕ) → tally 0 n ≡ 0
  unfolding tally
  tally_none zero = refl
  tally_none (suc n) =
      on (counted 0 n)
      (λ e. let d = counted_is 0 n e in absurd (let y : ⊥ = omega (arith, d.0, d.1) in y))
      (λ e. rw e (tally_none n))

  -- the rank of a state by its key: at most n, above 0 exactly where there is a key, and lower where the key is
  abbrev rank_of : ℕ → ℕ → ℕ
  rank_of n s = tally (key s) n

  rank_some : (n s : ℕ) → s < n → 0 < key s → 0 < rank_of n s
  rank_some n s l w = omega (arith, tally_more 0 (key s) (omega arith) s w (omega arith) n l)

  rank_lower : (n s t : ℕ) → s < n → key t < key s → rank_of n t < rank_of n s
  rank_lower n s t l lt = tally_more (key t) (key s) (omega arith) s lt (omega arith) n l

  rank_key : (n s : ℕ) → 0 < rank_of n s → 0 < key s
  rank_key n s w =
      zero_or (key s)
      (λ e. let z = subst (λ (k : ℕ). 0 < tally k n) e w in absurd (let y : ⊥ = omega (arith, tally_none n) in y))
      (λ l. l)

-- ---- the list of these ranks

unfoldable list_of : (ℕ → ℕ) → ℕ → List ℕ
list_of f zero = []
list_of f (suc n) = f 0 ∷ list_of (λ i. f (suc i)) n

list_at : (f : ℕ → ℕ) (n s : ℕ) → s < n → get_or (list_of f n) s 0 ≡ f s
unfolding list_of
list_at f zero s l = absurd (let y : ⊥ = omega arith in y)
list_at f (suc n) zero l = refl
list_at f (suc n) (suc s) l = list_at (λ i. f (suc i)) n s (omega arith)

list_beyond : (f : ℕ → ℕ) (n s : ℕ) → n ≤ s → get_or (list_of f n) s 0 ≡ 0
unfolding list_of
list_beyond f zero s l = refl
list_beyond f (suc n) zero l = absurd (let y : ⊥ = omega arith in y)
list_beyond f (suc n) (suc s) l = list_beyond (λ i. f (suc i)) n s (omega arith)

-- ---- a table whose steps lower the key

-- a step with input x from s enters a goal, or a state t with a key, lower where the input has the condition
abbrev Lowers : (G : Arena) (key : ℕ → ℕ) (s x t : ℕ) → Type 0
Lowers G key s x t = (goal G t ≡ true) ⊎ ((0 < key t) × (holds G x ≡ true → key t < key s))

module _ (G : Arena) (key : ℕ → ℕ) (within : (t : ℕ) → 0 < key t → t < G.states) where
  abbrev ranks : List ℕ
  ranks = list_of (rank_of key G.states) G.states

  ranks_at : (s : ℕ) → s < G.states → get_or ranks s 0 ≡ rank_of key G.states s
  ranks_at s l = list_at (rank_of key G.states) G.states s l

  ranks_bound : (s : ℕ) → get_or ranks s 0 ≤ G.states
  ranks_bound s =
      below_or s G.states
      (λ l. omega (arith, ranks_at s l, tally_bound key (key s) G.states))
      (λ l. omega (arith, list_beyond (rank_of key G.states) G.states s l))

  ranks_some : (s : ℕ) → 0 < key s → 0 < get_or ranks s 0
  ranks_some s w = omega (arith, ranks_at s (within s w), rank_some key G.states s (within s w) w)

  ranks_key : (s : ℕ) → 0 < get_or ranks s 0 → 0 < key s
  ranks_key s w =
      below_or s G.states
      (λ l. rank_key key G.states s (omega (arith, ranks_at s l)))
      (λ l. absurd (let y : ⊥ = omega (arith, list_beyond (rank_of key G.states) G.states s l) in y))

  ranks_lower : (s t : ℕ) → 0 < key s → 0 < key t → key t < key s → get_or ranks t 0 < get_or ranks s 0
  ranks_lower s t w v l =
      omega (arith, ranks_at s (within s w), ranks_at t (within t v), rank_lower key G.states s t (within s w) l)

  lowers_allowed : (s x y : ℕ) → 0 < key s → y < G.outputs → Lowers G key s x (next G s x y) → AllowedOutput false G G.states ranks s x y
  lowers_allowed s x y w l d = (
    l,
    ⊎_elim
        (λ g. ◌⊎◌.inl g)
        (λ v. ◌⊎◌.inr
        (ranks_some (next G s x y) v.0, (λ h. ranks_lower s (next G s x y) w v.0 (v.1 h)), (λ _. ranks_bound (next G s x y))))
        d,
  )

  keyed_wins : (σ : List ℕ)
      → ((s : ℕ) → 0 < key s → (x : ℕ) → x < G.inputs → (system_byte G σ s x < G.outputs) × Lowers G key s x (next G s x (system_byte G σ s x)))
      → (s : ℕ) → 0 < key s → SystemWins Stable G G.states σ s
  keyed_wins σ lowers s w =
      system_wins false G σ G.states ranks
      (λ u v x l. let k = ranks_key u v in let d = lowers u k x l in lowers_allowed u x (system_byte G σ u x) k d.0 d.1)
      G.states s (ranks_bound s, (λ _. omega arith)) (ranks_some s w)

-- ---- the keys of the mixed table: the near rank where there is one, and above all of these the far rank

abbrev mixed_key : (top near far : ℕ) → ℕ
mixed_key top zero zero = 0
mixed_key top zero (suc b) = top + suc b
mixed_key top (suc a) b = suc a

mixed_first : (top a b : ℕ) → 0 < a → mixed_key top a b ≡ a
mixed_first top zero b l = absurd (let y : ⊥ = omega arith in y)
mixed_first top (suc a) b l = refl

mixed_second : (top a b : ℕ) → a ≡ 0 → 0 < b → mixed_key top a b ≡ top + b
mixed_second top zero zero e l = absurd (let y : ⊥ = omega arith in y)
mixed_second top zero (suc b) e l = refl
mixed_second top (suc a) b e l = absurd (let y : ⊥ = omega arith in y)

mixed_at_most : (top a b : ℕ) → a ≤ top → 0 < b → (0 < mixed_key top a b) × (mixed_key top a b ≤ top + b)
mixed_at_most top zero zero l w = absurd (let y : ⊥ = omega arith in y)
mixed_at_most top zero (suc b) l w = (omega arith, omega arith)
mixed_at_most top (suc a) b l w = (omega arith, omega arith)

mixed_cases : (top a b : ℕ) → 0 < mixed_key top a b → (0 < a) ⊎ ((a ≡ 0) × (0 < b))
mixed_cases top zero zero l = absurd (let y : ⊥ = omega arith in y)
mixed_cases top zero (suc b) l = ◌⊎◌.inr (refl, omega arith)
mixed_cases top (suc a) b l = ◌⊎◌.inl (omega arith)

-- the sum of a list is a bound on its entries
unfoldable sum : List ℕ → ℕ
sum [] = 0
sum (v ∷ l) = v + sum l

sum_bound : (l : List ℕ) (s : ℕ) → get_or l s 0 ≤ sum l
unfolding sum
sum_bound [] s = omega arith
sum_bound (v ∷ l) zero = omega arith
sum_bound (v ∷ l) (suc s) = let ih = sum_bound l s in omega arith

-- the key of a state by two lists of ranks
abbrev key : (near far : List ℕ) (s : ℕ) → ℕ
key near far s = mixed_key (sum near) (get_or near s 0) (get_or far s 0)

module _ (G : Arena) (m n : ℕ) (near far : List ℕ) where
  -- an output by the near ranks, and one by the far ranks on a state that has no near rank
  lowers_near : (s x y : ℕ) → 0 < get_or near s 0 → AllowedOutput false G m near s x y → Lowers G (key near far) s x (next G s x y)
  lowers_near s x y w f =
      let t : ℕ = next G s x y in
      ⊎_elim
      (λ g. ◌⊎◌.inl g)
      (λ d.
      let e = mixed_first (sum near) (get_or near t 0) (get_or far t 0) d.0 in
      let z = mixed_first (sum near) (get_or near s 0) (get_or far s 0) w in
      ◌⊎◌.inr (omega (arith, d.0), λ h. omega (arith, d.1 h)))
      f.1

  lowers_far : (s x y : ℕ) → get_or near s 0 ≡ 0 → 0 < get_or far s 0 → AllowedOutput false G n far s x y → Lowers G (key near far) s x (next G s x y)
  lowers_far s x y o w f =
      let t : ℕ = next G s x y in
      ⊎_elim
      (λ g. ◌⊎◌.inl g)
      (λ d.
      let e = mixed_at_most (sum near) (get_or near t 0) (get_or far t 0) (sum_bound near t) d.0 in
      let z = mixed_second (sum near) (get_or near s 0) (get_or far s 0) o w in
      ◌⊎◌.inr (e.0, λ h. omega (arith, e.1, d.1 h)))
      f.1

-- a table by the near ranks where a state has one, else by the far ranks, wins with n from every state with a far rank
pub mixed_wins : (G : Arena) (m n : ℕ) (σ near far : List ℕ) → ((t : ℕ) → 0 < get_or near t 0 → t < G.states) → ((t : ℕ) → 0 < get_or far t 0 → t < G.states)
    → ((s : ℕ) → 0 < get_or near s 0 → (x : ℕ) → x < G.inputs → AllowedOutput false G m near s x (system_byte G σ s x))
    → ((s : ℕ) → get_or near s 0 ≡ 0 → 0 < get_or far s 0 → (x : ℕ) → x < G.inputs → AllowedOutput false G n far s x (system_byte G σ s x))
    → (s : ℕ) → 0 < get_or far s 0 → SystemWins Stable G G.states σ s
mixed_wins G m n σ near far near_within far_within by_near by_far s w =
    keyed_wins G (key near far)
    (λ t v. ⊎_elim (λ a. near_within t a) (λ b. far_within t b.1) (mixed_cases (sum near) (get_or near t 0) (get_or far t 0) v))
    σ
    (λ u v x l.
    ⊎_elim
    (λ a. let d = by_near u a x l in (d.0, lowers_near G m n near far u x (system_byte G σ u x) a d))
    (λ b. let d = by_far u b.0 b.1 x l in (d.0, lowers_far G m n near far u x (system_byte G σ u x) b.0 b.1 d))
    (mixed_cases (sum near) (get_or near u 0) (get_or far u 0) v))
    s (mixed_at_most (sum near) (get_or near s 0) (get_or far s 0) (sum_bound near s) w).0
