-- Valuations mean what they say (specs/Valuation.antt): made from the next position's, a valuation tells at each coordinate
-- what the formula's operators say at the present position; the end valuation does so past the last. Assumes nothing.
use Prim.Native.Nat.{ℕ, zero, suc, ◌+◌, ◌^◌, ◌≤◌, ◌<◌}
use mathlib.Core.Path.{◌≡◌, refl, sym, ap, ap₂, ◌∙◌, subst}
use mathlib.Core.Bool.{Bool, true, false}
use mathlib.Core.List.{List, [], ◌∷◌, ◌++◌}
use mathlib.Core.Logic.{◌⊎◌, inl, inr, ⊎_elim, ◌↔◌}
use native.Mathlib.Nat.{add-zero, add-suc, suc-add, add_assoc, zero-lt-suc}
use native.Mathlib.Omega.{arith}
use lib.Dec.{T}
use lib.ListN.{length, get_or, drop, length-append, get_or-append}
use lib.Seq.{drop-cons, drop-length, get_or-append-add}
use Rattle.reader.specs.Formula.{Formula, constant, name, unary, neg, next, weak, eventually, always, binary, until, release, conj, disj, impl, operators}
use Rattle.automaton.specs.Bits.{bit, gather}
use Rattle.automaton.specs.Trace.{Holds}
use Rattle.automaton.specs.Valuation.{value, coords, ends, vectors, present, end_vector}
use Rattle.automaton.specs.inner.Fold.{valuation}
use Rattle.automaton.proofs.BitLaws.{gather_lt, bit_gather}
use Rattle.automaton.proofs.StepLaws.{T_and, T_or, T_not, T_impl, by_test, unroll, no_until, until_step, release_step, eventually_step, always_step}

-- the bits of v from k on mean, for the position p of w, what the coordinates of the formula say
unfoldable pub Right : List ℕ → ℕ → Formula → ℕ → ℕ → Type 0
Right w p (constant b) k v = Unit {0}
Right w p (name n) k v = Unit {0}
Right w p (unary neg φ) k v = Right w p φ k v
Right w p (unary next φ) k v = (T (bit v k) ↔ ((p < length w) × Holds φ w p)) × Right w p φ (suc k) v
Right w p (unary weak φ) k v = (T (bit v k) ↔ ((length w ≤ p) ⊎ Holds φ w p)) × Right w p φ (suc k) v
Right w p (unary eventually φ) k v = (T (bit v k) ↔ Holds (unary eventually φ) w p) × Right w p φ (suc k) v
Right w p (unary always φ) k v = (T (bit v k) ↔ Holds (unary always φ) w p) × Right w p φ (suc k) v
Right w p (binary until φ ψ) k v = Right w p φ k v × (T (bit v (k + operators φ)) ↔ Holds (binary until φ ψ) w p) × Right w p ψ (suc (k + operators φ)) v
Right w p (binary release φ ψ) k v = Right w p φ k v × (T (bit v (k + operators φ)) ↔ Holds (binary release φ ψ) w p) × Right w p ψ (suc (k + operators φ)) v
Right w p (binary conj φ ψ) k v = Right w p φ k v × Right w p ψ (k + operators φ) v
Right w p (binary disj φ ψ) k v = Right w p φ k v × Right w p ψ (k + operators φ) v
Right w p (binary impl φ ψ) k v = Right w p φ k v × Right w p ψ (k + operators φ) v

-- with the right bits for the next position, each formula's value is its truth at this one
module _ (w : List ℕ) (p : ℕ) (h : p < length w) (v : ℕ) where
  abbrev val : Formula → ℕ → Bool
  val φ k = value φ k (get_or w p 0) v

  pub value_holds : (φ : Formula) (k : ℕ) → Right w (suc p) φ k v → T (value φ k (get_or w p 0) v) ↔ Holds φ w p
  unfolding Right Holds value
  value_holds (constant b) k r = (λ t. t, λ t. t)
  value_holds (name n) k r = (λ t. t, λ t. t)
  value_holds (unary neg φ) k r = T_not (val φ k) (value_holds φ k r)
  value_holds (unary next φ) k r = r.0
  value_holds (unary weak φ) k r = r.0
  value_holds (unary eventually φ) k r =
      eventually_step (val φ (suc k)) (bit v k) (value_holds φ (suc k) r.1) r.0 (unroll (λ q. Unit {0}) (Holds φ w) (length w) p h)
  value_holds (unary always φ) k r =
      always_step (val φ (suc k)) (bit v k) (value_holds φ (suc k) r.1) r.0 (unroll (λ q. Unit {0}) (λ q. Holds φ w q → ⊥) (length w) p h)
  value_holds (binary until φ ψ) k r =
      let m = k + operators φ in
      until_step (val φ k) (val ψ (suc m)) (bit v m) (value_holds φ k r.0)
      (value_holds ψ (suc m) r.2) r.1 (unroll (Holds φ w) (Holds ψ w) (length w) p h)
  value_holds (binary release φ ψ) k r =
      release_step (val φ k) (val ψ (suc (k + operators φ))) (bit v (k + operators φ))
      (value_holds φ k r.0) (value_holds ψ (suc (k + operators φ)) r.2) r.1
      (unroll (λ q. Holds φ w q → ⊥) (λ q. Holds ψ w q → ⊥) (length w) p h)
  value_holds (binary conj φ ψ) k r = T_and (val φ k) (val ψ (k + operators φ)) (value_holds φ k r.0) (value_holds ψ (k + operators φ) r.1)
  value_holds (binary disj φ ψ) k r = T_or (val φ k) (val ψ (k + operators φ)) (value_holds φ k r.0) (value_holds ψ (k + operators φ) r.1)
  value_holds (binary impl φ ψ) k r = T_impl (val φ k) (val ψ (k + operators φ)) (value_holds φ k r.0) (value_holds ψ (k + operators φ) r.1)

-- ---- lists of coordinates

-- the bits of v from k on are those of the list
unfoldable Matches : ℕ → ℕ → List Bool → Type 0
Matches v k bs = (j : ℕ) → j < length bs → bit v (k + j) ≡ get_or bs j false

matches_cons : (v k : ℕ) (b : Bool) (bs : List Bool) → Matches v k (b ∷ bs) → (bit v k ≡ b) × Matches v (suc k) bs
unfolding Matches
matches_cons v k b bs m =
    (ap (bit v) (sym (add-zero k)) ∙ m 0 (zero-lt-suc (length bs)), λ j l. ap (bit v) (suc-add k j ∙ sym (add-suc k j)) ∙ m (suc j) (omega arith))

-- the second list's coordinates begin after the n of the first
matches_append : (v k n : ℕ) (bs cs : List Bool) → length bs ≡ n → Matches v k (bs ++ cs) → Matches v k bs × Matches v (k + n) cs
unfolding Matches
matches_append v k n bs cs e m = (
  λ j l. m j (rw length-append (omega arith)) ∙ get_or-append bs cs false j l,
  subst (λ (i : ℕ). Matches v (k + i) cs) e
      (λ j l. ap (bit v) (add_assoc k (length bs) j) ∙ m (length bs + j) (rw length-append (omega arith)) ∙ get_or-append-add bs cs j false),
)

matches_gather : (bs : List Bool) → Matches (gather bs) 0 bs
unfolding Matches
matches_gather bs j l = ap (bit (gather bs)) (omega arith) ∙ bit_gather bs j l

length_two : {m n : ℕ} (bs cs : List Bool) → length bs ≡ m → length cs ≡ n → length (bs ++ cs) ≡ m + n
length_two bs cs e f = length-append bs cs ∙ ap₂ ◌+◌ e f

pub coords_length : (φ : Formula) (k a v : ℕ) → length (coords φ k a v) ≡ operators φ
unfolding coords operators
coords_length (constant b) k a v = refl
coords_length (name n) k a v = refl
coords_length (unary neg φ) k a v = coords_length φ k a v
coords_length (unary next φ) k a v = ap suc (coords_length φ (suc k) a v)
coords_length (unary weak φ) k a v = ap suc (coords_length φ (suc k) a v)
coords_length (unary eventually φ) k a v = ap suc (coords_length φ (suc k) a v)
coords_length (unary always φ) k a v = ap suc (coords_length φ (suc k) a v)
coords_length (binary until φ ψ) k a v = length_two (coords φ k a v) _ (coords_length φ k a v) (ap suc (coords_length ψ (suc (k + operators φ)) a v))
coords_length (binary release φ ψ) k a v = length_two (coords φ k a v) _ (coords_length φ k a v) (ap suc (coords_length ψ (suc (k + operators φ)) a v))
coords_length (binary conj φ ψ) k a v = length_two (coords φ k a v) _ (coords_length φ k a v) (coords_length ψ (k + operators φ) a v)
coords_length (binary disj φ ψ) k a v = length_two (coords φ k a v) _ (coords_length φ k a v) (coords_length ψ (k + operators φ) a v)
coords_length (binary impl φ ψ) k a v = length_two (coords φ k a v) _ (coords_length φ k a v) (coords_length ψ (k + operators φ) a v)

pub ends_length : (φ : Formula) → length (ends φ) ≡ operators φ
unfolding ends operators
ends_length (constant b) = refl
ends_length (name n) = refl
ends_length (unary neg φ) = ends_length φ
ends_length (unary next φ) = ap suc (ends_length φ)
ends_length (unary weak φ) = ap suc (ends_length φ)
ends_length (unary eventually φ) = ap suc (ends_length φ)
ends_length (unary always φ) = ap suc (ends_length φ)
ends_length (binary until φ ψ) = length_two (ends φ) (false ∷ ends ψ) (ends_length φ) (ap suc (ends_length ψ))
ends_length (binary release φ ψ) = length_two (ends φ) (true ∷ ends ψ) (ends_length φ) (ap suc (ends_length ψ))
ends_length (binary conj φ ψ) = length_two (ends φ) (ends ψ) (ends_length φ) (ends_length ψ)
ends_length (binary disj φ ψ) = length_two (ends φ) (ends ψ) (ends_length φ) (ends_length ψ)
ends_length (binary impl φ ψ) = length_two (ends φ) (ends ψ) (ends_length φ) (ends_length ψ)

-- the coordinates made from right ones are right at the present position
module _ (w : List ℕ) (p : ℕ) (h : p < length w) (v u : ℕ) where
  -- the first operand's coordinates are φ's, and those after them the list's
  first_coords : (φ : Formula) (k : ℕ) (bs : List Bool) → Matches u k (coords φ k (get_or w p 0) v ++ bs)
      → Matches u k (coords φ k (get_or w p 0) v) × Matches u (k + operators φ) bs
  first_coords φ k bs m = matches_append u k (operators φ) (coords φ k (get_or w p 0) v) bs (coords_length φ k (get_or w p 0) v) m

  coords_right : (φ : Formula) (k : ℕ) → Right w (suc p) φ k v → Matches u k (coords φ k (get_or w p 0) v) → Right w p φ k u
  unfolding Right coords
  coords_right (constant b) k r m = tt
  coords_right (name n) k r m = tt
  coords_right (unary neg φ) k r m = coords_right φ k r m
  coords_right (unary next φ) k r m =
      let c = matches_cons u k _ _ m in
      let e = by_test c.0 (value_holds w p h v φ (suc k) r.1) in
      ((λ t. (h, e.0 t), λ x. e.1 x.1), coords_right φ (suc k) r.1 c.1)
  coords_right (unary weak φ) k r m =
      let c = matches_cons u k _ _ m in
      let e = by_test c.0 (value_holds w p h v φ (suc k) r.1) in
      ((λ t. inr (e.0 t), ⊎_elim (λ l. absurd (let z : ⊥ = omega arith in z)) (λ x. e.1 x)), coords_right φ (suc k) r.1 c.1)
  coords_right (unary eventually φ) k r m =
      let c = matches_cons u k _ _ m in (by_test c.0 (value_holds w p h v (unary eventually φ) k r), coords_right φ (suc k) r.1 c.1)
  coords_right (unary always φ) k r m =
      let c = matches_cons u k _ _ m in (by_test c.0 (value_holds w p h v (unary always φ) k r), coords_right φ (suc k) r.1 c.1)
  coords_right (binary until φ ψ) k r m =
      let d = first_coords φ k _ m in
      let c = matches_cons u (k + operators φ) _ _ d.1 in
      (coords_right φ k r.0 d.0, by_test c.0 (value_holds w p h v (binary until φ ψ) k r), coords_right ψ (suc (k + operators φ)) r.2 c.1)
  coords_right (binary release φ ψ) k r m =
      let d = first_coords φ k _ m in
      let c = matches_cons u (k + operators φ) _ _ d.1 in
      (coords_right φ k r.0 d.0, by_test c.0 (value_holds w p h v (binary release φ ψ) k r), coords_right ψ (suc (k + operators φ)) r.2 c.1)
  coords_right (binary conj φ ψ) k r m = let d = first_coords φ k _ m in (coords_right φ k r.0 d.0, coords_right ψ (k + operators φ) r.1 d.1)
  coords_right (binary disj φ ψ) k r m = let d = first_coords φ k _ m in (coords_right φ k r.0 d.0, coords_right ψ (k + operators φ) r.1 d.1)
  coords_right (binary impl φ ψ) k r m = let d = first_coords φ k _ m in (coords_right φ k r.0 d.0, coords_right ψ (k + operators φ) r.1 d.1)

never : {b : Bool} {A : Type 0} → b ≡ false → (A → ⊥) → T b ↔ A
never e f = by_test e (λ t. absurd t, λ x. f x)

surely : {b : Bool} {A : Type 0} → b ≡ true → A → T b ↔ A
surely e x = by_test e (λ t. x, λ y. tt)

-- the end valuation is right past the last position
module _ (w : List ℕ) (p : ℕ) (h : length w ≤ p) (u : ℕ) where
  first_ends : (φ : Formula) (k : ℕ) (bs : List Bool) → Matches u k (ends φ ++ bs) → Matches u k (ends φ) × Matches u (k + operators φ) bs
  first_ends φ k bs m = matches_append u k (operators φ) (ends φ) bs (ends_length φ) m

  ends_right : (φ : Formula) (k : ℕ) → Matches u k (ends φ) → Right w p φ k u
  unfolding Right ends Holds
  ends_right (constant b) k m = tt
  ends_right (name n) k m = tt
  ends_right (unary neg φ) k m = ends_right φ k m
  ends_right (unary next φ) k m =
      let c = matches_cons u k _ _ m in (never c.0 (λ x. let l : p < length w = x.0 in omega arith), ends_right φ (suc k) c.1)
  ends_right (unary weak φ) k m = let c = matches_cons u k _ _ m in (surely c.0 (inl h), ends_right φ (suc k) c.1)
  ends_right (unary eventually φ) k m = let c = matches_cons u k _ _ m in (never c.0 (no_until _ _ (length w) p h), ends_right φ (suc k) c.1)
  ends_right (unary always φ) k m = let c = matches_cons u k _ _ m in (surely c.0 (no_until _ _ (length w) p h), ends_right φ (suc k) c.1)
  ends_right (binary until φ ψ) k m =
      let d = first_ends φ k _ m in
      let c = matches_cons u (k + operators φ) _ _ d.1 in
      (ends_right φ k d.0, never c.0 (no_until _ _ (length w) p h), ends_right ψ (suc (k + operators φ)) c.1)
  ends_right (binary release φ ψ) k m =
      let d = first_ends φ k _ m in
      let c = matches_cons u (k + operators φ) _ _ d.1 in
      (ends_right φ k d.0, surely c.0 (no_until _ _ (length w) p h), ends_right ψ (suc (k + operators φ)) c.1)
  ends_right (binary conj φ ψ) k m = let d = first_ends φ k _ m in (ends_right φ k d.0, ends_right ψ (k + operators φ) d.1)
  ends_right (binary disj φ ψ) k m = let d = first_ends φ k _ m in (ends_right φ k d.0, ends_right ψ (k + operators φ) d.1)
  ends_right (binary impl φ ψ) k m = let d = first_ends φ k _ m in (ends_right φ k d.0, ends_right ψ (k + operators φ) d.1)

-- ---- the valuations of a trace's positions

pub present_lt : (φ : Formula) (a v : ℕ) → present φ a v < vectors φ
unfolding present vectors
present_lt φ a v = subst (λ (n : ℕ). gather (value φ 1 a v ∷ coords φ 1 a v) < 2 ^ suc n) (coords_length φ 1 a v) (gather_lt (value φ 1 a v ∷ coords φ 1 a v))

pub end_lt : (φ : Formula) → end_vector φ < vectors φ
unfolding end_vector vectors
end_lt φ = subst (λ (n : ℕ). gather (false ∷ ends φ) < 2 ^ suc n) (ends_length φ) (gather_lt (false ∷ ends φ))

pub valuation_lt : (φ : Formula) (w : List ℕ) → valuation φ w < vectors φ
unfolding valuation
valuation_lt φ [] = end_lt φ
valuation_lt φ (a ∷ w) = present_lt φ a (valuation φ w)

-- the valuation of each position, d before the end, is right there
pub valuation_right : (φ : Formula) (w : List ℕ) (d p : ℕ) → p + d ≡ length w → Right w p φ 1 (valuation φ (drop p w))
unfolding valuation present end_vector
valuation_right φ w zero p e =
    let ep : p ≡ length w = omega arith in
    subst (λ (u : List ℕ). Right w p φ 1 (valuation φ u)) (sym (drop-length w) ∙ ap (λ (i : ℕ). drop i w) (sym ep))
    (ends_right w p (omega arith) (gather (false ∷ ends φ)) φ 1 (matches_cons _ 0 _ _ (matches_gather (false ∷ ends φ))).1)
valuation_right φ w (suc d) p e =
    let h : p < length w = omega (arith, add-suc p d) in
    let a = get_or w p 0 in
    let v = valuation φ (drop (suc p) w) in
    let r = valuation_right φ w d (suc p) (suc-add p d ∙ sym (add-suc p d) ∙ e) in
    let bs = value φ 1 a v ∷ coords φ 1 a v in
    subst (λ (u : List ℕ). Right w p φ 1 (valuation φ u)) (sym (drop-cons w p 0 h))
    (coords_right w p h v (gather bs) φ 1 r (matches_cons _ 0 _ _ (matches_gather bs)).1)
