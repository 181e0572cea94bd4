-- The tables' bytes are determined (specs/Entry.antt): of two pairs of tables whose winners' bytes are the lowest that serve, both have the same bytes there.
-- For each state has one number of each kind, and what serves goes by these numbers alone.
-- Assumes nothing.
use Prim.Native.Nat.{ℕ, ◌<◌}
use mathlib.Core.Path.{◌≡◌, refl, sym, ◌∙◌}
use mathlib.Core.List.{List}
use mathlib.Core.Logic.{◌⊎◌, ⊎_elim}
use native.Mathlib.Omega.{arith}
use Rattle.plays.specs.declared.mode.Mode.{Mode}
use Rattle.plays.specs.declared.mode.Mode.TheVariants.{Fair, Stable}
use Rattle.plays.specs.Arena.{Arena, next}
use Rattle.plays.specs.Strategy.{system_byte, environment_byte}
use Rattle.plays.specs.Round.{Reaching}
use Rattle.plays.specs.Number.{Won}
use Rattle.plays.specs.Entry.{Lowest, OutputServes, FairServes, StableServes, FairEntries, StableEntries, Entries}
use Rattle.plays.specs.inner.Rank.{Enclosed}
use Rattle.plays.proofs.CaseLaws.{zero_or, below_or}
use Rattle.plays.proofs.RoundLaws.{one_smallest, one_round}
use Rattle.plays.proofs.NumberLaws.{one_fewest}

-- there is one lowest number with a property, in whatever words
pub one_lowest : {P Q : ℕ → Type 0} {a b : ℕ} → ((c : ℕ) → P c → Q c) → ((c : ℕ) → Q c → P c) → Lowest P a → Lowest Q b → a ≡ b
one_lowest {P} {Q} {a} {b} to from l m =
    below_or a b (λ h. absurd (m.lowest a h (to a l.has))) (λ le. below_or b a (λ h. absurd (l.lowest b h (from b m.has))) (λ ge. omega arith))

-- and it is the lowest with the same property in other words
pub lowest_map : {P Q : ℕ → Type 0} {b : ℕ} → ((c : ℕ) → P c → Q c) → ((c : ℕ) → Q c → P c) → Lowest P b → Lowest Q b
lowest_map {b = b} f g l = record { has = f b l.has; lowest = λ c h q. l.lowest c h (g c q) }

module _ (G : Arena) (closed : Enclosed G) where
  -- what serves, serves by numbers that are the same
  output_moved : (ν ν' : ℕ → ℕ) → ((t : ℕ) → t < G.states → ν t ≡ ν' t) → (most most' : ℕ) → most ≡ most' → (s : ℕ) → s < G.states
      → (x : ℕ) → x < G.inputs → (y : ℕ) → OutputServes G ν most s x y → OutputServes G ν' most' s x y
  output_moved ν ν' same most most' e s h x g y (l, ◌⊎◌.inl u) = (l, ◌⊎◌.inl u)
  output_moved ν ν' same most most' e s h x g y (l, ◌⊎◌.inr u) =
      let t = same (next G s x y) (closed s x y h g l) in
      let o = same s h in (
        l,
        ◌⊎◌.inr (
          omega (arith, t, u.0),
          λ c. omega (arith, t, o, u.1 c),
          λ c. omega (arith, t, e, u.2 c),
        ),
      )

  fair_moved : (δ δ' : ℕ → ℕ) → ((t : ℕ) → t < G.states → (Won Fair G t → ⊥) → δ t ≡ δ' t) → (s : ℕ) → s < G.states → (Won Fair G s → ⊥)
      → (x : ℕ) → FairServes G δ s x → FairServes G δ' s x
  fair_moved δ δ' same s h lost x (l, u) = (
    l,
    λ y m.
        let z = u y m in
        let t = same (next G s x y) (closed s x y h l m) z.1 in
        let o = same s h lost in
        (z.0, z.1, ⊎_elim (λ c. ◌⊎◌.inl c) (λ d. ◌⊎◌.inr (omega (arith, t, o, d))) z.2),
  )

  stable_moved : (κ κ' : ℕ → ℕ) → ((t : ℕ) → t < G.states → (Won Stable G t → ⊥) → κ t ≡ κ' t) → (s : ℕ) → s < G.states → (Won Stable G s → ⊥)
      → (x : ℕ) → StableServes G κ s x → StableServes G κ' s x
  stable_moved κ κ' same s h lost x (l, u) = (
    l,
    λ y m.
        let z = u y m in
        let t = same (next G s x y) (closed s x y h l m) z.1 in
        let o = same s h lost in
        (z.0, z.1, omega (arith, t, o, z.2), λ c. omega (arith, t, o, z.3 c)),
  )

  -- the lowest output that serves by numbers that are the same
  one_output : (ν ν' : ℕ → ℕ) → ((t : ℕ) → t < G.states → ν t ≡ ν' t) → (most most' : ℕ) → most ≡ most' → (s : ℕ) → s < G.states
      → (x : ℕ) → x < G.inputs → (b b' : ℕ) → Lowest (OutputServes G ν most s x) b → Lowest (OutputServes G ν' most' s x) b' → b ≡ b'
  one_output ν ν' same most most' e s h x g b b' l m =
      one_lowest (output_moved ν ν' same most most' e s h x g) (output_moved ν' ν (λ t k. sym (same t k)) most' most (sym e) s h x g) l m

  module _ {σ τ σ' τ' : List ℕ} (u : FairEntries G σ τ) (v : FairEntries G σ' τ') where
    same_round : (t : ℕ) → t < G.states → u.round t ≡ v.round t
    same_round t h = one_round Fair G (Reaching G t) (u.round t) (v.round t) (u.rounds t h) (v.rounds t h)

    same_distance : (t : ℕ) → t < G.states → (Won Fair G t → ⊥) → u.distance t ≡ v.distance t
    same_distance t h lost = one_fewest G _ (u.distance t) (v.distance t) (u.distances t h lost) (v.distances t h lost)

    fair_system : (s : ℕ) → s < G.states → Won Fair G s → (x : ℕ) → x < G.inputs → system_byte G σ s x ≡ system_byte G σ' s x
    fair_system s h won x g =
        one_output u.round v.round same_round (u.round s) (v.round s) (same_round s h) s h x g _ _ (u.outputs s h won x g) (v.outputs s h won x g)

    fair_environment : (s : ℕ) → s < G.states → (Won Fair G s → ⊥) → environment_byte τ s ≡ environment_byte τ' s
    fair_environment s h lost =
        one_lowest (fair_moved u.distance v.distance same_distance s h lost)
        (fair_moved v.distance u.distance (λ t k l. sym (same_distance t k l)) s h lost) (u.inputs s h lost) (v.inputs s h lost)

  module _ {m : ℕ} {σ τ σ' τ' : List ℕ} (u : StableEntries G m σ τ) (v : StableEntries G m σ' τ') where
    same_need : (t : ℕ) → t < G.states → u.need t ≡ v.need t
    same_need t h = one_smallest G (Reaching G t) _ (u.need t) (v.need t) (u.needs t h) (v.needs t h)

    same_wide : (t : ℕ) → t < G.states → u.wide t ≡ v.wide t
    same_wide t h = one_smallest G (Reaching G t) _ (u.wide t) (v.wide t) (u.wide_needs t h) (v.wide_needs t h)

    same_count : (t : ℕ) → t < G.states → (Won Stable G t → ⊥) → u.count t ≡ v.count t
    same_count t h lost = one_fewest G _ (u.count t) (v.count t) (u.counts t h lost) (v.counts t h lost)

    stable_system : (s : ℕ) → s < G.states → Won Stable G s → (x : ℕ) → x < G.inputs → system_byte G σ s x ≡ system_byte G σ' s x
    stable_system s h won x g =
        let e = same_need s h in
        zero_or (u.need s)
        (λ z. one_output u.wide v.wide same_wide G.states G.states refl s h x g _ _ (u.wide_outputs s h won z x g)
        (v.wide_outputs s h won (sym e ∙ z) x g))
        (λ l. one_output u.need v.need same_need m m refl s h x g _ _ (u.outputs s h l x g) (v.outputs s h (omega arith) x g))

    stable_environment : (s : ℕ) → s < G.states → (Won Stable G s → ⊥) → environment_byte τ s ≡ environment_byte τ' s
    stable_environment s h lost =
        one_lowest (stable_moved u.count v.count same_count s h lost)
        (stable_moved v.count u.count (λ t k l. sym (same_count t k l)) s h lost) (u.inputs s h lost) (v.inputs s h lost)

-- the system's bytes on a state that it wins
pub one_system : (mode : Mode) (G : Arena) → Enclosed G → (m : ℕ) (σ τ σ' τ' : List ℕ) → Entries mode G m σ τ → Entries mode G m σ' τ'
    → (s : ℕ) → s < G.states → Won mode G s → (x : ℕ) → x < G.inputs → system_byte G σ s x ≡ system_byte G σ' s x
one_system Fair G closed m σ τ σ' τ' u v = fair_system G closed u v
one_system Stable G closed m σ τ σ' τ' u v = stable_system G closed u v

-- the environment's byte on every other state
pub one_environment : (mode : Mode) (G : Arena) → Enclosed G → (m : ℕ) (σ τ σ' τ' : List ℕ) → Entries mode G m σ τ → Entries mode G m σ' τ'
    → (s : ℕ) → s < G.states → (Won mode G s → ⊥) → environment_byte τ s ≡ environment_byte τ' s
one_environment Fair G closed m σ τ σ' τ' u v = fair_environment G closed u v
one_environment Stable G closed m σ τ σ' τ' u v = stable_environment G closed u v
