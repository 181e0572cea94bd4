-- The round number (specs/Round.antt): found from a table that wins with it and from positions that are beaten with less, and there is only one.
-- Assumes nothing.
use Prim.Native.Nat.{ℕ, ◌*◌, ◌<◌, ◌≤◌}
use mathlib.Core.Path.{◌≡◌, refl, sym, ◌∙◌, subst}
use mathlib.Core.Bool.{Bool, true, false, cond}
use mathlib.Core.List.{List, [], ◌∷◌}
use mathlib.Core.Logic.{◌⊎◌, ⊎_elim}
use native.Mathlib.Omega.{arith}
use lib.Dec.{ltb}
use borrow.Author.Tests.{ltb-true, lt-ltb}
use Rattle.machine.specs.Run.{run}
use Rattle.plays.specs.declared.mode.Mode.{Mode}
use Rattle.plays.specs.Arena.{Arena, next, holds}
use Rattle.plays.specs.Play.{Step, entered, stands_on, reaches, Along, count}
use Rattle.plays.specs.Strategy.{system_byte, BySystem, Assumed, SystemWins, EnvironmentWins}
use Rattle.plays.specs.Way.{SystemWay, Outputs, by_environment, system_after, meet, ByWay}
use Rattle.plays.specs.Round.{Reaching, Does, Counterplay, Smallest, RoundNumber}
use Rattle.plays.specs.Number.{Opens, Resumes}
use Rattle.plays.specs.Endless.{first}
use Rattle.plays.specs.inner.Rank.{mode_of}
use Rattle.plays.specs.inner.Beaten.{left, Beaten, over, forced}
use Rattle.reader.proofs.BoolLaws.{on, clash}
use Rattle.plays.proofs.CaseLaws.{below_or}
use Rattle.plays.proofs.PlayLaws.{first_avoids, others_avoid, reaches_later}
use Rattle.plays.proofs.OpeningLaws.{opens_more, opens_row, resumes_row}
use Rattle.plays.proofs.Determined.{system_later, failed_or_assumed}
use Rattle.plays.proofs.EndlessLaws.{first_long}
use Rattle.plays.proofs.WayLaws.{environment_made}

-- ---- where the system is beaten there is a counterplay to every way

-- the play uses the budget k up: fair, it has the condition k times; stable, at its first k steps, or at m steps in a row after one without it
abbrev pub Spent : (fair : Bool) (G : Arena) (m k : ℕ) (p : List Step) → Type 0
Spent true G m k p = k ≤ count (holds G) p
Spent false G m k p = Opens (holds G) k p ⊎ Resumes (holds G) m p

spent_none : (fair : Bool) (G : Arena) (m k : ℕ) → k ≡ 0 → Spent fair G m k []
unfolding Opens
spent_none true G m k e = omega arith
spent_none false G m k e = ◌⊎◌.inl (subst (λ (i : ℕ). Opens (holds G) i []) (sym e) tt)

-- a play that uses up what its first step leaves
spent_step : (fair : Bool) (G : Arena) (m k : ℕ) (a : Step) (p : List Step) (h : Bool) → holds G a.input ≡ h → Spent fair G m (left fair m h k) p
    → Spent fair G m k (a ∷ p)
unfolding count Resumes
spent_step true G m k a p true e o = rw e (omega arith)
spent_step true G m k a p false e o = rw e o
spent_step false G m k a p true e (◌⊎◌.inl o) = ◌⊎◌.inl (opens_more (holds G) k a p e o)
spent_step false G m k a p true e (◌⊎◌.inr o) = ◌⊎◌.inr (◌⊎◌.inr o)
spent_step false G m k a p false e (◌⊎◌.inl o) = ◌⊎◌.inr (◌⊎◌.inl (e, o))
spent_step false G m k a p false e (◌⊎◌.inr o) = ◌⊎◌.inr (◌⊎◌.inr o)

spent_assumed : (fair : Bool) (G : Arena) (k : ℕ) (p : List Step) → Spent fair G k k p → Assumed (mode_of fair) G k p
spent_assumed true G k p o = o
spent_assumed false G k p (◌⊎◌.inl o) = opens_row (holds G) k p o
spent_assumed false G k p (◌⊎◌.inr o) = resumes_row (holds G) k p o

-- the environment's inputs that beat the system, met by the outputs of a way
pub spending : (fair : Bool) (G : Arena) (m s k : ℕ) → Beaten fair G m s k → (ω : SystemWay) → Outputs G ω
    → (p : List Step) × ByWay G ω p × (reaches G s p ≡ false) × Spent fair G m k p
unfolding ByWay reaches
spending fair G m s k (over e) ω legal = ([], tt, refl, spent_none fair G m k e)
spending fair G m s k (forced x input undone rest) ω legal =
    let y : ℕ = ω [] x in
    let a : Step = record { input = x; output = y } in
    let r = spending fair G m (next G s x y) (left fair m (holds G x) k) (rest y (legal [] x)) (system_after a ω) (λ past. legal (a ∷ past)) in (
      a ∷ r.0,
      ((input, legal [] x), refl, r.1),
      reaches_later G s a r.0 (undone y (legal [] x)) ∙ r.2,
      spent_step fair G m k a r.0 (holds G x) refl r.3,
    )

pub beaten_counterplay : (fair : Bool) (G : Arena) (s k : ℕ) → Beaten fair G k s k → (ω : SystemWay) → Outputs G ω
    → Counterplay G (Reaching G s) (Assumed (mode_of fair) G k) ω
beaten_counterplay fair G s k b ω legal =
    let r = spending fair G k s k b ω legal in
    record { play = r.0; by = r.1; assumed = spent_assumed fair G k r.0 r.3; undone = λ e. clash (reaches G s r.0) e r.2 }

-- ---- the way of a table

-- a byte where it is an output, else 0
abbrev pub guarded : Arena → ℕ → ℕ
guarded G byte = cond (ltb byte G.outputs) byte 0

guarded_below : (G : Arena) (byte : ℕ) → 0 < G.outputs → guarded G byte < G.outputs
guarded_below G byte some = on (ltb byte G.outputs) (λ e. rw e (ltb-true byte G.outputs e)) (λ e. rw e some)

guarded_same : (G : Arena) (byte : ℕ) → byte < G.outputs → guarded G byte ≡ byte
guarded_same G byte l = rw (lt-ltb byte G.outputs l)

-- the way of a table, made legal
abbrev pub guarded_way : (G : Arena) (σ : List ℕ) (s : ℕ) → SystemWay
guarded_way G σ s past x = guarded G (system_byte G σ (stands_on G s past) x)

pub table_way : (G : Arena) (σ : List ℕ) (s : ℕ) → 0 < G.outputs → Outputs G (guarded_way G σ s)
table_way G σ s some past x = guarded_below G (system_byte G σ (stands_on G s past) x) some

module _ (mode : Mode) (G : Arena) (n : ℕ) (σ : List ℕ) where
  -- a play by that way that reaches no goal follows the table, since up to a goal the table's bytes are outputs
  way_follows : (s : ℕ) (p : List Step) → SystemWins mode G n σ s → ByWay G (guarded_way G σ s) p → reaches G s p ≡ false → Along G (BySystem G σ) s p
  unfolding ByWay Along reaches run
  way_follows s [] w by e = tt
  way_follows s (a ∷ p) w by e =
      let h : BySystem G σ s a =
      (by.0, by.1 ∙ guarded_same G (system_byte G σ s a.input) (w.answers [] tt refl a.input by.0.0)) in
      let v = system_later mode G n σ s a h (first_avoids G s a p e) w in
      (h, way_follows (entered G s a) p v by.2 (others_avoid G s a p e))

pub table_does : (mode : Mode) (G : Arena) (n : ℕ) (σ : List ℕ) (s : ℕ) → SystemWins mode G n σ s → Does G (Reaching G s) (Assumed mode G n) (guarded_way G σ s)
table_does mode G n σ s w p by m =
    on (reaches G s p) (λ e. e) (λ e. w.reaching p (way_follows mode G n σ s p w by e) m)

-- ---- the round number of a state

-- a table wins with r, and with less the system is beaten
pub round_number : (fair : Bool) (G : Arena) (σ : List ℕ) (s r : ℕ) → 0 < r → 0 < G.outputs → SystemWins (mode_of fair) G r σ s
    → ((k : ℕ) → k < r → Beaten fair G k s k) → RoundNumber (mode_of fair) G (Reaching G s) r
round_number fair G σ s r positive some w beaten =
    record {
      some = λ _. (guarded_way G σ s, table_way G σ s some, table_does (mode_of fair) G r σ s w);
      smallest = λ k l below ω legal. beaten_counterplay fair G s k (beaten k (below positive)) ω legal;
    }

-- where the environment wins there is a counterplay to every way with every number: k times n steps of the way with the environment's table have the condition
-- k times and reach no goal
pub winner_counterplay : (mode : Mode) (G : Arena) (τ : List ℕ) (s : ℕ) → EnvironmentWins mode G τ s → (k : ℕ) (ω : SystemWay) → Outputs G ω
    → Counterplay G (Reaching G s) (Assumed mode G k) ω
winner_counterplay mode G τ s w k ω legal =
    let p : List Step = first (meet (by_environment G τ s) ω) (k * G.states) in
    let h = environment_made G mode τ (k * G.states) s ω legal w in
    record {
      play = p;
      by = h.1;
      assumed = ⊎_elim (λ f. absurd (w.keeping p h.0 f)) (λ m. m)
          (failed_or_assumed mode G k p (first_long (meet (by_environment G τ s) ω) (k * G.states)));
      undone = λ e. clash (reaches G s p) e (w.avoiding p h.0);
    }

-- so there is no round number
pub no_round : (mode : Mode) (G : Arena) (τ : List ℕ) (s : ℕ) → EnvironmentWins mode G τ s → RoundNumber mode G (Reaching G s) 0
no_round mode G τ s w =
    record {
      some = λ z. absurd (let y : ⊥ = omega arith in y);
      smallest = λ k l below. winner_counterplay mode G τ s w k;
    }

-- what is done may be said in other words
pub round_map : (mode : Mode) (G : Arena) (D E : List Step → Type 0) (r : ℕ)
    → ((ω : SystemWay) (p : List Step) → ByWay G ω p → (D p → E p) × (E p → D p)) → RoundNumber mode G D r → RoundNumber mode G E r
round_map mode G D E r same n =
    record {
      some = λ l. let w = n.some l in (w.0, w.1, λ p by m. (same w.0 p by).0 (w.2 p by m));
      smallest = λ k l below ω legal.
          let c = n.smallest k l below ω legal in
          record { play = c.play; by = c.by; assumed = c.assumed; undone = λ e. c.undone ((same ω c.play c.by).1 e) };
    }

-- ---- it is the only one

-- a way that does, and a counterplay to every way, exclude each other
pub does_not : (G : Arena) (Done A : List Step → Type 0) (ω : SystemWay) → Does G Done A ω → Counterplay G Done A ω → ⊥
does_not G Done A ω does c = c.undone (does c.play c.by c.assumed)

module _ (G : Arena) (Done : List Step → Type 0) (A : ℕ → List Step → Type 0) where
  -- so, of two smallest numbers, none is above 0 and below the other, or above 0 where the other is 0
  not_smaller : (q r : ℕ) → Smallest G Done A q → Smallest G Done A r → 0 < r → (0 < q → r < q) → ⊥
  not_smaller q r n m l below =
      let w = m.some l in
      does_not G Done (A r) w.0 w.2 (n.smallest r l below w.0 w.1)

  pub one_smallest : (q r : ℕ) → Smallest G Done A q → Smallest G Done A r → q ≡ r
  one_smallest q r n m =
      below_or q r
      (λ l. absurd (below_or 0 q
      (λ w. not_smaller r q m n w (λ _. l))
      (λ z. not_smaller q r n m (omega arith) (λ w. absurd (let y : ⊥ = omega arith in y)))))
      (λ le. below_or r q
      (λ l. absurd (below_or 0 r
      (λ w. not_smaller q r n m w (λ _. l))
      (λ z. not_smaller r q m n (omega arith) (λ w. absurd (let y : ⊥ = omega arith in y)))))
      (λ ge. omega arith))

pub one_round : (mode : Mode) (G : Arena) (Done : List Step → Type 0) (q r : ℕ) → RoundNumber mode G Done q → RoundNumber mode G Done r → q ≡ r
one_round mode G Done q r n m = one_smallest G Done (Assumed mode G) q r n m

-- a table that wins with N bounds it
pub round_bound : (mode : Mode) (G : Arena) (σ : List ℕ) (s N r : ℕ) → 0 < N → 0 < G.outputs → SystemWins mode G N σ s
    → RoundNumber mode G (Reaching G s) r → r ≤ N
round_bound mode G σ s N r positive some w n =
    below_or N r
    (λ l. absurd (does_not G (Reaching G s) (Assumed mode G N) (guarded_way G σ s) (table_does mode G N σ s w)
    (n.smallest N positive (λ _. l) (guarded_way G σ s) (table_way G σ s some))))
    (λ le. le)
