-- The numbers of states (specs/Number.antt) from exact ranks (specs/inner/Exact.antt): by its ranks a player has a way that looks at the state alone and
-- achieves them, and against every way of its there are plays that show that less is not achieved.
-- Assumes nothing.
use Prim.Native.Nat.{ℕ, zero, suc, ◌-◌, ◌<◌, ◌≤◌}
use mathlib.Core.Path.{◌≡◌, refl, sym, ap, ◌∙◌, subst}
use mathlib.Core.Bool.{Bool, true, false}
use mathlib.Core.List.{List, [], ◌∷◌}
use mathlib.Core.Logic.{◌⊎◌, ⊎_elim}
use native.Mathlib.Omega.{arith}
use lib.ListN.{length, get_or}
use Rattle.machine.specs.Run.{run}
use Rattle.plays.specs.declared.mode.Mode.TheVariants.{Fair}
use Rattle.plays.specs.Arena.{Arena, next, goal, holds, lacks}
use Rattle.plays.specs.Play.{Step, entered, stands_on, reaches, count}
use Rattle.plays.specs.Way.{SystemWay, EnvironmentWay, Inputs, environment_after, ByWay, ByInputs}
use Rattle.plays.specs.Number.{Won, Opens, Resumes, Need, Fewest, Meets, Distance, Count}
use Rattle.plays.specs.inner.Rank.{Enclosed, Safe, Falls, Ranked}
use Rattle.plays.specs.inner.Beaten.{left, unspent, Outplayed, spent, answered}
use Rattle.plays.specs.inner.Exact.{ExactNeeds, ExactDistances, ExactCounts}
use Rattle.reader.proofs.BoolLaws.{on, clash}
use Rattle.plays.proofs.CaseLaws.{zero_or, below_or}
use Rattle.plays.proofs.PlayLaws.{reaches_later}
use Rattle.plays.proofs.RoundLaws.{Spent, spending}

-- ---- the system, stable: needs

-- a play that uses up the budget k uses up what its first step leaves
spent_after : (G : Arena) (m k : ℕ) (a : Step) (p : List Step) (h : Bool) → holds G a.input ≡ h → 0 < k → Spent false G m k (a ∷ p)
    → Spent false G m (left false m h k) p
unfolding Opens Resumes
spent_after G m zero a p h e l o = absurd (let z : ⊥ = omega arith in z)
spent_after G m (suc k) a p true e l (◌⊎◌.inl o) = ◌⊎◌.inl (subst (λ (i : ℕ). Opens (holds G) i p) (let z : k ≡ suc k - 1 = omega arith in z) o.1)
spent_after G m (suc k) a p false e l (◌⊎◌.inl o) = clash (holds G a.input) o.0 e
spent_after G m (suc k) a p true e l (◌⊎◌.inr (◌⊎◌.inl o)) = clash (holds G a.input) e o.0
spent_after G m (suc k) a p false e l (◌⊎◌.inr (◌⊎◌.inl o)) = ◌⊎◌.inl o.1
spent_after G m (suc k) a p true e l (◌⊎◌.inr (◌⊎◌.inr o)) = ◌⊎◌.inr o
spent_after G m (suc k) a p false e l (◌⊎◌.inr (◌⊎◌.inr o)) = ◌⊎◌.inr o

module _ (G : Arena) (some : 0 < G.outputs) (m : ℕ) (r : List ℕ) (certificate : Ranked G true false m r) where
  -- an output for each state and input, by which the ranks fall where there is one
  chosen : (s x : ℕ) → (y : ℕ) × (y < G.outputs) × (0 < get_or r s 0 → x < G.inputs → Safe G true (next G s x y) (Falls G true false m r s x (next G s x y)))
  chosen s x =
      below_or 0 (get_or r s 0)
      (λ w. below_or x G.inputs
      (λ l. let f = certificate.forced s w x l in (f.0, f.1, λ _ _. f.2))
      (λ ge. (0, some, λ _ l. absurd (let z : ⊥ = omega arith in z))))
      (λ le. (0, some, λ w. absurd (let z : ⊥ = omega arith in z)))

  abbrev chosen_way : ℕ → SystemWay
  chosen_way s past x = (chosen (stands_on G s past) x).0

  -- a play by these outputs that uses up a budget of at least the state's rank reaches a goal
  chosen_reaches : (s k : ℕ) (p : List Step) → 0 < get_or r s 0 → get_or r s 0 ≤ k → ByWay G (chosen_way s) p → Spent false G m k p → reaches G s p ≡ true
  unfolding ByWay Opens Resumes reaches run
  chosen_reaches s zero [] w le by o = absurd (let z : ⊥ = omega arith in z)
  chosen_reaches s (suc k) [] w le by (◌⊎◌.inl o) = absurd o
  chosen_reaches s (suc k) [] w le by (◌⊎◌.inr o) = absurd o
  chosen_reaches s k (a ∷ p) w le by o =
      let t : ℕ = entered G s a in
      let d : Safe G true t (Falls G true false m r s a.input t) =
      subst (λ (y : ℕ). Safe G true (next G s a.input y) (Falls G true false m r s a.input (next G s a.input y))) (sym by.1)
      ((chosen s a.input).2 w by.0.0) in
      let positive : 0 < k = omega arith in
      ⊎_elim
      (λ g. rw g)
      (λ f. on (goal G t) (λ g. rw g) (λ g. reaches_later G s a p g ∙ on (holds G a.input)
      (λ h. chosen_reaches t (k - 1) p f.0 (omega (arith, f.1 h)) by.2 (spent_after G m k a p true h positive o))
      (λ h. chosen_reaches t m p f.0 (f.2 h) by.2 (spent_after G m k a p false h positive o))))
      d

pub need_number : (G : Arena) → 0 < G.outputs → (m : ℕ) (r : List ℕ) → ExactNeeds G m r → (s : ℕ) → s < G.states → Need G m s (get_or r s 0)
need_number G some m r exact s hs =
    record {
      some = λ w. (
        chosen_way G some m r exact.ranked s,
        (λ past x. (chosen G some m r exact.ranked (stands_on G s past) x).1),
        (λ p by o. chosen_reaches G some m r exact.ranked s (get_or r s 0) p w (omega arith) by o),
      );
      smallest = λ k l below ω legal.
          let c = spending false G m s k (exact.beaten s k hs below) ω legal in
          record { play = c.0; by = c.1; assumed = c.3; undone = λ e. clash (reaches G s c.0) e c.2 };
    }

-- ---- the environment: its way by its ranks

-- an input for each state, by which the ranks fall where there is one; x is some input
module _ (G : Arena) (steady : Bool) (most : ℕ) (r : List ℕ) (certificate : Ranked G false steady most r) (x : ℕ) (legal : x < G.inputs) where
  picked : (s : ℕ) → (x : ℕ) × (x < G.inputs)
      × (0 < get_or r s 0 → (y : ℕ) → y < G.outputs → Safe G false (next G s x y) (Falls G false steady most r s x (next G s x y)))
  picked s =
      below_or 0 (get_or r s 0)
      (λ w. let f = certificate.forced s w in (f.0, f.1, λ _. f.2))
      (λ le. (x, legal, λ w. absurd (let z : ⊥ = omega arith in z)))

  abbrev picked_way : ℕ → EnvironmentWay
  picked_way s past = (picked (stands_on G s past)).0

  picked_step : (s : ℕ) (a : Step) → 0 < get_or r s 0 → a.output < G.outputs → a.input ≡ (picked s).0
      → Safe G false (entered G s a) (Falls G false steady most r s a.input (entered G s a))
  picked_step s a w h e =
      subst (λ (i : ℕ). Safe G false (next G s i a.output) (Falls G false steady most r s i (next G s i a.output))) (sym e) ((picked s).2 w a.output h)

-- ---- the environment, fair: distances

module _ (G : Arena) (r : List ℕ) (certificate : Ranked G false false G.states r) (x : ℕ) (legal : x < G.inputs)
    (lost : (t : ℕ) → 0 < get_or r t 0 → Won Fair G t → ⊥) where
  -- a play by the ranks that is at least as long as the first rank meets the condition
  picked_meets : (s : ℕ) (p : List Step) → 0 < get_or r s 0 → get_or r s 0 ≤ length p
      → ByInputs G (picked_way G false G.states r certificate x legal s) p → Meets G s p
  unfolding ByInputs Meets run
  picked_meets s [] w le by = absurd (let z : ⊥ = omega arith in z)
  picked_meets s (a ∷ p) w le by =
      let d = picked_step G false G.states r certificate x legal s a w by.0.1 by.1 in (
        d.0,
        lost (entered G s a) d.1.0,
        on (holds G a.input)
            (λ h. ◌⊎◌.inl h)
            (λ h. ◌⊎◌.inr (picked_meets (entered G s a) p d.1.0 (omega (arith, le, d.1.1 (rw h))) by.2)),
      )

-- every way of the environment has plays of every length
lasting : (G : Arena) → 0 < G.outputs → (j : ℕ) (α : EnvironmentWay) → Inputs G α → (p : List Step) × ByInputs G α p × (length p ≡ j)
unfolding ByInputs
lasting G some zero α legal = ([], tt, refl)
lasting G some (suc j) α legal =
    let a : Step = record { input = α []; output = 0 } in
    let q = lasting G some j (environment_after a α) (λ past. legal (a ∷ past)) in
    (a ∷ q.0, ((legal [], some), refl, q.1), ap suc q.2)

module _ (G : Arena) (some : 0 < G.outputs) (closed : Enclosed G)
    (r : List ℕ) (within : (t : ℕ) → 0 < get_or r t 0 → t < G.states) (exact : ExactDistances G r)
    (won : (t : ℕ) → t < G.states → get_or r t 0 ≡ 0 → Won Fair G t) where
  -- a play of j steps by a way whose first step enters a goal or a won state
  cut_short : (s j y : ℕ) (α : EnvironmentWay) → Inputs G α → y < G.outputs
      → ((goal G (next G s (α []) y) ≡ false) × (Won Fair G (next G s (α []) y) → ⊥) → ⊥)
      → (p : List Step) × ByInputs G α p × (length p ≡ suc j) × (Meets G s p → ⊥)
  unfolding ByInputs Meets
  cut_short s j y α legal h ends =
      let a : Step = record { input = α []; output = y } in
      let q = lasting G some j (environment_after a α) (λ past. legal (a ∷ past)) in
      (a ∷ q.0, ((legal [], h), refl, q.1), ap suc q.2, λ m. ends (m.0, m.1))

  -- against every way there is a play of each length below the rank that does not meet the condition
  unmet : (j s : ℕ) → j < get_or r s 0 → (α : EnvironmentWay) → Inputs G α → (p : List Step) × ByInputs G α p × (length p ≡ j) × (Meets G s p → ⊥)
  unfolding ByInputs Meets
  unmet zero s l α legal = ([], tt, refl, λ m. m)
  unmet (suc j) s l α legal =
      let f = exact s (suc j) (omega arith) l (α []) (legal []) in
      let y : ℕ = f.0 in
      let t : ℕ = next G s (α []) y in
      let a : Step = record { input = α []; output = y } in
      ⊎_elim
      (λ g. cut_short s j y α legal f.1 (λ m. clash (goal G t) g m.0))
      (λ d. zero_or (get_or r t 0)
      (λ e. cut_short s j y α legal f.1
      (λ m. m.1 (won t (closed s (α []) y (within s (let z : 0 < get_or r s 0 = omega arith in z)) (legal []) f.1) e)))
      (λ w.
      let q = unmet j t (omega (arith, d.0 w)) (environment_after a α) (λ past. legal (a ∷ past)) in (
        a ∷ q.0,
        ((legal [], f.1), refl, q.1),
        ap suc q.2,
        (λ m. ⊎_elim (λ h. let z = d.1 h in let o : ⊥ = omega arith in o) (λ rest. q.3 rest) m.2),
      )))
      f.2

pub distance_number : (G : Arena) → 0 < G.outputs → Enclosed G → (r : List ℕ) → Ranked G false false G.states r → ExactDistances G r
    → ((t : ℕ) → t < G.states → get_or r t 0 ≡ 0 → Won Fair G t) → ((t : ℕ) → 0 < get_or r t 0 → Won Fair G t → ⊥)
    → (s : ℕ) → 0 < get_or r s 0 → Distance G s (get_or r s 0)
distance_number G some closed r certificate exact won lost s w =
    let f = certificate.forced s w in
    record {
      some = (
        picked_way G false G.states r certificate f.0 f.1 s,
        (λ past. (picked G false G.states r certificate f.0 f.1 (stands_on G s past)).1),
        (λ p by l. picked_meets G r certificate f.0 f.1 lost s p w (omega arith) by),
      );
      fewest = λ j l α legal.
          let q = unmet G some closed r certificate.within exact won j s l α legal in
          (q.0, q.1, λ c. q.3 (c q.2));
    }

-- ---- the environment, stable: counts

module _ (G : Arena) (r : List ℕ) (certificate : Ranked G false true G.states r) (x : ℕ) (legal : x < G.inputs) where
  -- a play by the ranks reaches no goal and has fewer steps without the condition than the first rank
  picked_holds : (s : ℕ) (p : List Step) → 0 < get_or r s 0 → ByInputs G (picked_way G true G.states r certificate x legal s) p
      → (reaches G s p ≡ false) × (count (lacks G) p < get_or r s 0)
  unfolding ByInputs reaches count run
  picked_holds s [] w by = (refl, w)
  picked_holds s (a ∷ p) w by =
      let d = picked_step G true G.states r certificate x legal s a w by.0.1 by.1 in
      let q = picked_holds (entered G s a) p d.1.0 by.2 in (
        reaches_later G s a p d.0 ∙ q.0,
        on (lacks G a.input) (λ h. rw h (omega (arith, q.1, d.1.1 h))) (λ h. rw h (omega (arith, q.1, d.1.2 h))),
      )

-- a step more at the front, by whether it has the condition
unspent_step : (G : Arena) (k : ℕ) (a : Step) (p : List Step) (h : Bool) → holds G a.input ≡ h → unspent h k ≤ count (lacks G) p
    → k ≤ count (lacks G) (a ∷ p)
unfolding count
unspent_step G k a p true e l = rw e l
unspent_step G k a p false e l = rw e (omega arith)

-- where the environment is outplayed each of its ways has a play that reaches a goal or uses its budget up
outplays : (G : Arena) (s k : ℕ) → Outplayed G s k → (α : EnvironmentWay) → Inputs G α
    → (p : List Step) × ByInputs G α p × ((reaches G s p ≡ true) ⊎ (k ≤ count (lacks G) p))
unfolding ByInputs reaches count
outplays G s k (spent e) α legal = ([], tt, ◌⊎◌.inr (omega arith))
outplays G s k (answered f legal_output rest) α legal =
    let y : ℕ = f (α []) in
    let a : Step = record { input = α []; output = y } in
    let h = legal_output (α []) (legal []) in
    on (goal G (entered G s a))
    (λ g. (a ∷ [], ((legal [], h), refl, tt), ◌⊎◌.inl (rw g)))
    (λ g.
    let q = outplays G (entered G s a) (unspent (holds G (α [])) k) (rest (α []) (legal []) g) (environment_after a α) (λ past. legal (a ∷ past)) in (
      a ∷ q.0,
      ((legal [], h), refl, q.1),
      ⊎_elim (λ e. ◌⊎◌.inl (reaches_later G s a q.0 g ∙ e)) (λ l. ◌⊎◌.inr (unspent_step G k a q.0 (holds G (α [])) refl l)) q.2,
    ))

pub count_number : (G : Arena) (r : List ℕ) → Ranked G false true G.states r → ExactCounts G r → (s : ℕ) → 0 < get_or r s 0
    → Count G s (get_or r s 0 - 1)
count_number G r certificate exact s w =
    let f = certificate.forced s w in
    record {
      some = (
        picked_way G true G.states r certificate f.0 f.1 s,
        (λ past. (picked G true G.states r certificate f.0 f.1 (stands_on G s past)).1),
        (λ p by. let q = picked_holds G r certificate f.0 f.1 s p w by in (q.0, omega (arith, q.1))),
      );
      fewest = λ j l α legal.
          let q = outplays G s (suc j) (exact s (suc j) (certificate.within s w) (omega arith)) α legal in
          (q.0, q.1, λ c. ⊎_elim (λ e. clash (reaches G s q.0) e c.0) (λ h. let z = c.1 in let o : ⊥ = omega arith in o) q.2);
    }

-- ---- there is only one fewest number

module _ (G : Arena) (C : ℕ → List Step → Type 0) where
  not_fewer : (j k : ℕ) → Fewest G C j → Fewest G C k → j < k → ⊥
  not_fewer j k m n l =
      let w = m.some in
      let q = n.fewest j l w.0 w.1 in
      q.2 (w.2 q.0 q.1)

  pub one_fewest : (j k : ℕ) → Fewest G C j → Fewest G C k → j ≡ k
  one_fewest j k m n =
      below_or j k
      (λ l. absurd (not_fewer j k m n l))
      (λ le. below_or k j (λ l. absurd (not_fewer k j n m l)) (λ ge. omega arith))
