-- The bytes of the filled tables are the lowest that serve (specs/Entry.antt in plays): the ranks by which they were chosen are the numbers of the states.
-- Assumes nothing.
use Rattle.std.proofs.Common.{◌≡◌, ℕ, ◌-◌, ◌<◌, Bool, true, false, ◌⊎◌, List, get_or, sym, refl, subst, ⊎_elim, arith}
use Rattle.plays.specs.declared.mode.Mode.{Mode}
use Rattle.plays.specs.declared.mode.Mode.TheVariants.{Fair, Stable}
use Rattle.plays.specs.Arena.{Arena, next, holds, lacks}
use Rattle.plays.specs.Strategy.{system_byte, environment_byte, SystemWins, EnvironmentWins}
use Rattle.plays.specs.Round.{Reaching, RoundNumber}
use Rattle.plays.specs.Number.{Won}
use Rattle.plays.specs.Entry.{Lowest, FairServes, StableServes, StableEntries, Entries}
use Rattle.plays.specs.inner.Rank.{mode_of, Ranking, AllowedOutput, AllowedInput}
use Rattle.game.specs.Tables.{need_limit}
use Rattle.game.specs.inner.Valid.{Valid}
use Rattle.game.specs.inner.Rounds.{Found}
use Rattle.game.specs.inner.Solution.{Solves}
use Rattle.reader.proofs.BoolLaws.{on, clash}
use Rattle.game.proofs.IndexLaws.{next_below}
use Rattle.plays.proofs.RankLaws.{system_wins}
use Rattle.plays.proofs.RoundLaws.{round_number, no_round}
use Rattle.plays.proofs.WinLaws.{won_by, not_won}
use Rattle.plays.proofs.NumberLaws.{need_number, distance_number, count_number}
use Rattle.plays.proofs.EntryLaws.{lowest_map}

-- ---- a state is won by the system exactly where it has a rank of the system's

record Decided (mode : Mode) (G : Arena) (system environment : List ℕ) : Type 0 where
  won : (s : ℕ) → 0 < get_or system s 0 → Won mode G s
  lost : (s : ℕ) → 0 < get_or environment s 0 → Won mode G s → ⊥
  system_ranked : (s : ℕ) → s < G.states → Won mode G s → 0 < get_or system s 0
  environment_ranked : (s : ℕ) → s < G.states → (Won mode G s → ⊥) → 0 < get_or environment s 0

decided : (fair : Bool) (G : Arena) (system environment σ τ : List ℕ) → Ranking fair G system environment → 0 < G.outputs
    → ((s : ℕ) → 0 < get_or system s 0 → SystemWins (mode_of fair) G G.states σ s)
    → ((s : ℕ) → 0 < get_or environment s 0 → EnvironmentWins (mode_of fair) G τ s)
    → Decided (mode_of fair) G system environment
decided fair G system environment σ τ ranking some wins loses =
    let won : (s : ℕ) → 0 < get_or system s 0 → Won (mode_of fair) G s = λ s p. won_by (mode_of fair) G G.states σ s some (wins s p) in
    let lost : (s : ℕ) → 0 < get_or environment s 0 → Won (mode_of fair) G s → ⊥ = λ s p. not_won (mode_of fair) G τ s (loses s p) in
    record {
      won = won;
      lost = lost;
      system_ranked = λ s l v. ⊎_elim (λ w. w.0) (λ w. absurd (lost s w.1 v)) (ranking.each s l);
      environment_ranked = λ s l v. ⊎_elim (λ w. absurd (v (won s w.0))) (λ w. w.1) (ranking.each s l);
    }

-- ---- fair

-- the system's ranks are the rounds
rounds_of : (G : Arena) (m : ℕ) (system environment σ τ : List ℕ) → Found true G system environment → 0 < G.outputs
    → ((s : ℕ) → 0 < get_or system s 0 → (x : ℕ) → x < G.inputs → AllowedOutput true G m system s x (system_byte G σ s x))
    → ((s : ℕ) → 0 < get_or environment s 0 → EnvironmentWins Fair G τ s)
    → (s : ℕ) → s < G.states → RoundNumber Fair G (Reaching G s) (get_or system s 0)
rounds_of G m system environment σ τ found some allowed loses s l =
    ⊎_elim
    (λ w.
    round_number true G σ s (get_or system s 0) w.0 some
    (system_wins true G σ m system allowed (get_or system s 0) s (omega arith, (λ e. absurd (mathlib.Core.Bool.true≢false e))) w.0)
    (λ k h. found.rounds refl s k k l h))
    (λ w. subst (λ (k : ℕ). RoundNumber Fair G (Reaching G s) k) (sym w.0) (no_round Fair G τ s (loses s w.1)))
    (found.ranking.each s l)

-- what the environment's ranks allow is what serves by the distances
module _ {G : Arena} (valid : Valid G) {system environment : List ℕ} (ranking : Ranking true G system environment)
    (d : Decided Fair G system environment) (s : ℕ) (l : s < G.states) (x : ℕ) where
  allowed_fair : AllowedInput true G environment s x → FairServes G (λ t. get_or environment t 0) s x
  allowed_fair a = (
    a.0,
    (λ y h. let f = a.1 y h in (
      f.0,
      d.lost (next G s x y) f.1.0,
      on (holds G x) (λ e. ◌⊎◌.inl e) (λ e. ◌⊎◌.inr (f.1.1 (rw e))),
    )),
  )

  fair_allowed : FairServes G (λ t. get_or environment t 0) s x → AllowedInput true G environment s x
  fair_allowed a = (
    a.0,
    (λ y h. let f = a.1 y h in (
      f.0,
      (
        d.environment_ranked (next G s x y) (next_below valid s x y l a.0 h) f.1,
        (λ e. ⊎_elim (λ o. clash (lacks G x) e (rw o)) (λ o. o) f.2),
        (λ e. ranking.environment_bound (next G s x y)),
      ),
    )),
  )

-- ---- stable

-- what the environment's ranks allow is what serves by the counts, each of which is one less than the rank
module _ {G : Arena} (valid : Valid G) {system environment : List ℕ} (d : Decided Stable G system environment) (s : ℕ) (w : 0 < get_or environment s 0)
    (l : s < G.states) (x : ℕ) where
  allowed_stable : AllowedInput false G environment s x → StableServes G (λ t. get_or environment t 0 - 1) s x
  allowed_stable a = (
    a.0,
    (λ y h. let f = a.1 y h in (
      f.0,
      d.lost (next G s x y) f.1.0,
      on (lacks G x) (λ e. omega (arith, f.1.1 e)) (λ e. omega (arith, f.1.2 e)),
      (λ e. omega (arith, f.1.0, f.1.1 e)),
    )),
  )

  stable_allowed : StableServes G (λ t. get_or environment t 0 - 1) s x → AllowedInput false G environment s x
  stable_allowed a = (
    a.0,
    (λ y h. let f = a.1 y h in (
      f.0,
      (
        d.environment_ranked (next G s x y) (next_below valid s x y l a.0 h) f.1,
        (λ e. omega (arith, f.3 e)),
        (λ e. omega (arith, f.2)),
      ),
    )),
  )

-- ---- the bytes of both tables

pub filled_entries : (fair : Bool) (G : Arena) (start m r : ℕ) (near system environment σ τ : List ℕ) → Solves fair G start near system environment m r
    → Valid G → 0 < G.outputs
    → ((s : ℕ) → 0 < get_or near s 0 → (x : ℕ) → x < G.inputs → Lowest (AllowedOutput fair G m near s x) (system_byte G σ s x))
    → ((s : ℕ) → get_or near s 0 ≡ 0 → 0 < get_or system s 0 → (x : ℕ) → x < G.inputs → Lowest (AllowedOutput fair G G.states system s x) (system_byte G σ s x))
    → ((s : ℕ) → 0 < get_or environment s 0 → Lowest (AllowedInput fair G environment s) (environment_byte τ s))
    → ((s : ℕ) → 0 < get_or system s 0 → SystemWins (mode_of fair) G G.states σ s)
    → ((s : ℕ) → 0 < get_or environment s 0 → EnvironmentWins (mode_of fair) G τ s)
    → Entries (mode_of fair) G (need_limit G.states r) σ τ
filled_entries true G start m r near system environment σ τ solved valid some by_near by_far inputs wins loses =
    let found = solved.found in
    let d = decided true G system environment σ τ found.ranking some wins loses in
    let outputs : (s : ℕ) → 0 < get_or system s 0 → (x : ℕ) → x < G.inputs → Lowest (AllowedOutput true G m system s x) (system_byte G σ s x) =
    subst (λ (k : List ℕ). (s : ℕ) → 0 < get_or k s 0 → (x : ℕ) → x < G.inputs → Lowest (AllowedOutput true G m k s x) (system_byte G σ s x))
    (solved.near_fair refl) by_near in
    record {
      round = λ s. get_or system s 0;
      rounds = rounds_of G m system environment σ τ found some (λ s p x h. (outputs s p x h).has) loses;
      distance = λ s. get_or environment s 0;
      distances = λ s l v.
          distance_number G some (next_below valid) environment found.ranking.of_environment (found.distances refl)
          (λ t h e. ⊎_elim (λ w. d.won t w.0) (λ w. absurd (let z : ⊥ = omega (arith, w.1) in z)) (found.ranking.each t h))
          d.lost s (d.environment_ranked s l v);
      outputs = λ s l v. outputs s (d.system_ranked s l v);
      inputs = λ s l v.
          lowest_map (allowed_fair valid found.ranking d s l) (fair_allowed valid found.ranking d s l) (inputs s (d.environment_ranked s l v));
    }
filled_entries false G start m r near system environment σ τ solved valid some by_near by_far inputs wins loses =
    let found = solved.found in
    let d = decided false G system environment σ τ found.ranking some wins loses in
    subst (λ (k : ℕ). StableEntries G k σ τ) (solved.limit refl)
    (record {
      need = λ s. get_or near s 0;
      needs = need_number G some m near (solved.near_exact refl);
      wide = λ s. get_or system s 0;
      wide_needs = need_number G some G.states system (found.needs refl);
      count = λ s. get_or environment s 0 - 1;
      counts = λ s l v. count_number G environment found.ranking.of_environment (found.counts refl) s (d.environment_ranked s l v);
      outputs = λ s l p x h. by_near s p x h;
      wide_outputs = λ s l v e x h. by_far s e (d.system_ranked s l v) x h;
      inputs = λ s l v.
          let w = d.environment_ranked s l v in
          lowest_map (allowed_stable valid d s w l) (stable_allowed valid d s w l) (inputs s w);
    })
