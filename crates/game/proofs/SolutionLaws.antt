-- What the solver hands to the tables: fair, where the environment wins the start, and stable where the system does.
-- Assumes nothing.
use Rattle.std.proofs.Common.{◌≡◌, ℕ, ◌<◌, Bool, true, false, List, get_or, sym, refl, ◌∙◌, subst, ⊎_elim, arith, ne_eqb}
use Rattle.plays.specs.Arena.{Arena}
use Rattle.plays.specs.inner.Rank.{Ranked, Ranking}
use Rattle.plays.specs.inner.Beaten.{Beaten}
use Rattle.game.specs.Tables.{need_limit}
use Rattle.game.specs.inner.Rounds.{Found}
use Rattle.game.specs.inner.Needs.{UnrankedBeaten, SystemNeeds}
use Rattle.game.specs.inner.Solution.{Solves}
use Rattle.plays.proofs.BeatenLaws.{held_beaten}

-- on "can" the needs are taken with the round number
pub limit_can : (n r : ℕ) → 0 < r → need_limit n r ≡ r
limit_can n r p = rw (ne_eqb r 0 (λ e. let z : ⊥ = omega arith in z))

-- the states without a rank of the system have one of the environment
pub unranked_beaten : {G : Arena} {system environment : List ℕ} → Ranking false G system environment → UnrankedBeaten G system
unranked_beaten {G} {environment = environment} r s hs e m k =
    ⊎_elim
    (λ w. absurd (let z : ⊥ = omega arith in z))
    (λ w. held_beaten G G.states environment r.of_environment m s k w.1)
    (r.each s hs)

-- a state where the environment has no rank
system_ranked : {fair : Bool} {G : Arena} {system environment : List ℕ} → Ranking fair G system environment → (s : ℕ) → s < G.states
    → get_or environment s 0 ≡ 0 → 0 < get_or system s 0
system_ranked r s hs e = ⊎_elim (λ w. w.0) (λ w. absurd (let z : ⊥ = omega arith in z)) (r.each s hs)

environment_ranked : {fair : Bool} {G : Arena} {system environment : List ℕ} → Ranking fair G system environment → (s : ℕ) → s < G.states
    → get_or system s 0 ≡ 0 → 0 < get_or environment s 0
environment_ranked r s hs e = ⊎_elim (λ w. absurd (let z : ⊥ = omega arith in z)) (λ w. w.1) (r.each s hs)

-- steady ranks are within every cap
steady : {G : Arena} {player : Bool} {most n : ℕ} {r : List ℕ} → Ranked G player true most r → Ranked G player true n r
steady h = record { within = h.within; forced = h.forced }

module _ {fair : Bool} {G : Arena} {start : ℕ} {system environment : List ℕ} (hs : start < G.states) (found : Found fair G system environment) where
  -- fair: the round number is the start's rank
  pub solves_fair : fair ≡ true → (m : ℕ) → Solves fair G start system system environment m (get_or system start 0)
  solves_fair e m =
      record {
        found = found;
        near_ranked =
            subst (λ (f : Bool). Ranked G true f m system) (sym e)
            (steady (subst (λ (f : Bool). Ranked G true f G.states system) e found.ranking.of_system));
        near_won = λ t p. p;
        near_fair = λ q. refl;
        near_exact = λ q. absurd (mathlib.Core.Bool.true≢false (sym e ∙ q));
        limit = λ q. absurd (mathlib.Core.Bool.true≢false (sym e ∙ q));
        can = λ p. (p, omega arith);
        cannot = environment_ranked found.ranking start hs;
        beaten = λ k h. subst (λ (f : Bool). Beaten f G k start k) (sym e) (found.rounds e start k k hs h);
      }

  module _ (e : fair ≡ false) where
    -- stable: the system is beaten where it has no rank
    lost : UnrankedBeaten G system
    lost = unranked_beaten (subst (λ (f : Bool). Ranking f G system environment) e found.ranking)

    -- the environment has no rank at the start: what `narrow` asks for
    pub asks_narrow : get_or environment start 0 ≡ 0
        → (0 < get_or system start 0) × SystemNeeds G system
    asks_narrow p = (
      system_ranked found.ranking start hs p,
      record { exact = found.needs e; small = found.ranking.system_bound; unranked_beaten = lost },
    )
