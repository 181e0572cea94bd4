-- From filled tables to demand 3: each state is won by the player that has a rank there, by its table, the round number of the start is the one that the
-- solver found, and each byte is the lowest that serves.
-- Assumes nothing.
use Rattle.std.proofs.Common.{◌≡◌, ℕ, ◌+◌, ◌*◌, ◌/◌, ◌%◌, ◌<◌, ◌≤◌, Bool, true, false, ◌⊎◌, List, get_or, sym, refl, ◌∙◌, subst, subst₂, ⊎_elim, mod-eq_of_lt, arith}
use native.Mathlib.Nat.{mul-add-div_right, mul-add-mod_self_right, div-eq_of_lt}
use Rattle.plays.specs.Arena.{Arena}
use Rattle.plays.specs.Strategy.{system_byte, environment_byte, SystemWins}
use Rattle.plays.specs.Round.{Reaching, RoundNumber}
use Rattle.plays.specs.Entry.{Lowest}
use Rattle.plays.specs.inner.Rank.{mode_of, Ranked, AllowedOutput, AllowedInput}
use Rattle.game.specs.Tables.{SystemState, EnvironmentState, Tables, Verdict, no_move}
use Rattle.game.specs.inner.Valid.{Valid}
use Rattle.game.specs.inner.Bytes.{MixedByte, SystemFilled, EnvironmentFilled}
use Rattle.game.specs.inner.Solution.{Solves}
use Rattle.game.proofs.IndexLaws.{row_below}
use Rattle.game.proofs.SolutionLaws.{limit_can}
use Rattle.game.proofs.EntryFilled.{filled_entries}
use Rattle.plays.proofs.CaseLaws.{zero_or}
use Rattle.plays.proofs.RankLaws.{system_wins, environment_wins}
use Rattle.plays.proofs.KeyLaws.{mixed_wins}
use Rattle.plays.proofs.RoundLaws.{round_number, no_round}

-- the state and the input of an index into the system's table
row_div : (P s x : ℕ) → x < P → (s * P + x) / P ≡ s
row_div P s x h =
    let p : 0 < P = omega arith in
    omega (arith, mul-add-div_right p s x, div-eq_of_lt h)

row_mod : (P s x : ℕ) → x < P → (s * P + x) % P ≡ x
row_mod P s x h = mul-add-mod_self_right s P x ∙ mod-eq_of_lt h

-- a table that goes by the near ranks on a state that has one, else by the far ones, wins wherever there is a far one; when fair they are the same
two_ranks_win : (fair : Bool) (G : Arena) (m : ℕ) (σ near far : List ℕ) → Ranked G true fair m near → Ranked G true fair G.states far
    → ((t : ℕ) → get_or far t 0 ≤ G.states) → (fair ≡ true → near ≡ far)
    → ((s : ℕ) → 0 < get_or near s 0 → (x : ℕ) → x < G.inputs → AllowedOutput fair G m near s x (system_byte G σ s x))
    → ((s : ℕ) → get_or near s 0 ≡ 0 → 0 < get_or far s 0 → (x : ℕ) → x < G.inputs → AllowedOutput fair G G.states far s x (system_byte G σ s x))
    → (s : ℕ) → 0 < get_or far s 0 → SystemWins (mode_of fair) G G.states σ s
two_ranks_win true G m σ near far nr fr bound same by_near by_far s w =
    system_wins true G σ m near by_near G.states s
    (subst (λ (r : List ℕ). get_or r s 0 ≤ G.states) (sym (same refl)) (bound s), (λ e. absurd (mathlib.Core.Bool.true≢false e)))
    (subst (λ (r : List ℕ). 0 < get_or r s 0) (sym (same refl)) w)
two_ranks_win false G m σ near far nr fr bound same by_near by_far s w =
    mixed_wins G m G.states σ near far nr.within fr.within by_near by_far s w

module _ {fair : Bool} {G : Arena} {start m r : ℕ} {near system environment σ₀ τ₀ σ τ : List ℕ}
    (solved : Solves fair G start near system environment m r) (sf : SystemFilled fair G m near system σ₀ σ)
    (ef : EnvironmentFilled fair G environment τ₀ τ) where
  system_at : (s x : ℕ) → s < G.states → x < G.inputs → MixedByte fair G m near system s x (system_byte G σ s x)
  system_at s x hs hx =
      subst₂ (λ (a b : ℕ). MixedByte fair G m near system a b (system_byte G σ s x)) (row_div G.inputs s x hx) (row_mod G.inputs s x hx)
      (sf.byte (s * G.inputs + x) (row_below G.states G.inputs s x hs hx))

  near_lowest : (s : ℕ) → 0 < get_or near s 0 → (x : ℕ) → x < G.inputs → Lowest (AllowedOutput fair G m near s x) (system_byte G σ s x)
  near_lowest s p x l = (system_at s x (solved.near_ranked.within s p) l).by_near p

  far_lowest : (s : ℕ) → get_or near s 0 ≡ 0 → 0 < get_or system s 0 → (x : ℕ) → x < G.inputs
      → Lowest (AllowedOutput fair G G.states system s x) (system_byte G σ s x)
  far_lowest s e p x l =
      ((system_at s x (solved.found.ranking.of_system.within s p) l).by_far e).lowest p

  input_lowest : (s : ℕ) → 0 < get_or environment s 0 → Lowest (AllowedInput fair G environment s) (environment_byte τ s)
  input_lowest s p = (ef.byte s (solved.found.ranking.of_environment.within s p)).lowest p

  -- where the system has no rank its byte is no output
  no_output_at : (s x : ℕ) → s < G.states → x < G.inputs → get_or system s 0 ≡ 0 → system_byte G σ s x ≡ no_move
  no_output_at s x hs hx e =
      ((system_at s x hs hx).by_far (zero_or (get_or near s 0) (λ d. d) (λ p. let w = solved.near_won s p in omega arith))).none e

  system_state : (s : ℕ) → 0 < get_or system s 0 → SystemState (mode_of fair) G σ τ s
  system_state s p =
      let ranking = solved.found.ranking in
      let l = ranking.of_system.within s p in
      record {
        wins = two_ranks_win fair G m σ near system solved.near_ranked ranking.of_system ranking.system_bound solved.near_fair
            (λ t w x h. (near_lowest t w x h).has) (λ t e w x h. (far_lowest t e w x h).has) s p;
        bytes = λ x h. zero_or (get_or near s 0) (λ e. (far_lowest s e p x h).has.0) (λ q. (near_lowest s q x h).has.0);
        other = (ef.byte s l).none (⊎_elim (λ w. w.1) (λ w. absurd (let z : ⊥ = omega (arith, w.0) in z)) (ranking.each s l));
      }

  environment_state : (s : ℕ) → 0 < get_or environment s 0 → EnvironmentState (mode_of fair) G σ τ s
  environment_state s p =
      let ranking = solved.found.ranking in
      let l = ranking.of_environment.within s p in
      record {
        wins = environment_wins fair G τ environment ranking.environment_bound (λ t w. (input_lowest t w).has) s p;
        byte = (input_lowest s p).has.0;
        other = λ x h. no_output_at s x l h
            (⊎_elim (λ w. absurd (let z : ⊥ = omega (arith, w.1) in z)) (λ w. w.0) (ranking.each s l));
      }

  filled_tables : Tables (mode_of fair) G σ₀ τ₀ σ τ
  filled_tables =
      let ranking = solved.found.ranking in
      record {
        won = λ s l. ⊎_elim (λ w. ◌⊎◌.inl (system_state s w.0)) (λ w. ◌⊎◌.inr (environment_state s w.1)) (ranking.each s l);
        system_kept = sf.kept;
        environment_kept = ef.kept;
      }

  -- from the start the near ranks alone count, and they are within the round number
  start_wins : 0 < r → SystemWins (mode_of fair) G r σ start
  start_wins p =
      let c = solved.can p in
      system_wins fair G σ m near (λ s w x h. (near_lowest s w x h).has) r start
      (c.1, (λ e. omega (arith, solved.limit e, limit_can G.states r p))) c.0

  start_round : 0 < G.outputs → RoundNumber (mode_of fair) G (Reaching G start) r
  start_round some =
      zero_or r
      (λ e.
      subst (λ (k : ℕ). RoundNumber (mode_of fair) G (Reaching G start) k) (sym e)
      (no_round (mode_of fair) G τ start (environment_state start (solved.cannot e)).wins))
      (λ p. round_number fair G σ start r p some (start_wins p) solved.beaten)

  filled_verdict : Valid G → 0 < G.outputs → Verdict (mode_of fair) G σ τ start r
  filled_verdict valid some =
      record {
        system = λ p. (system_state start (solved.near_won start (solved.can p).0), start_wins p);
        environment = λ e. environment_state start (solved.cannot e);
        round = start_round some;
        entries = filled_entries fair G start m r near system environment σ τ solved valid some near_lowest far_lowest input_lowest
            (λ s p. (system_state s p).wins) (λ s p. (environment_state s p).wins);
      }

  -- what the tables that are filled by the solver's ranks are good for
  pub filled : Valid G → 0 < G.outputs → Tables (mode_of fair) G σ₀ τ₀ σ τ × Verdict (mode_of fair) G σ τ start r
  filled valid some = (filled_tables, filled_verdict valid some)
