-- From the automaton of a formula to the rule call: on its arena a play reaches a goal exactly when a beginning of it, read as letters, satisfies the formula.
-- So a strategy that wins the game from state 0 keeps the promise that the rule call makes of it, and the round number of the game is the rule's.
-- Assumes nothing.
use Rattle.std.proofs.Common.{◌≡◌, ℕ, zero, suc, ◌*◌, ◌/◌, ◌%◌, ◌^◌, ◌<◌, ◌≤◌, true, false, ◌↔◌, List, [], ◌∷◌, length, get_or, take, sym, refl, ap, ◌∙◌, subst, mod-lt, div-lt_iff_lt-mul, mul-pos, div-add-mod', arith, pow_pos, pow-add}
use Rattle.machine.specs.Letters.{Trace}
use Rattle.machine.specs.Machine.{Machine}
use Rattle.machine.specs.Run.{run}
use Rattle.machine.specs.Discovery.{begin}
use Rattle.machine.specs.Automaton as automata
use Rattle.machine.specs.Automaton.{walk}
use Rattle.reader.specs.Formula.{Formula}
use Rattle.automaton.specs.Limits.{state_limit}
use Rattle.automaton.specs.Alphabet.{bad_alphabet, Letters, letter_count, letter_of}
use Rattle.automaton.specs.Bits.{one}
use Rattle.automaton.specs.Trace.{Satisfies}
use Rattle.automaton.specs.State.{start, accepts}
use Rattle.automaton.specs.Discovery.{states}
use Rattle.automaton.specs.Automaton.{Automaton}
use Rattle.plays.specs.inner.Rank.{Enclosed}
use Rattle.plays.specs.declared.mode.Mode.{Mode}
use Rattle.plays.specs.Arena.{Arena, arena, next, goal}
use Rattle.plays.specs.Play.{Step, Legal, entered, stands_on, reaches, letters, Along}
use Rattle.plays.specs.Strategy.{BySystem, ByEnvironment, SystemWins, EnvironmentWins}
use Rattle.plays.specs.Way.{SystemWay, system_after, ByWay}
use Rattle.plays.specs.Round.{Reaching, RoundNumber}
use Rattle.game.specs.inner.Valid.{Valid}
use Rattle.game.specs.Rule.{Satisfied, Can, Cannot}
use Rattle.reader.proofs.BoolLaws.{on, clash}
use Rattle.plays.proofs.PlayLaws.{take_along, take_letters, reaches_beginning, beginning_reaches}
use Rattle.plays.proofs.RoundLaws.{round_map}
use Rattle.game.proofs.IndexLaws.{letter_below}
use Rattle.automaton.proofs.AlphabetLaws.{inputs_fit, outputs_fit}
use Rattle.game.proofs.CheckLaws.{small_power}

module _ (G : Arena) where
  -- the transitions follow the letters as a play follows its steps
  walk_run : (s : ℕ) (p : List Step) → walk G.transitions (G.inputs * G.outputs) s (letters G p) ≡ stands_on G s p
  unfolding run letters next
  walk_run s [] = refl
  walk_run s (a ∷ p) = walk_run (entered G s a) p

  -- steps in range are letters
  steps_letters : (R : ℕ → Step → Type 0) → ((s : ℕ) (a : Step) → R s a → Legal G a) → (s : ℕ) (p : List Step) → Along G R s p
      → Letters (G.inputs * G.outputs) (letters G p)
  unfolding Along letters Letters
  steps_letters R legal s [] h = tt
  steps_letters R legal s (a ∷ p) h =
      let l = legal s a h.0 in
      (letter_below G.inputs G.outputs a.input a.output l.0 l.1, steps_letters R legal (entered G s a) p h.1)

  -- a play by a way has its numbers in range
  way_legal : (s : ℕ) (ω : SystemWay) (p : List Step) → ByWay G ω p → Along G (λ t a. Legal G a) s p
  unfolding Along ByWay
  way_legal s ω [] h = tt
  way_legal s ω (a ∷ p) h = (h.0, way_legal (entered G s a) (system_after a ω) p h.2)

-- the start is a state
pub some_state : {S : Type 0} {M : Machine S} {Good : Trace → Type 0} {L limit n : ℕ} {transitions flags : List ℕ}
    → automata.Automaton M Good L limit n transitions flags → 0 < n
some_state {M = M} automaton = let w = automaton.numbering.complete M.first begin in omega (arith, w.1, automaton.count)

-- The arena is that of the formula's automaton, and R allows only steps in range.
module _ (φ : Formula) (G : Arena) (automaton : Automaton φ (G.inputs * G.outputs) G.states G.transitions G.accepting)
    (R : ℕ → Step → Type 0) (legal : (s : ℕ) (a : Step) → R s a → Legal G a) where
  run_below : (s : ℕ) (p : List Step) → s < G.states → Along G R s p → stands_on G s p < G.states
  unfolding Along run next
  run_below s [] l h = l
  run_below s (a ∷ p) l h =
      let r = legal s a h.0 in
      run_below (entered G s a) p (automaton.moved s (letter_of G.inputs a.input a.output) l
      (letter_below G.inputs G.outputs a.input a.output r.0 r.1)).0 h.1

  -- an accepting state's flag is 1
  goal_flag : (s : ℕ) → s < G.states → goal G s ≡ true → get_or G.accepting s 0 ≡ 1
  unfolding goal
  goal_flag s l g =
      on (accepts φ (get_or (states φ (G.inputs * G.outputs)) s (start φ)))
      (λ t. automaton.marked s l ∙ ap one t)
      (λ f. clash (goal G s) g (rw (automaton.marked s l ∙ ap one f)))

  flag_goal : (s : ℕ) → get_or G.accepting s 0 ≡ 1 → goal G s ≡ true
  unfolding goal
  flag_goal s e = rw e

  -- a play of at least one step stands on a goal exactly when its letters satisfy the formula
  play_meaning : (a : Step) (p : List Step) → Along G R 0 (a ∷ p) → (goal G (stands_on G 0 (a ∷ p)) ≡ true) ↔ Satisfies φ (letters G (a ∷ p))
  unfolding letters
  play_meaning a p h =
      let m = automaton.meaning (letter_of G.inputs a.input a.output) (letters G p) (steps_letters G R legal 0 (a ∷ p) h) in
      let e : walk G.transitions (G.inputs * G.outputs) 0 (letters G (a ∷ p)) ≡ stands_on G 0 (a ∷ p) = walk_run G 0 (a ∷ p) in (
        (λ g. m.0 (ap (λ (s : ℕ). get_or G.accepting s 0) e ∙ goal_flag (stands_on G 0 (a ∷ p)) (run_below 0 (a ∷ p) (some_state automaton) h) g)),
        (λ s. flag_goal (stands_on G 0 (a ∷ p)) (ap (λ (s : ℕ). get_or G.accepting s 0) (sym e) ∙ m.1 s)),
      )

  beginning_meaning : (p : List Step) (k : ℕ) → 0 < k → k ≤ length p → Along G R 0 p
      → (goal G (stands_on G 0 (take k p)) ≡ true) ↔ Satisfies φ (take k (letters G p))
  beginning_meaning p zero z l h = absurd (let z : ⊥ = omega arith in z)
  beginning_meaning [] (suc k) z l h = absurd (let z : ⊥ = omega arith in z)
  beginning_meaning (a ∷ p) (suc k) z l h =
      subst (λ (w : List ℕ). (goal G (stands_on G 0 (a ∷ take k p)) ≡ true) ↔ Satisfies φ w) (sym (take_letters G (a ∷ p) (suc k)))
      (play_meaning a (take k p) (take_along G R 0 (a ∷ p) (suc k) h))

  pub reached_satisfied : (p : List Step) → Along G R 0 p → reaches G 0 p ≡ true → Satisfied φ G p
  reached_satisfied p h e =
      let w = reaches_beginning G 0 p e in
      (w.0, w.1, w.2, (beginning_meaning p w.0 w.1 w.2 h).0 w.3)

  pub satisfied_reached : (p : List Step) → Along G R 0 p → Satisfied φ G p → reaches G 0 p ≡ true
  satisfied_reached p h w = beginning_reaches G 0 p w.0 w.1 w.2 ((beginning_meaning p w.0 w.1 w.2 h).1 w.3)

-- What the rule call needs: an arena that the solver may be given, and its two promises from the game's.
module _ (φ : Formula) (i o n : ℕ) (transitions flags : List ℕ) (mask : ℕ) (automaton : Automaton φ (letter_count i o) n transitions flags) where
  abbrev G : Arena
  G = arena i o n transitions flags mask

  pub on_product : Automaton φ (2 ^ i * 2 ^ o) n transitions flags
  on_product = subst (λ (L : ℕ). Automaton φ L n transitions flags) (pow-add 2 i o) automaton

  -- no transition leaves the n states
  pub automaton_closed : Enclosed G
  unfolding next
  automaton_closed s x y hs hx hy = (on_product.moved s (letter_of (2 ^ i) x y) hs (letter_below (2 ^ i) (2 ^ o) x y hx hy)).0

  -- the solver may be given this arena
  pub automaton_valid : bad_alphabet i o ≡ false → n ≤ state_limit → n * letter_count i o ≤ length transitions → n ≤ length flags → Valid G
  automaton_valid a few long wide =
      let L = 2 ^ i * 2 ^ o in
      let positive : 0 < L = mul-pos (pow_pos i) (pow_pos o) in
      record {
        moving = record {
          states_fit = few;
          inputs_fit = small_power i (inputs_fit i o a);
          outputs_fit = small_power o (outputs_fit i o a);
          long = omega (arith, ap (λ (m : ℕ). n * m) (pow-add 2 i o));
          closed = λ k h. subst (λ (j : ℕ). get_or transitions j 0 < n) (div-add-mod' k L)
              (on_product.moved (k / L) (k % L) ((div-lt_iff_lt-mul positive).1 h) (mod-lt k positive)).0;
        };
        accepting_long = wide;
      }

  pub can_keep : (mode : Mode) (r : ℕ) (σ : List ℕ) → SystemWins mode G r σ 0 → Can mode φ G r σ
  can_keep mode r σ w =
      record {
        satisfying = λ p h o. reached_satisfied φ G on_product (BySystem G σ) (λ s a b. b.0) p h (w.reaching p h o);
        answers = λ p h never. w.answers p h
            (on (reaches G 0 p) (λ t. absurd (never (reached_satisfied φ G on_product (BySystem G σ) (λ s a b. b.0) p h t))) (λ f. f));
      }

  pub cannot_keep : (mode : Mode) (τ : List ℕ) → EnvironmentWins mode G τ 0 → Cannot mode φ G τ
  cannot_keep mode τ w =
      record {
        avoiding = λ p h s. clash (reaches G 0 p) (satisfied_reached φ G on_product (ByEnvironment G τ) (λ s a b. b.0) p h s) (w.avoiding p h);
        keeping = w.keeping;
        answers = w.answers;
      }

  -- the round number that goes by goals goes by beginnings that satisfy the formula too
  pub round_keep : (mode : Mode) (r : ℕ) → RoundNumber mode G (Reaching G 0) r → RoundNumber mode G (Satisfied φ G) r
  round_keep mode r =
      round_map mode G (Reaching G 0) (Satisfied φ G) r
      (λ ω p by.
      let h = way_legal G 0 ω p by in
      (reached_satisfied φ G on_product (λ s a. Legal G a) (λ s a l. l) p h, satisfied_reached φ G on_product (λ s a. Legal G a) (λ s a l. l) p h))
