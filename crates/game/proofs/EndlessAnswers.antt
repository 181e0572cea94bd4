-- What the two calls that solve a game promise holds for plays without end: the theorems on the authority's two questions.
-- Assumes nothing.
use Rattle.std.proofs.Common.{◌≡◌, ℕ, zero, suc, ◌*◌, ◌<◌, ◌≤◌, true, false, ltb, List, take, sym, ap, ◌∙◌, subst, ⊎_elim, arith, ltb-false, ltb-true}
use Rattle.std.specs.Prelude.{None, Ok}
use Rattle.reader.specs.Formula.{Formula}
use Rattle.reader.specs.Marks.{condition_kind}
use Rattle.reader.specs.Reading.{IsGood}
use Rattle.reader.proofs.BoolLaws.{on, clash, not_true_is_false}
use Rattle.reader.proofs.RefusalLaws.{refused_or_served}
use Rattle.automaton.specs.Trace.{Satisfies}
use Rattle.automaton.specs.Automaton.{Automaton}
use Rattle.automaton.specs.Condition.{mask_of, Judges, NoneSatisfies}
use Rattle.game.specs.Answer.{Answer, verdict_of}
use Rattle.plays.specs.declared.mode.Mode.{Mode}
use Rattle.plays.specs.Arena.{Arena, holds}
use Rattle.plays.specs.Play.{Step, reaches, letters, Along}
use Rattle.plays.specs.Strategy.{BySystem, ByEnvironment}
use Rattle.game.specs.Tables.{Verdict}
use Rattle.game.specs.Given.{none_holds, given_refusal, GivenSolved}
use Rattle.game.specs.Rule.{Buffers, Satisfied, RuleServed, RuleSolved}
use Rattle.plays.specs.Way.{by_environment, meet}
use Rattle.plays.specs.Round.{Reaching}
use Rattle.plays.specs.Endless.{first, Follows, Able, Defeated, CannotEndless}
use Rattle.game.specs.EndlessAnswer.{Satisfying, Texts, arena_left, RuleEndless, GivenEndless}
use Rattle.plays.proofs.EndlessLaws.{first_long, first_take}
use Rattle.plays.proofs.WayLaws.{system_endless, environment_endless}
use Rattle.plays.proofs.PlayLaws.{take_along, take_letters}
use Rattle.game.proofs.AnswerLaws.{of_verdict}
use Rattle.game.proofs.MetLaws.{none_passes, met_able}
use Rattle.game.proofs.GivenLaws.{met}
use Rattle.game.proofs.FirstRefusal.{first_served}
use Rattle.game.proofs.RuleLaws.{reached_satisfied, satisfied_reached, on_product}

-- ---- a given automaton

verdict_endless : (mode : Mode) (G : Arena) (σ τ : List ℕ) (start n r : ℕ) → Able mode G → Verdict mode G σ τ start r
    → GivenEndless mode G σ τ start (Ok (verdict_of n r))
verdict_endless mode G σ τ start n r able v =
    of_verdict (λ v. GivenEndless mode G σ τ start (Ok v)) n r
    (λ e. (able, environment_endless G mode τ start (v.environment e).wins))
    (λ l. (able, system_endless G mode r σ start (v.system l).1 (Reaching G start) (λ f j follows reached earlier. reached)))

-- an automaton that is not refused has an input with the condition
given_able : (i o : ℕ) (mode : Mode) (G : Arena) (start : ℕ) (σ τ : List ℕ) → given_refusal i o start G σ τ ≡ None → Able mode G
given_able i o mode G start σ τ e = met_able mode G (met i o start G σ τ e)

pub given_endless : (i o : ℕ) (mode : Mode) (G : Arena) (start : ℕ) (σ₀ τ₀ σ τ : List ℕ) (r : Answer) → GivenSolved mode i o start G σ₀ τ₀ σ τ r
    → GivenEndless mode G σ τ start r
given_endless i o mode G start σ₀ τ₀ σ τ r x =
    ⊎_elim
    (λ n. let u = x.served n in subst (GivenEndless mode G σ τ start) (sym u.1) (verdict_endless mode G σ τ start G.states u.0 (given_able i o mode G start σ₀ τ₀ n) u.3))
    (λ n. subst (GivenEndless mode G σ τ start) (sym (x.refused n.0 n.1).0) tt)
    (refused_or_served _)

-- ---- a rule: on its automaton a play reaches a goal exactly when a beginning of it satisfies the rule

-- a beginning that satisfies the rule is one of every longer beginning
beginning : (φ : Formula) (G : Arena) (f : ℕ → Step) (k j : ℕ) → 0 < k → k ≤ j → Satisfying φ G (first f k) → Satisfied φ G (first f j)
beginning φ G f k j some l s =
    let e : take k (letters G (first f j)) ≡ letters G (first f k) = take_letters G (first f j) k ∙ ap (letters G) (first_take f k j l) in
    (k, some, omega (arith, first_long f j), subst (Satisfies φ) (sym e) s)

-- and of itself
itself : (φ : Formula) (G : Arena) (f : ℕ → Step) (k : ℕ) → Satisfying φ G (first f k) → Satisfied φ G (first f k)
unfolding first letters Satisfies
itself φ G f zero s = absurd s
itself φ G f (suc k) s = beginning φ G f (suc k) (suc k) (omega arith) (omega arith) s

module _ (φ : Formula) (G : Arena) (automaton : Automaton φ (G.inputs * G.outputs) G.states G.transitions G.accepting) where
  -- the beginning with which a play first reaches a goal satisfies the rule: a shorter one that did would have reached a goal
  satisfying : (σ : List ℕ) (f : ℕ → Step) (j : ℕ) → Along G (BySystem G σ) 0 (first f (suc j)) → reaches G 0 (first f (suc j)) ≡ true
      → reaches G 0 (first f j) ≡ false → Satisfying φ G (first f (suc j))
  satisfying σ f j h r earlier =
      let s = reached_satisfied φ G automaton (BySystem G σ) (λ s a b. b.0) (first f (suc j)) h r in
      let k = s.0 in
      let some : 0 < k = s.1 in
      let most : k ≤ suc j = omega (arith, s.2, first_long f (suc j)) in
      let is : Satisfying φ G (first f k) = subst (Satisfies φ) (take_letters G (first f (suc j)) k ∙ ap (letters G) (first_take f k (suc j) most)) s.3 in
      on (ltb k (suc j))
      (λ e.
      let short : k ≤ j = omega (arith, ltb-true k (suc j) e) in
      clash (reaches G 0 (first f j))
      (satisfied_reached φ G automaton (BySystem G σ) (λ s a b. b.0) (first f j)
      (subst (Along G (BySystem G σ) 0) (first_take f j (suc j) (omega arith)) (take_along G (BySystem G σ) 0 (first f (suc j)) j h))
      (beginning φ G f k j some short is)) earlier)
      (λ e. subst (λ (m : ℕ). Satisfying φ G (first f m)) (let same : k ≡ suc j = omega (arith, ltb-false k (suc j) e) in same) is)

  defeated_rule : (mode : Mode) (τ : List ℕ) (f : ℕ → Step) → Follows G (ByEnvironment G τ) 0 f → Defeated mode G (Reaching G 0) f
      → Defeated mode G (Satisfying φ G) f
  defeated_rule mode τ f follows d =
      record {
        never = λ k s. d.never k (satisfied_reached φ G automaton (ByEnvironment G τ) (λ s a b. b.0) (first f k) (follows k) (itself φ G f k s));
        promised = d.promised;
        keeping = d.keeping;
      }

  cannot_rule : (mode : Mode) (τ : List ℕ) → CannotEndless mode G τ 0 (Reaching G 0) → CannotEndless mode G τ 0 (Satisfying φ G)
  cannot_rule mode τ x =
      record {
        plays = λ f follows. defeated_rule mode τ f follows (x.plays f follows);
        ways = λ ω outputs. defeated_rule mode τ (meet (by_environment G τ 0) ω) (x.made ω outputs) (x.ways ω outputs);
        made = x.made;
        by = x.by;
        only = x.only;
      }

module _ (mode : Mode) (i o : ℕ) (rule condition : List ℕ) (old new : Buffers) where
  abbrev texts : {n r : ℕ} → RuleServed mode i o rule condition old new n r → Texts i o rule condition
  texts s = record { formula = s.formula; good = s.good; assumption = s.assumption; assumed = s.assumed; judges = s.judges }

  -- a condition that is not refused is met by some input
  rule_able : {r : Answer} (x : RuleSolved mode i o rule condition old new r) → x.refusal ≡ None → (κ : Formula) → IsGood i (condition_kind i) condition κ
      → Judges κ i (mask_of κ i) → (n : ℕ) → Able mode (arena_left i o n new κ)
  unfolding holds
  rule_able x z κ good judges n =
      let G : Arena = arena_left i o n new κ in
      let some : x.none ≡ false =
      (first_served i o rule condition old x.reading x.condition_reading x.none x.states (sym x.first ∙ z)).1 in
      met_able mode G
      (not_true_is_false (none_holds G)
      (λ t.
      let none : NoneSatisfies i condition =
      (κ, good, λ k l s. clash (holds G k) ((judges k l).1 s) (none_passes (holds G) G.inputs t k l)) in
      clash x.none (x.none_satisfies.1 none) some))

  served_endless : (n r : ℕ) (s : RuleServed mode i o rule condition old new n r) → Able mode (arena_left i o n new s.assumption)
      → RuleEndless mode i o rule condition new (Ok (verdict_of n r))
  served_endless n r s able =
      let G : Arena = arena_left i o n new s.assumption in
      let A = on_product s.formula i o n new.transitions new.accepting (mask_of s.assumption i) s.automaton in
      let φ = s.formula in
      of_verdict (λ v. RuleEndless mode i o rule condition new (Ok v)) n r
      (λ e. (texts s, able, cannot_rule φ G A mode new.environment (environment_endless G mode new.environment 0 (s.verdict.environment e).wins)))
      (λ l. (texts s, able, system_endless G mode r new.system 0 (s.verdict.system l).1 (Satisfying φ G) (satisfying φ G A new.system)))

  pub rule_endless : (r : Answer) → RuleSolved mode i o rule condition old new r → RuleEndless mode i o rule condition new r
  rule_endless r x =
      ⊎_elim
      (λ n.
      let u = x.served n in
      let s = u.2 in
      subst (RuleEndless mode i o rule condition new) (sym u.1)
      (served_endless x.states u.0 s (rule_able x n s.assumption s.assumed s.judges x.states)))
      (λ n. subst (RuleEndless mode i o rule condition new) (sym (x.refused n.0 n.1).0) tt)
      (refused_or_served x.refusal)
