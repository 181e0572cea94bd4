-- The promise of the rule call (specs/Rule.antt), from its tests, the construction and the game.
-- Assumes nothing.
use Rattle.std.proofs.Common.{◌≡◌, ℕ, ◌*◌, ◌^◌, ◌<◌, ◌≤◌, Bool, true, false, cond, ◌||◌, ltb, List, length, sym, refl, ap, ◌∙◌, subst, ap₂, arith, pow_pos, ltb-false}
use Rattle.std.specs.Prelude.{Option, Some, None, Result, Ok, Err}
use Rattle.reader.specs.declared.refusal.Refusal.{Refusal}
use Rattle.reader.specs.declared.refusal.Refusal.TheVariants.{Buffer, StateCount}
use Rattle.reader.specs.Refusal.{first_number, first_place, answer_number, answer_place}
use Rattle.reader.proofs.BoolLaws.{or_left, or_right, or_true, or_false}
use Rattle.reader.proofs.Unambiguous.{one_reading}
use Rattle.automaton.specs.Limits.{state_limit}
use Rattle.automaton.specs.Alphabet.{letter_count}
use Rattle.automaton.specs.Condition.{mask_of}
use Rattle.automaton.specs.Construction.{CountOf, Over, short_automaton, count_refusal, construct_refusal, construction_of, ConstructionServed, Constructed}
use Rattle.automaton.proofs.ReadLaws.{count_of}
use Rattle.game.specs.Answer.{Answer, verdict_of}
use Rattle.plays.specs.declared.mode.Mode.{Mode}
use Rattle.plays.specs.Arena.{arena}
use Rattle.game.specs.inner.Valid.{Valid}
use Rattle.game.specs.Tables.{Tables, Verdict}
use Rattle.game.specs.Rule.{Buffers, buffers, short_buffers, size_refusal, rule_refusal, RuleServed, RuleSolved}
use Rattle.game.specs.inner.RuleChecks.{Read, RuleRefused, TestsPassed}
use Rattle.game.proofs.RuleLaws.{some_state, automaton_valid, can_keep, cannot_keep, round_keep}

-- the promise, from the readings of the texts, the number of states and the refusal
solved : {mode : Mode} {i o : ℕ} {rule condition : List ℕ} {old new : Buffers} {r : Answer} (t : Read i o rule condition) (n : ℕ) → CountOf i o rule n
    → (x : Option Refusal) → x ≡ rule_refusal i o rule condition old t.reading t.condition_reading t.none n
    → answer_number r ≡ first_number x → answer_place r ≡ first_place x
    → (x ≡ None → (k : ℕ) × (r ≡ Ok (verdict_of n k)) × RuleServed mode i o rule condition old new n k)
    → ((y : Refusal) → x ≡ Some y → (r ≡ Err y) × (new ≡ old))
    → (x ≡ Some StateCount → Over i o rule)
    → RuleSolved mode i o rule condition old new r
solved t n k x f l p s u v =
    record {
      reading = t.reading;
      read = t.read;
      condition_reading = t.condition_reading;
      condition_read = t.condition_read;
      none = t.none;
      none_satisfies = t.none_satisfies;
      states = n;
      counted = k;
      refusal = x;
      first = f;
      number = l;
      place = p;
      served = s;
      refused = u;
      over = v;
    }

-- refused before the states are counted
pub refused_early : (mode : Mode) (i o : ℕ) (rule condition : List ℕ) (old : Buffers) (x : Refusal) → RuleRefused i o rule condition x
    → RuleSolved mode i o rule condition old old (Err x)
refused_early mode i o rule condition old x c =
    let n = count_of i o rule c.texts.reading c.texts.read in
    solved c.texts n.0 n.1 (Some x) (sym (c.first old n.0)) refl refl
    (λ e. let z : ◌≡◌ {A = ℕ} 0 1 = cc in absurd (omega arith))
    (λ y e. let h : x ≡ y = cc in (ap Err h, refl))
    (λ e. let h : x ≡ StateCount = cc in absurd (c.not_count h))

-- what an answer of the construction says of its refusal
built_is : (x : Option Refusal) (m n : ℕ) → Ok n ≡ construction_of x m → (x ≡ None) × (n ≡ m)
built_is None m n e = (refl, cc)
built_is (Some x) m n e = let z : ◌≡◌ {A = ℕ} 0 1 = cc in absurd (omega arith)

unbuilt_is : (x : Option Refusal) (y : Refusal) (m : ℕ) → Err y ≡ construction_of x m → x ≡ Some y
unbuilt_is None y m e = let z : ◌≡◌ {A = ℕ} 0 1 = cc in absurd (omega arith)
unbuilt_is (Some x) y m e = let h : x ≡ y = cc in ap Some h

-- nothing comes after the texts: the states are few enough, and every buffer has room for them
size_passed : (b c : Bool) (n : ℕ) → cond b (Some StateCount) (cond c (Some (Buffer n)) None) ≡ None → (b ≡ false) × (c ≡ false)
size_passed true c n e = let z : ◌≡◌ {A = ℕ} 0 1 = cc in absurd (omega arith)
size_passed false true n e = let z : ◌≡◌ {A = ℕ} 0 1 = cc in absurd (omega arith)
size_passed false false n e = (refl, refl)

either_way : (a b : Bool) → (a || b) ≡ (b || a)
either_way true b = sym (or_true b)
either_way false b = sym (or_false b)

-- the tests were passed, and the construction was asked with the room that the tables have
module _ (mode : Mode) (i o : ℕ) (rule condition : List ℕ) (old : Buffers) (mask : ℕ) (pass : TestsPassed i o rule condition mask)
    (room : ℕ) (tables_room : (n : ℕ) → ltb room n ≡ (ltb (length old.system) (n * 2 ^ i) || ltb (length old.environment) n)) (t a : List ℕ) where
  -- the two refusals agree from here on: they go by the number of states
  rule_counts : (n : ℕ) → rule_refusal i o rule condition old pass.texts.reading pass.texts.condition_reading pass.texts.none n ≡ size_refusal i o old n
  unfolding rule_refusal
  rule_counts n = rw (pass.alphabet, pass.rule_fits, pass.condition_fits, pass.rule_good, pass.condition_good, pass.some)

  same_short : (n : ℕ) → (ltb room n || short_automaton (letter_count i o) n old.transitions old.accepting) ≡ short_buffers i o n old
  same_short n =
      let x = short_automaton (letter_count i o) n old.transitions old.accepting in
      ap (λ (b : Bool). b || x) (tables_room n) ∙ either_way (ltb (length old.system) (n * 2 ^ i) || ltb (length old.environment) n) x

  module _ (r : Result ℕ Refusal) (made : Constructed i o rule room old.transitions old.accepting t a r) where
    same_reading : made.reading ≡ pass.texts.reading
    same_reading = one_reading i o true rule made.read pass.texts.read

    construction_counts : made.refusal ≡ count_refusal (letter_count i o) room old.transitions old.accepting made.states
    unfolding construct_refusal
    construction_counts = made.first ∙ rw (pass.alphabet, pass.rule_fits, same_reading, pass.rule_good)

    counts : made.refusal ≡ size_refusal i o old made.states
    counts =
        let n = made.states in
        construction_counts ∙ ap (λ (b : Bool). cond (ltb state_limit n) (Some StateCount) (cond b (Some (Buffer n)) None)) (same_short n)

    agrees : made.refusal ≡ rule_refusal i o rule condition old pass.texts.reading pass.texts.condition_reading pass.texts.none made.states
    agrees = counts ∙ sym (rule_counts made.states)

  -- 9 or 3: every buffer is as it was
  pub refused_late : (y : Refusal) → Constructed i o rule room old.transitions old.accepting t a (Err y)
      → RuleSolved mode i o rule condition old (buffers t a old.system old.environment) (Err y)
  refused_late y made =
      let u = unbuilt_is made.refusal y made.states made.answer in
      let kept = made.untouched (λ e. let f : None ≡ Some y = sym e ∙ u in let z : ◌≡◌ {A = ℕ} 0 1 = cc in omega arith) in
      solved pass.texts made.states made.counted (Some y) (sym u ∙ agrees (Err y) made) refl refl
      (λ e. let z : ◌≡◌ {A = ℕ} 0 1 = cc in absurd (omega arith))
      (λ x e. let h : y ≡ x = cc in (ap Err h, ap₂ (λ (l k : List ℕ). buffers l k old.system old.environment) kept.0 kept.1))
      (λ e. made.over (u ∙ e))

  -- a verdict
  module _ (n : ℕ) (made : Constructed i o rule room old.transitions old.accepting t a (Ok n)) where
    is_served : (made.refusal ≡ None) × (n ≡ made.states)
    is_served = built_is made.refusal made.states n made.answer

    automaton_of : ConstructionServed i o rule n old.transitions old.accepting t a
    automaton_of = subst (λ (m : ℕ). ConstructionServed i o rule m old.transitions old.accepting t a) (sym is_served.1) (made.served is_served.0)

    passed : (ltb state_limit n ≡ false) × (short_buffers i o n old ≡ false)
    passed =
        size_passed (ltb state_limit n) (short_buffers i o n old) n
        (ap (size_refusal i o old) is_served.1 ∙ sym (counts (Ok n) made) ∙ is_served.0)

    abbrev automaton_is_short : Bool
    automaton_is_short = short_automaton (letter_count i o) n old.transitions old.accepting

    abbrev short_system : Bool
    short_system = ltb (length old.system) (n * 2 ^ i)

    abbrev short_environment : Bool
    short_environment = ltb (length old.environment) n

    -- the tables have room
    pub tables_fit : (0 < 2 ^ i) × (0 < 2 ^ o) × (n * 2 ^ i ≤ length old.system) × (n ≤ length old.environment)
    tables_fit =
        let e = or_right automaton_is_short (short_system || short_environment) passed.1 in (
          pow_pos i,
          pow_pos o,
          ltb-false (length old.system) (n * 2 ^ i) (or_left short_system short_environment e),
          ltb-false (length old.environment) n (or_right short_system short_environment e),
        )

    -- what the game asks of the automaton that was built
    pub valid : Valid (arena i o n t a mask)
    valid =
        let s = automaton_of in
        let e = or_left automaton_is_short (short_system || short_environment) passed.1 in
        let x = ltb (length old.transitions) (n * letter_count i o) in
        let y = ltb (length old.accepting) n in
        automaton_valid s.formula i o n t a mask s.automaton pass.alphabet (ltb-false state_limit n passed.0)
        (subst (λ (m : ℕ). n * letter_count i o ≤ m) (sym s.transitions_kept.size)
        (ltb-false (length old.transitions) (n * letter_count i o) (or_left x y e)))
        (subst (λ (m : ℕ). n ≤ m) (sym s.accepting_kept.size) (ltb-false (length old.accepting) n (or_right x y e)))

    pub starts : 0 < n
    starts = some_state automaton_of.automaton

    pub answered : (σ τ : List ℕ) (r : ℕ) → Tables mode (arena i o n t a mask) old.system old.environment σ τ
        → Verdict mode (arena i o n t a mask) σ τ 0 r
        → RuleSolved mode i o rule condition old (buffers t a σ τ) (Ok (verdict_of n r))
    answered σ τ r tables verdict =
        let s = automaton_of in
        let m = pass.mask_is in
        let won : Tables mode (arena i o n t a (mask_of pass.assumption i)) old.system old.environment σ τ =
        subst (λ (k : ℕ). Tables mode (arena i o n t a k) old.system old.environment σ τ) m tables in
        let said : Verdict mode (arena i o n t a (mask_of pass.assumption i)) σ τ 0 r =
        subst (λ (k : ℕ). Verdict mode (arena i o n t a k) σ τ 0 r) m verdict in
        solved pass.texts n (subst (λ (m : ℕ). CountOf i o rule m) (sym is_served.1) made.counted) None
        (sym is_served.0 ∙ agrees (Ok n) made
        ∙ ap (rule_refusal i o rule condition old pass.texts.reading pass.texts.condition_reading pass.texts.none) (sym is_served.1))
        refl refl
        (λ _. (
          r,
          refl,
          record {
            formula = s.formula;
            good = s.good;
            assumption = pass.assumption;
            assumed = pass.assumed;
            judges = pass.judges;
            automaton = s.automaton;
            transitions_kept = s.transitions_kept;
            accepting_kept = s.accepting_kept;
            tables = won;
            verdict = said;
            can_promise = λ e. can_keep s.formula i o n t a (mask_of pass.assumption i) s.automaton mode r σ (said.system e).1;
            cannot_promise = λ e. cannot_keep s.formula i o n t a (mask_of pass.assumption i) s.automaton mode τ (said.environment e).wins;
            round = round_keep s.formula i o n t a (mask_of pass.assumption i) s.automaton mode r said.round;
          },
        ))
        (λ x e. let z : ◌≡◌ {A = ℕ} 0 1 = cc in absurd (omega arith))
        (λ e. let z : ◌≡◌ {A = ℕ} 0 1 = cc in absurd (omega arith))
