-- The calls of the game have one outcome: two runs on one input, from the same old buffers, for which the call's promise holds agree as specs/Agreement.antt
-- says. The answer, both of the automaton's buffers and every byte of both tables are determined.
-- Assumes nothing.
use Rattle.std.proofs.Common.{◌≡◌, ℕ, ◌+◌, ◌*◌, ◌/◌, ◌%◌, ◌<◌, Bool, true, false, cond, ◌||◌, ◌⊎◌, List, get_or, sym, refl, ap, ◌∙◌, subst, ap₂, ⊎_elim, mod-lt, div-lt_iff_lt-mul, div-add-mod', pow_pos}
use Rattle.std.specs.Prelude.{Option, Some, None, Ok}
use Rattle.reader.specs.declared.refusal.Refusal.{Refusal}
use Rattle.reader.specs.declared.refusal.Refusal.TheVariants.{Alphabet, TextLength}
use Rattle.reader.specs.Limits.{too_long}
use Rattle.reader.specs.Formula.{Formula}
use Rattle.reader.specs.Marks.{rule_kind}
use Rattle.reader.specs.Reading.{Reading, ReadingOf}
use Rattle.reader.proofs.RefusalLaws.{refused_or_served}
use Rattle.reader.proofs.Unambiguous.{one_formula, one_reading}
use Rattle.automaton.specs.Alphabet.{bad_alphabet, letter_count}
use Rattle.automaton.specs.Construction.{CountOf}
use Rattle.automaton.specs.Condition.{mask_of, after_assumption}
use Rattle.automaton.proofs.BufferLaws.{one_buffer}
use Rattle.automaton.proofs.CountOfLaws.{one_refusal}
use Rattle.automaton.proofs.OneAutomaton.{one_automaton}
use Rattle.automaton.proofs.OneAnswer.{same_test}
use Rattle.plays.specs.declared.mode.Mode.{Mode}
use Rattle.plays.specs.Arena.{Arena, arena}
use Rattle.plays.specs.Strategy.{system_byte, environment_byte}
use Rattle.plays.specs.Round.{Reaching}
use Rattle.plays.specs.Entry.{Entries}
use Rattle.plays.proofs.Determined.{one_winner}
use Rattle.plays.proofs.RoundLaws.{one_round}
use Rattle.plays.proofs.WinLaws.{won_by, not_won}
use Rattle.plays.specs.inner.Rank.{Enclosed}
use Rattle.plays.proofs.EntryLaws.{one_system, one_environment}
use Rattle.game.specs.declared.follow.Position.{Position}
use Rattle.game.specs.Answer.{Answer, verdict_of}
use Rattle.game.specs.Tables.{need_limit, SystemState, EnvironmentState, Tables, Verdict}
use Rattle.game.specs.Given.{given_refusal, GivenSolved}
use Rattle.game.specs.Rule.{Buffers, size_refusal, rule_refusal, RuleSolved}
use Rattle.game.specs.Follower.{FollowAnswer, FollowedBy}
use Rattle.game.specs.Agreement.{GivenAgree, RuleAgree}
use Rattle.game.proofs.IndexLaws.{next_below}
use Rattle.game.proofs.GivenLaws.{accepted}
use Rattle.game.proofs.RuleLaws.{automaton_closed}

-- ---- tables and verdict of one arena

-- what a served call leaves: both tables in buffers that held σ₀ and τ₀, and the verdict on the start with the round number r
abbrev Played : (mode : Mode) (start : ℕ) (σ₀ τ₀ σ τ : List ℕ) (r : ℕ) (G : Arena) → Type 0
Played mode start σ₀ τ₀ σ τ r G = Tables mode G σ₀ τ₀ σ τ × Verdict mode G σ τ start r

module _ (mode : Mode) (G : Arena) (some_inputs : 0 < G.inputs) (some_outputs : 0 < G.outputs) (closed : Enclosed G) (start : ℕ)
    (σ₀ τ₀ σ τ σ' τ' : List ℕ) (r r' : ℕ) (x : Played mode start σ₀ τ₀ σ τ r G) (y : Played mode start σ₀ τ₀ σ' τ' r' G) where
  -- the start has one round number, by whatever tables
  same_round : r ≡ r'
  same_round = one_round mode G (Reaching G start) r r' x.1.round y.1.round

  -- so both runs' bytes are the lowest that serve by the same numbers
  abbrev most : ℕ
  most = need_limit G.states r

  second_entries : Entries mode G most σ' τ'
  second_entries = subst (λ (k : ℕ). Entries mode G (need_limit G.states k) σ' τ') (sym same_round) y.1.entries

  -- a state below n has the same winner in both runs
  same_winner : (s : ℕ) → s < G.states
      → (SystemState mode G σ τ s × SystemState mode G σ' τ' s) ⊎ (EnvironmentState mode G σ τ s × EnvironmentState mode G σ' τ' s)
  same_winner s h =
      ⊎_elim
      (λ u. ⊎_elim (λ v. ◌⊎◌.inl (u, v)) (λ v. absurd (one_winner mode G G.states σ τ' s u.wins v.wins)) (y.0.won s h))
      (λ u. ⊎_elim (λ v. absurd (one_winner mode G G.states σ' τ s v.wins u.wins)) (λ v. ◌⊎◌.inr (u, v)) (y.0.won s h))
      (x.0.won s h)

  system_byte_lem : (s a : ℕ) → s < G.states → a < G.inputs → system_byte G σ s a ≡ system_byte G σ' s a
  system_byte_lem s a l h =
      ⊎_elim
      (λ w. one_system mode G closed most σ τ σ' τ' x.1.entries second_entries s l (won_by mode G G.states σ s some_outputs w.0.wins) a h)
      (λ w. w.0.other a h ∙ sym (w.1.other a h))
      (same_winner s l)

  environment_byte_lem : (s : ℕ) → s < G.states → environment_byte τ s ≡ environment_byte τ' s
  environment_byte_lem s l =
      ⊎_elim
      (λ w. w.0.other ∙ sym w.1.other)
      (λ w. one_environment mode G closed most σ τ σ' τ' x.1.entries second_entries s l (not_won mode G τ s w.0.wins))
      (same_winner s l)

  -- one round number and the same tables
  one_game : (r ≡ r') × (σ ≡ σ') × (τ ≡ τ')
  one_game = (
    same_round,
    one_buffer (G.states * G.inputs) σ₀ σ σ' x.0.system_kept y.0.system_kept
        (λ k l. subst (λ (j : ℕ). get_or σ j 0 ≡ get_or σ' j 0) (div-add-mod' k G.inputs)
        (system_byte_lem (k / G.inputs) (k % G.inputs) ((div-lt_iff_lt-mul some_inputs).1 l) (mod-lt k some_inputs))),
    one_buffer G.states τ₀ τ τ' x.0.environment_kept y.0.environment_kept environment_byte_lem,
  )

-- ---- the follower

-- two runs of the follower say the same
pub one_follow : {i o : ℕ} {G : Arena} {σ : List ℕ} {p : Position} {x : ℕ} {r r' : FollowAnswer} → FollowedBy i o G σ p x r → FollowedBy i o G σ p x r' → r ≡ r'
one_follow u v = u.answer ∙ sym v.answer

-- ---- the call for a given automaton

module _ {mode : Mode} (i o : ℕ) {start n : ℕ} {transitions accepting : List ℕ} {mask : ℕ} {σ₀ τ₀ σ τ σ' τ' : List ℕ} {r r' : Answer}
    (x : GivenSolved mode i o start (arena i o n transitions accepting mask) σ₀ τ₀ σ τ r) (y : GivenSolved mode i o start
    (arena i o n transitions accepting mask) σ₀ τ₀ σ' τ' r') where
  abbrev given_first : Option Refusal
  given_first = given_refusal i o start (arena i o n transitions accepting mask) σ₀ τ₀

  given_served : given_first ≡ None → GivenAgree σ τ σ' τ' r r'
  given_served z =
      let G = arena i o n transitions accepting mask in
      let u = x.served z in
      let v = y.served z in
      let closed = next_below (accepted i o start n transitions accepting mask σ₀ τ₀ z).valid in
      let w = one_game mode G (pow_pos i) (pow_pos o) closed start σ₀ τ₀ σ τ σ' τ' u.0 v.0 (u.2, u.3) (v.2, v.3) in
      record { answer = u.1 ∙ ap (λ (k : ℕ). Ok (verdict_of n k)) w.0 ∙ sym v.1; system = w.1; environment = w.2 }

  given_refused : (z : Refusal) → given_first ≡ Some z → GivenAgree σ τ σ' τ' r r'
  given_refused z e =
      let u = x.refused z e in
      let v = y.refused z e in
      record { answer = u.0 ∙ sym v.0; system = u.1 ∙ sym v.1; environment = u.2 ∙ sym v.2 }

  given_agrees : GivenAgree σ τ σ' τ' r r'
  given_agrees = ⊎_elim given_served (λ z. given_refused z.0 z.1) (refused_or_served given_first)

-- two runs of the call for a given automaton agree
pub one_given : {mode : Mode} (i o : ℕ) {start n : ℕ} {transitions accepting : List ℕ} {mask : ℕ} {σ₀ τ₀ σ τ σ' τ' : List ℕ} {r r' : Answer}
    → GivenSolved mode i o start (arena i o n transitions accepting mask) σ₀ τ₀ σ τ r
    → GivenSolved mode i o start (arena i o n transitions accepting mask) σ₀ τ₀ σ' τ' r'
    → GivenAgree σ τ σ' τ' r r'
one_given i o x y = given_agrees i o x y

-- ---- the rule call

-- the rule's number of states is one, so the refusal is
one_count : (i o : ℕ) (rule condition : List ℕ) (old : Buffers) (ρ κ : Reading) (none : Bool) (n m : ℕ) → ReadingOf i (rule_kind i o) rule ρ
    → CountOf i o rule n → CountOf i o rule m → rule_refusal i o rule condition old ρ κ none n ≡ rule_refusal i o rule condition old ρ κ none m
unfolding rule_refusal
one_count i o rule condition old ρ κ none n m r c d =
    ap (λ (x : Option Refusal). cond (bad_alphabet i o) (Some Alphabet) (cond (too_long rule || too_long condition) (Some TextLength) x))
    (one_refusal i o rule (λ k. after_assumption κ none (size_refusal i o old k)) ρ n m r c d)

-- by what two calls on the same texts tell of these, any buffers have one refusal
pub same_first : {mode mode' : Mode} {i o : ℕ} {rule condition : List ℕ} {old old' new new' : Buffers} {r r' : Answer} (lent : Buffers)
    (x : RuleSolved mode i o rule condition old new r) (y : RuleSolved mode' i o rule condition old' new' r')
    → rule_refusal i o rule condition lent x.reading x.condition_reading x.none x.states
    ≡ rule_refusal i o rule condition lent y.reading y.condition_reading y.none y.states
same_first {i = i} {o} {rule} {condition} lent x y =
    ap₂ (λ (p q : Reading). rule_refusal i o rule condition lent p q x.none x.states) (one_reading i o true rule x.read y.read)
    (one_reading i 0 false condition x.condition_read y.condition_read)
    ∙ ap (λ (b : Bool). rule_refusal i o rule condition lent y.reading y.condition_reading b x.states)
    (same_test x.none y.none x.none_satisfies y.none_satisfies)
    ∙ one_count i o rule condition lent y.reading y.condition_reading y.none x.states y.states y.read x.counted y.counted

module _ {mode : Mode} {i o : ℕ} {rule condition : List ℕ} {old new new' : Buffers} {r r' : Answer}
    (x : RuleSolved mode i o rule condition old new r) (y : RuleSolved mode i o rule condition old new' r') where
  same_refusal : x.refusal ≡ y.refusal
  same_refusal = x.first ∙ same_first old x y ∙ sym y.first

  -- the arena of the first run's automaton
  abbrev of : ℕ → Formula → Arena
  of n κ = arena i o n new.transitions new.accepting (mask_of κ i)

  -- what a run left in the buffers b
  abbrev Left : Buffers → ℕ → Arena → Type 0
  Left b k G = Played mode 0 old.system old.environment b.system b.environment k G

  module _ (z : x.refusal ≡ None) where
    -- the automaton's two buffers
    same_automaton : (new.transitions ≡ new'.transitions) × (new.accepting ≡ new'.accepting)
    same_automaton =
        let u = (x.served z).2 in
        let v = (y.served (sym same_refusal ∙ z)).2 in
        one_automaton (letter_count i o) (pow_pos (i + o)) u.formula v.formula (one_formula i o true rule u.good.reads v.good.reads)
        x.states y.states (x.counted u.formula u.good ∙ sym (y.counted u.formula u.good)) _ _ _ _ _ _
        record { automaton = u.automaton; transitions_kept = u.transitions_kept; accepting_kept = u.accepting_kept }
        record { automaton = v.automaton; transitions_kept = v.transitions_kept; accepting_kept = v.accepting_kept }

    -- what the second run left, on the first run's arena
    moved : (n m : ℕ) → m ≡ n → (κ χ : Formula) → χ ≡ κ → (k : ℕ)
        → Left new' k (arena i o m new'.transitions new'.accepting (mask_of χ i)) → Left new' k (of n κ)
    moved n m e κ χ f k p =
        let g : arena i o m new'.transitions new'.accepting (mask_of χ i) ≡ of n κ = rw (e, f, same_automaton.0, same_automaton.1) refl in
        subst (Left new' k) g p

    rule_served : RuleAgree new new' r r'
    rule_served =
        let u = x.served z in
        let v = y.served (sym same_refusal ∙ z) in
        let s = u.2 in
        let t = v.2 in
        let κ = one_formula i 0 false condition t.assumed.reads s.assumed.reads in
        let m : y.states ≡ x.states = y.counted s.formula s.good ∙ sym (x.counted s.formula s.good) in
        let G = of x.states s.assumption in
        let p : Left new u.0 G = (s.tables, s.verdict) in
        let q = moved x.states y.states m s.assumption t.assumption κ v.0 (t.tables, t.verdict) in
        let closed = automaton_closed s.formula i o x.states new.transitions new.accepting (mask_of s.assumption i) s.automaton in
        let w = one_game mode G (pow_pos i) (pow_pos o) closed 0 _ _ _ _ _ _ u.0 v.0 p q in
        record {
          answer = u.1 ∙ ap₂ (λ (n k : ℕ). Ok (verdict_of n k)) (sym m) w.0 ∙ sym v.1;
          transitions = same_automaton.0;
          accepting = same_automaton.1;
          system = w.1;
          environment = w.2;
        }

  -- a refusal leaves the four buffers as they were
  rule_refused : (z : Refusal) → x.refusal ≡ Some z → RuleAgree new new' r r'
  rule_refused z e =
      let u = x.refused z e in
      let v = y.refused z (sym same_refusal ∙ e) in
      let same : new ≡ new' = u.1 ∙ sym v.1 in
      record {
        answer = u.0 ∙ sym v.0;
        transitions = ap (λ (b : Buffers). b.transitions) same;
        accepting = ap (λ (b : Buffers). b.accepting) same;
        system = ap (λ (b : Buffers). b.system) same;
        environment = ap (λ (b : Buffers). b.environment) same;
      }

  rule_agrees : RuleAgree new new' r r'
  rule_agrees = ⊎_elim rule_served (λ n. rule_refused n.0 n.1) (refused_or_served x.refusal)

-- two runs of the rule call agree
pub one_rule : {mode : Mode} {i o : ℕ} {rule condition : List ℕ} {old new new' : Buffers} {r r' : Answer}
    → RuleSolved mode i o rule condition old new r → RuleSolved mode i o rule condition old new' r' → RuleAgree new new' r r'
one_rule x y = rule_agrees x y

-- so their four buffers are the same
pub same_buffers : {new new' : Buffers} {r r' : Answer} → RuleAgree new new' r r' → new ≡ new'
same_buffers w =
    λ i. record { transitions = w.transitions i; accepting = w.accepting i; system = w.system i; environment = w.environment i }
