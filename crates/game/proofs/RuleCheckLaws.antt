-- The rule call's tests before the states are counted (specs/inner/RuleChecks.antt), by the test that decided; and the room for states in the tables.
-- Assumes nothing.
use Rattle.std.proofs.Common.{◌≡◌, ℕ, ◌*◌, ◌/◌, ◌<◌, min, Bool, true, false, ◌||◌, ltb, List, sym, refl, ap, ◌∙◌, subst, ⊎_elim, div-lt_iff_lt-mul, arith, ltb-false, ltb-true, le-ltb, lt-ltb}
use Rattle.std.specs.Prelude.{Some, None, Result, Ok, Err, MatchResult, IsErrAnd}
use Rattle.std.proofs.lemmas.Result.{err_from_is_err_and}
use Rattle.reader.specs.declared.reading.Unreadable.{Unreadable}
use Rattle.reader.specs.declared.refusal.Subject.TheVariants.{Rule}
use Rattle.reader.specs.declared.refusal.Refusal.{Refusal}
use Rattle.reader.specs.declared.refusal.Refusal.TheVariants.{Alphabet, TextLength, StateCount}
use Rattle.reader.specs.Limits.{too_long}
use Rattle.reader.specs.Marks.{rule_kind}
use Rattle.reader.specs.Reading.{Reading, ReadingOf}
use Rattle.reader.specs.Refusal.{text_refusal}
use Rattle.reader.proofs.BoolLaws.{on, or_left, or_right}
use Rattle.reader.proofs.RefusalLaws.{differs, refused_or_served, text_refused}
use Rattle.reader.proofs.Unambiguous.{some_reading}
use Rattle.automaton.specs.Alphabet.{bad_alphabet}
use Rattle.automaton.specs.Condition.{mask_of, after_assumption, condition_refusal, Conditioned}
use Rattle.automaton.proofs.AlphabetLaws.{inputs_fit}
use Rattle.automaton.proofs.ConditionLaws.{some_none, assumption_refused, assumption_served}
use Rattle.game.specs.Rule.{size_refusal, rule_refusal}
use Rattle.game.specs.inner.RuleChecks.{Read, RuleRefused, RuleChecked}

-- ---- the condition's own call, once its alphabet and length are in range

-- its inputs are in range where the rule's names are
condition_alphabet : (i o : ℕ) → bad_alphabet i o ≡ false → bad_alphabet i 0 ≡ false
condition_alphabet i o e = rw (le-ltb 4 i (inputs_fit i o e))

condition_first : (i o : ℕ) (condition : List ℕ) (κ : Reading) (none : Bool) → bad_alphabet i o ≡ false → too_long condition ≡ false
    → condition_refusal i condition κ none ≡ after_assumption κ none None
unfolding condition_refusal
condition_first i o condition κ none a b = rw (condition_alphabet i o a, b)

-- what a condition's answer says of its refusal
refusal_is : {i : ℕ} {condition : List ℕ} {x : Refusal} (c : Conditioned i condition (Err x)) → c.refusal ≡ Some x
refusal_is {i} {condition} {x} c =
    ⊎_elim
    (λ n. absurd (let s = c.served n in let e : Err x ≡ Ok (mask_of s.formula i) = s.answer in let z : ◌≡◌ {A = ℕ} 0 1 = cc in omega arith))
    (λ n. let e : Err x ≡ Err n.0 = c.refused n.0 n.1 in let d : x ≡ n.0 = cc in n.1 ∙ ap Some (sym d))
    (refused_or_served c.refusal)

none_is : {i : ℕ} {condition : List ℕ} {mask : ℕ} (c : Conditioned i condition (Ok mask)) → c.refusal ≡ None
none_is {i} {condition} {mask} c =
    ⊎_elim
    (λ n. n)
    (λ n. absurd (let e : Ok mask ≡ Err n.0 = c.refused n.0 n.1 in let z : ◌≡◌ {A = ℕ} 0 1 = cc in omega arith))
    (refused_or_served c.refusal)

-- ---- the tests in their order

module _ (i o : ℕ) (rule condition : List ℕ) where
  some_texts : Read i o rule condition
  some_texts =
      let r = some_reading i o true rule in
      let k = some_reading i 0 false condition in
      let b = some_none i condition in
      record { reading = r.0; read = r.1; condition_reading = k.0; condition_read = k.1; none = b.0; none_satisfies = b.1 }

  pub by_alphabet : bad_alphabet i o ≡ true → RuleRefused i o rule condition Alphabet
  unfolding rule_refusal
  by_alphabet a = record { texts = some_texts; first = λ old n. rw a; not_count = differs Alphabet StateCount (λ e. omega arith) }

  module _ (a : bad_alphabet i o ≡ false) where
    pub by_length : (too_long rule || too_long condition) ≡ true → RuleRefused i o rule condition TextLength
    unfolding rule_refusal
    by_length b = record { texts = some_texts; first = λ old n. rw (a, b); not_count = differs TextLength StateCount (λ e. omega arith) }

    module _ (b : (too_long rule || too_long condition) ≡ false) where
      by_rule : (e : Unreadable) → ReadingOf i (rule_kind i o) rule (Err e) → RuleRefused i o rule condition (text_refusal Rule e)
      unfolding rule_refusal
      by_rule e r =
          let k = some_reading i 0 false condition in
          let m = some_none i condition in
          record {
            texts = record { reading = Err e; read = r; condition_reading = k.0; condition_read = k.1; none = m.0; none_satisfies = m.1 };
            first = λ old n. rw (a, b);
            not_count = (text_refused Rule e).not_count;
          }

      -- what is answered on the rule's text, with its refusal in the place of why
      pub by_answer : (ρ : Reading) (r : Result ℕ Refusal) → ReadingOf i (rule_kind i o) rule ρ
          → MatchResult ρ (λ n. r ≡ Ok n) (λ e. IsErrAnd r (λ x. x ≡ text_refusal Rule e))
          → ((x : Refusal) → r ≡ Err x → RuleRefused i o rule condition x) × ((m : ℕ) → r ≡ Ok m → ReadingOf i (rule_kind i o) rule (Ok m))
      by_answer (Ok n) r read e = (
        λ x f. let g : Ok n ≡ Err x = sym e ∙ f in let z : ◌≡◌ {A = ℕ} 0 1 = cc in absurd (omega arith),
        λ m f. let g : Ok n ≡ Ok m = sym e ∙ f in let h : n ≡ m = cc in subst (λ (k : ℕ). ReadingOf i (rule_kind i o) rule (Ok k)) h read,
      )
      by_answer (Err d) r read e =
          let p = err_from_is_err_and r e in (
            λ x f. let g : Err p.0 ≡ Err x = sym p.1 ∙ f in let h : p.0 ≡ x = cc in subst (RuleRefused i o rule condition) (sym p.2 ∙ h) (by_rule d read),
            λ m f. let g : Err p.0 ≡ Ok m = sym p.1 ∙ f in let z : ◌≡◌ {A = ℕ} 0 1 = cc in absurd (omega arith),
          )

      short : too_long condition ≡ false
      short = or_right (too_long rule) (too_long condition) b

      -- a good rule, by the answer on the condition
      pub by_condition : (m : ℕ) → ReadingOf i (rule_kind i o) rule (Ok m) → (r : Result ℕ Refusal) → Conditioned i condition r → RuleChecked i o rule condition r
      unfolding rule_refusal
      by_condition m r (Err x) c =
          let f : after_assumption c.reading c.none None ≡ Some x = sym (c.first ∙ condition_first i o condition c.reading c.none a short) ∙ refusal_is c in
          let g = assumption_refused c.reading c.none x f in
          record {
            texts = record { reading = Ok m; read = r; condition_reading = c.reading; condition_read = c.read; none = c.none; none_satisfies = c.none_satisfies };
            first = λ old n. rw (a, b) (g.first (size_refusal i o old n));
            not_count = g.not_count;
          }
      by_condition m r (Ok mask) c =
          let f : after_assumption c.reading c.none None ≡ None = sym (c.first ∙ condition_first i o condition c.reading c.none a short) ∙ none_is c in
          let g = assumption_served c.reading c.none f in
          let s = c.served (none_is c) in
          let e : Ok mask ≡ Ok (mask_of s.formula i) = s.answer in
          let d : mask ≡ mask_of s.formula i = cc in
          record {
            texts = record { reading = Ok m; read = r; condition_reading = c.reading; condition_read = c.read; none = c.none; none_satisfies = c.none_satisfies };
            alphabet = a;
            rule_fits = or_left (too_long rule) (too_long condition) b;
            condition_fits = short;
            rule_nodes = m;
            rule_good = refl;
            condition_nodes = g.0.0;
            condition_good = g.0.1;
            some = g.1;
            assumption = s.formula;
            assumed = s.good;
            mask_is = d;
            judges = s.judges;
          }

-- ---- the room for states in the two tables

-- whole rows of P bytes are too few for n states exactly when the bytes are
rows_short : (σ P n : ℕ) → 0 < P → ltb (σ / P) n ≡ ltb σ (n * P)
rows_short σ P n pos =
    on (ltb (σ / P) n)
    (λ t. t ∙ sym (lt-ltb σ (n * P) ((div-lt_iff_lt-mul pos).0 (ltb-true (σ / P) n t))))
    (λ f. f ∙ sym (le-ltb σ (n * P) (on (ltb σ (n * P))
    (λ t. absurd (let l : σ / P < n = (div-lt_iff_lt-mul pos).1 (ltb-true σ (n * P) t) in let h = ltb-false (σ / P) n f in let z : ⊥ = omega arith in z))
    (λ g. ltb-false σ (n * P) g))))

-- the smaller of two numbers is too small exactly when one of them is
smaller_short : (a b r n : ℕ) → r ≡ min a b → ltb r n ≡ (ltb a n || ltb b n)
smaller_short a b r n e =
    on (ltb a n)
    (λ t. rw t (lt-ltb r n (let l = ltb-true a n t in omega arith)))
    (λ f. rw f (on (ltb b n)
    (λ t. lt-ltb r n (let l = ltb-true b n t in omega arith) ∙ sym t)
    (λ g. le-ltb r n (let h = ltb-false a n f in let k = ltb-false b n g in omega arith) ∙ sym g)))

pub room_short : (σ τ P r : ℕ) → 0 < P → r ≡ min (σ / P) τ → (n : ℕ) → ltb r n ≡ (ltb σ (n * P) || ltb τ n)
room_short σ τ P r pos e n = smaller_short (σ / P) τ r n e ∙ ap (λ (b : Bool). b || ltb τ n) (rows_short σ P n pos)
