-- The layer's calls have one outcome: two runs on one input for which the call's promise holds agree in the answer, and two of the construction call,
-- from the same old buffers, also in every byte of both buffers, served or refused.
-- Assumes nothing.
use Prim.Native.Nat.{ℕ, ◌+◌}
use mathlib.Core.Path.{◌≡◌, refl, sym, ap, ap₂, ◌∙◌, subst}
use mathlib.Core.Bool.{Bool, true, false, cond}
use mathlib.Core.List.{List}
use mathlib.Core.Logic.{◌↔◌, ⊎_elim}
use native.Mathlib.Omega.{arith}
use lib.Pow.{pow_pos}
use Rattle.std.specs.Prelude.{Option, Some, None, Result, Ok}
use Rattle.reader.specs.declared.refusal.Refusal.{Refusal}
use Rattle.reader.specs.declared.refusal.Refusal.TheVariants.{Alphabet, TextLength}
use Rattle.reader.specs.Limits.{too_long}
use Rattle.reader.specs.Formula.{Formula}
use Rattle.reader.specs.Marks.{rule_kind}
use Rattle.reader.specs.Reading.{Reading, ReadingOf}
use Rattle.reader.proofs.RefusalLaws.{refused_or_served}
use Rattle.reader.proofs.Unambiguous.{one_formula, one_reading}
use Rattle.automaton.specs.Trace.{Satisfies}
use Rattle.automaton.specs.Trial.{trial_refusal, Tried}
use Rattle.automaton.specs.Condition.{mask_of, condition_refusal, Conditioned}
use Rattle.automaton.specs.Alphabet.{bad_alphabet, letter_count}
use Rattle.automaton.specs.Construction.{CountOf, count_refusal, construct_refusal, construction_of, Constructed}
use Rattle.automaton.proofs.CountOfLaws.{one_refusal}
use Rattle.automaton.proofs.OneAutomaton.{one_automaton}

-- two tests that say whether the same holds are one
pub same_test : {A : Type 0} (b c : Bool) → (b ≡ true) ↔ A → (c ≡ true) ↔ A → b ≡ c
same_test true c f g = sym (g.1 (f.0 refl))
same_test false true f g = f.1 (g.0 refl)
same_test false false f g = refl

module _ {i o : ℕ} {text letters : List ℕ} {r r' : Result Bool Refusal} (x : Tried i o text letters r) (y : Tried i o text letters r') where
  same_trial_refusal : x.refusal ≡ y.refusal
  same_trial_refusal = x.first ∙ ap (trial_refusal i o text letters) (one_reading i o true text x.read y.read) ∙ sym y.first

  -- two runs of the trial say the same
  pub one_trial : r ≡ r'
  one_trial =
      ⊎_elim
      (λ n.
      let u = x.served n in
      let v = y.served (sym same_trial_refusal ∙ n) in
      let e : v.formula ≡ u.formula = one_formula i o true text v.good.reads u.good.reads in
      let w : (v.satisfied ≡ true) ↔ Satisfies u.formula letters = subst (λ (φ : Formula). (v.satisfied ≡ true) ↔ Satisfies φ letters) e v.right in
      u.answer ∙ ap Ok (same_test u.satisfied v.satisfied u.right w) ∙ sym v.answer)
      (λ n. x.refused n.0 n.1 ∙ sym (y.refused n.0 (sym same_trial_refusal ∙ n.1)))
      (refused_or_served x.refusal)

module _ {i : ℕ} {text : List ℕ} {r r' : Result ℕ Refusal} (x : Conditioned i text r) (y : Conditioned i text r') where
  same_condition_refusal : x.refusal ≡ y.refusal
  same_condition_refusal =
      x.first
      ∙ ap₂ (condition_refusal i text) (one_reading i 0 false text x.read y.read) (same_test x.none y.none x.none_satisfies y.none_satisfies)
      ∙ sym y.first

  -- two runs of the condition's call say the same: the mask, or the refusal with its place
  pub one_condition : r ≡ r'
  one_condition =
      ⊎_elim
      (λ n.
      let u = x.served n in
      let v = y.served (sym same_condition_refusal ∙ n) in
      let e : u.formula ≡ v.formula = one_formula i 0 false text u.good.reads v.good.reads in
      u.answer ∙ ap (λ (κ : Formula). Ok (mask_of κ i)) e ∙ sym v.answer)
      (λ n. x.refused n.0 n.1 ∙ sym (y.refused n.0 (sym same_condition_refusal ∙ n.1)))
      (refused_or_served x.refusal)

-- two numbers of the rule's states give one refusal
one_count : (i o : ℕ) (text : List ℕ) (room : ℕ) (t a : List ℕ) (ρ : Reading) (n m : ℕ) → ReadingOf i (rule_kind i o) text ρ
    → CountOf i o text n → CountOf i o text m → construct_refusal i o text room t a ρ n ≡ construct_refusal i o text room t a ρ m
unfolding construct_refusal
one_count i o text room t a ρ n m r c d =
    ap (λ (x : Option Refusal). cond (bad_alphabet i o) (Some Alphabet) (cond (too_long text) (Some TextLength) x))
    (one_refusal i o text (count_refusal (letter_count i o) room t a) ρ n m r c d)

module _ {i o room : ℕ} {text t a t₁ a₁ t₂ a₂ : List ℕ} {r r' : Result ℕ Refusal}
    (x : Constructed i o text room t a t₁ a₁ r) (y : Constructed i o text room t a t₂ a₂ r') where
  same_construction_refusal : x.refusal ≡ y.refusal
  same_construction_refusal =
      x.first
      ∙ ap (λ (ρ : Reading). construct_refusal i o text room t a ρ x.states) (one_reading i o true text x.read y.read)
      ∙ one_count i o text room t a y.reading x.states y.states y.read x.counted y.counted
      ∙ sym y.first

  same_states : construction_of x.refusal x.states ≡ construction_of x.refusal y.states
  same_states =
      ⊎_elim
      (λ n. let s = x.served n in ap (construction_of x.refusal) (x.counted s.formula s.good ∙ sym (y.counted s.formula s.good)))
      (λ n. ap (λ (z : Option Refusal). construction_of z x.states) n.1 ∙ sym (ap (λ (z : Option Refusal). construction_of z y.states) n.1))
      (refused_or_served x.refusal)

  same_construction : r ≡ r'
  same_construction = x.answer ∙ same_states ∙ ap (λ (z : Option Refusal). construction_of z y.states) same_construction_refusal ∙ sym y.answer

  same_buffers : (t₁ ≡ t₂) × (a₁ ≡ a₂)
  same_buffers =
      ⊎_elim
      (λ n.
      let u = x.served n in
      let v = y.served (sym same_construction_refusal ∙ n) in
      one_automaton (letter_count i o) (pow_pos (i + o)) u.formula v.formula (one_formula i o true text u.good.reads v.good.reads)
      x.states y.states (x.counted u.formula u.good ∙ sym (y.counted u.formula u.good)) t a t₁ a₁ t₂ a₂
      record { automaton = u.automaton; transitions_kept = u.transitions_kept; accepting_kept = u.accepting_kept }
      record { automaton = v.automaton; transitions_kept = v.transitions_kept; accepting_kept = v.accepting_kept })
      (λ n.
      let some : (x.refusal ≡ None) → ⊥ = λ e. let f : None ≡ Some n.0 = sym e ∙ n.1 in let z : ◌≡◌ {A = ℕ} 0 1 = cc in omega arith in
      let u = x.untouched some in
      let v = y.untouched (λ z. some (same_construction_refusal ∙ z)) in
      (u.0 ∙ sym v.0, u.1 ∙ sym v.1))
      (refused_or_served x.refusal)

-- two runs of the construction call agree in the answer and in both buffers
pub one_construction : {i o room : ℕ} {text t a t₁ a₁ t₂ a₂ : List ℕ} {r r' : Result ℕ Refusal}
    → Constructed i o text room t a t₁ a₁ r → Constructed i o text room t a t₂ a₂ r' → (r ≡ r') × (t₁ ≡ t₂) × (a₁ ≡ a₂)
one_construction x y = let b = same_buffers x y in (same_construction x y, b.0, b.1)
