-- The promise of the condition call (specs/Condition.antt), by the test that decided; and that a mask is 0 exactly where no input number satisfies the condition.
-- Assumes nothing.
use Prim.Native.Nat.{ℕ, ◌<◌, ◌^◌}
use mathlib.Core.Path.{◌≡◌, refl, sym, ap, ◌∙◌, subst}
use mathlib.Core.Bool.{Bool, true, false, cond}
use mathlib.Core.List.{List, [], ◌∷◌}
use mathlib.Core.Logic.{◌↔◌}
use native.Mathlib.Omega.{arith}
use lib.Dec.{eqb}
use borrow.Author.Tests.{eqb-true}
use Rattle.std.specs.Prelude.{Some, None, Ok, Err}
use Rattle.reader.specs.declared.refusal.Subject.TheVariants.{Condition}
use Rattle.reader.specs.declared.refusal.Refusal.{Refusal}
use Rattle.reader.specs.declared.refusal.Refusal.TheVariants.{StateCount, Unsatisfiable}
use Rattle.reader.specs.Formula.{Formula, size, operators}
use Rattle.reader.specs.Marks.{condition_kind}
use Rattle.reader.specs.Reading.{Reading, ReadingOf, IsGood}
use Rattle.reader.specs.Refusal.{text_refusal}
use Rattle.reader.proofs.BoolLaws.{clash, not_true_is_false}
use Rattle.reader.proofs.RefusalLaws.{differs, Refuses, text_refused}
use Rattle.reader.proofs.StaticLaws.{static}
use Rattle.reader.proofs.Unambiguous.{one_formula, some_reading, one_reading}
use Rattle.automaton.specs.Bits.{bit, of_bits}
use Rattle.automaton.specs.Trace.{Satisfies}
use Rattle.automaton.specs.Valuation.{value}
use Rattle.automaton.specs.Condition.{mask_of, Judges, NoneSatisfies, after_assumption, condition_refusal, Conditioned}
use Rattle.reader.specs.declared.nodes.Node.{Node}
use Rattle.automaton.specs.inner.Opening.{Unopened, Opened}
use Rattle.automaton.proofs.BitLaws.{bit_of_bits, of_bits_none, bit_zero}
use Rattle.automaton.proofs.Meaning.{value_satisfies}

-- the mask of a formula without temporal operators judges as the formula does
pub mask_judges : (κ : Formula) (i : ℕ) → operators κ ≡ 0 → Judges κ i (mask_of κ i)
unfolding mask_of
mask_judges κ i e x h =
    let w = value_satisfies κ x 0 e in
    let b : bit (of_bits (λ y. value κ 1 y 0) (2 ^ i)) x ≡ value κ 1 x 0 = bit_of_bits (λ y. value κ 1 y 0) (2 ^ i) x h in
    (λ t. w.0 (sym b ∙ t), λ s. b ∙ w.1 s)

-- the mask is 0 exactly where no input number satisfies the condition
pub mask_empty : (κ : Formula) (i : ℕ) → operators κ ≡ 0 → (mask_of κ i ≡ 0) ↔ ((x : ℕ) → x < 2 ^ i → Satisfies κ (x ∷ []) → ⊥)
unfolding mask_of
mask_empty κ i e = (
  λ z x h s. clash (bit 0 x) (subst (λ (m : ℕ). bit m x ≡ true) z ((mask_judges κ i e x h).1 s)) (bit_zero x),
  λ none. of_bits_none (λ x. value κ 1 x 0) (2 ^ i)
      (λ x h. not_true_is_false (value κ 1 x 0) (λ t. none x h ((value_satisfies κ x 0 e).0 t))),
)

-- a reading and a test of it that are refused are refused by the same whatever comes later, and not by 9
pub assumption_refused : (κ : Reading) (none : Bool) (x : Refusal) → after_assumption κ none None ≡ Some x
    → Refuses (λ k later. after_assumption k none later) κ x
assumption_refused (Ok n) true x e =
    record { first = λ later. e; not_count = λ z. let q : Unsatisfiable ≡ StateCount = let h : Unsatisfiable ≡ x = cc in h ∙ z in differs Unsatisfiable StateCount (λ m. omega arith) q }
assumption_refused (Ok n) false x e = let z : ◌≡◌ {A = ℕ} 0 1 = cc in absurd (omega arith)
assumption_refused (Err d) none x e =
    record { first = λ later. e; not_count = λ z. (text_refused Condition d).not_count (let h : text_refusal Condition d ≡ x = cc in h ∙ z) }

-- and where it is not refused, the reading is good and some input number satisfies it
pub assumption_served : (κ : Reading) (none : Bool) → after_assumption κ none None ≡ None → ((n : ℕ) × (κ ≡ Ok n)) × (none ≡ false)
assumption_served (Ok n) true e = let z : ◌≡◌ {A = ℕ} 0 1 = cc in absurd (omega arith)
assumption_served (Ok n) false e = ((n, refl), refl)
assumption_served (Err d) none e = let z : ◌≡◌ {A = ℕ} 0 1 = cc in absurd (omega arith)

module _ (i : ℕ) (text : List ℕ) where
  -- so of a condition within its limits the mask tells whether no input number satisfies it
  pub empty_none : (κ : Formula) → IsGood i (condition_kind i) text κ → (eqb (mask_of κ i) 0 ≡ true) ↔ NoneSatisfies i text
  empty_none κ g =
      let w = mask_empty κ i (static 0 g.reads) in (
        λ e. (κ, g, w.0 (eqb-true (mask_of κ i) 0 e)),
        λ n.
            let same : n.0 ≡ κ = one_formula i 0 false text n.1.reads g.reads in
            let z : mask_of κ i ≡ 0 = w.1 (λ x h s. n.2 x h (subst (λ (χ : Formula). Satisfies χ (x ∷ [])) (sym same) s)) in
            rw z,
      )

  -- and every text is told of, also one that is none
  none_of : (ρ : Reading) → ReadingOf i (condition_kind i) text ρ → (b : Bool) × ((b ≡ true) ↔ NoneSatisfies i text)
  unfolding ReadingOf
  none_of (Ok n) r = (eqb (mask_of r.0 i) 0, empty_none r.0 r.1)
  none_of (Err d) r = (
    false,
    (
      λ e. absurd (mathlib.Core.Bool.false≢true e),
      λ n.
          let q : Err d ≡ Ok (size n.0) = one_reading i 0 false text {r = Err d} {s = Ok (size n.0)} r (n.0, n.1, refl) in
          let z : ◌≡◌ {A = ℕ} 0 1 = cc in
          absurd (omega arith),
    ),
  )

  pub some_none : (b : Bool) × ((b ≡ true) ↔ NoneSatisfies i text)
  some_none = let r = some_reading i 0 false text in none_of r.0 r.1

  -- the text is refused
  pub by_text : (x : Refusal) → Unopened Condition i 0 text x → Conditioned i text (Err x)
  unfolding condition_refusal
  by_text x u =
      let b = some_none in
      record {
        reading = u.reading;
        read = u.read;
        none = b.0;
        none_satisfies = b.1;
        refusal = Some x;
        first = sym (u.first (cond b.0 (Some Unsatisfiable) None));
        number = refl;
        place = refl;
        refused = λ y e. let h : x ≡ y = cc in ap Err h;
        served = λ e. let z : ◌≡◌ {A = ℕ} 0 1 = cc in absurd (omega arith);
      }

  -- a good text: its formula, which has no temporal operator, and its mask
  module _ (nodes : List Node) (m : ℕ) (v : Opened Condition i 0 text nodes m) (n : ℕ) (u : n ≡ mask_of v.formula i) where
    pub by_empty : n ≡ 0 → Conditioned i text (Err Unsatisfiable)
    unfolding condition_refusal
    by_empty z =
        let w = (empty_none v.formula v.good).0 (let e : mask_of v.formula i ≡ 0 = sym u ∙ z in rw e) in
        record {
          reading = Ok m;
          read = v.reading;
          none = true;
          none_satisfies = (λ _. w, λ _. refl);
          refusal = Some Unsatisfiable;
          first = rw (v.alphabet, v.fits);
          number = refl;
          place = refl;
          refused = λ y e. let h : Unsatisfiable ≡ y = cc in ap Err h;
          served = λ e. let z : ◌≡◌ {A = ℕ} 0 1 = cc in absurd (omega arith);
        }

    pub by_mask : (n ≡ 0 → ⊥) → Conditioned i text (Ok n)
    unfolding condition_refusal
    by_mask some =
        record {
          reading = Ok m;
          read = v.reading;
          none = false;
          none_satisfies = (
            λ e. absurd (mathlib.Core.Bool.false≢true e),
            λ w. absurd (some (u ∙ eqb-true (mask_of v.formula i) 0 ((empty_none v.formula v.good).1 w))),
          );
          refusal = None;
          first = rw (v.alphabet, v.fits);
          number = refl;
          place = refl;
          refused = λ y e. let z : ◌≡◌ {A = ℕ} 0 1 = cc in absurd (omega arith);
          served = λ _. record { formula = v.formula; good = v.good; answer = ap Ok u; judges = mask_judges v.formula i (static 0 v.good.reads) };
        }
