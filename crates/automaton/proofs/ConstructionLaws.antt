-- The promise of the construction call (specs/Construction.antt), by the test that decided.
-- Assumes nothing.
use Prim.Native.Nat.{ℕ, ◌*◌, ◌≤◌}
use mathlib.Core.Path.{◌≡◌, refl, sym, ap, ◌∙◌}
use mathlib.Core.Bool.{true, false}
use mathlib.Core.List.{List}
use native.Mathlib.Omega.{arith}
use lib.Dec.{ltb}
use lib.ListN.{length}
use borrow.Author.Tests.{ltb-false}
use Rattle.std.specs.Prelude.{Option, Some, None, Result, Ok, Err}
use Rattle.reader.specs.declared.refusal.Subject.TheVariants.{Rule}
use Rattle.reader.specs.declared.refusal.Refusal.{Refusal}
use Rattle.reader.specs.declared.refusal.Refusal.TheVariants.{StateCount}
use Rattle.reader.specs.Formula.{Formula}
use Rattle.reader.specs.Marks.{rule_kind}
use Rattle.reader.specs.Reading.{IsGood}
use Rattle.reader.specs.Refusal.{first_number, first_place, answer_number, answer_place}
use Rattle.reader.proofs.BoolLaws.{or_left, or_right}
use Rattle.reader.proofs.Unambiguous.{one_formula}
use Rattle.automaton.specs.Alphabet.{letter_count}
use Rattle.automaton.specs.Discovery.{number_of_states}
use Rattle.automaton.specs.Construction.{CountOf, short_automaton, count_refusal, construct_refusal, Constructed}
use Rattle.automaton.specs.Construction.{construction_of}
use Rattle.automaton.specs.inner.Exploration.{BuiltAutomaton}
use Rattle.reader.specs.declared.nodes.Node.{Node}
use Rattle.automaton.specs.inner.Opening.{Unopened, Opened}
use Rattle.automaton.proofs.ReadLaws.{count_of}

-- the text of a formula counts its states
pub counts : (i o : ℕ) (text : List ℕ) (φ : Formula) → IsGood i (rule_kind i o) text φ → (n : ℕ) → n ≡ number_of_states φ (letter_count i o) → CountOf i o text n
counts i o text φ g n e ψ h = e ∙ ap (λ (χ : Formula). number_of_states χ (letter_count i o)) (one_formula i o true text g.reads h.reads)

-- buffers that are not too short
pub long_enough : (L n : ℕ) (t a : List ℕ) → short_automaton L n t a ≡ false → (n * L ≤ length t) × (n ≤ length a)
long_enough L n t a e =
    let x = ltb (length t) (n * L) in
    let y = ltb (length a) n in
    (ltb-false (length t) (n * L) (or_left x y e), ltb-false (length a) n (or_right x y e))

-- the number and the place of an answer are those of its refusal
answer_number_lem : (x : Option Refusal) (n : ℕ) → answer_number (construction_of x n) ≡ first_number x
answer_number_lem None n = refl
answer_number_lem (Some x) n = refl

answer_place_lem : (x : Option Refusal) (n : ℕ) → answer_place (construction_of x n) ≡ first_place x
answer_place_lem None n = refl
answer_place_lem (Some x) n = refl

module _ (i o : ℕ) (text : List ℕ) (room : ℕ) (t a : List ℕ) where
  -- the text is refused, with the buffers as they were
  pub by_text : (x : Refusal) → Unopened Rule i o text x → Constructed i o text room t a t a (Err x)
  unfolding construct_refusal
  by_text x u =
      let n = count_of i o text u.reading u.read in
      record {
        reading = u.reading;
        read = u.read;
        states = n.0;
        counted = n.1;
        refusal = Some x;
        first = sym (u.first (count_refusal (letter_count i o) room t a n.0));
        number = refl;
        place = refl;
        answer = refl;
        served = λ e. let z : ◌≡◌ {A = ℕ} 0 1 = cc in absurd (omega arith);
        over = λ e. let h : x ≡ StateCount = cc in absurd (u.not_count h);
        untouched = λ _. (refl, refl);
      }

  -- a good text
  pub by_states : (nodes : List Node) (m : ℕ) (v : Opened Rule i o text nodes m) (t' a' : List ℕ) (r : Result ℕ Refusal)
      → BuiltAutomaton v.formula (letter_count i o) room t a t' a' r → Constructed i o text room t a t' a' r
  unfolding construct_refusal
  by_states nodes m v t' a' r b =
      let n = number_of_states v.formula (letter_count i o) in
      let x = count_refusal (letter_count i o) room t a n in
      record {
        reading = Ok m;
        read = v.reading;
        states = n;
        counted = counts i o text v.formula v.good n refl;
        refusal = x;
        first = rw (v.alphabet, v.fits);
        number = ap (λ (z : Result ℕ Refusal). answer_number z) b.answer ∙ answer_number_lem x n;
        place = ap (λ (z : Result ℕ Refusal). answer_place z) b.answer ∙ answer_place_lem x n;
        answer = b.answer;
        served = λ z.
            let w = b.written z in
            record { formula = v.formula; good = v.good; automaton = w.automaton; transitions_kept = w.transitions_kept; accepting_kept = w.accepting_kept };
        over = λ z. record { formula = v.formula; good = v.good; many = b.many z };
        untouched = b.untouched;
      }
