-- The promise of the trial call (specs/Trial.antt), by the test that decided.
-- Assumes nothing.
use Prim.Native.Nat.{ℕ, ◌<◌}
use mathlib.Core.Path.{◌≡◌, refl, sym, ap, ◌∙◌, subst}
use mathlib.Core.Bool.{Bool, true}
use mathlib.Core.List.{List}
use mathlib.Core.Logic.{◌↔◌}
use lib.ListN.{length}
use borrow.Author.Tests.{lt-ltb, le-ltb}
use native.Mathlib.Omega.{arith}
use Rattle.std.specs.Prelude.{Some, None, Ok, Err}
use Rattle.reader.specs.declared.refusal.Subject.TheVariants.{Rule}
use Rattle.reader.specs.declared.refusal.Refusal.{Refusal}
use Rattle.reader.specs.declared.refusal.Refusal.TheVariants.{Value}
use Rattle.automaton.specs.Alphabet.{letter_count, first_over, after_list}
use Rattle.automaton.specs.Trace.{Satisfies}
use Rattle.automaton.specs.Trial.{trial_refusal, Tried}
use Rattle.reader.specs.declared.nodes.Node.{Node}
use Rattle.automaton.specs.inner.Opening.{Unopened, Opened}

module _ (i o : ℕ) (text letters : List ℕ) where
  -- the text is refused
  pub by_text : (x : Refusal) → Unopened Rule i o text x → Tried i o text letters (Err x)
  unfolding trial_refusal
  by_text x u =
      record {
        reading = u.reading;
        read = u.read;
        refusal = Some x;
        first = sym (u.first (after_list (letter_count i o) letters Value None));
        number = refl;
        place = refl;
        refused = λ y e. let h : x ≡ y = cc in ap Err h;
        served = λ e. let z : ◌≡◌ {A = ℕ} 0 1 = cc in absurd (omega arith);
      }

  module _ (nodes : List Node) (m : ℕ) (v : Opened Rule i o text nodes m) (bound : ℕ) (fit : bound ≡ letter_count i o) where
    -- a letter is too large
    pub by_letter : (k : ℕ) → (k ≡ first_over bound letters) × (k < length letters) → Tried i o text letters (Err (Value k))
    unfolding trial_refusal
    by_letter k h =
        let e : k ≡ first_over (letter_count i o) letters = h.0 ∙ ap (λ (b : ℕ). first_over b letters) fit in
        record {
          reading = Ok m;
          read = v.reading;
          refusal = Some (Value k);
          first = rw (v.alphabet, v.fits, lt-ltb (first_over (letter_count i o) letters) (length letters) (subst (λ (j : ℕ). j < length letters) e h.1))
              (ap (λ (j : ℕ). Some (Value j)) e);
          number = refl;
          place = refl;
          refused = λ y q. let h : Value k ≡ y = cc in ap Err h;
          served = λ q. let z : ◌≡◌ {A = ℕ} 0 1 = cc in absurd (omega arith);
        }

    -- the list is judged
    pub by_list : first_over bound letters ≡ length letters → (b : Bool) → (b ≡ true) ↔ Satisfies v.formula letters → Tried i o text letters (Ok b)
    unfolding trial_refusal
    by_list h b w =
        let none : first_over (letter_count i o) letters ≡ length letters = ap (λ (b : ℕ). first_over b letters) (sym fit) ∙ h in
        record {
          reading = Ok m;
          read = v.reading;
          refusal = None;
          first = rw (v.alphabet, v.fits, le-ltb (first_over (letter_count i o) letters) (length letters) (omega (arith, none)));
          number = refl;
          place = refl;
          refused = λ y q. let z : ◌≡◌ {A = ℕ} 0 1 = cc in absurd (omega arith);
          served = λ _. record { formula = v.formula; good = v.good; satisfied = b; answer = refl; right = w };
        }
