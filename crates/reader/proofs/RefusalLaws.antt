-- Laws of refusals (specs/Refusal.antt): which of them differ, that each has a number, and what a text without a formula is refused by.
-- Assumes nothing.
use Prim.Native.Nat.{◌<◌, ◌≤◌}
use mathlib.Core.Path.{◌≡◌, refl, ap}
use mathlib.Core.Logic.{◌⊎◌}
use native.Mathlib.Omega.{arith}
use Rattle.std.specs.Prelude.{ℕ, Option, Some, None, Ok, Err}
use Rattle.reader.specs.declared.reading.Unreadable.{Unreadable}
use Rattle.reader.specs.declared.reading.Unreadable.TheVariants.{TooLong, Bad, TooManyNodes, TooManyOperators}
use Rattle.reader.specs.declared.refusal.Subject.{Subject}
use Rattle.reader.specs.declared.refusal.Subject.TheVariants.{Rule, Condition}
use Rattle.reader.specs.declared.refusal.Refusal.{Refusal}
use Rattle.reader.specs.declared.refusal.Refusal.TheVariants.{Alphabet, TextLength, Buffer, RuleText, RuleNodes, RuleOperators}
use Rattle.reader.specs.declared.refusal.Refusal.TheVariants.{ConditionText, ConditionNodes, StateCount, GivenCount, Move, State, Value, Unsatisfiable}
use Rattle.reader.specs.Reading.{Reading}
use Rattle.reader.specs.Refusal.{number_of, first_number, text_refusal, after_text}

-- refusals with different numbers are different
pub differs : (x y : Refusal) → (number_of x ≡ number_of y → ⊥) → x ≡ y → ⊥
differs x y h e = h (ap number_of e)

-- every refusal has a number, of at most 15
pub number_range : (x : Refusal) → (0 < number_of x) × (number_of x ≤ 15)
number_range Alphabet = (omega arith, omega arith)
number_range TextLength = (omega arith, omega arith)
number_range (Buffer n) = (omega arith, omega arith)
number_range (RuleText k) = (omega arith, omega arith)
number_range RuleNodes = (omega arith, omega arith)
number_range RuleOperators = (omega arith, omega arith)
number_range (ConditionText k) = (omega arith, omega arith)
number_range ConditionNodes = (omega arith, omega arith)
number_range StateCount = (omega arith, omega arith)
number_range GivenCount = (omega arith, omega arith)
number_range (Move k) = (omega arith, omega arith)
number_range State = (omega arith, omega arith)
number_range (Value k) = (omega arith, omega arith)
number_range Unsatisfiable = (omega arith, omega arith)

pub numbered : (x : Refusal) → 0 < number_of x
numbered x = (number_range x).0

-- a call is refused or served
pub refused_or_served : (x : Option Refusal) → (x ≡ None) ⊎ ((y : Refusal) × (x ≡ Some y))
refused_or_served None = ◌⊎◌.inl refl
refused_or_served (Some y) = ◌⊎◌.inr (y, refl)

-- only no refusal has the number 0
pub no_number : (x : Option Refusal) → first_number x ≡ 0 → x ≡ None
no_number None e = refl
no_number (Some x) e = absurd (omega (arith, numbered x))

-- a text without a formula is not refused by 9
not_count : (s : Subject) (e : Unreadable) → number_of (text_refusal s e) ≡ 9 → ⊥
not_count s TooLong q = omega arith
not_count Rule (Bad k) q = omega arith
not_count Condition (Bad k) q = omega arith
not_count Rule TooManyNodes q = omega arith
not_count Condition TooManyNodes q = omega arith
not_count Rule TooManyOperators q = omega arith
not_count Condition TooManyOperators q = omega arith

-- a reading that is an error is not good
pub not_good : (e : Unreadable) (n : ℕ) → ◌≡◌ {A = Reading} (Err e) (Ok n) → ⊥
not_good e n q = let z : ◌≡◌ {A = ℕ} 0 1 = cc in omega arith

-- the reading is refused by x, whatever comes later, and that is not 9
pub record Refuses (after : Reading → Option Refusal → Option Refusal) (ρ : Reading) (x : Refusal) : Type 0 where
  pub first : (later : Option Refusal) → after ρ later ≡ Some x
  pub not_count : x ≡ StateCount → ⊥

pub text_refused : (s : Subject) (e : Unreadable) → Refuses (after_text s) (Err e) (text_refusal s e)
text_refused s e = record { first = λ later. refl; not_count = λ q. not_count s e (ap number_of q) }
