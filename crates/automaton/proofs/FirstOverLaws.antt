-- Laws of the first number of a list that is `bound` or more (specs/Alphabet.antt).
-- Assumes nothing.
use Prim.Native.Nat.{ℕ, zero, suc, ◌+◌, ◌≤◌, ◌<◌}
use mathlib.Core.Path.{◌≡◌, refl, ap}
use mathlib.Core.Bool.{cond}
use mathlib.Core.List.{List, [], ◌∷◌}
use native.Mathlib.Nat.{le_of_suc-le-suc, not-suc-le-zero}
use native.Mathlib.Omega.{arith}
use lib.Dec.{ltb, leb}
use lib.ListN.{length, get_or}
use borrow.Author.Tests.{ltb-true, ltb-false, le-leb, lt-leb}
use Rattle.reader.proofs.BoolLaws.{on}
use Rattle.std.proofs.lemmas.List.Sums.{prefix_len-le-length}
use Rattle.std.specs.Prelude.{Option}
use Rattle.std.specs.List.{position, position_or_len}
use Rattle.std.specs.Option.{MatchOption}
use Rattle.automaton.specs.Alphabet.{Letters, first_over}

-- it is found from the front
pub over_empty : (bound : ℕ) → first_over bound [] ≡ 0
unfolding first_over
over_empty bound = refl

pub over_next : (bound a : ℕ) (w : List ℕ) → first_over bound (a ∷ w) ≡ cond (leb bound a) 0 (suc (first_over bound w))
unfolding first_over
over_next bound a w =
    on (ltb a bound)
    (λ e. rw (e, lt-leb bound a (ltb-true a bound e)) (omega arith))
    (λ e. rw (e, le-leb bound a (ltb-false a bound e)) refl)

pub over_within : (bound : ℕ) (w : List ℕ) → first_over bound w ≤ length w
unfolding first_over
over_within bound w = prefix_len-le-length (λ b. ltb b bound) w

-- as many numbers below the bound stand at the front as stand before the first that `position` finds
position_first_over : (bound : ℕ) (w : List ℕ) → position_or_len (λ b. leb bound b) w ≡ first_over bound w
unfolding first_over
position_first_over bound [] = refl
position_first_over bound (a ∷ w) =
    on (ltb a bound)
    (λ e. rw (e, lt-leb bound a (ltb-true a bound e)) (ap (λ n. 1 + n) (position_first_over bound w)))
    (λ e. rw (e, le-leb bound a (ltb-false a bound e)) refl)

-- so `position` finds it, or that there is none
pub over_position : (bound : ℕ) (w : List ℕ) (o : Option ℕ) → o ≡ position (λ b. leb bound b) w
    → MatchOption o (first_over bound w ≡ length w) (λ k. (k ≡ first_over bound w) × (k < length w))
over_position bound w o e =
    rw (e, position_first_over bound w)
    (on (ltb (first_over bound w) (length w))
    (λ t. rw t (refl, ltb-true (first_over bound w) (length w) t))
    (λ f. rw f (omega (arith, over_within bound w, ltb-false (first_over bound w) (length w) f))))

-- where none is found, each is below the bound
pub none_over : (bound : ℕ) (w : List ℕ) → length w ≤ first_over bound w → Letters bound w
unfolding first_over Letters
none_over bound [] h = tt
none_over bound (a ∷ w) h =
    on (ltb a bound)
    (λ e. (ltb-true a bound e, none_over bound w (let g : suc (length w) ≤ 1 + first_over bound w = rw e at h in omega arith)))
    (λ e. absurd (let g : suc (length w) ≤ 0 = rw e at h in not-suc-le-zero g))

-- each member of a list of letters is one
pub letter_at : (bound : ℕ) (w : List ℕ) → Letters bound w → (k : ℕ) → k < length w → get_or w k 0 < bound
unfolding Letters
letter_at bound [] l k h = absurd (not-suc-le-zero h)
letter_at bound (a ∷ w) l zero h = l.0
letter_at bound (a ∷ w) l (suc k) h = letter_at bound w l.1 k (le_of_suc-le-suc h)
