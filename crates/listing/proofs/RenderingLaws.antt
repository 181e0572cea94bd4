-- Laws of the listing's lines (specs/Listing.antt): one field, one state more; the pieces of a line.
-- Assumes nothing.
use Prim.Native.Nat.{ℕ, zero, suc, ◌+◌, ◌-◌, ◌*◌, ◌≤◌}
use mathlib.Core.Path.{◌≡◌, refl, ap, ◌∙◌}
use mathlib.Core.List.{List, [], ◌∷◌, ◌++◌, append_assoc, append-nil}
use native.Mathlib.Numerals.{add-one}
use native.Mathlib.Omega.{arith}
use lib.ListN.{get_or}
use borrow.Author.Tests.{eq-eqb, ne_eqb}
use Rattle.game.specs.Tables.{no_move}
use Rattle.listing.specs.declared.write.Output.{Output}
use Rattle.listing.specs.Decimal.{decimal}
use Rattle.listing.specs.Input.{blank}
use Rattle.listing.specs.Listing.{fields, winner_fields, state_line, state_lines}
use Rattle.listing.specs.inner.Writing.{Puts}
use Rattle.listing.proofs.WritingLaws.{joined}

-- the last of so many fields
fields_more : (table : List ℕ) (from count : ℕ)
    → fields table from (suc count) ≡ fields table from count ++ (blank ∷ decimal (get_or table (from + count) 0))
unfolding fields
fields_more table from zero = let n : from + 0 ≡ from = omega arith in rw n (append-nil _)
fields_more table from (suc count) =
    let n : suc from + count ≡ from + suc count = omega arith in
    ap (λ (l : List ℕ). (blank ∷ decimal (get_or table from 0)) ++ l) (fields_more table (suc from) count)
    ∙ (rw (n, append_assoc) refl)

-- a field more is written
pub fields_put : {a b c : Output} (table : List ℕ) (from k byte : ℕ) → from ≤ k → byte ≡ get_or table k 0 → Puts a (fields table from (k - from)) b
    → Puts b (blank ∷ decimal byte) c
    → Puts a (fields table from (k + 1 - from)) c
fields_put table from k byte h e v w =
    let n : k + 1 - from ≡ suc (k - from) = omega arith in
    let m : from + (k - from) ≡ k = omega arith in
    rw (n, fields_more table from (k - from), m, ← e) (joined v w)

-- the line of the last of so many states
module _ (inputs : ℕ) (accepting system environment : List ℕ) where
  lines_more : (s count : ℕ)
      → state_lines inputs accepting system environment s (suc count)
      ≡ state_lines inputs accepting system environment s count ++ state_line inputs accepting system environment (s + count)
  unfolding state_lines
  lines_more s zero = let n : s + 0 ≡ s = omega arith in rw n (append-nil _)
  lines_more s (suc count) =
      let n : suc s + count ≡ s + suc count = omega arith in
      ap (λ (l : List ℕ). state_line inputs accepting system environment s ++ l) (lines_more (suc s) count) ∙ (rw (n, append_assoc) refl)

  -- a state's line more is written
  pub lines_put : {a b c : Output} (s : ℕ) → Puts a (state_lines inputs accepting system environment 0 s) b
      → Puts b (state_line inputs accepting system environment s) c
      → Puts a (state_lines inputs accepting system environment 0 (s + 1)) c
  lines_put s v w = let n : 0 + s ≡ s = omega arith in rw (add-one s, lines_more 0 s, n) (joined v w)

-- the winner, by what was read
module _ (inputs : ℕ) (system environment : List ℕ) (s : ℕ) where
  pub winner_system : get_or environment s 0 ≡ no_move → winner_fields inputs system environment s ≡ (83 ∷ []) ++ fields system (s * inputs) inputs
  unfolding winner_fields
  winner_system e = rw (eq-eqb (get_or environment s 0) no_move e) refl

  pub winner_environment : (get_or environment s 0 ≡ no_move → ⊥) → winner_fields inputs system environment s ≡ (79 ∷ []) ++ fields environment s 1
  unfolding winner_fields
  winner_environment e = rw (ne_eqb (get_or environment s 0) no_move e) refl
