-- Numbers in base ten (specs/Decimal.antt) are the library's.
-- Assumes nothing.
use Prim.Native.Nat.{ℕ, zero, suc, ◌+◌, ◌/◌, ◌%◌, ◌^◌, ◌≤◌, ◌<◌}
use mathlib.Core.Path.{◌≡◌, refl, sym, ◌∙◌}
use mathlib.Core.List.{[], ◌∷◌, ◌++◌}
use native.Mathlib.Omega.{arith}
use lib.Dec.{ltb}
use borrow.Author.Tests.{lt-ltb, le-ltb, ltb-false}
use Rattle.std.specs.Fmt.{decimal as text_of}
use Rattle.std.proofs.lemmas.Fmt.{decimal_from_appends, length-decimal-le_succ}
use Rattle.reader.proofs.BoolLaws.{on}
use Rattle.listing.specs.Decimal.{digit, digits, decimal}

digits_small : (k n : ℕ) → n < 10 → digits k n ≡ digit n ∷ []
unfolding digits
digits_small zero n h = refl
digits_small (suc k) n h = rw (lt-ltb n 10 h) refl

digits_large : (k n : ℕ) → 10 ≤ n → digits (suc k) n ≡ digits k (n / 10) ++ ((48 + n % 10) ∷ [])
unfolding digits
digits_large k n h = rw (le-ltb n 10 h) refl

-- one more than the number is enough of a limit too
one_more : (j n : ℕ) → n ≤ j → digits j n ≡ digits (suc j) n
unfolding digits
one_more zero n h = sym (digits_small 1 n (omega arith))
one_more (suc j) n h =
    on (ltb n 10)
    (λ e. rw e refl)
    (λ e. let l : 10 ≤ n = ltb-false n 10 e in rw (e, one_more j (n / 10) (omega arith)) refl)

pub decimal_same : (n : ℕ) → n < 2 ^ 64 → decimal n ≡ text_of n
unfolding decimal
decimal_same n h =
    one_more n n (omega arith)
    ∙ decimal_from_appends digits (record { one = λ k m g. digits_small (suc k) m g; more = digits_large }) (suc n) n h
    (let l = length-decimal-le_succ n h in omega arith)
