-- No listing is longer than `output_size`: a state's line has at most 56 bytes, since its number has at most three digits, and each of the at most 16 bytes of
-- its row at most two. The round number is at most n, so that it has at most three digits too.
-- Assumes nothing.
use Prim.Native.Nat.{ℕ, zero, suc, ◌+◌, ◌*◌, ◌/◌, ◌%◌, ◌≤◌, ◌<◌}
use mathlib.Core.Path.{◌≡◌, subst}
use mathlib.Core.List.{List, [], ◌∷◌, ◌++◌}
use native.Mathlib.Omega.{arith}
use lib.Dec.{ltb}
use lib.ListN.{length, get_or, length-append}
use Rattle.reader.specs.Limits.{text_limit}
use Rattle.automaton.specs.Limits.{state_limit, number_limit}
use Rattle.game.specs.Tables.{no_move}
use Rattle.reader.proofs.BoolLaws.{on}
use Rattle.listing.specs.Decimal.{digit, digits, decimal}
use Rattle.listing.specs.Input.{newline, blank}
use Rattle.listing.specs.Listing.{fields, goal_mark, winner_fields, state_line, state_lines, refusal_line, refused_word, verdict_lines}
use Rattle.listing.specs.Promise.{output_size}
use Rattle.std.proofs.lemmas.Fmt.{length-decimal-le}
use Rattle.listing.proofs.DecimalLaws.{decimal_same}
use Rattle.listing.proofs.RenderingLaws.{winner_system, winner_environment}

digits_length : (k n : ℕ) → length (digits k n) ≤ suc k
unfolding digits
digits_length zero n = omega arith
digits_length (suc k) n =
    on (ltb n 10)
    (λ e. rw e (omega arith))
    (λ e. rw e (omega (arith, length-append (digits k (n / 10)) (digit (n % 10) ∷ []), digits_length k (n / 10))))

-- a number has at most one digit more than it counts; below 100 it has at most two, below 1000 three
pub decimal_any : (n : ℕ) → length (decimal n) ≤ suc n
unfolding decimal
decimal_any n = digits_length n n

pub decimal_two : (n : ℕ) → n < 100 → length (decimal n) ≤ 2
decimal_two n h = rw (decimal_same n (omega arith)) (length-decimal-le 2 n (omega arith) (omega arith) (omega arith))

pub decimal_three : (n : ℕ) → n < 1000 → length (decimal n) ≤ 3
decimal_three n h = rw (decimal_same n (omega arith)) (length-decimal-le 3 n (omega arith) (omega arith) (omega arith))

-- a row of small bytes
pub fields_length :
    (table : List ℕ) (from count : ℕ) → ((k : ℕ) → k < count → get_or table (from + k) 0 < 100) → length (fields table from count) ≤ 3 * count
unfolding fields
fields_length table from zero h = omega arith
fields_length table from (suc count) h =
    let n : from + 0 ≡ from = omega arith in
    let g : get_or table from 0 < 100 = subst (λ (k : ℕ). get_or table k 0 < 100) n (h 0 (omega arith)) in
    let ih =
    fields_length table (suc from) count
    (λ k l. let m : from + suc k ≡ suc from + k = omega arith in subst (λ (j : ℕ). get_or table j 0 < 100) m (h (suc k) (omega arith))) in
    omega (arith, length-append (blank ∷ decimal (get_or table from 0)) (fields table (suc from) count), decimal_two (get_or table from 0) g)

-- a state's winner and row, where the bytes are small
module _ (inputs : ℕ) (few : inputs ≤ number_limit) (system environment : List ℕ) (s : ℕ) where
  pub system_length : get_or environment s 0 ≡ no_move → ((x : ℕ) → x < inputs → get_or system (s * inputs + x) 0 < 100)
      → length (winner_fields inputs system environment s) ≤ 49
  system_length e h = rw (winner_system inputs system environment s e) (omega (arith, fields_length system (s * inputs) inputs h))

  pub environment_length : get_or environment s 0 < 100 → length (winner_fields inputs system environment s) ≤ 49
  environment_length h =
      rw (winner_environment inputs system environment s (λ e. omega arith))
      (omega (arith, fields_length environment s 1 (λ k l. let m : s ≡ s + k = omega arith in subst (λ (j : ℕ). get_or environment j 0 < 100) m h)))

-- a state's line, and the lines
module _ (inputs : ℕ) (accepting system environment : List ℕ) where
  pub line_length_lem : (s : ℕ) → s < state_limit → length (winner_fields inputs system environment s) ≤ 49
      → length (state_line inputs accepting system environment s) ≤ 56
  unfolding state_line
  line_length_lem s h w =
      let m : List ℕ = blank ∷ goal_mark accepting s ∷ blank ∷ [] in
      let f : List ℕ = winner_fields inputs system environment s in
      omega (
        arith,
        length-append (decimal s) (m ++ (f ++ (newline ∷ []))),
        length-append m (f ++ (newline ∷ [])),
        length-append f (newline ∷ []),
        decimal_three s (omega arith),
      )

  pub lines_length : (n : ℕ) → ((s : ℕ) → s < n → length (state_line inputs accepting system environment s) ≤ 56) → (s count : ℕ) → s + count ≤ n
      → length (state_lines inputs accepting system environment s count) ≤ 56 * count
  unfolding state_lines
  lines_length n h s zero l = omega arith
  lines_length n h s (suc count) l =
      let ih = lines_length n h (suc s) count (omega arith) in
      omega (
        arith,
        length-append (state_line inputs accepting system environment s) (state_lines inputs accepting system environment (suc s) count),
        h s (omega arith),
      )

  pub verdict_length :
      (word : List ℕ) (n r : ℕ) → length word ≤ 7 → n ≤ state_limit → r ≤ n
      → ((s : ℕ) → s < n → length (state_line inputs accepting system environment s) ≤ 56)
      → length (verdict_lines inputs accepting system environment word n r) ≤ output_size
  unfolding verdict_lines
  verdict_length word n r w b c h =
      let l : List ℕ = state_lines inputs accepting system environment 0 n in
      omega (
        arith,
        length-append word (decimal n ++ ((blank ∷ decimal r) ++ ((newline ∷ []) ++ l))),
        length-append (decimal n) ((blank ∷ decimal r) ++ ((newline ∷ []) ++ l)),
        length-append (blank ∷ decimal r) ((newline ∷ []) ++ l),
        length-append (newline ∷ []) l,
        decimal_three n (omega arith),
        decimal_three r (omega arith),
        lines_length n h 0 n (omega arith),
      )

pub refusal_length : (number place : ℕ) → number ≤ 15 → place ≤ text_limit → length (refusal_line number place) ≤ output_size
unfolding refusal_line
refusal_length number place h g =
    omega (
      arith,
      length-append refused_word (decimal number ++ ((blank ∷ decimal place) ++ (newline ∷ []))),
      length-append (decimal number) ((blank ∷ decimal place) ++ (newline ∷ [])),
      length-append (blank ∷ decimal place) (newline ∷ []),
      decimal_any number,
      decimal_any place,
    )
