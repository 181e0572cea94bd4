-- The program's call (specs/Promise.antt): its output has room for the whole text, and what it answers for the first 2,049 bytes of an input is the
-- answer for the input, however long it is.
-- Assumes nothing.
use Prim.Native.Nat.{ℕ, ◌≤◌, ◌<◌, min}
use mathlib.Core.Path.{◌≡◌, refl, sym, ap, subst, ◌∙◌}
use mathlib.Core.Logic.{◌⊎◌, ⊎_elim}
use mathlib.Core.List.{List}
use native.Mathlib.Nat.{min-eq_left, min-eq_right}
use native.Mathlib.Omega.{arith}
use lib.Dec.{leb}
use lib.ListN.{length, take, drop}
use lib.Seq.{length-take-le, take_all, drop-append_seam}
use borrow.Author.Tests.{leb-true, leb-false}
use Rattle.reader.proofs.BoolLaws.{on}
use Rattle.listing.specs.Promise.{input_size, output_size, Prints, Listed, Responded}
use Rattle.listing.proofs.BoundLaws.{prints_length, listed_whole}

-- to take more than there is takes all
take_least : (n : ℕ) (l : List ℕ) → take (min n (length l)) l ≡ take n l
take_least n l =
    on (leb n (length l))
    (λ t. rw (min-eq_left (leb-true n (length l) t)) refl)
    (λ f.
    let h : length l ≤ n = (let g = leb-false n (length l) f in omega arith) in
    rw (min-eq_right h) (take_all (length l) l (omega arith) ∙ sym (take_all n l h)))

-- what the listing call writes into an output of that size is the whole text
pub responded : (bytes : List ℕ) (got size : ℕ) (output output' : List ℕ) (r : ℕ) → length bytes ≡ input_size → length output ≡ output_size
    → size ≡ min got input_size
    → Listed (take size bytes) output output' r → Responded bytes got output output' r
responded bytes got size output output' r a b e l =
    let w = listed_whole l (omega arith) in
    let h : length l.text ≤ length output = (let g = prints_length l.prints in omega arith) in
    record {
      input_size_lem = a;
      output_size_lem = b;
      text = l.text;
      prints = subst (λ (i : List ℕ). Prints i l.text) (ap (λ (n : ℕ). take n bytes) (e ∙ ap (λ (n : ℕ). min got n) (sym a)) ∙ take_least got bytes) l.prints;
      count = w.0;
      whole = w.1;
      rest = rw (w.0, l.written, take_all (length output) l.text h) (drop-append_seam l.text (drop (length l.text) output));
    }

-- an input that has more bytes than are read of it is no request, and neither are those that are read
pub read_prints : (input text : List ℕ) → Prints (take input_size input) text → Prints input text
read_prints input text p =
    on (leb (length input) input_size)
    (λ t. subst (λ (i : List ℕ). Prints i text) (take_all input_size input (leb-true (length input) input_size t)) p)
    (λ f.
    let h : input_size < length input = leb-false (length input) input_size f in
    let n = length-take-le input_size input (omega arith) in
    ⊎_elim
    (λ q. absurd (let s = q.asks.short in omega arith))
    (λ q. ◌⊎◌.inr (record { none = λ i o mode condition rule a. let s = a.short in omega arith; refused = q.refused }))
    p)
