-- What writing from a position on comes to (specs/inner/Writing.antt): the bytes as far as they fit, between what stood before and what stands after.
-- Assumes nothing.
use Prim.Native.Nat.{ℕ, suc, ◌+◌, ◌-◌, ◌≤◌, ◌<◌, min}
use mathlib.Core.Path.{◌≡◌, refl, sym, subst, ◌∙◌}
use mathlib.Core.List.{List, [], ◌∷◌, ◌++◌, append_assoc}
use native.Mathlib.Nat.{min-eq_left, min-eq_right}
use native.Mathlib.Omega.{arith}
use lib.Dec.{ltb}
use lib.ListN.{length, take, drop, set, length-set, drop_of_length-le, take-append-drop}
use lib.Seq.{set_out, take-suc-set, drop-set-lt, take-nil}
use borrow.Author.Tests.{ltb-true, ltb-false}
use Rattle.reader.proofs.BoolLaws.{on}
use Rattle.listing.specs.inner.Writing.{written, position}

-- the output with the bytes from a position on, as far as they fit
abbrev pub filled : List ℕ → ℕ → List ℕ → List ℕ
filled out at bytes = take at out ++ (take (length out - at) bytes ++ drop (at + length bytes) out)

filled_one : (out : List ℕ) (at b : ℕ) (bytes : List ℕ) → at < length out → filled (set out at b) (suc at) bytes ≡ filled out at (b ∷ bytes)
filled_one out at b bytes h =
    let n : length out - at ≡ suc (length out - suc at) = omega arith in
    let m : at + suc (length bytes) ≡ suc at + length bytes = omega arith in
    rw (take-suc-set out at b h, length-set out at b, drop-set-lt (suc at + length bytes) out at b (omega arith), n, m)
    (append_assoc (take at out) (b ∷ []) (take (length out - suc at) bytes ++ drop (suc at + length bytes) out))

filled_none : (out : List ℕ) (at b : ℕ) (bytes : List ℕ) → length out ≤ at → filled out at bytes ≡ filled out at (b ∷ bytes)
filled_none out at b bytes h =
    let n : length out - at ≡ 0 = omega arith in
    rw (n, drop_of_length-le out {i = at + length bytes} (omega arith), drop_of_length-le out {i = at + suc (length bytes)} (omega arith)) refl

pub written_filled : (bytes out : List ℕ) (at : ℕ) → at ≤ length out → written out at bytes ≡ filled out at bytes
unfolding written
written_filled [] out at h = let n : at + 0 ≡ at = omega arith in rw (take-nil (length out - at), n) (sym (take-append-drop at out))
written_filled (b ∷ bytes) out at h =
    on (ltb at (length out))
    (λ e.
    let g : at < length out = ltb-true at (length out) e in
    rw e (written_filled bytes (set out at b) (suc at) (subst (λ (l : ℕ). suc at ≤ l) (sym (length-set out at b)) g) ∙ filled_one out at b bytes g))
    (λ e.
    let g : length out ≤ at = ltb-false at (length out) e in rw (e, set_out out at b g) (written_filled bytes out at h ∙ filled_none out at b bytes g))

pub position_least : (bytes : List ℕ) (size at : ℕ) → at ≤ size → position size at bytes ≡ min (at + length bytes) size
unfolding position
position_least [] size at h = let n : at + 0 ≡ at = omega arith in rw n (sym (min-eq_left h))
position_least (b ∷ bytes) size at h =
    on (ltb at size)
    (λ e.
    let g : at < size = ltb-true at size e in
    let n : at + suc (length bytes) ≡ suc at + length bytes = omega arith in rw (e, n) (position_least bytes size (suc at) g))
    (λ e.
    let g : size ≤ at = ltb-false at size e in
    rw e
    (position_least bytes size at h
    ∙ min-eq_right {m = at + length bytes} (omega arith)
    ∙ sym (min-eq_right {m = at + suc (length bytes)} (omega arith))))
