-- Laws of writing (specs/inner/Writing.antt): the output's size stays, and writing two texts one after the other is writing both.
-- Assumes nothing.
use Prim.Native.Nat.{ℕ, ◌+◌, ◌≤◌, ◌<◌}
use mathlib.Core.Path.{◌≡◌, refl, sym, ap, ◌∙◌}
use mathlib.Core.List.{List, [], ◌∷◌, ◌++◌}
use native.Mathlib.Numerals.{add-one}
use lib.ListN.{length, set, length-set}
use lib.Seq.{set_out}
use borrow.Author.Tests.{lt-ltb, le-ltb}
use Rattle.listing.specs.declared.write.Output.{Output}
use Rattle.listing.specs.inner.Writing.{next, written, position, Writes, Puts}

pub length_written : (bytes out : List ℕ) (at : ℕ) → length (written out at bytes) ≡ length out
unfolding written
length_written [] out at = refl
length_written (b ∷ bytes) out at = length_written bytes (set out at b) (next (length out) at) ∙ length-set out at b

-- two texts one after the other
pub written_append : (a b out : List ℕ) (at : ℕ) → written out at (a ++ b) ≡ written (written out at a) (position (length out) at a) b
unfolding written position
written_append [] b out at = refl
written_append (x ∷ a) b out at =
    written_append a b (set out at x) (next (length out) at)
    ∙ ap (λ (l : ℕ). written (written (set out at x) (next (length out) at) a) (position l (next (length out) at) a) b) (length-set out at x)

pub position_append : (a b : List ℕ) (size at : ℕ) → position size at (a ++ b) ≡ position size (position size at a) b
unfolding position
position_append [] b size at = refl
position_append (x ∷ a) b size at = position_append a b size (next size at)

both_written : {out a out₁ b out₂ : List ℕ} {at p r : ℕ} → Writes out at a out₁ p → Writes out₁ p b out₂ r → Writes out at (a ++ b) out₂ r
both_written {out} {a} {out₁} {b} {out₂} {at} {p} {r} v w =
    let l : length out₁ ≡ length out = ap length v.output ∙ length_written a out at in
    record {
      output = w.output ∙ (rw (v.output, v.end) (sym (written_append a b out at)));
      end = w.end ∙ (rw (v.end, l) (sym (position_append a b (length out) at)));
    }

-- two writes in a row are one write of both texts
pub joined : {a b c : Output} {s t : List ℕ} → Puts a s b → Puts b t c → Puts a (s ++ t) c
joined v w = record { same_reference = w.same_reference ∙ v.same_reference; writes = both_written v.writes w.writes }

-- to write nothing leaves the output as it is
pub nothing_put : (a : Output) → Puts a [] a
unfolding written position
nothing_put a = record { same_reference = refl; writes = record { output = refl; end = refl } }

-- one byte, where there is room and where there is none
pub writes_one : (out : List ℕ) (at b : ℕ) → at < length out → Writes out at (b ∷ []) (set out at b) (at + 1)
unfolding written position
writes_one out at b h = record { output = refl; end = rw (lt-ltb at (length out) h, add-one at) refl }

pub writes_none : (out : List ℕ) (at b : ℕ) → length out ≤ at → Writes out at (b ∷ []) out at
unfolding written position
writes_none out at b h = record { output = sym (set_out out at b h); end = rw (le-ltb at (length out) h) refl }
