-- Writing bytes into an output, from a position on.
-- Assumes nothing.
use Rattle.std.specs.Prelude.{ℕ, suc, ◌≡◌, cond, List, [], ◌∷◌, ltb, length, set}
use Rattle.listing.specs.declared.write.Output.{Output}

-- the position after one byte more, in an output of that size: where it is full, the position stays
abbrev pub next : ℕ → ℕ → ℕ
next size at = cond (ltb at size) (suc at) at

-- the output after the bytes are written from a position on
unfoldable pub written : List ℕ → ℕ → List ℕ → List ℕ
written out at [] = out
written out at (b ∷ bytes) = written (set out at b) (next (length out) at) bytes

-- the position after them
unfoldable pub position : ℕ → ℕ → List ℕ → ℕ
position size at [] = at
position size at (b ∷ bytes) = position size (next size at) bytes

-- out' and r are the output and the position after the bytes
pub record Writes (out : List ℕ) (at : ℕ) (bytes out' : List ℕ) (r : ℕ) : Type 0 where
  pub output : out' ≡ written out at bytes
  pub end : r ≡ position (length out) at bytes

-- the bytes were written on an output, which lends what it lent before
pub record Puts (old : Output) (bytes : List ℕ) (new : Output) : Type 0 where
  pub same_reference : new.bytes.ghost_name ≡ old.bytes.ghost_name
  pub writes : Writes old.bytes.now old.end bytes new.bytes.now new.end
