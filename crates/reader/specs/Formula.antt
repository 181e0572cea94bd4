-- The formulas of LTLf, which the specification calls rules ("Texts"); a condition is a formula too. This is the one formula type of the project.
-- A name is the bit that it has in a letter: j for the j-th input, i + j for the j-th output of a station with i inputs (specification, "Letters").
-- Assumes nothing.
use Rattle.std.specs.Prelude.{ℕ, suc, ◌+◌, Bool}

-- the prefix operators: ! X N F G
pub data Unary : Type 0 where
  neg next weak eventually always : Unary

-- the infix operators: U R & | >
pub data Binary : Type 0 where
  until release conj disj impl : Binary

pub data Formula : Type 0 where
  constant : Bool → Formula
  name : ℕ → Formula
  unary : Unary → Formula → Formula
  binary : Binary → Formula → Formula → Formula

-- the nodes: one for each name, constant and operator, none for parentheses
unfoldable pub size : Formula → ℕ
size (constant b) = 1
size (name k) = 1
size (unary u φ) = size φ + 1
size (binary b φ ψ) = size φ + size ψ + 1

-- a count, and one more for a temporal operator: X N F G
abbrev pub with_unary : Unary → ℕ → ℕ
with_unary neg k = k
with_unary next k = suc k
with_unary weak k = suc k
with_unary eventually k = suc k
with_unary always k = suc k

-- a count, and one more for a temporal operator: U R
abbrev pub with_binary : Binary → ℕ → ℕ
with_binary until k = suc k
with_binary release k = suc k
with_binary conj k = k
with_binary disj k = k
with_binary impl k = k

-- the temporal operators
unfoldable pub operators : Formula → ℕ
operators (constant b) = 0
operators (name k) = 0
operators (unary u φ) = with_unary u (operators φ)
operators (binary b φ ψ) = operators φ + with_binary b (operators ψ)
