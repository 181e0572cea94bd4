-- The texts that the calls and the program are given, and that the program prints (specification, "Texts" and "Program").
-- Assumes nothing.
use Rattle.std.specs.Prelude.{ℕ, List}

-- the bytes of a text, or of a part of one
abbrev pub Text : Type 0
Text = List ℕ
