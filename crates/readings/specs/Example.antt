-- The specification's printed example ("Program"): the four lines that the program reads, and what it prints, as bytes, each line under
-- its text. proofs/PrintedExample.antt: the promise of the listing call leaves it no other text. tests/tests/readings.rs reads both lists and holds them
-- against the specification's.
-- Assumes nothing.
use Rattle.std.specs.Prelude.{[], ◌∷◌}
use Rattle.reader.specs.Text.{Text}

unfoldable pub example_input : Text
example_input =
    -- 1 0
    49 ∷ 32 ∷ 48 ∷ 10
    -- fair
    ∷ 102 ∷ 97 ∷ 105 ∷ 114 ∷ 10
    -- 1
    ∷ 49 ∷ 10
    -- Fa
    ∷ 70 ∷ 97 ∷ 10
    ∷ []

unfoldable pub example_listing : Text
example_listing =
    -- cannot 3 0
    99 ∷ 97 ∷ 110 ∷ 110 ∷ 111 ∷ 116 ∷ 32 ∷ 51 ∷ 32 ∷ 48 ∷ 10
    -- 0 - O 0
    ∷ 48 ∷ 32 ∷ 45 ∷ 32 ∷ 79 ∷ 32 ∷ 48 ∷ 10
    -- 1 - O 0
    ∷ 49 ∷ 32 ∷ 45 ∷ 32 ∷ 79 ∷ 32 ∷ 48 ∷ 10
    -- 2 * S 0 0
    ∷ 50 ∷ 32 ∷ 42 ∷ 32 ∷ 83 ∷ 32 ∷ 48 ∷ 32 ∷ 48 ∷ 10
    ∷ []
