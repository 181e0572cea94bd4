-- The rows that the specification ("Readings") marks as proved, each under its texts in letters, with n and the round number or, where the condition is met by
-- no input, as refused. proofs/Readings.antt: every row holds. proofs/Answers.antt: so the rule call's promise leaves it no other answer to them.
-- tests/tests/readings.rs reads this list and holds it against the specification's.
-- Assumes nothing.
use Rattle.std.specs.Prelude.{List, [], ◌∷◌}
use Rattle.plays.specs.declared.mode.Mode.TheVariants.{Fair, Stable}
use Rattle.readings.specs.Row.{Line, row, unmet}

unfoldable pub rows : List Line
rows =
    -- Fp, fair 1: can, 3, 1
    row (70 ∷ 112 ∷ []) Fair (49 ∷ []) 3 1
    -- Fa, fair 1: cannot, 3, 0
    ∷ row (70 ∷ 97 ∷ []) Fair (49 ∷ []) 3 0
    -- Fa, fair a: can, 3, 1
    ∷ row (70 ∷ 97 ∷ []) Fair (97 ∷ []) 3 1
    -- Fa, fair 0: refused by 15
    ∷ unmet (70 ∷ 97 ∷ []) Fair (48 ∷ [])
    -- Ga, stable a: cannot, 3, 0
    ∷ row (71 ∷ 97 ∷ []) Stable (97 ∷ []) 3 0
    -- F(a&Xa), fair a: cannot, 4, 0
    ∷ row (70 ∷ 40 ∷ 97 ∷ 38 ∷ 88 ∷ 97 ∷ 41 ∷ []) Fair (97 ∷ []) 4 0
    -- F(a&Xa), stable a: can, 4, 2
    ∷ row (70 ∷ 40 ∷ 97 ∷ 38 ∷ 88 ∷ 97 ∷ 41 ∷ []) Stable (97 ∷ []) 4 2
    -- Xa, fair 1: cannot, 4, 0
    ∷ row (88 ∷ 97 ∷ []) Fair (49 ∷ []) 4 0
    -- Na, fair 1: can, 4, 1
    ∷ row (78 ∷ 97 ∷ []) Fair (49 ∷ []) 4 1
    -- a&p|!a&!p, fair 1: can, 3, 1
    ∷ row (97 ∷ 38 ∷ 112 ∷ 124 ∷ 33 ∷ 97 ∷ 38 ∷ 33 ∷ 112 ∷ []) Fair (49 ∷ []) 3 1
    -- pUa, fair a: can, 4, 1
    ∷ row (112 ∷ 85 ∷ 97 ∷ []) Fair (97 ∷ []) 4 1
    ∷ []
