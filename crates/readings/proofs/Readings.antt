-- The theorem: every row that the specification marks as proved holds. Each has a certificate, and one computation tests them all. There are
-- eleven rows.
-- Assumes nothing.
use mathlib.Core.Path.{◌≡◌, refl}
use mathlib.Core.List.{List, [], ◌∷◌}
use lib.ListN.{length}
use Rattle.reader.specs.Formula.{size, operators}
use Rattle.reader.specs.Marks.{kind_in, allowed_by, is_temporal_mark, among_of, mark_kind, operand_of, unary_of, binary_of}
use Rattle.reader.specs.Grammar.{without_blanks}
use Rattle.automaton.specs.Bits.{bit, of_bits, gather}
use Rattle.automaton.specs.Condition.{mask_of}
use Rattle.automaton.specs.Valuation.{value, coords, ends, present, end_vector, vectors}
use Rattle.automaton.specs.State.{start, after, accepts}
use Rattle.machine.specs.Discovery.{position, extend, target, look, discovered, states, number_of_states}
use Rattle.plays.specs.Arena.{next, goal, holds}
use Rattle.readings.specs.Lists.{list_of, transitions_on, transitions_of, flags_on, flags_of}
use Rattle.readings.specs.Row.{LineHolds, All}
use Rattle.readings.specs.Rows.{rows}
use Rattle.readings.proofs.Tree.{Tree, single, prefixed, grouped, joined, flat, formula_of, fits, same_bytes, reads_by}
use Rattle.readings.proofs.Test.{below, step_of, output_of, input_of, bytes_of, state_of, wins_of, beaten_of, round_of}
use Rattle.readings.proofs.Certificate.{Certificate, certificate, alphabet_passes, texts_pass, sizes_pass, read_passes, empty_passes}
use Rattle.readings.proofs.Certificate.{count_passes, winner_passes, passes_with, passes, unmet_passes, line_passes, all_pass}
use Rattle.readings.proofs.CertificateLaws.{all_readings}

-- 0 and 1, and the names a and p
abbrev never : Tree
never = single 48

abbrev ever : Tree
ever = single 49

abbrev a : Tree
a = single 97

abbrev p : Tree
p = single 112

-- F(a&Xa)
abbrev twice : Tree
twice = prefixed 70 (grouped (joined 1 a 38 (prefixed 88 a)))

-- for each row how its texts are read, the winner's table and ranks up to the last state that has a rank, and inputs that beat the system with one less than
-- the round number, which are none where that is 0; nothing but the reading where no input meets the condition
certificates : List Certificate
certificates =
    -- Fp: p at once
    certificate (prefixed 70 p) ever (1 ∷ 1 ∷ []) (1 ∷ []) []
    -- Fa: the environment never gives a
    ∷ certificate (prefixed 70 a) ever (0 ∷ 0 ∷ []) (1 ∷ 1 ∷ []) []
    -- fair a: it has to
    ∷ certificate (prefixed 70 a) a (0 ∷ 0 ∷ 0 ∷ 0 ∷ []) (1 ∷ 1 ∷ []) []
    -- fair 0: no input meets it
    ∷ certificate (prefixed 70 a) never [] [] []
    -- Ga: the environment leaves a out once, and gives it from then on
    ∷ certificate (prefixed 71 a) a (0 ∷ 1 ∷ []) (2 ∷ 1 ∷ []) []
    -- F(a&Xa), fair: the environment gives a at every other step
    ∷ certificate twice a (1 ∷ 1 ∷ 0 ∷ []) (1 ∷ 1 ∷ 2 ∷ []) []
    -- stable: two in a row have to come, and one step with a is not enough
    ∷ certificate twice a (0 ∷ 0 ∷ 0 ∷ 0 ∷ 0 ∷ 0 ∷ []) (2 ∷ 2 ∷ 1 ∷ []) (1 ∷ [])
    -- Xa: the environment never gives a
    ∷ certificate (prefixed 88 a) ever (0 ∷ 0 ∷ 0 ∷ []) (1 ∷ 1 ∷ 1 ∷ []) []
    -- Na: any first step will do
    ∷ certificate (prefixed 78 a) ever (0 ∷ 0 ∷ []) (1 ∷ []) []
    -- a&p|!a&!p: the output repeats the input, which was seen
    ∷ certificate (joined 2 (joined 1 a 38 p) 124 (joined 1 (prefixed 33 a) 38 (prefixed 33 p))) ever (0 ∷ 1 ∷ []) (1 ∷ []) []
    -- pUa: p until a comes
    ∷ certificate (joined 0 p 85 a) a (1 ∷ 0 ∷ 255 ∷ 255 ∷ 255 ∷ 255 ∷ 1 ∷ 0 ∷ []) (1 ∷ 0 ∷ 0 ∷ 1 ∷ []) []
    ∷ []

pub readings : All LineHolds rows
unfolding rows certificates all_pass line_passes passes unmet_passes passes_with read_passes empty_passes alphabet_passes texts_pass sizes_pass count_passes winner_passes
    reads_by same_bytes fits formula_of
    flat round_of wins_of beaten_of state_of bytes_of input_of output_of step_of below next goal holds mask_of flags_of flags_on transitions_of transitions_on
    list_of number_of_states states discovered look target extend position accepts after start vectors end_vector present ends coords value gather of_bits
    bit without_blanks binary_of unary_of operand_of mark_kind among_of is_temporal_mark allowed_by kind_in operators size
readings = all_readings rows certificates refl

-- as many as the specification marks
pub eleven : length rows ≡ 11
unfolding rows
eleven = refl
