-- What the tests of numbers and buffers say where they pass.
-- Assumes nothing.
use Rattle.std.proofs.Common.{◌≡◌, ℕ, ◌^◌, ◌≤◌, false, eqb, ltb, length, pow_pos, pow_mono, ltb-false}
use Rattle.automaton.specs.Limits.{name_limit, number_limit, state_limit}
use Rattle.automaton.specs.Alphabet.{bad_alphabet}
use Rattle.automaton.proofs.AlphabetLaws.{inputs_fit, outputs_fit}
use Rattle.plays.specs.Arena.{Arena}
use Rattle.game.specs.inner.Range.{InRange}
use Rattle.game.specs.Given.{bad_count, move_count, short_read}
use Rattle.reader.proofs.BoolLaws.{or_left, or_right}

pub small_power : (k : ℕ) → k ≤ name_limit → 2 ^ k ≤ number_limit
small_power k h = pow_mono {j = name_limit} h

pub in_range : (n i o : ℕ) → bad_alphabet i o ≡ false → bad_count n ≡ false → InRange n (2 ^ i) (2 ^ o)
in_range n i o a b =
    record {
      states_fit = ltb-false state_limit n (or_right (eqb n 0) (ltb state_limit n) b);
      inputs_fit = small_power i (inputs_fit i o a);
      outputs_fit = small_power o (outputs_fit i o a);
      inputs_some = pow_pos i;
    }

-- buffers that are long enough
pub transitions_long : (G : Arena) → short_read G ≡ false → move_count G ≤ length G.transitions
transitions_long G e =
    ltb-false (length G.transitions) (move_count G) (or_left (ltb (length G.transitions) (move_count G)) (ltb (length G.accepting) G.states) e)

pub accepting_long : (G : Arena) → short_read G ≡ false → G.states ≤ length G.accepting
accepting_long G e =
    ltb-false (length G.accepting) G.states (or_right (ltb (length G.transitions) (move_count G)) (ltb (length G.accepting) G.states) e)
