-- `automaton::gather::gather` meets its contract. The invariant: the bits below k are set, and are the test's. Assumes nothing.
use Rattle.std.proofs.Common.{◌≡◌, ℕ, ◌<◌, ◌^◌, Bool}
use Rattle.automaton.specs.Bits.{of_bits}
use Rattle.automaton.proofs.gather.gather.Given as goal

abbrev pub invariant-loop-k : goal.invariant-loop-k
invariant-loop-k g l =
    (l.word < 2 ^ l.k)
    × ((p : ℕ → Bool) → ((k : ℕ) (b : Bool) → k < l.width → goal.F-post g l.f k b → b ≡ p k) → l.word ≡ of_bits p l.k)
