-- `automaton::gather::gather` meets its contract. The invariant: the bits below k are set, and are the test's. Assumes nothing.
use Rattle.std.proofs.Common.{◌≡◌, ℕ, ◌^◌, ◌+◌, ◌*◌, ap, ap₂, refl, ◌∙◌, arith, add-one}
use Rattle.automaton.specs.Bits.{of_bits, one}
use Rattle.automaton.proofs.BitLaws.{one_lt, byte_one}
use Rattle.automaton.proofs.LoopLaws.{set_lt}
use Rattle.automaton.proofs.gather.gather.Goals as goal

pub loop-k-init : goal.loop-k-init
unfolding of_bits
loop-k-init g c = (omega arith, λ p h. refl)

pub loop-k-preserved : goal.loop-k-preserved
unfolding of_bits
loop-k-preserved g c =
    let bit_is : c.from.result ≡ one c.f.result = c.from.ensures ∙ byte_one c.f.result in (
      rw (c.set_bits-word.ensures, bit_is) (set_lt _ _ _ (one_lt c.f.result) c.loop-k.invariant.0),
      λ p h. rw add-one
          (c.set_bits-word.ensures
          ∙ ap₂ (λ (x y : ℕ). x * 2 ^ c.loop-k.k + y) (bit_is ∙ ap one (h c.loop-k.k c.f.result c.loop-k-test.true c.f.ensures)) (c.loop-k.invariant.1 p h)),
    )
