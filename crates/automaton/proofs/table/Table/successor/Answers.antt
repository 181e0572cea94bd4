-- `automaton::table::Table::successor` meets its contract. The invariant: the first k pairs of bits of r are those of the next state.
-- Assumes nothing.
use Prim.Native.Nat.{ℕ, ◌*◌, ◌/◌, ◌<◌}
use mathlib.Core.Path.{◌≡◌, refl, ap, ◌∙◌}
use mathlib.Core.Bool.{Bool}
use mir.Val.{bool_byte}
use native.Mathlib.Omega.{arith}
use Rattle.automaton.specs.Bits.{bit, one, of_bits}
use Rattle.automaton.proofs.BitLaws.{of_bits_lt, pair_step, one_lt, byte_one, shift_fits}
use Rattle.automaton.proofs.SuccessorLaws.{held, held_after}
use Rattle.automaton.proofs.table.Table.successor.Goals as goal

pub loop-k-init : goal.loop-k-init
unfolding of_bits
loop-k-init c = refl

-- the bit that the code doubles, as a number
made : (v : ℕ) {b : Bool} {w n m : ℕ} → n ≡ bool_byte b → b ≡ bit v w → w ≡ m → n ≡ one (bit v m)
made v n e m = n ∙ byte_one _ ∙ ap one (e ∙ ap (bit v) m)

pub set_bits-r-requires : goal.set_bits-r-requires
set_bits-r-requires c =
    let b = made c.args.state c.from-pair.ensures c.test_bit.ensures c.from.ensures in
    let few : c.from-pair.result < 2 = rw b (one_lt _) in (
      omega arith,
      shift_fits 2 (2 * c.loop-k.k) (3 * c.from-pair.result) (omega (arith, few)) (omega arith),
      rw c.loop-k.invariant (of_bits_lt (λ v. held c.args.self.entries.now c.args.letter c.args.state (v / 2)) (2 * c.loop-k.k)),
    )

pub loop-k-preserved : goal.loop-k-preserved
loop-k-preserved c =
    c.set_bits-r.ensures
    ∙ pair_step (held c.args.self.entries.now c.args.letter c.args.state) c.loop-k.k _ _ c.loop-k.invariant
    (made c.args.state c.from-pair.ensures c.test_bit.ensures c.from.ensures)

pub returns : goal.returns
returns c φ t =
    let all : 2 * c.loop-k.k ≡ 2 * (c.args.self.vectors / 2) = omega arith in
    c.loop-k.invariant ∙ ap (of_bits (λ v. held c.args.self.entries.now c.args.letter c.args.state (v / 2))) all
    ∙ held_after φ c.args.self.letters c.args.self.entries.now c.args.letter c.args.self.vectors c.args.state t.entries c.requires c.args.self.fits.0 t.vectors
