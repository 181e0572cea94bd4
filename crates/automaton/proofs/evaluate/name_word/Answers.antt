-- `automaton::evaluate::name_word` meets its contract: every bit is the letter's one. Assumes nothing.
use Prim.Native.Nat.{◌*◌}
use mathlib.Core.Path.{◌≡◌, ap, ◌∙◌, refl}
use mathlib.Core.Bool.{Bool, true, false}
use mir.Val.{bool_byte}
use Rattle.automaton.specs.inner.Sizes.{vector_limit}
use Rattle.automaton.specs.Bits.{of_bits}
use Rattle.automaton.proofs.BitLaws.{same_true, same_false}
use Rattle.automaton.proofs.evaluate.name_word.Goals as goal

-- all, or none
all_if : (b : Bool) → 0xFFFF_FFFF_FFFF_FFFF * bool_byte b ≡ of_bits (λ v. b) vector_limit
all_if true = same_true true refl
all_if false = same_false false refl

pub returns : goal.returns
returns c = rw c.from.ensures (all_if c.has_name.result ∙ ap (λ (b : Bool). of_bits (λ v. b) vector_limit) c.has_name.ensures)
