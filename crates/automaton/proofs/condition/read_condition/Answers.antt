-- `automaton::condition::read_condition` meets its contract: the text is refused, or its mask decides. Assumes nothing.
use Prim.Native.Nat.{◌*◌, ◌^◌, ◌≤◌, ℕ}
use mathlib.Core.Path.{◌≡◌, sym, ap, ◌∙◌, subst}
use mathlib.Core.Bool.{false, cond}
use mathlib.Core.List.{List}
use native.Mathlib.Omega.{arith}
use lib.Dec.{leb}
use lib.ListN.{take}
use lib.Pow.{pow_mono}
use Rattle.std.proofs.lemmas.Result.{err_from_is_err_and}
use Rattle.reader.specs.declared.refusal.Subject.TheVariants.{Condition}
use Rattle.reader.specs.Formula.{Formula}
use Rattle.automaton.specs.Limits.{name_limit, number_limit}
use Rattle.automaton.specs.Alphabet.{bad_alphabet}
use Rattle.automaton.specs.Bits.{of_bits}
use Rattle.automaton.specs.Valuation.{value}
use Rattle.automaton.specs.Condition.{mask_of}
use Rattle.automaton.specs.inner.Representation.{Represents}
use Rattle.reader.specs.declared.nodes.Node.{Node}
use Rattle.automaton.specs.inner.Opening.{Opened}
use Rattle.automaton.proofs.AlphabetLaws.{inputs_fit, power_is}
use Rattle.automaton.proofs.ConditionLaws.{by_text, by_empty, by_mask}
use Rattle.automaton.proofs.condition.read_condition.Goals as goal

-- the power is the number of input numbers
inputs_are : (i p : ℕ) → bad_alphabet i 0 ≡ false → p ≡ cond (leb i (2 * name_limit)) (2 ^ i) 0 → p ≡ 2 ^ i
inputs_are i p fits power = power_is i p (omega (arith, inputs_fit i 0 fits)) power

-- the mask is that of the condition
masked : (i : ℕ) (text : List ℕ) (nodes : List Node) (n p m : ℕ) (v : Opened Condition i 0 text nodes n) → p ≡ cond (leb i (2 * name_limit)) (2 ^ i) 0
    → ((κ : Formula) → Represents (take n nodes) κ → m ≡ of_bits (λ x. value κ 1 x 0) p) → m ≡ mask_of v.formula i
unfolding mask_of
masked i text nodes n p m v power mask = mask v.formula v.represents ∙ ap (of_bits (λ x. value v.formula 1 x 0)) (inputs_are i p v.alphabet power)

pub returns-in_err-count : goal.returns-in_err-count
returns-in_err-count c =
    let p = err_from_is_err_and c.from_residual.result c.from_residual.ensures.1 in
    rw (p.1, p.2) (by_text c.args.i c.args.text.now _ c.in_err-count.ensures)

pub condition_mask-mask-requires : goal.condition_mask-mask-requires
condition_mask-mask-requires c =
    let v = c.in_ok-count.ensures in
    let m : 2 ^ c.args.i ≤ number_limit = pow_mono {j = name_limit} (inputs_fit c.args.i 0 v.alphabet) in
    omega (arith, inputs_are c.args.i c.power.result v.alphabet c.power.ensures, m)

pub returns-then-mask-eq0 : goal.returns-then-mask-eq0
returns-then-mask-eq0 c =
    let v = c.in_ok-count.ensures in
    by_empty c.args.i c.args.text.now _ _ v c.condition_mask-mask.result
    (masked c.args.i c.args.text.now _ _ c.power.result c.condition_mask-mask.result v c.power.ensures (λ κ r. c.condition_mask-mask.ensures κ (subst (λ (l : List Node). Represents l κ) (sym c.of-tree.ensures) r))) c.if-mask-eq0.true

pub returns : goal.returns
returns c =
    let v = c.in_ok-count.ensures in
    by_mask c.args.i c.args.text.now _ _ v c.condition_mask-mask.result
    (masked c.args.i c.args.text.now _ _ c.power.result c.condition_mask-mask.result v c.power.ensures (λ κ r. c.condition_mask-mask.ensures κ (subst (λ (l : List Node). Represents l κ) (sym c.of-tree.ensures) r))) c.if-mask-eq0.false
