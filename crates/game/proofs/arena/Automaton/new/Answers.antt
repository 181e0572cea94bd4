-- `game::arena::Automaton::new` meets its contract: where both tests pass, the sizes are in range. Assumes nothing.
use Rattle.std.proofs.Common.{ℕ, sym, ◌∙◌, subst₂, arith}
use Rattle.automaton.proofs.AlphabetLaws.{inputs_fit, outputs_fit, power_is}
use Rattle.game.specs.inner.Range.{InRange}
use Rattle.game.proofs.CheckLaws.{in_range}
use Rattle.game.proofs.arena.Automaton.new.Goals as goal

pub invariant_of-result : goal.invariant_of-result
invariant_of-result c =
    let a = sym c.bad_alphabet.ensures ∙ c.if-bad_alphabet.false in
    let inputs = power_is c.args.i c.power.result (omega (arith, inputs_fit c.args.i c.args.o a)) c.power.ensures in
    let outputs = power_is c.args.o c.power-2.result (omega (arith, outputs_fit c.args.i c.args.o a)) c.power-2.ensures in
    record {
      in_range = subst₂ (λ (x y : ℕ). InRange c.args.n x y) (sym inputs) (sym outputs)
          (in_range c.args.n c.args.i c.args.o a (sym c.bad_count.ensures ∙ c.if-bad_count.false));
    }
