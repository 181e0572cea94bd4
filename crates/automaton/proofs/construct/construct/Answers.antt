-- `automaton::construct::construct` meets its contract: the text is refused, or its formula's automaton is built. Assumes nothing.
use Prim.Native.Nat.{ℕ}
use mathlib.Core.Path.{subst}
use Rattle.std.proofs.lemmas.Result.{err_from_is_err_and}
use Rattle.automaton.specs.inner.Exploration.{BuiltAutomaton}
use Rattle.automaton.proofs.AlphabetLaws.{letters_fit}
use Rattle.automaton.proofs.ConstructionLaws.{by_text, by_states}
use Rattle.automaton.proofs.construct.construct.Goals as goal

pub returns-in_err-count : goal.returns-in_err-count
returns-in_err-count c =
    let p = err_from_is_err_and c.from_residual.result c.from_residual.ensures.1 in
    rw (p.1, p.2) (by_text c.args.i c.args.o c.args.text.now c.args.room c.args.transitions.now c.args.accepting.now _ c.in_err-count.ensures)

pub returns : goal.returns
returns c =
    let v = c.in_ok-count.ensures in
    let f = letters_fit c.args.i c.args.o c.power-letters.result v.alphabet c.power-letters.ensures in
    by_states c.args.i c.args.o c.args.text.now c.args.room c.args.transitions.now c.args.accepting.now _ _ v _ _ c.build_nodes.result
    (subst
    (λ (L : ℕ).
    BuiltAutomaton v.formula L c.args.room c.args.transitions.now c.args.accepting.now
    c.build_nodes.new.transitions c.build_nodes.new.accepting c.build_nodes.result)
    f.is (c.build_nodes.ensures v.formula v.represents))
