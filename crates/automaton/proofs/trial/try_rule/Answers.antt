-- `automaton::trial::try_rule` meets its contract: the text is refused, or a letter is, or the list is judged. Assumes nothing.
use mathlib.Core.Path.{sym, ◌∙◌, subst}
use Rattle.std.proofs.lemmas.Result.{err_from_is_err_and}
use mathlib.Core.List.{List}
use Rattle.reader.specs.declared.refusal.Subject.TheVariants.{Rule}
use Rattle.reader.specs.declared.nodes.Node.{Node}
use Rattle.automaton.specs.inner.Representation.{Represents}
use Rattle.automaton.proofs.Meaning.{valuation_satisfies}
use Rattle.automaton.proofs.AlphabetLaws.{letters_fit}
use Rattle.automaton.proofs.TrialLaws.{by_text, by_letter, by_list}
use Rattle.automaton.proofs.trial.try_rule.Goals as goal

pub returns-in_err-test_sizes : goal.returns-in_err-test_sizes
returns-in_err-test_sizes c =
    let p = err_from_is_err_and c.from_residual.result c.from_residual.ensures.1 in
    rw (p.1, p.2) (by_text c.args.i c.args.o c.args.text.now c.args.letters.now _ (c.in_err-test_sizes.ensures Rule))

pub returns-in_err-count : goal.returns-in_err-count
returns-in_err-count c =
    let p = err_from_is_err_and c.from_residual-in_err-count.result c.from_residual-in_err-count.ensures.1 in
    rw (p.1, p.2) (by_text c.args.i c.args.o c.args.text.now c.args.letters.now _ c.in_err-count.ensures)

pub returns-in-Some : goal.returns-in-Some
returns-in-Some c =
    let v = c.in_ok-count.ensures in
    by_letter c.args.i c.args.o c.args.text.now c.args.letters.now _ _ v c.power.result (letters_fit c.args.i c.args.o c.power.result v.alphabet c.power.ensures).is
    c.in-Some.k c.in-Some.ensures

pub returns : goal.returns
returns c =
    let v = c.in_ok-count.ensures in
    let r = c.satisfied.ensures v.formula (subst (λ (l : List Node). Represents l v.formula) (sym c.of-tree.ensures) v.represents) in
    let m = valuation_satisfies v.formula c.args.letters.now in
    by_list c.args.i c.args.o c.args.text.now c.args.letters.now _ _ v c.power.result (letters_fit c.args.i c.args.o c.power.result v.alphabet c.power.ensures).is
    c.in_default.ensures c.satisfied.result (λ t. m.0 (sym r ∙ t), λ t. r ∙ m.1 t)
