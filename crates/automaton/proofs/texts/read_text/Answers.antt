-- `automaton::texts::read_text` meets its contract: each return is what the tests before it decided. Assumes nothing.
use mathlib.Core.Path.{subst}
use mathlib.Core.List.{List}
use Rattle.std.proofs.Common.{rules}
use Rattle.std.proofs.lemmas.Result.{MatchResult-weaker, err_from_is_err_and}
use Rattle.reader.specs.declared.nodes.Node.{Node}
use Rattle.reader.specs.Vocabulary.{kind_of, vocabulary_of}
use Rattle.reader.specs.inner.Nodes.{Written}
use Rattle.automaton.proofs.TextLaws.{read_by, written_by, by_answer}
use Rattle.automaton.proofs.texts.read_text.Goals as goal

pub returns-in_err-test_sizes : goal.returns-in_err-test_sizes
returns-in_err-test_sizes c =
    let p = err_from_is_err_and c.from_residual.result c.from_residual.ensures.1 in
    rw (p.1, p.2) (c.in_err-test_sizes.ensures c.args.subject)

pub returns : goal.returns
returns c =
    by_answer c.args.subject c.args.i c.args.o c.args.text.now c.in_ok-test_sizes.ensures.0 c.in_ok-test_sizes.ensures.1
    c.read.result c.read.new.nodes c.map_err.result
    (read_by c.args.subject c.args.i c.args.o c.args.text.now c.of-vocabulary.result c.of-vocabulary.ensures c.read.result c.read.ensures.reading)
    (subst (λ (out : List Node). Written c.args.i (kind_of (vocabulary_of c.args.subject c.args.i c.args.o)) c.args.text.now c.read.result out c.read.new.nodes)
    c.requires
    (written_by c.args.subject c.args.i c.args.o c.args.text.now c.of-vocabulary.result c.of-vocabulary.ensures c.read.result c.args.nodes.now
    c.read.new.nodes c.read.ensures.nodes))
    (MatchResult-weaker c.read.result c.map_err.ensures.cases (λ n e. e) (λ e p. search rules))
