-- `game::rule::check_rule` meets its contract: each return is the case that the tests before it decided.
-- Assumes nothing.
use Rattle.std.proofs.Common.{rules, ◌≡◌, false, ◌||◌, sym, ◌∙◌, subst}
use Rattle.std.proofs.lemmas.Result.{err_from_is_err_and, MatchResult-weaker}
use Rattle.reader.specs.declared.vocabulary.Vocabulary.{Vocabulary}
use Rattle.reader.specs.Limits.{too_long}
use Rattle.reader.specs.Vocabulary.{kind_of}
use Rattle.reader.specs.Reading.{ReadingOf}
use Rattle.game.proofs.RuleCheckLaws.{by_alphabet, by_length, by_answer, by_condition}
use Rattle.game.proofs.rule.check_rule.Goals as goal
use Rattle.game.proofs.rule.check_rule.Goals.{then-too_long-via-then-too_long, then-too_long-via-else-too_long+then-too_long-2}

pub returns-then-bad_alphabet : goal.returns-then-bad_alphabet
returns-then-bad_alphabet c = by_alphabet c.args.i c.args.o c.args.rule.now c.args.condition.now (sym c.bad_alphabet.ensures ∙ c.if-bad_alphabet.true)

pub returns-then-too_long : goal.returns-then-too_long
returns-then-too_long c =
    by_length c.args.i c.args.o c.args.rule.now c.args.condition.now (sym c.bad_alphabet.ensures ∙ c.if-bad_alphabet.false)
    (elim c.then-too_long.branch [
      | then-too_long-via-then-too_long w ↦ rw (sym c.too_long.ensures ∙ w.if-too_long.true)
      | then-too_long-via-else-too_long+then-too_long-2 w ↦
          rw (sym c.too_long.ensures ∙ w.if-too_long.false, sym w.too_long-else-too_long.ensures ∙ w.if-too_long-2.true)
    ])

pub returns-in_err-map_err : goal.returns-in_err-map_err
returns-in_err-map_err c =
    let p = err_from_is_err_and c.from_residual.result c.from_residual.ensures.1 in
    let short : (too_long c.args.rule.now || too_long c.args.condition.now) ≡ false =
    rw (sym c.too_long.ensures ∙ c.if-too_long.false, sym c.too_long-else-too_long.ensures ∙ c.if-too_long-2.false) in
    rw (p.1, p.2)
    ((by_answer c.args.i c.args.o c.args.rule.now c.args.condition.now (sym c.bad_alphabet.ensures ∙ c.if-bad_alphabet.false) short c.check.result c.map_err.result
    (subst (λ (v : Vocabulary). ReadingOf v.inputs (kind_of v) c.args.rule.now c.check.result) c.of-vocabulary.ensures c.check.ensures) (MatchResult-weaker c.check.result c.map_err.ensures.cases (λ n e. e) (λ e q. search rules))).0 _ c.in_err-map_err.was)

pub returns : goal.returns
returns c =
    let short : (too_long c.args.rule.now || too_long c.args.condition.now) ≡ false =
    rw (sym c.too_long.ensures ∙ c.if-too_long.false, sym c.too_long-else-too_long.ensures ∙ c.if-too_long-2.false) in
    by_condition c.args.i c.args.o c.args.rule.now c.args.condition.now (sym c.bad_alphabet.ensures ∙ c.if-bad_alphabet.false) short _
    ((by_answer c.args.i c.args.o c.args.rule.now c.args.condition.now (sym c.bad_alphabet.ensures ∙ c.if-bad_alphabet.false) short c.check.result c.map_err.result
    (subst (λ (v : Vocabulary). ReadingOf v.inputs (kind_of v) c.args.rule.now c.check.result) c.of-vocabulary.ensures c.check.ensures) (MatchResult-weaker c.check.result c.map_err.ensures.cases (λ n e. e) (λ e q. search rules))).1 _ c.in_ok-map_err.was)
    c.read_condition.result c.read_condition.ensures
