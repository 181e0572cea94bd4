-- `listing::input::Request::parse` meets its contract: where a part is not there, the input asks for nothing.
-- Assumes nothing.
use mathlib.Core.List.{[]}
use mathlib.Core.Path.{◌≡◌, sym, ap, ◌∙◌}
use lib.ListN.{length}
use borrow.Author.Tests.{eqb-false}
use Rattle.listing.proofs.RequestLaws.{texts_left, one_line, no_line}
use Rattle.listing.proofs.input.Request.parse.Goals as goal

pub returns-in_err-condition : goal.returns-in_err-condition
returns-in_err-condition c =
    rw c.from_residual-in_err-condition.ensures
    (λ i o mode condition rule q. no_line _ condition _ c.in_err-condition.ensures (texts_left c.in_ok-i.ensures.2 c.in_ok-mode.ensures q).3)

pub returns-in_err-rule : goal.returns-in_err-rule
returns-in_err-rule c =
    rw c.from_residual-in_err-rule.ensures
    (λ i o mode condition rule q.
    let e = sym c.in_ok-condition.ensures.1 ∙ (texts_left c.in_ok-i.ensures.2 c.in_ok-mode.ensures q).3 in
    no_line _ rule _ c.in_err-rule.ensures (one_line _ condition _ _ c.in_ok-condition.ensures.0 q.condition_line e).1)

pub returns-then-not-is_empty : goal.returns-then-not-is_empty
returns-then-not-is_empty c i o mode condition rule q =
    let e = sym c.in_ok-condition.ensures.1 ∙ (texts_left c.in_ok-i.ensures.2 c.in_ok-mode.ensures q).3 in
    let f = sym c.in_ok-rule.ensures.1 ∙ (one_line _ condition _ _ c.in_ok-condition.ensures.0 q.condition_line e).1 in
    let z : c.in_ok-rule.rest.now ≡ [] = (one_line _ rule _ _ c.in_ok-rule.ensures.0 q.rule_line f).1 in
    let n : length c.in_ok-rule.rest.now ≡ 0 = ap length z in
    eqb-false (length c.in_ok-rule.rest.now) 0 (sym c.if-not-is_empty.ensures) n
