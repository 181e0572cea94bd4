-- `listing::list::list` meets its contract: refusal 14, or the listing of what the rule call answers.
-- Assumes nothing.
use borrow.Author.Rules.{rules}
use mathlib.Core.Path.{refl}
use Rattle.listing.specs.Promise.{lent}
use Rattle.listing.proofs.PromiseLaws.{listed_refused, listed_answer, solved_states}
use Rattle.listing.proofs.list.list.Goals as goal

pub returns-in_default : goal.returns-in_default
returns-in_default c =
    listed_refused c.args.input.now c.args.output.now _ _ c.in_default.ensures c.new-out.ensures.same_bytes c.new-out.ensures.start
    c.put_refusal.ensures (search rules) c.len.ensures

pub put_listing-requires : goal.put_listing-requires
put_listing-requires c = (c.in-Some.ensures.inputs, solved_states c.solve_rule-answer.ensures)

pub returns : goal.returns
unfolding lent
returns c =
    listed_answer c.args.input.now c.in-Some.request lent _ _ _ _ c.solve_rule-answer.result c.args.output.now _ _ c.in-Some.ensures refl
    c.solve_rule-answer.ensures c.new-out.ensures.same_bytes c.new-out.ensures.start c.put_listing.ensures (search rules) c.len-2.ensures
