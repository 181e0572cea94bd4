-- `automaton::tree::Tree::tabulate` meets its contract. Assumes nothing.
use Rattle.std.proofs.Common.{◌≡◌, ℕ, ◌-◌, ◌*◌, ◌^◌, ap, ◌∙◌, arith}
use Rattle.reader.specs.Formula.{operators}
use Rattle.automaton.specs.Valuation.{present}
use Rattle.automaton.proofs.BitLaws.{pairs_few}
use Rattle.automaton.proofs.CoordinateLaws.{present_from}
use Rattle.automaton.proofs.LoopLaws.{rows_more, rows_tabulate}
use Rattle.automaton.proofs.tree.Tree.tabulate.Goals as goal

pub loop-a-preserved : goal.loop-a-preserved
loop-a-preserved c =
    let t = c.args.self.now in
    let few = pairs_few t.width t.fits.few_coordinates in (
      c.fill_row.auto.table ∙ c.loop-a.invariant.0,
      λ φ rep. rows_more (2 ^ (t.width - 1)) (λ b k. present φ b (2 * k)) c.fill_row.new.table c.loop-a.table c.loop-a.a few (c.loop-a.invariant.1 φ rep)
          (λ k hk. c.fill_row.ensures.row k hk
          ∙ present_from φ c.loop-a.a c.letter_words-words.result t.width (t.fits.counted φ rep) (c.letter_words-words.ensures φ rep) (2 * k)
          (omega (arith, few)))
          c.fill_row.ensures.front,
    )

pub returns : goal.returns
returns c =
    let t = c.args.self.now in
    λ φ rep. let one_less : t.width - 1 ≡ operators φ = omega (arith, t.fits.counted φ rep) in
    rows_tabulate φ c.args.letters (2 ^ (t.width - 1)) c.loop-a.table (ap (λ (n : ℕ). 2 ^ n) one_less)
    (λ b k h hk. c.loop-a.invariant.1 φ rep b k (omega arith) hk)
