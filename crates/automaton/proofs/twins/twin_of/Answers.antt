-- `automaton::twins::twin_of` meets its contract. Assumes nothing.
use Rattle.std.proofs.Common.{rules, ◌≡◌, ◌∙◌, sym, arith}
use Rattle.automaton.proofs.TwinLaws.{same_slices}
use Rattle.automaton.proofs.twins.twin_of.Goals as goal

pub returns-then-eq : goal.returns-then-eq
returns-then-eq c =
    let same : c.row.result.now ≡ c.row-then-b-letter.result.now = search rules in
    (omega arith, same_slices c.args.table.entries.now _ _ _ (sym c.row.ensures ∙ same ∙ c.row-then-b-letter.ensures))
