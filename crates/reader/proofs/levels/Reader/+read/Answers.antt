-- The two reading functions meet their contracts, in one proof: they call each other. InfixLaws answers for the levels above 0, and PrefixLaws for what prefix
-- marks bind. Assumes nothing.
use mathlib.Core.Path.{sym, ◌∙◌}
use Rattle.std.proofs.Common.{rules, arith, ◌<◌, ◌-◌}
use Rattle.reader.proofs.InfixLaws.{above_zero, ConsumedBelow, prefix_below, lower_ready, prefix_ready, alone, few, right_ready, node_fits, joined}
use Rattle.reader.proofs.PrefixLaws.{starts, held_ready, close_inside, close_few, wrapped, bound_ready, prefix_fits, prefixed, is_operand, operand_fits, single}
use Rattle.reader.proofs.levels.Reader.+read.Goals as goal
use Rattle.reader.proofs.levels.Reader.+read.Goals.{read-then-level-eq1, read-else-level-eq1}

pub read-read-left-requires : goal.read-read-left-requires
read-read-left-requires t c =
    let l = lower_ready (above_zero c.requires.above) (c.decreases, c.requires.readable) in
    let above : 0 < c.args.level - 1 = omega (arith, c.requires.above, c.if-level-eq1.false) in
    (l.0, (above, l.1))

pub read-read_prefix-left-requires : goal.read-read_prefix-left-requires
read-read_prefix-left-requires t c =
    prefix_ready (above_zero c.requires.above) (c.decreases, c.requires.readable) c.if-level-eq1.true

pub read-returns-then-not-has_infix : goal.read-returns-then-not-has_infix
read-returns-then-not-has_infix t c =
    let first : ConsumedBelow c.args.level c.args.self.now c.args.out.now c.if-level-eq1.left c.if-level-eq1.out = elim c.if-level-eq1.branch [
      | read-then-level-eq1 w ↦ rw (w.left-is, w.out-is) (prefix_below w.if-level-eq1.true w.read_prefix-left.ensures)
      | read-else-level-eq1 w ↦ rw (w.left-is, w.out-is) w.read-left.ensures
    ] in
    alone (above_zero c.requires.above) first (search rules)

pub read-after_mark-requires-clause-few : goal.read-after_mark-requires-clause-few
read-after_mark-requires-clause-few t c =
    let first : ConsumedBelow c.args.level c.args.self.now c.args.out.now c.if-level-eq1.left c.if-level-eq1.out = elim c.if-level-eq1.branch [
      | read-then-level-eq1 w ↦ rw (w.left-is, w.out-is) (prefix_below w.if-level-eq1.true w.read_prefix-left.ensures)
      | read-else-level-eq1 w ↦ rw (w.left-is, w.out-is) w.read-left.ensures
    ] in
    few (above_zero c.requires.above) (c.decreases, c.requires.readable) first (search rules)

pub read-read-right-requires : goal.read-read-right-requires
read-read-right-requires t c =
    let first : ConsumedBelow c.args.level c.args.self.now c.args.out.now c.if-level-eq1.left c.if-level-eq1.out = elim c.if-level-eq1.branch [
      | read-then-level-eq1 w ↦ rw (w.left-is, w.out-is) (prefix_below w.if-level-eq1.true w.read_prefix-left.ensures)
      | read-else-level-eq1 w ↦ rw (w.left-is, w.out-is) w.read-left.ensures
    ] in
    let l = right_ready (above_zero c.requires.above) (c.decreases, c.requires.readable) first (search rules) c.after_mark.ensures c.if-level-eq1.auto.out in
    (l.0, (c.requires.above, l.1))

pub read-write-requires : goal.read-write-requires
read-write-requires t c =
    let first : ConsumedBelow c.args.level c.args.self.now c.args.out.now c.if-level-eq1.left c.if-level-eq1.out = elim c.if-level-eq1.branch [
      | read-then-level-eq1 w ↦ rw (w.left-is, w.out-is) (prefix_below w.if-level-eq1.true w.read_prefix-left.ensures)
      | read-else-level-eq1 w ↦ rw (w.left-is, w.out-is) w.read-left.ensures
    ] in
    node_fits (above_zero c.requires.above) (c.decreases, c.requires.readable) first (search rules) c.after_mark.ensures c.read-right.ensures
    (c.read-right.auto.out ∙ c.if-level-eq1.auto.out)

pub read-returns : goal.read-returns
read-returns t c =
    let first : ConsumedBelow c.args.level c.args.self.now c.args.out.now c.if-level-eq1.left c.if-level-eq1.out = elim c.if-level-eq1.branch [
      | read-then-level-eq1 w ↦ rw (w.left-is, w.out-is) (prefix_below w.if-level-eq1.true w.read_prefix-left.ensures)
      | read-else-level-eq1 w ↦ rw (w.left-is, w.out-is) w.read-left.ensures
    ] in
    joined (above_zero c.requires.above) (c.decreases, c.requires.readable) first (search rules) c.after_mark.ensures c.read-right.ensures
    c.infix_op-op.ensures c.write.ensures.result c.write.ensures.stored

pub read_prefix-bounds-self-self : goal.read_prefix-bounds-self-self
read_prefix-bounds-self-self t c =
    starts c.requires

pub read_prefix-after_mark-inner-requires-clause-mark : goal.read_prefix-after_mark-inner-requires-clause-mark
read_prefix-after_mark-inner-requires-clause-mark t c =
    starts c.requires

pub read_prefix-read-end-requires : goal.read_prefix-read-end-requires
read_prefix-read-end-requires t c =
    let l = held_ready c.after_mark-inner.ensures (sym c.mark_kind.ensures ∙ c.in-Open.is) c.requires c.decreases in
    (l.0, (omega arith, l.1))

pub read_prefix-after_mark-requires-clause-mark : goal.read_prefix-after_mark-requires-clause-mark
read_prefix-after_mark-requires-clause-mark t c =
    close_inside c.after_mark-inner.ensures (sym c.mark_kind.ensures ∙ c.in-Open.is) c.requires c.read-end.ensures

pub read_prefix-after_mark-requires-clause-few : goal.read_prefix-after_mark-requires-clause-few
read_prefix-after_mark-requires-clause-few t c =
    close_few c.after_mark-inner.ensures (sym c.mark_kind.ensures ∙ c.in-Open.is) c.requires c.read-end.ensures

pub read_prefix-returns-in-Open : goal.read_prefix-returns-in-Open
read_prefix-returns-in-Open t c =
    wrapped c.after_mark-inner.ensures (sym c.mark_kind.ensures ∙ c.in-Open.is) c.requires c.read-end.ensures c.after_mark.ensures

pub read_prefix-read_prefix-operand-requires : goal.read_prefix-read_prefix-operand-requires
read_prefix-read_prefix-operand-requires t c =
    bound_ready c.after_mark-inner.ensures (sym c.mark_kind.ensures ∙ c.in-Prefix.is) c.requires c.decreases

pub read_prefix-write-requires : goal.read_prefix-write-requires
read_prefix-write-requires t c =
    prefix_fits c.after_mark-inner.ensures (sym c.mark_kind.ensures ∙ c.in-Prefix.is) c.requires c.read_prefix-operand.ensures c.read_prefix-operand.auto.out

pub read_prefix-returns-in-Prefix : goal.read_prefix-returns-in-Prefix
read_prefix-returns-in-Prefix t c =
    prefixed c.after_mark-inner.ensures (sym c.mark_kind.ensures ∙ c.in-Prefix.is) c.requires c.read_prefix-operand.ensures
    c.prefix_op.ensures c.write.ensures.result c.write.ensures.stored

pub read_prefix-write-requires-in_default : goal.read_prefix-write-requires-in_default
read_prefix-write-requires-in_default t c =
    operand_fits c.after_mark-inner.ensures c.requires

pub read_prefix-returns-in_default : goal.read_prefix-returns-in_default
read_prefix-returns-in_default t c =
    single c.after_mark-inner.ensures
    (is_operand c.requires (λ e. c.in_default.not-Open (c.mark_kind.ensures ∙ e)) (λ e. c.in_default.not-Prefix (c.mark_kind.ensures ∙ e)))
    c.write-in_default.ensures.result c.operand_node.ensures c.write-in_default.ensures.stored
