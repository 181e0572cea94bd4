-- `automaton::construct::build` meets its contract: the states are listed, and where there is room for them the transitions are filled and the states marked.
-- Assumes nothing.
use mathlib.Core.Path.{refl, sym, ◌∙◌}
use native.Mathlib.Omega.{arith}
use lib.Pow.{pow_mono}
use Rattle.automaton.proofs.BitLaws.{one_shifted}
use Rattle.automaton.proofs.BuildLaws.{built_within, built_beyond, built_short, start_listed, table_of}
use Rattle.automaton.proofs.construct.build.Goals as goal

pub invariant_of-table : goal.invariant_of-table
invariant_of-table c = record { fits = (rw (one_shifted c.args.width c.requires.1) (pow_mono c.requires.1), c.requires.4) }

pub returns-in_default : goal.returns-in_default
returns-in_default c φ tab e v =
    let first = start_listed φ c.args.letters _ c.args.width c.new-states.result c.requires.1 e c.start_word.ensures c.new-states.ensures in
    let many = c.in_default.ensures.listed φ (table_of φ _ c.args.width c.requires.1 e refl tab) first in
    built_beyond φ c.args.letters c.args.room c.args.transitions.now c.args.accepting.now c.requires.3 many

pub returns-then-short_automaton : goal.returns-then-short_automaton
returns-then-short_automaton c φ tab e v =
    let first = start_listed φ c.args.letters _ c.args.width c.new-states.result c.requires.1 e c.start_word.ensures c.new-states.ensures in
    let all = c.in-Some.ensures.listed φ (table_of φ _ c.args.width c.requires.1 e refl tab) first in
    let n = c.in-Some.ensures.count in
    built_short φ c.args.letters c.args.room c.args.transitions.now c.args.accepting.now c.requires.3 c.list_states.new.states all (omega (arith, n.0, n.1))
    c.in-Some.n n.0 (sym c.short_automaton.ensures ∙ c.if-short_automaton.true)

pub returns : goal.returns
returns c φ tab e v =
    let first = start_listed φ c.args.letters _ c.args.width c.new-states.result c.requires.1 e c.start_word.ensures c.new-states.ensures in
    let all = c.in-Some.ensures.listed φ (table_of φ _ c.args.width c.requires.1 e refl tab) first in
    let n = c.in-Some.ensures.count in
    built_within φ c.args.letters c.args.room c.args.transitions.now c.args.accepting.now c.requires.3 c.list_states.new.states all (omega (arith, n.0, n.1))
    c.args.end c.fill_transitions.new.transitions c.mark_states.new.accepting v
    (c.fill_transitions.ensures.filled φ (table_of φ _ c.args.width c.requires.1 e refl tab) all) c.fill_transitions.ensures.kept
    c.mark_states.ensures.marked c.mark_states.ensures.kept c.in-Some.n n.0 (sym c.short_automaton.ensures ∙ c.if-short_automaton.false)
