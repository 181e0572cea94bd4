-- `automaton::explore::list_states` meets its contract. Assumes nothing.
use Prim.Native.Nat.{ℕ, ◌*◌}
use mathlib.Core.Path.{◌≡◌, ap}
use native.Mathlib.Omega.{arith}
use lib.ListN.{length}
use Rattle.automaton.proofs.ListingLaws.{listed_all}
use Rattle.automaton.proofs.explore.list_states.Goals as goal

pub returns-clause-listed : goal.returns-clause-listed
returns-clause-listed c φ t first =
    let i = c.loop-s.invariant in
    let all : c.loop-s.s ≡ length c.loop-s.states = omega (arith, i.some, c.count.ensures.count, c.loop-s-test.false) in
    listed_all φ _ _ c.loop-s.states (i.listed φ t first) (omega (arith, c.count.ensures.count, c.count.ensures.few))
    (ap (λ (k : ℕ). k * c.args.twins.table.letters) all)
