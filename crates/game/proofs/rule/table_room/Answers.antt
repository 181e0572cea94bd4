-- `game::rule::table_room` meets its contract: what it returns is the smaller of the rows of one table and the bytes of the other.
-- Assumes nothing.
use Rattle.std.proofs.Common.{◌≡◌, ℕ, ◌*◌, ◌/◌, ◌^◌, ◌<◌, min, ◌||◌, ltb, length, subst, arith, pow_pos}
use Rattle.automaton.proofs.AlphabetLaws.{power_is}
use Rattle.game.proofs.RuleCheckLaws.{room_short}
use Rattle.game.proofs.rule.table_room.Goals as goal

pub returns-then-rows-environment : goal.returns-then-rows-environment
returns-then-rows-environment c =
    let inputs_are : c.power.result ≡ 2 ^ c.args.i = power_is c.args.i c.power.result (omega arith) c.power.ensures in
    let some_inputs : 0 < c.power.result = rw inputs_are (pow_pos c.args.i) in
    let room : (r : ℕ) → r ≡ min (length c.args.system.now / c.power.result) (length c.args.environment.now)
    → (n : ℕ) → ltb r n ≡ (ltb (length c.args.system.now) (n * 2 ^ c.args.i) || ltb (length c.args.environment.now) n) = λ r e n. let σ = length c.args.system.now in
    let τ = length c.args.environment.now in
    subst (λ (P : ℕ). ltb r n ≡ (ltb σ (n * P) || ltb τ n)) inputs_are (room_short σ τ c.power.result r some_inputs e n) in
    room _ (omega arith)
