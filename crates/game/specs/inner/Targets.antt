-- The states that a step may enter, as the code says them.
-- Assumes nothing.
use Rattle.std.specs.Prelude.{Bool, true, false}
use Rattle.plays.specs.Arena.{State}
use Rattle.game.specs.declared.search.Safe.{Safe}
use Rattle.game.specs.declared.search.Safe.TheVariants.{Inside, Outside}
use Rattle.game.specs.declared.search.Targets.{Targets}
use Rattle.game.specs.inner.Serving.{ranked_below, safe_below}

-- whether state t is won
abbrev pub won_by : Targets → State → Bool
won_by targets t = ranked_below targets.won.limit targets.won.ranks.now t

-- whether state t is one of these
abbrev pub in_safe : Safe → State → Bool
in_safe (Inside below) t = safe_below true below.limit below.ranks.now t
in_safe (Outside below) t = safe_below false below.limit below.ranks.now t

-- whether state t is safe
abbrev pub safe_by : Targets → State → Bool
safe_by targets t = in_safe targets.safe t
