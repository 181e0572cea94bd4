-- `listing::render::Tables::put_winner` meets its contract: the environment's byte decides whose row is written.
-- Assumes nothing.
use mathlib.Core.Path.{sym, ◌∙◌}
use Rattle.listing.proofs.WritingLaws.{joined}
use Rattle.listing.proofs.RenderingLaws.{winner_system, winner_environment}
use Rattle.listing.proofs.render.Tables.put_winner.Goals as goal

pub returns-then-byte_at : goal.returns-then-byte_at
returns-then-byte_at c =
    rw (winner_system c.args.self.inputs c.args.self.system.now c.args.self.environment.now c.args.s (sym c.byte_at.ensures ∙ c.if-byte_at.true))
    (joined c.put.ensures c.put_fields.ensures)

pub returns-else-byte_at : goal.returns-else-byte_at
returns-else-byte_at c =
    rw (winner_environment c.args.self.inputs c.args.self.system.now c.args.self.environment.now c.args.s
    (λ e. c.if-byte_at.false (c.byte_at.ensures ∙ e)))
    (joined c.put-else-byte_at.ensures c.put_fields-else-byte_at.ensures)
