-- `reader::levels::Reader::after_mark` meets its contract: the blanks after the mark are skipped, and a temporal mark takes a coordinate. Assumes nothing.
use mathlib.Core.Path.{refl}
use Rattle.reader.proofs.TextLaws.{past_mark, one_for_tick}
use Rattle.reader.proofs.levels.Reader.after_mark.Goals as goal

pub returns : goal.returns
returns c =
    past_mark _ _ (record { same_text = refl; same_inputs = refl }) c.requires.mark c.skip.ensures refl
    (one_for_tick _ c.args.self.now.coordinate _ _ c.is_temporal_mark-takes_coordinate.ensures c.from.ensures)
