-- The two reading functions call each other. The measure of a call is six times the bytes left, and on top 0 for what prefix marks bind, else the level and 1:
-- it falls at every mark that is passed, and from a level to the one below.
use Prim.Native.Nat.{suc}
use Rattle.reader.proofs.InfixLaws.{measure}
use Rattle.reader.proofs.levels.Reader.+read.Given as goal

abbrev pub decreases-read : goal.decreases-read
decreases-read l = measure l.self.now.text.now l.self.now (suc l.level)

abbrev pub decreases-read_prefix : goal.decreases-read_prefix
decreases-read_prefix l = measure l.self.now.text.now l.self.now 0
