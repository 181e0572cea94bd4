-- What was written is the word as far as it was read.
use lib.ListN.{take}
use Rattle.listing.specs.inner.Writing.{Puts}
use Rattle.listing.proofs.write.Output.put_word.Given as goal

abbrev pub invariant-loop-b : goal.invariant-loop-b
invariant-loop-b l = Puts l.initial.self (take l.b-index l.word) l.self
