-- A buffer is determined by the bytes that are settled in it and by what it held before (specs/Buffer.antt).
-- Assumes nothing.
use Prim.Native.Nat.{ℕ, ◌<◌}
use mathlib.Core.Path.{◌≡◌, sym, ◌∙◌}
use mathlib.Core.List.{List}
use lib.Dec.{ltb}
use lib.ListN.{get_or}
use lib.Seq.{ext_get_or}
use borrow.Author.Tests.{ltb-true, ltb-false}
use Rattle.reader.proofs.BoolLaws.{on}
use Rattle.automaton.specs.Buffer.{Kept}

-- two buffers that agree on what is used, and are kept alike beyond it, are one
pub one_buffer : (used : ℕ) (old new new' : List ℕ) → Kept used old new → Kept used old new' → ((k : ℕ) → k < used → get_or new k 0 ≡ get_or new' k 0)
    → new ≡ new'
one_buffer used old new new' c d same =
    ext_get_or 0 new new' (c.size ∙ sym d.size)
    (λ k _. on (ltb k used)
    (λ e. same k (ltb-true k used e))
    (λ e. c.beyond k (ltb-false k used e) ∙ sym (d.beyond k (ltb-false k used e))))
