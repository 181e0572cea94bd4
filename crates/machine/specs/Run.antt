-- Running: one step after the other, by a list of what each step takes. A machine's run takes letters, and so does a walk along transitions; a play
-- takes steps.
-- Assumes nothing.
use Rattle.std.specs.Prelude.{List, [], ◌∷◌}

-- the state after all steps, from the state s
unfoldable pub run : {S A : Type 0} (step : S → A → S) (s : S) → List A → S
run step s [] = s
run step s (a ∷ w) = run step (step s a) w
