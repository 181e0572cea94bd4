-- The certificate of a row and the test that antt computes on it: numbers and trees only, no proof.
-- Assumes nothing.
use Prim.Native.Nat.{ℕ}
use mathlib.Core.Bool.{Bool, true, false, not, ◌&&◌, ◌||◌}
use mathlib.Core.List.{List, [], ◌∷◌}
use lib.Dec.{eqb, leb}
use Rattle.reader.specs.Text.{Text}
use Rattle.reader.specs.Limits.{node_limit, operator_limit, too_long}
use Rattle.reader.specs.Formula.{Formula, size, operators}
use Rattle.reader.specs.Marks.{rule_kind, condition_kind, kind_in}
use Rattle.automaton.specs.Limits.{state_limit}
use Rattle.automaton.specs.Alphabet.{bad_alphabet}
use Rattle.automaton.specs.Condition.{mask_of}
use Rattle.machine.specs.Discovery as machine
use Rattle.automaton.specs.Discovery.{number_of_states}
use Rattle.plays.specs.inner.Rank.{is_fair}
use Rattle.readings.specs.Lists.{transitions_of, flags_of}
use Rattle.readings.specs.Row.{Row, Line, decided, unsatisfiable, letters_of, arena_for}
use Rattle.readings.proofs.Tree.{Tree, formula_of, reads_by}
use Rattle.readings.proofs.Test.{round_of}

-- how the rule and the condition are read; for a verdict the winner's table and ranks, and inputs that beat the system with one less than the round number
pub record Certificate : Type 0 where
  pub rule : Tree
  pub condition : Tree
  pub table : List ℕ
  pub ranks : List ℕ
  pub inputs : List ℕ

abbrev pub certificate : Tree → Tree → List ℕ → List ℕ → List ℕ → Certificate
certificate rule condition table ranks inputs = record { rule = rule; condition = condition; table = table; ranks = ranks; inputs = inputs }

-- i and o are in range
unfoldable pub alphabet_passes : (i o : ℕ) → Bool
alphabet_passes i o = not (bad_alphabet i o)

-- the texts are not too long, and the trees read them
unfoldable pub texts_pass : (i o : ℕ) (rule condition : Text) → Certificate → Bool
unfolding kind_in reads_by
texts_pass i o rule condition c =
    not (too_long rule || too_long condition)
    && (reads_by (rule_kind i o) rule c.rule && reads_by (condition_kind i) condition c.condition)

-- the two formulas are within the limits
unfoldable pub sizes_pass : Formula → Formula → Bool
unfolding size operators
sizes_pass φ κ = leb (size φ) node_limit && (leb (operators φ) operator_limit && leb (size κ) node_limit)

-- all that concerns the texts, over their formulas
unfoldable pub read_passes : (i o : ℕ) (rule condition : Text) → Certificate → Formula → Formula → Bool
unfolding alphabet_passes texts_pass sizes_pass
read_passes i o rule condition c φ κ = alphabet_passes i o && (texts_pass i o rule condition c && sizes_pass φ κ)

-- no input number satisfies the condition
unfoldable pub empty_passes : (i : ℕ) → Formula → Bool
unfolding mask_of
empty_passes i κ = eqb (mask_of κ i) 0

-- the rule has n states, and n is within the limit
unfoldable pub count_passes : Row → Formula → Bool
unfolding machine.number_of_states
count_passes r φ = eqb r.count (number_of_states φ (letters_of r)) && leb r.count state_limit

-- the winner's ranks and the inputs are a certificate on the arena whose lists and mask are computed from the definitions
unfoldable pub winner_passes : Row → Certificate → Formula → Formula → Bool
unfolding round_of transitions_of flags_of mask_of
winner_passes r c φ κ =
    round_of r.round (is_fair r.mode) (arena_for r (transitions_of φ (letters_of r)) (flags_of φ (letters_of r)) (mask_of κ r.inputs)) c.table
    c.ranks c.inputs

-- the test of a row with a verdict, over the two formulas
unfoldable pub passes_with : Row → Certificate → Formula → Formula → Bool
unfolding read_passes empty_passes count_passes winner_passes
passes_with r c φ κ =
    read_passes r.inputs r.outputs r.rule r.condition c φ κ
    && (not (empty_passes r.inputs κ) && (count_passes r φ && winner_passes r c φ κ))

unfoldable pub passes : Row → Certificate → Bool
unfolding passes_with formula_of
passes r c = passes_with r c (formula_of r.inputs c.rule) (formula_of r.inputs c.condition)

-- the test of a row whose condition no input meets
unfoldable pub unmet_passes : (i o : ℕ) (rule condition : Text) → Certificate → Bool
unfolding read_passes empty_passes formula_of
unmet_passes i o rule condition c =
    read_passes i o rule condition c (formula_of i c.rule) (formula_of i c.condition) && empty_passes i (formula_of i c.condition)

unfoldable pub line_passes : Line → Certificate → Bool
unfolding passes unmet_passes
line_passes (decided r) c = passes r c
line_passes (unsatisfiable i o rule mode condition) c = unmet_passes i o rule condition c

-- each row of a list has a certificate that passes
unfoldable pub all_pass : List Line → List Certificate → Bool
unfolding line_passes
all_pass [] cs = true
all_pass (l ∷ ls) [] = false
all_pass (l ∷ ls) (c ∷ cs) = line_passes l c && all_pass ls cs
