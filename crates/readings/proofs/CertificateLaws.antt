-- From the test to what a row says: a row with a certificate that passes (proofs/Certificate.antt) holds (specs/Row.antt).
-- Assumes nothing.
use Prim.Native.Nat.{ℕ, ◌+◌, ◌^◌, ◌≤◌, ◌<◌}
use mathlib.Core.Path.{◌≡◌, refl, sym, ◌∙◌, subst}
use mathlib.Core.Bool.{Bool, true, false, not, ◌&&◌, ◌||◌}
use mathlib.Core.List.{List, [], ◌∷◌}
use native.Mathlib.Omega.{arith}
use lib.Dec.{eqb, leb}
use lib.ListN.{length, get_or}
use lib.Pow.{pow_pos}
use borrow.Author.Tests.{eqb-true, eqb-false, leb-true, ltb-false}
use Rattle.plays.specs.declared.mode.Mode.{Mode}
use Rattle.reader.specs.Limits.{text_limit, node_limit, operator_limit, too_long}
use Rattle.reader.specs.Formula.{Formula, size, operators}
use Rattle.reader.specs.Marks.{rule_kind, condition_kind}
use Rattle.reader.specs.Grammar.{Reads}
use Rattle.reader.specs.Reading.{IsGood}
use Rattle.reader.proofs.BoolLaws.{on, clash, or_left, or_right, and_true, not_true→, not_true_is_false}
use Rattle.reader.proofs.StaticLaws.{static}
use Rattle.automaton.specs.Limits.{state_limit}
use Rattle.automaton.specs.Alphabet.{bad_alphabet}
use Rattle.automaton.specs.Bits.{bit}
use Rattle.automaton.specs.Trace.{Satisfies}
use Rattle.automaton.specs.Automaton.{Automaton}
use Rattle.automaton.specs.Condition.{mask_of, Judges}
use Rattle.automaton.specs.Discovery.{number_of_states}
use Rattle.automaton.proofs.ConditionLaws.{mask_judges, mask_empty}
use Rattle.plays.specs.Arena.{Arena}
use Rattle.plays.specs.Round.{Reaching, RoundNumber}
use Rattle.plays.specs.inner.Rank.{is_fair}
use Rattle.plays.proofs.ModeLaws.{same_mode}
use Rattle.game.specs.Given.{none_below}
use Rattle.game.proofs.MetLaws.{none_passes, some_passes}
use Rattle.readings.specs.Lists.{transitions_of, flags_of}
use Rattle.readings.specs.Row.{Row, Line, decided, unsatisfiable, letters_of, arena_for, VerdictOn, RowHolds, Unmet, LineHolds, All}
use Rattle.readings.proofs.Tree.{formula_of, reads_by}
use Rattle.readings.proofs.TreeLaws.{reads}
use Rattle.readings.proofs.ListLaws.{computed}
use Rattle.readings.proofs.TestLaws.{WinsFrom, won, numbered, verdict}
use Rattle.readings.proofs.Certificate.{Certificate, alphabet_passes, texts_pass, sizes_pass, read_passes, empty_passes, count_passes, winner_passes}
use Rattle.readings.proofs.Certificate.{passes_with, passes, unmet_passes, line_passes, all_pass}

-- two masks that judge as the condition does agree
judge_alike : (κ : Formula) (i m m' : ℕ) → Judges κ i m → Judges κ i m' → (x : ℕ) → x < 2 ^ i → bit m x ≡ bit m' x
judge_alike κ i m m' J J' x h =
    on (bit m x)
    (λ e. e ∙ sym ((J' x h).1 ((J x h).0 e)))
    (λ e. on (bit m' x) (λ e'. clash (bit m x) ((J x h).1 ((J' x h).0 e')) e) (λ e'. e ∙ sym e'))

-- what concerns the texts
module _ (i o : ℕ) (rule condition : List ℕ) (c : Certificate) where
  abbrev rule_formula : Formula
  rule_formula = formula_of i c.rule

  abbrev condition_formula : Formula
  condition_formula = formula_of i c.condition

  module _ (e : read_passes i o rule condition c rule_formula condition_formula ≡ true) where
    read_parts : (alphabet_passes i o ≡ true) × (texts_pass i o rule condition c ≡ true) × (sizes_pass rule_formula condition_formula ≡ true)
    unfolding read_passes
    read_parts =
        let t = and_true (alphabet_passes i o) (texts_pass i o rule condition c && sizes_pass rule_formula condition_formula) e in
        let u = and_true (texts_pass i o rule condition c) (sizes_pass rule_formula condition_formula) t.1 in
        (t.0, u.0, u.1)

    alphabet : bad_alphabet i o ≡ false
    unfolding alphabet_passes
    alphabet = not_true→ (bad_alphabet i o) read_parts.0

    texts : ((too_long rule || too_long condition) ≡ false)
        × (reads_by (rule_kind i o) rule c.rule ≡ true)
        × (reads_by (condition_kind i) condition c.condition ≡ true)
    unfolding texts_pass
    texts =
        let long = too_long rule || too_long condition in
        let x = reads_by (rule_kind i o) rule c.rule in
        let y = reads_by (condition_kind i) condition c.condition in
        let u = and_true (not long) (x && y) read_parts.1 in
        let v = and_true x y u.1 in
        (not_true→ long u.0, v.0, v.1)

    fits : (length rule ≤ text_limit) × (length condition ≤ text_limit)
    fits = (
      ltb-false text_limit (length rule) (or_left (too_long rule) (too_long condition) texts.0),
      ltb-false text_limit (length condition) (or_right (too_long rule) (too_long condition) texts.0),
    )

    sizes : (size rule_formula ≤ node_limit) × (operators rule_formula ≤ operator_limit) × (size condition_formula ≤ node_limit)
    unfolding sizes_pass
    sizes =
        let φ = rule_formula in
        let κ = condition_formula in
        let u = and_true (leb (size φ) node_limit) (leb (operators φ) operator_limit && leb (size κ) node_limit) read_parts.2 in
        let v = and_true (leb (operators φ) operator_limit) (leb (size κ) node_limit) u.1 in
        (leb-true (size φ) node_limit u.0, leb-true (operators φ) operator_limit v.0, leb-true (size κ) node_limit v.1)

    -- the rule's text has the tree's formula, and so has the condition's, which has no temporal operator
    rule_good : IsGood i (rule_kind i o) rule rule_formula
    rule_good = record { short = fits.0; reads = reads i (rule_kind i o) rule c.rule texts.1; few_nodes = sizes.0; few_operators = sizes.1 }

    condition_read : Reads i (condition_kind i) condition condition_formula
    condition_read = reads i (condition_kind i) condition c.condition texts.2

    condition_good : IsGood i (condition_kind i) condition condition_formula
    condition_good =
        record { short = fits.1; reads = condition_read; few_nodes = sizes.2; few_operators = omega (arith, static 0 condition_read) }

  -- a row whose condition no input meets holds where its certificate passes
  pub unmet_reading : unmet_passes i o rule condition c ≡ true → Unmet i o rule condition
  unfolding unmet_passes empty_passes
  unmet_reading e =
      let φ = rule_formula in
      let κ = condition_formula in
      let w = and_true (read_passes i o rule condition c φ κ) (empty_passes i κ) e in
      let g = condition_good w.0 in
      record {
        small = alphabet w.0;
        formula = φ;
        good = rule_good w.0;
        short = (texts w.0).0;
        none = (κ, g, (mask_empty κ i (static 0 g.reads)).0 (eqb-true (mask_of κ i) 0 w.1));
      }

-- a mask that is not 0 is of a condition that some input number satisfies
some_meets : (κ : Formula) (i : ℕ) → operators κ ≡ 0 → (mask_of κ i ≡ 0 → ⊥) → (x : ℕ) × (x < 2 ^ i) × Satisfies κ (x ∷ [])
some_meets κ i e some =
    let judges = mask_judges κ i e in
    let w =
    some_passes (bit (mask_of κ i)) (2 ^ i)
    (not_true_is_false (none_below (bit (mask_of κ i)) (2 ^ i))
    (λ t. some ((mask_empty κ i e).1 (λ x h s. clash (bit (mask_of κ i) x) ((judges x h).1 s) (none_passes (bit (mask_of κ i)) (2 ^ i) t x h))))) in
    (w.0, w.1, (judges w.0 w.1).0 w.2)

-- the parts of the test of a row with a verdict
module _ (r : Row) (c : Certificate) (e : passes r c ≡ true) where
  abbrev i : ℕ
  i = r.inputs

  abbrev L : ℕ
  L = letters_of r

  abbrev φ : Formula
  φ = formula_of i c.rule

  abbrev κ : Formula
  κ = formula_of i c.condition

  abbrev read_test : Bool
  read_test = read_passes i r.outputs r.rule r.condition c φ κ

  parts : (read_test ≡ true) × (empty_passes i κ ≡ false) × (count_passes r φ ≡ true) × (winner_passes r c φ κ ≡ true)
  unfolding passes passes_with
  parts =
      let t = and_true read_test (not (empty_passes i κ) && (count_passes r φ && winner_passes r c φ κ)) e in
      let u = and_true (not (empty_passes i κ)) (count_passes r φ && winner_passes r c φ κ) t.1 in
      let v = and_true (count_passes r φ) (winner_passes r c φ κ) u.1 in
      (t.0, not_true→ (empty_passes i κ) u.0, v.0, v.1)

  count : (r.count ≡ number_of_states φ L) × (r.count ≤ state_limit)
  unfolding count_passes
  count =
      let u = and_true (eqb r.count (number_of_states φ L)) (leb r.count state_limit) parts.2 in
      (eqb-true r.count (number_of_states φ L) u.0, leb-true r.count state_limit u.1)

  -- the computed lists hold the automaton with the row's number of states
  pub held : Automaton φ L r.count (transitions_of φ L) (flags_of φ L)
  held =
      let n : r.count ≡ number_of_states φ L = count.0 in
      let few : r.count ≤ state_limit = count.1 in
      subst (λ (m : ℕ). Automaton φ L m (transitions_of φ L) (flags_of φ L)) (sym n) (computed φ L (pow_pos (i + r.outputs)) (omega arith))

  static_condition : operators κ ≡ 0
  static_condition = static 0 (condition_read i r.outputs r.rule r.condition c parts.0)

  judged_so : Judges κ i (mask_of κ i)
  judged_so = mask_judges κ i static_condition

  met_so : (x : ℕ) × (x < 2 ^ i) × Satisfies κ (x ∷ [])
  unfolding empty_passes
  met_so = some_meets κ i static_condition (eqb-false (mask_of κ i) 0 parts.1)

  -- lists that hold the automaton, and a mask that judges as the condition does
  module _ (t f : List ℕ) (m : ℕ) (B : Automaton φ L r.count t f) (J : Judges κ i m) where
    abbrev G : Arena
    G = arena_for r t f m

    -- the start has a rank, and the certificate's table wins from every state that has one
    all_won : (0 < get_or c.ranks 0 0) × ((s : ℕ) → 0 < get_or c.ranks s 0 → WinsFrom r.round r.mode G c.table s)
    unfolding winner_passes
    all_won =
        subst (λ (d : Mode). (0 < get_or c.ranks 0 0) × ((s : ℕ) → 0 < get_or c.ranks s 0 → WinsFrom r.round d G c.table s))
        (same_mode r.mode)
        (won i r.outputs φ r.count (mask_of κ i) m (transitions_of φ L) (flags_of φ L) t f held B (judge_alike κ i m (mask_of κ i) J judged_so)
        (is_fair r.mode) c.table c.ranks c.inputs r.round parts.3)

    pub ranked_won : (s : ℕ) → 0 < get_or c.ranks s 0 → WinsFrom r.round r.mode G c.table s
    ranked_won = all_won.1

    -- the row's number is the game's round number
    start_numbered : RoundNumber r.mode G (Reaching G 0) r.round
    unfolding winner_passes
    start_numbered =
        subst (λ (d : Mode). RoundNumber d G (Reaching G 0) r.round) (same_mode r.mode)
        (numbered i r.outputs φ r.count (mask_of κ i) m (transitions_of φ L) (flags_of φ L) t f held B (judge_alike κ i m (mask_of κ i) J judged_so)
        (is_fair r.mode) c.table c.ranks c.inputs r.round parts.3)

    start_won : VerdictOn r.round r.mode φ G
    start_won = verdict i r.outputs φ r.count m t f B r.round r.mode c.table (all_won.1 0 all_won.0) start_numbered

  -- a row whose certificate passes holds
  pub reading : RowHolds r
  reading =
      record {
        small = alphabet i r.outputs r.rule r.condition c parts.0;
        formula = φ;
        good = rule_good i r.outputs r.rule r.condition c parts.0;
        assumption = κ;
        assumed = condition_good i r.outputs r.rule r.condition c parts.0;
        judges = judged_so;
        met = met_so;
        short = (texts i r.outputs r.rule r.condition c parts.0).0;
        counted = count.0;
        few = count.1;
        automaton = held;
        verdict = start_won;
      }

  -- with the formulas of the certificate's trees
  pub reading_formulas : (reading.formula ≡ φ) × (reading.assumption ≡ κ)
  unfolding reading
  reading_formulas = (refl, refl)

-- so does every row of a list
line_reading : (l : Line) (c : Certificate) → line_passes l c ≡ true → LineHolds l
unfolding line_passes
line_reading (decided r) c e = reading r c e
line_reading (unsatisfiable i o rule mode condition) c e = unmet_reading i o rule condition c e

pub all_readings : (ls : List Line) (cs : List Certificate) → all_pass ls cs ≡ true → All LineHolds ls
unfolding all_pass
all_readings [] cs e = tt
all_readings (l ∷ ls) [] e = absurd (mathlib.Core.Bool.false≢true e)
all_readings (l ∷ ls) (c ∷ cs) e = let w = and_true (line_passes l c) (all_pass ls cs) e in (line_reading l c w.0, all_readings ls cs w.1)
