-- The rule call answers each row as the specification says: its promise (game, specs/Rule.antt) leaves it no other verdict, no other n and no other round
-- number on a row that holds, and no other refusal where no input meets the condition.
-- Assumes nothing.
use Prim.Native.Nat.{ℕ}
use mathlib.Core.Path.{◌≡◌, refl, sym, ap₂, ◌∙◌, subst, subst₂}
use mathlib.Core.Bool.{true, false}
use mathlib.Core.List.{List, [], ◌∷◌}
use borrow.Author.Tests.{le-ltb}
use Rattle.std.specs.Prelude.{Some, None, Ok, Err}
use Rattle.reader.specs.declared.refusal.Refusal.TheVariants.{Unsatisfiable}
use Rattle.reader.specs.Formula.{Formula, size}
use Rattle.reader.specs.Marks.{rule_kind, condition_kind}
use Rattle.reader.specs.Reading.{ReadingOf, IsGood}
use Rattle.reader.proofs.BoolLaws.{not_true_is_false}
use Rattle.reader.proofs.Unambiguous.{one_formula, one_reading}
use Rattle.automaton.specs.Limits.{state_limit}
use Rattle.automaton.specs.Trace.{Satisfies}
use Rattle.automaton.specs.Automaton.{Automaton}
use Rattle.automaton.specs.Condition.{mask_of, Judges}
use Rattle.game.specs.Answer.{Answer, verdict_of}
use Rattle.plays.specs.declared.mode.Mode.{Mode}
use Rattle.plays.specs.Arena.{arena}
use Rattle.plays.specs.Round.{RoundNumber}
use Rattle.game.specs.Tables.{Tables}
use Rattle.game.specs.Rule.{Satisfied, Buffers, short_buffers, rule_refusal, RuleServed, RuleSolved}
use Rattle.plays.proofs.RoundLaws.{one_round}
use Rattle.readings.specs.Row.{Row, Line, decided, unsatisfiable, letters_of, arena_for, RowHolds, SolvedFor, Unmet, LineHolds, LineAnswered, All}
use Rattle.readings.specs.Rows.{rows}
use Rattle.readings.proofs.Readings.{readings}

-- a good text's reading
good_reading : (i : ℕ) (kind : ℕ → Rattle.reader.specs.declared.marks.Kind.Kind) (text : List ℕ) (φ : Formula) → IsGood i kind text φ
    → ReadingOf i kind text (Ok (size φ))
unfolding ReadingOf
good_reading i kind text φ g = (φ, g, refl)

-- what the buffers hold after a served call with the round number k, in the row's terms, where its texts have the formulas φ and κ
pub record Held (r : Row) (φ κ : Formula) (old new : Buffers) (k : ℕ) : Type 0 where
  pub mask : ℕ
  pub judges : Judges κ r.inputs mask
  pub automaton : Automaton φ (letters_of r) r.count new.transitions new.accepting
  pub tables :
      Tables r.mode (arena_for r new.transitions new.accepting mask) old.system old.environment new.system new.environment
  pub round :
      RoundNumber r.mode (arena_for r new.transitions new.accepting mask) (Satisfied φ (arena_for r new.transitions new.accepting mask)) k

module _ (r : Row) (reading : RowHolds r) (old new : Buffers) (answer : Answer) (long : short_buffers r.inputs r.outputs r.count old ≡ false)
    (solved : SolvedFor r old new answer) where
  abbrev i : ℕ
  i = r.inputs

  abbrev o : ℕ
  o = r.outputs

  -- n is the row's
  same_count : solved.states ≡ r.count
  same_count = solved.counted reading.formula reading.good ∙ sym reading.counted

  -- some input meets the condition
  met : solved.none ≡ false
  met =
      not_true_is_false solved.none
      (λ t.
      let n = solved.none_satisfies.0 t in
      let e : n.0 ≡ reading.assumption = one_formula i 0 false r.condition n.1.reads reading.assumed.reads in
      let x = reading.met in
      n.2 x.0 x.1 (subst (λ (κ : Formula). Satisfies κ (x.0 ∷ [])) (sym e) x.2))

  -- the call is not refused
  served : solved.refusal ≡ None
  unfolding rule_refusal
  served =
      let e = one_reading i o true r.rule solved.read (good_reading i (rule_kind i o) r.rule reading.formula reading.good) in
      let f =
      one_reading i 0 false r.condition solved.condition_read
      (good_reading i (condition_kind i) r.condition reading.assumption reading.assumed) in
      solved.first ∙ rw (reading.small, reading.short, e, f, met, same_count, le-ltb state_limit r.count reading.few, long)

  held : (k : ℕ) → RuleServed r.mode i o r.rule r.condition old new solved.states k
      → Held r reading.formula reading.assumption old new k
  held k s =
      let eφ : s.formula ≡ reading.formula = one_formula i o true r.rule s.good.reads reading.good.reads in
      let eκ : s.assumption ≡ reading.assumption = one_formula i 0 false r.condition s.assumed.reads reading.assumed.reads in
      let mask : ℕ = mask_of s.assumption i in
      record {
        mask = mask;
        judges = subst (λ (κ : Formula). Judges κ i mask) eκ s.judges;
        automaton = subst₂ (λ (φ : Formula) (n : ℕ). Automaton φ (letters_of r) n new.transitions new.accepting) eφ same_count s.automaton;
        tables =
            subst
            (λ (n : ℕ).
            Tables r.mode (arena i o n new.transitions new.accepting mask) old.system old.environment new.system new.environment)
            same_count s.tables;
        round =
            subst₂
            (λ (φ : Formula) (n : ℕ).
            RoundNumber r.mode (arena i o n new.transitions new.accepting mask) (Satisfied φ (arena i o n new.transitions new.accepting mask)) k)
            eφ same_count s.round;
      }

  -- the round number is the row's, and with it the verdict
  same_round : (k : ℕ) → Held r reading.formula reading.assumption old new k → k ≡ r.round
  same_round k h =
      let G = arena_for r new.transitions new.accepting h.mask in
      one_round r.mode G (Satisfied reading.formula G) k r.round h.round
      (reading.verdict new.transitions new.accepting h.mask h.automaton h.judges).round

  -- the answer is the row's, and the buffers hold what was promised
  pub answered : (answer ≡ Ok (verdict_of r.count r.round)) × Held r reading.formula reading.assumption old new r.round
  answered =
      let w = solved.served served in
      let h = held w.0 w.2 in
      let e = same_round w.0 h in
      (w.1 ∙ ap₂ (λ (n k : ℕ). Ok (verdict_of n k)) same_count e, subst (λ (k : ℕ). Held r reading.formula reading.assumption old new k) e h)

-- an unsatisfiable condition is refused by 15
module _ (mode : Mode) (i o : ℕ) (rule condition : List ℕ) (u : Unmet i o rule condition) (old new : Buffers) (answer : Answer)
    (solved : RuleSolved mode i o rule condition old new answer) where
  first_is : solved.refusal ≡ Some Unsatisfiable
  unfolding rule_refusal
  first_is =
      let e = one_reading i o true rule solved.read (good_reading i (rule_kind i o) rule u.formula u.good) in
      let f =
      one_reading i 0 false condition solved.condition_read (good_reading i (condition_kind i) condition u.none.0 u.none.1) in
      solved.first ∙ rw (u.small, u.short, e, f, solved.none_satisfies.1 u.none)

  refused_so : (answer ≡ Err Unsatisfiable) × (new ≡ old)
  refused_so = solved.refused Unsatisfiable first_is

-- every row that holds is answered so
line_answered : (l : Line) → LineHolds l → LineAnswered l
line_answered (decided r) h = λ old new answer long solved. (answered r h old new answer long solved).0
line_answered (unsatisfiable i o rule mode condition) h = refused_so mode i o rule condition h

all_answered : (ls : List Line) → All LineHolds ls → All LineAnswered ls
all_answered [] xs = tt
all_answered (l ∷ ls) xs = (line_answered l xs.0, all_answered ls xs.1)

pub answers : All LineAnswered rows
answers = all_answered rows readings
