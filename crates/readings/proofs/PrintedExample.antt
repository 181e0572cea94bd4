-- The specification's printed example, derived from its four lines: the promise of the listing call (listing, specs/Promise.antt) leaves no other text.
-- Assumes nothing.
use Prim.Native.Nat.{ℕ, ◌+◌, ◌*◌, ◌≤◌, ◌<◌, min}
use mathlib.Core.Path.{◌≡◌, refl, ap, ◌∙◌, subst, subst₂}
use mathlib.Core.Bool.{true, false}
use mathlib.Core.List.{List, [], ◌∷◌, ◌++◌}
use mathlib.Core.Logic.{⊎_elim}
use native.Mathlib.Nat.{min-eq_left}
use native.Mathlib.Omega.{arith}
use lib.Dec.{eqb}
use lib.ListN.{length, get_or, take, drop}
use lib.Seq.{take_all}
use borrow.Author.Tests.{eqb-true, eqb-false}
use Rattle.plays.specs.declared.mode.Mode.{Mode}
use Rattle.reader.proofs.BoolLaws.{on}
use Rattle.reader.specs.Formula.{Formula, size, operators}
use Rattle.reader.specs.Marks.{kind_in, allowed_by, is_temporal_mark, among_of, mark_kind, operand_of, unary_of, binary_of}
use Rattle.reader.specs.Grammar.{without_blanks}
use Rattle.automaton.specs.Bits.{bit, of_bits, gather}
use Rattle.automaton.specs.Condition.{mask_of}
use Rattle.automaton.specs.Valuation.{value, coords, ends, present, end_vector, vectors}
use Rattle.automaton.specs.State.{start, after, accepts}
use Rattle.machine.specs.Discovery.{position, extend, target, look, discovered, states, number_of_states}
use Rattle.std.specs.Prelude.{Ok}
use Rattle.game.specs.declared.answer.Outcome.TheVariants.{Cannot}
use Rattle.game.specs.Answer.{Answer}
use Rattle.plays.specs.declared.mode.Mode.TheVariants.{Fair}
use Rattle.plays.specs.Arena.{Arena, next, goal, holds}
use Rattle.game.specs.Tables.{SystemState, EnvironmentState}
use Rattle.game.specs.Rule.{Buffers, short_buffers}
use Rattle.plays.proofs.Determined.{one_winner}
use Rattle.listing.specs.Decimal.{digits, decimal}
use Rattle.listing.specs.Input.{Line, Asks}
use Rattle.listing.specs.Listing.{state_lines, verdict_lines, listing}
use Rattle.listing.specs.Promise.{lent, Answers, Prints, Listed, Responded}
use Rattle.listing.proofs.RequestLaws.{one_request}
use Rattle.readings.specs.Lists.{list_of, transitions_on, transitions_of, flags_on, flags_of}
use Rattle.readings.specs.Row.{Row, row_of, arena_for}
use Rattle.readings.specs.Example.{example_input, example_listing}
use Rattle.readings.proofs.Tree.{single, prefixed, flat, formula_of, fits, same_bytes, reads_by}
use Rattle.readings.proofs.Test.{below, step_of, output_of, input_of, bytes_of, state_of, wins_of, round_of}
use Rattle.machine.proofs.OneAutomaton.{one_move, one_flag}
use Rattle.readings.proofs.Certificate.{Certificate, certificate, alphabet_passes, texts_pass, sizes_pass, read_passes, empty_passes, count_passes}
use Rattle.readings.proofs.Certificate.{winner_passes, passes_with, passes}
use Rattle.readings.proofs.CertificateLaws.{held, ranked_won, reading, reading_formulas}
use Rattle.readings.proofs.Answers.{Held, answered}
use Rattle.readings.proofs.StateLaws.{other_byte}
use Rattle.readings.proofs.LineLaws.{environment_line, system_line}

-- the example as a row: Fa, fair 1, with i = 1 and o = 0: cannot, 3, 0
abbrev example : Row
example = row_of 1 0 (70 ∷ 97 ∷ []) Fair (49 ∷ []) 3 0

-- the environment never gives a
abbrev never : Certificate
never = certificate (prefixed 70 (single 97)) (single 49) (0 ∷ 0 ∷ []) (1 ∷ 1 ∷ []) []

-- the row's certificate passes
passed : passes example never ≡ true
unfolding passes passes_with read_passes empty_passes alphabet_passes texts_pass sizes_pass count_passes winner_passes reads_by same_bytes fits formula_of flat round_of
    wins_of state_of
    bytes_of input_of output_of step_of below next goal holds mask_of flags_of flags_on transitions_of transitions_on list_of number_of_states states discovered
    look target extend position accepts after start vectors end_vector present ends coords value gather of_bits bit without_blanks binary_of unary_of
    operand_of mark_kind among_of is_temporal_mark allowed_by kind_in operators size
passed = refl

abbrev φ : Formula
φ = formula_of 1 never.rule

abbrev κ : Formula
κ = formula_of 1 never.condition

-- the automaton has three states: input 1 leads to state 2, which is a goal and is not left, and input 0 to state 1
transitions_are : transitions_of φ 2 ≡ 1 ∷ 2 ∷ 1 ∷ 2 ∷ 2 ∷ 2 ∷ []
unfolding formula_of transitions_of transitions_on list_of number_of_states states discovered look target extend position after start vectors present
    ends coords value gather of_bits bit unary_of operand_of operators
transitions_are = refl

flags_are : flags_of φ 2 ≡ 0 ∷ 0 ∷ 1 ∷ []
unfolding formula_of flags_of flags_on list_of number_of_states states discovered look target extend position accepts after start vectors end_vector
    present ends coords value gather of_bits bit unary_of operand_of operators
flags_are = refl

-- what a served call leaves in the buffers
module _ (old new : Buffers) (h : Held example φ κ old new 0) where
  abbrev G : Arena
  G = arena_for example new.transitions new.accepting h.mask

  flag : (s : ℕ) → s < 3 → get_or new.accepting s 0 ≡ get_or (0 ∷ 0 ∷ 1 ∷ []) s 0
  flag s l = one_flag h.automaton (held example never passed) s l ∙ ap (λ (f : List ℕ). get_or f s 0) flags_are

  -- where input x leads from s
  abbrev led : ℕ → ℕ → ℕ
  led s x = get_or (1 ∷ 2 ∷ 1 ∷ 2 ∷ 2 ∷ 2 ∷ []) (s * 2 + x) 0

  leads : (s x : ℕ) → s < 3 → x < 2 → next G s x 0 ≡ led s x
  unfolding next
  leads s x hs hx =
      let e : x + 2 * 0 ≡ x = omega arith in
      ap (λ (k : ℕ). get_or new.transitions (s * 2 + k) 0) e
      ∙ one_move h.automaton (held example never passed) s x hs hx
      ∙ ap (λ (t : List ℕ). get_or t (s * 2 + x) 0) transitions_are

  into_goal : (s x : ℕ) → s < 3 → x < 2 → led s x ≡ 2 → goal G (next G s x 0) ≡ true
  unfolding goal
  into_goal s x hs hx e = rw (leads s x hs hx ∙ e, flag 2 (omega arith)) refl

  -- the environment does not win by input 1 where it leads to the goal
  not_1 : (s : ℕ) → s < 3 → led s 1 ≡ 2 → EnvironmentState Fair G new.system new.environment s → get_or new.environment s 0 ≡ 0
  not_1 s l e w =
      let byte : ℕ = get_or new.environment s 0 in
      let b : byte < 2 = w.byte in
      on (eqb byte 1)
      (λ t. absurd (other_byte w 1 0 (omega arith) (into_goal s 1 l (omega arith) e) (eqb-true byte 1 t)))
      (λ f. let n = eqb-false byte 1 f in omega arith)

  -- where the certificate has a rank the environment wins, so by input 0
  byte_0 : (s : ℕ) → s < 3 → 0 < get_or never.ranks s 0 → led s 1 ≡ 2 → get_or new.environment s 0 ≡ 0
  byte_0 s l rank e =
      ⊎_elim
      (λ w.
      absurd (one_winner Fair G G.states new.system never.table s w.wins
      (ranked_won example never passed new.transitions new.accepting h.mask h.automaton h.judges s rank)))
      (not_1 s l e)
      (h.tables.won s l)

  -- the goal is the system's: both inputs enter it again
  goal_won : SystemState Fair G new.system new.environment 2
  goal_won =
      ⊎_elim
      (λ w. w)
      (λ w. absurd (other_byte w 0 0 (omega arith) (into_goal 2 0 (omega arith) (omega arith) refl) (not_1 2 (omega arith) refl w)))
      (h.tables.won 2 (omega arith))

  -- there is one output number, 0
  output_0 : (x : ℕ) → x < 2 → get_or new.system (4 + x) 0 ≡ 0
  output_0 x l = let b : get_or new.system (4 + x) 0 < 1 = goal_won.bytes x l in omega arith

  -- the listing of these buffers
  lines : listing 1 new (Ok (Cannot 3)) ≡ example_listing
  unfolding example_listing state_lines verdict_lines digits decimal
  lines =
      let a = new.accepting in
      let σ = new.system in
      let τ = new.environment in
      rw (
        environment_line a σ τ 0 (flag 0 (omega arith)) (byte_0 0 (omega arith) (omega arith) refl),
        environment_line a σ τ 1 (flag 1 (omega arith)) (byte_0 1 (omega arith) (omega arith) refl),
        system_line a σ τ 2 (flag 2 (omega arith)) goal_won.other (output_0 0 (omega arith)) (output_0 1 (omega arith)),
      ) refl

-- the buffers that are lent are long enough
long_enough : short_buffers 1 0 3 lent ≡ false
unfolding lent
long_enough = refl

-- the listing of every answer that the rule call may give
answers_listing : (text : List ℕ) → Answers 1 0 Fair (49 ∷ []) (70 ∷ 97 ∷ []) text → text ≡ example_listing
answers_listing text q =
    let e = reading_formulas example never passed in
    let w = answered example (reading example never passed) lent q.new q.answer long_enough q.solved in
    let h : Held example φ κ lent q.new 0 = subst₂ (λ (f k : Formula). Held example f k lent q.new 0) e.0 e.1 w.1 in
    q.listed ∙ ap (λ (x : Answer). listing 1 q.new x) w.0 ∙ lines lent q.new h

-- the four lines are a request
asks : Asks example_input 1 0 Fair (49 ∷ []) (70 ∷ 97 ∷ [])
unfolding example_input Line
asks =
    record {
      short = omega arith;
      inputs = omega arith;
      outputs = omega arith;
      text = refl;
      condition_line = ((λ e. omega arith), tt);
      rule_line = ((λ e. omega arith), ((λ e. omega arith), tt));
    }

-- and no other request, so an answer to one that they are is an answer to it
moved :
    (i o : ℕ) (mode : Mode) (c ρ text : List ℕ) → (i ≡ 1) × (o ≡ 0) × (mode ≡ Fair) × (c ≡ 49 ∷ []) × (ρ ≡ 70 ∷ 97 ∷ []) → Answers i o mode c ρ text
    → Answers 1 0 Fair (49 ∷ []) (70 ∷ 97 ∷ []) text
moved i o mode c ρ text e q =
    subst (λ (j : ℕ). Answers j 0 Fair (49 ∷ []) (70 ∷ 97 ∷ []) text) e.0
    (subst (λ (j : ℕ). Answers i j Fair (49 ∷ []) (70 ∷ 97 ∷ []) text) e.1
    (subst (λ (m : Mode). Answers i o m (49 ∷ []) (70 ∷ 97 ∷ []) text) e.2
    (subst (λ (l : List ℕ). Answers i o mode l (70 ∷ 97 ∷ []) text) e.3
    (subst (λ (l : List ℕ). Answers i o mode c l text) e.4 q))))

prints_listing : (text : List ℕ) → Prints example_input text → text ≡ example_listing
prints_listing text =
    ⊎_elim
    (λ q. answers_listing text (moved q.i q.o q.mode q.condition q.rule text (one_request q.asks asks) q.answers))
    (λ q. absurd (q.none 1 0 Fair (49 ∷ []) (70 ∷ 97 ∷ []) asks))

-- the promise of the listing call on the four lines: the output begins with the specification's listing as far as it fits, and the rest of it is as it was
pub printed_example : {output output' : List ℕ} {r : ℕ} → Listed example_input output output' r
    → (output' ≡ take (length output) example_listing ++ drop (length example_listing) output) × (r ≡ min (length example_listing) (length output))
printed_example {output} {output'} {r} l =
    subst (λ (text : List ℕ). (output' ≡ take (length output) text ++ drop (length text) output) × (r ≡ min (length text) (length output)))
    (prints_listing l.text l.prints) (l.written, l.count)

-- an output of at least its 37 bytes holds the whole of it
pub printed_whole : {output output' : List ℕ} {r : ℕ} → Listed example_input output output' r → 37 ≤ length output
    → (r ≡ 37) × (output' ≡ example_listing ++ drop 37 output)
unfolding example_listing
printed_whole {output} {output'} {r} l h =
    let w = printed_example l in
    (w.1 ∙ min-eq_left h, w.0 ∙ ap (λ (t : List ℕ). t ++ drop 37 output) (take_all (length output) example_listing h))

-- the promise of the program's call where what was read is the four lines: it answers with the whole of the listing
pub printed_response : {bytes output output' : List ℕ} {got r : ℕ} → take got bytes ≡ example_input → Responded bytes got output output' r
    → (r ≡ 37) × (take r output' ≡ example_listing)
unfolding example_listing
printed_response {bytes} {output} {output'} {got} {r} e x =
    let t : x.text ≡ example_listing = prints_listing x.text (subst (λ (i : List ℕ). Prints i x.text) e x.prints) in
    (x.count ∙ ap (λ (l : List ℕ). length l) t, x.whole ∙ t)
