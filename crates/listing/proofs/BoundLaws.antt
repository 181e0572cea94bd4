-- What the program prints has at most `output_size` bytes, so that an output of that size holds the whole of it.
-- Assumes nothing.
use Prim.Native.Nat.{ℕ, zero, suc, ◌^◌, ◌≤◌, ◌<◌}
use mathlib.Core.Path.{◌≡◌, sym, subst, ◌∙◌}
use mathlib.Core.Logic.{⊎_elim}
use mathlib.Core.List.{List}
use native.Mathlib.Nat.{min-eq_left}
use native.Mathlib.Omega.{arith}
use lib.Dec.{ltb}
use lib.ListN.{length, take, drop}
use lib.Pow.{pow_mono, pow_pos}
use lib.Seq.{take_all, take-append_seam}
use borrow.Author.Tests.{ltb-false}
use Rattle.plays.specs.declared.mode.Mode.{Mode}
use Rattle.std.specs.Prelude.{Option, None, Ok, Err}
use Rattle.reader.specs.declared.reading.Unreadable.TheVariants.{Bad}
use Rattle.reader.specs.declared.refusal.Refusal.{Refusal}
use Rattle.reader.specs.declared.marks.Kind.{Kind}
use Rattle.reader.specs.Limits.{text_limit}
use Rattle.reader.specs.Reading.{Reading, ReadingOf}
use Rattle.reader.specs.Refusal.{number_of, place_of, first_place}
use Rattle.reader.proofs.BoolLaws.{or_left, or_right}
use Rattle.reader.proofs.RefusalLaws.{number_range}
use Rattle.automaton.specs.Limits.{number_limit}
use Rattle.automaton.specs.Condition.{mask_of}
use Rattle.plays.specs.Arena.{arena}
use Rattle.plays.proofs.RoundLaws.{round_bound}
use Rattle.game.specs.Answer.{Answer, verdict_of}
use Rattle.game.specs.Rule.{Buffers, RuleServed, RuleSolved}
use Rattle.game.proofs.AnswerLaws.{verdict_can}
use Rattle.game.proofs.FirstRefusal.{Early, first_has, Served, first_served}
use Rattle.game.proofs.FirstRefusal.{alphabet, text_length, rule_text, rule_nodes, rule_operators, condition_text, condition_nodes, unsatisfiable}
use Rattle.game.proofs.RuleLaws.{some_state}
use Rattle.listing.specs.Listing.{listing, state_line, can_word, cannot_word}
use Rattle.listing.specs.Promise.{output_size, Prints, Listed}
use Rattle.listing.proofs.LengthLaws.{system_length, environment_length, line_length_lem, verdict_length, refusal_length}
use Rattle.listing.proofs.PromiseLaws.{served_or_refused}

number_small : (x : Refusal) → number_of x ≤ 15
number_small x = (number_range x).1

-- the place of a bad text
place_within : (i : ℕ) (kind : ℕ → Kind) (text : List ℕ) (ρ : Reading) → ReadingOf i kind text ρ → (k : ℕ) → ρ ≡ Err (Bad k) → k ≤ text_limit
unfolding ReadingOf
place_within i kind text ρ h k e =
    let p : ReadingOf i kind text (Err (Bad k)) = subst (λ (x : Reading). ReadingOf i kind text x) e h in
    omega (arith, p.0, p.1.within)

module _ {mode : Mode} {i o : ℕ} {rule condition : List ℕ} {old new : Buffers} {r : Answer} (m : RuleSolved mode i o rule condition old new r) where
  early_place : (x : Refusal) → Early m.reading m.condition_reading x → place_of x ≤ text_limit
  early_place x alphabet = omega arith
  early_place x text_length = omega arith
  early_place x (rule_text k e) = place_within i _ rule m.reading m.read k e
  early_place x rule_nodes = omega arith
  early_place x rule_operators = omega arith
  early_place x (condition_text k e) = place_within i _ condition m.condition_reading m.condition_read k e
  early_place x condition_nodes = omega arith
  early_place x unsatisfiable = omega arith

  refusal_place : first_place m.refusal ≤ text_limit
  refusal_place =
      subst (λ (x : Option Refusal). first_place x ≤ text_limit) (sym m.first)
      (first_has (λ x. first_place x ≤ text_limit) i o rule condition old m.states m.reading m.condition_reading m.none
      record { before = early_place; count = λ _. omega arith; buffer = λ _ _ _. omega arith; nothing = λ _ _ _ _. omega arith })

  module _ (z : m.refusal ≡ None) where
    passed : Served i o old m.none m.states
    passed = first_served i o rule condition old m.reading m.condition_reading m.none m.states (sym m.first ∙ z)

    few_inputs : 2 ^ i ≤ number_limit
    few_inputs = pow_mono {j = 4} (ltb-false 4 i (or_left (ltb 4 i) (ltb 4 o) passed.0))

    few_outputs : 2 ^ o ≤ number_limit
    few_outputs = pow_mono {j = 4} (ltb-false 4 o (or_right (ltb 4 i) (ltb 4 o) passed.0))

    -- the round number is at most n, since the system's table does with n
    served_round : (k : ℕ) → RuleServed mode i o rule condition old new m.states k → k ≤ m.states
    served_round zero v = omega arith
    served_round (suc k) v =
        let G = arena i o m.states new.transitions new.accepting (mask_of v.assumption i) in
        round_bound mode G new.system 0 m.states (suc k) (some_state v.automaton) (pow_pos o) (v.verdict.system (omega arith)).0.wins
        v.verdict.round

    served_line : {k : ℕ} → RuleServed mode i o rule condition old new m.states k → (s : ℕ) → s < m.states
        → length (state_line (2 ^ i) new.accepting new.system new.environment s) ≤ 56
    served_line v s h =
        let p = few_inputs in
        let q = few_outputs in
        let l = passed.2 in
        line_length_lem (2 ^ i) new.accepting new.system new.environment s (omega arith)
        (⊎_elim
        (λ w. system_length (2 ^ i) p new.system new.environment s w.other (λ x g. let b = w.bytes x g in omega arith))
        (λ w. environment_length (2 ^ i) p new.system new.environment s (let b = w.byte in omega arith))
        (v.tables.won s h))

    served_length : (k : ℕ) → RuleServed mode i o rule condition old new m.states k → length (listing i new (Ok (verdict_of m.states k))) ≤ output_size
    served_length zero v =
        verdict_length (2 ^ i) new.accepting new.system new.environment cannot_word m.states 0 (omega arith) passed.2 (omega arith)
        (served_line v)
    served_length (suc k) v =
        rw (verdict_can m.states (suc k) (λ e. omega arith))
        (verdict_length (2 ^ i) new.accepting new.system new.environment can_word m.states (suc k) (omega arith) passed.2
        (served_round (suc k) v) (served_line v))

  pub listing_length : length (listing i new r) ≤ output_size
  listing_length =
      ⊎_elim
      (λ z.
      let v = m.served z in
      subst (λ (x : Answer). length (listing i new x) ≤ output_size) (sym v.1) (served_length z v.0 v.2))
      (λ e.
      subst (λ (x : Answer). length (listing i new x) ≤ output_size) (sym e.1.1)
      (refusal_length (number_of e.0) (place_of e.0) (number_small e.0)
      (subst (λ (x : Option Refusal). first_place x ≤ text_limit) e.1.0 refusal_place)))
      (served_or_refused m)

-- what the program prints is no longer than its output
pub prints_length : {input text : List ℕ} → Prints input text → length text ≤ output_size
prints_length {input} {text} p =
    ⊎_elim
    (λ q. subst (λ (t : List ℕ). length t ≤ output_size) (sym q.answers.listed) (listing_length q.answers.solved))
    (λ q. subst (λ (t : List ℕ). length t ≤ output_size) (sym q.refused) (refusal_length 14 0 (omega arith) (omega arith)))
    p

-- an output of that size holds the whole text, and nothing else among its first r bytes
pub listed_whole : {input output output' : List ℕ} {r : ℕ} (l : Listed input output output' r) → output_size ≤ length output
    → (r ≡ length l.text) × (take r output' ≡ l.text)
listed_whole {input} {output} {output'} {r} l h =
    let b : length l.text ≤ length output = let g = prints_length l.prints in omega arith in
    let e : r ≡ length l.text = l.count ∙ min-eq_left b in
    (e, rw (e, l.written, take_all (length output) l.text b) (take-append_seam l.text (drop (length l.text) output)))
