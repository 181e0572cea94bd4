-- The refusals of the call for a given automaton: which test decides, and what is known where none does.
-- Assumes nothing.
use Rattle.std.proofs.Common.{◌≡◌, ℕ, ◌*◌, ◌<◌, ◌≤◌, Bool, true, false, cond, ◌||◌, ltb, leb, List, length, get_or, take, sym, refl, ap, ◌∙◌, ◌⊎◌, subst, arith, length-take-le, get_or-take, pow_pos, ltb-false, le-ltb, lt-ltb, le-leb, leb-false}
use borrow.Author.Tests.{lt-leb}
use Rattle.std.specs.Prelude.{Option, Some, None}
use Rattle.reader.specs.declared.refusal.Refusal.{Refusal}
use Rattle.reader.specs.declared.refusal.Refusal.TheVariants.{Alphabet, Buffer, GivenCount, Move, State, Value, Unsatisfiable}
use Rattle.automaton.specs.Alphabet.{bad_alphabet, first_over}
use Rattle.automaton.proofs.FirstOverLaws.{none_over, letter_at}
use Rattle.plays.specs.Arena.{Arena, arena}
use Rattle.game.specs.inner.Valid.{Valid}
use Rattle.game.specs.Given.{bad_count, move_count, short_read, short_strategy, short_tables, bad_mask, none_holds, later_refusal, given_refusal}
use Rattle.reader.proofs.BoolLaws.{or_left, or_right}
use Rattle.game.proofs.CheckLaws.{in_range, transitions_long, accepting_long}

-- the moves that are read
abbrev moves : (G : Arena) → List ℕ
moves G = take (move_count G) G.transitions

-- the test that decides, in the order 3, 12, 11, 13, 15
module _ (start : ℕ) (G : Arena) (σ τ : List ℕ) where
  pub short_refused : (short_read G || short_tables G σ τ) ≡ true → Some (Buffer G.states) ≡ later_refusal start G σ τ
  unfolding later_refusal
  short_refused a = rw a

  module _ (a : short_read G ≡ false) where
    module _ (b : short_tables G σ τ ≡ false) where
      pub state_refused : G.states ≤ start → Some State ≡ later_refusal start G σ τ
      unfolding later_refusal
      state_refused c = rw (a, b, le-leb G.states start c)

      module _ (c : start < G.states) where
        pub move_refused : (k : ℕ) → (k ≡ first_over G.states (moves G)) × (k < length (moves G))
            → Some (Move k) ≡ later_refusal start G σ τ
        unfolding later_refusal
        move_refused k d =
            rw (a, b, lt-leb G.states start c, ← d.0, lt-ltb k (length (moves G)) d.1)

        module _ (d : first_over G.states (moves G) ≡ length (moves G)) where
          none_over_bound : ltb (first_over G.states (moves G)) (length (moves G)) ≡ false
          none_over_bound = le-ltb (first_over G.states (moves G)) (length (moves G)) (omega (arith, d))

          pub mask_refused : bad_mask G ≡ true → Some (Value 0) ≡ later_refusal start G σ τ
          unfolding later_refusal
          mask_refused e = rw (a, b, lt-leb G.states start c, none_over_bound, e)

          module _ (e : bad_mask G ≡ false) where
            pub unmet_refused : none_holds G ≡ true → Some Unsatisfiable ≡ later_refusal start G σ τ
            unfolding later_refusal
            unmet_refused f = rw (a, b, lt-leb G.states start c, none_over_bound, e, f)

            pub none_refused : none_holds G ≡ false → None ≡ later_refusal start G σ τ
            unfolding later_refusal
            none_refused f = rw (a, b, lt-leb G.states start c, none_over_bound, e, f)

-- the tests before them, 1 and 10
module _ (i o start : ℕ) (G : Arena) (σ τ : List ℕ) where
  pub alphabet_refused : bad_alphabet i o ≡ true → Some Alphabet ≡ given_refusal i o start G σ τ
  unfolding given_refusal
  alphabet_refused a = rw a

  module _ (a : bad_alphabet i o ≡ false) where
    pub count_refused : bad_count G.states ≡ true → Some GivenCount ≡ given_refusal i o start G σ τ
    unfolding given_refusal
    count_refused b = rw (a, b)

    pub refused_later : bad_count G.states ≡ false → (r : Option Refusal) → r ≡ later_refusal start G σ τ → r ≡ given_refusal i o start G σ τ
    unfolding given_refusal
    refused_later b r h = rw (a, b) h

-- so the refusal of a number that is out of range comes first
pub unsized : (i o start : ℕ) (G : Arena) (σ τ : List ℕ) (y : Refusal)
    → ((bad_alphabet i o ≡ true) × (y ≡ Alphabet)) ⊎ ((bad_alphabet i o ≡ false) × (bad_count G.states ≡ true) × (y ≡ GivenCount))
    → given_refusal i o start G σ τ ≡ Some y
unsized i o start G σ τ y (◌⊎◌.inl u) = sym (ap Some u.1 ∙ alphabet_refused i o start G σ τ u.0)
unsized i o start G σ τ y (◌⊎◌.inr u) = sym (ap Some u.2 ∙ count_refused i o start G σ τ u.0 u.1)

-- where nothing is refused, the test before it passed
pub passed : (b : Bool) (x : Refusal) (y : Option Refusal) → cond b (Some x) y ≡ None → (b ≡ false) × (y ≡ None)
passed true x y e = let z : ◌≡◌ {A = ℕ} 0 1 = cc in absurd (omega arith)
passed false x y e = (refl, e)

-- what is known of an automaton that is not refused
pub record Accepted (i o start : ℕ) (G : Arena) (σ τ : List ℕ) : Type 0 where
  pub alphabet : bad_alphabet i o ≡ false
  pub valid : Valid G
  pub start_fits : start < G.states
  pub inputs_some : 0 < G.inputs
  pub outputs_some : 0 < G.outputs
  pub system_long : G.states * G.inputs ≤ length σ
  pub environment_long : G.states ≤ length τ

record Later (start : ℕ) (G : Arena) (σ τ : List ℕ) : Type 0 where
  pub read : short_read G ≡ false
  pub tables : short_tables G σ τ ≡ false
  pub start_fits : start < G.states
  pub closed : (k : ℕ) → k < move_count G → get_or G.transitions k 0 < G.states
  pub some_holds : none_holds G ≡ false

later_accepted : (start : ℕ) (G : Arena) (σ τ : List ℕ) → later_refusal start G σ τ ≡ None → Later start G σ τ
unfolding later_refusal
later_accepted start G σ τ e =
    let T = moves G in
    let short = passed (short_read G || short_tables G σ τ) (Buffer G.states) _ e in
    let state = passed (leb G.states start) State _ short.1 in
    let move = passed (ltb (first_over G.states T) (length T)) (Move (first_over G.states T)) _ state.1 in
    let mask = passed (bad_mask G) (Value 0) _ move.1 in
    let unmet = passed (none_holds G) Unsatisfiable _ mask.1 in
    let read = or_left (short_read G) (short_tables G σ τ) short.0 in
    let share : length T ≡ move_count G = length-take-le (move_count G) G.transitions (transitions_long G read) in
    record {
      read = read;
      tables = or_right (short_read G) (short_tables G σ τ) short.0;
      start_fits = leb-false G.states start state.0;
      closed = λ k h. subst (λ (v : ℕ). v < G.states) (get_or-take (move_count G) G.transitions k 0 h)
          (letter_at G.states T (none_over G.states T
          (ltb-false (first_over G.states T) (length T) move.0)) k (let q : k < length T = omega arith in q));
      some_holds = unmet.0;
    }

-- some input has the condition
pub met : (i o start : ℕ) (G : Arena) (σ τ : List ℕ) → given_refusal i o start G σ τ ≡ None → none_holds G ≡ false
unfolding given_refusal
met i o start G σ τ e =
    let alphabet = passed (bad_alphabet i o) Alphabet _ e in
    let count = passed (bad_count G.states) GivenCount _ alphabet.1 in
    (later_accepted start G σ τ count.1).some_holds

pub accepted : (i o start n : ℕ) (transitions flags : List ℕ) (mask : ℕ) (σ τ : List ℕ)
    → given_refusal i o start (arena i o n transitions flags mask) σ τ ≡ None
    → Accepted i o start (arena i o n transitions flags mask) σ τ
unfolding given_refusal
accepted i o start n transitions flags mask σ τ e =
    let G = arena i o n transitions flags mask in
    let alphabet = passed (bad_alphabet i o) Alphabet _ e in
    let count = passed (bad_count n) GivenCount _ alphabet.1 in
    let later = later_accepted start G σ τ count.1 in
    let range = in_range n i o alphabet.0 count.0 in
    let tables = later.tables in
    record {
      alphabet = alphabet.0;
      valid = record {
        moving = record {
          states_fit = range.states_fit;
          inputs_fit = range.inputs_fit;
          outputs_fit = range.outputs_fit;
          long = transitions_long G later.read;
          closed = later.closed;
        };
        accepting_long = accepting_long G later.read;
      };
      start_fits = later.start_fits;
      inputs_some = range.inputs_some;
      outputs_some = pow_pos o;
      system_long = ltb-false (length σ) (n * G.inputs) (or_left (short_strategy G σ) (ltb (length τ) n) tables);
      environment_long = ltb-false (length τ) n (or_right (short_strategy G σ) (ltb (length τ) n) tables);
    }
