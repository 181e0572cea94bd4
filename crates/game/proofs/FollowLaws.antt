-- The follower's answer, by the test that decides.
-- Assumes nothing.
use Rattle.std.proofs.Common.{◌≡◌, ℕ, ◌<◌, ◌≤◌, true, false, not, ◌||◌, ◌⊎◌, eqb, leb, List, get_or, refl, ap, ◌∙◌, le-leb}
use borrow.Author.Tests.{lt-leb}
use Rattle.std.specs.Prelude.{Option, Some, None, Ok, Err}
use Rattle.reader.specs.declared.refusal.Refusal.{Refusal}
use Rattle.reader.specs.declared.refusal.Refusal.TheVariants.{Alphabet, Buffer, GivenCount, Move, State, Value}
use Rattle.reader.specs.Refusal.{first_number, first_place, answer_number, answer_place}
use Rattle.reader.proofs.BoolLaws.{on}
use Rattle.automaton.specs.Alphabet.{bad_alphabet}
use Rattle.game.specs.declared.follow.Position.{Position}
use Rattle.plays.specs.Arena.{Arena, move_index, next, goal}
use Rattle.plays.specs.Strategy.{system_byte}
use Rattle.game.specs.Given.{bad_count, short_read, short_strategy}
use Rattle.game.specs.Follower.{FollowAnswer, moved_by, later_followed, followed, follow_refusal, FollowedBy}

-- the move by output y, as the code has it: where it leads to no state, and where it leads to t
module _ (G : Arena) (p : Position) (x y z t : ℕ) (same : z ≡ y) (is : t ≡ next G p.state x z) where
  pub move_leads_out : G.states ≤ t → Err (Move (move_index G p.state x z)) ≡ moved_by G p x y
  move_leads_out h = rw (← same, ← is, le-leb G.states t h)

  pub move_leads_in : t < G.states → (q : Position) → (q.state ≡ t) × (q.reached ≡ (p.reached || not (eqb (get_or G.accepting t 0) 0)))
      → Ok (Some (record { output = y; next = q })) ≡ moved_by G p x y
  unfolding goal
  move_leads_in h q e = rw (← same, ← is, lt-leb G.states t h) (λ j. Ok (Some (record { output = z; next = record { state = e.0 j; reached = e.1 j } })))

-- the tests, in the order 3, 12, 13, "no row", 11
module _ (G : Arena) (σ : List ℕ) (p : Position) (x : ℕ) where
  pub short_refused : (short_read G || short_strategy G σ) ≡ true → Err (Buffer G.states) ≡ later_followed G σ p x
  unfolding later_followed
  short_refused a = rw a

  module _ (a : short_read G ≡ false) where
    module _ (b : short_strategy G σ ≡ false) where
      pub state_refused : G.states ≤ p.state → Err State ≡ later_followed G σ p x
      unfolding later_followed
      state_refused c = rw (a, b, le-leb G.states p.state c)

      module _ (c : p.state < G.states) where
        pub input_refused : G.inputs ≤ x → Err (Value 0) ≡ later_followed G σ p x
        unfolding later_followed
        input_refused d = rw (a, b, lt-leb G.states p.state c, le-leb G.inputs x d)

        module _ (d : x < G.inputs) where
          pub no_row : G.outputs ≤ system_byte G σ p.state x → Ok None ≡ later_followed G σ p x
          unfolding later_followed
          no_row e = rw (a, b, lt-leb G.states p.state c, lt-leb G.inputs x d, le-leb G.outputs (system_byte G σ p.state x) e)

          pub moved : system_byte G σ p.state x < G.outputs → (r : FollowAnswer) → r ≡ moved_by G p x (system_byte G σ p.state x) → r ≡ later_followed G σ p x
          unfolding later_followed
          moved e r h = rw (a, b, lt-leb G.states p.state c, lt-leb G.inputs x d, lt-leb G.outputs (system_byte G σ p.state x) e) h

-- the tests before them, 1 and 10
module _ (i o : ℕ) (G : Arena) (σ : List ℕ) (p : Position) (x : ℕ) where
  pub alphabet_refused : bad_alphabet i o ≡ true → Err Alphabet ≡ followed i o G σ p x
  unfolding followed
  alphabet_refused a = rw a

  module _ (a : bad_alphabet i o ≡ false) where
    pub count_refused : bad_count G.states ≡ true → Err GivenCount ≡ followed i o G σ p x
    unfolding followed
    count_refused b = rw (a, b)

    pub followed_later : bad_count G.states ≡ false → (r : FollowAnswer) → r ≡ later_followed G σ p x → r ≡ followed i o G σ p x
    unfolding followed
    followed_later b r h = rw (a, b) h

-- so the refusal of a number that is out of range comes first
pub unsized : (i o : ℕ) (G : Arena) (σ : List ℕ) (p : Position) (x : ℕ) (y : Refusal)
    → ((bad_alphabet i o ≡ true) × (y ≡ Alphabet)) ⊎ ((bad_alphabet i o ≡ false) × (bad_count G.states ≡ true) × (y ≡ GivenCount))
    → Err y ≡ followed i o G σ p x
unsized i o G σ p x y (◌⊎◌.inl u) = ap Err u.1 ∙ alphabet_refused i o G σ p x u.0
unsized i o G σ p x y (◌⊎◌.inr u) = ap Err u.2 ∙ count_refused i o G σ p x u.0 u.1

-- the refusal that an answer carries
refusal_in : FollowAnswer → Option Refusal
refusal_in (Ok a) = None
refusal_in (Err x) = Some x

number_in : (r : FollowAnswer) → answer_number r ≡ first_number (refusal_in r)
unfolding refusal_in
number_in (Ok a) = refl
number_in (Err x) = refl

place_in : (r : FollowAnswer) → answer_place r ≡ first_place (refusal_in r)
unfolding refusal_in
place_in (Ok a) = refl
place_in (Err x) = refl

-- is the one that comes first
first_refusal : (i o : ℕ) (G : Arena) (σ : List ℕ) (p : Position) (x : ℕ) → refusal_in (followed i o G σ p x) ≡ follow_refusal i o G σ p x
unfolding followed later_followed follow_refusal refusal_in
first_refusal i o G σ p x =
    let y : ℕ = system_byte G σ p.state x in
    on (bad_alphabet i o) (λ a. rw a)
    (λ a. on (bad_count G.states) (λ b. rw (a, b))
    (λ b. on (short_read G || short_strategy G σ) (λ c. rw (a, b, c))
    (λ c. on (leb G.states p.state) (λ d. rw (a, b, c, d))
    (λ d. on (leb G.inputs x) (λ e. rw (a, b, c, d, e))
    (λ e. on (leb G.outputs y) (λ f. rw (a, b, c, d, e, f))
    (λ f. on (leb G.states (next G p.state x y)) (λ g. rw (a, b, c, d, e, f, g)) (λ g. rw (a, b, c, d, e, f, g))))))))

pub followed_by : (i o : ℕ) (G : Arena) (σ : List ℕ) (p : Position) (x : ℕ) (r : FollowAnswer) → r ≡ followed i o G σ p x → FollowedBy i o G σ p x r
followed_by i o G σ p x r e =
    let f : refusal_in r ≡ follow_refusal i o G σ p x = ap refusal_in e ∙ first_refusal i o G σ p x in
    record { answer = e; number = number_in r ∙ ap first_number f; place = place_in r ∙ ap first_place f }
