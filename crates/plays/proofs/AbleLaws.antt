-- Where an input has the condition, the environment can keep its promise (specs/Endless.antt, `Able`): from any step on it gives that input at every step.
-- Assumes nothing.
use Prim.Native.Nat.{ℕ, zero, suc, ◌+◌, ◌≤◌, ◌<◌}
use mathlib.Core.Path.{◌≡◌, refl, sym, ap, ◌∙◌, subst}
use mathlib.Core.Bool.{true, cond}
use mathlib.Core.List.{List, [], ◌∷◌}
use native.Mathlib.Omega.{arith}
use lib.Dec.{ltb}
use lib.ListN.{length}
use borrow.Author.Tests.{lt-ltb, le-ltb}
use Rattle.plays.specs.declared.mode.Mode.{Mode}
use Rattle.plays.specs.declared.mode.Mode.TheVariants.{Fair, Stable}
use Rattle.plays.specs.Arena.{State, Input, Arena, holds}
use Rattle.plays.specs.Play.{Step, Legal, entered, Along}
use Rattle.plays.specs.Way.{SystemWay, EnvironmentWay, meeting, system_after, environment_after, meet, ByWay}
use Rattle.plays.specs.Endless.{first, inputs, Promised, Able}
use Rattle.reader.proofs.BoolLaws.{on}
use Rattle.plays.proofs.EndlessLaws.{first_long}
use Rattle.plays.proofs.WayLaws.{same_step}

-- the input of step j is the way's, for the j steps before
input_by : (α : EnvironmentWay) (ω : SystemWay) (j : ℕ) → (meet α ω j).input ≡ α (first (meet α ω) j)
unfolding meet first
input_by α ω zero = refl
input_by α ω (suc j) = input_by (environment_after (meeting α ω) α) (system_after (meeting α ω) ω) j

-- one number up to step k, and another from there on
abbrev until : (j k a b : ℕ) → ℕ
until j k a b = cond (ltb j k) a b

until_before : (j k a b : ℕ) → j < k → until j k a b ≡ a
until_before j k a b h = rw (lt-ltb j k h)

until_after : (j k a b : ℕ) → k ≤ j → until j k a b ≡ b
until_after j k a b h = rw (le-ltb j k h)

until_below : (j k a b n : ℕ) → a < n → b < n → until j k a b < n
until_below j k a b n l m = on (ltb j k) (λ t. rw t l) (λ f. rw f m)

-- the inputs of a play, and another one behind its end
unfoldable input_at : List Step → Input → ℕ → Input
input_at [] c j = c
input_at (a ∷ p) c zero = a.input
input_at (a ∷ p) c (suc j) = input_at p c j

input_behind : (p : List Step) (c : Input) (j : ℕ) → length p ≤ j → input_at p c j ≡ c
unfolding input_at
input_behind [] c j h = refl
input_behind (a ∷ p) c zero h = absurd (let z : ⊥ = omega arith in z)
input_behind (a ∷ p) c (suc j) h = input_behind p c j (omega arith)

input_below : (G : Arena) (s : State) (p : List Step) (c : Input) → Along G (λ t a. Legal G a) s p → c < G.inputs → (j : ℕ) → input_at p c j < G.inputs
unfolding input_at Along
input_below G s [] c h l j = l
input_below G s (a ∷ p) c h l zero = h.0.0
input_below G s (a ∷ p) c h l (suc j) = input_below G (entered G s a) p c h.1 l j

-- the way that gives them makes the play again with every way that the play is by
made_again : (G : Arena) (c : Input) (p : List Step) (ω : SystemWay) → ByWay G ω p → first (meet (λ past. input_at p c (length past)) ω) (length p) ≡ p
unfolding input_at ByWay first meet
made_again G c [] ω h = refl
made_again G c (a ∷ p) ω h =
    let m : Step = record { input = a.input; output = ω [] a.input } in
    let e : m ≡ a = sym (same_step a a.input (ω [] a.input) refl h.1) in
    ap (λ (b : Step). b ∷ first (meet (λ past. input_at p c (length past)) (system_after b ω)) (length p)) e
    ∙ ap (λ (q : List Step). a ∷ q) (made_again G c p (system_after a ω) h.2)

module _ (G : Arena) (c : Input) (legal : c < G.inputs) (has : holds G c ≡ true) where
  -- an order that gives the input at every step from k on keeps the promise
  kept_from : (mode : Mode) (k : ℕ) (y : ℕ → Input) → ((j : ℕ) → k ≤ j → y j ≡ c) → Promised mode G y
  kept_from Fair k y h = λ m. (m + k, omega arith, subst (λ (x : ℕ). holds G x ≡ true) (sym (h (m + k) (omega arith))) has)
  kept_from Stable k y h = (k, λ j l. subst (λ (x : ℕ). holds G x ≡ true) (sym (h j l)) has)

  -- a way that does so keeps it against every way of the system
  ways_kept : (mode : Mode) (α : EnvironmentWay) (k : ℕ) (ω : SystemWay) → Promised mode G (inputs (meet (λ past. until (length past) k (α past) c) ω))
  ways_kept mode α k ω =
      let β : EnvironmentWay = λ past. until (length past) k (α past) c in
      kept_from mode k (inputs (meet β ω))
      (λ j l. input_by β ω j
      ∙ until_after (length (first (meet β ω) j)) k (α (first (meet β ω) j)) c (omega (arith, first_long (meet β ω) j)))

  -- so does the way that goes on so after a play
  plays_kept : (mode : Mode) (p : List Step) (ω : SystemWay) → Promised mode G (inputs (meet (λ past. input_at p c (length past)) ω))
  plays_kept mode p ω =
      let β : EnvironmentWay = λ past. input_at p c (length past) in
      kept_from mode (length p) (inputs (meet β ω))
      (λ j l. input_by β ω j ∙ input_behind p c (length (first (meet β ω) j)) (omega (arith, first_long (meet β ω) j)))

  pub able : (mode : Mode) → Able mode G
  able mode =
      record {
        input = c;
        legal = legal;
        has = has;
        orders = λ x l k. (
          λ j. until j k (x j) c,
          λ j. until_below j k (x j) c G.inputs (l j) legal,
          λ j h. until_before j k (x j) c h,
          kept_from mode k (λ j. until j k (x j) c) (λ j h. until_after j k (x j) c h),
        );
        ways = λ α l k. (
          λ past. until (length past) k (α past) c,
          λ past. until_below (length past) k (α past) c G.inputs (l past) legal,
          λ past h. until_before (length past) k (α past) c h,
          ways_kept mode α k,
        );
        plays = λ s p h. (
          λ past. input_at p c (length past),
          λ past. input_below G s p c h legal (length past),
          λ ω by. (made_again G c p ω by, plays_kept mode p ω),
        );
      }
