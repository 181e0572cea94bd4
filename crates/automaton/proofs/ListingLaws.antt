-- The first walk's steps for a list of states that are words (specs/inner/Exploration.antt): the laws of any machine's, at the formula's. The steps of one
-- state s are numbered s * L + a. Assumes nothing.
use Prim.Native.Nat.{ℕ, ◌+◌, ◌*◌, ◌≤◌, ◌<◌}
use mathlib.Core.Path.{◌≡◌, refl, sym, subst}
use mathlib.Core.List.{List, [], ◌∷◌, ◌++◌}
use mathlib.Core.Logic.{inl, inr}
use native.Mathlib.Omega.{arith}
use lib.ListN.{get_or, length, length-append, get_or-append}
use lib.Seq.{get_or-append_seam}
use Rattle.std.specs.Prelude.{Some, None}
use Rattle.machine.specs.inner.Exploration as specs
use Rattle.machine.proofs.ListingLaws as machine
use Rattle.reader.specs.Formula.{Formula}
use Rattle.automaton.specs.Limits.{state_limit}
use Rattle.automaton.specs.State.{start, after, machine_of}
use Rattle.automaton.specs.Discovery.{number_of_states}
use Rattle.automaton.specs.inner.States.{Absent, Extended}
use Rattle.automaton.specs.inner.Exploration.{word_at, Listed, AllListed}
use Rattle.automaton.proofs.StateListLaws.{found_place}

-- before the first step the list holds the start
pub listed_none : (φ : Formula) (L x : ℕ) (list : List ℕ) → list ≡ x ∷ [] → x ≡ start φ → Listed φ L 0 list
listed_none φ L x list is e = subst (λ (l : List ℕ). Listed φ L 0 l) (sym is) (machine.listed_none (machine_of φ) L (word_at (x ∷ [])) e)

-- after the last step the list holds all states
pub listed_all : (φ : Formula) (L t : ℕ) (list : List ℕ) → Listed φ L t list → length list ≤ state_limit → t ≡ length list * L → AllListed φ L list
listed_all φ L t list done few all = machine.listed_all (machine_of φ) L state_limit t (length list) (word_at list) done few all

-- letter a of state s
module _ (φ : Formula) (L s a : ℕ) (list : List ℕ) (hs : s < length list) (ha : a < L) (done : Listed φ L (s * L + a) list) where
  -- the letter has a twin before it, which leads where it does
  pub letter_twin : (b : ℕ) → b < a → ((state : ℕ) → after φ state b ≡ after φ state a) → Listed φ L (s * L + (a + 1)) list
  letter_twin b h twin = machine.letter_twin (machine_of φ) L s a (length list) (word_at list) hs ha done b h twin

  module _ (x : ℕ) (next : x ≡ after φ (get_or list s 0) a) where
    -- the state that it leads to is on the list, or comes to its end
    pub letter_extended : (new : List ℕ) → Extended list x new → Listed φ L (s * L + (a + 1)) new
    letter_extended new (inl (here, e)) =
        let p = here.0 in
        subst (λ (l : List ℕ). Listed φ L (s * L + (a + 1)) l) (sym e)
        (machine.letter_old (machine_of φ) L s a (length list) (word_at list) hs ha done x p next (found_place list x (Some p) here.1)
        (λ q. let l : p < length list = here.1.0 in let z : ⊥ = omega arith in z))
    letter_extended new (inr (absent, e)) =
        let grown = list ++ x ∷ [] in
        let count : length list + 1 ≡ length grown = sym (length-append list (x ∷ [])) in
        subst (λ (l : List ℕ). Listed φ L (s * L + (a + 1)) l) (sym e)
        (subst (λ (n : ℕ). specs.Listed (machine_of φ) L n (s * L + (a + 1)) (word_at grown)) count
        (machine.letter_new (machine_of φ) L s a (length list) (word_at list) hs ha done x (length list) next (found_place list x None absent) refl
        (word_at grown)
        (λ i h. get_or-append list (x ∷ []) 0 i h) (get_or-append_seam list x [] 0)))

    -- there is no room for it
    pub letter_over : Absent list x → length list ≡ state_limit → state_limit < number_of_states φ L
    letter_over absent full =
        let over =
        machine.letter_over (machine_of φ) L s a (length list) (word_at list) hs ha done x (length list) next (found_place list x None absent) refl
        state_limit full in
        let number = (over.beyond refl).number in
        omega arith
