-- Demand 2 for the buffers (specs/Automaton.antt): transitions and flags of the numbered states hold the automaton of the machine, and a walk in them accepts
-- as the machine does. Assumes nothing.
use Prim.Native.Nat.{ℕ, ◌+◌, ◌*◌, ◌≤◌, ◌<◌}
use mathlib.Core.Path.{◌≡◌, refl, sym, ap, ap₂, ◌∙◌}
use mathlib.Core.Bool.{Bool, true, false}
use mathlib.Core.List.{List, [], ◌∷◌}
use mathlib.Core.Logic.{◌↔◌}
use native.Mathlib.Omega.{arith}
use lib.Arith.{digits_lt, digits_div, digits_mod}
use lib.ListN.{length, get_or}
use Rattle.machine.specs.Letters.{Letter, Trace, Letters}
use Rattle.machine.specs.Machine.{Machine}
use Rattle.machine.specs.Run.{run}
use Rattle.machine.specs.Discovery.{state_at, position, target, states, number_of_states}
use Rattle.machine.specs.Automaton.{move, walk, one, Automaton}
use Rattle.machine.specs.inner.Exploration.{Filled}
use Rattle.machine.proofs.PositionLaws.{get_d_position}
use Rattle.machine.proofs.Reachable.{some_states, first_state, stays_in, numbered}

-- the machine recognizes the good traces: after every non-empty trace it accepts exactly when the trace is good
abbrev pub Recognizes : {S : Type 0} (M : Machine S) (L : ℕ) (Good : Trace → Type 0) → Type 0
Recognizes M L Good = (a : Letter) (w : Trace) → Letters L (a ∷ w) → (M.accepts (run M.after M.first (a ∷ w)) ≡ true) ↔ Good (a ∷ w)

-- the fields `moved` and `marked` of an automaton
abbrev pub Moved : {S : Type 0} (M : Machine S) (L limit n : ℕ) (transitions : List ℕ) → Type 0
Moved M L limit n transitions =
    (s : ℕ) (a : Letter) → s < n → a < L
    → (move transitions L s a < n) × (state_at M (states M L limit) (move transitions L s a) ≡ M.after (state_at M (states M L limit) s) a)

abbrev pub Marked : {S : Type 0} (M : Machine S) (L limit n : ℕ) (accepting : List ℕ) → Type 0
Marked M L limit n accepting = (s : ℕ) → s < n → get_or accepting s 0 ≡ one (M.accepts (state_at M (states M L limit) s))

one_true : (b : Bool) → (one b ≡ 1) ↔ (b ≡ true)
one_true true = (λ e. refl, λ e. refl)
one_true false = (λ e. absurd (let z : ⊥ = omega arith in z), λ e. absurd (mathlib.Core.Bool.true≢false (sym e)))

module _ {S : Type 0} (M : Machine S) (L limit n : ℕ) (pos : 0 < L) (count : n ≡ length (states M L limit)) where
  -- a transition by its state and letter
  pub moved_at : (transitions : List ℕ) → n ≤ limit → Filled M L (states M L limit) transitions (n * L) → Moved M L limit n transitions
  unfolding Filled target
  moved_at transitions few filled s a hs ha =
      let ws = states M L limit in
      let x = M.after (state_at M ws s) a in
      let l : position M x ws < length ws = stays_in M L limit pos (omega arith) s a (omega arith) ha in
      let m : get_or transitions (s * L + a) 0 ≡ position M x ws =
      filled (s * L + a) (digits_lt hs ha) ∙ ap₂ (λ (i j : ℕ). position M (M.after (state_at M ws i) j) ws) (digits_div s ha) (digits_mod s ha) in
      (omega arith, ap (λ (k : ℕ). state_at M ws k) m ∙ get_d_position M ws x l)

  module _ (transitions accepting : List ℕ) (moved : Moved M L limit n transitions) (marked : Marked M L limit n accepting) where
    -- the walk follows the machine's run
    walk_runs : (w : Trace) (s : ℕ) (y : S) → Letters L w → s < n → state_at M (states M L limit) s ≡ y
        → (walk transitions L s w < n) × (state_at M (states M L limit) (walk transitions L s w) ≡ run M.after y w)
    unfolding run Letters
    walk_runs [] s y h l e = (l, e)
    walk_runs (a ∷ w) s y h l e =
        let m = moved s a l h.0 in
        walk_runs w (move transitions L s a) (M.after y a) h.1 m.0 (m.1 ∙ ap (λ (i : S). M.after i a) e)

    -- a trace, the empty one too, leads to an accepting state exactly when the machine accepts after it
    pub walk_accepts : (w : Trace) → Letters L w → (get_or accepting (walk transitions L 0 w) 0 ≡ 1) ↔ (M.accepts (run M.after M.first w) ≡ true)
    walk_accepts w h =
        let f = walk_runs w 0 M.first h (omega (arith, some_states M L limit)) (first_state M L limit) in
        let e : get_or accepting (walk transitions L 0 w) 0 ≡ one (M.accepts (run M.after M.first w)) =
        marked (walk transitions L 0 w) f.0 ∙ ap (λ (y : S). one (M.accepts y)) f.1 in
        let g = one_true (M.accepts (run M.after M.first w)) in
        (λ q. g.0 (sym e ∙ q), λ x. e ∙ g.1 x)

    pub automaton_holds : (Good : Trace → Type 0) → Recognizes M L Good → n ≤ limit → Automaton M Good L limit n transitions accepting
    unfolding number_of_states
    automaton_holds Good recognizes few =
        record {
          count = count;
          numbering = numbered M L limit pos (omega arith);
          moved = moved;
          marked = marked;
          meaning = λ a w h. let f = walk_accepts (a ∷ w) h in let g = recognizes a w h in (λ q. g.0 (f.0 q), λ x. f.1 (g.1 x));
        }
