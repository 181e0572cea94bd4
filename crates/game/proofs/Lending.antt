-- Asking for n, and lending so much (specification, "Calls"): a call with no buffers is never served, and after a refusal by 3 every call on the same texts
-- that has room for the n states that were told is served, with this n.
-- Assumes nothing.
use Rattle.std.proofs.Common.{◌≡◌, ℕ, ◌<◌, Bool, true, false, cond, ltb, List, [], sym, refl, ap, ◌∙◌, subst, ⊎_elim, arith, lt-ltb}
use Rattle.std.specs.Prelude.{Some, None, Ok, Err}
use Rattle.reader.specs.declared.refusal.Refusal.{Refusal}
use Rattle.reader.specs.declared.refusal.Refusal.TheVariants.{Buffer, StateCount}
use Rattle.reader.specs.Refusal.{number_of, first_number, answer_number}
use Rattle.reader.proofs.BoolLaws.{clash, or_true}
use Rattle.reader.proofs.RefusalLaws.{refused_or_served, no_number, numbered}
use Rattle.automaton.specs.Limits.{state_limit}
use Rattle.game.specs.Answer.{Answer, verdict_of}
use Rattle.plays.specs.declared.mode.Mode.{Mode}
use Rattle.game.specs.Rule.{Buffers, buffers, short_buffers, rule_refusal, RuleSolved}
use Rattle.game.proofs.FirstRefusal.{early_number, First, early, by_size, comes_first, first_served}
use Rattle.game.proofs.RuleLaws.{some_state}
use Rattle.game.proofs.OneAnswer.{same_first}

-- a refusal by 3 told the number of states, which is within the limit
size_told : (b c : Bool) (s n : ℕ) → Some (Buffer n) ≡ cond b (Some StateCount) (cond c (Some (Buffer s)) None) → (b ≡ false) × (n ≡ s)
size_told true c s n e = let z : ◌≡◌ {A = ℕ} 0 1 = cc in absurd (omega arith)
size_told false true s n e = (refl, cc)
size_told false false s n e = let z : ◌≡◌ {A = ℕ} 0 1 = cc in absurd (omega arith)

-- a refused call has its refusal
told_refusal : {mode : Mode} {i o : ℕ} {rule condition : List ℕ} {old new : Buffers} {z : Refusal}
    → (x : RuleSolved mode i o rule condition old new (Err z)) → x.refusal ≡ Some z
told_refusal {z = z} x =
    ⊎_elim
    (λ e. absurd (omega (arith, numbered z, x.number, ap first_number e)))
    (λ e. let f : Err z ≡ Err e.0 = (x.refused e.0 e.1).0 in let d : z ≡ e.0 = cc in e.1 ∙ ap Some (sym d))
    (refused_or_served x.refusal)

module _ {mode mode' : Mode} {i o : ℕ} {rule condition : List ℕ} {old old' new new' : Buffers} {n : ℕ} {r : Answer}
    (x : RuleSolved mode i o rule condition old new (Err (Buffer n))) (y : RuleSolved mode' i o rule condition old' new' r)
    (room : short_buffers i o n old' ≡ false) where
  -- what comes first in the second call, by the readings and the states of the first
  second_first : y.refusal ≡ rule_refusal i o rule condition old' x.reading x.condition_reading x.none x.states
  second_first = y.first ∙ same_first old' y x

  first_told : Some (Buffer n) ≡ rule_refusal i o rule condition old x.reading x.condition_reading x.none x.states
  first_told = sym (told_refusal x) ∙ x.first

  -- the first call told the rule's number of states, and the second is not refused
  second_served : (n ≡ x.states) × (y.refusal ≡ None)
  second_served = go (comes_first i o rule condition x.reading x.condition_reading x.none)
    where
      go : First i o rule condition x.reading x.condition_reading x.none → (n ≡ x.states) × (y.refusal ≡ None)
      go (early z h same) =
          let f : Some (Buffer n) ≡ Some z = first_told ∙ same old x.states in
          let d : Buffer n ≡ z = cc in
          absurd (early_number h (ap number_of (sym d)))
      go (by_size a some same) =
          let t = size_told (ltb state_limit x.states) (short_buffers i o x.states old) x.states n (first_told ∙ same old x.states) in
          let long : short_buffers i o x.states old' ≡ false = subst (λ (k : ℕ). short_buffers i o k old' ≡ false) t.1 room in
          (t.1, second_first ∙ same old' x.states ∙ rw (t.0, long))

  -- who lends as much as was told is served, on so many states
  pub asked_served : (k : ℕ) × (r ≡ Ok (verdict_of n k))
  asked_served =
      let v = y.served second_served.1 in
      let s = v.2 in
      let same : y.states ≡ n = y.counted s.formula s.good ∙ sym (x.counted s.formula s.good) ∙ sym second_served.0 in
      (v.0, v.1 ∙ ap (λ (m : ℕ). Ok (verdict_of m v.0)) same)

-- who lends nothing is not served: every rule has a state
pub nothing_lent : {mode : Mode} {i o : ℕ} {rule condition : List ℕ} {new : Buffers} {r : Answer}
    → RuleSolved mode i o rule condition (buffers [] [] [] []) new r → answer_number r ≡ 0 → ⊥
nothing_lent {mode} {i} {o} {rule} {condition} {new} {r} m e =
    let z : m.refusal ≡ None = no_number m.refusal (sym m.number ∙ e) in
    let some : 0 < m.states = some_state (m.served z).2.automaton in
    let short : short_buffers i o m.states (buffers [] [] [] []) ≡ true = rw (lt-ltb 0 m.states some, or_true) in
    let long =
    first_served i o rule condition (buffers [] [] [] []) m.reading m.condition_reading m.none m.states (sym m.first ∙ z) in
    clash (short_buffers i o m.states (buffers [] [] [] [])) short long.3
