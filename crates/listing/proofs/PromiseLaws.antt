-- The promise from its parts (specs/Promise.antt): a refusal by 14, and the listing of the rule call's answer; an answer has no more states than the limit,
-- and none is refused by 3.
-- Assumes nothing.
use Prim.Native.Nat.{ℕ, ◌+◌, ◌-◌, ◌*◌, ◌^◌, ◌≤◌, min}
use mathlib.Core.Path.{◌≡◌, refl, sym, ap, subst, ◌∙◌}
use mathlib.Core.Bool.{Bool, false}
use mathlib.Core.Logic.{◌⊎◌, ⊎_elim}
use mathlib.Core.List.{List, ◌++◌}
use native.Mathlib.Nat.{mul-le-mul}
use native.Mathlib.Omega.{arith}
use lib.Dec.{ltb}
use lib.ListN.{length, take, drop, replicate, length-replicate}
use lib.Pow.{pow_mono}
use borrow.Author.Tests.{le-ltb}
use Rattle.plays.specs.declared.mode.Mode.{Mode}
use Rattle.std.specs.Prelude.{Option, Some, None, Ok, Err}
use Rattle.reader.specs.declared.refusal.Refusal.{Refusal}
use Rattle.reader.specs.Reading.{Reading}
use Rattle.reader.specs.Refusal.{first_number, needed_of, answer_number}
use Rattle.reader.proofs.BoolLaws.{clash}
use Rattle.reader.proofs.RefusalLaws.{refused_or_served}
use Rattle.automaton.specs.Alphabet.{bad_alphabet, letter_count}
use Rattle.automaton.specs.Limits.{state_limit, number_limit, letter_limit}
use Rattle.automaton.proofs.AlphabetLaws.{inputs_fit, outputs_fit}
use Rattle.game.specs.declared.answer.Outcome.TheVariants.{Can, Cannot}
use Rattle.game.specs.Answer.{Answer, answer_states}
use Rattle.game.specs.Rule.{Buffers, buffers, short_buffers, rule_refusal, RuleSolved}
use Rattle.game.proofs.AnswerLaws.{verdict_states}
use Rattle.game.proofs.FirstRefusal.{early_number, early_needed, first_has, first_served}
use Rattle.listing.specs.Listing.{listing, malformed}
use Rattle.listing.specs.Promise.{lent, Listed}
use Rattle.listing.specs.declared.input.Request.{Request}
use Rattle.listing.specs.declared.write.Output.{Output}
use Rattle.listing.specs.inner.Parsing.{AsksNothing, AsksFor}
use Rattle.listing.specs.inner.Rendering.{listing_of}
use Rattle.listing.specs.inner.Writing.{written, position, Puts}
use Rattle.listing.proofs.FillingLaws.{filled, written_filled, position_least}

-- the states that the refusal which comes first needs, 0 where none comes
first_needed : Option Refusal → ℕ
first_needed None = 0
first_needed (Some x) = needed_of x

-- no refusal needs room for more states than the limit
needed_small : (i o : ℕ) (rule condition : List ℕ) (old : Buffers) (ρ κ : Reading) (none : Bool) (n : ℕ)
    → first_needed (rule_refusal i o rule condition old ρ κ none n) ≤ state_limit
unfolding first_needed
needed_small i o rule condition old ρ κ none n =
    first_has (λ x. first_needed x ≤ state_limit) i o rule condition old n ρ κ none
    record {
      before = λ x h. rw (early_needed h) (omega arith);
      count = λ _. omega arith;
      buffer = λ _ l _. l;
      nothing = λ _ _ _ _. omega arith;
    }

-- zeros of a size are not too few for a share that is no larger
zeros_enough : (share size : ℕ) → share ≤ size → ltb (length (replicate {A = ℕ} size 0)) share ≡ false
zeros_enough share size h = le-ltb (length (replicate {A = ℕ} size 0)) share (rw (length-replicate {A = ℕ} size 0) h)

-- the buffers that the program lends have room for every automaton within the limit
lent_enough : (i o n : ℕ) → bad_alphabet i o ≡ false → n ≤ state_limit → short_buffers i o n lent ≡ false
unfolding lent
lent_enough i o n a few =
    let hi = inputs_fit i o a in
    let ho = outputs_fit i o a in
    rw (
      zeros_enough (n * letter_count i o) (state_limit * letter_limit) (mul-le-mul few (pow_mono {j = 8} (omega arith))),
      zeros_enough n state_limit few,
      zeros_enough (n * 2 ^ i) (state_limit * number_limit) (mul-le-mul few (pow_mono {j = 4} hi)),
    )

-- so nothing that it asks is refused by 3
pub never_short : {mode : Mode} {i o : ℕ} {rule condition : List ℕ} {new : Buffers} {r : Answer} → RuleSolved mode i o rule condition lent new r
    → answer_number r ≡ 3 → ⊥
never_short {mode} {i} {o} {rule} {condition} {new} {r} m e =
    first_has (λ x. first_number x ≡ 3 → ⊥) i o rule condition lent m.states m.reading m.condition_reading m.none
    record {
      before = λ x h. early_number h;
      count = λ _ z. omega arith;
      buffer = λ a l t _. clash (short_buffers i o m.states lent) t (lent_enough i o m.states a l);
      nothing = λ _ _ _ _ z. omega arith;
    }
    (ap first_number (sym m.first) ∙ sym m.number ∙ e)

-- a call is served, or its answer is the refusal
pub served_or_refused : {mode : Mode} {i o : ℕ} {rule condition : List ℕ} {old new : Buffers} {r : Answer} (m : RuleSolved mode i o rule condition old new r)
    → (m.refusal ≡ None) ⊎ ((x : Refusal) × ((m.refusal ≡ Some x) × (r ≡ Err x)))
served_or_refused m =
    ⊎_elim ◌⊎◌.inl (λ e. ◌⊎◌.inr (e.0, (e.1, (m.refused e.0 e.1).0))) (refused_or_served m.refusal)

-- an answer has no more states than the limit
pub solved_states : {mode : Mode} {i o : ℕ} {rule condition : List ℕ} {old new : Buffers} {r : Answer} → RuleSolved mode i o rule condition old new r
    → answer_states r ≤ state_limit
unfolding first_needed
solved_states {mode} {i} {o} {rule} {condition} {old} {new} {r} m =
    ⊎_elim
    (λ z.
    let v = m.served z in
    let e : answer_states r ≡ m.states = ap answer_states v.1 ∙ verdict_states m.states v.0 in
    let h = first_served i o rule condition old m.reading m.condition_reading m.none m.states (sym m.first ∙ z) in
    subst (λ (k : ℕ). k ≤ state_limit) (sym e) h.2)
    (λ e.
    subst (λ (k : ℕ). k ≤ state_limit) (sym (ap answer_states e.1.1 ∙ ap first_needed (sym e.1.0 ∙ m.first)))
    (needed_small i o rule condition old m.reading m.condition_reading m.none m.states))
    (served_or_refused m)

-- the transitions are not listed
listing_same : (i : ℕ) (t a σ τ : List ℕ) (r : Answer) → listing_of i a σ τ r ≡ listing i (buffers t a σ τ) r
listing_same i t a σ τ (Ok (Can n r)) = refl
listing_same i t a σ τ (Ok (Cannot n)) = refl
listing_same i t a σ τ (Err x) = refl

-- what is written from the output's beginning
text_written : {a b : Output} (out text out' : List ℕ) (r : ℕ) → a.bytes.now ≡ out → a.end ≡ 0 → Puts a text b → out' ≡ b.bytes.now → r ≡ b.end
    → (out' ≡ take (length out) text ++ drop (length text) out) × (r ≡ min (length text) (length out))
text_written {a} {b} out text out' r e f w g h =
    let n : length out - 0 ≡ length out = omega arith in
    let m : 0 + length text ≡ length text = omega arith in
    let o : b.bytes.now ≡ written out 0 text = rw (← e, ← f) w.writes.output in
    let p : b.end ≡ position (length out) 0 text = rw (← e, ← f) w.writes.end in
    let t : filled out 0 text ≡ take (length out) text ++ drop (length text) out = rw (n, m) refl in
    (g ∙ o ∙ written_filled text out 0 (omega arith) ∙ t, h ∙ p ∙ position_least text (length out) 0 (omega arith) ∙ (rw m refl))

pub listed_refused : {a b : Output} (input out out' : List ℕ) (r : ℕ) → AsksNothing input → a.bytes.now ≡ out → a.end ≡ 0 → Puts a malformed b
    → out' ≡ b.bytes.now
    → r ≡ b.end
    → Listed input out out' r
listed_refused input out out' r q e f w g h =
    let t = text_written out malformed out' r e f w g h in
    record { text = malformed; prints = ◌⊎◌.inr (record { none = q; refused = refl }); written = t.0; count = t.1 }

pub listed_answer : {a b : Output} (input : List ℕ) (q : Request) (old : Buffers) (t α σ τ : List ℕ) (x : Answer) (out out' : List ℕ) (r : ℕ)
    → AsksFor input q
    → old ≡ lent
    → RuleSolved q.mode q.i q.o q.rule.now q.condition.now old (buffers t α σ τ) x
    → a.bytes.now ≡ out
    → a.end ≡ 0
    → Puts a (listing_of q.i α σ τ x) b
    → out' ≡ b.bytes.now
    → r ≡ b.end
    → Listed input out out' r
listed_answer input q old t α σ τ x out out' r asks l m e f w g h =
    let text : List ℕ = listing_of q.i α σ τ x in
    let v = text_written out text out' r e f w g h in
    record {
      text = text;
      prints = ◌⊎◌.inl (record {
        i = q.i;
        o = q.o;
        mode = q.mode;
        condition = q.condition.now;
        rule = q.rule.now;
        asks = asks;
        answers = record { new = buffers t α σ τ; answer = x; solved = rw (← l) m; listed = listing_same q.i t α σ τ x };
      });
      written = v.0;
      count = v.1;
    }
