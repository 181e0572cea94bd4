-- What `build` leaves in the buffers (specs/inner/Exploration.antt): filled and marked, they hold the automaton of the formula; where it has too many states,
-- or there is no room for them, the buffers are as they were. Assumes nothing.
use Prim.Native.Nat.{ℕ, suc, ◌*◌, ◌%◌, ◌^◌, ◌≤◌, ◌<◌}
use mathlib.Core.Path.{◌≡◌, refl, sym, ap, ap₂, ◌∙◌, subst}
use mathlib.Core.Bool.{true, false, ◌||◌}
use mathlib.Core.List.{List, [], ◌∷◌}
use native.Mathlib.Omega.{arith}
use lib.Dec.{ltb}
use lib.ListN.{get_or, length}
use borrow.Author.Tests.{lt-ltb, le-ltb}
use Rattle.machine.specs.Discovery as machine
use Rattle.machine.proofs.Reachable.{too_many}
use Rattle.machine.proofs.AutomatonLaws.{moved_at, automaton_holds}
use Rattle.machine.proofs.FillingLaws.{all_count}
use Rattle.std.specs.Prelude.{Some, None, Ok, Err}
use Rattle.reader.specs.declared.refusal.Refusal.{Refusal}
use Rattle.reader.specs.declared.refusal.Refusal.TheVariants.{Buffer, StateCount}
use Rattle.reader.specs.Formula.{Formula, operators}
use Rattle.reader.proofs.RefusalLaws.{differs}
use Rattle.automaton.specs.declared.table.Table.{Table}
use Rattle.automaton.specs.Limits.{state_limit}
use Rattle.automaton.specs.inner.Sizes.{coordinate_limit}
use Rattle.automaton.specs.Bits.{bit, one, of_bits}
use Rattle.automaton.specs.Trace.{Satisfies}
use Rattle.automaton.specs.Valuation.{vectors, end_vector}
use Rattle.automaton.specs.State.{start, accepts, machine_of}
use Rattle.automaton.specs.Discovery.{states, number_of_states}
use Rattle.automaton.specs.Automaton.{TooManyStates}
use Rattle.automaton.specs.Buffer.{Kept}
use Rattle.automaton.specs.Construction.{short_automaton, count_refusal}
use Rattle.automaton.specs.inner.Representation.{Tabulates}
use Rattle.automaton.specs.inner.Table.{TableOf}
use Rattle.automaton.specs.inner.Exploration.{word_at, Listed, AllListed, Filled, Written, BuiltAutomaton}
use Rattle.automaton.proofs.BitLaws.{one_shifted}
use Rattle.automaton.proofs.ListingLaws.{listed_none}
use Rattle.automaton.proofs.Meaning.{formula_recognizes}

module _ (φ : Formula) (L room : ℕ) (t a : List ℕ) where
  -- refused with the buffers as they were
  refused : (x : Refusal) → count_refusal L room t a (number_of_states φ L) ≡ Some x → (x ≡ StateCount → TooManyStates φ L)
      → BuiltAutomaton φ L room t a t a (Err x)
  refused x e many =
      record {
        answer = rw e;
        written = λ z. let f : None ≡ Some x = sym z ∙ e in let z : ◌≡◌ {A = ℕ} 0 1 = cc in absurd (omega arith);
        many = λ z. let f : Some x ≡ Some StateCount = sym e ∙ z in let h : x ≡ StateCount = cc in many h;
        untouched = λ _. (refl, refl);
      }

  module _ (pos : 0 < L) where
    pub built_beyond : state_limit < number_of_states φ L → BuiltAutomaton φ L room t a t a (Err StateCount)
    built_beyond more = refused StateCount (rw (lt-ltb state_limit (number_of_states φ L) more)) (λ _. too_many (machine_of φ) L state_limit pos more)

    module _ (list : List ℕ) (all : AllListed φ L list) (few : length list ≤ state_limit) where
      count : length list ≡ number_of_states φ L
      unfolding machine.number_of_states
      count = all_count (machine_of φ) L state_limit (length list) (word_at list) few all

      short : (ltb room (length list) || short_automaton L (length list) t a) ≡ true → BuiltAutomaton φ L room t a t a (Err (Buffer (length list)))
      short s =
          refused (Buffer (length list)) (ap (count_refusal L room t a) (sym count) ∙ rw (le-ltb state_limit (length list) few, s))
          (λ z. absurd (differs (Buffer (length list)) StateCount (λ e. omega arith) z))

      pub built_short : (n : ℕ) → n ≡ length list → (ltb room n || short_automaton L n t a) ≡ true → BuiltAutomaton φ L room t a t a (Err (Buffer n))
      built_short n is s =
          subst (λ (m : ℕ). BuiltAutomaton φ L room t a t a (Err (Buffer m))) (sym is)
          (short (subst (λ (m : ℕ). (ltb room m || short_automaton L m t a) ≡ true) is s))

      module _ (end : ℕ) (t' a' : List ℕ) (e : end ≡ end_vector φ) (filled : Filled φ L t' (length list * L)) (kt : Kept (length list * L) t t')
          (marks : (s : ℕ) → s < length list → get_or a' s 0 ≡ one (bit (get_or list s 0) end)) (ka : Kept (length list) a a') where
        written_states : Written φ L (length list) t a t' a'
        unfolding accepts machine.number_of_states
        written_states =
            let flags : (s : ℕ) → s < length list → get_or a' s 0 ≡ one (accepts φ (machine.state_at (machine_of φ) (states φ L) s)) =
            λ s l. marks s l ∙ ap₂ (λ (i j : ℕ). one (bit i j)) (all.members few s l) e in
            record {
              automaton =
                  automaton_holds (machine_of φ) L state_limit (length list) pos count t' a'
                  (moved_at (machine_of φ) L state_limit (length list) pos count t' few filled) flags (Satisfies φ) (formula_recognizes φ L) few;
              transitions_kept = kt;
              accepting_kept = ka;
            }

        within : (ltb room (length list) || short_automaton L (length list) t a) ≡ false → BuiltAutomaton φ L room t a t' a' (Ok (length list))
        within s =
            let n : count_refusal L room t a (number_of_states φ L) ≡ None =
            ap (count_refusal L room t a) (sym count) ∙ rw (le-ltb state_limit (length list) few, s) in
            record {
              answer = rw n (ap Ok count);
              written = λ _. subst (λ (k : ℕ). Written φ L k t a t' a') count written_states;
              many = λ z. let f : None ≡ Some StateCount = sym n ∙ z in let z : ◌≡◌ {A = ℕ} 0 1 = cc in absurd (omega arith);
              untouched = λ z. absurd (z n);
            }

        pub built_within : (n : ℕ) → n ≡ length list → (ltb room n || short_automaton L n t a) ≡ false → BuiltAutomaton φ L room t a t' a' (Ok n)
        built_within n is s =
            subst (λ (m : ℕ). BuiltAutomaton φ L room t a t' a' (Ok m)) (sym is)
            (within (subst (λ (m : ℕ). (ltb room m || short_automaton L m t a) ≡ false) is s))

-- `1 << width` is the number of valuations, and the list of the start is made from it
pub vectors_shifted : (φ : Formula) (w : ℕ) → w ≤ coordinate_limit → w ≡ suc (operators φ) → 1 * 2 ^ w % 2 ^ 64 ≡ 2 ^ suc (operators φ)
vectors_shifted φ w h e = one_shifted w h ∙ ap (λ (i : ℕ). 2 ^ i) e

pub start_listed : (φ : Formula) (L first w : ℕ) (list : List ℕ) → w ≤ coordinate_limit → w ≡ suc (operators φ)
    → first ≡ of_bits (λ v. bit v 0) (1 * 2 ^ w % 2 ^ 64) → list ≡ first ∷ [] → Listed φ L 0 list
unfolding start vectors
start_listed φ L first w list h e p is = listed_none φ L first list is (p ∙ ap (of_bits (λ v. bit v 0)) (vectors_shifted φ w h e))

-- the table that is made of them is the formula's
pub table_of : (φ : Formula) (table : Table) (w : ℕ) → w ≤ coordinate_limit → w ≡ suc (operators φ) → table.vectors ≡ 1 * 2 ^ w % 2 ^ 64
    → Tabulates φ table.letters table.entries.now → TableOf φ table
table_of φ table w h e n tab = record { entries = tab; vectors = n ∙ vectors_shifted φ w h e }
