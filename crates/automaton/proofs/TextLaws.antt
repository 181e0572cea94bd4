-- The promise of `read_text` (specs/inner/Opening.antt), by the test that decided.
-- Assumes nothing.
use Prim.Native.Nat.{ℕ}
use mathlib.Core.Path.{◌≡◌, sym, ap, ◌∙◌, subst, subst₂}
use mathlib.Core.Bool.{true, false}
use mathlib.Core.List.{List}
use native.Mathlib.Omega.{arith}
use lib.ListN.{replicate, take}
use lib.Seq.{sets}
use Rattle.std.specs.Prelude.{Result, Ok, Err, MatchResult, IsErrAnd}
use Rattle.std.proofs.lemmas.Result.{err_from_is_err_and}
use Rattle.reader.specs.declared.reading.Unreadable.{Unreadable}
use Rattle.reader.specs.declared.refusal.Subject.{Subject}
use Rattle.reader.specs.declared.refusal.Refusal.{Refusal}
use Rattle.reader.specs.declared.refusal.Refusal.TheVariants.{Alphabet, TextLength, StateCount}
use Rattle.reader.specs.Limits.{node_limit, too_long}
use Rattle.reader.specs.Formula.{Formula, size}
use Rattle.reader.specs.declared.refusal.Subject.TheVariants.{Rule, Condition}
use Rattle.reader.specs.declared.nodes.Node.{Node}
use Rattle.reader.specs.declared.vocabulary.Vocabulary.{Vocabulary}
use Rattle.reader.specs.Vocabulary.{kind_of, vocabulary_of}
use Rattle.reader.specs.Reading.{Reading, ReadingOf}
use Rattle.reader.specs.Refusal.{text_refusal}
use Rattle.reader.specs.inner.Nodes.{Written, blank_node, nodes_of}
use Rattle.reader.proofs.RefusalLaws.{differs, text_refused}
use Rattle.reader.proofs.Unambiguous.{some_reading}
use Rattle.automaton.specs.Alphabet.{bad_alphabet}
use Rattle.automaton.specs.inner.Representation.{Represents}
use Rattle.automaton.specs.inner.Opening.{TextReading, TextGood, Unopened, Opened, OpenedBy}
use Rattle.automaton.proofs.NodeLaws.{written_represents}

-- what is read with the vocabulary of the subject
pub read_by : (s : Subject) (i o : ℕ) (text : List ℕ) (v : Vocabulary) → v ≡ vocabulary_of s i o → (ρ : Reading) → ReadingOf v.inputs (kind_of v) text ρ
    → TextReading s i o text ρ
read_by Rule i o text v e ρ r = subst (λ (w : Vocabulary). ReadingOf w.inputs (kind_of w) text ρ) e r
read_by Condition i o text v e ρ r = subst (λ (w : Vocabulary). ReadingOf w.inputs (kind_of w) text ρ) e r

pub written_by : (s : Subject) (i o : ℕ) (text : List ℕ) (v : Vocabulary) → v ≡ vocabulary_of s i o → (ρ : Reading) (out nodes : List Node)
    → Written v.inputs (kind_of v) text ρ out nodes → Written i (kind_of (vocabulary_of s i o)) text ρ out nodes
written_by Rule i o text v e ρ out nodes r = subst (λ (w : Vocabulary). Written w.inputs (kind_of w) text ρ out nodes) e r
written_by Condition i o text v e ρ out nodes r = subst (λ (w : Vocabulary). Written w.inputs (kind_of w) text ρ out nodes) e r

module _ (s : Subject) (i o : ℕ) (text : List ℕ) where
  some_text : (t : Subject) → (ρ : Reading) × TextReading t i o text ρ
  some_text Rule = some_reading i o true text
  some_text Condition = some_reading i 0 false text

  pub by_alphabet : bad_alphabet i o ≡ true → Unopened s i o text Alphabet
  by_alphabet p =
      let r = some_text s in
      record { reading = r.0; read = r.1; first = λ later. rw p; not_count = differs Alphabet StateCount (λ e. omega arith) }

  module _ (p : bad_alphabet i o ≡ false) where
    pub by_length : too_long text ≡ true → Unopened s i o text TextLength
    by_length q =
        let r = some_text s in
        record { reading = r.0; read = r.1; first = λ later. rw (p, q); not_count = differs TextLength StateCount (λ e. omega arith) }

    module _ (q : too_long text ≡ false) where
      pub by_reading : (e : Unreadable) → TextReading s i o text (Err e) → Unopened s i o text (text_refusal s e)
      by_reading e r = record { reading = Err e; read = r; first = λ later. rw (p, q); not_count = (text_refused s e).not_count }

      -- what the reader leaves in a buffer of as many words as nodes are allowed on a good text
      pub by_nodes : (nodes : List Node) (n : ℕ) → TextReading s i o text (Ok n)
          → Written i (kind_of (vocabulary_of s i o)) text (Ok n) (replicate node_limit blank_node) nodes → Opened s i o text nodes n
      unfolding ReadingOf Written
      by_nodes nodes n r w =
          let φ : Formula = r.0 in
          let g : TextGood s i o text φ = r.1 in
          let v : Represents (take (size φ) (sets (replicate node_limit blank_node) 0 (nodes_of φ))) φ =
          written_represents (replicate node_limit blank_node) φ g.few_nodes g.few_operators g.few_nodes in
          record {
            alphabet = p;
            fits = q;
            reading = r;
            formula = φ;
            good = g;
            few = omega (arith, r.2, g.few_nodes);
            represents = subst₂ (λ (m : ℕ) (z : List Node). Represents (take m z) φ) (sym r.2) (sym (w φ g)) v;
          }

      -- what the reader answers, with its refusal in the place of why
      pub by_answer : (ρ : Reading) (nodes : List Node) (r : Result ℕ Refusal) → TextReading s i o text ρ
          → Written i (kind_of (vocabulary_of s i o)) text ρ (replicate node_limit blank_node) nodes
          → MatchResult ρ (λ n. r ≡ Ok n) (λ e. IsErrAnd r (λ x. x ≡ text_refusal s e)) → OpenedBy s i o text nodes r
      by_answer (Ok n) nodes r a w e = subst (OpenedBy s i o text nodes) (sym e) (by_nodes nodes n a w)
      by_answer (Err d) nodes r a w e =
          let p = err_from_is_err_and r e in
          subst (OpenedBy s i o text nodes) (sym (p.1 ∙ ap Err p.2)) (by_reading d a)
