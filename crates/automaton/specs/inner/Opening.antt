-- What the calls have of a text once it is opened: its nodes, or the refusal by the numbers, by its length or by its reading.
-- Assumes nothing.
use Rattle.std.specs.Prelude.{ℕ, ◌≡◌, ◌≤◌, false, cond, List, take, Option, Some, Result, Ok, Err}
use Rattle.reader.specs.declared.refusal.Refusal.{Refusal}
use Rattle.reader.specs.declared.refusal.Refusal.TheVariants.{Alphabet, TextLength, StateCount}
use Rattle.reader.specs.declared.refusal.Subject.{Subject}
use Rattle.reader.specs.Text.{Text}
use Rattle.reader.specs.Limits.{too_long, node_limit}
use Rattle.reader.specs.Formula.{Formula}
use Rattle.reader.specs.Vocabulary.{kind_of, vocabulary_of}
use Rattle.reader.specs.declared.nodes.Node.{Node}
use Rattle.reader.specs.Reading.{Reading, ReadingOf, IsGood}
use Rattle.reader.specs.Refusal.{after_text}
use Rattle.automaton.specs.Alphabet.{bad_alphabet}
use Rattle.automaton.specs.inner.Representation.{Represents}

-- the text has the reading
abbrev pub TextReading : Subject → (i o : ℕ) → Text → Reading → Type 0
TextReading s i o text ρ = ReadingOf i (kind_of (vocabulary_of s i o)) text ρ

-- the text is good, with this formula
abbrev pub TextGood : Subject → (i o : ℕ) → Text → Formula → Type 0
TextGood s i o text φ = IsGood i (kind_of (vocabulary_of s i o)) text φ

-- refusals 1, 2 and those of the text, and then what comes later
abbrev pub opening_refusal : (s : Subject) (i o : ℕ) (text : Text) (ρ : Reading) (later : Option Refusal) → Option Refusal
opening_refusal s i o text ρ later = cond (bad_alphabet i o) (Some Alphabet) (cond (too_long text) (Some TextLength) (after_text s ρ later))

-- x comes first, whatever comes later, and is not 9
pub record Unopened (s : Subject) (i o : ℕ) (text : Text) (x : Refusal) : Type 0 where
  pub reading : Reading
  pub read : TextReading s i o text reading
  pub first : (later : Option Refusal) → opening_refusal s i o text reading later ≡ Some x
  pub not_count : x ≡ StateCount → ⊥

-- what comes later comes first, and the first n nodes are those of the text's formula
pub record Opened (s : Subject) (i o : ℕ) (text : Text) (nodes : List Node) (n : ℕ) : Type 0 where
  pub alphabet : bad_alphabet i o ≡ false
  pub fits : too_long text ≡ false
  pub reading : TextReading s i o text (Ok n)
  pub formula : Formula
  pub good : TextGood s i o text formula
  pub few : n ≤ node_limit
  pub represents : Represents (take n nodes) formula

-- the answer of `read_text`
abbrev pub OpenedBy : (s : Subject) (i o : ℕ) (text : Text) (nodes : List Node) → Result ℕ Refusal → Type 0
OpenedBy s i o text nodes (Ok n) = Opened s i o text nodes n
OpenedBy s i o text nodes (Err x) = Unopened s i o text x
