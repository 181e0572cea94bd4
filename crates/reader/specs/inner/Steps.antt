-- What the reading functions ask and promise, each about the text from a place on.
-- Assumes nothing.
use Rattle.std.specs.Prelude.{ℕ, ◌+◌, ◌≤◌, ◌<◌, ◌≡◌, List, [], ◌∷◌, ◌++◌, length, get_or, drop}
use Rattle.std.proofs.lemmas.List.Edits.{sets}
use Rattle.reader.specs.declared.marks.Kind.TheVariants.{Infix}
use Rattle.reader.specs.declared.nodes.Node.{Node}
use Rattle.reader.specs.declared.levels.Reader.{Reader}
use Rattle.reader.specs.Text.{Text}
use Rattle.reader.specs.Limits.{operator_limit}
use Rattle.reader.specs.Formula.{Formula, size, operators}
use Rattle.reader.specs.Marks.{mark_kind}
use Rattle.reader.specs.Grammar.{without_blanks, Derives}
use Rattle.reader.specs.inner.Nodes.{code}
use Rattle.reader.specs.inner.Blanks.{PastBlanks}
use Rattle.reader.specs.inner.Counts.{tick}

-- p is at the first mark of the text, where no node is written and the first coordinate is next
pub record IsNew (text : Text) (i : ℕ) (p : Reader) : Type 0 where
  pub same_text : p.text.now ≡ text
  pub same_inputs : p.inputs ≡ i
  pub at : PastBlanks text 0 p.at
  pub no_nodes : p.nodes ≡ 0
  pub from_one : p.coordinate ≡ 1

-- an infix mark of the level is at the place
abbrev pub HasInfix : (text : Text) (at l : ℕ) → Type 0
HasInfix text at l = (at < length text) × (mark_kind (get_or text at 0) ≡ Infix l)

-- r reads the text that p reads
pub record SameSource (p r : Reader) : Type 0 where
  pub same_text : r.text.now ≡ p.text.now
  pub same_inputs : r.inputs ≡ p.inputs

-- r is past the mark at p
pub record PastMark (text : Text) (p r : Reader) : Type 0 where
  pub source : SameSource p r
  pub past : p.at < r.at
  pub mark : without_blanks (drop p.at text) ≡ get_or text p.at 0 ∷ without_blanks (drop r.at text)
  pub nodes : r.nodes ≡ p.nodes
  pub coordinate : r.coordinate ≡ p.coordinate + tick (get_or text p.at 0)

-- r is p with one more node written
pub record HasWritten (p r : Reader) : Type 0 where
  pub source : SameSource p r
  pub place : r.at ≡ p.at
  pub nodes : r.nodes ≡ p.nodes + 1
  pub coordinate : r.coordinate ≡ p.coordinate

-- the marks can follow a formula of the level: none of them, or one that does not extend it
abbrev pub CanFollow : (l : ℕ) → Text → Type 0
CanFollow l [] = Unit {0}
CanFollow l (b ∷ s) = (m : ℕ) → mark_kind b ≡ Infix m → l < m

-- a formula of the level is at p, and the buffer has room for its nodes
pub record Readable (i l : ℕ) (text : Text) (p : Reader) (room : ℕ) : Type 0 where
  pub formula : Formula
  pub taken : Text
  pub rest : Text
  pub here : without_blanks (drop p.at text) ≡ taken ++ rest
  pub derived : Derives i mark_kind l taken formula
  pub follows : CanFollow l rest
  pub fits : p.nodes + size formula ≤ room
  pub few : p.coordinate + operators formula ≤ operator_limit + 1

-- the formula at p has been read up to r, where the marks `rest` are left, and its nodes are written
pub record Parsed (text : Text) (p : Reader) (out : List Node) (r : Reader) (out' : List Node) (rest : Text) (φ : Formula) : Type 0 where
  pub left : without_blanks (drop r.at text) ≡ rest
  pub nodes : r.nodes ≡ p.nodes + size φ
  pub coordinate : r.coordinate ≡ p.coordinate + operators φ
  pub written : out' ≡ sets out p.nodes (code p.nodes p.coordinate φ)

-- every formula of the level that is at p has been read up to r, and its nodes written
pub record Consumed (i l : ℕ) (text : Text) (p : Reader) (out : List Node) (r : Reader) (out' : List Node) : Type 0 where
  pub source : SameSource p r
  pub past : p.at < r.at
  pub reads : (w rest : Text) (φ : Formula)
      → without_blanks (drop p.at text) ≡ w ++ rest → Derives i mark_kind l w φ → CanFollow l rest → Parsed text p out r out' rest φ
