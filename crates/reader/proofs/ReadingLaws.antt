-- From the length, the pass and the counts of a text to its reading, and from its reading to its nodes.
-- Assumes nothing.
use mathlib.Core.Path.{◌≡◌, refl, sym, subst, ◌∙◌}
use mathlib.Core.Bool.{Bool, true, false}
use mathlib.Core.List.{List, [], append-nil}
use Prim.Native.Nat.{ℕ, suc, ◌≤◌, ◌<◌}
use native.Mathlib.Omega.{arith}
use lib.ListN.{length}
use Rattle.std.specs.Prelude.{Ok, Err}
use borrow.Author.Tests.{ltb-true, ltb-false}
use Rattle.reader.specs.declared.marks.Kind.{Kind}
use Rattle.reader.specs.declared.marks.Kind.TheVariants.{Operand, Prefix, Infix, Open, Close}
use Rattle.reader.specs.declared.reading.Unreadable.TheVariants.{TooLong, Bad, TooManyNodes, TooManyOperators}
use Rattle.reader.specs.declared.levels.Reader.{Reader}
use Rattle.reader.specs.declared.nodes.Node.{Node}
use Rattle.reader.specs.Limits.{text_limit, node_limit, operator_limit, too_long}
use Rattle.reader.specs.Formula.{Formula, size, operators}
use Rattle.reader.specs.Marks.{mark_kind, kind_in}
use Rattle.reader.specs.Grammar.{without_blanks, Derives, operand, prefix, parens, lower, infixed, Reads}
use Rattle.reader.specs.Place.{IsPlace}
use Rattle.reader.specs.Reading.{Reading, IsGood, ReadingOf}
use Rattle.reader.specs.inner.Nodes.{Written}
use Rattle.reader.specs.inner.Scan.{start, scan_of}
use Rattle.reader.specs.inner.Counts.{node_count, operator_count}
use Rattle.reader.specs.inner.Steps.{IsNew, Readable, Consumed}
use Rattle.reader.proofs.MarkLaws.{same_kind, infix_level, zero_in, close_in}
use Rattle.reader.proofs.SizeLaws.{size_count, operators_count}
use Rattle.reader.proofs.PlaceLaws.{accepted, place}

-- what is derived from the marks in reach is derived from all marks
pub whole_alphabet : (i o : ℕ) (t : Bool) {l : ℕ} {w : List ℕ} {φ : Formula} → Derives i (kind_in i o t) l w φ → Derives i mark_kind l w φ
whole_alphabet i o t (operand {b = b} k e) = operand (same_kind i o t b Operand k refl) e
whole_alphabet i o t (prefix {b = b} k x e) = prefix (same_kind i o t b Prefix k refl) (whole_alphabet i o t x) e
whole_alphabet i o t (parens {a = a} {b = b} ka kb x) = parens (same_kind i o t a Open ka refl) (same_kind i o t b Close kb refl) (whole_alphabet i o t x)
whole_alphabet i o t (lower x) = lower (whole_alphabet i o t x)
whole_alphabet i o t (infixed {l = l} {b = b} k x y e) = infixed (same_kind i o t b (Infix (suc l)) k refl) (whole_alphabet i o t x) (whole_alphabet i o t y) e

module _ (i o : ℕ) (t : Bool) (text : List ℕ) where
  abbrev K : ℕ → Kind
  K = kind_in i o t

  pub formula_of_lem : scan_of K text 0 start ≡ Ok tt → (φ : Formula) × Reads i K text φ
  formula_of_lem e = accepted i K (infix_level i o t) text e

  pub place_of : (k : ℕ) → scan_of K text 0 start ≡ Err k → IsPlace i K text k
  place_of k e = place i K (infix_level i o t) (zero_in i o t) (close_in i o t) text k e

  nodes_of_lem : (φ : Formula) → Reads i K text φ → size φ ≡ node_count text
  nodes_of_lem φ x = size_count text (whole_alphabet i o t x)

  operators_of : (φ : Formula) → Reads i K text φ → operators φ ≡ operator_count text
  operators_of φ x = operators_count text (whole_alphabet i o t x)

  -- ---- the reading, by the length, the pass and the counts

  pub long_reading : too_long text ≡ true → ReadingOf i K text (Err TooLong)
  unfolding ReadingOf
  long_reading e = ltb-true text_limit (length text) e

  module _ (fits : too_long text ≡ false) where
    short : length text ≤ text_limit
    short = ltb-false text_limit (length text) fits

    pub bad_reading : (k : ℕ) → scan_of K text 0 start ≡ Err k → ReadingOf i K text (Err (Bad k))
    unfolding ReadingOf
    bad_reading k e = (short, place_of k e)

    module _ (e : scan_of K text 0 start ≡ Ok tt) where
      pub many_nodes_reading : node_limit < node_count text → ReadingOf i K text (Err TooManyNodes)
      unfolding ReadingOf
      many_nodes_reading h =
          let x = formula_of_lem e in
          (short, x.0, x.1, omega (arith, nodes_of_lem x.0 x.1))

      pub many_operators_reading : node_count text ≤ node_limit → operator_limit < operator_count text → ReadingOf i K text (Err TooManyOperators)
      unfolding ReadingOf
      many_operators_reading n h =
          let x = formula_of_lem e in
          (short, x.0, x.1, omega (arith, nodes_of_lem x.0 x.1), omega (arith, operators_of x.0 x.1))

      pub good_reading : node_count text ≤ node_limit → operator_count text ≤ operator_limit → ReadingOf i K text (Ok (node_count text))
      unfolding ReadingOf
      good_reading n m =
          let x = formula_of_lem e in
          let f = nodes_of_lem x.0 x.1 in
          (x.0, record { short = short; reads = x.1; few_nodes = omega arith; few_operators = omega (arith, operators_of x.0 x.1) }, sym f)

  pub same_reading : {r s : Reading} → r ≡ s → ReadingOf i K text r → ReadingOf i K text s
  same_reading e h = subst (ReadingOf i K text) e h

  -- ---- the nodes of a good text

  module _ (p : Reader) (new : IsNew text i p) where
    pub ready : (n room : ℕ) → ReadingOf i K text (Ok n) → room ≡ node_limit → Readable p.inputs 4 p.text.now p room
    unfolding ReadingOf
    ready n room good e =
        let φ = good.0 in
        let g : IsGood i K text φ = good.1 in
        subst (λ (j : ℕ). Readable j 4 p.text.now p room) (sym new.same_inputs) (subst (λ (s : List ℕ). Readable i 4 s p room) (sym new.same_text) (record {
          formula = φ;
          taken = without_blanks text;
          rest = [];
          here = new.at.same ∙ sym (append-nil (without_blanks text));
          derived = whole_alphabet i o t g.reads;
          follows = tt;
          fits = omega (arith, g.few_nodes);
          few = omega (arith, g.few_operators);
        }))

    pub written : (n : ℕ) (out : List Node) (r : Reader) (out' : List Node) → Consumed p.inputs 4 p.text.now p out r out'
        → Written i K text (Ok n) out out'
    unfolding Written
    written n out r out' read φ g =
        let k : Consumed i 4 text p out r out' =
        subst (λ (j : ℕ). Consumed j 4 text p out r out') new.same_inputs (subst (λ (s : List ℕ). Consumed p.inputs 4 s p out r out') new.same_text read) in
        let a = k.reads (without_blanks text) [] φ (new.at.same ∙ sym (append-nil (without_blanks text))) (whole_alphabet i o t g.reads) tt in
        a.written ∙ cc
