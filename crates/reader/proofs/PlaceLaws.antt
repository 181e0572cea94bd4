-- The pass accepts the texts of the grammar and no other, and where it stops is the place of a bad text.
-- Assumes nothing.
use mathlib.Core.Path.{◌≡◌, refl, sym, ap, subst, ◌∙◌}
use mathlib.Core.Logic.{⊎_elim}
use mathlib.Core.Bool.{Bool, true, false}
use mathlib.Core.List.{List, [], ◌∷◌, ◌++◌, append_assoc, append-nil}
use Prim.Native.Nat.{ℕ, zero, suc, ◌<◌}
use native.Mathlib.Nat.{eq-or-lt_of_le, le_of_suc-le-suc, not-suc-le-zero}
use native.Mathlib.Omega.{arith}
use lib.ListN.{take}
use Rattle.reader.specs.declared.marks.Kind.{Kind}
use Rattle.reader.specs.declared.marks.Kind.TheVariants.{Operand, Prefix, Infix, Open, Close, Other}
use Rattle.std.specs.Prelude.{Option, Some, None, Result, Ok, Err}
use Rattle.std.specs.Option.{option_and_then}
use Rattle.std.proofs.lemmas.Option.{none-some, same_Some}
use Rattle.reader.specs.declared.scan.ScanState.{ScanState}
use Rattle.reader.specs.Formula.{Formula}
use Rattle.reader.specs.Grammar.{without_blanks, Derives, operand, prefix, parens, lower, infixed, Reads}
use Rattle.reader.specs.Place.{Begins, IsPlace}
use Rattle.reader.specs.inner.Scan.{state, start, mark_step, scan_of}
use Rattle.reader.proofs.MarkLaws.{InfixLevel}
use Rattle.reader.proofs.ScanLaws.{without_blanks_append, scanned, scanned_append, scanned_whole, scanned_stop}

-- every infix mark has a level
abbrev pub Levels : (ℕ → Kind) → Type 0
Levels kind = (b l : ℕ) → kind b ≡ Infix l → InfixLevel l

-- what closes d parentheses
closers : ℕ → List ℕ
closers zero = []
closers (suc d) = 41 ∷ closers d

-- what completes a text with d parentheses open: `0` first where an operand is due
completion : Bool → ℕ → List ℕ
completion true d = 48 ∷ closers d
completion false d = closers d

without_blanks_closers : (d : ℕ) → without_blanks (closers d) ≡ closers d
unfolding without_blanks closers
without_blanks_closers zero = refl
without_blanks_closers (suc d) = ap (λ (r : List ℕ). 41 ∷ r) (without_blanks_closers d)

without_blanks_completion : (w : Bool) (d : ℕ) → without_blanks (completion w d) ≡ completion w d
unfolding without_blanks completion
without_blanks_completion true d = ap (λ (r : List ℕ). 48 ∷ r) (without_blanks_closers d)
without_blanks_completion false d = without_blanks_closers d

module _ (i : ℕ) (kind : ℕ → Kind) where
  -- a derivation takes the pass over its marks, to the mode after an operand
  passes : {l : ℕ} {w : List ℕ} {φ : Formula} → Derives i kind l w φ → (rest : List ℕ) (d : ℕ) → scanned kind (w ++ rest) (state true d) ≡ scanned kind rest (state false d)
  unfolding scanned
  passes (operand k f) rest d = rw k
  passes (prefix k x f) rest d = rw k (passes x rest d)
  passes (parens {a} {b} {w} ka kb x) rest d = rw (ka, append_assoc w (b ∷ []) rest) (passes x (b ∷ rest) (suc d) ∙ rw kb)
  passes (lower x) rest d = passes x rest d
  passes (infixed {b = b} {u = u} {v = v} k x y f) rest d = rw append_assoc (passes x ((b ∷ v) ++ rest) d ∙ rw k (passes y rest d))

  -- what prefix marks bind is a formula of every level
  raise : (l : ℕ) {w : List ℕ} {φ : Formula} → Derives i kind 0 w φ → Derives i kind l w φ
  raise zero x = x
  raise (suc l) x = lower (raise l x)

  -- the marks are some formula of the level
  abbrev Formulas : ℕ → List ℕ → Type 0
  Formulas l w = (φ : Formula) × Derives i kind l w φ

  -- a formula, an infix mark of its level or below and an operand are a formula again
  after : {l : ℕ} {w : List ℕ} {φ : Formula} → Derives i kind l w φ → {b m : ℕ} {x : List ℕ} {ψ : Formula} → kind b ≡ Infix (suc m) → m < l
      → Derives i kind 0 x ψ → Formulas l (w ++ (b ∷ x))
  after (operand k f) kb h x = absurd (not-suc-le-zero h)
  after (prefix k y f) kb h x = absurd (not-suc-le-zero h)
  after (parens ka kc y) kb h x = absurd (not-suc-le-zero h)
  after (lower {l = l} y) {b = b} {m = m} {x = w} kb h x =
      ⊎_elim (λ e. (_, infixed (subst (λ (n : ℕ). kind b ≡ Infix (suc n)) e kb) y (raise (suc l) x) refl))
      (λ g. let r = after y kb g x in (r.0, lower r.1)) (eq-or-lt_of_le (le_of_suc-le-suc h))
  after (infixed {u = u} {v = v} k y z f) {b = b} {x = w} kb h x = let r = after z kb h x in rw append_assoc (_, infixed k y r.1 refl)

  -- the marks become a formula with any operand after them
  abbrev AwaitsOperand : List ℕ → Type 0
  AwaitsOperand q = (x : List ℕ) (φ : Formula) → Derives i kind 0 x φ → Formulas 4 (q ++ x)

  -- the marks after the last of d open parentheses are as P says, and those before each wait for an operand
  Nested : ℕ → (List ℕ → Type 0) → List ℕ → Type 0
  Nested zero P s = P s
  Nested (suc d) P s = (p : List ℕ) × (a : ℕ) × (q : List ℕ) × (s ≡ p ++ (a ∷ q)) × (kind a ≡ Open) × Nested d AwaitsOperand p × P q

  -- what the marks passed are in each state: by whether an operand is due, with d parentheses open
  abbrev Passed : Bool → ℕ → List ℕ → Type 0
  Passed true d s = Nested d AwaitsOperand s
  Passed false d s = Nested d (Formulas 4) s

  abbrev PassedAt : ScanState → List ℕ → Type 0
  PassedAt x s = Passed x.operand_due x.depth s

  -- the marks after the last open parenthesis go on
  on_nested : (d : ℕ) (P Q : List ℕ → Type 0) (t : List ℕ) → ((q : List ℕ) → P q → Q (q ++ t)) → (s : List ℕ) → Nested d P s → Nested d Q (s ++ t)
  unfolding Nested
  on_nested zero P Q t f s h = f s h
  on_nested (suc d) P Q t f s h = (h.0, h.1, h.2 ++ t, ap (λ (r : List ℕ). r ++ t) h.3 ∙ append_assoc h.0 (h.1 ∷ h.2) t, h.4, h.5, f h.2 h.6)

  opened : (d b : ℕ) (s : List ℕ) → kind b ≡ Open → Nested d AwaitsOperand s → Nested (suc d) AwaitsOperand (s ++ (b ∷ []))
  unfolding Nested
  opened d b s k h = (s, b, [], refl, k, h, λ x φ y. (φ, raise 4 y))

  closed : (d b : ℕ) (s : List ℕ) → kind b ≡ Close → Nested (suc d) (Formulas 4) s → Nested d (Formulas 4) (s ++ (b ∷ []))
  unfolding Nested
  closed d b s k h =
      let e : s ++ (b ∷ []) ≡ h.0 ++ (h.1 ∷ (h.2 ++ (b ∷ []))) = ap (λ (r : List ℕ). r ++ (b ∷ [])) h.3 ∙ append_assoc h.0 (h.1 ∷ h.2) (b ∷ []) in
      rw e (on_nested d AwaitsOperand (Formulas 4) (h.1 ∷ (h.2 ++ (b ∷ []))) (λ q f. f _ _ (parens h.4 k h.6.1)) h.0 h.5)

  moved : (x y : ScanState) (s : List ℕ) → Some x ≡ Some y → PassedAt x s → PassedAt y s
  moved x y s e h = subst (λ (z : ScanState). PassedAt z s) (same_Some x y e) h

  -- each step keeps what the marks passed are
  module _ (levels : Levels kind) where
    mark : (b : ℕ) (k : Kind) → kind b ≡ k → (w : Bool) (d : ℕ) (s : List ℕ) (y : ScanState) → mark_step k w d ≡ Some y
        → Passed w d s → PassedAt y (s ++ (b ∷ []))
    mark b Operand kb true d s y e h = moved (state false d) y _ e (on_nested d AwaitsOperand (Formulas 4) (b ∷ []) (λ q f. f _ _ (operand kb refl)) s h)
    mark b Operand kb false d s y e h = absurd (none-some y e)
    mark b Prefix kb true d s y e h =
        moved (state true d) y _ e (on_nested d AwaitsOperand AwaitsOperand (b ∷ []) (λ q f x φ y. rw append_assoc (f _ _ (prefix kb y refl))) s h)
    mark b Prefix kb false d s y e h = absurd (none-some y e)
    mark b (Infix l) kb true d s y e h = absurd (none-some y e)
    mark b (Infix l) kb false d s y e h =
        let m = levels b l kb in
        moved (state true d) y _ e
        (on_nested d (Formulas 4) AwaitsOperand (b ∷ []) (λ q f x φ y. rw append_assoc (after f.1 (kb ∙ ap (λ (n : ℕ). Infix n) m.1) m.2 y)) s h)
    mark b Open kb true d s y e h = moved (state true (suc d)) y _ e (opened d b s kb h)
    mark b Open kb false d s y e h = absurd (none-some y e)
    mark b Close kb true d s y e h = absurd (none-some y e)
    mark b Close kb false zero s y e h = absurd (none-some y e)
    mark b Close kb false (suc d) s y e h = moved (state false d) y _ e (closed d b s kb h)
    mark b Other kb w d s y e h = absurd (none-some y e)

    -- and so do the steps at several marks
    whole : (s : List ℕ) (x : ScanState) (t : List ℕ) (y : ScanState) → scanned kind s x ≡ Some y → PassedAt x t → PassedAt y (t ++ s)
    unfolding scanned
    whole [] x t y e h = rw append-nil (moved x y t e h)
    whole (b ∷ s) x t y e h = go (λ z q g. whole s z (t ++ (b ∷ [])) y q g) (mark_step (kind b) x.operand_due x.depth) refl e
      where
        go : ((z : ScanState) → scanned kind s z ≡ Some y → PassedAt z (t ++ (b ∷ [])) → PassedAt y (t ++ (b ∷ []) ++ s))
            → (o : Option ScanState) → mark_step (kind b) x.operand_due x.depth ≡ o → option_and_then (scanned kind s) o ≡ Some y → PassedAt y (t ++ (b ∷ s))
        go rec (Some z) p q = subst (λ (r : List ℕ). PassedAt y r) (append_assoc t (b ∷ []) s) (rec z q (mark b (kind b) refl x.operand_due x.depth t z p h))
        go rec None p q = absurd (none-some y q)

    whole_formula : (s : List ℕ) → scanned kind s start ≡ Some (state false 0) → Formulas 4 s
    unfolding Nested
    whole_formula s e = whole s start [] (state false 0) e (λ x φ y. (φ, raise 4 y))

    pub accepted : (text : List ℕ) → scan_of kind text 0 start ≡ Ok tt → (φ : Formula) × Reads i kind text φ
    accepted text e = whole_formula (without_blanks text) (scanned_whole kind text 0 start e)

    module _ (false_operand : kind 48 ≡ Operand) (close : kind 41 ≡ Close) where
      scanned_closers : (d : ℕ) → scanned kind (closers d) (state false d) ≡ Some (state false 0)
      unfolding scanned closers
      scanned_closers zero = refl
      scanned_closers (suc d) = rw close (scanned_closers d)

      scanned_completion : (w : Bool) (d : ℕ) → scanned kind (completion w d) (state w d) ≡ Some (state false 0)
      unfolding scanned completion
      scanned_completion true d = rw false_operand (scanned_closers d)
      scanned_completion false d = scanned_closers d

      -- what the scan takes can begin a text, and what begins a text the scan takes
      begins : (s : List ℕ) (x : ScanState) → scanned kind (without_blanks s) start ≡ Some x → Begins i kind s
      begins s x e =
          let u = completion x.operand_due x.depth in
          let m : without_blanks (s ++ u) ≡ without_blanks s ++ u =
          without_blanks_append s u ∙ ap (λ (r : List ℕ). without_blanks s ++ r) (without_blanks_completion x.operand_due x.depth) in
          let r : Formulas 4 (without_blanks s ++ u) =
          whole_formula (without_blanks s ++ u)
          (scanned_append kind (without_blanks s) u start ∙ ap (λ (o : Option ScanState). option_and_then (scanned kind u) o) e
          ∙ scanned_completion x.operand_due x.depth) in
          (u, r.0, rw m r.1)

      scanned_reads : (text : List ℕ) (φ : Formula) → Reads i kind text φ → scanned kind (without_blanks text) start ≡ Some (state false 0)
      unfolding scanned
      scanned_reads text φ x = rw append-nil at (passes x [] 0)

      not_begins : (s : List ℕ) → scanned kind (without_blanks s) start ≡ None → Begins i kind s → ⊥
      not_begins s e b =
          let g : scanned kind (without_blanks (s ++ b.0)) start ≡ Some (state false 0) = scanned_reads (s ++ b.0) b.1 b.2 in
          let m : scanned kind (without_blanks (s ++ b.0)) start ≡ None =
          ap (λ (r : List ℕ). scanned kind r start) (without_blanks_append s b.0)
          ∙ scanned_append kind (without_blanks s) (without_blanks b.0) start
          ∙ ap (λ (o : Option ScanState). option_and_then (scanned kind (without_blanks b.0)) o) e in
          none-some _ (sym m ∙ g)

      pub place : (text : List ℕ) (k : ℕ) → scan_of kind text 0 start ≡ Err k → IsPlace i kind text k
      place text k e =
          let r = scanned_stop kind text 0 start k e in
          let t = r.2 in
          let f : k ≡ r.0 = omega (arith, r.1) in
          rw f (record {
            within = t.within;
            begins = begins (take r.0 text) t.passed.0 t.passed.1;
            stops = λ h. not_begins (take (suc r.0) text) (t.stuck_at h);
            ends = λ φ x. t.not_whole (scanned_reads text φ x);
          })

      -- a text of the grammar is accepted
      pub accepts : (text : List ℕ) (φ : Formula) → Reads i kind text φ → scan_of kind text 0 start ≡ Ok tt
      accepts text φ x = go (scan_of kind text 0 start) refl
        where
          go : (r : Result (Unit {0}) ℕ) → scan_of kind text 0 start ≡ r → r ≡ Ok tt
          go (Ok _) e = refl
          go (Err k) e = absurd ((place text k e).ends φ x)
