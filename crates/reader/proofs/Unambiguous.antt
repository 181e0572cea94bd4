-- A text has one reading: at most one formula, at most one place, never both, and always one of them.
-- Assumes nothing.
use mathlib.Core.Path.{◌≡◌, refl, sym, ap, subst, ◌∙◌}
use mathlib.Core.Logic.{◌⊎◌, inl, inr}
use mathlib.Core.Bool.{Bool, cond}
use mathlib.Core.List.{List, [], ◌∷◌, ◌++◌, append_assoc}
use Prim.Native.Nat.{ℕ, suc, ◌≤◌, ◌<◌}
use native.Mathlib.Nat.{lt_of_not-le, le_antisymm}
use native.Mathlib.Decide.{dec_le}
use native.Mathlib.Omega.{arith}
use borrow.Author.Tests.{lt-ltb, le-ltb}
use lib.Dec.{ltb}
use lib.ListN.{length, take, drop, take-append-drop}
use lib.Seq.{take-take}
use Rattle.reader.specs.declared.marks.Kind.{Kind}
use Rattle.reader.specs.declared.marks.Kind.TheVariants.{Operand, Prefix, Open}
use Rattle.std.specs.Prelude.{Result, Ok, Err}
use Rattle.reader.specs.declared.reading.Unreadable.TheVariants.{TooLong, Bad, TooManyNodes, TooManyOperators}
use Rattle.reader.specs.Limits.{text_limit, node_limit, operator_limit}
use Rattle.reader.specs.Formula.{Formula, size, operators}
use Rattle.reader.specs.Marks.{mark_kind, kind_in}
use Rattle.reader.specs.Grammar.{Derives, operand, prefix, parens, lower, infixed, Reads}
use Rattle.reader.specs.Place.{Begins, IsPlace}
use Rattle.reader.specs.Reading.{Reading, IsGood, ReadingOf}
use Rattle.reader.specs.inner.Scan.{start, scan_of}
use Rattle.reader.specs.inner.Steps.{CanFollow}
use Rattle.reader.proofs.FollowLaws.{follow_level, follow_down, follow_infix, follow_close}
use Rattle.reader.proofs.ReadingLaws.{whole_alphabet, formula_of_lem, place_of}

-- ---- one formula

-- two ways to take a formula from the front of the same marks are one
abbrev Same : List ℕ → List ℕ → Formula → Formula → Type 0
Same s t φ ψ = (s ≡ t) × (φ ≡ ψ)

-- the first bytes of equal lists are of one kind
one_kind : (a b : ℕ) (s t : List ℕ) (j k : Kind) → ◌≡◌ {A = List ℕ} (a ∷ s) (b ∷ t) → mark_kind a ≡ j → mark_kind b ≡ k → j ≡ k
one_kind a b s t j k e f g = let h : a ≡ b = cc in sym f ∙ ap mark_kind h ∙ g

same : {i l : ℕ} {w : List ℕ} {φ : Formula} → Derives i mark_kind l w φ → {v : List ℕ} {ψ : Formula} → Derives i mark_kind l v ψ
    → (s t : List ℕ) → w ++ s ≡ v ++ t → CanFollow l s → CanFollow l t → Same s t φ ψ
same (operand {b = a} j eφ) (operand {b = b} k eψ) s t e c d = let h : a ≡ b = cc in (cc, cc)
same (operand {b = a} j eφ) (prefix {b = b} k y eψ) s t e c d =
    let f : Operand ≡ Prefix = one_kind a b _ _ _ _ e j k in let z : ◌≡◌ {A = ℕ} 0 1 = cc in absurd (omega arith)
same (operand {b = a} j eφ) (parens {a = b} k k' y) s t e c d =
    let f : Operand ≡ Open = one_kind a b _ _ _ _ e j k in let z : ◌≡◌ {A = ℕ} 0 1 = cc in absurd (omega arith)
same (prefix {b = a} j x eφ) (operand {b = b} k eψ) s t e c d =
    let f : Prefix ≡ Operand = one_kind a b _ _ _ _ e j k in let z : ◌≡◌ {A = ℕ} 0 1 = cc in absurd (omega arith)
same (prefix {b = a} {w = w} {φ = φ} j x eφ) (prefix {b = b} {w = v} {φ = ψ} k y eψ) s t e c d =
    let h : a ≡ b = cc in
    let r = same x y s t (let g : w ++ s ≡ v ++ t = cc in g) c d in
    let f : φ ≡ ψ = r.1 in
    (r.0, cc)
same (prefix {b = a} j x eφ) (parens {a = b} k k' y) s t e c d =
    let f : Prefix ≡ Open = one_kind a b _ _ _ _ e j k in let z : ◌≡◌ {A = ℕ} 0 1 = cc in absurd (omega arith)
same (parens {a = a} j j' x) (operand {b = b} k eψ) s t e c d =
    let f : Open ≡ Operand = one_kind a b _ _ _ _ e j k in let z : ◌≡◌ {A = ℕ} 0 1 = cc in absurd (omega arith)
same (parens {a = a} j j' x) (prefix {b = b} k y eψ) s t e c d =
    let f : Open ≡ Prefix = one_kind a b _ _ _ _ e j k in let z : ◌≡◌ {A = ℕ} 0 1 = cc in absurd (omega arith)
same (parens {a = a} {b = b} {w = w} j j' x) (parens {a = a'} {b = b'} {w = v} k k' y) s t e c d =
    let g : w ++ (b ∷ []) ++ s ≡ v ++ (b' ∷ []) ++ t = cc in
    let r = same x y (b ∷ s) (b' ∷ t) (sym (append_assoc w (b ∷ []) s) ∙ (g ∙ append_assoc v (b' ∷ []) t)) (follow_close 4 b s j') (follow_close 4 b' t k') in
    let q : ◌≡◌ {A = List ℕ} (b ∷ s) (b' ∷ t) = r.0 in
    (cc, r.1)
same (lower {l = l} x) (lower y) s t e c d = same x y s t e (follow_down l s c) (follow_down l t d)
same (lower {l = l} x) (infixed {b = b} {u = u} {v = v} k y z eψ) s t e c d =
    let r = same x y s (b ∷ (v ++ t)) (e ∙ append_assoc u (b ∷ v) t) (follow_down l s c) (follow_infix l b (v ++ t) k) in
    absurd (follow_level l b s (v ++ t) c r.0 k)
same (infixed {l = l} {b = b} {u = u} {v = v} k y z eφ) (lower x) s t e c d =
    let r = same y x (b ∷ (v ++ s)) t (sym (append_assoc u (b ∷ v) s) ∙ e) (follow_infix l b (v ++ s) k) (follow_down l t d) in
    absurd (follow_level l b t (v ++ s) d (sym r.0) k)
same (infixed {l = l} {b = a} {u = u} {v = v} {φ = α} {ψ = β} j x y eφ) (infixed {b = b} {u = u'} {v = v'} {φ = γ} {ψ = δ} k x' y' eψ) s t e c d =
    let r =
    same x x' (a ∷ (v ++ s)) (b ∷ (v' ++ t)) (sym (append_assoc u (a ∷ v) s) ∙ (e ∙ append_assoc u' (b ∷ v') t))
    (follow_infix l a (v ++ s) j) (follow_infix l b (v' ++ t) k) in
    let q : ◌≡◌ {A = List ℕ} (a ∷ (v ++ s)) (b ∷ (v' ++ t)) = r.0 in
    let h : a ≡ b = cc in
    let f : α ≡ γ = r.1 in
    let m = same y y' s t (let g : v ++ s ≡ v' ++ t = cc in g) c d in
    let g : β ≡ δ = m.1 in
    (m.0, cc)

-- ---- one place

begins_less : (i : ℕ) (kind : ℕ → Kind) (text : List ℕ) (j k : ℕ) → j ≤ k → Begins i kind (take k text) → Begins i kind (take j text)
begins_less i kind text j k h b =
    let e : take j text ++ drop j (take k text) ≡ take k text =
    ap (λ (r : List ℕ). r ++ drop j (take k text)) (sym (take-take j k text h)) ∙ take-append-drop j (take k text) in (
      drop j (take k text) ++ b.0,
      b.1,
      subst (λ (r : List ℕ). Reads i kind r b.1)
          (ap (λ (r : List ℕ). r ++ b.0) (sym e) ∙ append_assoc (take j text) (drop j (take k text)) b.0) b.2,
    )

not_later : (i : ℕ) (kind : ℕ → Kind) (text : List ℕ) (j k : ℕ) → IsPlace i kind text j → IsPlace i kind text k → k ≤ j
not_later i kind text j k p q = go (dec_le k j)
  where
    go : Dec (k ≤ j) → k ≤ j
    go (yes h) = h
    go (no n) =
        let h : j < k = lt_of_not-le n in
        absurd (p.stops (omega (arith, q.within)) (begins_less i kind text (suc j) k h q.begins))

-- ---- the reading of a formula

answer : Formula → Reading
answer φ = cond (ltb node_limit (size φ)) (Err TooManyNodes) (cond (ltb operator_limit (operators φ)) (Err TooManyOperators) (Ok (size φ)))

-- a reading is that of a formula of the text, or of a place
abbrev Origin : ℕ → (ℕ → Kind) → List ℕ → Reading → Type 0
Origin i kind text r = ((φ : Formula) × Reads i kind text φ × (r ≡ answer φ)) ⊎ ((k : ℕ) × IsPlace i kind text k × (r ≡ Err (Bad k)))

-- or the text is too long
abbrev Cause : ℕ → (ℕ → Kind) → List ℕ → Reading → Type 0
Cause i kind text r = ((text_limit < length text) × (r ≡ Err TooLong)) ⊎ ((length text ≤ text_limit) × Origin i kind text r)

cause : (i : ℕ) (kind : ℕ → Kind) (text : List ℕ) (r : Reading) → ReadingOf i kind text r → Cause i kind text r
unfolding ReadingOf answer
cause i kind text (Ok n) a =
    let h : size a.0 ≤ node_limit = a.1.few_nodes in
    let g : operators a.0 ≤ operator_limit = a.1.few_operators in
    inr (a.1.short, inl (a.0, a.1.reads, simp (le-ltb node_limit (size a.0) h, le-ltb operator_limit (operators a.0) g) (ap Ok a.2)))
cause i kind text (Err TooLong) a = inl (a, refl)
cause i kind text (Err (Bad k)) a = inr (a.0, inr (k, a.1, refl))
cause i kind text (Err TooManyNodes) a = inr (a.0, inl (a.1, a.2, simp (lt-ltb node_limit (size a.1) a.3)))
cause i kind text (Err TooManyOperators) a =
    inr (a.0, inl (a.1, a.2, simp (le-ltb node_limit (size a.1) a.3, lt-ltb operator_limit (operators a.1) a.4)))

-- ---- the theorems

module _ (i o : ℕ) (t : Bool) (text : List ℕ) where
  abbrev K : ℕ → Kind
  K = kind_in i o t

  -- a text has at most one formula
  pub one_formula : {φ ψ : Formula} → Reads i K text φ → Reads i K text ψ → φ ≡ ψ
  one_formula x y = (same (whole_alphabet i o t x) (whole_alphabet i o t y) [] [] refl tt tt).1

  -- and at most one place
  pub one_place : {j k : ℕ} → IsPlace i K text j → IsPlace i K text k → j ≡ k
  one_place {j} {k} p q = le_antisymm (not_later i K text k j q p) (not_later i K text j k p q)

  -- and never both
  pub never_both : {φ : Formula} {k : ℕ} → Reads i K text φ → IsPlace i K text k → ⊥
  never_both {φ} x p = p.ends φ x

  -- the number of a good reading is that of the nodes
  pub good_formula : {φ : Formula} {n : ℕ} → IsGood i K text φ → ReadingOf i K text (Ok n) → n ≡ size φ
  unfolding ReadingOf
  good_formula g r = r.2 ∙ ap size (one_formula r.1.reads g.reads)

  -- a formula's reading, by its counts
  reading_of : length text ≤ text_limit → (φ : Formula) → Reads i K text φ → (r : Reading) × ReadingOf i K text r
  unfolding ReadingOf
  reading_of s φ x = go (dec_le (size φ) node_limit) (dec_le (operators φ) operator_limit)
    where
      go : Dec (size φ ≤ node_limit) → Dec (operators φ ≤ operator_limit) → (r : Reading) × ReadingOf i K text r
      go (yes h) (yes g) = (Ok (size φ), (φ, record { short = s; reads = x; few_nodes = h; few_operators = g }, refl))
      go (yes h) (no g) = (Err TooManyOperators, (s, φ, x, h, lt_of_not-le g))
      go (no h) d = (Err TooManyNodes, (s, φ, x, lt_of_not-le h))

  -- a formula's or a place's reading is one
  one_origin : {r s : Reading} → Origin i K text r → Origin i K text s → r ≡ s
  one_origin (inl a) (inl b) = a.2 ∙ (ap answer (one_formula a.1 b.1) ∙ sym b.2)
  one_origin (inl a) (inr b) = absurd (never_both a.1 b.1)
  one_origin (inr a) (inl b) = absurd (never_both b.1 a.1)
  one_origin (inr a) (inr b) = let f : (k : ℕ) → Reading = λ k. Err (Bad k) in a.2 ∙ (ap f (one_place a.1 b.1) ∙ sym b.2)

  -- a text has at most one reading
  pub one_reading : {r s : Reading} → ReadingOf i K text r → ReadingOf i K text s → r ≡ s
  one_reading {r} {s} x y = go (cause i K text r x) (cause i K text s y)
    where
      go : Cause i K text r → Cause i K text s → r ≡ s
      go (inl a) (inl b) = a.1 ∙ sym b.1
      go (inl a) (inr b) = absurd (omega (arith, a.0, b.0))
      go (inr a) (inl b) = absurd (omega (arith, a.0, b.0))
      go (inr a) (inr b) = one_origin a.1 b.1

  -- and at least one
  pub some_reading : (r : Reading) × ReadingOf i K text r
  unfolding ReadingOf
  some_reading = go (dec_le (length text) text_limit) (scan_of K text 0 start) refl
    where
      go : Dec (length text ≤ text_limit) → (x : Result (Unit {0}) ℕ) → scan_of K text 0 start ≡ x → (r : Reading) × ReadingOf i K text r
      go (no n) x e = (Err TooLong, lt_of_not-le n)
      go (yes h) (Ok _) e = let f = formula_of_lem i o t text e in reading_of h f.0 f.1
      go (yes h) (Err k) e = (Err (Bad k), (h, place_of i o t text k e))
