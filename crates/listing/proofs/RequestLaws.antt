-- What an input asks for (specs/Input.antt) is there once: a text has one first line, and an input has at most one reading.
-- Assumes nothing.
use Prim.Native.Nat.{ℕ, suc, ◌+◌, ◌-◌, ◌≤◌, ◌<◌}
use mathlib.Core.Path.{◌≡◌, refl, sym, ap, subst, ◌∙◌}
use mathlib.Core.List.{List, [], ◌∷◌, ◌++◌}
use native.Mathlib.Omega.{arith}
use lib.Dec.{eqb, ltb}
use lib.ListN.{length, get_or, take, drop, length-drop}
use lib.Seq.{take_all}
use borrow.Author.Tests.{eqb-true, eqb-false, ltb-true, ltb-false}
use Rattle.std.specs.Prelude.{Some, None, ◌==◌}
use Rattle.std.specs.List.{position, position_or_len}
use Rattle.std.proofs.lemmas.Option.{none-some, cond_some}
use Rattle.plays.specs.declared.mode.Mode.{Mode}
use Rattle.plays.specs.declared.mode.Mode.TheVariants.{Fair, Stable}
use Rattle.reader.proofs.BoolLaws.{on}
use Rattle.listing.specs.Decimal.{digit}
use Rattle.listing.specs.Input.{newline, blank, mode_word, Line, Asks}

-- the length of the first line
abbrev line_length : List ℕ → ℕ
line_length s = position_or_len (λ b. b == newline) s

line_before : (s : List ℕ) → Line (take (line_length s) s)
unfolding Line
line_before [] = tt
line_before (b ∷ s) =
    let n : 1 + line_length s ≡ suc (line_length s) = omega arith in
    on (eqb b newline) (λ e. rw e tt) (λ e. rw (e, n) (eqb-false b newline e, line_before s))

line_split : (s : List ℕ) → line_length s < length s → s ≡ take (line_length s) s ++ (newline ∷ drop (suc (line_length s)) s)
line_split [] h = absurd (omega arith)
line_split (b ∷ s) h =
    let n : 1 + line_length s ≡ suc (line_length s) = omega arith in
    on (eqb b newline)
    (λ e. rw (e, eqb-true b newline e) refl)
    (λ e.
    let g : 1 + line_length s < suc (length s) = rw e at h in
    rw (e, n) (ap (λ (l : List ℕ). b ∷ l) (line_split s (omega arith))))

-- where no byte is 0x0A the text is a line
pub no_newline : (s : List ℕ) → position (λ b. b == newline) s ≡ None → Line s
no_newline s h =
    on (ltb (line_length s) (length s))
    (λ e. let g : Some (line_length s) ≡ None = rw e at h in absurd (none-some (line_length s) (sym g)))
    (λ e. subst Line (take_all (line_length s) s (ltb-false (line_length s) (length s) e)) (line_before s))

-- where one is, what stands before the first is a line
pub first_newline : (s : List ℕ) (i : ℕ) → position (λ b. b == newline) s ≡ Some i
    → Line (take i s) × (s ≡ take i s ++ (newline ∷ take (length s - (i + 1)) (drop (i + 1) s)))
first_newline s i h =
    let p = cond_some (ltb (line_length s) (length s)) (line_length s) i h in
    let l : line_length s < length s = ltb-true (line_length s) (length s) p.0 in
    let n : i + 1 ≡ suc (line_length s) = omega (arith, p.1) in
    let m : length (drop (i + 1) s) ≤ length s - (i + 1) = omega (arith, length-drop (i + 1) s) in
    (subst (λ (k : ℕ). Line (take k s)) p.1 (line_before s), rw (take_all (length s - (i + 1)) (drop (i + 1) s) m, n, ← p.1) (line_split s l))

-- a text has one first line, and one rest
pub one_line : (a b x y : List ℕ) → Line a → Line b → a ++ (newline ∷ x) ≡ b ++ (newline ∷ y) → (a ≡ b) × (x ≡ y)
unfolding Line
one_line [] [] x y k l e = (refl, ap (drop 1) e)
one_line [] (c ∷ b) x y k l e = absurd (l.0 (sym (ap (λ (l : List ℕ). get_or l 0 0) e)))
one_line (c ∷ a) [] x y k l e = absurd (k.0 (ap (λ (l : List ℕ). get_or l 0 0) e))
one_line (c ∷ a) (d ∷ b) x y k l e =
    let p = one_line a b x y k.1 l.1 (ap (drop 1) e) in
    let h : c ≡ d = ap (λ (l : List ℕ). get_or l 0 0) e in
    (rw (h, p.0) refl, p.1)

-- a line has no 0x0A
pub no_line : (s a x : List ℕ) → Line s → s ≡ a ++ (newline ∷ x) → ⊥
unfolding Line
no_line [] [] x k e = let z : ℕ = 0 in omega (arith, ap length e)
no_line [] (b ∷ a) x k e = omega (arith, ap length e)
no_line (c ∷ s) [] x k e = k.0 (ap (λ (l : List ℕ). get_or l 0 0) e)
no_line (c ∷ s) (b ∷ a) x k e = no_line s a x k.1 (ap (drop 1) e)

-- a text has one mode
pub one_mode : (m k : Mode) (x y : List ℕ) → mode_word m ++ (newline ∷ x) ≡ mode_word k ++ (newline ∷ y) → (m ≡ k) × (x ≡ y)
one_mode Fair Fair x y e = (refl, ap (drop 5) e)
one_mode Fair Stable x y e = absurd (let h : 102 ≡ 115 = ap (λ (l : List ℕ). get_or l 0 0) e in omega arith)
one_mode Stable Fair x y e = absurd (let h : 115 ≡ 102 = ap (λ (l : List ℕ). get_or l 0 0) e in omega arith)
one_mode Stable Stable x y e = (refl, ap (drop 7) e)

-- the two texts from a place on
abbrev pub texts : List ℕ → List ℕ → List ℕ
texts condition rule = condition ++ (newline ∷ (rule ++ (newline ∷ [])))

-- what an input with such first lines asks for
pub texts_left : {s rest t : List ℕ} {i o i' o' : ℕ} {mode mode' : Mode} {c r : List ℕ} → s ≡ digit i ∷ blank ∷ digit o ∷ newline ∷ rest
    → rest ≡ mode_word mode ++ (newline ∷ t)
    → Asks s i' o' mode' c r
    → (i ≡ i') × (o ≡ o') × (mode ≡ mode') × (t ≡ texts c r)
texts_left {s} {rest} {t} {i} {o} {i'} {o'} {mode} {mode'} {c} {r} first second q =
    let e = sym first ∙ q.text in
    let x : 48 + i ≡ 48 + i' = ap (λ (l : List ℕ). get_or l 0 0) e in
    let y : 48 + o ≡ 48 + o' = ap (λ (l : List ℕ). get_or l 2 0) e in
    let m = one_mode mode mode' t (texts c r) (sym second ∙ ap (drop 4) e) in
    (omega arith, omega arith, m.0, m.1)

-- an input has at most one reading
pub one_request : {s : List ℕ} {i i' o o' : ℕ} {mode mode' : Mode} {c c' r r' : List ℕ} → Asks s i o mode c r → Asks s i' o' mode' c' r'
    → (i ≡ i') × (o ≡ o') × (mode ≡ mode') × (c ≡ c') × (r ≡ r')
one_request {s} {i} {i'} {o} {o'} {mode} {mode'} {c} {c'} {r} {r'} p q =
    let f = texts_left {rest = mode_word mode ++ (newline ∷ texts c r)} {mode = mode} p.text refl q in
    let l = one_line c c' (r ++ (newline ∷ [])) (r' ++ (newline ∷ [])) p.condition_line q.condition_line f.3 in
    (f.0, f.1, f.2, l.0, (one_line r r' [] [] p.rule_line q.rule_line l.1).0)
