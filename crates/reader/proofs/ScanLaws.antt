-- The pass of Scan, step by step as the loop takes it, and as the steps at the marks of the text.
-- Assumes nothing.
use mathlib.Core.Path.{◌≡◌, refl, sym, ap, ◌∙◌}
use mathlib.Core.Bool.{false}
use mathlib.Core.List.{List, [], ◌∷◌, ◌++◌}
use Prim.Native.Nat.{ℕ, suc, ◌+◌, ◌≤◌, ◌<◌, suc-le-suc}
use native.Mathlib.Nat.{le_of_suc-le-suc, not-suc-le-zero}
use native.Mathlib.Numerals.{add-one}
use native.Mathlib.Omega.{arith}
use lib.ListN.{length, get_or, take, drop, drop_of_length-le}
use lib.Seq.{drop-cons}
use Rattle.std.proofs.lemmas.Bool.Decides.{nat_tests}
use Rattle.std.specs.Prelude.{Option, Some, None, Ok, Err}
use Rattle.std.specs.Option.{option_and_then}
use Rattle.std.proofs.lemmas.Option.{none-some, same_Some}
use Rattle.reader.specs.declared.marks.Kind.{Kind}
use Rattle.reader.specs.declared.scan.ScanState.{ScanState}
use Rattle.reader.specs.Grammar.{without_blanks}
use Rattle.reader.specs.inner.Scan.{state, mark_step, step_of, scan_of, follow, end_of}

pub without_blanks_append : (u v : List ℕ) → without_blanks (u ++ v) ≡ without_blanks u ++ without_blanks v
unfolding without_blanks
without_blanks_append [] v = refl
without_blanks_append (b ∷ u) v = grind (arith, nat_tests, without_blanks_append u v)

-- the end of a text is good in one state alone
end_good : (x : ScanState) (at : ℕ) → end_of x at ≡ Ok tt → x ≡ state false 0
end_good x at e = grind (arith, nat_tests)

-- and its place is the end in any other
end_bad : (x : ScanState) (at k : ℕ) → end_of x at ≡ Err k → (k ≡ at) × (x ≡ state false 0 → ⊥)
end_bad x at k e = grind (arith, nat_tests)

module _ (kind : ℕ → Kind) where
  -- the steps at the marks, one after the other
  unfoldable pub scanned : List ℕ → ScanState → Option ScanState
  scanned [] x = Some x
  scanned (b ∷ s) x = option_and_then (scanned s) (mark_step (kind b) x.operand_due x.depth)

  pub scanned_append : (u v : List ℕ) (x : ScanState) → scanned (u ++ v) x ≡ option_and_then (scanned v) (scanned u x)
  unfolding scanned
  scanned_append [] v x = refl
  scanned_append (b ∷ u) v x = grind (arith, scanned_append u v)

  -- the step at a byte is that at its mark, if it has one
  scanned_byte : (b : ℕ) (s : List ℕ) (x : ScanState)
      → scanned (without_blanks (b ∷ s)) x ≡ option_and_then (scanned (without_blanks s)) (step_of kind b x)
  unfolding scanned without_blanks step_of
  scanned_byte b s x = grind (arith, nat_tests)

  -- the pass over s stops at j, counted from its beginning
  pub record StopsAt (s : List ℕ) (x : ScanState) (j : ℕ) : Type 0 where
    pub within : j ≤ length s
    pub passed : (y : ScanState) × (scanned (without_blanks (take j s)) x ≡ Some y)
    pub stuck_at : j < length s → scanned (without_blanks (take (suc j) s)) x ≡ None
    pub not_whole : scanned (without_blanks s) x ≡ Some (state false 0) → ⊥

  pub scanned_whole : (s : List ℕ) (at : ℕ) (x : ScanState) → scan_of kind s at x ≡ Ok tt → scanned (without_blanks s) x ≡ Some (state false 0)
  unfolding scanned without_blanks scan_of
  scanned_whole [] at x e = ap Some (end_good x at e)
  scanned_whole (b ∷ s) at x e = grind (arith, scanned_whole s (suc at), scanned_byte b s x)

  pub scanned_stop : (s : List ℕ) (at : ℕ) (x : ScanState) (k : ℕ) → scan_of kind s at x ≡ Err k → (j : ℕ) × (k ≡ at + j) × StopsAt s x j
  unfolding scanned without_blanks scan_of
  scanned_stop [] at x k e =
      let r = end_bad x at k e in (
        0,
        omega (arith, r.0),
        record {
          within = omega arith;
          passed = (x, refl);
          stuck_at = λ h. absurd (not-suc-le-zero h);
          not_whole = λ q. r.1 (same_Some _ _ q);
        },
      )
  scanned_stop (b ∷ s) at x k e = go (λ y q. scanned_stop s (suc at) y k q) (step_of kind b x) refl e
    where
      go : ((y : ScanState) → scan_of kind s (suc at) y ≡ Err k → (j : ℕ) × (k ≡ suc at + j) × StopsAt s y j) → (o : Option ScanState)
          → step_of kind b x ≡ o → follow o at (scan_of kind s (suc at)) ≡ Err k → (j : ℕ) × (k ≡ at + j) × StopsAt (b ∷ s) x j
      go rec (Some y) p q =
          let r = rec y q in
          let t = r.2 in
          let m : (u : List ℕ) → scanned (without_blanks (b ∷ u)) x ≡ scanned (without_blanks u) y =
          λ u. scanned_byte b u x ∙ ap (λ (o : Option ScanState). option_and_then (scanned (without_blanks u)) o) p in (
            suc r.0,
            (let f : k ≡ suc at + r.0 = r.1 in omega arith),
            record {
              within = suc-le-suc t.within;
              passed = (t.passed.0, m (take r.0 s) ∙ t.passed.1);
              stuck_at = λ h. m (take (suc r.0) s) ∙ t.stuck_at (le_of_suc-le-suc h);
              not_whole = λ g. t.not_whole (sym (m s) ∙ g);
            },
          )
      go rec None p q = (
        0,
        (let f : at ≡ k = cc in omega arith),
        record {
          within = omega arith;
          passed = (x, refl);
          stuck_at = λ h. scanned_byte b [] x ∙ ap (λ (o : Option ScanState). option_and_then (scanned []) o) p;
          not_whole = λ g. none-some _ (sym (scanned_byte b s x ∙ ap (λ (o : Option ScanState). option_and_then (scanned (without_blanks s)) o) p) ∙ g);
        },
      )

-- ---- one turn of the loop

-- a step opens at most one parenthesis
pub step_depth : (kind : ℕ → Kind) (b : ℕ) (x y : ScanState) → step_of kind b x ≡ Some y → y.depth ≤ x.depth + 1
unfolding step_of
step_depth kind b x y e = grind (arith, nat_tests)

module _ (kind : ℕ → Kind) (s : List ℕ) (at : ℕ) (x : ScanState) where
  pub scan_turn : at < length s → scan_of kind (drop at s) at x ≡ follow (step_of kind (get_or s at 0) x) at (scan_of kind (drop (at + 1) s) (at + 1))
  unfolding scan_of
  scan_turn h = rw (drop-cons s at 0 h, add-one)

  pub scan_end : length s ≤ at → scan_of kind (drop at s) at x ≡ end_of x at
  unfolding scan_of
  scan_end h = rw (drop_of_length-le s h)
