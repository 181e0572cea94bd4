-- The marks of a text from a place on, and what the small functions of the reading say of them.
-- Assumes nothing.
use mathlib.Core.Path.{◌≡◌, refl, sym, ap, ◌∙◌}
use mathlib.Core.Bool.{Bool, true, false, cond, true≢false}
use mathlib.Core.List.{List, [], ◌∷◌}
use Prim.Native.Nat.{ℕ, ◌+◌, ◌-◌, ◌≤◌, ◌<◌}
use native.Mathlib.Numerals.{add-one, one-add}
use native.Mathlib.Nat.{lt_of_not-le}
use native.Mathlib.Omega.{arith}
use borrow.Author.Tests.{eq-eqb, ne_eqb}
use lib.ListN.{length, get_or, take, drop, drop_of_length-le}
use lib.Seq.{drop-cons}
use Rattle.std.specs.Prelude.{◌==◌, take_while}
use Rattle.std.specs.List.{prefix_len}
use Rattle.std.proofs.lemmas.List.{get_or-drop, length-drop, drop-drop, take_all}
use Rattle.std.proofs.lemmas.List.Sums.{prefix_len-le-length, prefix_len_stops}
use Rattle.std.proofs.lemmas.List.Folds.{length-prefix_len}
use lib.Dec.{eqb}
use mir.Val.{bool_byte}
use Rattle.reader.specs.declared.levels.Reader.{Reader}
use Rattle.reader.specs.Marks.{is_temporal_mark}
use Rattle.reader.specs.Grammar.{without_blanks}
use Rattle.reader.specs.inner.Counts.{tick}
use Rattle.reader.specs.inner.Blanks.{IsMarkOrEnd, PastBlanks}
use Rattle.reader.specs.inner.Steps.{SameSource, PastMark}

module _ (s : List ℕ) (at : ℕ) where
  pub mark_at : at < length s → (get_or s at 0 ≡ 32 → ⊥) → without_blanks (drop at s) ≡ get_or s at 0 ∷ without_blanks (drop (at + 1) s)
  unfolding without_blanks
  mark_at h n = rw (drop-cons s at 0 h, add-one, ne_eqb (get_or s at 0) 32 n)

  pub without_blanks_end : length s ≤ at → without_blanks (drop at s) ≡ []
  unfolding without_blanks
  without_blanks_end h = rw (drop_of_length-le s h)

-- a place with a mark is inside the text
pub inside : (text : List ℕ) (at b : ℕ) (s : List ℕ) → without_blanks (drop at text) ≡ b ∷ s → at < length text
inside text at b s e =
    lt_of_not-le (λ h. let f : without_blanks (drop at text) ≡ [] = without_blanks_end text at h in let z : ◌≡◌ {A = ℕ} 0 1 = cc in omega arith)

-- the first of the marks from a place on, where no blank is there
pub first_mark : (text : List ℕ) (at b : ℕ) (s : List ℕ) → IsMarkOrEnd text at → without_blanks (drop at text) ≡ b ∷ s → get_or text at 0 ≡ b
first_mark text at b s n e =
    let h = inside text at b s e in
    let f : get_or text at 0 ∷ without_blanks (drop (at + 1) text) ≡ b ∷ s = sym (mark_at text at h (n.no_blank h)) ∙ e in
    cc

-- the blanks that a text begins with
abbrev blanks : List ℕ → ℕ
blanks s = prefix_len (λ b. b == 32) s

after_blanks : (s : List ℕ) → without_blanks (drop (blanks s) s) ≡ without_blanks s
unfolding without_blanks
after_blanks [] = refl
after_blanks (b ∷ s) = go (eqb b 32) refl (after_blanks s)
  where
    go : (t : Bool) → eqb b 32 ≡ t → without_blanks (drop (blanks s) s) ≡ without_blanks s
        → without_blanks (drop (cond t (1 + blanks s) 0) (b ∷ s)) ≡ cond t (without_blanks s) (b ∷ without_blanks s)
    go true f e = rw one-add e
    go false f e = rw f

-- past the blanks from a place on, of which there are m
pub past_blanks : (text : List ℕ) (at m : ℕ) → at ≤ length text → m ≡ length (take_while (λ b. b == 32) (take (length text - at) (drop at text)))
    → PastBlanks text at (at + m)
past_blanks text at m h e =
    let n = blanks (drop at text) in
    let rest : take (length text - at) (drop at text) ≡ drop at text = take_all (length text - at) (drop at text) (omega (arith, length-drop at text)) in
    let f : m ≡ n = e ∙ (ap (λ (s : List ℕ). length (take_while (λ b. b == 32) s)) rest ∙ length-prefix_len (λ b. b == 32) (drop at text)) in
    record {
      from = omega arith;
      mark_or_end = record {
        within = omega (arith, prefix_len-le-length (λ b. b == 32) (drop at text), length-drop at text);
        no_blank = λ g b.
            let stop : n < length (drop at text) = omega (arith, length-drop at text) in
            let blank : get_or (drop at text) n 0 ≡ 32 = get_or-drop at text n 0 ∙ (ap (λ k. get_or text (at + k) 0) (sym f) ∙ b) in
            true≢false (sym (eq-eqb _ 32 blank) ∙ prefix_len_stops (λ b. b == 32) (drop at text) 0 stop);
      };
      same = rw (f, ← drop-drop n at text) (after_blanks (drop at text));
    }

-- a temporal mark takes a coordinate
pub one_for_tick : (b k n : ℕ) (t : Bool) → t ≡ is_temporal_mark b → n ≡ bool_byte t → k + n ≡ k + tick b
unfolding tick
one_for_tick b k n t e f = ap (λ (m : ℕ). k + m) (f ∙ (ap bool_byte e ∙ go (is_temporal_mark b)))
  where
    go : (x : Bool) → bool_byte x ≡ cond x 1 0
    go true = refl
    go false = refl

-- past a mark and the blanks after it
pub past_mark : (p r : Reader) → SameSource p r → p.at < length p.text.now → PastBlanks p.text.now (p.at + 1) r.at → r.nodes ≡ p.nodes
    → r.coordinate ≡ p.coordinate + tick (get_or p.text.now p.at 0) → PastMark p.text.now p r
past_mark p r s h k e f =
    record {
      source = s;
      past = omega (arith, k.from);
      mark = mark_at p.text.now p.at h (p.mark_or_end.no_blank h) ∙ ap (λ (w : List ℕ). get_or p.text.now p.at 0 ∷ w) (sym k.same);
      nodes = e;
      coordinate = f;
    }
