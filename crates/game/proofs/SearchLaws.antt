-- Laws of the search for an output that serves: it begins anywhere and goes around.
-- Assumes nothing.
use Rattle.std.proofs.Common.{◌≡◌, ℕ, ◌+◌, ◌<◌, ◌≤◌, Bool, false, sym, subst, arith}
use Rattle.plays.proofs.CaseLaws.{same_or, below_or}

-- of n outputs, the d before y, going around, do not serve; before the first is tried, y may be any number
pub record Tried (f : ℕ → Bool) (n d y : ℕ) : Type 0 where
  pub within : d ≤ n
  pub near : 0 < d → y ≤ n
  pub lower : (k : ℕ) → k < y → y ≤ k + d → f k ≡ false
  pub higher : (k : ℕ) → k < n → y + n ≤ k + d → f k ≡ false

pub tried_none : (f : ℕ → Bool) (n y : ℕ) → Tried f n 0 y
tried_none f n y =
    record {
      within = omega arith;
      near = λ h. absurd (let z : ⊥ = omega arith in z);
      lower = λ k h l. absurd (let z : ⊥ = omega arith in z);
      higher = λ k h l. absurd (let z : ⊥ = omega arith in z);
    }

module _ {f : ℕ → Bool} {n d y : ℕ} (t : Tried f n d y) where
  around : n ≤ y → Tried f n d 0
  around h =
      record {
        within = t.within;
        near = λ p. omega arith;
        lower = λ k l m. absurd (let z : ⊥ = omega arith in z);
        higher = λ k l m. let p : 0 < d = omega arith in let q = t.near p in t.lower k (omega arith) (omega arith);
      }

  -- the next output to be tried
  pub tried_wrapped : (r : ℕ) → (y < n → r ≡ y) → (n ≤ y → r ≡ 0) → d < n → (r < n) × Tried f n d r
  tried_wrapped r same first more =
      below_or y n
      (λ l. let e = same l in (omega arith, subst (λ (i : ℕ). Tried f n d i) (sym e) t))
      (λ h. let e = first h in (omega arith, subst (λ (i : ℕ). Tried f n d i) (sym e) (around h)))

  -- one more that does not serve
  pub tried_more : y < n → d < n → f y ≡ false → Tried f n (d + 1) (y + 1)
  tried_more l more here =
      record {
        within = omega arith;
        near = λ p. omega arith;
        lower = λ k h m. same_or k y (λ e. subst (λ (i : ℕ). f i ≡ false) (sym e) here) (λ u. t.lower k (omega arith) (omega arith));
        higher = λ k h m. t.higher k h (omega arith);
      }

  -- all have been tried
  pub tried_all : d ≡ n → (k : ℕ) → k < n → f k ≡ false
  tried_all e k l =
      below_or k y
      (λ h. let q = t.near (omega arith) in t.lower k h (omega arith))
      (λ h. t.higher k l (omega arith))
