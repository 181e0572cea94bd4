-- Laws of the search for the least limit: the needs to begin with, a limit that is tried, and the last one.
-- Assumes nothing.
use Rattle.std.proofs.Common.{◌≡◌, ℕ, ◌+◌, ◌<◌, ◌≤◌, true, false, List, length, get_or, set, sym, refl, ap, ◌∙◌, subst, arith, get_or-set_other, get_or-set_same}
use Rattle.automaton.specs.Limits.{state_limit}
use Rattle.plays.specs.Arena.{Arena}
use Rattle.plays.specs.inner.Rank.{Ranked}
use Rattle.plays.specs.inner.Beaten.{Beaten, over}
use Rattle.plays.specs.inner.Exact.{ExactNeeds}
use Rattle.game.specs.inner.Needs.{Marked, Bounds, Shrinks, Settled, UnrankedBeaten, Narrowed}
use Rattle.plays.proofs.CaseLaws.{zero_or, same_or}
use Rattle.plays.proofs.BeatenLaws.{beaten_less, beaten_limit}

-- ---- the needs to begin with

-- before the first state
pub none_marked : (system needs : List ℕ) → ((t : ℕ) → get_or needs t 0 ≡ 0) → Marked 0 system needs
none_marked system needs z =
    record {
      small = λ t. omega (arith, z t);
      won = λ t p. let e = z t in absurd (let q : ⊥ = omega arith in q);
      every = λ t h. absurd (let q : ⊥ = omega arith in q);
    }

-- one more state
module _ {system needs : List ℕ} {n : ℕ} (so_far : Marked n system needs) where
  -- without a rank
  pub mark_stays : get_or system n 0 ≡ 0 → Marked (n + 1) system needs
  mark_stays none =
      record {
        small = so_far.small;
        won = λ t p. let w = so_far.won t p in (omega arith, w.1);
        every = λ t h p.
            same_or t n
            (λ e. let q = ap (λ (i : ℕ). get_or system i 0) e in absurd (let z : ⊥ = omega arith in z))
            (λ d. so_far.every t (omega arith) p);
      }

  -- with one
  module _ (long : n < length needs) (some : 0 < get_or system n 0) where
    same : (t : ℕ) → t ≡ n → get_or (set needs n 1) t 0 ≡ 1
    same t e = ap (λ (i : ℕ). get_or (set needs n 1) i 0) e ∙ get_or-set_same needs n 1 0 long

    other : (t : ℕ) → (t ≡ n → ⊥) → get_or (set needs n 1) t 0 ≡ get_or needs t 0
    other t d = get_or-set_other needs n t 1 0 d

    pub mark_more : Marked (n + 1) system (set needs n 1)
    mark_more =
        record {
          small = λ t. same_or t n (λ e. omega (arith, same t e)) (λ d. omega (arith, other t d, so_far.small t));
          won = λ t p.
              same_or t n
              (λ e. (omega arith, subst (λ (i : ℕ). 0 < get_or system i 0) (sym e) some))
              (λ d. let q = other t d in let w = so_far.won t (omega arith) in (omega arith, w.1));
          every = λ t h p.
              same_or t n
              (λ e. omega (arith, same t e))
              (λ d. omega (arith, other t d, so_far.every t (omega arith) p));
        }

-- with these needs the system is beaten as they say, whatever the limit
pub marked_bounds : {G : Arena} {system needs : List ℕ} → Marked G.states system needs → UnrankedBeaten G system → (l : ℕ) → Bounds G l needs
marked_bounds {G} {system} {needs} m lost l =
    record {
      within = λ t p. (m.won t p).0;
      small = λ t. omega (arith, m.small t);
      beaten = λ s k hs kl q.
          zero_or (get_or system s 0)
          (λ e. lost s hs e l k)
          (λ p. over (omega (arith, m.small s, q (m.every s hs p))));
    }

-- ---- the search for the least limit

-- a smaller limit asks for no less
pub bounds_less : {G : Arena} {l m : ℕ} {needs : List ℕ} → l ≤ m → Bounds G m needs → Bounds G l needs
bounds_less {G} {l} {m} le b =
    record {
      within = b.within;
      small = b.small;
      beaten = λ s k hs kl q. beaten_less false G m l le s k (b.beaten s k hs (omega arith) q) k (omega arith);
    }

-- with the limit low the start has no need, with the limit high `best` gives it one, and what high asks for is no less than `needs`
pub record Between (G : Arena) (start : ℕ) (system best needs : List ℕ) (low high : ℕ) : Type 0 where
  pub apart : low < high
  pub few : high ≤ G.states
  pub beaten : Beaten false G low start low
  pub best_bounds : Bounds G high best
  pub ranked : Ranked G true false high best
  pub best_low : (t : ℕ) → get_or best t 0 ≤ high
  pub won : Shrinks system best
  pub here : 0 < get_or best start 0
  pub bounds : Bounds G high needs
  pub needs_won : Shrinks system needs

-- with exact needs within the limit the system is beaten as they say
exact_bounds : {G : Arena} {m : ℕ} {needs : List ℕ} → ExactNeeds G m needs → ((t : ℕ) → get_or needs t 0 ≤ m) → m ≤ state_limit → Bounds G m needs
exact_bounds exact low few =
    record {
      within = exact.ranked.within;
      small = λ t. omega (arith, low t);
      beaten = λ s k hs kl q. exact.beaten s k hs q;
    }

-- at first between none and the number of states
pub search_starts : {G : Arena} {start : ℕ} {system needs : List ℕ} → start < G.states → G.states ≤ state_limit → ExactNeeds G G.states system
    → ((t : ℕ) → get_or system t 0 ≤ G.states) → UnrankedBeaten G system → 0 < get_or system start 0 → Marked G.states system needs
    → Between G start system system needs 0 G.states
search_starts {G} h few exact low lost here m =
    record {
      apart = omega arith;
      few = omega arith;
      beaten = over refl;
      best_bounds = exact_bounds exact low few;
      ranked = exact.ranked;
      best_low = low;
      won = λ t p. p;
      here = here;
      bounds = marked_bounds m lost G.states;
      needs_won = λ t p. (m.won t p).1;
    }

-- one limit more was tried
module _ {G : Arena} {start : ℕ} {system best needs next : List ℕ} {low high l : ℕ} (so_far : Between G start system best needs low high)
    (settled : Settled G start l needs next) (above : low < l) (below : l < high) where
  pub search_higher : start < G.states → get_or next start 0 ≡ 0 → Between G start system best needs l high
  search_higher hs e =
      record {
        apart = below;
        few = so_far.few;
        beaten = settled.bounds.beaten start l hs (omega arith) (λ p. absurd (let z : ⊥ = omega arith in z));
        best_bounds = so_far.best_bounds;
        ranked = so_far.ranked;
        best_low = so_far.best_low;
        won = so_far.won;
        here = so_far.here;
        bounds = so_far.bounds;
        needs_won = so_far.needs_won;
      }

  next_won : Shrinks system next
  next_won t p = so_far.needs_won t (settled.kept t p)

  pub search_lower : (get_or next start 0 ≡ 0 → ⊥) → Between G start system next next low l
  search_lower d =
      let p : 0 < get_or next start 0 = omega arith in
      record {
        apart = above;
        few = omega (arith, so_far.few);
        beaten = so_far.beaten;
        best_bounds = settled.bounds;
        ranked = settled.ranked p;
        best_low = settled.low p;
        won = next_won;
        here = p;
        bounds = settled.bounds;
        needs_won = next_won;
      }

-- no limit is left between the two
pub search_ends : {G : Arena} {start : ℕ} {system best needs : List ℕ} {low high : ℕ} → Between G start system best needs low high → high ≤ low + 1
    → Narrowed G start system best high
search_ends {G} {start} {low = low} s le =
    record {
      positive = omega (arith, s.apart);
      few = s.few;
      bounds = s.best_bounds;
      ranked = s.ranked;
      low = s.best_low;
      won = s.won;
      here = s.here;
      beaten = λ k h. beaten_limit false G low start s.beaten k (omega arith);
    }
