-- Laws of the needs above the limit: which states may have one, a look at a state, a pass, the needs before the first pass, after one, and after the last.
-- Assumes nothing.
use Rattle.std.proofs.Common.{◌≡◌, ℕ, zero, suc, ◌+◌, ◌-◌, ◌<◌, ◌≤◌, max, Bool, true, false, cond, ltb, ◌⊎◌, List, Option, Some, None, length, get_or, set, sym, refl, ap, ◌∙◌, subst, ⊎_elim, arith, get_or-set_other, get_or-set_same, ltb-false, ltb-true}
use Rattle.std.specs.Option.{is_none}
use Rattle.plays.specs.Arena.{Arena, next, goal, holds}
use Rattle.plays.specs.inner.Rank.{Forces, Falls, Ranked}
use Rattle.plays.specs.inner.Beaten.{Beaten, over, forced}
use Rattle.plays.specs.inner.Exact.{ExactNeeds}
use Rattle.game.specs.inner.Limits.{rank_limit}
use Rattle.game.specs.inner.Valid.{Valid}
use Rattle.game.specs.inner.Serving.{ranked_below, safe_below, FirstUnserved}
use Rattle.game.specs.inner.Rounds.{Extends, Grows}
use Rattle.game.specs.inner.Needs.{Bounds, Shrinks, UnrankedBeaten}
use Rattle.game.specs.inner.Wide.{Enters, Bars, Opened, Hopeful, Looks, Standing, Looked, Widening, Widened, Wide}
use Rattle.reader.proofs.BoolLaws.{on}
use Rattle.plays.proofs.CaseLaws.{zero_or, same_or, below_or}
use Rattle.plays.proofs.BeatenLaws.{beaten_less}
use Rattle.game.proofs.IndexLaws.{next_below}
use Rattle.game.proofs.ForcingLaws.{forces_map}
use Rattle.game.proofs.LimitLaws.{below_none, not_lower}
use Rattle.game.proofs.ServingLaws.{unserved_at}
use Rattle.game.proofs.LiftLaws.{beq_true, all_enter, one_bars}

-- a list with one entry set
set_here : (l : List ℕ) (k w : ℕ) → k < length l → (t : ℕ) → t ≡ k → get_or (set l k w) t 0 ≡ w
set_here l k w long t e = ap (λ (i : ℕ). get_or (set l k w) i 0) e ∙ get_or-set_same l k w 0 long

set_other : (l : List ℕ) (k w t : ℕ) → (t ≡ k → ⊥) → get_or (set l k w) t 0 ≡ get_or l t 0
set_other l k w t d = get_or-set_other l k t w 0 d

-- the system is beaten on state s with a budget if for some input no output enters a goal, and it is beaten on what is entered: with one less where the input
-- has the condition, and with the limit where it lacks it
input_beaten : {G : Arena} {m s : ℕ} (R : ℕ → Type 0) (k x : ℕ) → Valid G → s < G.states → x < G.inputs
    → ((y : ℕ) → y < G.outputs → (goal G (next G s x y) ≡ false) × R (next G s x y))
    → ((t : ℕ) → t < G.states → R t → holds G x ≡ true → Beaten false G m t (k - 1))
    → ((t : ℕ) → t < G.states → R t → holds G x ≡ false → Beaten false G m t m)
    → Beaten false G m s k
input_beaten {G} {m} {s} R k x v hs legal entered having lacking =
    forced {k = k} x legal (λ y h. (entered y h).0)
    (λ y h.
    let t = next G s x y in
    let l = next_below v s x y hs legal h in
    on (holds G x) (λ e. rw e (having t l (entered y h).1 e)) (λ e. rw e (lacking t l (entered y h).1 e)))

-- ---- which states may have a need above the limit

module _ {G : Arena} (v : Valid G) {m : ℕ} {system needs : List ℕ} {s : ℕ} (b : Bounds G m needs) (un : UnrankedBeaten G system)
    (bound : (t : ℕ) → get_or system t 0 ≤ G.states) (hs : s < G.states) where
  pub hopeful_lost : get_or system s 0 ≡ 0 → Hopeful G m system needs s false
  hopeful_lost z = record { some = λ e. absurd (mathlib.Core.Bool.false≢true e); none = λ _ _ k. un s hs z m k }

  pub hopeful_has : (get_or needs s 0 ≡ 0 → ⊥) → Hopeful G m system needs s false
  hopeful_has d = record { some = λ e. absurd (mathlib.Core.Bool.false≢true e); none = λ _ z. absurd (d z) }

  -- the first input decides that no output serves
  pub hopeful_by : (r : Option ℕ) → FirstUnserved G (ranked_below rank_limit system) (safe_below true (m + 1) needs) s r → 0 < get_or system s 0 → get_or needs s 0 ≡ 0
      → Hopeful G m system needs s (is_none r)
  hopeful_by None u won none = record { some = λ _. (won, none); none = λ e. absurd (mathlib.Core.Bool.true≢false e) }
  hopeful_by (Some r) u won none =
      record {
        some = λ _. (won, none);
        none = λ _ _ k.
            input_beaten (λ t. cond (holds G r) (ranked_below rank_limit system t) (safe_below true (m + 1) needs t) ≡ false) k r v hs u.0
            (unserved_at G (ranked_below rank_limit system) (safe_below true (m + 1) needs) s r u.1)
            (λ t l w h. un t l (below_none rank_limit system t (rw h at w) (omega (arith, bound t, v.moving.states_fit))) m (k - 1))
            (λ t l w h. b.beaten t m l (omega arith)
            (λ some. omega (arith, not_lower (m + 1) needs t (sym (beq_true (ranked_below (m + 1) needs t)) ∙ rw h at w) some)));
      }

-- ---- the pass in which each state is due

-- before the first state
pub no_looks : {G : Arena} (m : ℕ) (system needs due : List ℕ) → ((t : ℕ) → get_or due t 0 ≡ 0) → Looks G m system needs due 0
no_looks m system needs due z =
    record {
      some = λ t w. let e = z t in absurd (let q : ⊥ = omega arith in q);
      late = λ t w. let e = z t in absurd (let q : ⊥ = omega arith in q);
      few = λ t. omega (arith, z t);
      early = λ s j l. absurd (let q : ⊥ = omega arith in q);
      never = λ s l. absurd (let q : ⊥ = omega arith in q);
    }

-- one more state
module _ {G : Arena} {m : ℕ} {system needs due : List ℕ} {k : ℕ} (so_far : Looks G m system needs due k) where
  -- that is never due
  pub looks_stays : Hopeful G m system needs k false → Looks G m system needs due (k + 1)
  looks_stays h =
      record {
        some = λ t w. let q = so_far.some t w in (omega (arith, q.0), q.1, q.2);
        late = so_far.late;
        few = so_far.few;
        early = λ s j l w. so_far.early s j (so_far.some s (let q : 0 < get_or due s 0 = omega arith in q)).0 w;
        never = λ s l z e. same_or s k
            (λ i. subst (λ (t : ℕ). get_or needs t 0 ≡ 0 → (j : ℕ) → Beaten false G m t j) (sym i) (h.none refl) z)
            (λ d. so_far.never s (omega arith) z e);
      }

  -- that is due in pass w
  module _ (b : Bounds G m needs) (exact : ExactNeeds G G.states system) (bound : (t : ℕ) → get_or system t 0 ≤ G.states) (limit : m ≤ G.states)
      (hk : k < G.states) (long : k < length due) (h : Hopeful G m system needs k true) {w : ℕ}
      (is : w ≡ max (get_or system k 0) (m + 1)) where
    larger : (get_or system k 0 ≤ w) × (m + 1 ≤ w) × ((w ≡ get_or system k 0) ⊎ (w ≡ m + 1))
    larger = (omega (arith, is), omega (arith, is), below_or (get_or system k 0) (m + 1) (λ l. ◌⊎◌.inr (omega (arith, is))) (λ l. ◌⊎◌.inl (omega (arith, is))))

    here_early : (j : ℕ) → j < w → Beaten false G m k j
    here_early j l =
        ⊎_elim
        (λ e. beaten_less false G G.states m limit k j (exact.beaten k j hk (λ _. omega arith)) j (omega arith))
        (λ e. b.beaten k j hk (omega arith) (λ some. let z = (h.some refl).1 in absurd (let q : ⊥ = omega arith in q)))
        larger.2

    pub looks_more : Looks G m system needs (set due k w) (k + 1)
    looks_more =
        let same = set_here due k w long in
        let other = set_other due k w in
        record {
          some = λ t p. same_or t k
              (λ e. subst (λ (i : ℕ). (i < k + 1) × (0 < get_or system i 0) × (get_or needs i 0 ≡ 0)) (sym e) (omega arith, (h.some refl).0, (h.some refl).1))
              (λ d. let q = other t d in let o = so_far.some t (omega arith) in (omega (arith, o.0), o.1, o.2));
          late = λ t p. same_or t k (λ e. omega (arith, same t e, larger.1)) (λ d. let q = other t d in omega (arith, so_far.late t (omega arith)));
          few = λ t. same_or t k
              (λ e. ⊎_elim (λ i. omega (arith, same t e, bound k)) (λ i. omega (arith, same t e)) larger.2)
              (λ d. omega (arith, other t d, so_far.few t));
          early = λ s j l p. same_or s k
              (λ e. subst (λ (i : ℕ). Beaten false G m i j) (sym e) (here_early j (omega (arith, same s e))))
              (λ d. so_far.early s j (omega arith) (omega (arith, other s d)));
          never = λ s l z p. same_or s k
              (λ e. absurd (let q : ⊥ = omega (arith, same s e, larger.1) in q))
              (λ d. so_far.never s (omega arith) z (sym (other s d) ∙ p));
        }

-- ---- a look at one state

-- the first input that no output serves decides
pub opens_by : (G : Arena) (m : ℕ) (needs : List ℕ) (p s : ℕ) (r : Option ℕ) → FirstUnserved G (ranked_below p needs) (safe_below true (m + 1) needs) s r
    → Opened G m needs p s (is_none r)
opens_by G m needs p s None u = record { gains = λ _. all_enter G m needs p s u; stays = λ e. absurd (mathlib.Core.Bool.true≢false e) }
opens_by G m needs p s (Some r) u = record { gains = λ e. absurd (mathlib.Core.Bool.false≢true e); stays = λ _. one_bars G m needs p s r u.0 u.1 }

module _ {G : Arena} {m : ℕ} {system needs due : List ℕ} {p : ℕ} (st : Standing G m system needs due p) where
  -- the system is beaten with a budget that is short of a state's need and of its pass
  short : (t k : ℕ) → t < G.states → (0 < get_or needs t 0 → k < get_or needs t 0) → (0 < get_or due t 0 → k < get_or due t 0) → Beaten false G m t k
  short t k l h d =
      zero_or (get_or needs t 0)
      (λ z. zero_or (get_or due t 0) (λ e. st.never t l z e k) (λ w. st.early t k l (d w)))
      (λ w. st.beaten t k l (h w))

  -- where there is no need within the limit, it is beaten with the limit
  lacking_beaten : (t : ℕ) → t < G.states → (0 < get_or needs t 0 → m < get_or needs t 0) → Beaten false G m t m
  lacking_beaten t l h = let a = st.above in short t m l h (λ w. omega (arith, st.late t w))

  module _ (v : Valid G) {s : ℕ} (hs : s < G.states) where
    -- a state that is not due
    pub look_off : (get_or due s 0 ≡ p → ⊥) → Looked G m system needs due needs due p s (ltb p (get_or due s 0))
    look_off d =
        record {
          standing = st;
          below = λ t l. l;
          extends = λ t w. refl;
          other = λ t e. refl;
          here = zero_or (get_or due s 0) (λ z. ◌⊎◌.inl z) (λ w. ◌⊎◌.inr (◌⊎◌.inr (refl, omega (arith, st.late s w))));
          bars = λ u l f. f;
          quiet = λ e. ((λ t. refl), λ w. absurd (let z : ⊥ = omega (arith, st.late s w, ltb-false p (get_or due s 0) e) in z));
          goes = λ e. ◌⊎◌.inr (ltb-true p (get_or due s 0) e);
        }

    module _ (is : get_or due s 0 ≡ p) (long_due : s < length due) where
      due_some : 0 < get_or due s 0
      due_some = let a = st.above in omega arith

      -- that is barred: it is due in the next pass
      module _ (b : Forces G false s (Bars G m p needs)) where
        abbrev later : List ℕ
        later = set due s (p + 1)

        same : (t : ℕ) → t ≡ s → get_or later t 0 ≡ p + 1
        same = set_here due s (p + 1) long_due

        other : (t : ℕ) → (t ≡ s → ⊥) → get_or later t 0 ≡ get_or due t 0
        other = set_other due s (p + 1)

        -- with p the system is beaten
        barred_beaten : Beaten false G m s p
        barred_beaten =
            let a = st.above in
            input_beaten (Bars G m p needs b.0) p b.0 v hs b.1 b.2
            (λ t l w e. short t (p - 1) l (λ some. omega (arith, (w some).0 e)) (λ o. omega (arith, st.late t o)))
            (λ t l w e. lacking_beaten t l (λ some. (w some).1 e))

        waits_early : (u k : ℕ) → u < G.states → k < get_or later u 0 → Beaten false G m u k
        waits_early u k l w =
            same_or u s
            (λ e. subst (λ (i : ℕ). Beaten false G m i k) (sym e)
            (same_or k p
            (λ q. subst (λ (i : ℕ). Beaten false G m s i) (sym q) barred_beaten)
            (λ d. st.early s k hs (omega (arith, same u e)))))
            (λ d. st.early u k l (omega (arith, other u d)))

        pub look_waits : Looked G m system needs due needs later p s false
        look_waits =
            record {
              standing =
                  record {
                    above = st.above;
                    ranked = st.ranked;
                    won = st.won;
                    beaten = st.beaten;
                    some = λ t w. same_or t s
                        (λ e. subst (λ (i : ℕ). (i < G.states) × (0 < get_or system i 0) × (get_or needs i 0 ≡ 0)) (sym e) (st.some s due_some))
                        (λ d. let q = other t d in st.some t (omega arith));
                    late = λ t w. same_or t s (λ e. omega (arith, same t e)) (λ d. let q = other t d in omega (arith, st.late t (omega arith)));
                    early = waits_early;
                    never = λ t l z w. same_or t s
                        (λ e. absurd (let q : ⊥ = omega (arith, same t e) in q))
                        (λ d. st.never t l z (sym (other t d) ∙ w));
                  };
              below = λ t l. l;
              extends = λ t w. refl;
              other = other;
              here = ◌⊎◌.inr (◌⊎◌.inl (same s refl));
              bars = λ u l f. f;
              quiet = λ _. ((λ t. refl), λ _. b);
              goes = λ e. absurd (mathlib.Core.Bool.false≢true e);
            }

      -- that gets the need p
      module _ (long : s < length needs) (force : Forces G true s (Enters G m p needs)) where
        abbrev new : List ℕ
        new = set needs s p

        abbrev over_with : List ℕ
        over_with = set due s 0

        given : (t : ℕ) → t ≡ s → get_or new t 0 ≡ p
        given = set_here needs s p long

        same_need : (t : ℕ) → (t ≡ s → ⊥) → get_or new t 0 ≡ get_or needs t 0
        same_need = set_other needs s p

        same_pass : (t : ℕ) → (t ≡ s → ⊥) → get_or over_with t 0 ≡ get_or due t 0
        same_pass = set_other due s 0

        -- a state with a need keeps it
        kept : Extends needs new
        kept t h = same_need t (λ e. let q = ap (λ (i : ℕ). get_or needs i 0) e in let z : ⊥ = omega (arith, (st.some s due_some).2) in z)

        gains_forced : (u : ℕ) → 0 < get_or new u 0 → Forces G true u (Falls G true false m new u)
        gains_forced u h =
            same_or u s
            (λ e.
            subst (λ (i : ℕ). Forces G true i (Falls G true false m new i)) (sym e)
            (forces_map v true s (Enters G m p needs) (Falls G true false m new s) hs
            (λ x t _ d.
            let q = kept t d.0 in
            let own = given s refl in
            (omega (arith, d.0), (λ j. let b = d.1 j in omega arith), (λ j. let b = d.2 j in omega arith)))
            force))
            (λ d.
            let own = same_need u d in
            let some : 0 < get_or needs u 0 = omega arith in
            forces_map v true u (Falls G true false m needs u) (Falls G true false m new u) (st.ranked.within u some)
            (λ x t _ f.
            let q = kept t f.0 in
            (omega (arith, f.0), (λ j. let b = f.1 j in omega arith), (λ j. let b = f.2 j in omega arith)))
            (st.ranked.forced u some))

        -- the state with the need p bars as the one without a need did
        gains_bars : (u : ℕ) → u < G.states → Forces G false u (Bars G m p needs) → Forces G false u (Bars G m p new)
        gains_bars u l =
            let a = st.above in
            forces_map v false u (Bars G m p needs) (Bars G m p new) l
            (λ x t _ b h.
            same_or t s
            (λ e. let q = given t e in ((λ _. omega arith), (λ _. omega arith)))
            (λ d.
            let q = same_need t d in
            let some : 0 < get_or needs t 0 = omega arith in
            ((λ j. let w = (b some).0 j in omega arith), (λ j. let w = (b some).1 j in omega arith))))

        gains_standing : Standing G m system new over_with p
        gains_standing =
            record {
              above = st.above;
              ranked =
                  record {
                    within = λ t h. same_or t s (λ e. omega arith) (λ d. st.ranked.within t (let q = same_need t d in omega arith));
                    forced = gains_forced;
                  };
              won = λ t h. same_or t s
                  (λ e. subst (λ (i : ℕ). 0 < get_or system i 0) (sym e) (st.some s due_some).1)
                  (λ d. st.won t (let q = same_need t d in omega arith));
              beaten = λ u k l h. same_or u s
                  (λ e. subst (λ (i : ℕ). Beaten false G m i k) (sym e) (st.early s k hs (omega (arith, given u e))))
                  (λ d. st.beaten u k l (omega (arith, same_need u d)));
              some = λ t w. same_or t s
                  (λ e. absurd (let q : ⊥ = omega (arith, set_here due s 0 long_due t e) in q))
                  (λ d. let o = same_pass t d in let f = st.some t (omega arith) in (f.0, f.1, same_need t d ∙ f.2));
              late = λ t w. same_or t s
                  (λ e. absurd (let q : ⊥ = omega (arith, set_here due s 0 long_due t e) in q))
                  (λ d. let o = same_pass t d in omega (arith, st.late t (omega arith)));
              early = λ u k l w. same_or u s
                  (λ e. absurd (let q : ⊥ = omega (arith, set_here due s 0 long_due u e) in q))
                  (λ d. st.early u k l (omega (arith, same_pass u d)));
              never = λ t l z w. same_or t s
                  (λ e. let a = st.above in absurd (let q : ⊥ = omega (arith, given t e) in q))
                  (λ d. st.never t l (sym (same_need t d) ∙ z) (sym (same_pass t d) ∙ w));
            }

        pub look_gains : Looked G m system needs due new over_with p s true
        look_gains =
            record {
              standing = gains_standing;
              below = λ t l. same_or t s (λ e. omega (arith, given t e)) (λ d. omega (arith, same_need t d));
              extends = kept;
              other = same_pass;
              here = ◌⊎◌.inl (set_here due s 0 long_due s refl);
              bars = gains_bars;
              quiet = λ e. absurd (mathlib.Core.Bool.true≢false e);
              goes = λ _. ◌⊎◌.inl ((st.some s due_some).2, let a = st.above in omega (arith, given s refl));
            }

-- ---- a pass

-- before its first state
pub widen_starts : {G : Arena} {m : ℕ} {system needs due : List ℕ} {p : ℕ} → Widening G m system needs due p → Widened G m system needs needs due p 0 false
widen_starts i =
    record {
      standing = i.standing;
      below = λ t. omega (arith, i.below t);
      passed = λ s l. absurd (let z : ⊥ = omega arith in z);
      few = λ s w. i.few s (omega arith);
      ahead = λ s _ w. i.few s w;
      extends = λ t w. refl;
      quiet = λ _. i.below;
      bars = λ _ s l. absurd (let z : ⊥ = omega arith in z);
      more = λ e. absurd (mathlib.Core.Bool.false≢true e);
    }

module _ {G : Arena} {m : ℕ} {system old needs due : List ℕ} {p k : ℕ} {going : Bool} (so_far : Widened G m system old needs due p k going) where
  -- one more state: the pass goes on if it did, or if the look says so
  module _ {new later : List ℕ} {r : Bool} (look : Looked G m system needs due new later p k r) (w : Bool) (true_by : w ≡ true → (r ≡ true) ⊎ (going ≡ true))
      (false_by : w ≡ false → (r ≡ false) × (going ≡ false)) where
    here_passed : 0 < get_or later k 0 → p < get_or later k 0
    here_passed some = ⊎_elim (λ z. absurd (let q : ⊥ = omega arith in q)) (λ o. ⊎_elim (λ e. omega arith) (λ e. omega (arith, e.0, e.1)) o) look.here

    here_few : p + 1 < get_or later k 0 → get_or later k 0 ≤ G.states + 1
    here_few l =
        ⊎_elim
        (λ z. absurd (let q : ⊥ = omega arith in q))
        (λ o. ⊎_elim (λ e. absurd (let q : ⊥ = omega arith in q)) (λ e. let i = e.0 in omega (arith, so_far.ahead k (omega arith) e.1)) o)
        look.here

    goes_on : w ≡ true → Grows (k + 1) old new ⊎ (p ≤ G.states)
    goes_on e =
        ⊎_elim
        (λ t. ⊎_elim
        (λ g. ◌⊎◌.inl (
          k,
          omega arith,
          zero_or (get_or old k 0) (λ z. z) (λ o. absurd (let q : ⊥ = omega (arith, so_far.extends k o, g.0) in q)),
          g.1,
        ))
        (λ d. ◌⊎◌.inr (omega (arith, so_far.ahead k (omega arith) d)))
        (look.goes t))
        (λ g. ⊎_elim
        (λ h. ◌⊎◌.inl (h.0, omega (arith, h.1), h.2, (let q = look.extends h.0 h.3 in omega (arith, h.3))))
        (λ l. ◌⊎◌.inr l)
        (so_far.more g))
        (true_by e)

    pub widen_more : Widened G m system old new later p (k + 1) w
    widen_more =
        record {
          standing = look.standing;
          below = λ t. look.below t (so_far.below t);
          passed = λ s l some. same_or s k
              (λ e. subst (λ (i : ℕ). 0 < get_or later i 0 → p < get_or later i 0) (sym e) here_passed some)
              (λ d. let o = look.other s d in omega (arith, so_far.passed s (omega arith) (omega arith)));
          few = λ s l. same_or s k
              (λ e. subst (λ (i : ℕ). p + 1 < get_or later i 0 → get_or later i 0 ≤ G.states + 1) (sym e) here_few l)
              (λ d. let o = look.other s d in omega (arith, so_far.few s (omega arith)));
          ahead = λ s l a.
              let d : s ≡ k → ⊥ = λ e. let q : ⊥ = omega arith in q in
              let o = look.other s d in omega (arith, so_far.ahead s (omega arith) (omega arith));
          extends = λ t o. let e = so_far.extends t o in look.extends t (omega arith) ∙ e;
          quiet = λ e t. let f = false_by e in omega (arith, (look.quiet f.0).0 t, so_far.quiet f.1 t);
          bars = λ e s l some.
              let f = false_by e in
              same_or s k
              (λ i. subst (λ (j : ℕ). 0 < get_or later j 0 → Forces G false j (Bars G m p new)) (sym i) (look.quiet f.0).1 some)
              (λ d.
              let o = look.other s d in
              look.bars s (look.standing.some s some).0 (so_far.bars f.1 s (omega arith) (omega arith)));
          more = goes_on;
        }

-- ---- before the first pass, after one, and after the last

pub widens_first : {G : Arena} {m : ℕ} {system low due : List ℕ} → Looks G m system low due G.states → Bounds G m low → Ranked G true false m low
    → Shrinks system low → ((t : ℕ) → get_or low t 0 ≤ m) → Widening G m system low due (m + 1)
widens_first looks b ranked won within =
    record {
      standing =
          record {
            above = omega arith;
            ranked = ranked;
            won = won;
            beaten = λ s k hs l. b.beaten s k hs (omega (arith, within s)) (λ _. l);
            some = looks.some;
            late = λ t w. omega (arith, looks.late t w);
            early = looks.early;
            never = looks.never;
          };
      below = λ t. omega (arith, within t);
      few = λ t _. looks.few t;
    }

-- the needs that stood before a pass stand
pub widens_on : {G : Arena} {m : ℕ} {system old needs due : List ℕ} {p k : ℕ} {going : Bool} (low : List ℕ)
    → Widened G m system old needs due p k going → Extends low old → Extends low needs
widens_on low last ext t h = let e = ext t h in last.extends t (omega arith) ∙ e

module _ {G : Arena} {m : ℕ} {system old needs due : List ℕ} {p : ℕ} {going : Bool} (last : Widened G m system old needs due p G.states going) where
  pub widens_more : Widening G m system needs due (p + 1)
  widens_more =
      let st = last.standing in
      record {
        standing =
            record {
              above = omega (arith, st.above);
              ranked = st.ranked;
              won = st.won;
              beaten = st.beaten;
              some = st.some;
              late = λ t w. omega (arith, last.passed t (st.some t w).0 w);
              early = st.early;
              never = st.never;
            };
        below = λ t. omega (arith, last.below t);
        few = last.few;
      }

  -- no other pass may give a need: what is left cannot leave what is left, so the system is beaten there with every budget
  module _ (v : Valid G) (stop : going ≡ false) where
    left_beaten : (k s : ℕ) → s < G.states → get_or needs s 0 ≡ 0 → Beaten false G m s k
    left_beaten zero s hs z = over refl
    left_beaten (suc k) s hs z =
        zero_or (get_or due s 0)
        (λ e. last.standing.never s hs z e (suc k))
        (λ w.
        let b = last.bars stop s hs w in
        input_beaten (Bars G m p needs b.0) (suc k) b.0 v hs b.1 b.2
        (λ t l o e.
        let q : suc k - 1 ≡ k = omega arith in
        rw q (left_beaten k t l (zero_or (get_or needs t 0) (λ i. i) (λ some. absurd (let r : ⊥ = omega (arith, (o some).0 e, last.quiet stop t) in r)))))
        (λ t l o e. lacking_beaten last.standing t l (λ some. (o some).1 e)))

    pub widens_end : {low : List ℕ} → Extends low old → Wide G m system low needs
    widens_end {low} ext =
        record {
          exact =
              record {
                ranked = last.standing.ranked;
                beaten = λ s k hs h. zero_or (get_or needs s 0) (λ z. left_beaten k s hs z) (λ some. last.standing.beaten s k hs (h some));
              };
          won = last.standing.won;
          extends = widens_on low last ext;
        }
