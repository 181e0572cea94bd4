-- The listing call and the program's call have one outcome: two runs on one input, into outputs that held the same, for which the call's promise holds agree
-- as specs/Agreement.antt says.
-- Assumes nothing.
use Prim.Native.Nat.{ℕ, min}
use mathlib.Core.Path.{◌≡◌, sym, ap, ap₂, ◌∙◌}
use mathlib.Core.List.{List, ◌++◌}
use mathlib.Core.Logic.{⊎_elim}
use lib.ListN.{length, take, drop, take-append-drop}
use Rattle.plays.specs.declared.mode.Mode.{Mode}
use Rattle.game.specs.Answer.{Answer}
use Rattle.game.specs.Rule.{Buffers}
use Rattle.game.proofs.OneAnswer.{one_rule, same_buffers}
use Rattle.listing.specs.Listing.{listing}
use Rattle.listing.specs.Promise.{Answers, Request, Prints, Listed, Responded}
use Rattle.listing.specs.Agreement.{ListedAgree}
use Rattle.listing.proofs.RequestLaws.{one_request}

-- two listings of what the rule call answers on one request
both_answers : {i o : ℕ} {mode : Mode} {condition rule text text' : List ℕ} → Answers i o mode condition rule text → Answers i o mode condition rule text'
    → text ≡ text'
both_answers {i} u v =
    let w = one_rule u.solved v.solved in
    u.listed ∙ ap₂ (λ (b : Buffers) (a : Answer). listing i b a) (same_buffers w) w.answer ∙ sym v.listed

-- a request is read in one way
both_requests : {input text text' : List ℕ} → Request input text → Request input text' → text ≡ text'
both_requests {input} {text} {text'} p q =
    let e = one_request p.asks q.asks in
    let v : Answers p.i p.o p.mode p.condition p.rule text' = rw (e.0, e.1, e.2, e.3, e.4) q.answers in
    both_answers p.answers v

-- the program prints one text for an input
pub one_text : {input text text' : List ℕ} → Prints input text → Prints input text' → text ≡ text'
one_text p q =
    ⊎_elim
    (λ u. ⊎_elim (λ v. both_requests u v) (λ v. absurd (v.none _ _ _ _ _ u.asks)) q)
    (λ u. ⊎_elim (λ v. absurd (u.none _ _ _ _ _ v.asks)) (λ v. u.refused ∙ sym v.refused) q)
    p

-- two runs of the listing call agree
pub one_list : {input output output₁ output₂ : List ℕ} {r₁ r₂ : ℕ} (x : Listed input output output₁ r₁) (y : Listed input output output₂ r₂)
    → ListedAgree x.text y.text output₁ output₂ r₁ r₂
one_list {output = output} x y =
    let e = one_text x.prints y.prints in
    record {
      text = e;
      output = x.written ∙ ap (λ (t : List ℕ). take (length output) t ++ drop (length t) output) e ∙ sym y.written;
      count = x.count ∙ ap (λ (t : List ℕ). min (length t) (length output)) e ∙ sym y.count;
    }

-- two runs of the program's call agree
pub one_respond : {lent output output₁ output₂ : List ℕ} {got r₁ r₂ : ℕ} (x : Responded lent got output output₁ r₁)
    (y : Responded lent got output output₂ r₂) → ListedAgree x.text y.text output₁ output₂ r₁ r₂
one_respond {output = output} {output₁ = output₁} {output₂ = output₂} {r₁ = r₁} {r₂ = r₂} x y =
    let e = one_text x.prints y.prints in
    let n : r₁ ≡ r₂ = x.count ∙ ap (λ (t : List ℕ). length t) e ∙ sym y.count in
    let front : take r₁ output₁ ≡ take r₂ output₂ = x.whole ∙ e ∙ sym y.whole in
    let rest : drop r₁ output₁ ≡ drop r₂ output₂ = x.rest ∙ ap (λ (k : ℕ). drop k output) n ∙ sym y.rest in
    record {
      text = e;
      output = sym (take-append-drop r₁ output₁) ∙ ap₂ (λ (u v : List ℕ). u ++ v) front rest ∙ take-append-drop r₂ output₂;
      count = n;
    }
