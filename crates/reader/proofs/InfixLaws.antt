-- The laws behind the reading function of the infix levels, over the level.
-- Assumes nothing.
use mathlib.Core.Path.{◌≡◌, sym, ap, subst, ◌∙◌}
use mathlib.Core.List.{List, ◌∷◌, ◌++◌, append_assoc}
use Prim.Native.Nat.{ℕ, suc, ◌+◌, ◌-◌, ◌*◌, ◌≤◌, ◌<◌}
use native.Mathlib.Omega.{arith}
use lib.ListN.{length, get_or, drop, set}
use lib.Seq.{sets}
use Rattle.reader.specs.declared.marks.Kind.TheVariants.{Infix}
use Rattle.reader.specs.declared.nodes.BinaryOp.{BinaryOp}
use Rattle.reader.specs.declared.nodes.Node.{Node}
use Rattle.reader.specs.declared.nodes.Node.TheVariants as node
use Rattle.reader.specs.declared.levels.Reader.{Reader}
use Rattle.reader.specs.Text.{Text}
use Rattle.reader.specs.Limits.{operator_limit}
use Rattle.reader.specs.Formula.{Formula, binary, size, operators, with_binary}
use Rattle.reader.specs.Marks.{mark_kind, binary_of}
use Rattle.reader.specs.Grammar.{without_blanks, Derives, lower, infixed}
use Rattle.reader.specs.inner.Nodes.{binary_op, code}
use Rattle.reader.specs.inner.Blanks.{IsMarkOrEnd}
use Rattle.reader.specs.inner.Steps.{SameSource, HasInfix, PastMark, HasWritten, CanFollow, Readable, Parsed, Consumed}
use Rattle.reader.proofs.MarkLaws.{infix_tick}
use Rattle.reader.proofs.NodeLaws.{size_binary, operators_binary, code_binary}
use Rattle.reader.proofs.TextLaws.{inside, first_mark}
use Rattle.reader.proofs.FollowLaws.{follow_level, follow_down, follow_infix}

-- the measure of a call of a reading function: six times the bytes left, and on top 0 for what prefix marks bind, else the level and 1
abbrev pub measure : (text : Text) (p : Reader) (k : ℕ) → ℕ
measure text p k = 6 * (length text - p.at) + k

-- what a call of the measure t at a level is given
abbrev pub Given : (t i l : ℕ) (text : Text) (p : Reader) (room : ℕ) → Type 0
Given t i l text p room = (measure text p (suc l) ≡ t) × Readable i l text p room

-- what is asked of the calls that it makes
abbrev pub Falling : (t i l : ℕ) (text : Text) (p : Reader) (room : ℕ) → Type 0
Falling t i l text p room = (measure text p (suc l) < t) × Readable i l text p room

-- two readers of the text of another read one text
pub same_trans : {p q r : Reader} → SameSource p q → SameSource q r → SameSource p r
same_trans s t = record { same_text = t.same_text ∙ s.same_text; same_inputs = t.same_inputs ∙ s.same_inputs }

-- what holds of the source of one reader holds of the other's, which is the same
pub carried : {p r : Reader} → SameSource p r → (P : (i : ℕ) (text : Text) → Type 0) → P r.inputs r.text.now → P p.inputs p.text.now
carried {p} {r} s P h = subst (λ (i : ℕ). P i p.text.now) s.same_inputs (subst (λ (t : Text). P r.inputs t) s.same_text h)

pub carried_on : {p r : Reader} → SameSource p r → (P : (i : ℕ) (text : Text) → Type 0) → P p.inputs p.text.now → P r.inputs r.text.now
carried_on {p} {r} s P h = subst (λ (i : ℕ). P i r.text.now) (sym s.same_inputs) (subst (λ (t : Text). P p.inputs t) (sym s.same_text) h)

-- a level above 0 is not 0
pub above_zero : {n : ℕ} → 0 < n → (n ≡ 0 → ⊥)
above_zero h z = omega arith

-- a level above 0 is one more than another
successor : (n : ℕ) → (n ≡ 0 → ⊥) → n ≡ suc (n - 1)
successor n above = omega arith

-- a formula of a level begins with one of the level below
down : {i : ℕ} (l : ℕ) {text : List ℕ} {p : Reader} {room : ℕ} → Readable i (suc l) text p room → Readable i l text p room
down {i} l {text} {p} {room} r = go r.taken r.formula r.derived r.here r.fits r.few
  where
    go : (w : List ℕ) (φ : Formula) → Derives i mark_kind (suc l) w φ → without_blanks (drop p.at text) ≡ w ++ r.rest
        → p.nodes + size φ ≤ room → p.coordinate + operators φ ≤ operator_limit + 1 → Readable i l text p room
    go w φ (lower x) e f g =
        record {
          formula = φ;
          taken = w;
          rest = r.rest;
          here = e;
          derived = x;
          follows = follow_down l r.rest r.follows;
          fits = f;
          few = g;
        }
    go w φ (infixed {b = b} {u = u} {v = v} {φ = α} {ψ = β} k x y eφ) e f g =
        record {
          formula = α;
          taken = u;
          rest = b ∷ (v ++ r.rest);
          here = e ∙ append_assoc u (b ∷ v) r.rest;
          derived = x;
          follows = follow_infix l b (v ++ r.rest) k;
          fits = omega (arith, size_binary (binary_of b) α β φ eφ);
          few = omega (arith, operators_binary (binary_of b) α β φ eφ);
        }

pub coordinate_small : {i l : ℕ} {text : List ℕ} {p : Reader} {room : ℕ} → Readable i l text p room → {out : List Node} {q : Reader} {out' : List Node}
    → Consumed i l text p out q out' → q.coordinate ≤ operator_limit + 1
coordinate_small r k = let a = k.reads r.taken r.rest r.formula r.here r.derived r.follows in omega (arith, a.coordinate, r.few)

-- where no infix mark of the level follows what was read of the level below, that is the whole formula
alone_at : {i : ℕ} (l : ℕ) {text : List ℕ} {p : Reader} {out : List Node} {q : Reader} {out₁ : List Node} → Consumed i l text p out q out₁
    → IsMarkOrEnd text q.at → (HasInfix text q.at (suc l) → ⊥) → Consumed i (suc l) text p out q out₁
alone_at {i} l {text} {p} {out} {q} {out₁} first at_mark none =
    record { source = first.source; past = first.past; reads = go }
  where
    go : (w rest : List ℕ) (φ : Formula) → without_blanks (drop p.at text) ≡ w ++ rest → Derives i mark_kind (suc l) w φ
        → CanFollow (suc l) rest → Parsed text p out q out₁ rest φ
    go w rest φ e (lower x) c = first.reads w rest φ e x (follow_down l rest c)
    go w rest φ e (infixed {b = b} {u = u} {v = v} {φ = α} k x y eφ) c =
        let a = first.reads u (b ∷ (v ++ rest)) α (e ∙ append_assoc u (b ∷ v) rest) x (follow_infix l b (v ++ rest) k) in
        absurd (none (inside text q.at b (v ++ rest) a.left, ap mark_kind (first_mark text q.at b (v ++ rest) at_mark a.left) ∙ k))

-- what was read up to q is a formula of the level below n
abbrev pub ConsumedBelow : (n : ℕ) (p : Reader) (out : List Node) (q : Reader) (out₁ : List Node) → Type 0
ConsumedBelow n p out q out₁ = Consumed p.inputs (n - 1) p.text.now p out q out₁

-- the level below 1 is what prefix marks bind
pub prefix_below : {n : ℕ} → n ≡ 1 → {p : Reader} {out : List Node} {q : Reader} {out₁ : List Node} → Consumed p.inputs 0 p.text.now p out q out₁
    → ConsumedBelow n p out q out₁
prefix_below {n} e {p} {out} {q} {out₁} first =
    let z : 0 ≡ n - 1 = omega arith in
    subst (λ (k : ℕ). Consumed p.inputs k p.text.now p out q out₁) z first

pub alone : {n : ℕ} → (n ≡ 0 → ⊥) → {p : Reader} {out : List Node} {q : Reader} {out₁ : List Node} → ConsumedBelow n p out q out₁
    → (HasInfix q.text.now q.at n → ⊥) → Consumed p.inputs n p.text.now p out q out₁
alone {n} above {p} {out} {q} {out₁} first none =
    let e = successor n above in
    let at_mark : IsMarkOrEnd p.text.now q.at = carried first.source (λ j t. IsMarkOrEnd t q.at) q.mark_or_end in
    let none_here : HasInfix p.text.now q.at n → ⊥ = carried first.source (λ j t. HasInfix t q.at n → ⊥) none in
    subst (λ (k : ℕ). Consumed p.inputs k p.text.now p out q out₁) (sym e)
    (alone_at (n - 1) first at_mark (λ h. none_here (h.0, h.1 ∙ ap (λ (k : ℕ). Infix k) (sym e))))

module _ {t n : ℕ} (above : n ≡ 0 → ⊥) {p : Reader} {room : ℕ} (given : Given t p.inputs n p.text.now p room) where
  r : Readable p.inputs (suc (n - 1)) p.text.now p room
  r = subst (λ (k : ℕ). Readable p.inputs k p.text.now p room) (successor n above) given.1

  -- the level below can be read
  pub lower_ready : Falling t p.inputs (n - 1) p.text.now p room
  lower_ready = (omega (arith, given.0), down (n - 1) r)

  -- which is what prefix marks bind, if the level is 1
  pub prefix_ready : n ≡ 1 → (measure p.text.now p 0 < t) × Readable p.inputs 0 p.text.now p room
  prefix_ready e =
      let z : n - 1 ≡ 0 = omega arith in
      (omega (arith, given.0), subst (λ (k : ℕ). Readable p.inputs k p.text.now p room) z lower_ready.1)

  -- a formula of the level below has been read up to q, and an infix mark of the level is there
  module _ {out : List Node} {q : Reader} {out₁ : List Node} (first : ConsumedBelow n p out q out₁) (mark_here : HasInfix q.text.now q.at n) where
    here : HasInfix p.text.now q.at n
    here = carried first.source (λ j t. HasInfix t q.at n) mark_here

    kind : mark_kind (get_or p.text.now q.at 0) ≡ Infix (suc (n - 1))
    kind = here.1 ∙ ap (λ (k : ℕ). Infix k) (successor n above)

    pub few : q.coordinate ≤ operator_limit + 1
    few = coordinate_small (down (n - 1) r) first

    -- o is past the mark
    module _ {o : Reader} (passed : PastMark q.text.now q o) where
      mark : PastMark p.text.now q o
      mark = carried first.source (λ j t. PastMark t q o) passed

      same : SameSource p o
      same = same_trans first.source passed.source

      within : o.at ≤ length p.text.now
      within = carried same (λ j t. o.at ≤ length t) o.mark_or_end.within

      -- the formula is that mark with what was read on its left and a formula of the level on its right
      record Operands (rest : List ℕ) (φ : Formula) : Type 0 where
        α : Formula
        β : Formula
        v : List ℕ
        tail : List ℕ
        left : Parsed p.text.now p out q out₁ tail α
        right_here : without_blanks (drop o.at p.text.now) ≡ v ++ rest
        right_derived : Derives p.inputs mark_kind (suc (n - 1)) v β
        both : φ ≡ binary (binary_of (get_or p.text.now q.at 0)) α β

      operands : (w rest : List ℕ) (φ : Formula) → without_blanks (drop p.at p.text.now) ≡ w ++ rest → Derives p.inputs mark_kind (suc (n - 1)) w φ
          → CanFollow (suc (n - 1)) rest → Operands rest φ
      operands w rest φ e (lower x) c =
          let a = first.reads w rest φ e x (follow_down (n - 1) rest c) in
          absurd (follow_level (n - 1) (get_or p.text.now q.at 0) rest _ c (sym a.left ∙ mark.mark) kind)
      operands w rest φ e (infixed {b = b} {u = u} {v = v} {φ = α} {ψ = β} k x y eφ) c =
          let a = first.reads u (b ∷ (v ++ rest)) α (e ∙ append_assoc u (b ∷ v) rest) x (follow_infix (n - 1) b (v ++ rest) k) in
          let d : get_or p.text.now q.at 0 ∷ without_blanks (drop o.at p.text.now) ≡ b ∷ (v ++ rest) = sym mark.mark ∙ a.left in
          let eb : get_or p.text.now q.at 0 ≡ b = cc in
          record {
            α = α;
            β = β;
            v = v;
            tail = b ∷ (v ++ rest);
            left = a;
            right_here = cc;
            right_derived = y;
            both = eφ ∙ ap (λ (x : ℕ). binary (binary_of x) α β) (sym eb);
          }

      readable_operands : Operands r.rest r.formula
      readable_operands = operands r.taken r.rest r.formula r.here r.derived r.follows

      right : {now_room : ℕ} → now_room ≡ room → Readable p.inputs (suc (n - 1)) p.text.now o now_room
      right e =
          let s = readable_operands in
          let b = get_or p.text.now q.at 0 in
          let k = operators s.β in
          let f = size_binary (binary_of b) s.α s.β r.formula s.both in
          let g = operators_binary (binary_of b) s.α s.β r.formula s.both in
          record {
            formula = s.β;
            taken = s.v;
            rest = r.rest;
            here = s.right_here;
            derived = s.right_derived;
            follows = r.follows;
            fits = omega (arith, mark.nodes, s.left.nodes, r.fits);
            few = omega (arith, mark.coordinate, s.left.coordinate, r.few, infix_tick b (suc (n - 1)) kind k);
          }

      pub right_ready : {now_room : ℕ} → now_room ≡ room → Falling t o.inputs n o.text.now o now_room
      right_ready {now_room} e =
          carried_on same (λ j s. Falling t j n s o now_room) (
            omega (arith, given.0, first.past, mark.past, within),
            subst (λ (k : ℕ). Readable p.inputs k p.text.now o now_room) (sym (successor n above)) (right e),
          )

      -- the right operand has been read up to z
      module _ {z : Reader} {out₂ : List Node} (read : Consumed o.inputs n o.text.now o out₁ z out₂) where
        second : Consumed p.inputs n p.text.now o out₁ z out₂
        second = carried same (λ j s. Consumed j n s o out₁ z out₂) read

        read_right : Consumed p.inputs (suc (n - 1)) p.text.now o out₁ z out₂
        read_right = subst (λ (k : ℕ). Consumed p.inputs k p.text.now o out₁ z out₂) (successor n above) second

        pub node_fits : {now_room : ℕ} → now_room ≡ room → z.nodes < now_room
        node_fits e =
            let s = readable_operands in
            let a = read_right.reads s.v r.rest s.β s.right_here s.right_derived r.follows in
            let f = size_binary (binary_of (get_or p.text.now q.at 0)) s.α s.β r.formula s.both in
            omega (arith, mark.nodes, s.left.nodes, a.nodes, r.fits)

        -- with the operator's node written, the formula has been read
        joined_at : {op : BinaryOp} {s : Reader} {out₃ : List Node} → HasWritten z s → op ≡ binary_op (binary_of (get_or p.text.now q.at 0))
            → out₃ ≡ set out₂ z.nodes (node.Binary op q.nodes q.coordinate) → Consumed p.inputs (suc (n - 1)) p.text.now p out s out₃
        unfolding size operators
        joined_at {op} {s} {out₃} es ep eo =
            record {
              source = same_trans (same_trans same second.source) es.source;
              past = omega (arith, first.past, mark.past, second.past, es.place);
              reads = go;
            }
          where
            go : (w rest : List ℕ) (φ : Formula) → without_blanks (drop p.at p.text.now) ≡ w ++ rest → Derives p.inputs mark_kind (suc (n - 1)) w φ
                → CanFollow (suc (n - 1)) rest → Parsed p.text.now p out s out₃ rest φ
            go w rest φ e x c =
                let a = operands w rest φ e x c in
                let m = read_right.reads a.v rest a.β a.right_here a.right_derived c in
                let b = get_or p.text.now q.at 0 in
                let k = p.coordinate + operators a.α in
                let n₁ : q.nodes ≡ p.nodes + size a.α = a.left.nodes in
                let n₂ : o.nodes ≡ p.nodes + size a.α = mark.nodes ∙ a.left.nodes in
                let n₃ : z.nodes ≡ p.nodes + size a.α + size a.β = omega (arith, m.nodes) in
                let k₁ : q.coordinate ≡ k = a.left.coordinate in
                let k₂ : o.coordinate ≡ with_binary (binary_of b) k = omega (arith, mark.coordinate, infix_tick b (suc (n - 1)) kind k) in
                let w₁ : out₁ ≡ sets out p.nodes (code p.nodes p.coordinate a.α) = a.left.written in
                let w₂ : out₂ ≡ sets out₁ o.nodes (code o.nodes o.coordinate a.β) = m.written in
                subst (λ (χ : Formula). Parsed p.text.now p out s out₃ rest χ) (sym a.both) (record {
                  left = ap (λ (j : ℕ). without_blanks (drop j p.text.now)) es.place ∙ m.left;
                  nodes = omega (arith, es.nodes);
                  coordinate = omega (arith, es.coordinate, m.coordinate, infix_tick b (suc (n - 1)) kind (operators a.β), infix_tick b (suc (n - 1)) kind k);
                  written = code_binary p.nodes p.coordinate (binary_of b) a.α a.β out out₁ out₂ out₃ w₁ (w₂ ∙ cc) (eo ∙ cc);
                })

        pub joined : {op : BinaryOp} {s : Reader} {out₃ : List Node} → op ≡ binary_op (binary_of (get_or q.text.now q.at 0)) → HasWritten z s
            → out₃ ≡ set out₂ z.nodes (node.Binary op q.nodes q.coordinate) → Consumed p.inputs n p.text.now p out s out₃
        joined {op} {s} {out₃} ep es eo =
            subst (λ (k : ℕ). Consumed p.inputs k p.text.now p out s out₃) (sym (successor n above))
            (joined_at es (carried first.source (λ j t. op ≡ binary_op (binary_of (get_or t q.at 0))) ep) eo)
