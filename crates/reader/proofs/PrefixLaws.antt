-- The laws behind the reading function of what prefix marks bind: parentheses, a prefix mark, an operand.
-- Assumes nothing.
use mathlib.Core.Path.{◌≡◌, sym, ap, subst, ◌∙◌}
use mathlib.Core.List.{List, [], ◌∷◌, ◌++◌, append_assoc}
use Prim.Native.Nat.{ℕ, ◌+◌, ◌≤◌, ◌<◌}
use native.Mathlib.Omega.{arith}
use lib.ListN.{length, get_or, drop, set}
use lib.Seq.{sets}
use Rattle.reader.specs.declared.marks.Kind.{Kind}
use Rattle.reader.specs.declared.marks.Kind.TheVariants.{Operand, Prefix, Open, Close}
use Rattle.reader.specs.declared.nodes.UnaryOp.{UnaryOp}
use Rattle.reader.specs.declared.nodes.Node.{Node}
use Rattle.reader.specs.declared.nodes.Node.TheVariants as node
use Rattle.reader.specs.declared.levels.Reader.{Reader}
use Rattle.reader.specs.Limits.{operator_limit}
use Rattle.reader.specs.Formula.{Formula, unary, size, operators, with_unary}
use Rattle.reader.specs.Marks.{mark_kind, operand_of, unary_of}
use Rattle.reader.specs.Grammar.{without_blanks, Derives, operand, prefix, parens}
use Rattle.reader.specs.inner.Nodes.{unary_op, code}
use Rattle.reader.specs.inner.Counts.{tick}
use Rattle.reader.specs.inner.Steps.{SameSource, PastMark, HasWritten, CanFollow, Readable, Parsed, Consumed}
use Rattle.reader.proofs.MarkLaws.{operand_size, operand_operators, operand_tick, open_tick, close_tick, prefix_tick}
use Rattle.reader.proofs.NodeLaws.{size_pos, size_unary, operators_unary, code_unary}
use Rattle.reader.proofs.TextLaws.{inside, first_mark}
use Rattle.reader.proofs.FollowLaws.{follow_close}
use Rattle.reader.proofs.InfixLaws.{measure, Falling, same_trans, carried, carried_on, coordinate_small}

-- a formula is not at the end of the text
pub starts : {i : ℕ} {text : List ℕ} {p : Reader} {room : ℕ} → Readable i 0 text p room → p.at < length text
starts {i} {text} {p} r = go r.taken r.formula r.derived r.here
  where
    go : (w : List ℕ) (φ : Formula) → Derives i mark_kind 0 w φ → without_blanks (drop p.at text) ≡ w ++ r.rest → p.at < length text
    go w φ (operand {b = b} k eφ) e = inside text p.at b _ e
    go w φ (prefix {b = b} k x eφ) e = inside text p.at b _ e
    go w φ (parens {a = a} ka kb x) e = inside text p.at a _ e

-- what begins with neither a parenthesis nor a prefix mark is an operand
pub is_operand : {p : Reader} {room : ℕ} → Readable p.inputs 0 p.text.now p room → (mark_kind (get_or p.text.now p.at 0) ≡ Open → ⊥)
    → (mark_kind (get_or p.text.now p.at 0) ≡ Prefix → ⊥) → mark_kind (get_or p.text.now p.at 0) ≡ Operand
is_operand {p} r no_open no_prefix = go r.taken r.formula r.derived r.here
  where
    go : (w : List ℕ) (φ : Formula) → Derives p.inputs mark_kind 0 w φ → without_blanks (drop p.at p.text.now) ≡ w ++ r.rest
        → mark_kind (get_or p.text.now p.at 0) ≡ Operand
    go w φ (operand {b = b} k eφ) e = ap mark_kind (first_mark p.text.now p.at b _ p.mark_or_end e) ∙ k
    go w φ (prefix {b = b} k x eφ) e = absurd (no_prefix (ap mark_kind (first_mark p.text.now p.at b _ p.mark_or_end e) ∙ k))
    go w φ (parens {a = a} ka kb x) e = absurd (no_open (ap mark_kind (first_mark p.text.now p.at a _ p.mark_or_end e) ∙ ka))

-- the mark at p has been passed
module _ {p q : Reader} (mark : PastMark p.text.now p q) where
  -- the first of the marks, and those after it
  head : (b : ℕ) (s : List ℕ) → without_blanks (drop p.at p.text.now) ≡ b ∷ s → get_or p.text.now p.at 0 ≡ b
  head b s e = let d : get_or p.text.now p.at 0 ∷ without_blanks (drop q.at p.text.now) ≡ b ∷ s = sym mark.mark ∙ e in cc

  tail : (b : ℕ) (s : List ℕ) → without_blanks (drop p.at p.text.now) ≡ b ∷ s → without_blanks (drop q.at p.text.now) ≡ s
  tail b s e = let d : get_or p.text.now p.at 0 ∷ without_blanks (drop q.at p.text.now) ≡ b ∷ s = sym mark.mark ∙ e in cc

  -- q is in the text
  in_text : q.at ≤ length p.text.now
  in_text = carried mark.source (λ j t. q.at ≤ length t) q.mark_or_end.within

  -- two kinds of the first mark are one
  one_kind : (b : ℕ) (s : List ℕ) (j k : Kind) → without_blanks (drop p.at p.text.now) ≡ b ∷ s → mark_kind b ≡ k
      → mark_kind (get_or p.text.now p.at 0) ≡ j → j ≡ k
  one_kind b s j k e f g = sym g ∙ (ap mark_kind (head b s e) ∙ f)

  -- ---- parentheses

  module _ (opens : mark_kind (get_or p.text.now p.at 0) ≡ Open) where
    -- a formula of the last level and a closing parenthesis are left
    record Held (rest : List ℕ) (φ : Formula) : Type 0 where
      v : List ℕ
      b : ℕ
      here : without_blanks (drop q.at p.text.now) ≡ v ++ (b ∷ rest)
      derived : Derives p.inputs mark_kind 4 v φ
      close : mark_kind b ≡ Close

    held : (w rest : List ℕ) (φ : Formula) → Derives p.inputs mark_kind 0 w φ → without_blanks (drop p.at p.text.now) ≡ w ++ rest → Held rest φ
    held w rest φ (operand {b = b} k eφ) e =
        let f : Open ≡ Operand = one_kind b _ _ _ e k opens in let z : ◌≡◌ {A = ℕ} 0 1 = cc in absurd (omega arith)
    held w rest φ (prefix {b = b} k x eφ) e =
        let f : Open ≡ Prefix = one_kind b _ _ _ e k opens in let z : ◌≡◌ {A = ℕ} 0 1 = cc in absurd (omega arith)
    held w rest φ (parens {a = a} {b = b} {w = v} ka kb x) e =
        record { v = v; b = b; here = tail a _ e ∙ append_assoc v (b ∷ []) rest; derived = x; close = kb }

    no_tick : tick (get_or p.text.now p.at 0) ≡ 0
    no_tick = open_tick (get_or p.text.now p.at 0) opens

    -- the formula at p can be read
    module _ {room : ℕ} (r : Readable p.inputs 0 p.text.now p room) where
      readable_held : Held r.rest r.formula
      readable_held = held r.taken r.rest r.formula r.derived r.here

      within : Readable p.inputs 4 p.text.now q room
      within =
          let h = readable_held in
          record {
            formula = r.formula;
            taken = h.v;
            rest = h.b ∷ r.rest;
            here = h.here;
            derived = h.derived;
            follows = follow_close 4 h.b r.rest h.close;
            fits = omega (arith, mark.nodes, r.fits);
            few = omega (arith, mark.coordinate, no_tick, r.few);
          }

      pub held_ready : {t : ℕ} → measure p.text.now p 0 ≡ t → Falling t q.inputs 4 q.text.now q room
      held_ready {t} e = carried_on mark.source (λ j s. Falling t j 4 s q room) (omega (arith, mark.past, in_text), within)

      -- what they hold has been read up to z
      module _ {out : List Node} {z : Reader} {out₁ : List Node} (read : Consumed q.inputs 4 q.text.now q out z out₁) where
        held_read : Consumed p.inputs 4 p.text.now q out z out₁
        held_read = carried mark.source (λ j s. Consumed j 4 s q out z out₁) read

        same : SameSource p z
        same = same_trans mark.source read.source

        held_parsed : (rest : List ℕ) (φ : Formula) (h : Held rest φ) → Parsed p.text.now q out z out₁ (h.b ∷ rest) φ
        held_parsed rest φ h = held_read.reads h.v (h.b ∷ rest) φ h.here h.derived (follow_close 4 h.b rest h.close)

        pub close_inside : z.at < length z.text.now
        close_inside =
            let h = readable_held in
            carried_on same (λ j s. z.at < length s) (inside p.text.now z.at h.b r.rest (held_parsed r.rest r.formula h).left)

        pub close_few : z.coordinate ≤ operator_limit + 1
        close_few = coordinate_small within held_read

        -- s is past the closing parenthesis
        pub wrapped : {s : Reader} → PastMark z.text.now z s → Consumed p.inputs 0 p.text.now p out s out₁
        wrapped {s} passed =
            record { source = same_trans same passed.source; past = omega (arith, mark.past, held_read.past, close.past); reads = go }
          where
            close : PastMark p.text.now z s
            close = carried same (λ j y. PastMark y z s) passed

            go : (w rest : List ℕ) (φ : Formula) → without_blanks (drop p.at p.text.now) ≡ w ++ rest → Derives p.inputs mark_kind 0 w φ
                → CanFollow 0 rest → Parsed p.text.now p out s out₁ rest φ
            go w rest φ e x c =
                let h = held w rest φ x e in
                let m = held_parsed rest φ h in
                let d : get_or p.text.now z.at 0 ∷ without_blanks (drop s.at p.text.now) ≡ h.b ∷ rest = sym close.mark ∙ m.left in
                let f : get_or p.text.now z.at 0 ≡ h.b = cc in
                let n₁ : q.nodes ≡ p.nodes = mark.nodes in
                let k₁ : q.coordinate ≡ p.coordinate = omega (arith, mark.coordinate, no_tick) in
                let g = close_tick (get_or p.text.now z.at 0) (ap mark_kind f ∙ h.close) in
                record {
                  left = cc;
                  nodes = omega (arith, m.nodes, close.nodes);
                  coordinate = omega (arith, m.coordinate, close.coordinate);
                  written = m.written ∙ cc;
                }

  -- ---- a prefix mark

  module _ (binds : mark_kind (get_or p.text.now p.at 0) ≡ Prefix) where
    -- what the mark binds is left
    record Bound (rest : List ℕ) (φ : Formula) : Type 0 where
      v : List ℕ
      α : Formula
      here : without_blanks (drop q.at p.text.now) ≡ v ++ rest
      derived : Derives p.inputs mark_kind 0 v α
      whole : φ ≡ unary (unary_of (get_or p.text.now p.at 0)) α

    bound : (w rest : List ℕ) (φ : Formula) → Derives p.inputs mark_kind 0 w φ → without_blanks (drop p.at p.text.now) ≡ w ++ rest → Bound rest φ
    bound w rest φ (operand {b = b} k eφ) e =
        let f : Prefix ≡ Operand = one_kind b _ _ _ e k binds in let z : ◌≡◌ {A = ℕ} 0 1 = cc in absurd (omega arith)
    bound w rest φ (prefix {b = b} {w = v} {φ = α} k x eφ) e =
        record { v = v; α = α; here = tail b _ e; derived = x; whole = eφ ∙ ap (λ (y : ℕ). unary (unary_of y) α) (sym (head b _ e)) }
    bound w rest φ (parens {a = a} ka kb x) e =
        let f : Prefix ≡ Open = one_kind a _ _ _ e ka binds in let z : ◌≡◌ {A = ℕ} 0 1 = cc in absurd (omega arith)

    -- the formula at p can be read
    module _ {room : ℕ} (r : Readable p.inputs 0 p.text.now p room) where
      readable_bound : Bound r.rest r.formula
      readable_bound = bound r.taken r.rest r.formula r.derived r.here

      below : Readable p.inputs 0 p.text.now q room
      below =
          let h = readable_bound in
          let b = get_or p.text.now p.at 0 in
          let f = size_unary (unary_of b) h.α r.formula h.whole in
          let g = operators_unary (unary_of b) h.α r.formula h.whole in
          record {
            formula = h.α;
            taken = h.v;
            rest = r.rest;
            here = h.here;
            derived = h.derived;
            follows = r.follows;
            fits = omega (arith, mark.nodes, r.fits);
            few = omega (arith, mark.coordinate, r.few, prefix_tick b binds (operators h.α));
          }

      pub bound_ready : {t : ℕ} → measure p.text.now p 0 ≡ t → (measure q.text.now q 0 < t) × Readable q.inputs 0 q.text.now q room
      bound_ready {t} e = carried_on mark.source (λ j s. (measure s q 0 < t) × Readable j 0 s q room) (omega (arith, mark.past, in_text), below)

      -- the operand has been read up to z
      module _ {out : List Node} {z : Reader} {out₁ : List Node} (read : Consumed q.inputs 0 q.text.now q out z out₁) where
        bound_read : Consumed p.inputs 0 p.text.now q out z out₁
        bound_read = carried mark.source (λ j s. Consumed j 0 s q out z out₁) read

        pub prefix_fits : {now_room : ℕ} → now_room ≡ room → z.nodes < now_room
        prefix_fits e =
            let h = readable_bound in
            let n = bound_read.reads h.v r.rest h.α h.here h.derived r.follows in
            let f = size_unary (unary_of (get_or p.text.now p.at 0)) h.α r.formula h.whole in
            omega (arith, n.nodes, mark.nodes, r.fits)

        -- with the operator's node written, the formula has been read
        pub prefixed : {op : UnaryOp} {s : Reader} {out₂ : List Node} → op ≡ unary_op (unary_of (get_or p.text.now p.at 0)) → HasWritten z s
            → out₂ ≡ set out₁ z.nodes (node.Unary op p.coordinate) → Consumed p.inputs 0 p.text.now p out s out₂
        unfolding size operators
        prefixed {op} {s} {out₂} ep es eo =
            record {
              source = same_trans (same_trans mark.source bound_read.source) es.source;
              past = omega (arith, mark.past, bound_read.past, es.place);
              reads = go;
            }
          where
            go : (w rest : List ℕ) (φ : Formula) → without_blanks (drop p.at p.text.now) ≡ w ++ rest → Derives p.inputs mark_kind 0 w φ
                → CanFollow 0 rest → Parsed p.text.now p out s out₂ rest φ
            go w rest φ e x c =
                let h = bound w rest φ x e in
                let n = bound_read.reads h.v rest h.α h.here h.derived c in
                let b = get_or p.text.now p.at 0 in
                let n₁ : q.nodes ≡ p.nodes = mark.nodes in
                let n₂ : z.nodes ≡ p.nodes + size h.α = omega (arith, n.nodes) in
                let k₁ : q.coordinate ≡ with_unary (unary_of b) p.coordinate = omega (arith, mark.coordinate, prefix_tick b binds p.coordinate) in
                let w₁ : out₁ ≡ sets out q.nodes (code q.nodes q.coordinate h.α) = n.written in
                subst (λ (χ : Formula). Parsed p.text.now p out s out₂ rest χ) (sym h.whole) (record {
                  left = ap (λ (j : ℕ). without_blanks (drop j p.text.now)) es.place ∙ n.left;
                  nodes = omega (arith, es.nodes);
                  coordinate = omega (arith, es.coordinate, n.coordinate, prefix_tick b binds (operators h.α), prefix_tick b binds p.coordinate);
                  written = code_unary p.nodes p.coordinate (unary_of b) h.α out out₁ out₂ (w₁ ∙ cc) (eo ∙ cc);
                })

  -- ---- an operand

  pub operand_fits : {room : ℕ} → Readable p.inputs 0 p.text.now p room → q.nodes < room
  operand_fits r = omega (arith, size_pos r.formula, r.fits, mark.nodes)

  -- with its node written, it has been read
  pub single : mark_kind (get_or p.text.now p.at 0) ≡ Operand → {out : List Node} {s : Reader} {out₁ : List Node} {x : Node} → HasWritten q s
      → ((n k : ℕ) → code n k (operand_of p.inputs (get_or p.text.now p.at 0)) ≡ x ∷ []) → out₁ ≡ set out q.nodes x
      → Consumed p.inputs 0 p.text.now p out s out₁
  single is {out} {s} {out₁} {x} es ex eo =
      record { source = same_trans mark.source es.source; past = omega (arith, mark.past, es.place); reads = go }
    where
      go : (w rest : List ℕ) (φ : Formula) → without_blanks (drop p.at p.text.now) ≡ w ++ rest → Derives p.inputs mark_kind 0 w φ → CanFollow 0 rest
          → Parsed p.text.now p out s out₁ rest φ
      go w rest φ e (operand {b = b} k eφ) c =
          let b₀ = get_or p.text.now p.at 0 in
          let eb : b₀ ≡ b = head b _ e in
          let n₁ : q.nodes ≡ p.nodes = mark.nodes in
          subst (λ (χ : Formula). Parsed p.text.now p out s out₁ rest χ) (sym (eφ ∙ ap (operand_of p.inputs) (sym eb))) (record {
            left = ap (λ (j : ℕ). without_blanks (drop j p.text.now)) es.place ∙ tail b _ e;
            nodes = omega (arith, es.nodes, operand_size p.inputs b₀);
            coordinate = omega (arith, es.coordinate, mark.coordinate, operand_tick b₀ is, operand_operators p.inputs b₀);
            written = eo ∙ (ap (λ (j : ℕ). set out j x) n₁ ∙ ap (λ (y : List Node). sets out p.nodes y) (sym (ex p.nodes p.coordinate)));
          })
      go w rest φ e (prefix {b = b} k y eφ) c =
          let f : Operand ≡ Prefix = one_kind b _ _ _ e k is in let z : ◌≡◌ {A = ℕ} 0 1 = cc in absurd (omega arith)
      go w rest φ e (parens {a = a} ka kb y) c =
          let f : Operand ≡ Open = one_kind a _ _ _ e ka is in let z : ◌≡◌ {A = ℕ} 0 1 = cc in absurd (omega arith)
