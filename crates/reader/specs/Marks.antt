-- What each byte of a text is (specification, "Letters" and "Texts"): its kind, and the part of a formula that it writes.
-- A kind is the declared type `Kind`; an infix mark has its level: 1 for U and R, 2 for &, 3 for |, 4 for >.
-- Assumes nothing.
use Rattle.std.specs.Prelude.{ℕ, ◌+◌, ◌-◌, Bool, true, false, ◌&&◌, cond, List, [], ◌∷◌, eqb, leb, ltb}
use Rattle.reader.specs.declared.marks.Kind.{Kind}
use Rattle.reader.specs.declared.marks.Kind.TheVariants.{Operand, Prefix, Infix, Open, Close, Other}
use Rattle.reader.specs.Formula.{Unary, neg, next, weak, eventually, always, Binary, until, release, conj, disj, impl, Formula, constant, name}

-- b is one of the bytes
unfoldable pub among_of : ℕ → List ℕ → Bool
among_of b [] = false
among_of b (x ∷ xs) = cond (eqb x b) true (among_of b xs)

-- 0 1 a b c d p q r s; ! X N F G; U R; &; |; >; ( and )
unfoldable pub mark_kind : ℕ → Kind
mark_kind b =
    cond (among_of b (48 ∷ 49 ∷ 97 ∷ 98 ∷ 99 ∷ 100 ∷ 112 ∷ 113 ∷ 114 ∷ 115 ∷ [])) Operand
    (cond (among_of b (33 ∷ 88 ∷ 78 ∷ 70 ∷ 71 ∷ [])) Prefix
    (cond (among_of b (85 ∷ 82 ∷ [])) (Infix 1)
    (cond (eqb b 38) (Infix 2)
    (cond (eqb b 124) (Infix 3)
    (cond (eqb b 62) (Infix 4)
    (cond (eqb b 40) Open
    (cond (eqb b 41) Close Other)))))))

-- X N F G U R
unfoldable pub is_temporal_mark : ℕ → Bool
is_temporal_mark b = among_of b (88 ∷ 78 ∷ 70 ∷ 71 ∷ 85 ∷ 82 ∷ [])

-- whether a byte is in reach: of a b c d the first i, of p q r s the first o, temporal marks where t says so, and every other byte
unfoldable pub allowed_by : (i o : ℕ) (t : Bool) (b : ℕ) → Bool
allowed_by i o t b =
    cond (is_temporal_mark b) t
    (cond (leb 97 b && leb b 100) (ltb (b - 97) i)
    (cond (leb 112 b && leb b 115) (ltb (b - 112) o) true))

-- the kind of a byte in a text with i inputs and o outputs; t says whether temporal marks may stand there
unfoldable pub kind_in : (i o : ℕ) (t : Bool) (b : ℕ) → Kind
kind_in i o t b = cond (allowed_by i o t b) (mark_kind b) Other

-- a rule: all the names and marks; a condition: input names only, and no temporal mark
abbrev pub rule_kind : (i o : ℕ) → ℕ → Kind
rule_kind i o = kind_in i o true

abbrev pub condition_kind : (i : ℕ) → ℕ → Kind
condition_kind i = kind_in i 0 false

-- the formula of an operand: 0, 1, an input a b c d, an output p q r s behind i inputs
unfoldable pub operand_of : (i b : ℕ) → Formula
operand_of i b =
    cond (eqb b 48) (constant false)
    (cond (eqb b 49) (constant true)
    (cond (leb b 100) (name (b - 97)) (name (i + (b - 112)))))

-- the operator of a prefix mark: ! X N F, else G
unfoldable pub unary_of : ℕ → Unary
unary_of b = cond (eqb b 33) neg (cond (eqb b 88) next (cond (eqb b 78) weak (cond (eqb b 70) eventually always)))

-- the operator of an infix mark: U R & |, else >
unfoldable pub binary_of : ℕ → Binary
binary_of b = cond (eqb b 85) until (cond (eqb b 82) release (cond (eqb b 38) conj (cond (eqb b 124) disj impl)))
