-- What a list of states is asked: where a state stands on it, and to take one more.
-- Assumes nothing.
use Rattle.std.specs.Prelude.{ℕ, ◌<◌, ◌≡◌, ◌⊎◌, List, [], ◌∷◌, ◌++◌, length, get_or, Option, Some, None}
use Rattle.automaton.specs.Limits.{state_limit}

-- x stands nowhere on the list
abbrev pub Absent : (list : List ℕ) (x : ℕ) → Type 0
Absent list x = (k : ℕ) → k < length list → get_or list k 0 ≡ x → ⊥

-- a place of x, or that it has none
abbrev pub Found : (list : List ℕ) (x : ℕ) → Option ℕ → Type 0
Found list x None = Absent list x
Found list x (Some p) = (p < length list) × (get_or list p 0 ≡ x)

-- x stands on the list, which stays, or is put at its end
abbrev pub Extended : (list : List ℕ) (x : ℕ) (new : List ℕ) → Type 0
Extended list x new = (((p : ℕ) × Found list x (Some p)) × (new ≡ list)) ⊎ (Absent list x × (new ≡ list ++ x ∷ []))

-- the list with x, or that x is not on the list, which is full and stays
abbrev pub Inserted : {A : Type 0} (list : List ℕ) (x : ℕ) → Option A → (new : List ℕ) → Type 0
Inserted list x None new = Absent list x × (length list ≡ state_limit) × (new ≡ list)
Inserted list x (Some _) new = Extended list x new
