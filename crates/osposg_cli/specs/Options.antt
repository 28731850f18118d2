-- What the values of options say.
use Rattle.std.specs.Prelude.{ℕ, List, [], ◌∷◌, Option, Some, None}

-- the values that options give under each name
abbrev pub Values : Type 0
Values = List ℕ → List (List ℕ)

-- what the values of an option say: without one the default, of the only one what it spells, and nothing of more
abbrev pub said : {A : Type 0} → A → (List ℕ → Option A) → List (List ℕ) → Option A
said default spelled [] = Some default
said default spelled (value ∷ []) = spelled value
said default spelled (value ∷ next ∷ values) = None

-- the same of an option that must be given: of no value nothing
abbrev pub said_once : {A : Type 0} → (List ℕ → Option A) → List (List ℕ) → Option A
said_once spelled [] = None
said_once spelled (value ∷ []) = spelled value
said_once spelled (value ∷ next ∷ values) = None
