-- What printing adds to a text.
use Rattle.std.specs.Prelude.{◌≡◌, ◌++◌, ℕ, List, String}
use Rattle.std.specs.String.{string_bytes}

-- the text is what it was, and then these bytes
abbrev pub Adds : {Z : Type 0} → String Z → String Z → List ℕ → Type 0
Adds old new bytes = string_bytes new ≡ string_bytes old ++ bytes
