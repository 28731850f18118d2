-- How fractions stand in a text.
use Rattle.std.specs.Prelude.{◌≡◌, ℕ, ◌-◌, ◌/◌, ◌%◌, List, [], ◌∷◌, ◌++◌, length, replicate, ℤ, pos, ◌+ℤ◌, ◌*ℤ◌, ◌≤ℤ◌, ◌<ℤ◌, int_lt, unsigned_abs, if◌then◌else◌}
use Rattle.std.specs.Fmt.{decimal, signed_decimal}

-- num/den in plain digits, not reduced
abbrev pub fraction_text : ℤ → ℤ → List ℕ
fraction_text num den = signed_decimal num ++ (47 ∷ signed_decimal den)

-- how many millionths one is
abbrev pub million : ℕ
million = 1000000

-- a number below a million in six digits, with zeros before it
abbrev pub six_digits : ℕ → List ℕ
six_digits n = replicate (6 - length (decimal n)) 48 ++ decimal n

-- so many millionths, with six digits after the point; zero has no sign
abbrev pub six_places : ℤ → List ℕ
six_places x =
    (if int_lt x (pos 0) then 45 ∷ [] else []) ++ (decimal (unsigned_abs x / million) ++ (46 ∷ six_digits (unsigned_abs x % million)))

-- the greatest number of millionths that is at most num/den, in six places
pub record IsDownText (num den : ℤ) (text : List ℕ) : Type 0 where
  pub x : ℤ
  pub most : (x *ℤ den) ≤ℤ (num *ℤ pos million)
  pub next : (num *ℤ pos million) <ℤ (x *ℤ den +ℤ den)
  pub same : text ≡ six_places x

-- the least number of millionths that is at least num/den, in six places
pub record IsUpText (num den : ℤ) (text : List ℕ) : Type 0 where
  pub x : ℤ
  pub least : (num *ℤ pos million) ≤ℤ (x *ℤ den)
  pub before : (x *ℤ den) <ℤ (num *ℤ pos million +ℤ den)
  pub same : text ≡ six_places x
