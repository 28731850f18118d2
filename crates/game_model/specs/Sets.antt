-- A set of members by number, with room for so many more.
use Rattle.std.specs.Prelude.{ℕ, List}

-- the members by number, and how many more can be added without taking memory
pub record SetData (Member : Type 0) : Type 0 where
  pub members : List Member
  pub spare : ℕ
