-- What is known of each kind of source and sink.
use Rattle.std.specs.Prelude.{ℕ, ◌+◌, List, ◌++◌, length, nat_le, if◌then◌else◌, Some, None}
use Rattle.std.specs.declared.option.Option.{Option}

-- A source over a reader, or a sink over a writer: the bytes that the reader has left or the writer holds, where
-- those are known, and how many calls failed.
pub record Adapter : Type 0 where
  pub known : Option (List ℕ)
  pub faults : ℕ

-- A source in memory: the bytes that are left, the most that one call gives, the numbers of the calls that fail,
-- how many calls were made, and how many of them failed.
pub record Supply : Type 0 where
  pub left : List ℕ
  pub most : ℕ
  pub fails : List ℕ
  pub calls : ℕ
  pub faults : ℕ

-- A sink in memory: the bytes written, the most bytes that it holds, the most that one call takes, the numbers of the
-- calls that fail, how many calls were made, and how many of them failed.
pub record Store : Type 0 where
  pub written : List ℕ
  pub room : ℕ
  pub most : ℕ
  pub fails : List ℕ
  pub calls : ℕ
  pub faults : ℕ

-- A sink that never fails: the bytes written, where it tells them, and the room for them.
pub record Buffer : Type 0 where
  pub told : Option (List ℕ)
  pub room : ℕ

-- The bytes told after a piece: all of them where they fit the room, and none from the first piece on that does not fit.
abbrev pub told_after : ℕ → Option (List ℕ) → List ℕ → Option (List ℕ)
told_after room None piece = None
told_after room (Some told) piece = if nat_le (length told + length piece) room then Some (told ++ piece) else None
