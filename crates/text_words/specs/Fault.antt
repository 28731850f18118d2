-- What a reader of a line gave, against what the line says.
use Rattle.std.specs.Prelude.{◌≡◌, Result, Ok, Err, ⊤}
use Rattle.text_words.specs.declared.fault.LineFault.{LineFault}
use Rattle.text_words.specs.declared.fault.LineFault.TheVariants.{OutOfMemory, Refused}

-- the line is refused for this kind, or memory ran out
abbrev pub Fails : {K Y : Type 0} → LineFault K → Result Y K → Type 0
Fails OutOfMemory said = ⊤
Fails (Refused kind) said = said ≡ Err kind

-- What is read, seen by view, is what the line says, or it is refused as it says, or memory ran out.
abbrev pub Gives : {K X Y : Type 0} → (X → Y) → Result X (LineFault K) → Result Y K → Type 0
Gives view (Ok x) said = said ≡ Ok (view x)
Gives view (Err fault) said = Fails fault said

-- the room holds what the line says, or it is refused as it says
abbrev pub Fills : {K Y : Type 0} → Result (Unit {0}) K → Y → Result Y K → Type 0
Fills (Ok x) room said = said ≡ Ok room
Fills (Err kind) room said = said ≡ Err kind
