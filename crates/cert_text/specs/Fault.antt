use Rattle.std.specs.Prelude.{ℕ, Result, Ok, Err}
use Rattle.text_words.specs.declared.fault.LineFault.{LineFault}
use Rattle.text_words.specs.declared.fault.LineFault.TheVariants as line
use Rattle.cert_text.specs.declared.fault.CertKind.{CertKind}
use Rattle.cert_text.specs.declared.fault.CertKind.TheVariants.{Version, Shape, Number, Range, Order, Index, Total, Trailing, Full, Missing}
use Rattle.cert_text.specs.declared.fault.CertFault.{CertFault}
use Rattle.cert_text.specs.declared.fault.CertFault.TheVariants as text

abbrev pub number_of_kind : CertKind → ℕ
number_of_kind Version = 1
number_of_kind Shape = 2
number_of_kind Number = 3
number_of_kind Range = 4
number_of_kind Order = 5
number_of_kind Index = 6
number_of_kind Total = 7
number_of_kind Trailing = 8
number_of_kind Full = 9
number_of_kind Missing = 10

-- the fault of a line of this number
abbrev pub at_line : LineFault CertKind → ℕ → CertFault
at_line (line.Refused kind) number = text.Line number kind
at_line line.OutOfMemory number = text.OutOfMemory

-- the result with its value seen by view
abbrev pub seen : {X Y : Type 0} → (X → Y) → Result X CertKind → Result Y CertKind
seen view (Ok x) = Ok (view x)
seen view (Err kind) = Err kind
