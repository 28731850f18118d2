use Rattle.std.specs.Prelude.{ℕ}
use Rattle.text_words.specs.declared.fault.LineFault.{LineFault}
use Rattle.text_words.specs.declared.fault.LineFault.TheVariants as line
use Rattle.game_text.specs.declared.fault.Kind.{Kind}
use Rattle.game_text.specs.declared.fault.Kind.TheVariants.{Version, Shape, Number, Range, Order, Total, Belief, Wide, Missing, Trailing}
use Rattle.game_text.specs.declared.fault.TextFault.{TextFault}
use Rattle.game_text.specs.declared.fault.TextFault.TheVariants as text

abbrev pub number_of_kind : Kind → ℕ
number_of_kind Version = 1
number_of_kind Shape = 2
number_of_kind Number = 3
number_of_kind Range = 4
number_of_kind Order = 5
number_of_kind Total = 6
number_of_kind Belief = 7
number_of_kind Wide = 8
number_of_kind Missing = 9
number_of_kind Trailing = 10

-- the fault of a line of this number
abbrev pub at_line : LineFault Kind → ℕ → TextFault
at_line (line.Refused kind) number = text.Line number kind
at_line line.OutOfMemory number = text.OutOfMemory
