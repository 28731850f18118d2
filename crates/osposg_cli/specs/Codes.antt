-- The exit code of each status.
use Rattle.std.specs.Prelude.{ℕ}
use Rattle.osposg_cli.specs.declared.status.Status.{Status}
use Rattle.osposg_cli.specs.declared.status.Status.TheVariants.{Done, No, Open, GameRefused, CertRefused, WordsRefused, ReadFault, WriteFault, OutOfMemory, TooLong}

abbrev pub code_of : Status → ℕ
code_of Done = 0
code_of No = 1
code_of Open = 2
code_of GameRefused = 3
code_of CertRefused = 4
code_of WordsRefused = 5
code_of ReadFault = 6
code_of WriteFault = 7
code_of OutOfMemory = 8
code_of TooLong = 9
