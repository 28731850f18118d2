use Rattle.simplex.proofs.SameNumbers.{end_same, program_same, run_same}
use Rattle.simplex.proofs.laws.law_same_numbers.Goals as goal

pub returns : goal.returns
returns c = record { program = program_same; run = run_same; end = end_same }
