use Rattle.std.proofs.Common.{◌≡◌, ◌++◌, drop}
use Rattle.std.specs.String.{string_bytes}
use Rattle.osposg_cli.specs.Simulate.{stage_lines}
use Rattle.osposg_cli.proofs.plays.stage_lines.Given as goal

abbrev pub invariant-loop-number : goal.invariant-loop-number
invariant-loop-number l = string_bytes l.text ++ stage_lines l.number (drop l.number l.steps) ≡ stage_lines 0 l.steps
