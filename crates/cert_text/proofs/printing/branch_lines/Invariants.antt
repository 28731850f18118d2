use Rattle.std.proofs.Common.{◌≡◌, ◌++◌, flat_map, take}
use Rattle.std.specs.String.{string_bytes}
use Rattle.game_model.specs.Branches.{branch_of}
use Rattle.cert_text.specs.Text.{branch_line}
use Rattle.cert_text.proofs.printing.branch_lines.Given as goal

abbrev pub invariant-loop-branch : goal.invariant-loop-branch
invariant-loop-branch l = string_bytes l.text ≡ string_bytes l.initial.text ++ flat_map (λ branch. branch_line l.name (branch_of branch)) (take l.branch-index l.branches)
