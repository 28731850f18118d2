use Rattle.std.proofs.Common.{◌++◌, ◌∙◌, ◌≤◌, ap, arith, length, List, sym, ℕ}
use Rattle.std.specs.String.{string_bytes}
use Rattle.game_model.specs.Branches.{branch_of}
use Rattle.cert_text.specs.Text.{branch_line}
use Rattle.text_words.proofs.Grown.{all-pieces, pieces-map}
use Rattle.cert_text.proofs.printing.branch_lines.Goals as goal

pub returns : goal.returns
returns c =
    let branches = c.args.branches.now in
    let old = string_bytes c.args.text.now in
    let done : length branches ≤ c.loop-branch.branch-index = omega (arith, c.loop-branch-test.false) in
    all-pieces (λ branch. branch_line c.args.name.now (branch_of branch)) branches c.loop-branch.branch-index old (string_bytes c.loop-branch.text) done c.loop-branch.invariant
    ∙ ap (λ (l : List ℕ). old ++ l) (sym (pieces-map (branch_line c.args.name.now) branch_of branches))
