use Rattle.std.proofs.Common.{◌≡◌, ℕ, List, map, string_bytes, subst, rules}
use Rattle.option_words.specs.Options.{AreRefused}
use Rattle.osposg_cli.specs.Words.{solve_names, solve_of}
use Rattle.osposg_cli.proofs.ReadBy.{read-none, solve-plain}
use Rattle.osposg_cli.proofs.words.solve.Goals as goal

pub returns-in-None-clause-command : goal.returns-in-None-clause-command
returns-in-None-clause-command c =
    let words = map string_bytes c.args.words.now in
    let names : map (λ name. name.now) c.as_slice.result.now ≡ solve_names = search rules in
    read-none solve_names solve_of words solve-plain (subst (λ (ns : List (List ℕ)). AreRefused ns words) names (rw c.in-None.is at c.in_ok-options.ensures))
