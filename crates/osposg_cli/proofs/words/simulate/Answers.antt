use Rattle.std.proofs.Common.{◌≡◌, ℕ, List, map, string_bytes, subst, rules}
use Rattle.option_words.specs.Options.{AreRefused}
use Rattle.osposg_cli.specs.Words.{simulate_names, simulate_of}
use Rattle.osposg_cli.proofs.ReadBy.{read-none, simulate-plain}
use Rattle.osposg_cli.proofs.words.simulate.Goals as goal

pub returns-in-None-clause-command : goal.returns-in-None-clause-command
returns-in-None-clause-command c =
    let words = map string_bytes c.args.words.now in
    let names : map (λ name. name.now) c.as_slice.result.now ≡ simulate_names = search rules in
    read-none simulate_names simulate_of words simulate-plain (subst (λ (ns : List (List ℕ)). AreRefused ns words) names (rw c.in-None.is at c.in_ok-options.ensures))
