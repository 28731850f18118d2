use Rattle.std.proofs.Common.{◌≡◌, ℕ, List, map, string_bytes, subst, rules}
use Rattle.option_words.specs.Options.{AreRefused}
use Rattle.osposg_cli.specs.Words.{close_names, close_of}
use Rattle.osposg_cli.proofs.ReadBy.{read-none, close-plain}
use Rattle.osposg_cli.proofs.words.close.Goals as goal

pub returns-in-None-clause-command : goal.returns-in-None-clause-command
returns-in-None-clause-command c =
    let words = map string_bytes c.args.words.now in
    let names : map (λ name. name.now) c.as_slice.result.now ≡ close_names = search rules in
    read-none close_names close_of words close-plain (subst (λ (ns : List (List ℕ)). AreRefused ns words) names (rw c.in-None.is at c.in_ok-options.ensures))
