use Rattle.std.proofs.Common.{None, ◌∙◌, sym, arith}
use Rattle.std.proofs.lemmas.Str.Pattern.{split_once_first}
use Rattle.osposg_cli.proofs.Slashes.{gap_of-none}
use Rattle.osposg_cli.proofs.words.gap_of.Goals as goal

pub returns-in_err-num-clause-value : goal.returns-in_err-num-clause-value
returns-in_err-num-clause-value c =
    c.from_residual.ensures ∙ sym (gap_of-none c.args.text.now (split_once_first 47 c.args.text.now None c.in_err-num.ensures.cases (omega arith)))
