use Rattle.std.proofs.Common.{◌≡◌, rules}
use Rattle.cert_text.specs.Forms.{common_divisor}
use Rattle.cert_text.proofs.Divisor.{common_is, greatest_same}
use Rattle.cert_text.proofs.guards.are_coprime.Goals as goal

pub returns : goal.returns
returns c =
    let same : c.common_divisor.result ≡ common_divisor c.args.numbers.now = greatest_same c.args.numbers.now _ _ (record { divides = c.common_divisor.ensures.divides; most = c.common_divisor.ensures.greatest }) (common_is c.args.numbers.now) in
    search rules
