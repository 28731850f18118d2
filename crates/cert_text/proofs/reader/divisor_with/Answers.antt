use Rattle.std.proofs.Common.{◌≡◌, ℕ, ap, subst, arith, rules, ◌∙◌}
use Rattle.std.specs.Prelude.{FitsSigned, unsigned_abs}
use Rattle.std.specs.Int.{IsGcd, w128}
use Rattle.std.proofs.lemmas.Int.{to_z-of_z}
use Rattle.cert_text.proofs.Divisor.{gcd_same, within_is}
use Rattle.cert_text.proofs.reader.divisor_with.Goals as goal

pub returns : goal.returns
returns c =
    let d = c.args.divisor in
    let fits : FitsSigned w128 c.args.weight = search rules in
    let size : c.unsigned_abs.result ≡ unsigned_abs c.args.weight = c.unsigned_abs.ensures.value ∙ ap unsigned_abs (to_z-of_z w128 c.args.weight fits) in
    gcd_same (unsigned_abs c.args.weight) d c.gcd.result _ (subst (λ (n : ℕ). IsGcd n d c.gcd.result) size c.gcd.ensures) (within_is d (unsigned_abs c.args.weight) d (omega arith))
