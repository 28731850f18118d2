use Rattle.std.proofs.Common.{ap, length, rules, subst, sym, to_z, ◌++◌, ◌∷◌, ◌/◌, ◌<◌, ◌≡◌, ◌∙◌, ℕ, pos, []}
use Rattle.std.specs.Int.{w128}
use Rattle.std.specs.Prelude.{ℤ, FitsSigned, unsigned_abs, ◌≤ℤ◌}
use Rattle.std.proofs.lemmas.Int.{to_z-of_z, to_z_pos}
use Rattle.scaled_num.proofs.Sums.{each-at}
use Rattle.hsvi_trial.proofs.Weights.{lowest-more, small-part}
use Rattle.hsvi_trial.proofs.starts.divided.Goals as goal

pub loop-i-preserved : goal.loop-i-preserved
loop-i-preserved c =
    let fits : FitsSigned w128 c.item-number.result.1 = search rules in
    let size : c.unsigned_abs.result ≡ unsigned_abs c.item-number.result.1 = c.unsigned_abs.ensures.value ∙ ap unsigned_abs (to_z-of_z w128 c.item-number.result.1 fits) in
    let there : c.loop-i.i < length c.args.split.now = search rules in
    let some : pos 1 ≤ℤ c.item-number.result.1 =
    subst (λ (item : ℕ × ℤ). pos 1 ≤ℤ item.1) (sym c.item-number.ensures) (each-at (λ (item : ℕ × ℤ). pos 1 ≤ℤ item.1) (0, pos 0) c.args.split.now c.loop-i.i c.requires.positive there) in
    let part : to_z w128 (c.unsigned_abs.result / c.args.divisor) ≡ pos (unsigned_abs c.item-number.result.1 / c.args.divisor) =
    ap (λ (n : ℕ). to_z w128 (n / c.args.divisor)) size ∙ to_z_pos w128 (unsigned_abs c.item-number.result.1 / c.args.divisor) (small-part c.item-number.result.1 c.args.divisor some fits) in
    c.in_ok-push.ensures.items
    ∙ ap (λ (z : ℤ). c.loop-i.items.items ++ (c.item-number.result.0, z) ∷ []) part
    ∙ lowest-more c.args.divisor c.args.split.now c.loop-i.items.items c.loop-i.i c.item-number.result there c.item-number.ensures c.loop-i.invariant
