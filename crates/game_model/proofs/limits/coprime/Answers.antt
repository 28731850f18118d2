use Rattle.std.specs.Prelude.{ℤ, ◌*ℤ◌, pos, ◌≡◌, List, map}
use Rattle.std.specs.Int.{w128, cast_signed}
use Rattle.std.proofs.Common.{arith, rules, sym, subst, Vec, Global}
use Rattle.std.proofs.lemmas.Int.{ints, to_z_pos, fits_signed_from_abs}
use Rattle.std.specs.List.{AllByRecursion}
use Rattle.scaled_num.proofs.Divisors.{Divides}
use Rattle.game_model.specs.Game.{AreCoprime}
use Rattle.game_model.proofs.Divisor.{divisor-small, multiple, quotients-coprime, quotients}
use Rattle.std.proofs.lemmas.Result.{IfOk-weaker}
use Rattle.game_model.proofs.limits.coprime.Goals as goal

pub overflow_cast-common_divisor : goal.overflow_cast-common_divisor
overflow_cast-common_divisor c =
    let b = c.requires.1 in
    let divides : AllByRecursion (Divides c.common_divisor.result) c.args.weights.now = search rules in
    let small = divisor-small c.common_divisor.result c.args.weights.now b.each divides b.sums.0 in
    fits_signed_from_abs w128 (pos c.common_divisor.result) (omega (arith, small.1))

pub quotients-requires-clause-positive : goal.quotients-requires-clause-positive
quotients-requires-clause-positive c =
    let b = c.requires.1 in
    let divides : AllByRecursion (Divides c.common_divisor.result) c.args.weights.now = search rules in
    let small = divisor-small c.common_divisor.result c.args.weights.now b.each divides b.sums.0 in
    omega (arith, ints, small.0, small.1)

pub returns-clause-multiple : goal.returns-clause-multiple
returns-clause-multiple c =
    let d = c.common_divisor.result in
    let ws : List ℤ = c.args.weights.now in
    let b = c.requires.1 in
    let divides : AllByRecursion (Divides d) ws = search rules in
    let small = divisor-small d ws b.each divides b.sums.0 in
    let is : cast_signed w128 d ≡ pos d = to_z_pos w128 d (omega (arith, small.1)) in
    IfOk-weaker _ (λ (kept : Vec ℤ Global). kept.items ≡ quotients d ws) _ (λ kept e. (d, small.0, subst (λ (xs : List ℤ). ws ≡ map (λ x. pos d *ℤ x) xs) (sym e) (multiple d ws b.each divides))) (rw is at c.quotients.ensures)

pub returns-clause-coprime : goal.returns-clause-coprime
returns-clause-coprime c =
    let d = c.common_divisor.result in
    let ws : List ℤ = c.args.weights.now in
    let b = c.requires.1 in
    let divides : AllByRecursion (Divides d) ws = search rules in
    let small = divisor-small d ws b.each divides b.sums.0 in
    let is : cast_signed w128 d ≡ pos d = to_z_pos w128 d (omega (arith, small.1)) in
    IfOk-weaker _ (λ (kept : Vec ℤ Global). kept.items ≡ quotients d ws) _ (λ kept e. subst AreCoprime (sym e) (quotients-coprime d ws small.0 b.each divides c.common_divisor.ensures.greatest)) (rw is at c.quotients.ensures)
