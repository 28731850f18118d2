use Rattle.std.proofs.Common.{◌≡◌, suc, ◌+◌, ◌^◌, max, arith, sym}
use Rattle.std.proofs.lemmas.Nat.{mul-le}
use Rattle.game_model.specs.Game.{greatest_reward, numbers}
use Rattle.simulate.proofs.Lengths.{ends-at_most, fits-more, is-each, longest-is, no-more, one-more, power, some-passed}
use Rattle.simulate.proofs.gains.longest.Goals as goal

pub overflow_mul-each : goal.overflow_mul-each
overflow_mul-each c =
    let each = is-each c.loop-stages.stages c.max-reward.result c.denominator-under.result (omega arith) (omega arith) (omega arith) (omega arith) (omega arith) in
    let half = each.half in
    let from : c.from.result ≡ suc c.loop-stages.stages = omega arith in
    rw from (omega (arith, half))

pub overflow_mul-each-in-loop-stages : goal.overflow_mul-each-in-loop-stages
overflow_mul-each-in-loop-stages c =
    let each = is-each c.loop-stages.stages c.max-reward.result c.denominator-under.result (omega arith) (omega arith) (omega arith) (omega arith) (omega arith) in
    let small = each.small in
    let from : c.from.result ≡ suc c.loop-stages.stages = omega arith in
    rw from (omega (arith, small))

pub nonzero_div-each : goal.nonzero_div-each
nonzero_div-each c =
    let each = is-each c.loop-stages.stages c.max-reward.result c.denominator-under.result (omega arith) (omega arith) (omega arith) (omega arith) (omega arith) in
    let some = each.some in
    let from : c.from.result ≡ suc c.loop-stages.stages = omega arith in
    rw from (omega (arith, some))

pub returns-then-power-each-clause-longest : goal.returns-then-power-each-clause-longest
returns-then-power-each-clause-longest c =
    let g = c.args.game.now in
    let from : c.from.result ≡ suc c.loop-stages.stages = omega arith in
    let reward : c.max-reward.result ≡ max 1 (greatest_reward g) = omega arith in
    let test = rw (from, reward, c.denominator-under.ensures.under, c.loop-stages.invariant.power) at c.if-power-each.true in
    longest-is g c.loop-stages.stages c.law_game.ensures.accepted (omega arith, c.loop-stages.invariant.short)
    (no-more g c.loop-stages.stages c.law_game.ensures.accepted (omega arith) test)

pub returns-then-power-each-clause-some : goal.returns-then-power-each-clause-some
returns-then-power-each-clause-some c =
    let g = c.args.game.now in
    let from : c.from.result ≡ suc c.loop-stages.stages = omega arith in
    let reward : c.max-reward.result ≡ max 1 (greatest_reward g) = omega arith in
    let test = rw (from, reward, c.denominator-under.ensures.under, c.loop-stages.invariant.power) at c.if-power-each.true in
    some-passed g c.loop-stages.stages c.law_game.ensures.accepted (no-more g c.loop-stages.stages c.law_game.ensures.accepted (omega arith) test)

pub overflow_mul-power : goal.overflow_mul-power
overflow_mul-power c =
    let each = is-each c.loop-stages.stages c.max-reward.result c.denominator-under.result (omega arith) (omega arith) (omega arith) (omega arith) (omega arith) in
    let from : c.from.result ≡ suc c.loop-stages.stages = omega arith in
    let test = rw from at c.if-power-each.false in
    let fits = fits-more c.loop-stages.power _ (2 ^ 120) each.some test in
    let most = mul-le c.loop-stages.power c.denominator-under.result c.loop-stages.power _ (omega arith) each.under in
    omega (arith, fits, most)

pub loop-stages-preserved : goal.loop-stages-preserved
loop-stages-preserved c =
    let g = c.args.game.now in
    let from : c.from.result ≡ suc c.loop-stages.stages = omega arith in
    let reward : c.max-reward.result ≡ max 1 (greatest_reward g) = omega arith in
    let test = rw (from, reward, c.denominator-under.ensures.under, c.loop-stages.invariant.power) at c.if-power-each.false in
    let next : c.loop-stages.stages + 1 ≡ suc c.loop-stages.stages = omega arith in
    rw next (record {
      power = rw (c.denominator-under.ensures.under, c.loop-stages.invariant.power) (sym (power (numbers g).discount_under c.loop-stages.stages));
      short = one-more g c.loop-stages.stages c.law_game.ensures.accepted (omega arith) test;
    })

pub returns-clause-longest : goal.returns-clause-longest
returns-clause-longest c =
    let g = c.args.game.now in
    let end : c.loop-stages.stages ≡ 64 = omega arith in
    longest-is g 64 c.law_game.ensures.accepted (omega arith, rw end at c.loop-stages.invariant.short) (ends-at_most g)
