use Rattle.std.proofs.Common.{◌<◌, ◌≡◌, arith, length, rules, subst, sym}
use Rattle.std.proofs.lemmas.Int.{ints}
use Rattle.std.proofs.lemmas.List.{places}
use Rattle.scaled_num.proofs.Floors.{All-to_recursion}
use Rattle.belief.specs.Quotients.{quotients}
use Rattle.belief.specs.Reduced.{AreLowest}
use Rattle.belief.proofs.Lowest.{IsNotNegative, Lowered, divisor-some, lowered, parts-from}
use Rattle.belief.proofs.reduced.shared_out.Goals as goal

pub divide-requires-clause-some : goal.divide-requires-clause-some
divide-requires-clause-some c =
    let some : 0 < c.common_divisor-divisor.result = divisor-some c.common_divisor-divisor.result c.take_share.new.out c.common_divisor-divisor.ensures.divides (omega (arith, ints, c.take_share.ensures.whole)) in
    omega arith

pub of_parts-requires : goal.of_parts-requires
of_parts-requires c =
    let some : 0 < c.common_divisor-divisor.result = divisor-some c.common_divisor-divisor.result c.take_share.new.out c.common_divisor-divisor.ensures.divides (omega (arith, ints, c.take_share.ensures.whole)) in
    let is : c.divide.new.numbers ≡ quotients c.common_divisor-divisor.result c.take_share.new.out = cc (c.divide.ensures) in
    let low : Lowered c.take_share.new.out c.divide.new.numbers = lowered c.common_divisor-divisor.result c.take_share.new.out c.divide.new.numbers some
    (All-to_recursion IsNotNegative c.take_share.new.out c.take_share.ensures.positive) c.common_divisor-divisor.ensures.divides c.common_divisor-divisor.ensures.greatest is in
    let long : length c.take_share.new.out ≡ length c.args.weights.now = search (rules, arith, places) in
    parts-from c.divide.new.numbers (omega (arith, low.long)) low.none_negative low.lowest.coprime (omega (arith, ints, low.most, c.take_share.ensures.whole))

pub returns : goal.returns
returns c =
    let some : 0 < c.common_divisor-divisor.result = divisor-some c.common_divisor-divisor.result c.take_share.new.out c.common_divisor-divisor.ensures.divides (omega (arith, ints, c.take_share.ensures.whole)) in
    let is : c.divide.new.numbers ≡ quotients c.common_divisor-divisor.result c.take_share.new.out = cc (c.divide.ensures) in
    let low : Lowered c.take_share.new.out c.divide.new.numbers = lowered c.common_divisor-divisor.result c.take_share.new.out c.divide.new.numbers some
    (All-to_recursion IsNotNegative c.take_share.new.out c.take_share.ensures.positive) c.common_divisor-divisor.ensures.divides c.common_divisor-divisor.ensures.greatest is in
    record {
      shares = c.take_share.new.out;
      shared = c.take_share.ensures.shared;
      lowest = subst (AreLowest c.take_share.new.out) (sym c.of_parts.ensures) low.lowest;
    }
