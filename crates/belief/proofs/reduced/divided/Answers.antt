use Rattle.std.proofs.Common.{◌≡◌, ◌^◌, arith, rules}
use Rattle.std.specs.Prelude.{pos, FitsSigned, ◌≤ℤ◌, ◌<ℤ◌}
use Rattle.std.specs.Int.{w128}
use Rattle.std.proofs.lemmas.Int.{ints}
use Rattle.belief.specs.Quotients.{quotients}
use Rattle.belief.proofs.Lowest.{Lowered, lowered, parts-from, reduced-heavy, reduced-light}
use Rattle.belief.proofs.reduced.divided.Goals as goal

pub sum-requires-clause-each : goal.sum-requires-clause-each
sum-requires-clause-each c =
    let is : c.divide.new.numbers ≡ quotients c.args.divisor c.args.mass.now = cc (c.divide.ensures, c.copy_from_slice.ensures.after) in
    let low : Lowered c.args.mass.now c.divide.new.numbers = lowered c.args.divisor c.args.mass.now c.divide.new.numbers c.requires.positive c.requires.weights c.requires.divides c.requires.greatest is in
    low.none_negative

pub sum-requires-clause-most : goal.sum-requires-clause-most
sum-requires-clause-most c =
    let is : c.divide.new.numbers ≡ quotients c.args.divisor c.args.mass.now = cc (c.divide.ensures, c.copy_from_slice.ensures.after) in
    let low : Lowered c.args.mass.now c.divide.new.numbers = lowered c.args.divisor c.args.mass.now c.divide.new.numbers c.requires.positive c.requires.weights c.requires.divides c.requires.greatest is in
    omega (arith, ints, low.most)

pub of_parts-requires : goal.of_parts-requires
of_parts-requires c =
    let is : c.divide.new.numbers ≡ quotients c.args.divisor c.args.mass.now = cc (c.divide.ensures, c.copy_from_slice.ensures.after) in
    let low : Lowered c.args.mass.now c.divide.new.numbers = lowered c.args.divisor c.args.mass.now c.divide.new.numbers c.requires.positive c.requires.weights c.requires.divides c.requires.greatest is in
    let fits : FitsSigned w128 c.sum.result = search rules in
    let light : c.sum.result ≤ℤ pos (2 ^ 20) = omega (arith, ints) in
    parts-from c.divide.new.numbers (omega (arith, low.long)) low.none_negative low.lowest.coprime (omega (arith, ints, c.sum.ensures))

pub returns-then-sum-le-MOST_BELIEF : goal.returns-then-sum-le-MOST_BELIEF
returns-then-sum-le-MOST_BELIEF c =
    let is : c.divide.new.numbers ≡ quotients c.args.divisor c.args.mass.now = cc (c.divide.ensures, c.copy_from_slice.ensures.after) in
    let low : Lowered c.args.mass.now c.divide.new.numbers = lowered c.args.divisor c.args.mass.now c.divide.new.numbers c.requires.positive c.requires.weights c.requires.divides c.requires.greatest is in
    let fits : FitsSigned w128 c.sum.result = search rules in
    let light : c.sum.result ≤ℤ pos (2 ^ 20) = omega (arith, ints) in
    reduced-light c.args.mass.now c.divide.new.numbers c.of_parts.result low (omega (arith, ints, c.sum.ensures)) c.of_parts.ensures

pub returns : goal.returns
returns c =
    let is : c.divide.new.numbers ≡ quotients c.args.divisor c.args.mass.now = cc (c.divide.ensures, c.copy_from_slice.ensures.after) in
    let low : Lowered c.args.mass.now c.divide.new.numbers = lowered c.args.divisor c.args.mass.now c.divide.new.numbers c.requires.positive c.requires.weights c.requires.divides c.requires.greatest is in
    let fits : FitsSigned w128 c.sum.result = search rules in
    let heavy : pos (2 ^ 20) <ℤ c.sum.result = omega (arith, ints) in
    reduced-heavy c.args.mass.now c.divide.new.numbers c.shared_out.result low (omega (arith, ints, c.sum.ensures)) c.shared_out.ensures

pub shared_out-requires-clause-weights : goal.shared_out-requires-clause-weights
shared_out-requires-clause-weights c =
    let is : c.divide.new.numbers ≡ quotients c.args.divisor c.args.mass.now = cc (c.divide.ensures, c.copy_from_slice.ensures.after) in
    let low : Lowered c.args.mass.now c.divide.new.numbers = lowered c.args.divisor c.args.mass.now c.divide.new.numbers c.requires.positive c.requires.weights c.requires.divides c.requires.greatest is in
    low.none_negative

pub shared_out-requires-clause-total : goal.shared_out-requires-clause-total
shared_out-requires-clause-total c =
    let is : c.divide.new.numbers ≡ quotients c.args.divisor c.args.mass.now = cc (c.divide.ensures, c.copy_from_slice.ensures.after) in
    let low : Lowered c.args.mass.now c.divide.new.numbers = lowered c.args.divisor c.args.mass.now c.divide.new.numbers c.requires.positive c.requires.weights c.requires.divides c.requires.greatest is in
    omega (arith, ints, low.most)
