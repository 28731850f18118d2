use Rattle.std.proofs.Common.{arith, rules, refl, ◌^◌, subst}
use Rattle.std.specs.Prelude.{pos, FitsSigned}
use Rattle.std.specs.Int.{w128}
use Rattle.std.proofs.lemmas.Int.{ints, to_z-of_z}
use Rattle.game_model.specs.Game.{IsWithin}
use Rattle.scaled_num.proofs.Sums.{sum-most}
use Rattle.belief.proofs.beliefs.Belief.of.Goals as goal

pub of_parts-requires : goal.of_parts-requires
of_parts-requires c =
    let fits : FitsSigned w128 c.sum.result = search rules in
    let sums : IsWithin (pos 1) (pos (2 ^ 20)) c.sum.result = simp to_z-of_z at (c.is_total.ensures.0 c.if-is_total.true) in
    record {
      few = c.requires.few;
      belief = record {
        long = refl;
        each = c.are_weights.ensures.0 c.if-are_weights.true;
        sums = subst (IsWithin (pos 1) (pos (2 ^ 20))) c.sum.ensures sums;
      };
      coprime = c.are_coprime.ensures.0 c.if-are_coprime.true;
    }

pub returns-then-are_coprime-clause-exactly : goal.returns-then-are_coprime-clause-exactly
returns-then-are_coprime-clause-exactly c =
    let fits : FitsSigned w128 c.sum.result = search rules in
    let sums : IsWithin (pos 1) (pos (2 ^ 20)) c.sum.result = simp to_z-of_z at (c.is_total.ensures.0 c.if-is_total.true) in
    (λ _. (record { long = refl; each = c.are_weights.ensures.0 c.if-are_weights.true; sums = subst (IsWithin (pos 1) (pos (2 ^ 20))) c.sum.ensures sums }, c.are_coprime.ensures.0 c.if-are_coprime.true), λ _. refl)

pub sum-requires-clause-most : goal.sum-requires-clause-most
sum-requires-clause-most c = omega (arith, ints, sum-most (2 ^ 20) c.args.parts.now (c.are_weights.ensures.0 c.if-are_weights.true))
