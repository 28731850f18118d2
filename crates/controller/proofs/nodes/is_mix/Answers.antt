use Rattle.std.proofs.Common.{arith, length, rules, ◌≤◌, ◌^◌}
use Rattle.std.specs.Prelude.{pos}
use Rattle.std.specs.List.{AllByRecursion}
use Rattle.std.proofs.lemmas.Int.{ints}
use Rattle.scaled_num.proofs.Sums.{sum-most}
use Rattle.game_model.specs.Branches.{mix_total}
use Rattle.game_model.specs.Game.{IsWithin}
use Rattle.controller.proofs.nodes.is_mix.Goals as goal

pub sum-requires-clause-most : goal.sum-requires-clause-most
sum-requires-clause-most c =
    let each : AllByRecursion (IsWithin (pos 0) (pos mix_total)) c.args.mix.now = search rules in
    let few : length c.args.mix.now ≤ 2 ^ 32 = search (rules, arith) in
    omega (arith, ints, sum-most mix_total c.args.mix.now each)
