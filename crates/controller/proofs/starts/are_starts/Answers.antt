use Rattle.std.proofs.Common.{arith, length, map, of_z, rules, subst, to_z, ◌≤◌}
use Rattle.std.specs.Prelude.{ℕ, ℤ, FitsSigned}
use Rattle.std.specs.Int.{w128}
use Rattle.std.proofs.lemmas.Int.{to_z-of_z}
use Rattle.std.specs.List.{AllByRecursion}
use Rattle.controller.specs.Starts.{IsStart}
use Rattle.game_model.specs.Game.{AreCoprime}
use Rattle.point_set.specs.Split.{AreRisingPairs}
use Rattle.controller.proofs.starts.are_starts.Goals as goal

pub returns-then-are_in_range : goal.returns-then-are_in_range
returns-then-are_in_range c =
    let fits : FitsSigned w128 c.args.most = search rules in (
      λ t.
          let each : AllByRecursion (IsStart c.args.count (to_z w128 (of_z w128 c.args.most))) c.args.starts.now = search rules in
          let rising : AreRisingPairs c.args.starts.now = search rules in
          let some : 1 ≤ length c.args.starts.now = search (rules, arith) in
          let coprime : AreCoprime (map (λ (start : ℕ × ℤ). start.1) c.args.starts.now) = c.are_coprime.ensures.0 t in
          record { some = some; rising = rising; each = subst (λ (most : ℤ). AllByRecursion (IsStart c.args.count most) c.args.starts.now) (to_z-of_z w128 c.args.most fits) each; coprime = coprime },
      λ h. c.are_coprime.ensures.1 h.coprime,
    )
