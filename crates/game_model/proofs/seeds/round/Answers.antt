use Rattle.std.proofs.Common.{rules, arith, ◌∙◌, ◌<◌, length}
use Rattle.std.specs.Prelude.{pos, FitsSigned, slice_index_or}
use Rattle.std.specs.Int.{w128}
use Rattle.std.proofs.lemmas.Int.{to_z-of_z}
use Rattle.game_model.specs.Bounds.{IsWithinSpan}
use Rattle.game_model.specs.Game.{GameData, numbers}
use Rattle.game_model.specs.Seeds.{IsLeastFloor}
use Rattle.game_model.proofs.Least.{written}
use Rattle.game_model.proofs.seeds.round.Goals as goal
use Rattle.scaled_num.proofs.Each.{each-by-place}

pub loop-s-preserved : goal.loop-s-preserved
loop-s-preserved c =
    let g : GameData = c.args.game.now in
    let fits : FitsSigned w128 c.least.result = search rules in
    let inside : c.loop-s.s < length c.loop-s.new = search (rules, arith) in
    simp to_z-of_z (record {
      floors = written (λ k x. IsLeastFloor (numbers g) c.args.a (λ t. slice_index_or c.args.old.now t (pos 0)) k x) c.loop-s.new c.loop-s.s c.least.result inside c.loop-s.invariant.floors c.least.ensures.floor;
      within = written (λ k x. IsWithinSpan g x) c.loop-s.new c.loop-s.s c.least.result inside c.loop-s.invariant.within c.least.ensures.bounded;
    })

pub returns-clause-bounded : goal.returns-clause-bounded
returns-clause-bounded c =
    let g : GameData = c.args.game.now in
    record {
      long = c.loop-s.auto.new ∙ c.requires.states;
      each = each-by-place (IsWithinSpan g) (pos 0) c.loop-s.new (λ i l. c.loop-s.invariant.within i (omega arith));
    }
