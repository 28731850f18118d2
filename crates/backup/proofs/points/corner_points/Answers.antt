use Rattle.std.proofs.Common.{rules, arith, ◌≡◌, ◌∙◌, ◌++◌, ◌∷◌, [], ℕ, List, ap, get_or, length, of_z, sym, to_z}
use Rattle.std.specs.Prelude.{ℤ, pos, FitsSigned}
use Rattle.std.specs.Int.{w128}
use Rattle.std.proofs.lemmas.Int.{to_z-of_z}
use Rattle.std.proofs.lemmas.List.FromFn.{length-map-range_with_len}
use Rattle.belief.specs.Beliefs.{corner_of}
use Rattle.belief.specs.Mixes.{MixesData, pure_mixes}
use Rattle.scaled_num.specs.Share.{at}
use Rattle.game_model.specs.Game.{GameData}
use Rattle.point_set.specs.Members.{point_data}
use Rattle.point_set.specs.Points.{PointData}
use Rattle.backup.specs.Seeds.{corner_split}
use Rattle.backup.specs.Shares.{first_corners}
use Rattle.backup.proofs.Places.{map-below-more}
use Rattle.backup.proofs.points.corner_points.Goals as goal

pub add-requires : goal.add-requires
add-requires c =
    let g : GameData = c.args.game.now in
    let few = c.law_game.ensures.accepted.shape.states.1 in
    let count = ap length c.loop-s.invariant ∙ length-map-range_with_len (λ s. corner_split g (corner_of g.shape.states s) (at c.args.values.now s) (pure_mixes g c.args.replies.now)) 0 c.loop-s.s in
    let long = c.requires.long in
    omega (arith, count)

pub loop-s-preserved : goal.loop-s-preserved
loop-s-preserved c =
    let g : GameData = c.args.game.now in
    let s : ℕ = c.loop-s.s in
    let mixes : MixesData = pure_mixes g c.args.replies.now in
    let f : ℕ → PointData = λ s. corner_split g (corner_of g.shape.states s) (at c.args.values.now s) mixes in
    let v : ℤ = get_or c.args.values.now s (pos 0) in
    let fits : FitsSigned w128 v = search rules in
    let same : to_z w128 (of_z w128 v) ≡ v = simp to_z-of_z in
    let point : PointData = point_data c.in_ok-point.point in
    let is : point ≡ f s =
    c.in_ok-point.ensures
    ∙ ap (λ (parts : List ℤ). corner_split g parts (to_z w128 (of_z w128 v)) mixes) (c.corner-corner.ensures ∙ ap (λ (n : ℕ). corner_of n s) c.states.ensures)
    ∙ ap (λ (x : ℤ). corner_split g (corner_of g.shape.states s) x mixes) same in
    c.in_ok-add.ensures
    ∙ ap (λ (xs : List PointData). xs ++ point ∷ []) c.loop-s.invariant
    ∙ ap (λ (p : PointData). first_corners g c.args.values.now mixes s ++ p ∷ []) is
    ∙ sym (map-below-more f s)
