use Rattle.std.proofs.Common.{◌≡◌, ◌∙◌, ◌++◌, ◌∷◌, [], List, ap, get_or, length, map, of_z, refl, rules, subst, sym, to_z}
use Rattle.std.specs.Prelude.{ℤ, FitsSigned}
use Rattle.std.specs.Int.{w128}
use Rattle.std.proofs.lemmas.Int.{to_z-of_z}
use Rattle.std.proofs.lemmas.List.{map-append}
use Rattle.std.proofs.lemmas.List.FromFn.{length-range_with_len}
use Rattle.scaled_num.specs.Sums.{below}
use Rattle.scaled_num.proofs.Sums.{each-at}
use Rattle.game_model.specs.Game.{GameData}
use Rattle.stage_game.specs.PairRow.{IsPairRow}
use Rattle.stage_game.specs.PointParts.{part_data, part_row}
use Rattle.stage_game.specs.Variables.{variables}
use Rattle.stage_game.specs.declared.upper.PointPart.{PointPart}
use Rattle.stage_game.proofs.Appends.{item-more}
use Rattle.stage_game.proofs.PointRows.{part-is_pair}
use Rattle.stage_game.proofs.upper.push_rows_after.Goals as goal

pub loop-part-preserved : goal.loop-part-preserved
loop-part-preserved c =
    let g : GameData = c.args.game.now in
    let part : PointPart = c.part-item.result in
    let here : get_or c.args.parts.now c.loop-part.part-index part ≡ part = sym c.part-item.is in
    let own_fits : FitsSigned w128 part.own = search rules in
    let row : PointPart → List ℤ = λ (p : PointPart). map (part_row (part_data p) c.args.a c.args.o) (variables g (below g.shape.states)) in
    let before : List (List ℤ) = map (λ row. row.items) c.args.rows.now.items in
    let long : length part.block.items ≡ g.shape.states = subst (λ (p : PointPart). length p.block.items ≡ g.shape.states) here (each-at (λ (p : PointPart). length p.block.items ≡ g.shape.states) part c.args.parts.now c.loop-part.part-index c.requires.long c.loop-part-test.true) in
    let lent : c.deref.result.now ≡ part.block.items = c.deref.ensures.value in
    let own_is : to_z w128 (of_z w128 part.own) ≡ part.own = simp to_z-of_z refl in
    let made : c.in_ok-pair_row.field-0.items ≡ row part =
    c.in_ok-pair_row.ensures (part_row (part_data part) c.args.a c.args.o) (below g.shape.states)
    (length-range_with_len 0 g.shape.states ∙ sym (ap (λ (xs : List ℤ). length xs) lent ∙ long))
    (subst (λ (z : ℤ). IsPairRow (part_row (part_data part) c.args.a c.args.o) c.args.a c.args.o z (below g.shape.states) c.deref.result.now) (sym own_is)
    (subst (λ (xs : List ℤ). IsPairRow (part_row (part_data part) c.args.a c.args.o) c.args.a c.args.o part.own (below g.shape.states) xs) (sym lent) (part-is_pair (part_data part) c.args.a c.args.o g.shape.states long))) in
    ap (λ (rows : List _). map (λ row. row.items) rows) c.in_ok-push.ensures.items
    ∙ map-append (λ row. row.items) c.loop-part.rows.items (c.in_ok-pair_row.field-0 ∷ [])
    ∙ ap (λ (x : List ℤ). map (λ row. row.items) c.loop-part.rows.items ++ x ∷ []) (made ∙ ap row (sym here))
    ∙ ap (λ (xs : List (List ℤ)). xs ++ row (get_or c.args.parts.now c.loop-part.part-index part) ∷ []) c.loop-part.invariant
    ∙ item-more row before c.args.parts.now c.loop-part.part-index part c.loop-part-test.true
