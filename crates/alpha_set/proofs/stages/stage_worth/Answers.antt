use Rattle.std.proofs.Common.{◌≡◌, ◌*◌, ℕ, arith, ap, ◌∙◌}
use Rattle.std.specs.Prelude.{ℤ, pos, unsigned_abs, ◌+ℤ◌, ◌*ℤ◌}
use Rattle.std.proofs.lemmas.Int.{to_z-of_z}
use Rattle.game_model.specs.Game.{GameData, numbers, unit}
use Rattle.alpha_set.specs.Members.{expected, mix_of, worth_by}
use Rattle.alpha_set.proofs.Wide.{SidesFit, right-is, right_side, sides-fit}
use Rattle.alpha_set.proofs.stages.stage_worth.Goals as goal

pub overflow_mul-result-2 : goal.overflow_mul-result-2
overflow_mul-result-2 c =
    let f = sides-fit c.args.game.now c.law_game.ensures.accepted (pos 0) c.at_once.result (pos 0) (omega arith) c.at_once.ensures.small (omega arith) in
    let whole = f.whole_fits in
    let under = f.under_fits in
    let paid_fits = f.paid_fits in
    let scale_fits = f.scale_fits in
    let units = f.units_fits in
    simp (c.discount-over.ensures, c.row_total.ensures, to_z-of_z) f.earned_fits

sides : (c : goal.After-later) → SidesFit c.args.game.now (pos 0) c.at_once.result c.later.result
sides c = sides-fit c.args.game.now c.law_game.ensures.accepted (pos 0) c.at_once.result c.later.result (omega arith) c.at_once.ensures.small c.later.ensures.small

pub overflow_mul-result-3 : goal.overflow_mul-result-3
overflow_mul-result-3 c =
    let f = sides c in
    let over = f.over_fits in
    let later_fits = f.later_fits in
    let rest = f.rest_fits in
    simp (c.discount-over.ensures, to_z-of_z) (search rest)

pub overflow_add-result : goal.overflow_add-result
overflow_add-result c =
    let f = sides c in
    let whole = f.whole_fits in
    let over = f.over_fits in
    let under = f.under_fits in
    let paid_fits = f.paid_fits in
    let later_fits = f.later_fits in
    let scale_fits = f.scale_fits in
    let units = f.units_fits in
    let earned = f.earned_fits in
    let rest = f.rest_fits in
    let right = f.right_fits in
    simp (c.discount-over.ensures, c.row_total.ensures, to_z-of_z) (search right)

worth : (c : goal.After-later) → right_side c.args.game.now c.at_once.result c.later.result ≡ worth_by (numbers c.args.game.now) (mix_of c.args.mix.now) c.args.table.now c.args.s c.args.c
worth c =
    let g : GameData = c.args.game.now in
    let earned : ℕ = unit * unsigned_abs g.shape.row_total * unsigned_abs g.shape.discount.1 in
    right-is g c.law_game.ensures.accepted c.at_once.result c.later.result
    ∙ ap (λ (z : ℤ). pos earned *ℤ c.at_once.result +ℤ pos (unsigned_abs g.shape.discount.0) *ℤ z) c.later.ensures.exact
    ∙ ap (λ (z : ℤ). pos earned *ℤ z +ℤ pos (unsigned_abs g.shape.discount.0) *ℤ expected (numbers g) c.args.table.now c.args.s c.args.c) c.at_once.ensures.exact

pub returns : goal.returns
returns c =
    let f = sides c in
    let whole = f.whole_fits in
    let over = f.over_fits in
    let under = f.under_fits in
    let paid_fits = f.paid_fits in
    let later_fits = f.later_fits in
    let scale_fits = f.scale_fits in
    let units = f.units_fits in
    let earned = f.earned_fits in
    let rest = f.rest_fits in
    let right = f.right_fits in
    simp (c.discount-over.ensures, c.row_total.ensures, to_z-of_z) (search (worth c))
