use Rattle.std.specs.Prelude.{ℤ}
use Rattle.std.proofs.Common.{◌∙◌, ap}
use Rattle.std.proofs.lemmas.Int.{to_z-of_z}
use Rattle.game_model.specs.Game.{GameData, reward_at}
use Rattle.game_model.proofs.Worth.{found, found-fits, found-is, found-within}
use Rattle.game_model.proofs.accepted.Game.stage_worth.Goals as goal

pub overflow_mul-result : goal.overflow_mul-result
overflow_mul-result c =
    let g : GameData = c.args.self.now in
    let f = found-fits g c.law_game.ensures.accepted c.args.s c.args.a c.args.c c.requires.state c.requires.own c.requires.informed c.rest-later.result c.rest-later.ensures.bounded in
    let whole = f.whole in
    let over = f.over in
    let under = f.under in
    let reward = f.reward in
    let later = f.sum_fits in
    simp (c.reward.ensures, to_z-of_z) f.units

pub overflow_mul-result-2 : goal.overflow_mul-result-2
overflow_mul-result-2 c =
    let g : GameData = c.args.self.now in
    let f = found-fits g c.law_game.ensures.accepted c.args.s c.args.a c.args.c c.requires.state c.requires.own c.requires.informed c.rest-later.result c.rest-later.ensures.bounded in
    let whole = f.whole in
    let over = f.over in
    let under = f.under in
    let reward = f.reward in
    let later = f.sum_fits in
    simp (c.discount-over.ensures, c.row_total.ensures, to_z-of_z) f.divisor

pub overflow_mul-result-3 : goal.overflow_mul-result-3
overflow_mul-result-3 c =
    let g : GameData = c.args.self.now in
    let f = found-fits g c.law_game.ensures.accepted c.args.s c.args.a c.args.c c.requires.state c.requires.own c.requires.informed c.rest-later.result c.rest-later.ensures.bounded in
    let whole = f.whole in
    let over = f.over in
    let under = f.under in
    let reward = f.reward in
    let later = f.sum_fits in
    let units = f.units in
    let divisor = f.divisor in
    simp (c.reward.ensures, c.discount-over.ensures, c.row_total.ensures, to_z-of_z) f.earned

pub overflow_mul-result-4 : goal.overflow_mul-result-4
overflow_mul-result-4 c =
    let g : GameData = c.args.self.now in
    let f = found-fits g c.law_game.ensures.accepted c.args.s c.args.a c.args.c c.requires.state c.requires.own c.requires.informed c.rest-later.result c.rest-later.ensures.bounded in
    let whole = f.whole in
    let over = f.over in
    let under = f.under in
    let reward = f.reward in
    let later = f.sum_fits in
    simp (c.discount-over.ensures, to_z-of_z) f.later

pub overflow_add-result : goal.overflow_add-result
overflow_add-result c =
    let g : GameData = c.args.self.now in
    let f = found-fits g c.law_game.ensures.accepted c.args.s c.args.a c.args.c c.requires.state c.requires.own c.requires.informed c.rest-later.result c.rest-later.ensures.bounded in
    let whole = f.whole in
    let over = f.over in
    let under = f.under in
    let reward = f.reward in
    let later = f.sum_fits in
    let units = f.units in
    let divisor = f.divisor in
    let earned = f.earned in
    let product = f.later in
    simp (c.reward.ensures, c.discount-over.ensures, c.row_total.ensures, to_z-of_z) f.all

pub returns-clause-exact : goal.returns-clause-exact
returns-clause-exact c =
    let g : GameData = c.args.self.now in
    let f = found-fits g c.law_game.ensures.accepted c.args.s c.args.a c.args.c c.requires.state c.requires.own c.requires.informed c.rest-later.result c.rest-later.ensures.bounded in
    let whole = f.whole in
    let over = f.over in
    let under = f.under in
    let reward = f.reward in
    let later = f.sum_fits in
    let units = f.units in
    let divisor = f.divisor in
    let earned = f.earned in
    let product = f.later in
    let all = f.all in
    simp (c.reward.ensures, c.discount-over.ensures, c.row_total.ensures, to_z-of_z)
    (ap (λ (z : ℤ). found g (reward_at g c.args.s c.args.a c.args.c) z) c.rest-later.ensures.exact
    ∙ found-is g c.law_game.ensures.accepted c.args.s c.args.a c.args.c c.requires.state c.requires.own c.requires.informed c.args.vector.now)

pub returns-clause-bounded : goal.returns-clause-bounded
returns-clause-bounded c =
    let g : GameData = c.args.self.now in
    let f = found-fits g c.law_game.ensures.accepted c.args.s c.args.a c.args.c c.requires.state c.requires.own c.requires.informed c.rest-later.result c.rest-later.ensures.bounded in
    let whole = f.whole in
    let over = f.over in
    let under = f.under in
    let reward = f.reward in
    let later = f.sum_fits in
    let units = f.units in
    let divisor = f.divisor in
    let earned = f.earned in
    let product = f.later in
    let all = f.all in
    simp (c.reward.ensures, c.discount-over.ensures, c.row_total.ensures, to_z-of_z)
    (found-within g c.law_game.ensures.accepted c.args.s c.args.a c.args.c c.requires.state c.requires.own c.requires.informed c.rest-later.result c.rest-later.ensures.bounded)
