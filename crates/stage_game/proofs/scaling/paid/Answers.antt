use Rattle.std.proofs.lemmas.Int.{to_z-of_z}
use Rattle.game_model.specs.Game.{GameData}
use Rattle.stage_game.proofs.LowerNumbers.{bits-few}
use Rattle.stage_game.proofs.Paid.{paid-fits}
use Rattle.stage_game.proofs.scaling.paid.Goals as goal

pub overflow_mul-raise : goal.overflow_mul-raise
overflow_mul-raise c =
    let g : GameData = c.args.game.now in
    let f = paid-fits g c.law_game.ensures.accepted c.args.bits c.args.s c.args.a c.args.c (bits-few c.args.bits c.requires.bits) c.requires.state c.requires.own c.requires.informed in
    let span_fits = f.span_fits in
    let over_fits = f.over_fits in
    let under_fits = f.under_fits in
    let room_fits = f.room_fits in
    simp (c.span.ensures, c.discount-over.ensures, to_z-of_z) f.raise_fits

pub overflow_mul-result-2 : goal.overflow_mul-result-2
overflow_mul-result-2 c =
    let g : GameData = c.args.game.now in
    let f = paid-fits g c.law_game.ensures.accepted c.args.bits c.args.s c.args.a c.args.c (bits-few c.args.bits c.requires.bits) c.requires.state c.requires.own c.requires.informed in
    let span_fits = f.span_fits in
    let over_fits = f.over_fits in
    let under_fits = f.under_fits in
    let reward_fits = f.reward_fits in
    let units_fits = f.units_fits in
    simp (c.discount-over.ensures, c.reward.ensures, to_z-of_z) f.earned_fits

pub overflow_add-result : goal.overflow_add-result
overflow_add-result c =
    let g : GameData = c.args.game.now in
    let f = paid-fits g c.law_game.ensures.accepted c.args.bits c.args.s c.args.a c.args.c (bits-few c.args.bits c.requires.bits) c.requires.state c.requires.own c.requires.informed in
    let span_fits = f.span_fits in
    let over_fits = f.over_fits in
    let under_fits = f.under_fits in
    let room_fits = f.room_fits in
    let reward_fits = f.reward_fits in
    let units_fits = f.units_fits in
    let raise_fits = f.raise_fits in
    let earned_fits = f.earned_fits in
    simp (c.span.ensures, c.discount-over.ensures, c.reward.ensures, to_z-of_z) f.sum_fits

pub overflow_mul-result-3 : goal.overflow_mul-result-3
overflow_mul-result-3 c =
    let g : GameData = c.args.game.now in
    let f = paid-fits g c.law_game.ensures.accepted c.args.bits c.args.s c.args.a c.args.c (bits-few c.args.bits c.requires.bits) c.requires.state c.requires.own c.requires.informed in
    let span_fits = f.span_fits in
    let over_fits = f.over_fits in
    let under_fits = f.under_fits in
    let room_fits = f.room_fits in
    let reward_fits = f.reward_fits in
    let units_fits = f.units_fits in
    let raise_fits = f.raise_fits in
    let earned_fits = f.earned_fits in
    let scale_fits = f.scale_fits in
    let sum_fits = f.sum_fits in
    simp (c.span.ensures, c.discount-over.ensures, c.reward.ensures, c.scale_of.ensures.exact, to_z-of_z) f.all_fits

pub returns : goal.returns
returns c =
    let g : GameData = c.args.game.now in
    let f = paid-fits g c.law_game.ensures.accepted c.args.bits c.args.s c.args.a c.args.c (bits-few c.args.bits c.requires.bits) c.requires.state c.requires.own c.requires.informed in
    let span_fits = f.span_fits in
    let over_fits = f.over_fits in
    let under_fits = f.under_fits in
    let room_fits = f.room_fits in
    let reward_fits = f.reward_fits in
    let units_fits = f.units_fits in
    let raise_fits = f.raise_fits in
    let earned_fits = f.earned_fits in
    let scale_fits = f.scale_fits in
    let sum_fits = f.sum_fits in
    let all_fits = f.all_fits in
    simp (c.span.ensures, c.discount-over.ensures, c.reward.ensures, c.scale_of.ensures.exact, to_z-of_z) f.is
