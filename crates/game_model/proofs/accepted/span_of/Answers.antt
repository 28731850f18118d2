use Rattle.std.proofs.Common.{rules}
use Rattle.std.specs.Prelude.{FitsSigned}
use Rattle.std.specs.Int.{w128}
use Rattle.std.proofs.lemmas.Int.{to_z-of_z}
use Rattle.game_model.proofs.Ceil.{span-is, span-fits}
use Rattle.game_model.proofs.accepted.span_of.Goals as goal

pub returns : goal.returns
returns c =
    let fits = span-fits c.args.shape.now c.args.most c.requires.shape c.requires.low c.requires.high in
    let m_fits : FitsSigned w128 c.args.most = c.ranges.most in
    let w_fits : FitsSigned w128 c.ceil_div.result = search rules in
    let over = fits.over in
    let under = fits.under in
    let two = fits.two in
    let three = fits.three in
    let room = fits.room in
    simp to_z-of_z (span-is c.args.shape.now c.args.most c.ceil_div.result c.requires.shape c.requires.low (simp to_z-of_z at c.ceil_div.ensures.high) (simp to_z-of_z at c.ceil_div.ensures.low))
