use Rattle.std.proofs.Common.{rules}
use Rattle.std.specs.Prelude.{FitsSigned}
use Rattle.std.specs.Int.{w128}
use Rattle.std.proofs.lemmas.Int.{to_z-of_z}
use Rattle.controller.proofs.Bounded.{fits-bounded}
use Rattle.controller.proofs.gaps.bounded.Goals as goal

pub upper_bound-upper-requires-clause-made_up : goal.upper_bound-upper-requires-clause-made_up
upper_bound-upper-requires-clause-made_up c =
    let range : FitsSigned w128 c.certificate.inside.multiple = search rules in
    let start = rw (← c.certificate.view_is) at c.requires.start in
    simp (c.deref-2.ensures.value, to_z-of_z) start

pub returns-clause-fits : goal.returns-clause-fits
returns-clause-fits c = fits-bounded c.args.game.now c.args.certificate _ c.law_game.ensures.accepted c.requires.fits c.requires.start (search rules) (search rules)
