use Rattle.std.proofs.Common.{◌≡◌, arith, rules, ap, sym, subst, ◌∙◌, of_z}
use Rattle.std.specs.Prelude.{pos, FitsSigned}
use Rattle.std.specs.Int.{w128}
use Rattle.std.proofs.lemmas.Int.{fits_signed_from_abs, ints}
use Rattle.point_set.proofs.Named.{same-bits}
use Rattle.backup.specs.NewPoints.{AreItemsOf}
use Rattle.backup.proofs.NewPoints.{items-of, mass-small, no-items}
use Rattle.backup.proofs.new_points.split_of.Goals as goal

pub sum-requires-clause-most : goal.sum-requires-clause-most
sum-requires-clause-most c = omega (arith, ints, mass-small c.args.points.now.members c.args.mass.now c.requires.measured)

pub returns-then-sum-eq0 : goal.returns-then-sum-eq0
returns-then-sum-eq0 c =
    let fits : FitsSigned w128 c.sum.result = search rules in
    let zero : c.sum.result ≡ pos 0 = same-bits c.sum.result (pos 0) fits (fits_signed_from_abs w128 (pos 0) (omega arith)) c.if-sum-eq0.true in
    subst (AreItemsOf c.args.points.now.members c.args.wanted.now c.args.mass.now) (sym c.new-split.ensures)
    (no-items c.args.points.now.members c.args.wanted.now c.args.mass.now c.requires.measured (sym c.sum.ensures ∙ zero))

pub returns : goal.returns
returns c =
    items-of c.args.points.now.members c.args.wanted.now c.args.mass.now c.split_into.new.out c.requires.measured (λ e. c.if-sum-eq0.false (ap (of_z w128) (c.sum.ensures ∙ e)))
    c.split_into.ensures.split c.split_into.ensures.makes_up c.split_into.ensures.inside c.split_into.ensures.most
