use Rattle.std.proofs.Common.{◌≡◌, ◌<◌, ◌*ℤ◌, length, ap, FitsSigned, to_z-of_z, rules}
use Rattle.std.specs.Int.{w128}
use Rattle.simplex.specs.Reading.{IsDual}
use Rattle.simplex.specs.Dictionary.{Dictionary}
use Rattle.simplex.specs.Solver.{State}
use Rattle.simplex.specs.Tableau.{cost_form_of}
use Rattle.simplex.proofs.Standing.{has_run_of, said, say, dual_of}
use Rattle.simplex.proofs.solver.Solver.dual.Goals as goal

pub price-requires-clause-standing : goal.price-requires-clause-standing
price-requires-clause-standing c = c.self.invariant.standing (has_run_of _ _ _ (ap (λ (s : State). s.last) c.self.view_is) c.requires.last)

pub goal_lead-requires : goal.goal_lead-requires
goal_lead-requires c = c.self.invariant.standing (has_run_of _ _ _ (ap (λ (s : State). s.last) c.self.view_is) c.requires.last)

pub returns : goal.returns
returns c =
    let view = ap (λ (s : State). s.last) c.self.view_is in
    let f1 : FitsSigned w128 c.price.result = search rules in
    let f2 : FitsSigned w128 c.goal_lead.result = search rules in
    let read = simp to_z-of_z at c.lowest.ensures.same in
    let same : c.lowest.result.0 *ℤ c.goal_lead.result ≡ c.price.result *ℤ c.lowest.result.1 = search rules in
    say (λ (d : Dictionary). IsDual d c.args.i c.lowest.result.0 c.lowest.result.1) _ _ _ view
    (dual_of (cost_form_of c.self.inside.tableau) c.args.i c.price.result c.goal_lead.result c.lowest.result.0 c.lowest.result.1
    (c.self.invariant.standing (has_run_of _ _ _ view c.requires.last))
    (said (λ (d : Dictionary). c.args.i < length d.basic) _ _ _ view c.requires.last c.requires.row)
    c.price.ensures.price c.goal_lead.ensures.lead c.lowest.ensures.lowest same)
