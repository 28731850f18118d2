use Rattle.controller.proofs.Places.{rules as rules_at}
use Rattle.closing.proofs.BetterMembers.{members-fit, members-start, round-better, standing-nodes, standing-points}
use Rattle.closing.proofs.GoOn.{nodes-through, points-through}
use Rattle.closing.proofs.rounds.with_visits.Goals as goal

pub visit_all-requires-clause-nodes : goal.visit_all-requires-clause-nodes
visit_all-requires-clause-nodes c = standing-nodes c.args.game.now _ (rw (← c.next.view_is) at c.requires)

pub visit_all-requires-clause-points : goal.visit_all-requires-clause-points
visit_all-requires-clause-points c = standing-points c.args.game.now _ (rw (← c.next.view_is) at c.requires)

pub concluded-requires-clause-fits : goal.concluded-requires-clause-fits
concluded-requires-clause-fits c =
    let stands = rw (← c.next.view_is) at c.requires in
    let nodes = nodes-through c.args.game.now c.next.inside.nodes.members c.visit_all.new.nodes.members c.sweep_nodes.new.nodes.members c.in_ok-visit_all.ensures.nodes c.sweep_nodes.ensures in
    let points = points-through c.args.game.now c.next.inside.points.members c.visit_all.new.points.members c.sweep_points.new.points.members c.in_ok-visit_all.ensures.points c.sweep_points.ensures in
    members-fit c.args.game.now _ c.sweep_nodes.new.nodes.members c.sweep_points.new.points.members stands.fits nodes.are points.are nodes.raised points.lowered

pub concluded-requires-clause-start : goal.concluded-requires-clause-start
concluded-requires-clause-start c =
    let stands = rw (← c.next.view_is) at c.requires in
    let points = points-through c.args.game.now c.next.inside.points.members c.visit_all.new.points.members c.sweep_points.new.points.members c.in_ok-visit_all.ensures.points c.sweep_points.ensures in
    members-start c.args.game.now _ c.sweep_nodes.new.nodes.members c.sweep_points.new.points.members stands.fits (rules_at c.args.game.now _ stands.holds).start points.lowered

pub returns : goal.returns
returns c =
    let stands = rw (← c.next.view_is) at c.requires in
    let nodes = nodes-through c.args.game.now c.next.inside.nodes.members c.visit_all.new.nodes.members c.sweep_nodes.new.nodes.members c.in_ok-visit_all.ensures.nodes c.sweep_nodes.ensures in
    let points = points-through c.args.game.now c.next.inside.points.members c.visit_all.new.points.members c.sweep_points.new.points.members c.in_ok-visit_all.ensures.points c.sweep_points.ensures in
    rw (← c.next.view_is)
    (round-better c.args.game.now _ c.sweep_nodes.new.nodes.members c.sweep_points.new.points.members c.concluded.result stands nodes.are points.are nodes.raised points.lowered c.concluded.ensures.fits c.concluded.ensures.concluded)
