use Rattle.std.proofs.Common.{ℕ, ◌<◌, List, map, get_or, length, ap, arith, subst, ◌∙◌}
use Rattle.std.specs.Prelude.{unsigned_abs}
use Rattle.std.specs.List.{sum}
use Rattle.std.proofs.lemmas.List.{length-map}
use Rattle.std.proofs.lemmas.List.Sums.{sum-map}
use Rattle.game_model.specs.Branches.{Continuation, branch_of}
use Rattle.game_model.specs.declared.branches.Branch.{Branch as BranchParts}
use Rattle.alpha_set.specs.Nodes.{no_node, nodes_of, steps_at}
use Rattle.controller.specs.Certificates.{CertificateData}
use Rattle.simulate.specs.Choices.{place_drawn}
use Rattle.simulate.specs.Plays.{no_continuation, step_weights}
use Rattle.simulate.proofs.Branches.{member-at, mix-small, steps-are, weights-same}
use Rattle.simulate.proofs.Moments.{steps-sum}
use Rattle.simulate.proofs.stages.draw_node.Goals as goal

pub draw_place-requires-clause-some : goal.draw_place-requires-clause-some
draw_place-requires-clause-some c =
    let k : CertificateData = c.args.certificate.now in
    let played = c.args.played.now in
    let are = steps-are k c.args.at.now.node played.own played.seen _ c.deref.result.now c.branches_after-steps.result.now (ap (map branch_of) c.deref.ensures.value)
    (c.node.ensures ∙ ap (λ (m : CertificateData). get_or m.nodes c.args.at.now.node no_node) c.certificate.view_is) c.branches_after-steps.ensures in
    let weights = c.deref-2.ensures.value ∙ c.in_ok-weights.ensures ∙ weights-same c.branches_after-steps.result.now ∙ ap step_weights are in
    let total = ap sum weights ∙ sum-map (λ (step : Continuation). step.weight) (steps_at (nodes_of k.nodes c.args.at.now.node) played.own played.seen)
    ∙ steps-sum c.args.game.now k c.args.at.now played c.requires.stands.fits c.requires.at c.requires.played in
    let some = c.requires.played.weight in
    omega (arith, total, some)

pub draw_place-requires-clause-most : goal.draw_place-requires-clause-most
draw_place-requires-clause-most c =
    let k : CertificateData = c.args.certificate.now in
    let played = c.args.played.now in
    let are = steps-are k c.args.at.now.node played.own played.seen _ c.deref.result.now c.branches_after-steps.result.now (ap (map branch_of) c.deref.ensures.value)
    (c.node.ensures ∙ ap (λ (m : CertificateData). get_or m.nodes c.args.at.now.node no_node) c.certificate.view_is) c.branches_after-steps.ensures in
    let weights = c.deref-2.ensures.value ∙ c.in_ok-weights.ensures ∙ weights-same c.branches_after-steps.result.now ∙ ap step_weights are in
    let total = ap sum weights ∙ sum-map (λ (step : Continuation). step.weight) (steps_at (nodes_of k.nodes c.args.at.now.node) played.own played.seen)
    ∙ steps-sum c.args.game.now k c.args.at.now played c.requires.stands.fits c.requires.at c.requires.played in
    let small = mix-small c.args.game.now k c.args.at.now.node played.own c.requires.stands.fits c.requires.at.node c.requires.played.own in
    omega (arith, total, small)

pub returns-clause-node : goal.returns-clause-node
returns-clause-node c =
    let k : CertificateData = c.args.certificate.now in
    let played = c.args.played.now in
    let steps : List BranchParts = c.branches_after-steps.result.now in
    let are = steps-are k c.args.at.now.node played.own played.seen _ c.deref.result.now c.branches_after-steps.result.now (ap (map branch_of) c.deref.ensures.value)
    (c.node.ensures ∙ ap (λ (m : CertificateData). get_or m.nodes c.args.at.now.node no_node) c.certificate.view_is) c.branches_after-steps.ensures in
    let weights = c.deref-2.ensures.value ∙ c.in_ok-weights.ensures ∙ weights-same c.branches_after-steps.result.now ∙ ap step_weights are in
    let inside : c.draw_place.result < length steps =
    subst (λ (n : ℕ). c.draw_place.result < n) (ap length (c.deref-2.ensures.value ∙ c.in_ok-weights.ensures) ∙ length-map steps (λ (b : BranchParts). unsigned_abs b.weight)) c.draw_place.ensures.within in
    member-at steps c.draw_place.result _ inside
    ∙ ap (λ (cs : List Continuation). (get_or cs c.draw_place.result no_continuation).member) are
    ∙ ap (λ (i : ℕ). (get_or (steps_at (nodes_of k.nodes c.args.at.now.node) played.own played.seen) i no_continuation).member) (c.draw_place.ensures.place ∙ ap (place_drawn c.args.draw.now) weights)
