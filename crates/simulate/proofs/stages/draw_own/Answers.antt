use Rattle.std.proofs.Common.{get_or, length, ap, arith, ◌∙◌}
use Rattle.std.specs.List.{sum}
use Rattle.std.proofs.lemmas.List.FromFn.{length-map-range_with_len}
use Rattle.game_model.specs.Game.{GameData}
use Rattle.alpha_set.specs.Nodes.{no_node, nodes_of}
use Rattle.controller.specs.Certificates.{CertificateData}
use Rattle.simulate.specs.Choices.{place_drawn}
use Rattle.simulate.proofs.Mixed.{own-total, own-weights}
use Rattle.simulate.proofs.stages.draw_own.Goals as goal

pub draw_place-requires-clause-some : goal.draw_place-requires-clause-some
draw_place-requires-clause-some c =
    let g : GameData = c.args.game.now in
    let weights = c.deref-2.ensures.value ∙ c.in_ok-weights.ensures ∙ own-weights g c.args.certificate.now c.args.node _ _ c.requires.stands.fits c.requires.node c.deref.ensures.value (c.node.ensures ∙ ap (λ (k : CertificateData). get_or k.nodes c.args.node no_node) c.certificate.view_is) in
    let total = ap sum weights ∙ own-total g c.args.certificate.now c.args.node c.requires.stands.fits c.requires.node in
    omega (arith, total)

pub draw_place-requires-clause-most : goal.draw_place-requires-clause-most
draw_place-requires-clause-most c =
    let g : GameData = c.args.game.now in
    let weights = c.deref-2.ensures.value ∙ c.in_ok-weights.ensures ∙ own-weights g c.args.certificate.now c.args.node _ _ c.requires.stands.fits c.requires.node c.deref.ensures.value (c.node.ensures ∙ ap (λ (k : CertificateData). get_or k.nodes c.args.node no_node) c.certificate.view_is) in
    let total = ap sum weights ∙ own-total g c.args.certificate.now c.args.node c.requires.stands.fits c.requires.node in
    omega (arith, total)

pub overflow_cast-result : goal.overflow_cast-result
overflow_cast-result c =
    let g : GameData = c.args.game.now in
    let weights = c.deref-2.ensures.value ∙ c.in_ok-weights.ensures ∙ own-weights g c.args.certificate.now c.args.node _ _ c.requires.stands.fits c.requires.node c.deref.ensures.value (c.node.ensures ∙ ap (λ (k : CertificateData). get_or k.nodes c.args.node no_node) c.certificate.view_is) in
    let few = c.law_game.ensures.accepted.shape.own_actions.1 in
    let inside = c.draw_place.ensures.within in
    omega (arith, inside, few, ap length weights ∙ length-map-range_with_len (nodes_of c.args.certificate.now.nodes c.args.node).mix 0 g.shape.own_actions)

pub returns-clause-own : goal.returns-clause-own
returns-clause-own c =
    let g : GameData = c.args.game.now in
    let weights = c.deref-2.ensures.value ∙ c.in_ok-weights.ensures ∙ own-weights g c.args.certificate.now c.args.node _ _ c.requires.stands.fits c.requires.node c.deref.ensures.value (c.node.ensures ∙ ap (λ (k : CertificateData). get_or k.nodes c.args.node no_node) c.certificate.view_is) in
    c.draw_place.ensures.place ∙ ap (place_drawn c.args.draw.now) weights
