use Rattle.std.proofs.Common.{◌≡◌, ℕ, ◌<◌, ap, arith, below_more, length, refl}
use Rattle.std.specs.List.{AllByRecursion}
use Rattle.game_model.specs.Game.{GameData}
use Rattle.controller.specs.Certificates.{CertificateData, Holds, NodeAt}
use Rattle.scaled_num.proofs.First.{all-flat, first-flat}
use Rattle.cert_check.proofs.Fits.{nodes-in-sets, steps-named}
use Rattle.cert_check.proofs.Order.{node-fails, node-stands, places_of_node}
use Rattle.cert_check.proofs.members.first_node.Goals as goal

pub stands-requires : goal.stands-requires
stands-requires c =
    let k : CertificateData = c.args.certificate.now in
    let same : c.certificate.inside.nodes.members ≡ k.nodes = ap (λ (k : CertificateData). k.nodes) c.certificate.view_is in
    let inside : c.loop-i.i < length k.nodes = omega (arith, ap length same, c.len-i-end.ensures.count) in
    rw same (record { member = inside; fits = nodes-in-sets c.args.game.now k c.requires; named = steps-named c.args.game.now k c.requires c.loop-i.i inside })

pub returns-in-Some-clause-first : goal.returns-in-Some-clause-first
returns-in-Some-clause-first c =
    let k : CertificateData = c.args.certificate.now in
    let g : GameData = c.args.game.now in
    let same : c.certificate.inside.nodes.members ≡ k.nodes = ap (λ (k : CertificateData). k.nodes) c.certificate.view_is in
    let inside : c.loop-i.i < length k.nodes = omega (arith, ap length same, c.len-i-end.ensures.count) in
    let fails = rw same at c.in-Some.ensures.first in
    first-flat (Holds g k) (places_of_node g) (length k.nodes) c.loop-i.i (NodeAt c.loop-i.i c.in-Some.s c.in-Some.c) inside c.loop-i.invariant
    (node-fails g k c.loop-i.i (c.in-Some.s, c.in-Some.c) fails)

pub loop-i-preserved : goal.loop-i-preserved
loop-i-preserved c =
    let k : CertificateData = c.args.certificate.now in
    let g : GameData = c.args.game.now in
    let same : c.certificate.inside.nodes.members ≡ k.nodes = ap (λ (k : CertificateData). k.nodes) c.certificate.view_is in
    let stand = rw same at c.in_default.ensures.none in
    below_more (λ (m : ℕ). AllByRecursion (Holds g k) (places_of_node g m)) c.loop-i.i c.loop-i.invariant (node-stands g k c.loop-i.i (stand.0 refl))

pub returns-clause-none : goal.returns-clause-none
returns-clause-none c = λ none.
    let k : CertificateData = c.args.certificate.now in
    let g : GameData = c.args.game.now in
    let same : c.certificate.inside.nodes.members ≡ k.nodes = ap (λ (k : CertificateData). k.nodes) c.certificate.view_is in
    all-flat (Holds g k) (places_of_node g) (length k.nodes) (λ m lm. c.loop-i.invariant m (omega (arith, ap length same, c.len-i-end.ensures.count)))
