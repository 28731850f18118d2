-- What a stage draws is of the game and of the certificate.
use Rattle.std.proofs.Common.{◌≡◌, ℕ, ◌*◌, ◌^◌, ◌<◌, ◌≤◌, ◌==◌, Bool, true, false, List, length, arith, rules, refl, subst}
use Rattle.std.specs.Prelude.{pos, unsigned_abs, Option, Some, None, IfSome, if◌then◌else◌}
use Rattle.std.specs.List.{sum, sum_by}
use Rattle.std.proofs.lemmas.Int.{ints}
use Rattle.std.proofs.lemmas.List.Sums.{sum-map}
use Rattle.scaled_num.specs.Sums.{below}
use Rattle.scaled_num.proofs.Sums.{each-at}
use Rattle.rand_pcg.specs.Lcg.{Lcg}
use Rattle.hsvi_draw.specs.Draws.{after_draws}
use Rattle.game_model.specs.declared.parts.Landing.{Landing}
use Rattle.game_model.specs.Branches.{Continuation, mix_total}
use Rattle.game_model.specs.Build.{landing_of}
use Rattle.game_model.specs.Game.{GameData, IsGame, IsLanding, row_at}
use Rattle.game_model.proofs.Games.{row-in, row-weights}
use Rattle.alpha_set.specs.Nodes.{nodes_of, steps_at}
use Rattle.point_set.specs.Points.{points_of}
use Rattle.controller.specs.Certificates.{CertificateData, CertificateFits}
use Rattle.controller.proofs.Members.{nodes-keep, points-keep}
use Rattle.simulate.specs.Choices.{place_drawn}
use Rattle.simulate.specs.Plays.{CanPlay, CanStand, informed_drawn, landing_drawn, moved, next_drawn, no_continuation, node_drawn, own_drawn, played_at, point_drawn, row_weights, share_weights, shares_after, step_weights}
use Rattle.simulate.specs.declared.parts.Played.{Played}
use Rattle.simulate.specs.declared.parts.Standing.{Standing}
use Rattle.simulate.proofs.Places.{IsItem, IsSome, drawn-below, drawn-item}

-- ---- the own action
pub mix-sum : (g : GameData) (k : CertificateData) (i : ℕ) → CertificateFits g k → i < length k.nodes → sum_by (nodes_of k.nodes i).mix (below g.shape.own_actions) ≡ mix_total
mix-sum g k i fits l = (nodes-keep g k fits i l).mix_sums

pub own-right : (g : GameData) (k : CertificateData) (i : ℕ) (draws : Lcg) → CertificateFits g k → i < length k.nodes → IsSome (nodes_of k.nodes i).mix g.shape.own_actions (own_drawn g k i draws)
own-right g k i draws fits l = drawn-below draws (nodes_of k.nodes i).mix g.shape.own_actions (omega (arith, mix-sum g k i fits l))

-- ---- the informed action
pub mixes-sum : (g : GameData) (k : CertificateData) (j s : ℕ) → CertificateFits g k → j < length k.points → s < g.shape.states → sum_by ((points_of k.points j).mixes s) (below g.shape.informed_actions) ≡ mix_total
mixes-sum g k j s fits l m = (points-keep g k fits j l).mixes_sum s m

pub informed-point : (g : GameData) (k : CertificateData) (j s : ℕ) (draws : Lcg) → CertificateFits g k → j < length k.points → s < g.shape.states →
    IsSome ((points_of k.points j).mixes s) g.shape.informed_actions (informed_drawn g k (Some j) s draws)
informed-point g k j s draws fits l m = drawn-below draws ((points_of k.points j).mixes s) g.shape.informed_actions (omega (arith, mixes-sum g k j s fits l m))

pub informed-right : (g : GameData) (k : CertificateData) (point : Option ℕ) (s : ℕ) (draws : Lcg) → IsGame g → CertificateFits g k → IfSome point (λ j. j < length k.points) → s < g.shape.states →
    informed_drawn g k point s draws < g.shape.informed_actions
informed-right g k None s draws game fits h m = let some = game.shape.informed_actions.0 in grind (arith, some)
informed-right g k (Some j) s draws game fits h m = (informed-point g k j s draws fits h m).within

-- ---- the landing
pub row-sum : (g : GameData) (s a c : ℕ) → IsGame g → s < g.shape.states → a < g.shape.own_actions → c < g.shape.informed_actions →
    sum_by (λ (l : Landing). unsigned_abs l.weight) (row_at g s a c) ≡ unsigned_abs g.shape.row_total
row-sum g s a c game ls la lc = row-weights g.shape (row_at g s a c) (row-in g game s a c ls la lc)

pub row-some : (g : GameData) → IsGame g → (1 ≤ unsigned_abs g.shape.row_total) × (unsigned_abs g.shape.row_total ≤ 2 ^ 30)
row-some g game =
    let low = game.shape.row_total.0 in
    let high = game.shape.row_total.1 in
    (omega (arith, ints), omega (arith, ints))

pub landing-item : (g : GameData) (s a c : ℕ) (draws : Lcg) → IsGame g → s < g.shape.states → a < g.shape.own_actions → c < g.shape.informed_actions →
    IsItem (λ (l : Landing). unsigned_abs l.weight) (row_at g s a c) (landing_of 0 0 (pos 0)) (place_drawn draws (row_weights (row_at g s a c)))
landing-item g s a c draws game ls la lc =
    drawn-item draws (λ (l : Landing). unsigned_abs l.weight) (row_at g s a c) (landing_of 0 0 (pos 0)) (omega (arith, row-sum g s a c game ls la lc, (row-some g game).0))

pub landing-right : (g : GameData) (s a c : ℕ) (draws : Lcg) → IsGame g → s < g.shape.states → a < g.shape.own_actions → c < g.shape.informed_actions → IsLanding g.shape (landing_drawn (row_at g s a c) draws)
landing-right g s a c draws game ls la lc =
    each-at (IsLanding g.shape) (landing_of 0 0 (pos 0)) (row_at g s a c) (place_drawn draws (row_weights (row_at g s a c))) (row-in g game s a c ls la lc).each (landing-item g s a c draws game ls la lc).within

-- ---- what a stage draws first
pub played-right : (g : GameData) (k : CertificateData) (at : Standing) (draws : Lcg) → IsGame g → CertificateFits g k → CanStand g k at → CanPlay g k at (played_at g k at draws)
played-right g k at draws game fits h =
    let own = own-right g k at.node draws fits h.node in
    let informed = informed-right g k at.point at.state (after_draws 1 draws) game fits h.point h.state in
    let landing = landing-right g at.state (own_drawn g k at.node draws) (informed_drawn g k at.point at.state (after_draws 1 draws)) (after_draws 2 draws) game h.state own.within informed in
    record {
      own = own.within;
      informed = informed;
      seen = landing.seen;
      to = landing.to;
      weight = own.weight;
    }

-- ---- the next node
pub steps-sum : (g : GameData) (k : CertificateData) (at : Standing) (played : Played) → CertificateFits g k → CanStand g k at → CanPlay g k at played →
    sum_by (λ (step : Continuation). step.weight) (steps_at (nodes_of k.nodes at.node) played.own played.seen) ≡ (nodes_of k.nodes at.node).mix played.own
steps-sum g k at played fits h p = (nodes-keep g k fits at.node h.node).steps_sum played.own played.seen p.own p.seen

pub step-item : (g : GameData) (k : CertificateData) (at : Standing) (played : Played) (draws : Lcg) → CertificateFits g k → CanStand g k at → CanPlay g k at played →
    let steps = steps_at (nodes_of k.nodes at.node) played.own played.seen in
    IsItem (λ (step : Continuation). step.weight) steps no_continuation (place_drawn draws (step_weights steps))
step-item g k at played draws fits h p =
    drawn-item draws (λ (step : Continuation). step.weight) (steps_at (nodes_of k.nodes at.node) played.own played.seen) no_continuation (omega (arith, steps-sum g k at played fits h p, p.weight))

pub node-right : (g : GameData) (k : CertificateData) (at : Standing) (played : Played) (draws : Lcg) → CertificateFits g k → CanStand g k at → CanPlay g k at played → node_drawn k at.node played draws < length k.nodes
node-right g k at played draws fits h p =
    let steps : List Continuation = steps_at (nodes_of k.nodes at.node) played.own played.seen in
    each-at (λ (step : Continuation). step.member < length k.nodes) no_continuation steps (place_drawn draws (step_weights steps))
    ((nodes-keep g k fits at.node h.node).named played.own played.seen p.own p.seen) (step-item g k at played draws fits h p).within

-- ---- the next point
pub share-item : (k : CertificateData) (to : ℕ) (shares : List Continuation) (draws : Lcg) → 1 ≤ sum (share_weights k to shares) →
    IsItem (λ (share : Continuation). share.weight * (points_of k.points share.member).belief to) shares no_continuation (place_drawn draws (share_weights k to shares))
share-item k to shares draws h =
    drawn-item draws (λ (share : Continuation). share.weight * (points_of k.points share.member).belief to) shares no_continuation
    (subst (λ (n : ℕ). 1 ≤ n) (sum-map (λ (share : Continuation). share.weight * (points_of k.points share.member).belief to) shares) h)

pub point-right : (g : GameData) (k : CertificateData) (point : Option ℕ) (played : Played) (draws : Lcg) → CertificateFits g k → IfSome point (λ j. j < length k.points) →
    played.own < g.shape.own_actions → played.seen < g.shape.observations → played.to < g.shape.states → IfSome (point_drawn k point played draws) (λ j. j < length k.points)
point-right g k None played draws fits h la lo lt = search rules
point-right g k (Some j) played draws fits h la lo lt = cases (sum weights == 0) refl
  where
    shares : List Continuation
    shares = shares_after k j played

    weights : List ℕ
    weights = share_weights k played.to shares

    cases : (b : Bool) → (sum weights == 0) ≡ b → (if b then played.to else next_drawn shares weights draws) < length k.points
    cases true e = omega (arith, lt, fits.some_points)
    cases false e =
        let some : 1 ≤ sum weights = grind (arith, e) in
        each-at (λ (share : Continuation). share.member < length k.points) no_continuation shares (place_drawn draws weights)
        ((points-keep g k fits j h).named played.own played.seen la lo) (share-item k played.to shares draws some).within

-- ---- where the next stage begins
pub moved-right : (g : GameData) (k : CertificateData) (at : Standing) (played : Played) (draws : Lcg) → CertificateFits g k → CanStand g k at → CanPlay g k at played → CanStand g k (moved k at played draws)
moved-right g k at played draws fits h p = record {
  state = p.to;
  node = node-right g k at played draws fits h p;
  point = point-right g k at.point played (after_draws 1 draws) fits h.point p.own p.seen p.to;
}
