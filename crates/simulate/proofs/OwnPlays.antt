-- The play that a seed draws is one of the certificate's own plans, and weighs something.
use Rattle.std.proofs.Common.{◌≡◌, ◌≢◌, ℕ, zero, suc, ◌*◌, ◌/◌, ◌<◌, ◌≤◌, ◌==◌, ◌&&◌, Bool, true, false, List, [], ◌∷◌, length, get_or, map, arith, eq-eqb, rules, refl, sym, subst, ◌∙◌}
use Rattle.std.specs.Prelude.{pos, cond, unsigned_abs, Option, Some, None, IfSome, if◌then◌else◌}
use Rattle.std.specs.List.{sum}
use Rattle.std.proofs.lemmas.List.Sums.{sum-map, sum_by_more_le}
use Rattle.std.proofs.lemmas.Nat.{mul-le}
use Rattle.rand_pcg.specs.Lcg.{Lcg}
use Rattle.hsvi_draw.specs.Draws.{after_draws}
use Rattle.game_model.specs.declared.parts.Landing.{Landing}
use Rattle.game_model.specs.Branches.{Continuation}
use Rattle.game_model.specs.Build.{landing_of}
use Rattle.game_model.specs.Game.{GameData, IsGame, numbers, row_at, weight_in}
use Rattle.game_model.specs.Mixed.{scaled_informed, scaled_own}
use Rattle.game_model.specs.Numbers.{Numbers}
use Rattle.game_model.specs.Plan.{InformedPlan, OwnPlan}
use Rattle.game_model.specs.Play.{IsPlay, Step, informed_after, no_informed_plan, no_own_plan, own_after, play_weight}
use Rattle.alpha_set.specs.Nodes.{nodes_of, steps_at}
use Rattle.point_set.specs.Points.{mass, points_of}
use Rattle.controller.specs.Certificates.{CertificateData, CertificateFits, CertificateStands}
use Rattle.controller.proofs.Places.{rules as stand_rules}
use Rattle.history_model.specs.Halves.{common, hold, own, point_plan}
use Rattle.history_model.specs.Plans.{own_plan}
use Rattle.history_model.proofs.Splitting.{masses-divide, product-positive}
use Rattle.simulate.specs.DrawnPlays.{drawn_from, even, node_place, point_place, step_of}
use Rattle.simulate.specs.Plays.{CanPlay, CanStand, informed_drawn, move_draws, moved, next_drawn, no_continuation, node_drawn, own_drawn, played_at, point_drawn, row_weights, share_weights, shares_after}
use Rattle.simulate.specs.Choices.{place_drawn}
use Rattle.simulate.specs.declared.parts.Played.{Played}
use Rattle.simulate.specs.declared.parts.Standing.{Standing}
use Rattle.simulate.proofs.Leading.{Leads, items-lead, scaled-lead}
use Rattle.simulate.proofs.Moments.{informed-point, informed-right, landing-item, moved-right, own-right, played-right, share-item, step-item}
use Rattle.simulate.proofs.Places.{IsItem}

-- ---- plays that weigh something
pub record IsPlayed (g : Numbers) (n s : ℕ) (sigma : OwnPlan n) (tau : InformedPlan n) (steps : List Step) : Type 0 where
  pub play : IsPlay g n sigma tau steps
  pub weight : 1 ≤ play_weight g n s sigma tau steps

pub some-product : (x y : ℕ) → 1 ≤ x → 1 ≤ y → 1 ≤ x * y
some-product x y h k = mul-le 1 1 x y h k

pub goes-on : (g : Numbers) (n s : ℕ) (sigma : OwnPlan (suc n)) (tau : InformedPlan (suc n)) (step : Step) (rest : List Step) (left : OwnPlan n) (answer : InformedPlan n) →
    step.own < g.own_actions → step.informed < g.informed_actions → step.seen < g.observations → step.to < g.states → 1 ≤ g.weight s step.own step.informed step.seen step.to →
    Leads (sigma step.own step.seen) step.own_place (0, no_own_plan n) left → Leads (tau step.informed step.own step.seen step.to) step.informed_place (0, no_informed_plan n) answer →
    IsPlayed g n step.to left answer rest → IsPlayed g (suc n) s sigma tau (step ∷ rest)
goes-on g n s sigma tau step rest left answer la lc lo lt weight own informed h =
    let after : IsPlayed g n step.to (own_after n sigma step).1 (informed_after n tau step).1 rest =
    subst (λ (x : OwnPlan n). IsPlayed g n step.to x (informed_after n tau step).1 rest) (sym own.plan)
    (subst (λ (y : InformedPlan n). IsPlayed g n step.to left y rest) (sym informed.plan) h) in
    record {
      play = (la, lc, lo, lt, own.within, informed.within, after.play);
      weight = some-product _ _ (some-product _ _ (some-product _ _ weight own.weight) informed.weight) after.weight;
    }

-- ---- the landing that is drawn weighs something
landed : (row : List Landing) (i : ℕ) (d : Landing) → i < length row → 1 ≤ unsigned_abs (get_or row i d).weight → 1 ≤ weight_in row (get_or row i d).seen (get_or row i d).to
landed row i d l h =
    let x : Landing = get_or row i d in
    let f : Landing → ℕ = λ (y : Landing). cond ((y.seen == x.seen) && (y.to == x.to)) (unsigned_abs y.weight) 0 in
    omega (arith, sum_by_more_le f row i d l, same x.seen x.to (unsigned_abs x.weight), h)
  where
    same : (o t w : ℕ) → cond ((o == o) && (t == t)) w 0 ≡ w
    same o t w = rw (eq-eqb o o refl) (rw (eq-eqb t t refl) refl)

pub weight-drawn : (g : GameData) (k : CertificateData) (at : Standing) (draws : Lcg) → IsGame g → CertificateFits g k → CanStand g k at →
    let played = played_at g k at draws in
    1 ≤ (numbers g).weight at.state played.own played.informed played.seen played.to
weight-drawn g k at draws game fits h =
    let own = own-right g k at.node draws fits h.node in
    let informed = informed-right g k at.point at.state (after_draws 1 draws) game fits h.point h.state in
    let row = row_at g at.state (own_drawn g k at.node draws) (informed_drawn g k at.point at.state (after_draws 1 draws)) in
    let landing = landing-item g at.state (own_drawn g k at.node draws) (informed_drawn g k at.point at.state (after_draws 1 draws)) (after_draws 2 draws) game h.state own.within informed in
    landed row (place_drawn (after_draws 2 draws) (row_weights row)) (landing_of 0 0 (pos 0)) landing.within landing.weight

-- ---- the branch of the drawn node
pub node-leads : (g : GameData) (k : CertificateData) (at : Standing) (played : Played) (draws : Lcg) (n : ℕ) → CertificateFits g k → CanStand g k at → CanPlay g k at played →
    Leads (own_plan (nodes_of k.nodes) at.node (suc n) played.own played.seen) (node_place k at.node played draws) (0, no_own_plan n)
    (own_plan (nodes_of k.nodes) (node_drawn k at.node played draws) n)
node-leads g k at played draws n fits h p =
    let steps : List Continuation = steps_at (nodes_of k.nodes at.node) played.own played.seen in
    let item = step-item g k at played draws fits h p in
    items-lead (λ (step : Continuation). step.weight) (λ (step : Continuation). own_plan (nodes_of k.nodes) step.member n) steps no_continuation
    (node_place k at.node played draws) (0, no_own_plan n) item.within item.weight

pub own-leads : (g : GameData) (k : CertificateData) (at : Standing) (played : Played) (draws : Lcg) (n r : ℕ) → CertificateFits g k → CanStand g k at → CanPlay g k at played → 1 ≤ r →
    Leads (own k at.node (suc n) r played.own played.seen) (node_place k at.node played draws) (0, no_own_plan n) (own k (node_drawn k at.node played draws) n r)
own-leads g k at played draws n r fits h p some =
    scaled-lead r (scaled_own r n) (own_plan (nodes_of k.nodes) at.node (suc n) played.own played.seen) (node_place k at.node played draws) (0, no_own_plan n) (0, no_own_plan n)
    (own_plan (nodes_of k.nodes) (node_drawn k at.node played draws) n) some (node-leads g k at played draws n fits h p)

-- ---- the branch of the drawn point
shared-mass : (g : GameData) (k : CertificateData) (j : ℕ) (played : Played) → CertificateStands g k → j < length k.points →
    played.own < g.shape.own_actions → played.seen < g.shape.observations → played.to < g.shape.states →
    sum (share_weights k played.to (shares_after k j played)) ≡ mass (numbers g) (points_of k.points j) played.own played.seen played.to
shared-mass g k j played stands lj la lo lt =
    sum-map (λ (share : Continuation). share.weight * (points_of k.points share.member).belief played.to) (shares_after k j played)
    ∙ (stand_rules g k stands.holds).split j played.own played.seen played.to lj la lo lt

-- branches as a point has them for a mass: one to the point of the next state where it is 0, else one for each share
abbrev parted : {X : Type 0} → (ℕ → X) → ℕ → ℕ → ℕ → ℕ → (ℕ → ℕ) → List Continuation → List (ℕ × X)
parted plan to z m mix belief shares =
    cond (m == 0) ((mix * z, plan to) ∷ [])
    (map (λ (share : Continuation). (mix * share.weight * belief share.member * (z / m), plan share.member)) shares)

parted-leads : {X : Type 0} (plan : ℕ → X) (to z m mix : ℕ) (belief : ℕ → ℕ) (shares : List Continuation) (place : ℕ) (d : ℕ × X) (b : Bool) → (m == 0) ≡ b → 1 ≤ mix → 1 ≤ z →
    (m ≢ 0 → 1 ≤ z / m) → (m ≢ 0 → IsItem (λ (share : Continuation). share.weight * belief share.member) shares no_continuation place) →
    Leads (cond b ((mix * z, plan to) ∷ []) (map (λ (share : Continuation). (mix * share.weight * belief share.member * (z / m), plan share.member)) shares))
    (if b then 0 else place) d (plan (if b then to else (get_or shares place no_continuation).member))
parted-leads plan to z m mix belief shares place d true e some whole part drawn = record {
  within = omega arith;
  weight = some-product mix z some whole;
  plan = refl;
}
parted-leads plan to z m mix belief shares place d false e some whole part drawn =
    let ne : m ≢ 0 = grind (arith, e) in
    let item = drawn ne in
    let share : Continuation = get_or shares place no_continuation in
    items-lead (λ (share : Continuation). mix * share.weight * belief share.member * (z / m)) (λ (share : Continuation). plan share.member) shares no_continuation place d item.within
    (four mix share.weight (belief share.member) (z / m) some item.weight (part ne))
  where
    four : (a x y q : ℕ) → 1 ≤ a → 1 ≤ x * y → 1 ≤ q → 1 ≤ a * x * y * q
    four a x y q h i j =
        let product = some-product (a * (x * y)) q (some-product a (x * y) h i) j in
        omega (arith, product)

pub quotient-some : (x y z : ℕ) → x * y ≡ z → 1 ≤ z → 1 ≤ y
quotient-some x zero z e h = omega (arith, e, h)
quotient-some x (suc y) z e h = omega arith

pub point-leads : (g : GameData) (k : CertificateData) (j s : ℕ) (played : Played) (draws : Lcg) (n : ℕ) → CertificateStands g k → j < length k.points →
    played.own < g.shape.own_actions → played.seen < g.shape.observations → played.to < g.shape.states → 1 ≤ (points_of k.points j).mixes s played.informed →
    let weights = share_weights k played.to (shares_after k j played) in
    Leads (point_plan g k j s (suc n) played.informed played.own played.seen played.to) (point_place k (Some j) played draws) (0, no_informed_plan n)
    (point_plan g k (if sum weights == 0 then played.to else next_drawn (shares_after k j played) weights draws) played.to n)
point-leads g k j s played draws n stands lj la lo lt some =
    let weights : List ℕ = share_weights k played.to (shares_after k j played) in
    let place : ℕ = place_drawn draws weights in
    let z : ℕ = common g k in
    let plan : ℕ → InformedPlan n = λ (i : ℕ). point_plan g k i played.to n in
    let belief : ℕ → ℕ = λ (i : ℕ). (points_of k.points i).belief played.to in
    let whole : 1 ≤ z = product-positive _ in
    subst (λ (m : ℕ). Leads (parted plan played.to z m ((points_of k.points j).mixes s played.informed) belief (shares_after k j played)) (if sum weights == 0 then 0 else place) (0, no_informed_plan n)
    (plan (if sum weights == 0 then played.to else next_drawn (shares_after k j played) weights draws)))
    (shared-mass g k j played stands lj la lo lt)
    (parted-leads plan played.to z (sum weights) ((points_of k.points j).mixes s played.informed) belief (shares_after k j played) place (0, no_informed_plan n) (sum weights == 0) refl some whole
    (λ ne. part (sum weights) (sym (shared-mass g k j played stands lj la lo lt)) ne whole)
    (λ ne. share-item k played.to (shares_after k j played) draws (positive (sum weights) ne)))
  where
    positive : (x : ℕ) → x ≢ 0 → 1 ≤ x
    positive x ne = omega arith

    part : (m : ℕ) → mass (numbers g) (points_of k.points j) played.own played.seen played.to ≡ m → m ≢ 0 → 1 ≤ common g k → 1 ≤ common g k / m
    part m e ne h =
        quotient-some m (common g k / m) (common g k)
        (subst (λ (x : ℕ). x ≢ 0 → x * (common g k / x) ≡ common g k) e
        (masses-divide (numbers g) (points_of k.points) (length k.points) j played.own played.seen played.to lj la lo lt) ne) h

-- ---- the rival's plan from a stage on
abbrev pub rival_left : GameData → CertificateData → Option ℕ → ℕ → (n : ℕ) → ℕ → InformedPlan n
rival_left g k None s n r = even n
rival_left g k (Some j) s n r = hold g k j s n r

-- a point, if any, whose mix gives something to an informed action
abbrev pub CanAnswer : CertificateData → Option ℕ → ℕ → ℕ → Type 0
CanAnswer k point s c = IfSome point (λ j. (j < length k.points) × (1 ≤ (points_of k.points j).mixes s c))

pub rival-leads : (g : GameData) (k : CertificateData) (point : Option ℕ) (s : ℕ) (played : Played) (draws : Lcg) (n r : ℕ) → CertificateStands g k → CanAnswer k point s played.informed →
    played.own < g.shape.own_actions → played.seen < g.shape.observations → played.to < g.shape.states → 1 ≤ r →
    Leads (rival_left g k point s (suc n) r played.informed played.own played.seen played.to) (point_place k point played draws) (0, no_informed_plan n)
    (rival_left g k (point_drawn k point played draws) played.to n r)
rival-leads g k None s played draws n r stands h la lo lt some = record {
  within = omega arith;
  weight = omega arith;
  plan = refl;
}
rival-leads g k (Some j) s played draws n r stands h la lo lt some =
    scaled-lead r (scaled_informed r n) (point_plan g k j s (suc n) played.informed played.own played.seen played.to) (point_place k (Some j) played draws) (0, no_informed_plan n) (0, no_informed_plan n)
    _ some (point-leads g k j s played draws n stands h.0 la lo lt h.1)

pub can-answer : (g : GameData) (k : CertificateData) (point : Option ℕ) (s : ℕ) (draws : Lcg) → CertificateFits g k → IfSome point (λ j. j < length k.points) → s < g.shape.states →
    CanAnswer k point s (informed_drawn g k point s draws)
can-answer g k None s draws fits h ls = search rules
can-answer g k (Some j) s draws fits h ls = (h, (informed-point g k j s draws fits h ls).weight)

-- ---- the play from a stage on
pub drawn-played : (g : GameData) (k : CertificateData) (n : ℕ) (at : Standing) (draws : Lcg) (r v : ℕ) → IsGame g → CertificateStands g k → CanStand g k at → 1 ≤ r → 1 ≤ v →
    IsPlayed (numbers g) n at.state (own k at.node n r) (rival_left g k at.point at.state n v) (drawn_from g k n at draws)
drawn-played g k zero at draws r v game stands h some more = record { play = tt; weight = omega arith }
drawn-played g k (suc n) at draws r v game stands h some more =
    let played : Played = played_at g k at draws in
    let later : Lcg = after_draws 3 draws in
    let p = played-right g k at draws game stands.fits h in
    goes-on (numbers g) n at.state (own k at.node (suc n) r) (rival_left g k at.point at.state (suc n) v)
    (step_of played (node_place k at.node played later) (point_place k at.point played (after_draws 1 later)))
    (drawn_from g k n (moved k at played later) (after_draws (move_draws k at played) later))
    (own k (node_drawn k at.node played later) n r) (rival_left g k (point_drawn k at.point played (after_draws 1 later)) played.to n v)
    p.own p.informed p.seen p.to (weight-drawn g k at draws game stands.fits h)
    (own-leads g k at played later n r stands.fits h p some)
    (rival-leads g k at.point at.state played (after_draws 1 later) n v stands (can-answer g k at.point at.state (after_draws 1 draws) stands.fits h.point h.state) p.own p.seen p.to more)
    (drawn-played g k n (moved k at played later) (after_draws (move_draws k at played) later) r v game stands (moved-right g k at played later stands.fits h p) some more)
