-- The first stage of the play that a seed draws: the plans have the branches of all their starts.
use Rattle.std.proofs.Common.{◌≡◌, ℕ, zero, suc, ◌+◌, ◌*◌, ◌/◌, ◌^◌, ◌<◌, ◌≤◌, ◌==◌, Bool, true, false, List, [], ◌∷◌, length, get_or, map, ap, arith, ne_eqb, refl, sym, subst, ◌∙◌}
use Rattle.std.specs.Prelude.{ℤ, pos, ◌+ℤ◌, ◌*ℤ◌, cond, sum_by, unsigned_abs, Some, if◌then◌else◌}
use Rattle.std.specs.List.{range_with_len}
use Rattle.std.proofs.lemmas.List.{get_or-map, length-map}
use Rattle.std.proofs.lemmas.List.Sums.{sum_by-cons}
use Rattle.rand_pcg.specs.Lcg.{Lcg}
use Rattle.hsvi_draw.specs.Draws.{after_draws, seeded}
use Rattle.game_model.specs.Game.{GameData, IsGame, first_at, numbers}
use Rattle.game_model.specs.Mixed.{mixed_informed, scaled_informed, scaled_own}
use Rattle.game_model.specs.Plan.{InformedPlan, OwnPlan}
use Rattle.game_model.specs.Numbers.{Numbers}
use Rattle.game_model.specs.Play.{Step, gain, no_informed_plan, no_own_plan}
use Rattle.alpha_set.specs.Nodes.{nodes_of}
use Rattle.point_set.specs.Points.{points_of}
use Rattle.controller.specs.Certificates.{CertificateData, CertificateStands}
use Rattle.history_model.specs.Halves.{first_weights, from_total, hold, node_plan, over_total, own, point_plan, reply, reply_item, start, start_item}
use Rattle.history_model.specs.Plans.{own_plan}
use Rattle.history_model.proofs.LowerHalves.{from-positive}
use Rattle.history_model.proofs.UpperHalves.{first-divides, first-positive, multiple-positive}
use Rattle.simulate.specs.DrawnPlays.{EvenIsPlan, IsOwnPlay, drawn_from, drawn_play, even, node_place, nodes_before, point_place, points_before, rival_plan, shown, step_of}
use Rattle.simulate.specs.Plays.{CanPlay, CanStand, begin_draws, begun, draws_over, from_weights, gain_of, member_drawn, move_draws, moved, node_drawn, over_weights, played_at, point_drawn, simulated, start_place, start_point, state_drawn, steps_from}
use Rattle.simulate.specs.Choices.{place_drawn}
use Rattle.simulate.specs.declared.parts.Played.{Played}
use Rattle.simulate.specs.declared.parts.Rival.{Rival}
use Rattle.simulate.specs.declared.parts.Rival.TheVariants.{Points, Uniform}
use Rattle.simulate.specs.declared.parts.Standing.{Standing}
use Rattle.simulate.proofs.Begun.{begun-right, from-sum, over-some, state-right}
use Rattle.simulate.proofs.Leading.{Leads, joined-lead, scaled-lead}
use Rattle.simulate.proofs.Moments.{moved-right, played-right}
use Rattle.simulate.proofs.OwnPlays.{CanAnswer, IsPlayed, can-answer, drawn-played, goes-on, node-leads, point-leads, quotient-some, rival_left, some-product, weight-drawn}
use Rattle.simulate.proofs.Places.{IsItem, drawn-item}

-- ---- the start that is drawn weighs something
single : (f : ℕ × ℤ → ℕ) (starts : List (ℕ × ℤ)) → length starts ≡ 1 → sum_by f starts ≡ f (get_or starts 0 (0, pos 0))
single f [] l = absurd (omega arith)
single f (x ∷ []) l = omega (arith, sum_by-cons f x [])
single f (x ∷ y ∷ rest) l = absurd (omega arith)

pub start-item-drawn : (f : ℕ × ℤ → ℕ) (starts : List (ℕ × ℤ)) (draws : Lcg) → 1 ≤ sum_by f starts → IsItem f starts (0, pos 0) (start_place starts (map f starts) draws)
start-item-drawn f starts draws some = cases (length starts == 1) refl
  where
    cases : (b : Bool) → (length starts == 1) ≡ b → IsItem f starts (0, pos 0) (if b then 0 else place_drawn draws (map f starts))
    cases true e =
        let one : length starts ≡ 1 = grind (arith, e) in
        record { within = omega arith; weight = omega (arith, single f starts one, some) }
    cases false e = drawn-item draws f starts (0, pos 0) some

-- ---- the controller
pub start-leads : (g : GameData) (k : CertificateData) (i : ℕ) (at : Standing) (played : Played) (draws : Lcg) (n : ℕ) → CertificateStands g k → CanStand g k at → CanPlay g k at played →
    IsItem (λ (start : ℕ × ℤ). unsigned_abs start.1) k.start_nodes (0, pos 0) i → (get_or k.start_nodes i (0, pos 0)).0 ≡ at.node →
    Leads (start k (suc n) played.own played.seen) (nodes_before k n i played + node_place k at.node played draws) (0, no_own_plan n)
    (own k (node_drawn k at.node played draws) n (from_total k))
start-leads g k i at played draws n stands h p item e =
    let whole : ℕ = from_total k in
    let branches : ℕ × OwnPlan (suc n) → List (ℕ × OwnPlan n) =
    λ (it : ℕ × OwnPlan (suc n)). map (λ (branch : ℕ × OwnPlan n). (it.0 * branch.0, scaled_own whole n branch.1)) (it.1 played.own played.seen) in
    let items : List (ℕ × OwnPlan (suc n)) = map (start_item k (suc n)) k.start_nodes in
    let weight : ℕ = unsigned_abs (get_or k.start_nodes i (0, pos 0)).1 in
    let is : get_or items i (0, no_own_plan (suc n)) ≡ (weight, node_plan k at.node (suc n)) =
    get_or-map (start_item k (suc n)) k.start_nodes i (0, pos 0) (0, no_own_plan (suc n)) item.within
    ∙ ap (λ (j : ℕ). (weight, node_plan k j (suc n))) e in
    let place : ℕ = node_place k at.node played draws in
    let plan : OwnPlan n = own_plan (nodes_of k.nodes) (node_drawn k at.node played draws) n in
    joined-lead branches items (0, no_own_plan (suc n)) i place (0, no_own_plan n) (scaled_own whole n plan)
    (subst (λ (m : ℕ). i < m) (sym (length-map k.start_nodes (start_item k (suc n)))) item.within)
    (subst (λ (it : ℕ × OwnPlan (suc n)). Leads (branches it) place (0, no_own_plan n) (scaled_own whole n plan)) (sym is)
    (scaled-lead weight (scaled_own whole n) (own_plan (nodes_of k.nodes) at.node (suc n) played.own played.seen) place (0, no_own_plan n) (0, no_own_plan n) plan item.weight
    (node-leads g k at played draws n stands.fits h p)))

-- ---- the splitting strategy
reply-is : (g : GameData) (k : CertificateData) (s n : ℕ) → 1 ≤ first_at g s → reply g k s n ≡ mixed_informed (over_total g k) n (map (reply_item g k s n) k.start_points)
reply-is g k s n some =
    ap (λ (b : Bool). cond b (hold g k s s n (over_total g k)) (mixed_informed (over_total g k) n (map (reply_item g k s n) k.start_points)))
    (ne_eqb (first_at g s) 0 (λ e. omega (arith, e, some)))

part-some : (g : GameData) (s : ℕ) → s < g.shape.states → 1 ≤ first_at g s → 1 ≤ first_weights g / first_at g s
part-some g s ls some =
    quotient-some (first_at g s) (first_weights g / first_at g s) (first_weights g) (first-divides g s ls (λ e. omega (arith, e, some))) (first-positive g)

pub over-positive : (g : GameData) (k : CertificateData) → CertificateStands g k → 1 ≤ over_total g k
over-positive g k stands = some-product (unsigned_abs k.multiple) (first_weights g) (multiple-positive g k stands) (first-positive g)

pub reply-leads : (g : GameData) (k : CertificateData) (i s point : ℕ) (played : Played) (draws : Lcg) (n : ℕ) → CertificateStands g k → s < g.shape.states → 1 ≤ first_at g s →
    IsItem (λ (start : ℕ × ℤ). unsigned_abs start.1 * (points_of k.points start.0).belief s) k.start_points (0, pos 0) i → (get_or k.start_points i (0, pos 0)).0 ≡ point →
    CanAnswer k (Some point) s played.informed → played.own < g.shape.own_actions → played.seen < g.shape.observations → played.to < g.shape.states →
    Leads (reply g k s (suc n) played.informed played.own played.seen played.to) (points_before g k Points s n i played + point_place k (Some point) played draws) (0, no_informed_plan n)
    (rival_left g k (point_drawn k (Some point) played draws) played.to n (over_total g k))
reply-leads g k i s point played draws n stands ls some item e can la lo lt =
    let whole : ℕ = over_total g k in
    let branches : ℕ × InformedPlan (suc n) → List (ℕ × InformedPlan n) =
    λ (it : ℕ × InformedPlan (suc n)). map (λ (branch : ℕ × InformedPlan n). (it.0 * branch.0, scaled_informed whole n branch.1)) (it.1 played.informed played.own played.seen played.to) in
    let items : List (ℕ × InformedPlan (suc n)) = map (reply_item g k s (suc n)) k.start_points in
    let drawn : ℕ × ℤ = get_or k.start_points i (0, pos 0) in
    let weight : ℕ = unsigned_abs drawn.1 * (points_of k.points drawn.0).belief s * (first_weights g / first_at g s) in
    let is : get_or items i (0, no_informed_plan (suc n)) ≡ (weight, point_plan g k point s (suc n)) =
    get_or-map (reply_item g k s (suc n)) k.start_points i (0, pos 0) (0, no_informed_plan (suc n)) item.within
    ∙ ap (λ (j : ℕ). (weight, point_plan g k j s (suc n))) e in
    let place : ℕ = point_place k (Some point) played draws in
    let left : InformedPlan n = rival_left g k (point_drawn k (Some point) played draws) played.to n whole in
    let inner = point-leads g k point s played draws n stands can.0 la lo lt can.1 in
    subst (λ (tau : InformedPlan (suc n)). Leads (tau played.informed played.own played.seen played.to) (points_before g k Points s n i played + place) (0, no_informed_plan n) left)
    (sym (reply-is g k s (suc n) some))
    (joined-lead branches items (0, no_informed_plan (suc n)) i place (0, no_informed_plan n) left
    (subst (λ (m : ℕ). i < m) (sym (length-map k.start_points (reply_item g k s (suc n)))) item.within)
    (subst (λ (it : ℕ × InformedPlan (suc n)). Leads (branches it) place (0, no_informed_plan n) left) (sym is)
    (scaled-lead weight (scaled_informed whole n) (point_plan g k point s (suc n) played.informed played.own played.seen played.to) place (0, no_informed_plan n) (0, no_informed_plan n)
    _ (some-product _ _ item.weight (part-some g s ls some)) inner)))

-- ---- the rival's first stage
pub answer-leads : (g : GameData) (k : CertificateData) (against : Rival) (s : ℕ) (draws : Lcg) (played : Played) (later : Lcg) (n : ℕ) → CertificateStands g k → s < g.shape.states → 1 ≤ first_at g s →
    CanAnswer k (start_point k against s draws) s played.informed → played.own < g.shape.own_actions → played.seen < g.shape.observations → played.to < g.shape.states →
    Leads (rival_plan g k against s (suc n) played.informed played.own played.seen played.to)
    (points_before g k against s n (start_place k.start_points (over_weights k s) draws) played + point_place k (start_point k against s draws) played later) (0, no_informed_plan n)
    (rival_left g k (point_drawn k (start_point k against s draws) played later) played.to n (over_total g k))
answer-leads g k Uniform s draws played later n stands ls some can la lo lt = record {
  within = omega arith;
  weight = omega arith;
  plan = refl;
}
answer-leads g k Points s draws played later n stands ls some can la lo lt =
    reply-leads g k (start_place k.start_points (over_weights k s) draws) s (member_drawn k.start_points (over_weights k s) draws) played later n stands ls some
    (start-item-drawn (λ (start : ℕ × ℤ). unsigned_abs start.1 * (points_of k.points start.0).belief s) k.start_points draws (over-some g k s stands ls some))
    refl can la lo lt

-- ---- the whole play
pub own-played : (g : GameData) (k : CertificateData) (seed n : ℕ) (against : Rival) → IsGame g → CertificateStands g k →
    IsPlayed (numbers g) n (state_drawn g (seeded seed)) (start k n) (rival_plan g k against (state_drawn g (seeded seed)) n) (drawn_play g k seed n against)
own-played g k seed zero against game stands = record { play = tt; weight = omega arith }
own-played g k seed (suc n) against game stands =
    let draws : Lcg = seeded seed in
    let at : Standing = begun g k against draws in
    let first : Lcg = after_draws (begin_draws k against) draws in
    let state = state-right g draws game in
    let h = begun-right g k against draws game stands in
    let played : Played = played_at g k at first in
    let later : Lcg = after_draws 3 first in
    let p = played-right g k at first game stands.fits h in
    let i : ℕ = start_place k.start_nodes (from_weights k) (after_draws 1 draws) in
    let second : Lcg = after_draws (1 + draws_over k.start_nodes) draws in
    let j : ℕ = start_place k.start_points (over_weights k at.state) second in
    goes-on (numbers g) n at.state (start k (suc n)) (rival_plan g k against at.state (suc n))
    (step_of played (nodes_before k n i played + node_place k at.node played later) (points_before g k against at.state n j played + point_place k at.point played (after_draws 1 later)))
    (drawn_from g k n (moved k at played later) (after_draws (move_draws k at played) later))
    (own k (node_drawn k at.node played later) n (from_total k)) (rival_left g k (point_drawn k at.point played (after_draws 1 later)) played.to n (over_total g k))
    p.own p.informed p.seen p.to (weight-drawn g k at first game stands.fits h)
    (start-leads g k i at played later n stands h p
    (start-item-drawn (λ (start : ℕ × ℤ). unsigned_abs start.1) k.start_nodes (after_draws 1 draws) (from-sum k g stands.fits).0) refl)
    (answer-leads g k against at.state second played (after_draws 1 later) n stands state.within state.weight
    (can-answer g k at.point at.state (after_draws 1 first) stands.fits h.point h.state) p.own p.seen p.to)
    (drawn-played g k n (moved k at played later) (after_draws (move_draws k at played) later) (from_total k) (over_total g k) game stands (moved-right g k at played later stands.fits h p)
    (from-positive g k stands) (over-positive g k stands))

-- ---- what the play shows, and what it gains
shown-from : (g : GameData) (k : CertificateData) (n : ℕ) (at : Standing) (draws : Lcg) → shown at.state (drawn_from g k n at draws) ≡ steps_from g k n at draws
shown-from g k zero at draws = refl
shown-from g k (suc n) at draws =
    let played : Played = played_at g k at draws in
    let later : Lcg = after_draws 3 draws in
    ap (λ (rest : List Played). played ∷ rest) (shown-from g k n (moved k at played later) (after_draws (move_draws k at played) later))

pub shown-play : (g : GameData) (k : CertificateData) (seed n : ℕ) (against : Rival) → shown (state_drawn g (seeded seed)) (drawn_play g k seed n against) ≡ simulated g k seed n against
shown-play g k seed zero against = refl
shown-play g k seed (suc n) against =
    let draws : Lcg = seeded seed in
    let at : Standing = begun g k against draws in
    let first : Lcg = after_draws (begin_draws k against) draws in
    let played : Played = played_at g k at first in
    let later : Lcg = after_draws 3 first in
    ap (λ (rest : List Played). played ∷ rest) (shown-from g k n (moved k at played later) (after_draws (move_draws k at played) later))

shown-long : (s : ℕ) (play : List Step) → length (shown s play) ≡ length play
shown-long s [] = refl
shown-long s (step ∷ rest) = ap suc (shown-long step.to rest)

pub gain-shown : (g : Numbers) (s : ℕ) (play : List Step) → gain g s play ≡ gain_of g (shown s play)
gain-shown g s [] = refl
gain-shown g s (step ∷ rest) =
    let more : ℕ → ℤ → ℤ = λ (n : ℕ) (z : ℤ). g.reward s step.own step.informed *ℤ pos (g.discount_under ^ suc n) +ℤ pos g.discount_over *ℤ z in
    ap (λ (n : ℕ). more n (gain g step.to rest)) (sym (shown-long step.to rest)) ∙ ap (λ (z : ℤ). more (length (shown step.to rest)) z) (gain-shown g step.to rest)

pub is-own-play : (g : GameData) (k : CertificateData) (seed n : ℕ) (against : Rival) → IsGame g → CertificateStands g k → IsOwnPlay g k seed n against
is-own-play g k seed n against game stands =
    let h = own-played g k seed n against game stands in
    let shows = shown-play g k seed n against in
    record {
      play = h.play;
      weight = h.weight;
      shows = shows;
      gains = gain-shown (numbers g) (state_drawn g (seeded seed)) (drawn_play g k seed n against) ∙ ap (gain_of (numbers g)) shows;
    }

-- ---- the even plan
ones : (f : ℕ → ℕ) (a n : ℕ) → ((i : ℕ) → f i ≡ 1) → sum_by f (range_with_len a n) ≡ n
ones f a zero h = refl
ones f a (suc n) h = omega (arith, sum_by-cons f a (range_with_len (a + 1) n), h a, ones f (a + 1) n h)

pub even-is_plan : (g : GameData) → IsGame g → EvenIsPlan g
even-is_plan g game zero = tt
even-is_plan g game (suc n) = record {
  some = game.shape.informed_actions.0;
  part = λ c. 1;
  same = λ c a o t lc la lo lt. sum_by-cons (λ (branch : ℕ × InformedPlan n). branch.0) (1, even n) [];
  sums = ones (λ c. 1) 0 g.shape.informed_actions (λ i. refl);
  rest = λ c a o t lc la lo lt. (even-is_plan g game n, tt);
}
