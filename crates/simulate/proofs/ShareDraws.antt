-- The next point, as it is drawn over shares.
use Rattle.std.proofs.Common.{◌≡◌, ◌≢◌, ℕ, ◌*◌, ◌<◌, Bool, List, length, get_or, map, filter, ap, eq-eqb, ne_eqb, sym, subst, ◌∙◌}
use Rattle.std.specs.Prelude.{unsigned_abs, Some, if◌then◌else◌}
use Rattle.std.specs.List.{sum}
use Rattle.std.proofs.lemmas.List.{length-map}
use Rattle.rand_pcg.specs.Lcg.{Lcg}
use Rattle.hsvi_draw.specs.Draws.{after_draws}
use Rattle.hsvi_draw.proofs.Positions.{after_draws-zero}
use Rattle.game_model.specs.Branches.{Continuation, branch_of}
use Rattle.game_model.specs.declared.branches.Branch.{Branch as BranchParts}
use Rattle.point_set.specs.Members.{IsAfter}
use Rattle.point_set.specs.Points.{PointData, no_point, points_of}
use Rattle.controller.specs.Certificates.{CertificateData}
use Rattle.simulate.specs.Choices.{place_drawn}
use Rattle.simulate.specs.Plays.{next_drawn, no_continuation, point_drawn, share_draws, share_weights, shares_after}
use Rattle.simulate.specs.declared.parts.Played.{Played}
use Rattle.simulate.proofs.Branches.{brought-same, continued, member-at, shares-are}

pub record AreDrawn (k : CertificateData) (j : ℕ) (played : Played) (shares : List BranchParts) (weights : List ℕ) : Type 0 where
  pub are : continued shares ≡ shares_after k j played
  pub is : weights ≡ share_weights k played.to (shares_after k j played)
  pub same : length weights ≡ length shares

pub are-drawn : (k : CertificateData) (j : ℕ) (played : Played) (points : List PointData) (point : PointData) (xs shares : List BranchParts) (weights : List ℕ) → points ≡ k.points →
    map branch_of xs ≡ point.splits → point ≡ get_or points j no_point → shares ≡ filter (IsAfter played.own played.seen) xs →
    weights ≡ map (λ (b : BranchParts). unsigned_abs b.weight * (points_of points b.k).belief played.to) shares → AreDrawn k j played shares weights
are-drawn k j played points point xs shares weights same splits at e w =
    let are = shares-are k j played.own played.seen point xs shares splits (at ∙ ap (λ (ps : List PointData). get_or ps j no_point) same) e in
    record {
      are = are;
      is = w ∙ ap (λ (ps : List PointData). map (λ (b : BranchParts). unsigned_abs b.weight * (points_of ps b.k).belief played.to) shares) same
          ∙ brought-same k played.to shares ∙ ap (share_weights k played.to) are;
      same = ap length w ∙ length-map shares (λ (b : BranchParts). unsigned_abs b.weight * (points_of points b.k).belief played.to);
    }

-- where nothing is brought
pub zero-point : (k : CertificateData) (j : ℕ) (played : Played) (shares : List BranchParts) (weights : List ℕ) (draws : Lcg) → AreDrawn k j played shares weights → sum weights ≡ 0 →
    Some played.to ≡ point_drawn k (Some j) played draws
zero-point k j played shares weights draws h e =
    let all : List Continuation = shares_after k j played in
    let ws : List ℕ = share_weights k played.to all in
    sym (ap (λ (b : Bool). Some (if b then played.to else next_drawn all ws draws)) (eq-eqb (sum ws) 0 (ap sum (sym h.is) ∙ e)))

pub zero-draws : (k : CertificateData) (j : ℕ) (played : Played) (shares : List BranchParts) (weights : List ℕ) (draws : Lcg) → AreDrawn k j played shares weights → sum weights ≡ 0 →
    draws ≡ after_draws (share_draws k (Some j) played) draws
zero-draws k j played shares weights draws h e =
    sym (ap (λ (b : Bool). after_draws (if b then 0 else 1) draws) (eq-eqb (sum (share_weights k played.to (shares_after k j played))) 0 (ap sum (sym h.is) ∙ e)) ∙ after_draws-zero draws)

-- where something is
pub some-point : (k : CertificateData) (j : ℕ) (played : Played) (shares : List BranchParts) (weights : List ℕ) (draws : Lcg) (i : ℕ) (d : BranchParts) → AreDrawn k j played shares weights → sum weights ≢ 0 →
    i ≡ place_drawn draws weights → i < length weights → Some (get_or shares i d).k ≡ point_drawn k (Some j) played draws
some-point k j played shares weights draws i d h ne e l =
    let all : List Continuation = shares_after k j played in
    let ws : List ℕ = share_weights k played.to all in
    ap Some (member-at shares i d (subst (λ (n : ℕ). i < n) h.same l) ∙ ap (λ (cs : List Continuation). (get_or cs i no_continuation).member) h.are
    ∙ ap (λ (n : ℕ). (get_or all n no_continuation).member) (e ∙ ap (place_drawn draws) h.is))
    ∙ sym (ap (λ (b : Bool). Some (if b then played.to else next_drawn all ws draws)) (ne_eqb (sum ws) 0 (λ z. ne (ap sum h.is ∙ z))))

pub some-draws : (k : CertificateData) (j : ℕ) (played : Played) (shares : List BranchParts) (weights : List ℕ) (draws : Lcg) → AreDrawn k j played shares weights → sum weights ≢ 0 →
    after_draws 1 draws ≡ after_draws (share_draws k (Some j) played) draws
some-draws k j played shares weights draws h ne =
    sym (ap (λ (b : Bool). after_draws (if b then 0 else 1) draws) (ne_eqb (sum (share_weights k played.to (shares_after k j played))) 0 (λ z. ne (ap sum h.is ∙ z))))
