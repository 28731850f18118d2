-- The export of parts is one: which members are kept is one, and the rest follows from it.
use Rattle.std.proofs.Common.{◌≡◌, ℕ, Bool, true, false, List, refl, ap, sym, ◌∙◌}
use Rattle.std.proofs.Math.Path.{fun_ext}
use Rattle.std.specs.Prelude.{IsTrue}
use Rattle.controller.specs.Certificates.{CertificateData}
use Rattle.controller.specs.Export.{AreKept, ExportsAreOne, parts_kept}
use Rattle.controller.specs.Parts.{proved_lower, proved_tail, proved_upper, with_bounds}
use Rattle.game_model.specs.Branches.{Branch}

same-truth : (a b : Bool) → (IsTrue a → IsTrue b) → (IsTrue b → IsTrue a) → a ≡ b
same-truth true true f h = refl
same-truth false false f h = refl
same-truth true false f h = sym (f refl)
same-truth false true f h = h refl

kept-one : (branches : ℕ → List Branch) (IsFirst : ℕ → Type 0) (count : ℕ) (kept other : ℕ → Bool) → AreKept branches IsFirst count kept → AreKept branches IsFirst count other → kept ≡ other
kept-one branches IsFirst count kept other h m =
    fun_ext (λ j. same-truth (kept j) (other j) (λ t. (m j).1 ((h j).0 t)) (λ t. (h j).1 ((m j).0 t)))

pub exports-one : ExportsAreOne
exports-one g parts k other e o =
    let made : (ℕ → Bool) → (ℕ → Bool) → CertificateData =
    λ nodes points. with_bounds (parts_kept nodes points parts) (proved_lower g parts) (proved_upper g parts) (proved_tail g) in
    let nodes : e.nodes ≡ o.nodes = kept-one _ _ _ e.nodes o.nodes e.nodes_reached o.nodes_reached in
    let points : e.points ≡ o.points = kept-one _ _ _ e.points o.points e.points_reached o.points_reached in
    e.same ∙ ap (λ (n : ℕ → Bool). made n e.points) nodes ∙ ap (made o.nodes) points ∙ sym o.same
