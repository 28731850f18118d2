use Rattle.std.proofs.Common.{rules, sym, ◌∙◌}
use Rattle.std.specs.Prelude.{FitsSigned}
use Rattle.std.specs.Int.{w128}
use Rattle.std.proofs.lemmas.Int.{to_z-of_z}
use Rattle.cert_check.proofs.bounds.is_upper.Goals as goal

pub returns : goal.returns
returns c =
    let multiple_fits : FitsSigned w128 c.certificate.inside.multiple = search rules in
    let bound = simp (c.deref.ensures.value, to_z-of_z) at c.upper_bound-bound.ensures in
    rw (← c.certificate.view_is) (
      λ t. let same = c.is_same.ensures.0 t in (same.0 ∙ bound.0, same.1 ∙ bound.1),
      λ h. c.is_same.ensures.1 (h.0 ∙ sym bound.0, h.1 ∙ sym bound.1),
    )
