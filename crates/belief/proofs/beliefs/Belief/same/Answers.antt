use Rattle.std.proofs.Common.{sym, ◌∙◌}
use Rattle.std.specs.Cmp.{signed_Decides}
use Rattle.std.proofs.lemmas.Slice.Eq.{slice_eq-Decides}
use Rattle.belief.proofs.beliefs.Belief.same.Goals as goal

pub returns : goal.returns
returns c =
    let told = slice_eq-Decides signed_Decides c.parts.result.now c.parts-2.result.now c.eq.result c.eq.ensures in
    (λ yes. sym c.parts.ensures.parts ∙ told.0 yes ∙ c.parts-2.ensures.parts, λ e. told.1 (c.parts.ensures.parts ∙ e ∙ sym c.parts-2.ensures.parts))
