use Rattle.std.proofs.Common.{rules}
use Rattle.std.proofs.lemmas.Int.{to_z-of_z}
use Rattle.std.specs.Prelude.{FitsSigned, Err, IfOk, Ok, Result}
use Rattle.std.specs.Int.{w128}
use Rattle.controller.proofs.Places.{rules as rules_at}
use Rattle.closing.proofs.BetterMembers.{export-better, parts-stand}
use Rattle.closing.proofs.export.exported.Goals as goal

-- what two facts of a value give
both : {X E : Type 0} (r : Result X E) (P Q R : X → Type 0) → IfOk r P → IfOk r Q → ((x : X) → P x → Q x → R x) → IfOk r R
both (Ok x) P Q R p q f = f x p q
both (Err e) P Q R p q f = tt

pub export-requires-clause-start : goal.export-requires-clause-start
export-requires-clause-start c =
    let range : FitsSigned w128 c.certificate.inside.multiple = search rules in
    let stands = rw (← c.certificate.view_is) at c.requires.stands in
    simp (c.deref-2.ensures.value, to_z-of_z) (rules_at c.args.game.now _ stands.holds).start

pub returns : goal.returns
returns c =
    let range : FitsSigned w128 c.certificate.inside.multiple = search rules in
    let stands = rw (← c.certificate.view_is) at c.requires.stands in
    let ends = rw (← c.certificate.view_is) at c.requires.ends in
    let exported = simp (c.deref.ensures.value, c.deref-2.ensures.value, to_z-of_z) at c.export.ensures.exported in
    let standing = simp (c.deref.ensures.value, c.deref-2.ensures.value, to_z-of_z) at c.export.ensures.stands in
    rw (← c.certificate.view_is) (both c.export.result _ _ _ exported (standing (parts-stand c.args.game.now _ stands)) (λ k e s. export-better c.args.game.now _ k stands ends e s))
