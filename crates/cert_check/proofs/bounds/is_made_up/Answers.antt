use Rattle.std.proofs.Common.{List, ◌^◌, ◌<◌, ◌≡◌, ◌∙◌, ap, arith, get_or, nat_eq, of_z, rules, sym, subst, ℕ}
use Rattle.std.specs.Bool.{IsTrue}
use Rattle.std.specs.Prelude.{ℤ, pos, FitsSigned, ◌*ℤ◌}
use Rattle.scaled_num.specs.Share.{at}
use Rattle.point_set.specs.Corners.{point_at}
use Rattle.controller.specs.Starts.{weighted}
use Rattle.std.specs.Int.{w128}
use Rattle.std.proofs.lemmas.Int.{to_z-of_z}
use Rattle.scaled_num.proofs.Sums.{each-at}
use Rattle.game_model.specs.Game.{GameData, IsWithin}
use Rattle.controller.proofs.Gap.{within-wider}
use Rattle.cert_check.proofs.bounds.is_made_up.Goals as goal

pub times-requires-clause-multiple : goal.times-requires-clause-multiple
times-requires-clause-multiple c =
    let fits = rw (← c.certificate.view_is) at c.requires.fits in
    let multiple_fits : FitsSigned w128 c.certificate.inside.multiple = search rules in
    simp to_z-of_z (within-wider c.certificate.inside.multiple 1 65536 (2 ^ 20) (omega arith) fits.starts.multiple)

pub times-requires-clause-weight : goal.times-requires-clause-weight
times-requires-clause-weight c =
    let g : GameData = c.args.game.now in
    let accepted = c.law_game.ensures.accepted in
    let weight : IsWithin (pos 0) (pos (2 ^ 20)) (get_or g.first c.args.s (pos 0)) =
    each-at (IsWithin (pos 0) (pos (2 ^ 20))) (pos 0) g.first c.args.s accepted.first.each (subst (λ (n : ℕ). c.args.s < n) (sym accepted.first.long) c.requires.state) in
    let here : IsWithin (pos 0) (pos (2 ^ 20)) (get_or c.first.result.now c.args.s (pos 0)) = subst (λ (xs : List ℤ). IsWithin (pos 0) (pos (2 ^ 20)) (get_or xs c.args.s (pos 0))) (sym c.first.ensures) weight in
    let weight_fits : FitsSigned w128 (get_or c.first.result.now c.args.s (pos 0)) = search rules in
    simp to_z-of_z here

pub returns : goal.returns
returns c =
    let k = c.certificate.inside in
    let multiple_fits : FitsSigned w128 k.multiple = search rules in
    let weight_fits : FitsSigned w128 (get_or c.first.result.now c.args.s (pos 0)) = search rules in
    let product = simp to_z-of_z at c.times.ensures in
    let made = product ∙ ap (λ (xs : List ℤ). k.multiple *ℤ get_or xs c.args.s (pos 0)) c.first.ensures in
    let brought = c.start_mass-brought.ensures ∙ ap (λ (starts : List (ℕ × ℤ)). weighted starts (λ j. at (point_at k.points.members j).belief c.args.s)) c.deref.ensures.value in
    let yes : IsTrue (nat_eq (of_z w128 c.start_mass-brought.result) (of_z w128 c.times.result)) → c.start_mass-brought.result ≡ c.times.result = λ t. search rules in
    let no : c.start_mass-brought.result ≡ c.times.result → IsTrue (nat_eq (of_z w128 c.start_mass-brought.result) (of_z w128 c.times.result)) = λ e. search rules in
    rw (← c.certificate.view_is) (
      λ t. sym brought ∙ yes t ∙ made,
      λ h. no (brought ∙ h ∙ sym made),
    )
