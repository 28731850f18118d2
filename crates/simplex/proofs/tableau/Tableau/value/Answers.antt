use Rattle.std.proofs.Common.{◌≡◌, ◌≢◌, ◌<◌, ◌*ℤ◌, ℕ, ℤ, List, length, slice_index, ap, sym, subst, ◌∙◌, FitsSigned, to_z-of_z, rules}
use Rattle.std.specs.Int.{w128}
use Rattle.simplex.specs.Tableau.{cost_form_of}
use Rattle.simplex.proofs.ReadAt.{read_primal, read_nothing}
use Rattle.simplex.proofs.tableau.Tableau.value.Goals as goal

pub returns-in-Some : goal.returns-in-Some
returns-in-Some c =
    let d = cost_form_of c.args.self.now in
    let k : ℕ = c.in-Some.row in
    let f1 : FitsSigned w128 c.number.result = search rules in
    let f2 : FitsSigned w128 c.number-in-Some.result = search rules in
    let e = c.in-Some.ensures in
    let place : slice_index c.args.self.now.basic.items k ≡ c.args.variable = subst (λ (l : List ℕ). slice_index l k ≡ c.args.variable) c.deref.ensures.value c.in-Some.ensures.there in
    let inside : k < length c.args.self.now.basic.items = subst (λ (l : List ℕ). k < length l) c.deref.ensures.value c.in-Some.ensures.inside in
    read_primal c.requires.p d c.args.variable k c.lowest.result.0 c.lowest.result.1 c.requires.dictionary inside place c.lowest.ensures.lowest
    (ap (λ (y : ℤ). c.lowest.result.0 *ℤ y) (sym c.number-in-Some.ensures.value) ∙ simp to_z-of_z at c.lowest.ensures.same ∙ ap (λ (y : ℤ). y *ℤ c.lowest.result.1) c.number.ensures.value)

pub returns-in-None : goal.returns-in-None
returns-in-None c = read_nothing (cost_form_of c.args.self.now) c.args.variable (subst (λ (l : List ℕ). (k : ℕ) → k < length l → slice_index l k ≢ c.args.variable) c.deref.ensures.value c.in-None.ensures.none)
