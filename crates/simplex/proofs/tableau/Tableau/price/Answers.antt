use Rattle.std.proofs.Common.{◌≡◌, ◌<◌, ◌+◌, ℕ, List, length, slice_index, ap, subst, ◌∙◌, arith, FitsSigned, to_z-of_z, rules}
use Rattle.std.specs.Int.{w128}
use Rattle.simplex.specs.CostForm.{entry}
use Rattle.simplex.specs.Tableau.{cost_form_of}
use Rattle.simplex.proofs.ReadAt.{read_price}
use Rattle.simplex.proofs.tableau.Tableau.price.Goals as goal

pub returns-in-Some-clause-price : goal.returns-in-Some-clause-price
returns-in-Some-clause-price c =
    let d = cost_form_of c.args.self.now in
    let q : ℕ = c.in-Some.place in
    let f1 : FitsSigned w128 c.number.result = search rules in
    let out_len : c.len.result ≡ length c.args.self.now.out.items = (let a = c.len.ensures in let b = c.args.self.now.out.ok.0 in omega arith) in
    let basic_len : c.len-in-Some.result ≡ length c.args.self.now.basic.items = (let a = c.len-in-Some.ensures in let b = c.args.self.now.basic.ok.0 in omega arith) in
    let place : slice_index c.args.self.now.out.items q ≡ length c.args.self.now.out.items + c.args.row =
    subst (λ (l : List ℕ). slice_index l q ≡ c.len.result + c.args.row) c.deref.ensures.value c.in-Some.ensures.there ∙ ap (λ (n : ℕ). n + c.args.row) out_len in
    let inside : q < length c.args.self.now.out.items = subst (λ (l : List ℕ). q < length l) c.deref.ensures.value c.in-Some.ensures.inside in
    read_price c.requires.standing.p d c.args.row q _ c.requires.standing.dictionary inside place
    (to_z-of_z {w = w128} f1 ∙ c.number.ensures.value ∙ ap (λ (k : ℕ). entry d k (q + 2)) basic_len)
