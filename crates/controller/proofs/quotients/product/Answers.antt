use Rattle.std.proofs.lemmas.Int.{to_z-of_z}
use Rattle.controller.proofs.Remainders.{product-fits}
use Rattle.controller.proofs.quotients.product.Goals as goal

pub overflow_mul-result-2 : goal.overflow_mul-result-2
overflow_mul-result-2 c =
    let f = product-fits c.args.a c.args.b c.args.c c.requires.a c.requires.b c.requires.c in
    let a = f.a_fits in
    let b = f.b_fits in
    let last = f.c_fits in
    let inner = f.inner in
    simp to_z-of_z f.product

pub returns-clause-exact : goal.returns-clause-exact
returns-clause-exact c =
    let f = product-fits c.args.a c.args.b c.args.c c.requires.a c.requires.b c.requires.c in
    let a = f.a_fits in
    let b = f.b_fits in
    let last = f.c_fits in
    let inner = f.inner in
    let product = f.product in
    simp to_z-of_z

pub returns-clause-small : goal.returns-clause-small
returns-clause-small c =
    let f = product-fits c.args.a c.args.b c.args.c c.requires.a c.requires.b c.requires.c in
    let a = f.a_fits in
    let b = f.b_fits in
    let last = f.c_fits in
    let inner = f.inner in
    let product = f.product in
    simp to_z-of_z f.within
