use Rattle.std.proofs.Common.{◌≡◌, ◌<◌, ◌+◌, arith, get_or, length, rules, take}
use Rattle.std.specs.Prelude.{pos, FitsSigned}
use Rattle.std.specs.Int.{w128}
use Rattle.std.proofs.lemmas.Int.{to_z-of_z}
use Rattle.alpha_set.proofs.Products.{gathered-put, gathered-skip, mass-low, zero-from}
use Rattle.alpha_set.proofs.worth.gather.Goals.{then-weight-ne0, else-weight-ne0}
use Rattle.alpha_set.proofs.worth.gather.Goals as goal

pub loop-state-preserved : goal.loop-state-preserved
loop-state-preserved c = elim c.if-weight-ne0.branch [
  | then-weight-ne0 w ↦
      let fits : FitsSigned w128 (get_or c.args.mass.now c.loop-state.state (pos 0)) = search rules in
      let room : c.loop-state.count < length c.loop-state.portions = omega (arith, c.loop-state.invariant.inside) in
      let put = gathered-put c.args.mass.now c.loop-state.state c.loop-state.count c.loop-state.portions (mass-low c.args.mass.now c.loop-state.state c.requires.mass c.loop-state-test.true) room c.loop-state.invariant.gathered in
      let counted : c.if-weight-ne0.count ≡ c.loop-state.count + 1 = omega (arith, w.count-is) in
      record {
        inside = omega (arith, c.loop-state.invariant.inside);
        gathered = rw (w.portions-is, counted) (simp to_z-of_z put);
      }
  | else-weight-ne0 w ↦
      let skip = gathered-skip c.args.mass.now c.loop-state.state (take c.loop-state.count c.loop-state.portions)
      (zero-from (get_or c.args.mass.now c.loop-state.state (pos 0)) (mass-low c.args.mass.now c.loop-state.state c.requires.mass c.loop-state-test.true) w.if-weight-ne0.false) c.loop-state.invariant.gathered in
      record {
        inside = omega (arith, w.count-is, c.loop-state.invariant.inside);
        gathered = rw (w.portions-is, w.count-is) skip;
      }
]
