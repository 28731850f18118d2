use Rattle.std.proofs.Common.{◌*◌, ◌∙◌, ℕ, List, ap, length, subst, sym, get_or}
use Rattle.std.specs.Prelude.{pos, ◌+ℤ◌, FitsSigned, unsigned_abs}
use Rattle.std.specs.Int.{w128}
use Rattle.std.proofs.lemmas.Int.{to_z-of_z}
use Rattle.game_model.specs.declared.parts.Landing.{Landing}
use Rattle.belief.specs.Masses.{AreLandings, landed}
use Rattle.belief.proofs.Landings.{landed-seen, landings-seen}
use Rattle.belief.proofs.masses.add_row.Goals as goal

pub add_landings-requires-clause-landings : goal.add_landings-requires-clause-landings
add_landings-requires-clause-landings c = subst (AreLandings (length c.args.out.now)) (sym c.seen_so.ensures) (landings-seen (length c.args.out.now) c.args.row.now c.args.o c.requires.landings)

pub returns : goal.returns
returns c =
    let fits : FitsSigned w128 c.args.factor = c.ranges.factor in
    let added = simp to_z-of_z at c.add_landings.ensures in
    λ t l. added t l
    ∙ ap (λ (n : ℕ). get_or c.args.out.now t (pos 0) +ℤ pos (unsigned_abs c.args.factor * n)) (ap (λ (ls : List Landing). landed ls t) c.seen_so.ensures ∙ landed-seen c.args.row.now c.args.o t)
