use Rattle.std.proofs.Common.{rules, arith, get_or, ◌≡◌, ◌<◌, ◌≤◌, ◌*◌, ◌^◌, sym, subst, ap, ◌∙◌, List, length, ℕ, sum_by}
use Rattle.std.specs.Prelude.{ℤ, pos, unsigned_abs, FitsSigned, ◌*ℤ◌, ◌≤ℤ◌}
use Rattle.std.specs.List.{AllByRecursion}
use Rattle.std.specs.Int.{w128}
use Rattle.std.proofs.lemmas.Int.{ints, to_z-of_z}
use Rattle.scaled_num.specs.Sums.{total}
use Rattle.game_model.specs.Game.{GameData, IsLanding, row_at, span}
use Rattle.game_model.specs.Bounds.{IsWithinSpan}
use Rattle.game_model.specs.declared.parts.Landing.{Landing}
use Rattle.game_model.proofs.Pay.{each-from}
use Rattle.game_model.proofs.Games.{row-in, row-weights}
use Rattle.game_model.proofs.Worth.{row-sum-bound, span-small}
use Rattle.game_model.proofs.seeds.rest.Goals as goal

pub expected-requires-clause-inside : goal.expected-requires-clause-inside
expected-requires-clause-inside c =
    let g : GameData = c.args.game.now in
    let row = row-in g c.law_game.ensures.accepted c.args.s c.args.a c.args.c c.requires.state c.requires.own c.requires.informed in
    subst (λ (ls : List Landing). AllByRecursion (λ (l : Landing). l.to < length c.args.old.now) ls) (sym c.row.ensures)
    (each-from (IsLanding g.shape) _ (row_at g c.args.s c.args.a c.args.c) (λ l i. subst (λ (n : ℕ). l.to < n) (sym c.requires.bounded.long) i.to) row.each)

pub expected-requires-clause-weights : goal.expected-requires-clause-weights
expected-requires-clause-weights c =
    let g : GameData = c.args.game.now in
    let row = row-in g c.law_game.ensures.accepted c.args.s c.args.a c.args.c c.requires.state c.requires.own c.requires.informed in
    let d = c.law_game.ensures.accepted.shape.row_total.0 in
    let e = c.law_game.ensures.accepted.shape.row_total.1 in
    subst (λ (ls : List Landing). sum_by (λ (l : Landing). unsigned_abs l.weight) ls ≤ 2 ^ 30) (sym c.row.ensures)
    (subst (λ (n : ℕ). n ≤ 2 ^ 30) (sym (row-weights g.shape (row_at g c.args.s c.args.a c.args.c) row)) (small g.shape.row_total d e))
  where
    small : (x : ℤ) → pos 1 ≤ℤ x → x ≤ℤ pos (2 ^ 30) → unsigned_abs x ≤ 2 ^ 30
    small x h k = omega (arith, ints)

pub expected-requires-clause-entries : goal.expected-requires-clause-entries
expected-requires-clause-entries c =
    let g : GameData = c.args.game.now in
    let most = span-small g c.law_game.ensures.accepted in
    each-from (IsWithinSpan g) (λ x. unsigned_abs x ≤ 2 ^ 70) c.args.old.now (λ x h. omega (arith, most)) c.requires.bounded.each

pub returns-clause-exact : goal.returns-clause-exact
returns-clause-exact c =
    let e_fits : FitsSigned w128 c.expected.result = search rules in
    simp to_z-of_z (c.expected.ensures ∙ ap (total (λ (l : Landing). l.weight *ℤ get_or c.args.old.now l.to (pos 0))) c.row.ensures)

pub returns-clause-bounded : goal.returns-clause-bounded
returns-clause-bounded c =
    let g : GameData = c.args.game.now in
    let e_fits : FitsSigned w128 c.expected.result = search rules in
    let exact : c.expected.result ≡ total (λ (l : Landing). l.weight *ℤ get_or c.args.old.now l.to (pos 0)) (row_at g c.args.s c.args.a c.args.c) =
    c.expected.ensures ∙ ap (total (λ (l : Landing). l.weight *ℤ get_or c.args.old.now l.to (pos 0))) c.row.ensures in
    simp to_z-of_z (subst (λ (z : ℤ). unsigned_abs z ≤ unsigned_abs g.shape.row_total * span g) (sym exact)
    (row-sum-bound g c.law_game.ensures.accepted c.args.s c.args.a c.args.c c.requires.state c.requires.own c.requires.informed c.args.old.now c.requires.bounded))
