use Rattle.std.proofs.Common.{◌≡◌, List, ℤ, pos, length, replicate, sym, ap, subst, ◌∙◌, arith}
use Rattle.std.proofs.lemmas.Result.{IfOk-weaker}
use Rattle.rand_pcg.specs.Lcg.{Lcg}
use Rattle.game_model.specs.declared.parts.Shape.{Shape}
use Rattle.game_model.specs.Game.{GameData, triples}
use Rattle.game_model.specs.Build.{IsLastRowFull}
use Rattle.game_gen.specs.Rows.{Serves}
use Rattle.game_gen.specs.Generated.{game_drawn, shape_of}
use Rattle.game_gen.proofs.Games.{counted, few_triples, last_full, serves_of}
use Rattle.game_gen.proofs.generate.build.Goals as goal

-- the fields of a game without rows
of_fields : (b : GameData) (shape : Shape) (first : List ℤ) (g : Lcg) (s : Shape) → s ≡ shape → b ≡ game_drawn shape first g 0 → b ≡ game_drawn s b.first g 0
of_fields b shape first g s same e =
    e
    ∙ ap (λ (x : Shape). game_drawn x first g 0) (sym same)
    ∙ ap (λ (f : List ℤ). game_drawn s f g 0) (sym (ap (λ (x : GameData). x.first) e))

pub add_rows-requires-clause-few : goal.add_rows-requires-clause-few
add_rows-requires-clause-few c = rw c.shape_of.ensures (few_triples c.args.size c.requires.most)

pub add_rows-requires-clause-empty : goal.add_rows-requires-clause-empty
add_rows-requires-clause-empty c =
    of_fields c.in_ok-builder.builder (shape_of c.args.size) (replicate c.args.size (pos 1)) c.new-draw.result c.shape_of.result c.shape_of.ensures
    (c.in_ok-builder.ensures.empty c.new-draw.result)

pub finish-requires-clause-all : goal.finish-requires-clause-all
finish-requires-clause-all c = λ room.
    let built = c.in_ok-add_rows.ensures.added in
    omega (
      arith,
      room,
      ap (λ (g : GameData). length g.rewards) built,
      ap (λ (g : GameData). triples g.shape) built,
      counted c.shape_of.result c.in_ok-builder.builder.first c.new-draw.result (triples c.shape_of.result),
    )

pub finish-requires-clause-full : goal.finish-requires-clause-full
finish-requires-clause-full c =
    let serves : Serves c.shape_of.result = subst Serves (sym c.shape_of.ensures) (serves_of c.args.size c.requires.least c.requires.most) in
    subst IsLastRowFull (sym c.in_ok-add_rows.ensures.added)
    (last_full c.shape_of.result c.in_ok-builder.builder.first c.new-draw.result (triples c.shape_of.result) serves)

pub returns-clause-game : goal.returns-clause-game
returns-clause-game c =
    let first : c.in_ok-builder.builder.first ≡ replicate c.args.size (pos 1) = ap (λ (g : GameData). g.first) (c.in_ok-builder.ensures.empty c.new-draw.result) in
    IfOk-weaker c.finish.result _ _
    (λ game h.
    h
    ∙ c.in_ok-add_rows.ensures.added
    ∙ ap (λ (s : Shape). game_drawn s c.in_ok-builder.builder.first c.new-draw.result (triples s)) c.shape_of.ensures
    ∙ ap (λ (f : List ℤ). game_drawn (shape_of c.args.size) f c.new-draw.result (triples (shape_of c.args.size))) first
    ∙ ap (λ (g : Lcg). game_drawn (shape_of c.args.size) (replicate c.args.size (pos 1)) g (triples (shape_of c.args.size))) c.new-draw.ensures)
    c.finish.ensures.game
