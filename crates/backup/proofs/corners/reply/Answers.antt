use Rattle.std.proofs.Common.{true, false, rules, arith, ◌≡◌}
use Rattle.std.specs.Prelude.{ℤ, FitsSigned}
use Rattle.std.specs.Int.{w128, cast_signed}
use Rattle.std.specs.Int.Signed.{lt_z}
use Rattle.std.proofs.lemmas.Int.{to_z-of_z}
use Rattle.scaled_num.specs.Share.{at}
use Rattle.game_model.specs.Game.{GameData, numbers, span}
use Rattle.backup.proofs.Replies.{kept, reply-all, reply-one, taken}
use Rattle.backup.proofs.corners.reply.Goals as goal
use Rattle.backup.proofs.corners.reply.Goals.{then-better, else-better}

pub loop-c-init : goal.loop-c-init
loop-c-init c =
    let fits : FitsSigned w128 c.greatest_ceil-least.result = search rules in
    simp to_z-of_z (record {
      reply = reply-one (numbers c.args.game.now) (at c.args.old.now) c.args.s c.greatest_ceil-least.result c.greatest_ceil-least.ensures.ceil;
      bounded = c.greatest_ceil-least.ensures.bounded;
    })

pub loop-c-preserved : goal.loop-c-preserved
loop-c-preserved c =
    let g : GameData = c.args.game.now in
    let x : ℤ = cast_signed w128 c.loop-c.least-bits in
    let y : ℤ = c.greatest_ceil-value.result in
    let z : ℤ = cast_signed w128 c.if-better.least-bits in
    let fits : FitsSigned w128 y = search rules in
    elim c.if-better.branch [
      | then-better w ↦
          let is_less = simp to_z-of_z at w.if-better.true in
          let test : lt_z y x ≡ true = cc is_less in
          let next = taken (numbers g) (at c.args.old.now) c.args.s c.loop-c.c c.loop-c.chosen (span g) x y z c.if-better.chosen c.loop-c.invariant.reply c.greatest_ceil-value.ensures.ceil
          c.greatest_ceil-value.ensures.bounded test (simp to_z-of_z at w.least-is) w.chosen-is in
          record { reply = next.reply; bounded = next.bounded }
      | else-better w ↦
          let is_not = simp to_z-of_z at w.if-better.false in
          let test : lt_z y x ≡ false = cc is_not in
          let next = kept (numbers g) (at c.args.old.now) c.args.s c.loop-c.c c.loop-c.chosen (span g) x y z c.if-better.chosen c.loop-c.invariant.reply c.loop-c.invariant.bounded
          c.greatest_ceil-value.ensures.ceil test w.least-is w.chosen-is in
          record { reply = next.reply; bounded = next.bounded }
    ]

pub returns-clause-reply : goal.returns-clause-reply
returns-clause-reply c =
    let g : GameData = c.args.game.now in
    let some = c.law_game.ensures.accepted.shape.informed_actions.0 in
    let all : c.loop-c.c ≡ g.shape.informed_actions = omega arith in
    reply-all (numbers g) (at c.args.old.now) c.args.s c.loop-c.c c.loop-c.chosen (cast_signed w128 c.loop-c.least-bits) all c.loop-c.invariant.reply
