use Rattle.std.specs.Prelude.{pos, slice_index_or}
use Rattle.game_model.specs.Bounds.{IsLeastOf, IsWorthWithin}
use Rattle.game_model.specs.Game.{numbers}
use Rattle.game_model.specs.Seeds.{stage_worth}
use Rattle.game_model.proofs.seeds.least_worth.Given as goal

abbrev pub invariant-loop-c : goal.invariant-loop-c
invariant-loop-c l = record {
  least : IsLeastOf (stage_worth (numbers l.fn.game) l.fn.a (λ t. slice_index_or l.fn.old t (pos 0)) l.fn.s) l.c l.least;
  bounded : IsWorthWithin l.fn.game l.least;
}
