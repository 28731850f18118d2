use Rattle.std.proofs.Common.{rules, ◌≡◌, unsigned_abs, max, List, subst, sym, ap, ◌∙◌}
use Rattle.std.specs.Prelude.{pos, FitsSigned, fold, ℤ}
use Rattle.std.specs.List.{AllByRecursion}
use Rattle.std.specs.Int.{w128}
use Rattle.std.proofs.lemmas.Int.{to_z-of_z}
use Rattle.std.proofs.lemmas.List.Folds.{fold-map}
use Rattle.game_model.specs.Build.{data_of}
use Rattle.game_model.specs.Bounds.{span_from}
use Rattle.game_model.specs.Game.{IsRewardInRange, IsNarrow, greatest_reward}
use Rattle.game_model.specs.declared.parts.Entry.{Entry}
use Rattle.game_model.proofs.Entries.{each-unmap}
use Rattle.game_model.proofs.accepted.Game.of_parts.Goals as goal

pub greatest_reward-requires : goal.greatest_reward-requires
greatest_reward-requires c =
    subst (λ (es : List Entry). AllByRecursion (λ (e : Entry). IsRewardInRange e.reward) es) (sym c.deref.ensures.value)
    (each-unmap (λ (e : Entry). e.reward) (λ r. IsRewardInRange r × IsNarrow c.args.shape r) IsRewardInRange (λ r i. i.0) c.args.entries.items c.requires.rewards)

pub invariant_of-result : goal.invariant_of-result
invariant_of-result c =
    let most : c.greatest_reward.result ≡ pos (greatest_reward (data_of c.args.shape c.args.first.items c.args.entries.items)) =
    c.greatest_reward.ensures.greatest ∙ ap (λ (es : List Entry). pos (fold (λ most (e : Entry). max most (unsigned_abs e.reward)) 0 es)) c.deref.ensures.value
    ∙ ap pos (sym (fold-map (λ most r. max most (unsigned_abs r)) (λ (e : Entry). e.reward) 0 c.args.entries.items)) in
    let w_fits : FitsSigned w128 c.span_of-span.result = search rules in
    let g_fits : FitsSigned w128 c.greatest_reward.result = search rules in
    let spanned : c.span_of-span.result ≡ pos (span_from c.args.shape (unsigned_abs c.greatest_reward.result)) = simp to_z-of_z at c.span_of-span.ensures in
    record {
      game = c.requires;
      spans = simp to_z-of_z (spanned ∙ ap (λ (z : ℤ). pos (span_from c.args.shape (unsigned_abs z))) most);
    }
