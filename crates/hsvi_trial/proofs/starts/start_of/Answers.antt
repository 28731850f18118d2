use Rattle.std.proofs.Common.{List, ap, sym, subst, to_z, ◌≡◌, ◌/◌, ◌≤◌, ◌∙◌, ℕ, arith}
use Rattle.std.specs.Int.{w128, ◌∣◌}
use Rattle.std.specs.List.{AllByRecursion}
use Rattle.std.specs.Prelude.{ℤ, pos, unsigned_abs}
use Rattle.std.proofs.Math.Nat.{div-le_self}
use Rattle.std.proofs.lemmas.Int.{to_z_pos}
use Rattle.alpha_set.specs.Worth.{IsWorth}
use Rattle.game_model.specs.Branches.{mix_total}
use Rattle.game_model.specs.Game.{IsMass}
use Rattle.stage_game.proofs.LowerEnds.{belief-mass}
use Rattle.hsvi_trial.specs.Founds.{IsUpperFound, lowest_items}
use Rattle.hsvi_trial.specs.Sets.{Sets}
use Rattle.hsvi_trial.specs.Starts.{IsStart}
use Rattle.hsvi_trial.specs.declared.starts.Upper.{Upper}
use Rattle.hsvi_trial.specs.declared.starts.Upper.TheVariants.{Root, Tooth}
use Rattle.hsvi_trial.proofs.StartFacts.{root-start, some-divisor, tooth-started}
use Rattle.hsvi_trial.proofs.starts.start_of.Goals as goal

pub worth-start_node-requires-clause-weighed : goal.worth-start_node-requires-clause-weighed
worth-start_node-requires-clause-weighed c = record {
  game = c.args.game.now;
  accepted = c.law_game.ensures.accepted;
  fit = c.requires.nodes.fit;
  right = subst (IsMass c.args.game.now) (sym c.first.ensures) (belief-mass c.args.game.now c.law_game.ensures.accepted c.args.game.now.first c.law_game.ensures.accepted.first);
}

pub divided-requires-clause-some : goal.divided-requires-clause-some
divided-requires-clause-some c =
    let found : IsUpperFound c.args.game.now c.args.points.now.members (Tooth c.in-Tooth.split) c.upper_part.result.1 =
    subst (λ (u : Upper). IsUpperFound c.args.game.now c.args.points.now.members u c.upper_part.result.1) c.in-Tooth.is c.upper_part.ensures.found in
    let divides : AllByRecursion (λ item. c.divisor_of-divisor.result ∣ unsigned_abs item.1) c.in-Tooth.split =
    subst (λ (items : List (ℕ × ℤ)). AllByRecursion (λ item. c.divisor_of-divisor.result ∣ unsigned_abs item.1) items) c.in-Tooth.split-is c.divisor_of-divisor.ensures.divides in
    some-divisor c.args.game.now c.law_game.ensures.accepted c.args.points.now.members c.in-Tooth.split c.divisor_of-divisor.result found.part.split.positive found.part.made divides

pub nonzero_div-result : goal.nonzero_div-result
nonzero_div-result c =
    let found : IsUpperFound c.args.game.now c.args.points.now.members (Tooth c.in-Tooth.split) c.upper_part.result.1 =
    subst (λ (u : Upper). IsUpperFound c.args.game.now c.args.points.now.members u c.upper_part.result.1) c.in-Tooth.is c.upper_part.ensures.found in
    let divides : AllByRecursion (λ item. c.divisor_of-divisor.result ∣ unsigned_abs item.1) c.in-Tooth.split =
    subst (λ (items : List (ℕ × ℤ)). AllByRecursion (λ item. c.divisor_of-divisor.result ∣ unsigned_abs item.1) items) c.in-Tooth.split-is c.divisor_of-divisor.ensures.divides in
    some-divisor c.args.game.now c.law_game.ensures.accepted c.args.points.now.members c.in-Tooth.split c.divisor_of-divisor.result found.part.split.positive found.part.made divides

pub returns-in_ok-vec-in-Root : goal.returns-in_ok-vec-in-Root
returns-in_ok-vec-in-Root c =
    let sets : Sets = record { nodes = c.args.nodes.now.members; points = c.args.points.now.members } in
    let worth : IsWorth c.args.nodes.now.members c.args.game.now.first c.worth-start_node.result.0 c.worth-start_node.result.1 =
    subst (λ (w : List ℤ). IsWorth c.args.nodes.now.members w c.worth-start_node.result.0 c.worth-start_node.result.1) c.first.ensures c.worth-start_node.ensures.worth in
    let found : IsUpperFound c.args.game.now c.args.points.now.members (Root c.in-Root.root) c.upper_part.result.1 =
    subst (λ (u : Upper). IsUpperFound c.args.game.now c.args.points.now.members u c.upper_part.result.1) c.in-Root.is c.upper_part.ensures.found in
    let start = root-start c.args.game.now sets c.worth-start_node.result.0 c.worth-start_node.result.1 c.in-Root.root c.upper_part.result.1 found.sawtooth found.root worth found.is_root found.is_sawtooth found.part in
    subst (λ (items : List (ℕ × ℤ)). IsStart c.args.game.now sets (record { node = c.worth-start_node.result.1; points = items; multiple = pos 1 })) (sym c.in_ok-vec-in-Root.ensures.items) start

pub returns-in_ok-divided-in-Tooth : goal.returns-in_ok-divided-in-Tooth
returns-in_ok-divided-in-Tooth c =
    let sets : Sets = record { nodes = c.args.nodes.now.members; points = c.args.points.now.members } in
    let worth : IsWorth c.args.nodes.now.members c.args.game.now.first c.worth-start_node.result.0 c.worth-start_node.result.1 =
    subst (λ (w : List ℤ). IsWorth c.args.nodes.now.members w c.worth-start_node.result.0 c.worth-start_node.result.1) c.first.ensures c.worth-start_node.ensures.worth in
    let found : IsUpperFound c.args.game.now c.args.points.now.members (Tooth c.in-Tooth.split) c.upper_part.result.1 =
    subst (λ (u : Upper). IsUpperFound c.args.game.now c.args.points.now.members u c.upper_part.result.1) c.in-Tooth.is c.upper_part.ensures.found in
    let divides : AllByRecursion (λ item. c.divisor_of-divisor.result ∣ unsigned_abs item.1) c.in-Tooth.split =
    subst (λ (items : List (ℕ × ℤ)). AllByRecursion (λ item. c.divisor_of-divisor.result ∣ unsigned_abs item.1) items) c.in-Tooth.split-is c.divisor_of-divisor.ensures.divides in
    let greatest : (d : ℕ) → AllByRecursion (λ item. d ∣ unsigned_abs item.1) c.in-Tooth.split → d ∣ c.divisor_of-divisor.result =
    subst (λ (items : List (ℕ × ℤ)). (d : ℕ) → AllByRecursion (λ item. d ∣ unsigned_abs item.1) items → d ∣ c.divisor_of-divisor.result) c.in-Tooth.split-is c.divisor_of-divisor.ensures.greatest in
    let parts : c.in_ok-divided-in-Tooth.field-0.items ≡ lowest_items c.divisor_of-divisor.result c.in-Tooth.split =
    c.in_ok-divided-in-Tooth.ensures ∙ ap (λ (items : List (ℕ × ℤ)). lowest_items c.divisor_of-divisor.result items) c.in-Tooth.split-is in
    let start = tooth-started c.args.game.now c.law_game.ensures.accepted sets c.worth-start_node.result.0 c.worth-start_node.result.1 c.divisor_of-divisor.result c.in-Tooth.split c.upper_part.result.1 found.sawtooth found.root worth found.is_root found.is_sawtooth found.part
    divides greatest in
    let small : mix_total / c.divisor_of-divisor.result ≤ 65536 = div-le_self 65536 c.divisor_of-divisor.result in
    let same : to_z w128 (c.unsigned_abs.result / c.divisor_of-divisor.result) ≡ pos (mix_total / c.divisor_of-divisor.result) =
    ap (λ (n : ℕ). to_z w128 (n / c.divisor_of-divisor.result)) c.unsigned_abs.ensures.value ∙ to_z_pos w128 (mix_total / c.divisor_of-divisor.result) (omega (arith, small)) in
    subst (λ (m : ℤ). IsStart c.args.game.now sets (record { node = c.worth-start_node.result.1; points = c.in_ok-divided-in-Tooth.field-0.items; multiple = m })) (sym same)
    (subst (λ (items : List (ℕ × ℤ)). IsStart c.args.game.now sets (record { node = c.worth-start_node.result.1; points = items; multiple = pos (mix_total / c.divisor_of-divisor.result) })) (sym parts) start)
