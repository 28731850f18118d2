use Rattle.std.proofs.Common.{◌≡◌, ◌∙◌, ◌<◌, ℕ, Bool, List, ap, length, sym, subst}
use Rattle.std.specs.Prelude.{ℤ}
use Rattle.std.specs.List.{AllByRecursion}
use Rattle.controller.specs.Export.{nodes_kept, renumbered_starts}
use Rattle.controller.specs.Reached.{flag_at}
use Rattle.controller.proofs.KeptParts.{steps-inside}
use Rattle.controller.proofs.exporting.export_nodes.Goals as goal

pub reached_nodes-requires-clause-named : goal.reached_nodes-requires-clause-named
reached_nodes-requires-clause-named c = steps-inside c.args.game.now c.args.nodes.now.members c.requires.nodes.each

pub keep_nodes-requires-clause-named : goal.keep_nodes-requires-clause-named
keep_nodes-requires-clause-named c = steps-inside c.args.game.now c.args.nodes.now.members c.requires.nodes.each

pub renumber_starts-requires : goal.renumber_starts-requires
renumber_starts-requires c =
    let long : length c.in_ok-numbering.numbering ≡ length c.args.nodes.now.members = ap length c.in_ok-numbering.ensures ∙ c.in_ok-flags.ensures.long in
    subst (λ (n : ℕ). AllByRecursion (λ (start : ℕ × ℤ). start.0 < n) c.args.starts.now) (sym long) c.requires.starts

pub returns : goal.returns
returns c = record {
  kept = flag_at c.in_ok-flags.flags.items;
  reached = c.in_ok-flags.ensures.kept;
  members = c.in_ok-kept.ensures ∙ ap (λ (flags : List Bool). nodes_kept (flag_at flags) c.args.nodes.now.members) c.in_ok-numbering.ensures;
  starts_too = c.in_ok-kept_starts.ensures ∙ ap (λ (flags : List Bool). renumbered_starts (flag_at flags) c.args.starts.now) c.in_ok-numbering.ensures;
}
