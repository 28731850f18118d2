use Rattle.std.proofs.Common.{rules, ◌≡◌, ◌∙◌, ◌<◌, ℕ, List, get_or, length, set, sym, subst}
use Rattle.std.specs.Prelude.{ℤ, FitsSigned}
use Rattle.std.specs.Bool.{IsTrue}
use Rattle.std.specs.Int.{w128}
use Rattle.std.specs.Vec.{with_items}
use Rattle.std.proofs.lemmas.Int.{to_z-of_z}
use Rattle.scaled_num.specs.Share.{at}
use Rattle.game_model.specs.Game.{GameData}
use Rattle.alpha_set.specs.Changes.{HasRisen, IsLifted, IsRaised, divisor_of}
use Rattle.alpha_set.specs.Members.{data_of}
use Rattle.alpha_set.specs.Nodes.{no_node}
use Rattle.alpha_set.specs.declared.nodes.Node.{Node}
use Rattle.alpha_set.proofs.Lifting.{entries-at, entries-long, lifted-is, vector-written}
use Rattle.alpha_set.proofs.lifts.lift_node.Goals as goal

pub raise-requires-clause-long : goal.raise-requires-clause-long
raise-requires-clause-long c =
    entries-long c.args.game.now c.args.nodes.now c.args.number c.index-nodes-number.result c.deref_mut.result.now c.requires.fits c.requires.member c.deref_mut.ensures.value ∙ sym c.worths_at.ensures.long

here : (c : goal.After-node-1) → c.deref_mut.result.now ≡ (get_or (data_of c.args.nodes.now) c.args.number no_node).vector
here c = entries-at c.args.nodes.now c.args.number c.index-nodes-number.result c.deref_mut.result.now c.requires.member c.deref_mut.ensures.value

lifted : (c : goal.After-node-1) → IsLifted c.args.game.now (data_of c.args.nodes.now) c.args.number (data_of
    (set c.args.nodes.now c.args.number (record {
      vector = with_items (get_or c.args.nodes.now c.args.number c.index-nodes-number.result).vector c.raise.new.entries;
      mix = (get_or c.args.nodes.now c.args.number c.index-nodes-number.result).mix;
      next = (get_or c.args.nodes.now c.args.number c.index-nodes-number.result).next;
    })))
lifted c =
    let g : GameData = c.args.game.now in
    let nodes : List Node = c.args.nodes.now in
    let divisor_fits : FitsSigned w128 c.divisor.result = search rules in
    let by_result : (s : ℕ) → s < length c.deref_mut.result.now → IsRaised (at c.worths_at.new.worths s) c.divisor.result (at c.deref_mut.result.now s) (at c.raise.new.entries s) =
    simp to_z-of_z at c.raise.ensures.raised in
    let raised = subst (λ (z : ℤ). (s : ℕ) → s < length c.deref_mut.result.now → IsRaised (at c.worths_at.new.worths s) z (at c.deref_mut.result.now s) (at c.raise.new.entries s)) c.divisor.ensures by_result in
    let states : length c.deref_mut.result.now ≡ g.shape.states =
    entries-long g nodes c.args.number c.index-nodes-number.result c.deref_mut.result.now c.requires.fits c.requires.member c.deref_mut.ensures.value in
    lifted-is g nodes c.args.number c.index-nodes-number.result c.raise.new.entries c.requires.member (c.raise.ensures.long ∙ c.deref_mut.ensures.len)
    (record {
      long = c.raise.ensures.long ∙ states;
      worths = at c.worths_at.new.worths;
      least = c.worths_at.ensures.least;
      raised = λ s l. subst (λ (xs : List ℤ). IsRaised (at c.worths_at.new.worths s) (divisor_of g) (at xs s) (at c.raise.new.entries s)) (here c) (raised s (subst (λ (n : ℕ). s < n) (sym states) l));
    })

pub returns-clause-lifted : goal.returns-clause-lifted
returns-clause-lifted c = lifted c

pub returns-clause-told : goal.returns-clause-told
returns-clause-told c =
    let nodes : List Node = c.args.nodes.now in
    let told : (IsTrue c.raise.result → HasRisen (get_or (data_of nodes) c.args.number no_node).vector c.raise.new.entries) × (HasRisen (get_or (data_of nodes) c.args.number no_node).vector c.raise.new.entries → IsTrue c.raise.result) =
    subst (λ (xs : List ℤ). (IsTrue c.raise.result → HasRisen xs c.raise.new.entries) × (HasRisen xs c.raise.new.entries → IsTrue c.raise.result)) (here c) c.raise.ensures.told in
    subst (λ (xs : List ℤ). (IsTrue c.raise.result → HasRisen (get_or (data_of nodes) c.args.number no_node).vector xs) × (HasRisen (get_or (data_of nodes) c.args.number no_node).vector xs → IsTrue c.raise.result))
    (sym (vector-written nodes c.args.number c.index-nodes-number.result c.raise.new.entries c.requires.member (c.raise.ensures.long ∙ c.deref_mut.ensures.len))) told
