use Rattle.std.proofs.Common.{◌≡◌, ◌∙◌, ◌<◌, ◌≤◌, ℕ, Bool, List, ap, arith, false, get_or, length, map, rules, sym, subst}
use Rattle.std.specs.Prelude.{ℤ, replicate}
use Rattle.std.specs.List.{AllByRecursion}
use Rattle.std.proofs.lemmas.List.{get_or_default}
use Rattle.alpha_set.specs.Nodes.{NodeData, no_node}
use Rattle.game_model.specs.Branches.{Branch, branch_of}
use Rattle.game_model.specs.declared.branches.Branch.{Branch as BranchParts}
use Rattle.scaled_num.proofs.Each.{each-of-map}
use Rattle.alpha_set.specs.Members.{node_data}
use Rattle.alpha_set.specs.declared.nodes.Node.{Node as NodeParts}
use Rattle.controller.specs.Export.{IsAtStart, steps_of}
use Rattle.controller.specs.Reached.{ListsAlso, IsListed, members_of}
use Rattle.controller.proofs.Listed.{start-one, starts-at}
use Rattle.controller.proofs.Reaching.{reaching-end, reaching-first, reaching-inside, reaching-next}
use Rattle.controller.proofs.reached.reached_nodes.Goals as goal

abbrev numbers_of : List (ℕ × ℤ) → List ℕ
numbers_of starts = map (λ (start : ℕ × ℤ). start.0) starts

pub loop-next-init : goal.loop-next-init
loop-next-init c =
    let flags : c.in_ok-found.found.flags.items ≡ replicate (length c.args.nodes.now.members) false = c.in_ok-found.ensures.flags ∙ ap (λ (n : ℕ). replicate n false) c.len.ensures.count in
    reaching-first (steps_of c.args.nodes.now.members) (IsAtStart c.args.starts.now) (length c.args.nodes.now.members) c.add_starts.new.self.flags.items c.in_ok-found.found.numbers.items c.add_starts.new.self.numbers.items
    (IsListed (numbers_of c.args.starts.now)) (starts-at c.args.starts.now)
    (subst (λ (fs : List Bool). ListsAlso fs c.in_ok-found.found.numbers.items c.add_starts.new.self.flags.items c.add_starts.new.self.numbers.items (IsListed (numbers_of c.args.starts.now))) flags c.in_ok-add_starts.ensures)

-- the branches at hand are those of the member that is listed next
branches : (members : List NodeData) (numbers : List ℕ) (next k : ℕ) (now : List BranchParts) (one : NodeParts) → now ≡ one.next.items → node_data one ≡ get_or members k no_node → k ≡ get_or numbers next k → next < length numbers →
    map branch_of now ≡ steps_of members (get_or numbers next 0)
branches members numbers next k now one value is number l =
    ap (λ (bs : List BranchParts). map branch_of bs) value
    ∙ ap (λ (x : NodeData). x.next) is
    ∙ ap (steps_of members) (number ∙ get_or_default numbers next k 0 l)

pub add_named-requires-clause-inside : goal.add_named-requires-clause-inside
add_named-requires-clause-inside c =
    let here : c.loop-next.next < length c.loop-next.found.numbers.items = search (rules, arith) in
    let same = branches c.args.nodes.now.members c.loop-next.found.numbers.items c.loop-next.next c.index-i.result.now c.deref.result.now c.node.result.now c.deref.ensures.value c.node.ensures c.index-i.ensures here in
    let inside = reaching-inside (steps_of c.args.nodes.now.members) (IsAtStart c.args.starts.now) (length c.args.nodes.now.members) c.loop-next.next c.loop-next.found.flags.items c.loop-next.found.numbers.items c.loop-next.invariant here in
    let named = c.requires.named (get_or c.loop-next.found.numbers.items c.loop-next.next 0) inside in
    subst (λ (n : ℕ). AllByRecursion (λ (b : BranchParts). b.k < n) c.deref.result.now) (sym c.loop-next.invariant.long)
    (each-of-map (λ (b : Branch). b.member < length c.args.nodes.now.members) branch_of c.deref.result.now
    (subst (AllByRecursion (λ (b : Branch). b.member < length c.args.nodes.now.members)) (sym same) named))

pub loop-next-preserved : goal.loop-next-preserved
loop-next-preserved c =
    let here : c.loop-next.next < length c.loop-next.found.numbers.items = search (rules, arith) in
    let same = branches c.args.nodes.now.members c.loop-next.found.numbers.items c.loop-next.next c.index-i.result.now c.deref.result.now c.node.result.now c.deref.ensures.value c.node.ensures c.index-i.ensures here in
    reaching-next (steps_of c.args.nodes.now.members) (IsAtStart c.args.starts.now) (length c.args.nodes.now.members) c.loop-next.next c.loop-next.found.flags.items c.add_named.new.self.flags.items c.loop-next.found.numbers.items c.add_named.new.self.numbers.items
    c.loop-next.invariant here
    (subst (λ (bs : List Branch). ListsAlso c.loop-next.found.flags.items c.loop-next.found.numbers.items c.add_named.new.self.flags.items c.add_named.new.self.numbers.items (IsListed (members_of bs))) same c.in_ok-add_named.ensures)

pub returns-clause-kept : goal.returns-clause-kept
returns-clause-kept c =
    let end : length c.loop-next.found.numbers.items ≤ c.loop-next.next = search (rules, arith) in
    reaching-end (steps_of c.args.nodes.now.members) (IsAtStart c.args.starts.now) (length c.args.nodes.now.members) c.loop-next.next c.loop-next.found.flags.items c.loop-next.found.numbers.items c.loop-next.invariant end c.requires.named
    (λ j f. start-one (λ (k : ℕ). k < length c.args.nodes.now.members) c.args.starts.now j c.requires.starts f)
