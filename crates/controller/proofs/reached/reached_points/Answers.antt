use Rattle.std.proofs.Common.{◌≡◌, ◌∙◌, ◌<◌, ◌≤◌, ℕ, Bool, List, ap, arith, false, get_or, inl, inr, length, map, rules, sym, subst}
use Rattle.std.specs.Prelude.{ℤ, replicate, ◌↔◌, ◌⊎◌}
use Rattle.std.specs.List.{AllByRecursion}
use Rattle.std.proofs.lemmas.List.{get_or_default}
use Rattle.point_set.specs.Points.{PointData, no_point}
use Rattle.game_model.specs.Branches.{Branch, branch_of}
use Rattle.game_model.specs.declared.branches.Branch.{Branch as BranchParts}
use Rattle.scaled_num.proofs.Each.{each-of-map}
use Rattle.point_set.specs.Members.{point_data}
use Rattle.point_set.specs.declared.points.Point.{Point as PointParts}
use Rattle.controller.specs.Export.{IsAtCornerOrStart, IsAtStart, shares_of}
use Rattle.controller.specs.Reached.{ListsAlso, IsListed, members_of}
use Rattle.controller.proofs.Listed.{start-one, starts-at}
use Rattle.controller.proofs.Reaching.{find-both, reaching-end, reaching-first, reaching-inside, reaching-next}
use Rattle.controller.proofs.reached.reached_points.Goals as goal

abbrev numbers_of : List (ℕ × ℤ) → List ℕ
numbers_of starts = map (λ (start : ℕ × ℤ). start.0) starts

either : (states : ℕ) (starts : List (ℕ × ℤ)) (j : ℕ) → IsAtCornerOrStart states starts j ↔ ((j < states) ⊎ IsListed (numbers_of starts) j)
either states starts j = (
  λ w. elim w as (λ _. (j < states) ⊎ IsListed (numbers_of starts) j) [ inl l ↦ inl l | inr s ↦ inr ((starts-at starts j).1 s) ],
  λ w. elim w as (λ _. (j < states) ⊎ IsAtStart starts j) [ inl l ↦ inl l | inr s ↦ inr ((starts-at starts j).0 s) ],
)

pub loop-next-init : goal.loop-next-init
loop-next-init c =
    let flags : c.in_ok-found.found.flags.items ≡ replicate (length c.args.points.now.members) false = c.in_ok-found.ensures.flags ∙ ap (λ (n : ℕ). replicate n false) c.len.ensures.count in
    let corners = subst (λ (n : ℕ). ListsAlso c.in_ok-found.found.flags.items c.in_ok-found.found.numbers.items c.add_first.new.self.flags.items c.add_first.new.self.numbers.items (λ (j : ℕ). j < n)) c.states.ensures c.in_ok-add_first.ensures in
    let both =
    find-both c.in_ok-found.found.flags.items c.add_first.new.self.flags.items c.add_starts.new.self.flags.items c.in_ok-found.found.numbers.items c.add_first.new.self.numbers.items c.add_starts.new.self.numbers.items
    (λ (j : ℕ). j < c.args.game.now.shape.states) (IsListed (numbers_of c.args.starts.now)) (IsAtCornerOrStart c.args.game.now.shape.states c.args.starts.now) (either c.args.game.now.shape.states c.args.starts.now) corners c.in_ok-add_starts.ensures in
    reaching-first (shares_of c.args.points.now.members) (IsAtCornerOrStart c.args.game.now.shape.states c.args.starts.now) (length c.args.points.now.members) c.add_starts.new.self.flags.items c.in_ok-found.found.numbers.items c.add_starts.new.self.numbers.items
    (IsAtCornerOrStart c.args.game.now.shape.states c.args.starts.now) (λ j. (λ f. f, λ f. f))
    (subst (λ (fs : List Bool). ListsAlso fs c.in_ok-found.found.numbers.items c.add_starts.new.self.flags.items c.add_starts.new.self.numbers.items (IsAtCornerOrStart c.args.game.now.shape.states c.args.starts.now)) flags both)

-- the branches at hand are those of the member that is listed next
branches : (members : List PointData) (numbers : List ℕ) (next k : ℕ) (now : List BranchParts) (one : PointParts) → now ≡ one.splits.items → point_data one ≡ get_or members k no_point → k ≡ get_or numbers next k → next < length numbers →
    map branch_of now ≡ shares_of members (get_or numbers next 0)
branches members numbers next k now one value is number l =
    ap (λ (bs : List BranchParts). map branch_of bs) value
    ∙ ap (λ (x : PointData). x.splits) is
    ∙ ap (shares_of members) (number ∙ get_or_default numbers next k 0 l)

pub add_named-requires-clause-inside : goal.add_named-requires-clause-inside
add_named-requires-clause-inside c =
    let here : c.loop-next.next < length c.loop-next.found.numbers.items = search (rules, arith) in
    let same = branches c.args.points.now.members c.loop-next.found.numbers.items c.loop-next.next c.index-j.result.now c.deref.result.now c.point.result.now c.deref.ensures.value c.point.ensures c.index-j.ensures here in
    let inside = reaching-inside (shares_of c.args.points.now.members) (IsAtCornerOrStart c.args.game.now.shape.states c.args.starts.now) (length c.args.points.now.members) c.loop-next.next c.loop-next.found.flags.items c.loop-next.found.numbers.items c.loop-next.invariant here in
    let named = c.requires.named (get_or c.loop-next.found.numbers.items c.loop-next.next 0) inside in
    subst (λ (n : ℕ). AllByRecursion (λ (b : BranchParts). b.k < n) c.deref.result.now) (sym c.loop-next.invariant.long)
    (each-of-map (λ (b : Branch). b.member < length c.args.points.now.members) branch_of c.deref.result.now
    (subst (AllByRecursion (λ (b : Branch). b.member < length c.args.points.now.members)) (sym same) named))

pub loop-next-preserved : goal.loop-next-preserved
loop-next-preserved c =
    let here : c.loop-next.next < length c.loop-next.found.numbers.items = search (rules, arith) in
    let same = branches c.args.points.now.members c.loop-next.found.numbers.items c.loop-next.next c.index-j.result.now c.deref.result.now c.point.result.now c.deref.ensures.value c.point.ensures c.index-j.ensures here in
    reaching-next (shares_of c.args.points.now.members) (IsAtCornerOrStart c.args.game.now.shape.states c.args.starts.now) (length c.args.points.now.members) c.loop-next.next c.loop-next.found.flags.items c.add_named.new.self.flags.items c.loop-next.found.numbers.items c.add_named.new.self.numbers.items
    c.loop-next.invariant here
    (subst (λ (bs : List Branch). ListsAlso c.loop-next.found.flags.items c.loop-next.found.numbers.items c.add_named.new.self.flags.items c.add_named.new.self.numbers.items (IsListed (members_of bs))) same c.in_ok-add_named.ensures)

pub returns-clause-kept : goal.returns-clause-kept
returns-clause-kept c =
    let end : length c.loop-next.found.numbers.items ≤ c.loop-next.next = search (rules, arith) in
    reaching-end (shares_of c.args.points.now.members) (IsAtCornerOrStart c.args.game.now.shape.states c.args.starts.now) (length c.args.points.now.members) c.loop-next.next c.loop-next.found.flags.items c.loop-next.found.numbers.items c.loop-next.invariant end c.requires.named
    (λ j f. elim f as (λ _. j < length c.args.points.now.members) [ inl l ↦ let corners = c.requires.corners in omega arith | inr s ↦ start-one (λ (k : ℕ). k < length c.args.points.now.members) c.args.starts.now j c.requires.starts s ])
