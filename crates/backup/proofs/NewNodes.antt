-- The node of a lower advice: its entries are within the span, so it fits the game; and it stands, also among more nodes.
use Rattle.std.proofs.Common.{◌≡◌, ℕ, zero, suc, ◌+◌, ◌*◌, ◌<◌, ◌≤◌, List, ◌++◌, length, replicate, set, refl, ap, arith, inl, inr, sym, subst, ◌∙◌}
use Rattle.std.specs.Prelude.{ℤ, pos, neg_ℤ, ◌+ℤ◌, ◌*ℤ◌, ◌≤ℤ◌, ◌<ℤ◌, unsigned_abs}
use Rattle.std.specs.List.{AllByRecursion}
use Rattle.std.proofs.lemmas.Int.{ints}
use Rattle.std.proofs.lemmas.List.{get_or-set_same, get_or-set_other, length-set}
use Rattle.scaled_num.specs.Share.{IsFloor, at}
use Rattle.scaled_num.proofs.Each.{each-by-place}
use Rattle.scaled_num.proofs.Products.{add-mulℤ}
use Rattle.game_model.specs.Bounds.{IsLeastOf}
use Rattle.game_model.specs.Branches.{Branch, IsBranch, mix_total}
use Rattle.game_model.specs.Game.{GameData, IsGame, IsWithin, numbers, span}
use Rattle.game_model.specs.Numbers.{Numbers}
use Rattle.game_model.proofs.Least.{last-or, quotient-within}
use Rattle.game_model.proofs.Pay.{each-from}
use Rattle.alpha_set.specs.Members.{most_nodes}
use Rattle.alpha_set.specs.Nodes.{Node, NodeData, NodeFits, NodeStands, node_of, node_worth, nodes_of}
use Rattle.backup.specs.Entries.{AreEntries}
use Rattle.backup.specs.Evaluation.{IsEntry, IsNewNode}
use Rattle.backup.proofs.NodeWorths.{worth-stays, worth-within}
use Rattle.stage_game.specs.AdviceData.{LowerAdviceData}
use Rattle.stage_game.specs.Fits.{LowerFits}

-- ---- numbers divided in place, the first of them so far
pub record Rounded (divisor : ℤ) (old : List ℤ) (i : ℕ) (new : List ℤ) : Type 0 where
  pub long : length new ≡ length old
  pub floors : (k : ℕ) → k < i → IsFloor (at new k) (at old k) divisor
  pub left : (k : ℕ) → i ≤ k → at new k ≡ at old k

pub rounded-none : (divisor : ℤ) (old : List ℤ) → Rounded divisor old 0 old
rounded-none divisor old = record { long = refl; floors = λ k l. absurd (omega arith); left = λ k l. refl }

pub rounded-more : (divisor : ℤ) (old new : List ℤ) (i : ℕ) (q : ℤ) → i < length old → IsFloor q (at new i) divisor → Rounded divisor old i new → Rounded divisor old (i + 1) (set new i q)
rounded-more divisor old new i q l floor so_far =
    let inside : i < length new = omega (arith, so_far.long) in
    record {
      long = length-set new i q ∙ so_far.long;
      floors = λ k b. elim (last-or k i b) [
        | inl c ↦ subst (λ (z : ℤ). IsFloor z (at old k) divisor) (sym (get_or-set_other new i k q (pos 0) (λ e. omega arith))) (so_far.floors k c)
        | inr e ↦ subst (λ (j : ℕ). IsFloor (at (set new i q) j) (at old j) divisor) (sym e)
            (subst (λ (z : ℤ). IsFloor z (at old i) divisor) (sym (get_or-set_same new i q (pos 0) inside)) (subst (λ (z : ℤ). IsFloor q z divisor) (so_far.left i (omega arith)) floor))
      ];
      left = λ k b. get_or-set_other new i k q (pos 0) (λ e. omega arith) ∙ so_far.left k (omega arith);
    }

-- ---- entries
through : (x y z : ℤ) → x ≤ℤ y → y ≤ℤ z → x ≤ℤ z
through x y z h k = omega (arith, ints)

one-more : (q b : ℤ) → (q +ℤ pos 1) *ℤ b ≡ q *ℤ b +ℤ b
one-more q b = add-mulℤ q (pos 1) b ∙ ap (λ (z : ℤ). q *ℤ b +ℤ z) (once b)
  where
    once : (b : ℤ) → pos 1 *ℤ b ≡ b
    once b = omega (arith, ints)

entry-is : (g : Numbers) (nodes : ℕ → Node) (node : Node) (s : ℕ) (least q : ℤ) → IsLeastOf (node_worth g nodes node s) g.informed_actions least →
    IsFloor q least (pos (mix_total * g.row_total * g.discount_under)) → IsEntry g nodes node s q
entry-is g nodes node s least q h f =
    let K : ℤ = pos (mix_total * g.row_total * g.discount_under) in
    record {
      each = λ c lc. through (q *ℤ K) least (node_worth g nodes node s c) f.low (h.each c lc);
      some = (h.some.0, h.some.1, subst (λ (z : ℤ). z <ℤ ((q +ℤ pos 1) *ℤ K)) h.some.2 (subst (λ (z : ℤ). least <ℤ z) (sym (one-more q K)) f.high));
    }

within-both : (V : ℕ) (x : ℤ) → unsigned_abs x ≤ V → IsWithin (neg_ℤ (pos V)) (pos V) x
within-both V x h = (omega (arith, ints), omega (arith, ints))

entry-within : (g : GameData) → IsGame g → (nodes : List NodeData) (node : NodeData) → AllByRecursion (NodeFits g most_nodes) nodes → NodeFits g (length nodes) node →
    (s : ℕ) (least q : ℤ) → s < g.shape.states → IsLeastOf (node_worth (numbers g) (nodes_of nodes) (node_of node) s) g.shape.informed_actions least →
    IsFloor q least (pos (mix_total * unsigned_abs g.shape.row_total * unsigned_abs g.shape.discount.1)) → unsigned_abs q ≤ span g
entry-within g h nodes node others fits s least q ls most f =
    quotient-within (span g) (mix_total * unsigned_abs g.shape.row_total * unsigned_abs g.shape.discount.1) least q
    (subst (λ (z : ℤ). unsigned_abs z ≤ span g * (mix_total * unsigned_abs g.shape.row_total * unsigned_abs g.shape.discount.1)) (sym most.some.2)
    (worth-within g h nodes node others fits s most.some.0 ls most.some.1)) f.low f.high

-- the least worths, each divided and rounded down
pub entries-are : (g : GameData) → IsGame g → (nodes : List NodeData) (node : NodeData) → AllByRecursion (NodeFits g most_nodes) nodes → NodeFits g (length nodes) node →
    (worths entries : List ℤ) (divisor : ℤ) → divisor ≡ pos (mix_total * unsigned_abs g.shape.row_total * unsigned_abs g.shape.discount.1) →
    length worths ≡ g.shape.states → length entries ≡ length worths →
    ((s : ℕ) → s < g.shape.states → IsLeastOf (node_worth (numbers g) (nodes_of nodes) (node_of node) s) g.shape.informed_actions (at worths s)) →
    ((s : ℕ) → s < length worths → IsFloor (at entries s) (at worths s) divisor) → AreEntries g nodes node entries
entries-are g h nodes node others fits worths entries divisor is long same least floors =
    let floor : (s : ℕ) → s < g.shape.states → IsFloor (at entries s) (at worths s) (pos (mix_total * unsigned_abs g.shape.row_total * unsigned_abs g.shape.discount.1)) =
    λ s l. subst (IsFloor (at entries s) (at worths s)) is (floors s (subst (λ (n : ℕ). s < n) (sym long) l)) in
    record {
      long = same ∙ long;
      each = λ s l. entry-is (numbers g) (nodes_of nodes) (node_of node) s (at worths s) (at entries s) (least s l) (floor s l);
      within = each-by-place (IsWithin (neg_ℤ (pos (span g))) (pos (span g))) (pos 0) entries (λ s l.
          let ls : s < g.shape.states = subst (λ (n : ℕ). s < n) (same ∙ long) l in
          within-both (span g) (at entries s) (entry-within g h nodes node others fits s (at worths s) (at entries s) ls (least s ls) (floor s ls)));
    }

-- an advice that fits, with a vector that is within the span, is a node that fits
pub advised-fits : (g : GameData) (count : ℕ) (advice : LowerAdviceData) (node : NodeData) → LowerFits g count advice → node.mix ≡ advice.own → node.next ≡ advice.next →
    length node.vector ≡ g.shape.states → AllByRecursion (IsWithin (neg_ℤ (pos (span g))) (pos (span g))) node.vector → NodeFits g count node
advised-fits g count advice node fits mix next long within =
    subst (NodeFits g count) (made mix next)
    (record { long = long; entries = within; mix = fits.mix; next = fits.next; sums = fits.sums })
  where
    made : node.mix ≡ advice.own → node.next ≡ advice.next → record { vector = node.vector; mix = advice.own; next = advice.next } ≡ node
    made e f = rw (e, f) refl

-- a node whose entries are what it may be worth stands among the others, however many more come behind them
pub stands-among : (g : GameData) (nodes more : List NodeData) (node : NodeData) → NodeFits g (length nodes) node →
    ((s : ℕ) → s < g.shape.states → IsEntry (numbers g) (nodes_of nodes) (node_of node) s (at node.vector s)) → NodeStands (numbers g) (nodes_of (nodes ++ more)) (node_of node)
stands-among g nodes more node fits entries s c ls lc =
    subst (λ (z : ℤ). (at node.vector s *ℤ pos (mix_total * unsigned_abs g.shape.row_total * unsigned_abs g.shape.discount.1)) ≤ℤ z)
    (worth-stays (numbers g) nodes more node (each-from (IsBranch (numbers g) (length nodes) (pos mix_total)) _ node.next (λ b k. k.member) fits.next.each) s c)
    ((entries s ls).each c lc)

pub stands-here : (g : GameData) (nodes : List NodeData) (node : NodeData) →
    ((s : ℕ) → s < g.shape.states → IsEntry (numbers g) (nodes_of nodes) (node_of node) s (at node.vector s)) → NodeStands (numbers g) (nodes_of nodes) (node_of node)
stands-here g nodes node entries s c ls lc = (entries s ls).each c lc

length-zeros : (n : ℕ) → length (replicate n (pos 0)) ≡ n
length-zeros zero = refl
length-zeros (suc n) = ap suc (length-zeros n)

zeros-within : (V n : ℕ) → AllByRecursion (IsWithin (neg_ℤ (pos V)) (pos V)) (replicate n (pos 0))
zeros-within V zero = tt
zeros-within V (suc n) = (none V, zeros-within V n)
  where
    none : (V : ℕ) → IsWithin (neg_ℤ (pos V)) (pos V) (pos 0)
    none V = (omega (arith, ints), omega (arith, ints))

-- an advice that fits, with entries of 0, is a node that fits
pub blank-fits : (g : GameData) (count : ℕ) (advice : LowerAdviceData) (node : NodeData) → LowerFits g count advice → node.mix ≡ advice.own → node.next ≡ advice.next →
    node.vector ≡ replicate g.shape.states (pos 0) → NodeFits g count node
blank-fits g count advice node fits mix next zeros =
    advised-fits g count advice node fits mix next (ap length zeros ∙ length-zeros g.shape.states)
    (subst (AllByRecursion (IsWithin (neg_ℤ (pos (span g))) (pos (span g)))) (sym zeros) (zeros-within (span g) g.shape.states))

-- what the code leaves: the blank node, with these entries
pub record IsMade (g : GameData) (nodes : List NodeData) (advice : LowerAdviceData) (node : NodeData) : Type 0 where
  pub new : IsNewNode g nodes advice node
  pub fits : NodeFits g (length nodes) node
  pub stands : NodeStands (numbers g) (nodes_of nodes) (node_of node)
  pub stays : (more : List NodeData) → NodeStands (numbers g) (nodes_of (nodes ++ more)) (node_of node)

pub made : (g : GameData) (nodes : List NodeData) (advice : LowerAdviceData) (blank node : NodeData) → LowerFits g (length nodes) advice →
    blank.mix ≡ advice.own → blank.next ≡ advice.next → node.mix ≡ blank.mix → node.next ≡ blank.next → AreEntries g nodes blank node.vector → IsMade g nodes advice node
made g nodes advice blank node fits mix next same_mix same_next entries =
    let each : (s : ℕ) → s < g.shape.states → IsEntry (numbers g) (nodes_of nodes) (node_of node) s (at node.vector s) =
    λ s l. moved s (at node.vector s) (entries.each s l) in
    let right : NodeFits g (length nodes) node = advised-fits g (length nodes) advice node fits (same_mix ∙ mix) (same_next ∙ next) entries.long entries.within in
    record {
      new = record { mix = same_mix ∙ mix; next = same_next ∙ next; long = entries.long; entries = each };
      fits = right;
      stands = stands-here g nodes node each;
      stays = λ more. stands-among g nodes more node right each;
    }
  where
    turned : (vector own : List ℤ) (steps : List Branch) → blank.mix ≡ own → blank.next ≡ steps → (s : ℕ) (x : ℤ) → IsEntry (numbers g) (nodes_of nodes) (node_of blank) s x →
        IsEntry (numbers g) (nodes_of nodes) (node_of (record { vector = vector; mix = own; next = steps })) s x
    turned vector own steps e f s x h =
        subst (λ (ts : List Branch). IsEntry (numbers g) (nodes_of nodes) (node_of (record { vector = vector; mix = own; next = ts })) s x) f
        (subst (λ (ws : List ℤ). IsEntry (numbers g) (nodes_of nodes) (node_of (record { vector = vector; mix = ws; next = blank.next })) s x) e
        (record { each = h.each; some = h.some }))

    moved : (s : ℕ) (x : ℤ) → IsEntry (numbers g) (nodes_of nodes) (node_of blank) s x → IsEntry (numbers g) (nodes_of nodes) (node_of node) s x
    moved s x h = turned node.vector node.mix node.next (sym same_mix) (sym same_next) s x h
