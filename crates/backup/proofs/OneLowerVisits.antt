-- A lower visit is one: its advice and its node are a function of the game, the belief and the nodes.
use Rattle.std.proofs.Common.{◌≡◌, ℕ, ◌*◌, ◌<◌, ◌++◌, List, [], ◌∷◌, length, get_or, take, ap, ap₂, arith, sym, subst, ◌∙◌, inl, inr}
use Rattle.std.specs.Prelude.{ℤ, pos, ◌+ℤ◌, ◌*ℤ◌, ◌≤ℤ◌, ◌<ℤ◌}
use Rattle.std.proofs.lemmas.Bool.{cases_order}
use Rattle.std.proofs.lemmas.Int.{ints}
use Rattle.std.proofs.lemmas.List.{ext_get_or}
use Rattle.scaled_num.specs.Share.{at}
use Rattle.scaled_num.proofs.Products.{lt-mulℤ_cancel, mulℤ_comm}
use Rattle.game_model.specs.Branches.{Branch, mix_total}
use Rattle.game_model.specs.Game.{GameData, numbers}
use Rattle.game_model.specs.Numbers.{Numbers}
use Rattle.belief.specs.Mixes.{MixesData}
use Rattle.alpha_set.specs.Nodes.{Node, NodeData, node_of, node_worth, nodes_of}
use Rattle.alpha_set.proofs.One.{worth-one}
use Rattle.simplex.specs.declared.End.{End}
use Rattle.simplex.specs.declared.End.TheVariants.{Optimal, Spent, Unbounded, Wide}
use Rattle.stage_game.specs.AdviceData.{LowerAdviceData}
use Rattle.stage_game.specs.Chosen.{different, downwards, risen}
use Rattle.stage_game.specs.LowerCandidates.{AreFirstLower, ArePricedLower, IsWorthy, most_lower}
use Rattle.stage_game.specs.Masses.{masses}
use Rattle.stage_game.proofs.OneAdvice.{lower-one}
use Rattle.backup.specs.Evaluation.{IsEntry, IsNewNode}
use Rattle.backup.specs.LowerLaws.{LowerVisitsAreOne}
use Rattle.backup.specs.LowerVisits.{IsLowerRun, LowerRun, product_at}
use Rattle.backup.specs.Tries.{AfterEnd, AreTries, IsFirstMost, first_bits, tried_bits}

-- ---- candidates are one
worthy-one : (nodes : List NodeData) (mass : List ℤ) (i j : ℕ) → IsWorthy nodes mass i → IsWorthy nodes mass j → i ≡ j
worthy-one nodes mass i j p q = (worth-one nodes mass p.0 q.0 i j p.1 q.1).1

first-one : (belief : List ℤ) (nodes : List NodeData) (xs ys : List ℕ) → AreFirstLower belief nodes xs → AreFirstLower belief nodes ys → xs ≡ ys
first-one belief nodes xs ys p q =
    p.same ∙ ap (λ (best : ℕ). risen (length nodes) (best ∷ take 15 (downwards (length nodes)))) (worthy-one nodes belief p.best q.best p.worthy q.worthy) ∙ sym q.same

priced-one : (g : GameData) (belief : List ℤ) (nodes : List NodeData) (mixes : MixesData) (xs ys : List ℕ) → ArePricedLower g belief nodes mixes xs → ArePricedLower g belief nodes mixes ys → xs ≡ ys
priced-one g belief nodes mixes xs ys p q =
    let best : p.best ≡ q.best = worthy-one nodes belief p.best q.best p.worthy q.worthy in
    let priced : p.priced ≡ q.priced =
    ext_get_or 0 p.priced q.priced (p.at_masses.count ∙ sym q.at_masses.count)
    (λ i l. let inside : i < length (masses g belief mixes) = omega (arith, p.at_masses.count) in
    worthy-one nodes (get_or (masses g belief mixes) i []) (get_or p.priced i 0) (get_or q.priced i 0) (p.at_masses.each i inside) (q.at_masses.each i inside)) in
    p.same
    ∙ ap₂ (λ (first : ℕ) (others : List ℕ). risen (length nodes) (take most_lower (different (first ∷ others ++ downwards (length nodes))))) best priced
    ∙ sym q.same

-- ---- a new node is one
equal : (x y : ℤ) → x <ℤ (y +ℤ pos 1) → y <ℤ (x +ℤ pos 1) → x ≡ y
equal x y h k = omega (arith, ints)

below-next : (k : ℕ) (x y w : ℤ) → (x *ℤ pos k) ≤ℤ w → w <ℤ ((y +ℤ pos 1) *ℤ pos k) → x <ℤ (y +ℤ pos 1)
below-next k x y w h l =
    lt-mulℤ_cancel k x (y +ℤ pos 1)
    (subst (λ (z : ℤ). z <ℤ (pos k *ℤ (y +ℤ pos 1))) (mulℤ_comm x (pos k)) (subst (λ (z : ℤ). (x *ℤ pos k) <ℤ z) (mulℤ_comm (y +ℤ pos 1) (pos k)) (through (x *ℤ pos k) w ((y +ℤ pos 1) *ℤ pos k) h l)))
  where
    through : (x y z : ℤ) → x ≤ℤ y → y <ℤ z → x <ℤ z
    through x y z h k = omega (arith, ints)

entry-one : (g : Numbers) (nodes : ℕ → Node) (node : Node) (s : ℕ) (x y : ℤ) → IsEntry g nodes node s x → IsEntry g nodes node s y → x ≡ y
entry-one g nodes node s x y p q =
    let K : ℕ = mix_total * g.row_total * g.discount_under in
    equal x y
    (below-next K x y (node_worth g nodes node s q.some.0) (p.each q.some.0 q.some.1) q.some.2)
    (below-next K y x (node_worth g nodes node s p.some.0) (q.each p.some.0 p.some.1) p.some.2)

abbrev node-with : List ℤ → List ℤ → List Branch → NodeData
node-with vector mix next = record { vector = vector; mix = mix; next = next }

-- what a node may be worth does not depend on its own vector
moved : (n : Numbers) (nodes : ℕ → Node) (vector second mix other : List ℤ) (next steps : List Branch) (s : ℕ) (x : ℤ) → mix ≡ other → next ≡ steps →
    IsEntry n nodes (node_of (node-with vector mix next)) s x → IsEntry n nodes (node_of (node-with second other steps)) s x
moved n nodes vector second mix other next steps s x e f h =
    subst (λ (bs : List Branch). IsEntry n nodes (node_of (node-with second other bs)) s x) f
    (subst (λ (ws : List ℤ). IsEntry n nodes (node_of (node-with second ws next)) s x) e (record { each = h.each; some = h.some }))

node-one : (g : GameData) (nodes : List NodeData) (advice : LowerAdviceData) (p q : NodeData) → IsNewNode g nodes advice p → IsNewNode g nodes advice q → p ≡ q
node-one g nodes advice p q x y =
    let mixes : p.mix ≡ q.mix = x.mix ∙ sym y.mix in
    let steps : p.next ≡ q.next = x.next ∙ sym y.next in
    let vectors : p.vector ≡ q.vector =
    ext_get_or (pos 0) p.vector q.vector (x.long ∙ sym y.long)
    (λ s l. let inside : s < g.shape.states = subst (λ (n : ℕ). s < n) x.long l in
    entry-one (numbers g) (nodes_of nodes) (node_of q) s (at p.vector s) (at q.vector s)
    (moved (numbers g) (nodes_of nodes) p.vector q.vector p.mix q.mix p.next q.next s (at p.vector s) mixes steps (x.entries s inside)) (y.entries s inside)) in
    ap (λ (v : List ℤ). node-with v p.mix p.next) vectors ∙ ap (λ (m : List ℤ). node-with q.vector m p.next) mixes ∙ ap (λ (bs : List Branch). node-with q.vector q.mix bs) steps

-- ---- runs are one
abbrev run-with : LowerAdviceData → NodeData → LowerRun
run-with advice node = record { advice = advice; node = node }

run-one : (g : GameData) (belief : List ℤ) (nodes : List NodeData) (candidates : List ℕ) (bits : ℕ) (r s : LowerRun) → IsLowerRun g belief nodes candidates bits r → IsLowerRun g belief nodes candidates bits s → r ≡ s
run-one g belief nodes candidates bits r s p q =
    let advice : r.advice ≡ s.advice = lower-one g belief nodes candidates bits r.advice s.advice p.advice_is q.advice_is in
    let node : r.node ≡ s.node = node-one g nodes s.advice r.node s.node (subst (λ (a : LowerAdviceData). IsNewNode g nodes a r.node) advice p.node_is) q.node_is in
    ap (λ (a : LowerAdviceData). run-with a r.node) advice ∙ ap (λ (x : NodeData). run-with s.advice x) node

after-one : (end : End) (xs ys : List LowerRun) (P Q : Type 0) → (P → Q → xs ≡ ys) → AfterEnd end (xs ≡ []) P → AfterEnd end (ys ≡ []) Q → xs ≡ ys
after-one Optimal xs ys P Q h p q = p ∙ sym q
after-one Spent xs ys P Q h p q = h p q
after-one (Unbounded col) xs ys P Q h p q = h p q
after-one (Wide row col) xs ys P Q h p q = h p q

tries-one : (IsTry : ℕ → LowerRun → Type 0) → ((bits : ℕ) (r s : LowerRun) → IsTry bits r → IsTry bits s → r ≡ s) → (left : List ℕ) (xs ys : List LowerRun) →
    AreTries (λ (run : LowerRun). run.advice.end) IsTry left xs → AreTries (λ (run : LowerRun). run.advice.end) IsTry left ys → xs ≡ ys
tries-one IsTry one [] xs ys p q = p ∙ sym q
tries-one IsTry one (b ∷ bs) [] ys p q = absurd p
tries-one IsTry one (b ∷ bs) (x ∷ xs) [] p q = absurd q
tries-one IsTry one (b ∷ bs) (x ∷ xs) (y ∷ ys) p q =
    let same : x ≡ y = one b x y p.0 q.0 in
    ap₂ (λ (r : LowerRun) (rs : List LowerRun). r ∷ rs) same
    (after-one x.advice.end xs ys (AreTries (λ (run : LowerRun). run.advice.end) IsTry bs xs) (AreTries (λ (run : LowerRun). run.advice.end) IsTry bs ys) (tries-one IsTry one bs xs ys) p.1
    (subst (λ (r : LowerRun). AfterEnd r.advice.end (ys ≡ []) (AreTries (λ (run : LowerRun). run.advice.end) IsTry bs ys)) (sym same) q.1))

-- ---- the first greatest is one
most-one : (f : ℕ → ℤ) (n i j : ℕ) → IsFirstMost f n i → IsFirstMost f n j → i ≡ j
most-one f n i j p q = elim (cases_order i j) [
  | inl e ↦ e
  | inr l ↦ elim l [
    | inl l ↦ absurd (never (f i) (f j) (q.first i l) (p.greatest j q.inside))
    | inr l ↦ absurd (never (f j) (f i) (p.first j l) (q.greatest i p.inside))
  ]
]
  where
    never : (x y : ℤ) → x <ℤ y → y ≤ℤ x → ⊥
    never x y h k = omega (arith, ints)

-- the run of a place among runs
record IsChosen (belief : List ℤ) (first : LowerRun) (tries : List LowerRun) (run : LowerRun) : Type 0 where
  pub place : ℕ
  pub most : IsFirstMost (product_at belief first (first ∷ tries)) (length (first ∷ tries)) place
  pub same : get_or (first ∷ tries) place first ≡ run

chosen-one : (belief : List ℤ) (first : LowerRun) (tries : List LowerRun) (r s : LowerRun) → IsChosen belief first tries r → IsChosen belief first tries s → r ≡ s
chosen-one belief first tries r s p q =
    sym p.same
    ∙ ap (λ (k : ℕ). get_or (first ∷ tries) k first) (most-one (product_at belief first (first ∷ tries)) (length (first ∷ tries)) p.place q.place p.most q.most)
    ∙ q.same

-- ---- the visit
pub visits-one : LowerVisitsAreOne
visits-one g belief nodes advice other node second p q =
    let candidates : p.runs.candidates ≡ q.runs.candidates = first-one belief nodes p.runs.candidates q.runs.candidates p.runs.are_first q.runs.are_first in
    let first : p.first ≡ q.first = run-one g belief nodes q.runs.candidates first_bits p.first q.first (subst (λ (cs : List ℕ). IsLowerRun g belief nodes cs first_bits p.first) candidates p.runs.is_first) q.runs.is_first in
    let priced : p.runs.priced ≡ q.runs.priced =
    priced-one g belief nodes q.first.advice.informed p.runs.priced q.runs.priced
    (subst (λ (r : LowerRun). ArePricedLower g belief nodes r.advice.informed p.runs.priced) first p.runs.are_priced) q.runs.are_priced in
    let tries : p.tries ≡ q.tries =
    tries-one (IsLowerRun g belief nodes q.runs.priced) (λ bits r s. run-one g belief nodes q.runs.priced bits r s) tried_bits p.tries q.tries
    (subst (λ (cs : List ℕ). AreTries (λ (run : LowerRun). run.advice.end) (IsLowerRun g belief nodes cs) tried_bits p.tries) priced p.runs.are_tries) q.runs.are_tries in
    let one : IsChosen belief p.first p.tries (run-with advice node) = record { place = p.place; most = p.best; same = p.same } in
    let two : IsChosen belief q.first q.tries (run-with other second) = record { place = q.place; most = q.best; same = q.same } in
    let moved : IsChosen belief q.first q.tries (run-with advice node) =
    subst (λ (rs : List LowerRun). IsChosen belief q.first rs (run-with advice node)) tries (subst (λ (r : LowerRun). IsChosen belief r p.tries (run-with advice node)) first one) in
    let same : run-with advice node ≡ run-with other second = chosen-one belief q.first q.tries (run-with advice node) (run-with other second) moved two in
    (ap (λ (r : LowerRun). r.advice) same, ap (λ (r : LowerRun). r.node) same)
