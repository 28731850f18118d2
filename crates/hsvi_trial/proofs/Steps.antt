-- A run so far with one more visit.
use Rattle.std.proofs.Common.{◌≡◌, ℕ, suc, ◌+◌, ◌<◌, ◌≤◌, List, Option, Some, None, [], ◌∷◌, ◌++◌, Bool, true, false, cond, take, length, inl, inr, refl, ap, ap₂, sym, subst, ◌∙◌, arith, length-append}
use Rattle.std.proofs.Math.Seq.{take-length}
use Rattle.std.proofs.lemmas.List.{append-nil, append_assoc}
use Rattle.std.specs.Prelude.{ℤ, IsTrue, is_some, nat_eq}
use Rattle.std.proofs.lemmas.Bool.{ne_eqb}
use Rattle.alpha_set.specs.Nodes.{NodeData}
use Rattle.point_set.specs.Points.{PointData}
use Rattle.hsvi_trial.specs.Due.{KeepsNode, KeepsPoint}
use Rattle.hsvi_trial.specs.Growth.{OneMoreVisit}
use Rattle.hsvi_trial.specs.Journal.{AreHeld, cut_before}
use Rattle.hsvi_trial.specs.RightVisit.{IsNextBelief, IsRightVisit}
use Rattle.hsvi_trial.specs.Run.{Task}
use Rattle.hsvi_trial.specs.Sets.{Sets, kept_nodes, kept_points, sets_after}
use Rattle.hsvi_trial.specs.Starts.{AreOpen}
use Rattle.hsvi_trial.specs.declared.visits.Visit.{Visit}
use Rattle.hsvi_trial.proofs.Parting.{AtLast, Before, parted}
use Rattle.hsvi_trial.proofs.Growing.{first_members-stay, kept_nodes-append, kept_points-append}

-- ---- what a visit adds
abbrev Grown : {X : Type 0} → List X → List X → Option ℕ → Type 0
Grown {X} before after number = (more : List X) × (after ≡ before ++ more) × (length more ≡ 0 + cond (is_some number) 1 0)

nodes-grow : (before after : List NodeData) (belief : List ℤ) (node : NodeData) (number : Option ℕ) → KeepsNode before after belief node number → Grown before after number
nodes-grow before after belief node None k = ([], k.1 ∙ sym (append-nil before), refl)
nodes-grow before after belief node (Some n) k = (node ∷ [], k.3, refl)

points-grow : (Refused : Type 0) (before after : List PointData) (belief : List ℤ) (point : PointData) (number : Option ℕ) → KeepsPoint Refused before after belief point number → Grown before after number
points-grow Refused before after belief point None k = ([], k.1 ∙ sym (append-nil before), refl)
points-grow Refused before after belief point (Some n) k = (point ∷ [], k.4, refl)

not_cut : (cut : Bool) (rest : List Visit) (v : Visit) → cut_before cut (rest ++ v ∷ []) ≡ false
not_cut cut rest v =
    ap (λ (b : Bool). cond b cut false) (ne_eqb (length (rest ++ v ∷ [])) 0 (λ e. omega (arith, length-append rest (v ∷ []))))

pub no_cut : (rest : List Visit) → cut_before false rest ≡ false
no_cut rest = both (nat_eq (length rest) 0)
  where
    both : (b : Bool) → cond b false false ≡ false
    both true = refl
    both false = refl

-- the sets that the visits before it left
pub sets-before : (task : Task) (seeds sets new : Sets) (journal : List Visit) (cut : Bool) (visit : Visit) → AreHeld task.game seeds sets journal →
    IsRightVisit task.game task.gap sets new cut visit → sets_after seeds new journal ≡ sets
sets-before task seeds sets new journal cut visit held right =
    ap₂ (λ (ns : List NodeData) (ps : List PointData). sets_after seeds (made ns ps) journal) nodes.1 points.1
    ∙ first_members-stay seeds sets nodes.0 points.0 journal (omega (arith, held.all_nodes)) (omega (arith, held.all_points))
    ∙ ap₂ (λ (ns : List NodeData) (ps : List PointData). made ns ps) (taken _ sets.nodes held.all_nodes) (taken _ sets.points held.all_points)
  where
    made : List NodeData → List PointData → Sets
    made ns ps = record { nodes = ns; points = ps }

    taken : {X : Type 0} (n : ℕ) (xs : List X) → length xs ≡ n → take n xs ≡ xs
    taken n xs e = subst (λ (m : ℕ). take m xs ≡ xs) e (take-length xs)

    nodes : Grown sets.nodes new.nodes visit.node
    nodes = nodes-grow sets.nodes new.nodes visit.belief right.made.node visit.node right.node

    points : Grown sets.points new.points visit.point
    points = points-grow _ sets.points new.points visit.belief right.made.point visit.point right.point

pub one-more_visit : OneMoreVisit
one-more_visit task seeds sets new journal cut visit trials last run next shaped some = record {
  held = record {
    are_seeds = run.held.are_seeds;
    begin = stay [] (omega (arith, run.held.all_nodes)) (omega (arith, run.held.all_points)) ∙ run.held.begin;
    all_nodes = counted (length sets.nodes) (length seeds.nodes) (kept_nodes journal) (kept_nodes (visit ∷ [])) (length new.nodes) (kept_nodes (journal ++ visit ∷ [])) (length nodes.0)
        run.held.all_nodes (ap length nodes.1 ∙ length-append sets.nodes nodes.0) nodes.2 (kept_nodes-append journal (visit ∷ []));
    all_points = counted (length sets.points) (length seeds.points) (kept_points journal) (kept_points (visit ∷ [])) (length new.points) (kept_points (journal ++ visit ∷ [])) (length points.0)
        run.held.all_points (ap length points.1 ∙ length-append sets.points points.0) points.2 (kept_points-append journal (visit ∷ []));
  };
  right = λ earlier x later e. elim (parted journal visit earlier x later e) [
    | inl p ↦ right_last earlier x later p
    | inr p ↦ right_before earlier x later p
  ];
  linked = λ earlier x y later e down deep. elim (parted journal visit (earlier ++ x ∷ []) y later (e ∙ sym (append_assoc earlier (x ∷ []) (y ∷ later)))) [
    | inl p ↦ linked_last earlier x y later p down deep
    | inr p ↦ linked_before earlier x y later p down deep
  ];
  trials = trials;
  last = last;
  shaped = shaped;
  opened = λ earlier x later e top down. elim (parted journal visit earlier x later e) [
    | inl p ↦ opened_last earlier x later p top down
    | inr p ↦ opened_before earlier x later p top down
  ];
  some = λ _. some;
}
  where
    nodes : Grown sets.nodes new.nodes visit.node
    nodes = nodes-grow sets.nodes new.nodes visit.belief next.right.made.node visit.node next.right.node

    points : Grown sets.points new.points visit.point
    points = points-grow _ sets.points new.points visit.belief next.right.made.point visit.point next.right.point

    counted : (old seeded kept one total all more : ℕ) → old ≡ seeded + kept → total ≡ old + more → more ≡ one → all ≡ kept + one → total ≡ seeded + all
    counted old seeded kept one total all more a b c d = omega arith

    grown : new ≡ record { nodes = sets.nodes ++ nodes.0; points = sets.points ++ points.0 }
    grown = ap₂ (λ (ns : List NodeData) (ps : List PointData). made ns ps) nodes.1 points.1
      where
        made : List NodeData → List PointData → Sets
        made ns ps = record { nodes = ns; points = ps }

    stay : (visits : List Visit) → length seeds.nodes + kept_nodes visits ≤ length sets.nodes → length seeds.points + kept_points visits ≤ length sets.points →
        sets_after seeds new visits ≡ sets_after seeds sets visits
    stay visits few_nodes few_points =
        ap (λ (s : Sets). sets_after seeds s visits) grown ∙ first_members-stay seeds sets nodes.0 points.0 visits few_nodes few_points

    stay_in : (visits rest : List Visit) → journal ≡ visits ++ rest → sets_after seeds new visits ≡ sets_after seeds sets visits
    stay_in visits rest e =
        stay visits
        (fewer (length seeds.nodes) (kept_nodes visits) (kept_nodes rest) (kept_nodes journal) (length sets.nodes) run.held.all_nodes (ap kept_nodes e ∙ kept_nodes-append visits rest))
        (fewer (length seeds.points) (kept_points visits) (kept_points rest) (kept_points journal) (length sets.points) run.held.all_points (ap kept_points e ∙ kept_points-append visits rest))
      where
        fewer : (seeded first rest all total : ℕ) → total ≡ seeded + all → all ≡ first + rest → seeded + first ≤ total
        fewer seeded first rest all total a b = omega arith

    all_taken : {X : Type 0} (n : ℕ) (xs : List X) → length xs ≡ n → take n xs ≡ xs
    all_taken n xs e = subst (λ (m : ℕ). take m xs ≡ xs) e (take-length xs)

    whole : (s : Sets) (visits : List Visit) → length s.nodes ≡ length seeds.nodes + kept_nodes visits → length s.points ≡ length seeds.points + kept_points visits → sets_after seeds s visits ≡ s
    whole s visits a b = ap₂ (λ (ns : List NodeData) (ps : List PointData). made ns ps) (all_taken _ s.nodes a) (all_taken _ s.points b)
      where
        made : List NodeData → List PointData → Sets
        made ns ps = record { nodes = ns; points = ps }

    before_is : sets_after seeds new journal ≡ sets
    before_is = stay_in journal [] (sym (append-nil journal)) ∙ whole sets journal run.held.all_nodes run.held.all_points

    after_is : sets_after seeds new (journal ++ visit ∷ []) ≡ new
    after_is = whole new (journal ++ visit ∷ [])
        (counted (length sets.nodes) (length seeds.nodes) (kept_nodes journal) (kept_nodes (visit ∷ [])) (length new.nodes) (kept_nodes (journal ++ visit ∷ [])) (length nodes.0)
        run.held.all_nodes (ap length nodes.1 ∙ length-append sets.nodes nodes.0) nodes.2 (kept_nodes-append journal (visit ∷ [])))
        (counted (length sets.points) (length seeds.points) (kept_points journal) (kept_points (visit ∷ [])) (length new.points) (kept_points (journal ++ visit ∷ [])) (length points.0)
        run.held.all_points (ap length points.1 ∙ length-append sets.points points.0) points.2 (kept_points-append journal (visit ∷ [])))

    -- a right visit between other sets that are the same
    moved : (before after b a : Sets) (c d : Bool) (x : Visit) → b ≡ before → a ≡ after → d ≡ c → IsRightVisit task.game task.gap before after c x → IsRightVisit task.game task.gap b a d x
    moved before after b a c d x e f h r =
        subst (λ (s : Sets). IsRightVisit task.game task.gap s a d x) (sym e)
        (subst (λ (s : Sets). IsRightVisit task.game task.gap before s d x) (sym f)
        (subst (λ (k : Bool). IsRightVisit task.game task.gap before after k x) (sym h) r))

    right_last : (earlier : List Visit) (x : Visit) (later : List Visit) → AtLast journal visit earlier x later →
        IsRightVisit task.game task.gap (sets_after seeds new earlier) (sets_after seeds new (earlier ++ x ∷ [])) (cut_before cut later) x
    right_last earlier x later p =
        subst (λ (y : Visit). IsRightVisit task.game task.gap (sets_after seeds new earlier) (sets_after seeds new (earlier ++ y ∷ [])) (cut_before cut later) y) (sym p.2)
        (moved sets new _ _ cut _ visit
        (ap (sets_after seeds new) p.1 ∙ before_is)
        (ap (λ (ys : List Visit). sets_after seeds new (ys ++ visit ∷ [])) p.1 ∙ after_is)
        (ap (cut_before cut) p.0) next.right)

    right_before : (earlier : List Visit) (x : Visit) (later : List Visit) → Before journal visit earlier x later →
        IsRightVisit task.game task.gap (sets_after seeds new earlier) (sets_after seeds new (earlier ++ x ∷ [])) (cut_before cut later) x
    right_before earlier x later p =
        moved _ _ _ _ (cut_before false p.0) _ x
        (stay_in earlier (x ∷ p.0) p.2)
        (stay_in (earlier ++ x ∷ []) p.0 (p.2 ∙ sym (append_assoc earlier (x ∷ []) p.0)))
        (ap (cut_before cut) p.1 ∙ not_cut cut p.0 visit ∙ sym (no_cut p.0))
        (run.right earlier x p.0 p.2)

    linked_last : (earlier : List Visit) (x y : Visit) (later : List Visit) → AtLast journal visit (earlier ++ x ∷ []) y later → IsTrue y.down → y.depth ≡ suc x.depth →
        IsNextBelief task.game (sets_after seeds new earlier) x y.belief
    linked_last earlier x y later p down deep =
        subst (λ (s : Sets). IsNextBelief task.game s x y.belief) (sym (stay_in earlier (x ∷ []) (sym p.1)))
        (subst (λ (z : Visit). IsNextBelief task.game (sets_after seeds sets earlier) x z.belief) (sym p.2)
        (next.linked earlier x (sym p.1) (subst (λ (z : Visit). IsTrue z.down) p.2 down) (subst (λ (z : Visit). z.depth ≡ suc x.depth) p.2 deep)))

    linked_before : (earlier : List Visit) (x y : Visit) (later : List Visit) → Before journal visit (earlier ++ x ∷ []) y later → IsTrue y.down → y.depth ≡ suc x.depth →
        IsNextBelief task.game (sets_after seeds new earlier) x y.belief
    linked_before earlier x y later p down deep =
        let parts = p.2 ∙ append_assoc earlier (x ∷ []) (y ∷ p.0) in
        subst (λ (s : Sets). IsNextBelief task.game s x y.belief) (sym (stay_in earlier (x ∷ y ∷ p.0) parts))
        (run.linked earlier x y p.0 parts down deep)

    opened_last : (earlier : List Visit) (x : Visit) (later : List Visit) → AtLast journal visit earlier x later → x.depth ≡ 0 → IsTrue x.down →
        AreOpen task.game task.gap (sets_after seeds new earlier) × (x.trial < task.trials)
    opened_last earlier x later p top down =
        let here = next.opened (subst (λ (z : Visit). z.depth ≡ 0) p.2 top) (subst (λ (z : Visit). IsTrue z.down) p.2 down) in (
          subst (λ (s : Sets). AreOpen task.game task.gap s) (sym (ap (sets_after seeds new) p.1 ∙ before_is)) here.0,
          subst (λ (z : Visit). z.trial < task.trials) (sym p.2) here.1,
        )

    opened_before : (earlier : List Visit) (x : Visit) (later : List Visit) → Before journal visit earlier x later → x.depth ≡ 0 → IsTrue x.down →
        AreOpen task.game task.gap (sets_after seeds new earlier) × (x.trial < task.trials)
    opened_before earlier x later p top down =
        let here = run.opened earlier x p.0 p.2 top down in
        (subst (λ (s : Sets). AreOpen task.game task.gap s) (sym (stay_in earlier (x ∷ p.0) p.2)) here.0, here.1)
