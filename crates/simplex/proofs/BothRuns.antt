-- The textbook run with goal rows and the same run with rows of costs.
use Rattle.std.proofs.Common.{ℕ, zero, suc, ◌+◌, ◌<◌, ◌≤◌, ◌≡◌, ◌^◌, ℤ, pos, neg_ℤ, ◌*ℤ◌, ◌<ℤ◌, ◌≤ℤ◌, List, [], ◌∷◌, length, get_or, refl, sym, ap, ap₂, subst, subst₂, ◌∙◌, arith, inl, inr, unsigned_abs}
use Rattle.std.proofs.lemmas.Int.{ints}
use Rattle.std.proofs.lemmas.Bool.{cases_lt}
use Rattle.std.proofs.lemmas.List.{length-append, get_or_append_left}
use Rattle.std.proofs.Math.Seq.{get_or-append_seam}
use Rattle.simplex.specs.declared.Program.{Program}
use Rattle.simplex.specs.declared.End.{End}
use Rattle.simplex.specs.declared.End.TheVariants.{Optimal, Spent, Unbounded, Wide}
use Rattle.simplex.specs.Program.{at, row_count, AllNarrow}
use Rattle.simplex.specs.Dictionary.{Dictionary, IsDictionary, IsNarrowDictionary, IsFeasible, number}
use Rattle.simplex.specs.Run.{IsImproving, Enters, IsBounding, ratio, Leaves, IsTraded, IsFirst, IsPivot, IsRun, IsWideAt, all_rows, Ends, RunEnds}
use Rattle.simplex.specs.CostForm as cost
use Rattle.simplex.specs.CostOptimum as inner
use Rattle.simplex.specs.CostForm.{CostForm, row_of, entry, Stands, Pivot}
use Rattle.simplex.specs.Forms.{turned, with_costs, with_goal}
use Rattle.simplex.proofs.Turned.{turned-coefficient, turned-size, length-turned, turned_twice, AllNarrow-turned, row-below, row-last, entry-below, length-rows, with_costs-with_goal}
use Rattle.simplex.proofs.BothForms.{costs_of_dictionary, dictionary_of_costs}
use Rattle.simplex.proofs.Read.{number-with_goal}
use Rattle.simplex.proofs.Unique.{Stands-dictionary}

-- as many rows as basic variables
abbrev pub Square : Dictionary → Type 0
Square d = length d.rows ≡ length d.basic

pub square : (p : Program) (d : Dictionary) → IsDictionary p d → Square d
square p d id = id.high ∙ sym id.parted.basic_long

-- ---- the rule
cost_is : (d : Dictionary) (q : ℕ) → Square d → entry (with_costs d) (length d.basic) (q + 2) ≡ neg_ℤ (at d.goal (q + 2))
cost_is d q h = ap (λ (row : List ℤ). at row (q + 2)) (row-last d (length d.basic) (sym h)) ∙ turned-coefficient d.goal q

negative : (a b : ℤ) → b ≡ neg_ℤ a → pos 0 <ℤ a → b <ℤ pos 0
negative a b e h = omega (arith, ints)

positive : (a b : ℤ) → b ≡ neg_ℤ a → b <ℤ pos 0 → pos 0 <ℤ a
positive a b e h = omega (arith, ints)

pub improving_to : (d : Dictionary) (q : ℕ) → Square d → IsImproving d q → cost.IsImproving (with_costs d) q
improving_to d q h i = (i.0, negative (at d.goal (q + 2)) _ (cost_is d q h) i.1)

pub improving_from : (d : Dictionary) (q : ℕ) → Square d → cost.IsImproving (with_costs d) q → IsImproving d q
improving_from d q h i = (i.0, positive (at d.goal (q + 2)) _ (cost_is d q h) i.1)

pub enters_to : (d : Dictionary) (q : ℕ) → Square d → Enters d q → cost.Enters (with_costs d) q
enters_to d q h e = record { improving = improving_to d q h e.improving; least = λ t i. e.least t (improving_from d t h i) }

pub enters_from : (d : Dictionary) (q : ℕ) → Square d → cost.Enters (with_costs d) q → Enters d q
enters_from d q h e = record { improving = improving_from d q h e.improving; least = λ t i. e.least t (improving_to d t h i) }

pub entry_is : (d : Dictionary) (k column : ℕ) → Square d → k < length d.basic → entry (with_costs d) k column ≡ number d k column
entry_is d k column h kl = entry-below d k column (omega arith)

pub bounding_to : (d : Dictionary) (q k : ℕ) → Square d → IsBounding d q k → cost.IsBounding (with_costs d) q k
bounding_to d q k h b = (b.0, subst (λ (y : ℤ). pos 0 <ℤ y) (sym (entry_is d k (q + 2) h b.0)) b.1)

pub bounding_from : (d : Dictionary) (q k : ℕ) → Square d → cost.IsBounding (with_costs d) q k → IsBounding d q k
bounding_from d q k h b = (b.0, subst (λ (y : ℤ). pos 0 <ℤ y) (entry_is d k (q + 2) h b.0) b.1)

ratio_is : (d : Dictionary) (q k s : ℕ) → Square d → k < length d.basic → s < length d.basic → cost.ratio (with_costs d) q k s ≡ ratio d q k s
ratio_is d q k s h kl sl = ap₂ ◌*ℤ◌ (entry_is d k 1 h kl) (entry_is d s (q + 2) h sl)

pub leaves_to : (d : Dictionary) (q k : ℕ) → Square d → Leaves d q k → cost.Leaves (with_costs d) q k
leaves_to d q k h l = record {
  bounding = bounding_to d q k h l.bounding;
  least = λ s b. subst₂ (λ (x y : ℤ). x ≤ℤ y) (sym (ratio_is d q k s h l.bounding.0 b.0)) (sym (ratio_is d q s k h b.0 l.bounding.0)) (l.least s (bounding_from d q s h b));
  first = λ s b e. l.first s (bounding_from d q s h b) (sym (ratio_is d q k s h l.bounding.0 b.0) ∙ e ∙ ratio_is d q s k h b.0 l.bounding.0);
}

pub leaves_from : (d : Dictionary) (q k : ℕ) → Square d → cost.Leaves (with_costs d) q k → Leaves d q k
leaves_from d q k h l = record {
  bounding = bounding_from d q k h l.bounding;
  least = λ s b. subst₂ (λ (x y : ℤ). x ≤ℤ y) (ratio_is d q k s h l.bounding.0 b.0) (ratio_is d q s k h b.0 l.bounding.0) (l.least s (bounding_to d q s h b));
  first = λ s b e. l.first s (bounding_to d q s h b) (ratio_is d q k s h l.bounding.0 b.0 ∙ e ∙ sym (ratio_is d q s k h b.0 l.bounding.0));
}

pub traded_to : (p : Program) (d new : Dictionary) (q k : ℕ) → IsTraded p d q k new → cost.IsTraded p (with_costs d) q k (with_costs new)
traded_to p d new q k t = record { dictionary = costs_of_dictionary p new t.dictionary; basic = t.basic; out = t.out }

pub traded_from : (p : Program) (d new : Dictionary) (q k : ℕ) → cost.IsTraded p (with_costs d) q k (with_costs new) → IsTraded p d q k new
traded_from p d new q k t = record { dictionary = dictionary_of_costs p new t.dictionary; basic = t.basic; out = t.out }

-- ---- narrow numbers
pub narrow_to : (p : Program) (d : Dictionary) → length d.rows ≡ row_count p → IsNarrowDictionary d → cost.IsNarrowDictionary p (with_costs d)
narrow_to p d h n = λ k kl. elim (cases_lt k (row_count p)) [
  | inl lt ↦ subst AllNarrow (sym (row-below d k (omega arith))) (n.rows k (omega arith))
  | inr ge ↦ subst AllNarrow (sym (row-last d k (omega arith))) (AllNarrow-turned d.goal n.goal)
]

pub narrow_from : (p : Program) (d : Dictionary) → length d.rows ≡ row_count p → cost.IsNarrowDictionary p (with_costs d) → IsNarrowDictionary d
narrow_from p d h n = record {
  rows = λ k kl. subst AllNarrow (row-below d k kl) (n k (omega arith));
  goal = subst AllNarrow (ap turned (row-last d (row_count p) (sym h)) ∙ turned_twice d.goal) (AllNarrow-turned _ (n (row_count p) (omega arith)));
}

-- ---- the run
pub first_to : (p : Program) (d : Dictionary) → IsFirst p d → cost.IsFirst p (with_costs d)
first_to p d f = record { dictionary = costs_of_dictionary p d f.dictionary; basic = f.basic; out = f.out }

pub first_from : (p : Program) (d : Dictionary) → cost.IsFirst p (with_costs d) → IsFirst p d
first_from p d f = record { dictionary = dictionary_of_costs p d f.dictionary; basic = f.basic; out = f.out }

pub pivot_to : (p : Program) (d new : Dictionary) → Square d → IsPivot p d new → Pivot p (with_costs d) (with_costs new)
pivot_to p d new h i = record {
  q = i.q;
  k = i.k;
  enters = enters_to d i.q h i.enters;
  leaves = leaves_to d i.q i.k h i.leaves;
  traded = traded_to p d new i.q i.k i.traded;
  narrow = narrow_to p new i.traded.dictionary.high i.narrow;
}

pub pivot_from : (p : Program) (d new : Dictionary) → Square d → Pivot p (with_costs d) (with_costs new) → IsPivot p d new
pivot_from p d new h i =
    let t : IsTraded p d i.q i.k new = traded_from p d new i.q i.k i.traded in
    record {
      q = i.q;
      k = i.k;
      enters = enters_from d i.q h i.enters;
      leaves = leaves_from d i.q i.k h i.leaves;
      traded = t;
      narrow = narrow_from p new t.dictionary.high i.narrow;
    }

pub run_dictionary : (p : Program) (d : Dictionary) (before : List Dictionary) → IsRun p (d ∷ before) → IsDictionary p d
run_dictionary p d [] r = r.dictionary
run_dictionary p d (last ∷ before) r = r.0.traded.dictionary

pub run_to : (p : Program) (d : Dictionary) (before : List Dictionary) → IsRun p (d ∷ before) → Stands p (length before) (with_costs d)
run_to p d [] r = first_to p d r
run_to p d (last ∷ before) r = (with_costs last, run_to p last before r.1, pivot_to p last d (square p last (run_dictionary p last before r.1)) r.0)

high_of : (p : Program) (d : CostForm) → cost.IsDictionary p d → length d.rows ≡ length d.basic + 1
high_of p d id = id.high ∙ ap (λ (n : ℕ). n + 1) (sym id.parted.basic_long)

back : (p : Program) (d : CostForm) → cost.IsDictionary p d → with_costs (with_goal d) ≡ d
back p d id = with_costs-with_goal d (high_of p d id)

pub dictionary_from : (p : Program) (d : CostForm) → cost.IsDictionary p d → IsDictionary p (with_goal d)
dictionary_from p d id = dictionary_of_costs p (with_goal d) (subst (cost.IsDictionary p) (sym (back p d id)) id)

pub narrow_with_goal : (p : Program) (d : CostForm) → cost.IsDictionary p d → cost.IsNarrowDictionary p d → IsNarrowDictionary (with_goal d)
narrow_with_goal p d id n = narrow_from p (with_goal d) (dictionary_from p d id).high (subst (cost.IsNarrowDictionary p) (sym (back p d id)) n)

pub feasible_with_goal : (d : CostForm) → inner.IsFeasible d → IsFeasible (with_goal d)
feasible_with_goal d f = λ k kl. subst (λ (y : ℤ). pos 0 ≤ℤ y) (sym (number-with_goal d k 1 kl)) (f.each k kl)

pub run_from : (p : Program) (made : ℕ) (d : CostForm) → Stands p made d → (before : List Dictionary) × (length before ≡ made) × IsRun p (with_goal d ∷ before)
run_from p zero d s = ([], refl, first_from p (with_goal d) (subst (cost.IsFirst p) (sym (back p d s.dictionary)) s))
run_from p (suc made) d (last, s, pivot) =
    let r = run_from p made last s in
    let id : cost.IsDictionary p last = Stands-dictionary p made last s in
    let same : with_costs (with_goal last) ≡ last = back p last id in
    let last_is : IsDictionary p (with_goal last) = dictionary_of_costs p (with_goal last) (subst (cost.IsDictionary p) (sym same) id) in (
      with_goal last ∷ r.0,
      ap suc r.1,
      (pivot_from p (with_goal last) (with_goal d) (square p (with_goal last) last_is) (subst₂ (Pivot p) (sym same) (sym (back p d pivot.traded.dictionary)) pivot), r.2),
    )

-- ---- the ends
size_of_row : (d : Dictionary) (k : ℕ) → k ≤ length d.rows → (length (row_of (with_costs d) k) ≡ length (get_or (all_rows d) k [])) × ((j : ℕ) → unsigned_abs (entry (with_costs d) k j) ≡ unsigned_abs (at (get_or (all_rows d) k []) j))
size_of_row d k kl = elim (cases_lt k (length d.rows)) [
  | inl lt ↦ (let e : row_of (with_costs d) k ≡ get_or (all_rows d) k [] = row-below d k lt ∙ sym (get_or_append_left d.rows (d.goal ∷ []) [] k lt) in (ap length e, λ j. ap (λ (row : List ℤ). unsigned_abs (at row j)) e))
  | inr ge ↦
      (let one : row_of (with_costs d) k ≡ turned d.goal = row-last d k (omega arith) in
      let two : get_or (all_rows d) k [] ≡ d.goal = ap (λ (i : ℕ). get_or (all_rows d) i []) (let e : k ≡ length d.rows = omega arith in e) ∙ get_or-append_seam d.rows d.goal [] [] in (
        ap length one ∙ length-turned d.goal ∙ ap length (sym two),
        λ j. ap (λ (row : List ℤ). unsigned_abs (at row j)) one ∙ turned-size d.goal j ∙ ap (λ (row : List ℤ). unsigned_abs (at row j)) (sym two),
      ))
]

length-all_rows : (d : Dictionary) → length (all_rows d) ≡ length d.rows + 1
length-all_rows d = length-append d.rows (d.goal ∷ [])

narrow_row : (a b : List ℤ) → length a ≡ length b → ((j : ℕ) → unsigned_abs (at a j) ≡ unsigned_abs (at b j)) → AllNarrow a → AllNarrow b
narrow_row a b long same n = λ j jl. subst (λ (i : ℕ). i < 2 ^ 62) (same j) (n j (omega arith))

pub wide_to : (d : Dictionary) (row column : ℕ) → IsWideAt (all_rows d) row column → cost.IsWideAt (with_costs d) row column
wide_to d row column w =
    let rl : row ≤ length d.rows = (let a = length-all_rows d in let b = w.row_inside in omega arith) in
    let here = size_of_row d row rl in
    record {
      row_inside = (let a = length-rows d in omega arith);
      column_inside = (let a = w.column_inside in let b = here.0 in omega arith);
      wide = subst (λ (i : ℕ). 2 ^ 62 ≤ i) (sym (here.1 column)) w.wide;
      rows_before = λ k kl. (let there = size_of_row d k (omega arith) in narrow_row _ _ (sym there.0) (λ j. sym (there.1 j)) (w.rows_before k kl));
      columns_before = λ j jl. subst (λ (i : ℕ). i < 2 ^ 62) (sym (here.1 j)) (w.columns_before j jl);
    }

pub wide_from : (d : Dictionary) (row column : ℕ) → cost.IsWideAt (with_costs d) row column → IsWideAt (all_rows d) row column
wide_from d row column w =
    let rl : row ≤ length d.rows = (let a = length-rows d in let b = w.row_inside in omega arith) in
    let here = size_of_row d row rl in
    record {
      row_inside = (let a = length-all_rows d in omega arith);
      column_inside = (let a = w.column_inside in let b = here.0 in omega arith);
      wide = subst (λ (i : ℕ). 2 ^ 62 ≤ i) (here.1 column) w.wide;
      rows_before = λ k kl. (let there = size_of_row d k (omega arith) in narrow_row _ _ there.0 there.1 (w.rows_before k kl));
      columns_before = λ j jl. subst (λ (i : ℕ). i < 2 ^ 62) (here.1 j) (w.columns_before j jl);
    }

pub ends_to : (p : Program) (pivots made : ℕ) (d : Dictionary) (end : End) → Square d → Ends p pivots made d end → cost.Ends p pivots made (with_costs d) end
ends_to p pivots made d Optimal h e = λ q i. e q (improving_from d q h i)
ends_to p pivots made d Spent h e = (e.0, (e.1.0, improving_to d e.1.0 h e.1.1))
ends_to p pivots made d (Unbounded col) h e = (e.0, record { q = e.1.q; enters = enters_to d e.1.q h e.1.enters; unbounded = λ k b. e.1.unbounded k (bounding_from d e.1.q k h b); named = e.1.named })
ends_to p pivots made d (Wide row col) h e = (e.0, record { q = e.1.q; k = e.1.k; enters = enters_to d e.1.q h e.1.enters; leaves = leaves_to d e.1.q e.1.k h e.1.leaves; new = with_costs e.1.new; traded = traded_to p d e.1.new e.1.q e.1.k e.1.traded; at_place = wide_to e.1.new row col e.1.wide })

pub ends_from : (p : Program) (pivots made : ℕ) (d : Dictionary) (end : End) → Square d → cost.Ends p pivots made (with_costs d) end → Ends p pivots made d end
ends_from p pivots made d Optimal h e = λ q i. e q (improving_to d q h i)
ends_from p pivots made d Spent h e = (e.0, (e.1.0, improving_from d e.1.0 h e.1.1))
ends_from p pivots made d (Unbounded col) h e = (e.0, record { q = e.1.q; enters = enters_from d e.1.q h e.1.enters; unbounded = λ k b. e.1.unbounded k (bounding_to d e.1.q k h b); named = e.1.named })
ends_from p pivots made d (Wide row col) h (less, e) =
    let same : with_costs (with_goal e.new) ≡ e.new = back p e.new e.traded.dictionary in (
      less,
      record {
        q = e.q;
        k = e.k;
        enters = enters_from d e.q h e.enters;
        leaves = leaves_from d e.q e.k h e.leaves;
        new = with_goal e.new;
        traded = traded_from p d (with_goal e.new) e.q e.k (subst (cost.IsTraded p (with_costs d) e.q e.k) (sym same) e.traded);
        wide = wide_from (with_goal e.new) row col (subst (λ (n : CostForm). cost.IsWideAt n row col) (sym same) e.at_place);
      },
    )

-- a run that ends so in one form ends so in the other
unfoldable pub run_ends_to : (p : Program) (pivots : ℕ) (d : Dictionary) (end : End) → RunEnds p pivots d end → cost.RunEnds p pivots (with_costs d) end
run_ends_to p pivots d end r = record {
  made = length r.before;
  within = r.within;
  stands = run_to p d r.before r.run;
  ends = ends_to p pivots (length r.before) d end (square p d (run_dictionary p d r.before r.run)) r.ends;
}

pub run_ends_from : (p : Program) (pivots : ℕ) (d : CostForm) (end : End) → cost.RunEnds p pivots d end → RunEnds p pivots (with_goal d) end
run_ends_from p pivots d end r =
    let s = run_from p r.made d r.stands in
    let same : with_costs (with_goal d) ≡ d = back p d (Stands-dictionary p r.made d r.stands) in
    record {
      before = s.0;
      run = s.2;
      within = subst (λ (i : ℕ). i ≤ pivots) (sym s.1) r.within;
      ends = ends_from p pivots (length s.0) (with_goal d) end (square p (with_goal d) (run_dictionary p (with_goal d) s.0 s.2))
          (subst (λ (i : ℕ). cost.Ends p pivots i (with_costs (with_goal d)) end) (sym s.1) (subst (λ (e : CostForm). cost.Ends p pivots r.made e end) (sym same) r.ends));
    }
