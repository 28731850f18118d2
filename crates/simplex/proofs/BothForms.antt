-- A dictionary with a goal row and the same one with a row of costs say the same of a program.
use Rattle.std.proofs.Common.{ℕ, ◌+◌, ◌<◌, ◌≡◌, ◌==◌, cond, ℤ, pos, neg_ℤ, ◌-ℤ◌, ◌*ℤ◌, ◌<ℤ◌, List, length, refl, sym, ap, ap₂, subst, ◌∙◌, arith, inl, inr, eq-eqb, ne_eqb}
use Rattle.std.proofs.lemmas.Int.{ints}
use Rattle.std.proofs.lemmas.Bool.{cases_lt}
use Rattle.std.proofs.Math.IntN.{neg_ℤ-neg_ℤ}
use Rattle.simplex.specs.declared.Program.{Program}
use Rattle.simplex.specs.Program.{sum_to, at, row_count, variable_count, cell, limit, gain}
use Rattle.simplex.specs.Dictionary.{Dictionary, AreParted, AreCoprime, RowBelongs, GoalBelongs, IsDictionary}
use Rattle.simplex.specs.CostForm as cost
use Rattle.simplex.specs.CostForm.{CostForm, row_of, entry, owner, Belongs, IsRow}
use Rattle.simplex.specs.Forms.{turned, with_costs}
use Rattle.simplex.proofs.Combine.{sum_same}
use Rattle.simplex.proofs.Start.{times_zero}
use Rattle.simplex.proofs.Unique.{owner-below, owner-last}
use Rattle.simplex.proofs.Turned.{turned-lead, turned-constant, turned-coefficient, length-turned, turned_twice, AreCoprime-turned, row-below, row-last, entry-below, length-rows}

-- ---- numbers over all variables, and one more for the goal's value
extended : Program → ℤ → (ℕ → ℤ) → ℕ → ℤ
extended p last e v = cond (v == variable_count p + row_count p) last (e v)

extended-last : (p : Program) (last : ℤ) (e : ℕ → ℤ) (v : ℕ) → v ≡ variable_count p + row_count p → extended p last e v ≡ last
unfolding extended
extended-last p last e v h = ap (λ b. cond b last (e v)) (eq-eqb v (variable_count p + row_count p) h)

extended-below : (p : Program) (last : ℤ) (e : ℕ → ℤ) (v : ℕ) → v < variable_count p + row_count p → extended p last e v ≡ e v
unfolding extended
extended-below p last e v h = ap (λ b. cond b last (e v)) (ne_eqb v (variable_count p + row_count p) (λ i. omega arith))

sum_extended : (p : Program) (last : ℤ) (e w : ℕ → ℤ) → sum_to (row_count p) (λ i. extended p last e (variable_count p + i) *ℤ w i) ≡ sum_to (row_count p) (λ i. e (variable_count p + i) *ℤ w i)
sum_extended p last e w = sum_same (row_count p) _ _ (λ i il. ap (λ (y : ℤ). y *ℤ w i) (extended-below p last e (variable_count p + i) (omega arith)))

-- ---- from the goal row to the costs
less_nothing : (a s t g : ℤ) → a ≡ s → t ≡ pos 0 → a ≡ s -ℤ t *ℤ g
less_nothing a s t g e h = e ∙ sym (ap (λ (y : ℤ). s -ℤ y) (ap (λ (y : ℤ). y *ℤ g) h ∙ times_zero g) ∙ (let i : s -ℤ pos 0 ≡ s = omega (arith, ints) in i))

belongs-below : (p : Program) (d : Dictionary) (k : ℕ) → AreParted p d.basic d.out → k < row_count p → k < length d.rows → RowBelongs p d k → cost.RowBelongs p d.basic d.out k (row_of (with_costs d) k)
belongs-below p d k parted kl kh b =
    let n : ℕ = variable_count p in
    let m : ℕ = row_count p in
    let e : ℕ → ℤ = extended p (pos 0) b.e in
    let bl : length d.basic ≡ m = parted.basic_long in (
      e,
      record {
        at_own = ap e (owner-below p d.basic k (omega arith)) ∙ extended-below p (pos 0) b.e _ (parted.basic_below k kl) ∙ b.spread.lead ∙ sym (entry-below d k 0 kh);
        at_basic = λ s sl ne. elim (cases_lt s m) [
          | inl lt ↦ ap e (owner-below p d.basic s (omega arith)) ∙ extended-below p (pos 0) b.e _ (parted.basic_below s lt) ∙ b.spread.basic s lt ne
          | inr ge ↦ ap e (owner-last p d.basic s (omega arith)) ∙ extended-last p (pos 0) b.e _ refl
        ];
        at_out = λ q ql. extended-below p (pos 0) b.e _ (parted.out_below q ql) ∙ b.spread.out q ql ∙ sym (entry-below d k (q + 2) kh);
      },
      record {
        own = λ j jl. less_nothing (e j) _ (e (n + m)) (gain p j) (extended-below p (pos 0) b.e j (omega arith) ∙ b.own j jl ∙ sym (sum_extended p (pos 0) b.e (λ i. cell p i j))) (extended-last p (pos 0) b.e (n + m) refl);
        constant_is = entry-below d k 1 kh ∙ b.constant ∙ sym (sum_extended p (pos 0) b.e (limit p));
      },
    )

belongs-last : (p : Program) (d : Dictionary) (k : ℕ) → AreParted p d.basic d.out → k ≡ row_count p → k ≡ length d.rows → GoalBelongs p d → cost.RowBelongs p d.basic d.out k (row_of (with_costs d) k)
belongs-last p d k parted km kh b =
    let n : ℕ = variable_count p in
    let m : ℕ = row_count p in
    let lead : ℤ = at d.goal 0 in
    let g : ℕ → ℤ = λ v. neg_ℤ (b.f v) in
    let e : ℕ → ℤ = extended p lead g in
    let bl : length d.basic ≡ m = parted.basic_long in
    let reads : (column : ℕ) → at (row_of (with_costs d) k) column ≡ at (turned d.goal) column = λ column. ap (λ (row : List ℤ). at row column) (row-last d k kh) in (
      e,
      record {
        at_own = ap e (owner-last p d.basic k (omega arith)) ∙ extended-last p lead g _ refl ∙ sym (reads 0 ∙ turned-lead d.goal);
        at_basic = λ s sl ne. ap e (owner-below p d.basic s (omega arith)) ∙ extended-below p lead g _ (parted.basic_below s (omega arith)) ∙ ap neg_ℤ (b.basic s (omega arith));
        at_out = λ q ql. extended-below p lead g _ (parted.out_below q ql) ∙ ap neg_ℤ (b.out q ql) ∙ sym (reads (q + 2) ∙ turned-coefficient d.goal q);
      },
      record {
        own = λ j jl. extended-below p lead g j (omega arith) ∙ opposite (b.f j) (lead *ℤ gain p j) (sum_to m (λ i. g (n + i) *ℤ cell p i j)) (b.own j jl)
            ∙ ap₂ (λ (s t : ℤ). s -ℤ t *ℤ gain p j) (sym (sum_extended p lead g (λ i. cell p i j))) (sym (extended-last p lead g (n + m) refl));
        constant_is = reads 1 ∙ turned-constant d.goal ∙ b.constant ∙ sym (sum_extended p lead g (limit p));
      },
    )
  where
    opposite : (a s t : ℤ) → a ≡ s -ℤ t → neg_ℤ a ≡ t -ℤ s
    opposite a s t e = omega (arith, ints)

pub costs_of_dictionary : (p : Program) (d : Dictionary) → IsDictionary p d → cost.IsDictionary p (with_costs d)
costs_of_dictionary p d id =
    let m : ℕ = row_count p in
    let high : length d.rows ≡ m = id.high in
    record {
      parted = id.parted;
      high = length-rows d ∙ ap (λ (n : ℕ). n + 1) high;
      each = λ k kl. elim (cases_lt k m) [
        | inl lt ↦ record {
          long = ap length (row-below d k (omega arith)) ∙ id.long k lt;
          belongs = belongs-below p d k id.parted lt (omega arith) (id.belongs k lt);
          lead = subst (λ (y : ℤ). pos 0 <ℤ y) (sym (entry-below d k 0 (omega arith))) (id.leads k lt);
          coprime = subst AreCoprime (sym (row-below d k (omega arith))) (id.coprime k lt);
        }
        | inr ge ↦ (let last : row_of (with_costs d) k ≡ turned d.goal = row-last d k (omega arith) in record {
          long = ap length last ∙ length-turned d.goal ∙ id.goal_long;
          belongs = belongs-last p d k id.parted (omega arith) (omega arith) id.goal_belongs;
          lead = subst (λ (y : ℤ). pos 0 <ℤ y) (sym (ap (λ (row : List ℤ). at row 0) last ∙ turned-lead d.goal)) id.goal_lead;
          coprime = subst AreCoprime (sym last) (AreCoprime-turned d.goal id.goal_coprime);
        })
      ];
    }

-- ---- and from the costs to the goal row
twice : (p : Program) (e w : ℕ → ℤ) → sum_to (row_count p) (λ i. neg_ℤ (neg_ℤ (e (variable_count p + i))) *ℤ w i) ≡ sum_to (row_count p) (λ i. e (variable_count p + i) *ℤ w i)
twice p e w = sum_same (row_count p) (λ i. neg_ℤ (neg_ℤ (e (variable_count p + i))) *ℤ w i) (λ i. e (variable_count p + i) *ℤ w i) (λ i lt. ap (λ (y : ℤ). y *ℤ w i) (neg_ℤ-neg_ℤ (e (variable_count p + i))))

pub dictionary_of_costs : (p : Program) (d : Dictionary) → cost.IsDictionary p (with_costs d) → IsDictionary p d
dictionary_of_costs p d id =
    let n : ℕ = variable_count p in
    let m : ℕ = row_count p in
    let parted : AreParted p d.basic d.out = id.parted in
    let bl : length d.basic ≡ m = parted.basic_long in
    let high : length d.rows ≡ m = (let one = length-rows d in let two : length (with_costs d).rows ≡ m + 1 = id.high in omega arith) in
    let last : row_of (with_costs d) m ≡ turned d.goal = row-last d m (omega arith) in
    let reads : (column : ℕ) → entry (with_costs d) m column ≡ at (turned d.goal) column = λ column. ap (λ (row : List ℤ). at row column) last in
    let goal : IsRow p d.basic d.out m (row_of (with_costs d) m) = id.each m (omega arith) in
    let gl : at d.goal 0 ≡ entry (with_costs d) m 0 = sym (reads 0 ∙ turned-lead d.goal) in
    record {
      parted = parted;
      high = high;
      long = λ k kl. ap length (sym (row-below d k (omega arith))) ∙ (id.each k (omega arith)).long;
      goal_long = sym (length-turned d.goal) ∙ ap length (sym last) ∙ goal.long;
      leads = λ k kl. subst (λ (y : ℤ). pos 0 <ℤ y) (entry-below d k 0 (omega arith)) (id.each k (omega arith)).lead;
      goal_lead = subst (λ (y : ℤ). pos 0 <ℤ y) (sym gl) goal.lead;
      coprime = λ k kl. subst AreCoprime (row-below d k (omega arith)) (id.each k (omega arith)).coprime;
      goal_coprime = subst AreCoprime (ap turned last ∙ turned_twice d.goal) (AreCoprime-turned _ goal.coprime);
      belongs = λ k kl. row_belongs k kl (omega arith) (id.each k (omega arith)).belongs;
      goal_belongs = goal_belongs gl last goal.belongs;
    }
  where
    less : (a s t g : ℤ) → a ≡ s -ℤ t *ℤ g → t ≡ pos 0 → a ≡ s
    less a s t g e h = e ∙ ap (λ (y : ℤ). s -ℤ y) (ap (λ (y : ℤ). y *ℤ g) h ∙ times_zero g) ∙ (let i : s -ℤ pos 0 ≡ s = omega (arith, ints) in i)

    row_belongs : (k : ℕ) → k < row_count p → k < length d.rows → cost.RowBelongs p d.basic d.out k (row_of (with_costs d) k) → RowBelongs p d k
    row_belongs k kl kh (e, spread, b) =
        let bl : length d.basic ≡ row_count p = id.parted.basic_long in
        record {
          e = e;
          spread = record {
            lead = ap e (sym (owner-below p d.basic k (omega arith))) ∙ spread.at_own ∙ entry-below d k 0 kh;
            basic = λ s sl ne. ap e (sym (owner-below p d.basic s (omega arith))) ∙ spread.at_basic s (omega arith) ne;
            out = λ q ql. spread.at_out q ql ∙ entry-below d k (q + 2) kh;
          };
          own = λ j jl. less (e j) _ (e (variable_count p + row_count p)) (gain p j) (b.own j jl) (ap e (sym (owner-last p d.basic (row_count p) (omega arith))) ∙ spread.at_basic (row_count p) (omega arith) (λ i. omega arith));
          constant = sym (entry-below d k 1 kh) ∙ b.constant_is;
        }

    opposite : (a s t u : ℤ) → a ≡ s -ℤ t → u ≡ s → neg_ℤ a ≡ t -ℤ u
    opposite a s t u e h = omega (arith, ints)

    goal_belongs : at d.goal 0 ≡ entry (with_costs d) (row_count p) 0 → row_of (with_costs d) (row_count p) ≡ turned d.goal → cost.RowBelongs p d.basic d.out (row_count p) (row_of (with_costs d) (row_count p)) → GoalBelongs p d
    goal_belongs gl last (e, spread, b) =
        let m : ℕ = row_count p in
        let bl : length d.basic ≡ m = id.parted.basic_long in
        let lead : e (variable_count p + m) ≡ at d.goal 0 = ap e (sym (owner-last p d.basic m (omega arith))) ∙ spread.at_own ∙ sym gl in
        record {
          f = λ v. neg_ℤ (e v);
          basic = λ s sl. ap neg_ℤ (ap e (sym (owner-below p d.basic s (omega arith))) ∙ spread.at_basic s (omega arith) (λ i. omega arith));
          out = λ q ql. ap neg_ℤ (spread.at_out q ql ∙ ap (λ (row : List ℤ). at row (q + 2)) last ∙ turned-coefficient d.goal q) ∙ neg_ℤ-neg_ℤ (at d.goal (q + 2));
          own = λ j jl. opposite (e j) _ _ _ (b.own j jl) (twice p e (λ i. cell p i j)) ∙ ap (λ (y : ℤ). y *ℤ gain p j -ℤ sum_to m (λ i. neg_ℤ (neg_ℤ (e (variable_count p + i))) *ℤ cell p i j)) lead;
          constant = sym (turned-constant d.goal) ∙ sym (ap (λ (row : List ℤ). at row 1) last) ∙ b.constant_is ∙ sym (twice p e (limit p));
        }
