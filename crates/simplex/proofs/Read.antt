-- At the end of an optimal run the values and multipliers that are read exist over common denominators and are an optimum.
use Rattle.std.proofs.Common.{ℕ, zero, suc, ◌+◌, ◌<◌, ◌≤◌, ◌≡◌, ◌≢◌, ◌⊎◌, ℤ, pos, neg_ℤ, ◌*ℤ◌, ◌<ℤ◌, ◌≤ℤ◌, List, [], ◌∷◌, length, slice_index, refl, sym, ap, subst, ◌∙◌, arith, inl, inr}
use Rattle.std.proofs.lemmas.Int.{ints}
use Rattle.std.proofs.lemmas.Bool.{cases_lt, cases_eq}
use Rattle.std.proofs.lemmas.List.{get_or-take}
use Rattle.std.proofs.Math.IntN.{neg_ℤ-neg_ℤ}
use Rattle.scaled_num.proofs.Ring.{ring, x, ◌⊗◌}
use Rattle.simplex.specs.declared.Program.{Program}
use Rattle.simplex.specs.Program.{sum_to, at, row_count, variable_count, cell, gain}
use Rattle.simplex.specs.Dictionary.{AreParted, number}
use Rattle.simplex.specs.Reading.{IsPrimal, IsDual, AreRead, IsOptimum}
use Rattle.simplex.specs.CostForm as cost
use Rattle.simplex.specs.CostForm.{CostForm, row_of, entry, owner, IsRow}
use Rattle.simplex.specs.CostOptimum as inner
use Rattle.simplex.specs.CostOptimum.{ArePrimal, AreDual}
use Rattle.simplex.specs.Forms.{with_goal}
use Rattle.simplex.proofs.Combine.{cancel}
use Rattle.simplex.proofs.Choice.{times_lt}
use Rattle.simplex.proofs.Start.{times_zero}
use Rattle.simplex.proofs.Turned.{turned-lead, turned-coefficient}
use Rattle.simplex.proofs.Unique.{owner-below, owner-last}

-- ---- a common denominator: the product of the leads
pub product_to : ℕ → (ℕ → ℤ) → ℤ
product_to zero f = pos 1
product_to (suc k) f = product_to k f *ℤ f k

pub positive_product : (a b : ℤ) → pos 0 <ℤ a → pos 0 <ℤ b → pos 0 <ℤ (a *ℤ b)
positive_product a b h k = subst (λ (y : ℤ). y <ℤ (a *ℤ b)) (times_zero b) (times_lt (pos 0) a b h k)

pub product_positive : (n : ℕ) (f : ℕ → ℤ) → ((k : ℕ) → k < n → pos 0 <ℤ f k) → pos 0 <ℤ product_to n f
unfolding product_to
product_positive zero f h = omega (arith, ints)
product_positive (suc n) f h = positive_product (product_to n f) (f n) (product_positive n f (λ k kl. h k (omega arith))) (h n (omega arith))

-- what the factor at k leaves of it
cofactor : (n : ℕ) (f : ℕ → ℤ) (k : ℕ) → k < n → (c : ℤ) × (f k *ℤ c ≡ product_to n f)
unfolding product_to
cofactor zero f k h = absurd (omega arith)
cofactor (suc n) f k h = elim (cases_eq k n) [
  | inl e ↦ (product_to n f, ap (λ (i : ℕ). f i *ℤ product_to n f) e ∙ ring (f n ∷ product_to n f ∷ []) (x 0 ⊗ x 1) (x 1 ⊗ x 0) (omega arith))
  | inr ne ↦ (let c = cofactor n f k (omega arith) in (c.0 *ℤ f n, ring (f k ∷ c.0 ∷ f n ∷ []) (x 0 ⊗ (x 1 ⊗ x 2)) ((x 0 ⊗ x 1) ⊗ x 2) (omega arith) ∙ ap (λ (y : ℤ). y *ℤ f n) c.1))
]

-- ---- where a variable stands
pub Found : (ℕ → ℕ) → ℕ → ℕ → Type 0
Found f n v = ((k : ℕ) × (k < n) × (f k ≡ v)) ⊎ ((k : ℕ) → k < n → f k ≢ v)

pub find : (f : ℕ → ℕ) (n v : ℕ) → Found f n v
unfolding Found
find f zero v = inr (λ k kl. absurd (omega arith))
find f (suc n) v = elim (cases_eq (f n) v) [
  | inl e ↦ inl (n, omega arith, e)
  | inr ne ↦ elim (find f n v) [
    | inl (k, kl, e) ↦ inl (k, omega arith, e)
    | inr none ↦ inr (λ k kl. elim (cases_lt k n) [ inl lt ↦ none k lt | inr ge ↦ (λ e. ne (ap f (let i : n ≡ k = omega arith in i) ∙ e)) ])
  ]
]

-- ---- values
pub value_at : (n : ℕ) (leads constants : ℕ → ℤ) (f : ℕ → ℕ) (v : ℕ) → Found f n v → ℤ
unfolding Found
value_at n leads constants f v (inl (k, kl, e)) = constants k *ℤ (cofactor n leads k kl).0
value_at n leads constants f v (inr none) = pos 0

pub value_there : (n : ℕ) (leads constants : ℕ → ℤ) (f : ℕ → ℕ) (k : ℕ) → k < n → ((s : ℕ) → s < n → f s ≡ f k → s ≡ k) → (h : Found f n (f k)) → leads k *ℤ value_at n leads constants f (f k) h ≡ constants k *ℤ product_to n leads
unfolding value_at Found
value_there n leads constants f k kl once (inl (s, sl, e)) =
    let c = cofactor n leads s sl in
    let same : s ≡ k = once s sl e in
    subst (λ (i : ℕ). leads i *ℤ (constants s *ℤ c.0) ≡ constants i *ℤ product_to n leads) same
    (ring (leads s ∷ constants s ∷ c.0 ∷ []) (x 0 ⊗ (x 1 ⊗ x 2)) (x 1 ⊗ (x 0 ⊗ x 2)) (omega arith) ∙ ap (λ (y : ℤ). constants s *ℤ y) c.1)
value_there n leads constants f k kl once (inr none) = absurd (none k kl refl)

pub value_nowhere : (n : ℕ) (leads constants : ℕ → ℤ) (f : ℕ → ℕ) (v : ℕ) → ((k : ℕ) → k < n → f k ≢ v) → (h : Found f n v) → value_at n leads constants f v h ≡ pos 0
unfolding value_at Found
value_nowhere n leads constants f v no_place (inl (k, kl, e)) = absurd (no_place k kl e)
value_nowhere n leads constants f v no_place (inr none) = refl

pub owner_once : (p : Program) (d : CostForm) (s k : ℕ) → AreParted p d.basic d.out → s ≤ row_count p → k ≤ row_count p → owner p d.basic s ≡ owner p d.basic k → s ≡ k
owner_once p d s k parted sl kl e =
    let m : ℕ = row_count p in
    let bl : length d.basic ≡ m = parted.basic_long in
    elim (cases_lt s m) [
      | inl sm ↦ elim (cases_lt k m) [
        | inl km ↦ parted.basic_once s k sm km (sym (owner-below p d.basic s (omega arith)) ∙ e ∙ owner-below p d.basic k (omega arith))
        | inr ge ↦ absurd (let a = parted.basic_below s sm in let b = owner-below p d.basic s (omega arith) in let c = owner-last p d.basic k (omega arith) in omega arith)
      ]
      | inr se ↦ elim (cases_lt k m) [
        | inl km ↦ absurd (let a = parted.basic_below k km in let b = owner-below p d.basic k (omega arith) in let c = owner-last p d.basic s (omega arith) in omega arith)
        | inr ge ↦ omega arith
      ]
    ]

pub owner_apart : (p : Program) (d : CostForm) (k q : ℕ) → AreParted p d.basic d.out → k ≤ row_count p → q < variable_count p → owner p d.basic k ≢ slice_index d.out q
owner_apart p d k q parted kl ql e =
    let bl : length d.basic ≡ row_count p = parted.basic_long in
    elim (cases_lt k (row_count p)) [
      | inl lt ↦ parted.apart k q lt ql (sym (owner-below p d.basic k (omega arith)) ∙ e)
      | inr ge ↦ (let a = parted.out_below q ql in let b = owner-last p d.basic k (omega arith) in omega arith)
    ]

-- ---- multipliers
multiplier_at : (n : ℕ) (costs : ℕ → ℤ) (f : ℕ → ℕ) (v : ℕ) → Found f n v → ℤ
unfolding Found
multiplier_at n costs f v (inl (q, ql, e)) = costs q
multiplier_at n costs f v (inr none) = pos 0

multiplier_there : (n : ℕ) (costs : ℕ → ℤ) (f : ℕ → ℕ) (v q : ℕ) → q < n → f q ≡ v → ((s : ℕ) → s < n → f s ≡ f q → s ≡ q) → (h : Found f n v) → multiplier_at n costs f v h ≡ costs q
unfolding multiplier_at Found
multiplier_there n costs f v q ql at_q once (inl (s, sl, e)) = ap costs (once s sl (e ∙ sym at_q))
multiplier_there n costs f v q ql at_q once (inr none) = absurd (none q ql at_q)

multiplier_nowhere : (n : ℕ) (costs : ℕ → ℤ) (f : ℕ → ℕ) (v : ℕ) → ((k : ℕ) → k < n → f k ≢ v) → (h : Found f n v) → multiplier_at n costs f v h ≡ pos 0
unfolding multiplier_at Found
multiplier_nowhere n costs f v no_place (inl (k, kl, e)) = absurd (no_place k kl e)
multiplier_nowhere n costs f v no_place (inr none) = refl

-- ---- both exist
pub record Values (p : Program) (d : CostForm) : Type 0 where
  pub denominator : ℤ
  pub values : ℕ → ℤ
  pub multipliers : ℕ → ℤ
  pub primal : ArePrimal p d denominator values
  pub dual : AreDual p d multipliers

pub there : (p : Program) (d : CostForm) → cost.IsDictionary p d → Values p d
there p d id =
    let n : ℕ = variable_count p in
    let m : ℕ = row_count p in
    let leads : ℕ → ℤ = λ k. entry d k 0 in
    let constants : ℕ → ℤ = λ k. entry d k 1 in
    let parted : AreParted p d.basic d.out = id.parted in
    let o : ℕ → ℕ = owner p d.basic in
    let costs : ℕ → ℤ = λ q. entry d m (q + 2) in
    record {
      denominator = product_to (suc m) leads;
      values = λ v. value_at (suc m) leads constants o v (find o (suc m) v);
      multipliers = λ i. multiplier_at n costs (slice_index d.out) (n + i) (find (slice_index d.out) n (n + i));
      primal = record {
        positive = product_positive (suc m) leads (λ k kl. (id.each k (omega arith)).lead);
        basic = λ k kl. value_there (suc m) leads constants o k (omega arith) (λ s sl e. owner_once p d s k parted (omega arith) kl e) (find o (suc m) (o k));
        out = λ q ql. value_nowhere (suc m) leads constants o (slice_index d.out q) (λ k kl. owner_apart p d k q parted (omega arith) ql) (find o (suc m) (slice_index d.out q));
      };
      dual = record {
        basic = λ i k il kl e. multiplier_nowhere n costs (slice_index d.out) (n + i) (λ q ql h. parted.apart k q kl ql (e ∙ sym h)) (find (slice_index d.out) n (n + i));
        out = λ i q il ql e. multiplier_there n costs (slice_index d.out) (n + i) q ql e (λ s sl h. parted.out_once s q sl ql h) (find (slice_index d.out) n (n + i));
      };
    }

-- ---- as they are read
pub number-with_goal : (d : CostForm) (k column : ℕ) → k < length d.basic → number (with_goal d) k column ≡ entry d k column
number-with_goal d k column h = ap (λ (row : List ℤ). at row column) (get_or-take (length d.basic) d.rows k [] h)

pub goal_lead-with_goal : (d : CostForm) → at (with_goal d).goal 0 ≡ entry d (length d.basic) 0
goal_lead-with_goal d = turned-lead (row_of d (length d.basic))

pub goal-with_goal : (d : CostForm) (q : ℕ) → at (with_goal d).goal (q + 2) ≡ neg_ℤ (entry d (length d.basic) (q + 2))
goal-with_goal d q = turned-coefficient (row_of d (length d.basic)) q

read_value : (lead constant value denominator num den : ℤ) → pos 0 <ℤ lead → lead *ℤ value ≡ constant *ℤ denominator → num *ℤ lead ≡ constant *ℤ den → value *ℤ den ≡ num *ℤ denominator
read_value lead constant value denominator num den positive v r =
    cancel lead (value *ℤ den) (num *ℤ denominator) positive
    (ring (lead ∷ value ∷ den ∷ []) (x 0 ⊗ (x 1 ⊗ x 2)) ((x 0 ⊗ x 1) ⊗ x 2) (omega arith)
    ∙ ap (λ (y : ℤ). y *ℤ den) v
    ∙ ring (constant ∷ denominator ∷ den ∷ []) ((x 0 ⊗ x 1) ⊗ x 2) ((x 0 ⊗ x 2) ⊗ x 1) (omega arith)
    ∙ ap (λ (y : ℤ). y *ℤ denominator) (sym r)
    ∙ ring (num ∷ lead ∷ denominator ∷ []) ((x 0 ⊗ x 1) ⊗ x 2) (x 1 ⊗ (x 0 ⊗ x 2)) (omega arith))

nothing_read : (value num den denominator : ℤ) → value ≡ pos 0 → num ≡ pos 0 → value *ℤ den ≡ num *ℤ denominator
nothing_read value num den denominator v h = ap (λ (y : ℤ). y *ℤ den) v ∙ times_zero den ∙ sym (ap (λ (y : ℤ). y *ℤ denominator) h ∙ times_zero denominator)

pub are_read : (p : Program) (d : CostForm) → cost.IsDictionary p d → (w : Values p d) → AreRead (with_goal d) w.denominator (entry d (row_count p) 0) w.values w.multipliers
are_read p d id w =
    let n : ℕ = variable_count p in
    let m : ℕ = row_count p in
    let parted : AreParted p d.basic d.out = id.parted in
    let bl : length d.basic ≡ m = parted.basic_long in
    let ol : length d.out ≡ n = parted.out_long in
    record {
      x_positive = w.primal.positive;
      y_positive = (id.each m (omega arith)).lead;
      values = λ i num den il primal. elim (parted.found i (omega arith)) [
        | inl (k, kl, e) ↦ read_value (entry d k 0) (entry d k 1) (w.values i) w.denominator num den (id.each k (omega arith)).lead
            (ap (λ (v : ℕ). entry d k 0 *ℤ w.values v) (sym (owner-below p d.basic k (omega arith) ∙ e)) ∙ w.primal.basic k (omega arith))
            (ap (λ (y : ℤ). num *ℤ y) (sym (number-with_goal d k 0 (omega arith))) ∙ primal.basic k (omega arith) e ∙ ap (λ (y : ℤ). y *ℤ den) (number-with_goal d k 1 (omega arith)))
        | inr (q, ql, e) ↦ nothing_read (w.values i) num den w.denominator (ap w.values (sym e) ∙ w.primal.out q ql) (primal.out q (omega arith) e)
      ];
      multipliers = λ i num den il dual.
          sym (ap (λ (y : ℤ). num *ℤ y) (sym (goal_lead-with_goal d ∙ ap (λ (k : ℕ). entry d k 0) bl))
          ∙ dual.price (w.multipliers i) (record {
            basic = λ k kl e. w.dual.basic i k (omega arith) (omega arith) (e ∙ ap (λ (t : ℕ). t + i) ol);
            out = λ q ql e. w.dual.out i q (omega arith) (omega arith) (e ∙ ap (λ (t : ℕ). t + i) ol)
                ∙ sym (ap neg_ℤ (goal-with_goal d q ∙ ap (λ (k : ℕ). neg_ℤ (entry d k (q + 2))) bl) ∙ neg_ℤ-neg_ℤ (entry d m (q + 2)));
          }));
    }

pub read_optimum : (p : Program) (d : CostForm) → cost.IsDictionary p d
    → ((denominator : ℤ) (values multipliers : ℕ → ℤ) → ArePrimal p d denominator values → AreDual p d multipliers → inner.IsOptimum p (entry d (row_count p) 0) denominator values multipliers)
    → ((i : ℕ) → i < variable_count p → (num : ℤ) × ((den : ℤ) × IsPrimal (with_goal d) i num den))
    → ((i : ℕ) → i < row_count p → (num : ℤ) × ((den : ℤ) × IsDual (with_goal d) i num den))
    → IsOptimum p (with_goal d)
read_optimum p d id holds values_there multipliers_there =
    let n : ℕ = variable_count p in
    let m : ℕ = row_count p in
    let w : Values p d = there p d id in
    let lead : ℤ = entry d m 0 in
    let o : inner.IsOptimum p lead w.denominator w.values w.multipliers = holds w.denominator w.values w.multipliers w.primal w.dual in
    record {
      values_there = values_there;
      multipliers_there = multipliers_there;
      below_x = w.denominator;
      below_y = lead;
      x = w.values;
      y = w.multipliers;
      read = are_read p d id w;
      x_not_negative = λ j jl. o.values_not_negative j (omega arith);
      rows_kept = o.rows_kept;
      y_not_negative = o.multipliers_not_negative;
      columns_kept = λ j jl. subst (λ (y : ℤ). y ≤ℤ sum_to m (λ i. w.multipliers i *ℤ cell p i j)) (turn lead (gain p j)) (o.columns_kept j jl);
      equal = turn (sum_to n (λ j. gain p j *ℤ w.values j)) lead ∙ ap (λ (y : ℤ). lead *ℤ y) (sym o.value_of_goal) ∙ o.equal_values;
    }
  where
    turn : (a b : ℤ) → a *ℤ b ≡ b *ℤ a
    turn a b = ring (a ∷ b ∷ []) (x 0 ⊗ x 1) (x 1 ⊗ x 0) (omega arith)
