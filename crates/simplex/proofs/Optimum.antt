-- What no improving variable means.
use Rattle.std.proofs.Common.{ℕ, zero, suc, ◌+◌, ◌<◌, ◌≤◌, ◌≡◌, ◌≢◌, ℤ, pos, neg_ℤ, ◌+ℤ◌, ◌*ℤ◌, ◌-ℤ◌, ◌<ℤ◌, ◌≤ℤ◌, [], ◌∷◌, length, get_or, slice_index, refl, sym, ap, ap₂, subst, ◌∙◌, inl, inr, arith}
use Rattle.std.proofs.lemmas.Bool.{cases_lt, cases_eq}
use Rattle.std.proofs.lemmas.Int.{ints, by_lt_z}
use Rattle.simplex.specs.declared.Program.{Program}
use Rattle.simplex.specs.Program.{row_count, variable_count, cell, limit, gain, sum_to}
use Rattle.simplex.specs.CostForm.{CostForm, entry, owner, Belongs, IsDictionary, AreParted, IsImproving}
use Rattle.simplex.specs.CostOptimum.{ArePrimal, AreDual, IsOptimum, IsFeasible}
use Rattle.scaled_num.proofs.Ring.{ring, x, ◌⊕◌, ◌⊖◌, ◌⊗◌}
use Rattle.simplex.proofs.Combine.{comb, cancel, sum_same, sum_zero, sum_weights, Belongs-comb}
use Rattle.simplex.proofs.Unique.{Determines, owner-below, owner-last}
use Rattle.simplex.proofs.Choice.{times_le, times_lt}
use Rattle.simplex.proofs.Start.{number, number_own, number_slack, number_belongs, own_number_below, own_number_goal, one_at_same, one_at_other, times_one, times_zero, sum_one, one_at}

-- ---- sums
sum_single : (k i : ℕ) (f : ℕ → ℤ) → i < k → ((s : ℕ) → s < k → s ≢ i → f s ≡ pos 0) → sum_to k f ≡ f i
sum_single zero i f lt h = absurd (omega arith)
sum_single (suc k) i f lt h = elim (cases_eq i k) [
  | inl e ↦ ap₂ ◌+ℤ◌ (sum_zero k f (λ s sl. h s (omega arith) (λ t. absurd (omega arith)))) (ap f (sym e)) ∙ omega (arith, ints)
  | inr ne ↦ ap₂ ◌+ℤ◌ (sum_single k i f (omega arith) (λ s sl t. h s (omega arith) t)) (h k (omega arith) (λ t. ne (sym t))) ∙ omega (arith, ints)
]

sum_split : (n m : ℕ) (f : ℕ → ℤ) → sum_to (n + m) f ≡ sum_to n f +ℤ sum_to m (λ i. f (n + i))
sum_split n zero f = ap (λ (t : ℕ). sum_to t f) (let e : n + 0 ≡ n = omega arith in e) ∙ omega (arith, ints)
sum_split n (suc m) f =
    ap (λ (t : ℕ). sum_to t f) (let e : n + suc m ≡ suc (n + m) = omega arith in e)
    ∙ ap (λ (s : ℤ). s +ℤ f (n + m)) (sum_split n m f)
    ∙ ring (sum_to n f ∷ sum_to m (λ i. f (n + i)) ∷ f (n + m) ∷ []) ((x 0 ⊕ x 1) ⊕ x 2) (x 0 ⊕ (x 1 ⊕ x 2)) (omega arith)

-- ---- how far the values are from satisfying an equation
unfoldable pub residual : ℕ → (ℕ → ℤ) → ℤ → (ℕ → ℤ) → ℤ → ℤ
residual n values denominator e c = sum_to n (λ v. e v *ℤ values v) -ℤ c *ℤ denominator

residual-comb : (n : ℕ) (values : ℕ → ℤ) (denominator a : ℤ) (e : ℕ → ℤ) (c b : ℤ) (d : ℕ → ℤ) (k : ℤ)
    → residual n values denominator (comb a e b d) (a *ℤ c -ℤ b *ℤ k) ≡ a *ℤ residual n values denominator e c -ℤ b *ℤ residual n values denominator d k
unfolding residual
residual-comb n values denominator a e c b d k =
    ap (λ (s : ℤ). s -ℤ (a *ℤ c -ℤ b *ℤ k) *ℤ denominator) (sum_weights n a e b d values)
    ∙ ring (a ∷ sum_to n (λ v. e v *ℤ values v) ∷ b ∷ sum_to n (λ v. d v *ℤ values v) ∷ c ∷ k ∷ denominator ∷ []) (((x 0 ⊗ x 1) ⊖ (x 2 ⊗ x 3)) ⊖ (((x 0 ⊗ x 4) ⊖ (x 2 ⊗ x 5)) ⊗ x 6)) ((x 0 ⊗ (x 1 ⊖ (x 4 ⊗ x 6))) ⊖ (x 2 ⊗ (x 3 ⊖ (x 5 ⊗ x 6)))) (omega arith)

residual-zero : (n : ℕ) (values : ℕ → ℤ) (denominator : ℤ) (e : ℕ → ℤ) (c : ℤ) → ((v : ℕ) → v < n → e v ≡ pos 0) → c ≡ pos 0 → residual n values denominator e c ≡ pos 0
unfolding residual
residual-zero n values denominator e c h hc =
    ap₂ (λ (s t : ℤ). s -ℤ t *ℤ denominator) (sum_zero n (λ v. e v *ℤ values v) (λ v lt. ap (λ (y : ℤ). y *ℤ values v) (h v lt) ∙ times_zero (values v))) hc ∙ omega (arith, ints)

times_nothing : (w : ℤ) → w *ℤ pos 0 ≡ pos 0
times_nothing w = omega (arith, ints)

-- a row of the dictionary, with this constant, holds at values that are 0 at the out variables
pub row_holds : (p : Program) (d : CostForm) (denominator constant : ℤ) (values : ℕ → ℤ) (k : ℕ) (e : ℕ → ℤ) → AreParted p d.basic d.out → ((q : ℕ) → q < variable_count p → values (slice_index d.out q) ≡ pos 0)
    → entry d k 0 *ℤ values (owner p d.basic k) ≡ constant *ℤ denominator → k ≤ row_count p → e (owner p d.basic k) ≡ entry d k 0 → ((s : ℕ) → s ≤ row_count p → s ≢ k → e (owner p d.basic s) ≡ pos 0) → residual (suc (variable_count p + row_count p)) values denominator e constant ≡ pos 0
unfolding residual
row_holds p d denominator constant values k e parted nothing_out here kl own others =
    let n : ℕ = variable_count p in
    let m : ℕ = row_count p in
    let bl : length d.basic ≡ m = parted.basic_long in
    let inside : owner p d.basic k < suc (n + m) = elim (cases_lt k m) [
      | inl lt ↦ subst (λ (v : ℕ). v < suc (n + m)) (sym (owner-below p d.basic k (omega arith))) (let i : get_or d.basic k 0 < n + m = parted.basic_below k lt in omega arith)
      | inr ge ↦ subst (λ (v : ℕ). v < suc (n + m)) (sym (owner-last p d.basic k (omega arith))) (omega arith)
    ] in
    let at_owner : (s v : ℕ) → s ≤ m → owner p d.basic s ≡ v → v ≢ owner p d.basic k → e v *ℤ values v ≡ pos 0 =
    λ s v sl is ne. ap (λ (y : ℤ). y *ℤ values v) (ap e (sym is) ∙ others s sl (λ t. ne (sym is ∙ ap (owner p d.basic) t))) ∙ times_zero (values v) in
    let nothing_else : (v : ℕ) → v < suc (n + m) → v ≢ owner p d.basic k → e v *ℤ values v ≡ pos 0 = λ v vl ne. elim (cases_lt v (n + m)) [
      | inl lt ↦ elim (parted.found v lt) [
        | inl (s, sl, is) ↦ at_owner s v (omega arith) (owner-below p d.basic s (omega arith) ∙ is) ne
        | inr (q, ql, is) ↦ ap (λ (y : ℤ). e v *ℤ y) (ap values (sym is) ∙ nothing_out q ql) ∙ times_nothing (e v)
      ]
      | inr ge ↦ at_owner m v (omega arith) (owner-last p d.basic m (omega arith) ∙ (let z : n + m ≡ v = omega arith in z)) ne
    ] in
    ap (λ (s : ℤ). s -ℤ constant *ℤ denominator)
    (sum_single (suc (n + m)) (owner p d.basic k) (λ v. e v *ℤ values v) inside nothing_else ∙ ap (λ (y : ℤ). y *ℤ values (owner p d.basic k)) own ∙ here)
    ∙ omega (arith, ints)

-- all rows of the dictionary hold at the values
abbrev pub AllRowsHold : (p : Program) (d : CostForm) → IsDictionary p d → ℤ → (ℕ → ℤ) → Type 0
AllRowsHold p d id denominator values = (k : ℕ) (kl : k ≤ row_count p) → residual (suc (variable_count p + row_count p)) values denominator ((id.each k kl).belongs.0) (entry d k 1) ≡ pos 0

primal_rows_hold : (p : Program) (d : CostForm) (denominator : ℤ) (values : ℕ → ℤ) (id : IsDictionary p d) → ArePrimal p d denominator values → AllRowsHold p d id denominator values
primal_rows_hold p d denominator values id h k kl =
    let (e, es, eb) = (id.each k kl).belongs in
    row_holds p d denominator (entry d k 1) values k e id.parted h.out (h.basic k kl) kl es.at_own es.at_basic

-- so each equation of the program holds: its basic variables are eliminated one by one
all_hold : (p : Program) (d : CostForm) (denominator : ℤ) (values : ℕ → ℤ) (id : IsDictionary p d) → Determines p d.basic → AllRowsHold p d id denominator values
    → (t : ℕ) → t ≤ suc (row_count p) → (e : ℕ → ℤ) (c : ℤ) → Belongs p e c → ((s : ℕ) → t ≤ s → s ≤ row_count p → e (owner p d.basic s) ≡ pos 0) → residual (suc (variable_count p + row_count p)) values denominator e c ≡ pos 0
all_hold p d denominator values id det h zero tl e c b gone =
    let none = det.zero_at e c b (λ k kl. gone k (omega arith) kl) in
    residual-zero (suc (variable_count p + row_count p)) values denominator e c (λ v vl. none.0 v (omega arith)) none.1
all_hold p d denominator values id det h (suc t) tl e c b gone =
    let n : ℕ = suc (variable_count p + row_count p) in
    let below : t ≤ row_count p = omega arith in
    let (f, fs, fb) = (id.each t below).belongs in
    let lead : ℤ = entry d t 0 in
    let part : ℤ = e (owner p d.basic t) in
    let less : residual n values denominator (comb lead e part f) (lead *ℤ c -ℤ part *ℤ entry d t 1) ≡ pos 0 =
    all_hold p d denominator values id det h t (omega arith) (comb lead e part f) (lead *ℤ c -ℤ part *ℤ entry d t 1) (Belongs-comb p lead e c part f (entry d t 1) b fb)
    (λ s sl sm. elim (cases_eq s t) [
      | inl same ↦ ap (λ (i : ℕ). comb lead e part f (owner p d.basic i)) same ∙ ap (λ (y : ℤ). lead *ℤ part -ℤ part *ℤ y) fs.at_own ∙ ring (lead ∷ part ∷ []) ((x 0 ⊗ x 1) ⊖ (x 1 ⊗ x 0)) (x 0 ⊖ x 0) (omega arith) ∙ omega (arith, ints)
      | inr ne ↦ ap₂ (λ (y z : ℤ). lead *ℤ y -ℤ part *ℤ z) (gone s (omega arith) sm) (fs.at_basic s sm ne) ∙ omega (arith, ints)
    ]) in
    let row : residual n values denominator f (entry d t 1) ≡ pos 0 = h t below in
    cancel lead (residual n values denominator e c) (pos 0) (id.each t (omega arith)).lead
    (take_back (lead *ℤ residual n values denominator e c) part (residual n values denominator f (entry d t 1)) row (sym (residual-comb n values denominator lead e c part f (entry d t 1)) ∙ less) ∙ sym (times_nothing lead))
  where
    take_back : (r b y : ℤ) → y ≡ pos 0 → r -ℤ b *ℤ y ≡ pos 0 → r ≡ pos 0
    take_back r b y e h = (let one : r -ℤ b *ℤ pos 0 ≡ pos 0 = ap (λ (z : ℤ). r -ℤ b *ℤ z) (sym e) ∙ h in omega (arith, ints))

-- ---- the equations of the program, one by one
number_sum : (p : Program) (k : ℕ) (values : ℕ → ℤ) → sum_to (suc (variable_count p + row_count p)) (λ v. number p k v *ℤ values v)
    ≡ (sum_to (variable_count p) (λ j. number p k j *ℤ values j) +ℤ sum_to (row_count p) (λ i. one_at k i *ℤ values (variable_count p + i))) +ℤ one_at k (row_count p) *ℤ values (variable_count p + row_count p)
number_sum p k values =
    let n : ℕ = variable_count p in
    let m : ℕ = row_count p in
    ap₂ ◌+ℤ◌
    (sum_split n m (λ v. number p k v *ℤ values v)
    ∙ ap (λ (s : ℤ). sum_to n (λ j. number p k j *ℤ values j) +ℤ s) (sum_same m (λ i. number p k (n + i) *ℤ values (n + i)) (λ i. one_at k i *ℤ values (n + i)) (λ i il. ap (λ (y : ℤ). y *ℤ values (n + i)) (number_slack p k i))))
    (ap (λ (y : ℤ). y *ℤ values (n + m)) (number_slack p k m))

pub equation : (p : Program) (d : CostForm) (denominator : ℤ) (values : ℕ → ℤ) (id : IsDictionary p d) → Determines p d.basic → AllRowsHold p d id denominator values → (i : ℕ) → i < row_count p
    → sum_to (variable_count p) (λ j. cell p i j *ℤ values j) +ℤ values (variable_count p + i) ≡ limit p i *ℤ denominator
unfolding residual
equation p d denominator values id det h i il =
    let n : ℕ = variable_count p in
    let m : ℕ = row_count p in
    let holds : residual (suc (n + m)) values denominator (number p i) (limit p i) ≡ pos 0 =
    all_hold p d denominator values id det h (suc m) (omega arith) (number p i) (limit p i) (number_belongs p i (limit p i) (omega arith) (λ lt. refl) (λ e. absurd (omega arith))) (λ s lo hi. absurd (omega arith)) in
    let cells : sum_to n (λ j. number p i j *ℤ values j) ≡ sum_to n (λ j. cell p i j *ℤ values j) =
    sum_same n (λ j. number p i j *ℤ values j) (λ j. cell p i j *ℤ values j) (λ j jl. ap (λ (y : ℤ). y *ℤ values j) (number_own p i j jl ∙ own_number_below p i j il)) in
    let one : sum_to m (λ s. one_at i s *ℤ values (n + s)) ≡ values (n + i) = sum_one m i (λ s. values (n + s)) il in
    let last : one_at i m *ℤ values (n + m) ≡ pos 0 = ap (λ (y : ℤ). y *ℤ values (n + m)) (one_at_other i m (λ e. absurd (omega arith))) ∙ times_zero (values (n + m)) in
    finish _ _ _ _ _ _ _ (number_sum p i values) holds cells one last
  where
    finish : (total a b c a2 b2 w : ℤ) → total ≡ (a +ℤ b) +ℤ c → total -ℤ w ≡ pos 0 → a ≡ a2 → b ≡ b2 → c ≡ pos 0 → a2 +ℤ b2 ≡ w
    finish total a b c a2 b2 w e h ea eb ec = omega (arith, ints)

pub goal_value : (p : Program) (d : CostForm) (denominator : ℤ) (values : ℕ → ℤ) (id : IsDictionary p d) → Determines p d.basic → AllRowsHold p d id denominator values
    → values (variable_count p + row_count p) ≡ sum_to (variable_count p) (λ j. gain p j *ℤ values j)
unfolding residual
goal_value p d denominator values id det h =
    let n : ℕ = variable_count p in
    let m : ℕ = row_count p in
    let holds : residual (suc (n + m)) values denominator (number p m) (pos 0) ≡ pos 0 =
    all_hold p d denominator values id det h (suc m) (omega arith) (number p m) (pos 0) (number_belongs p m (pos 0) (omega arith) (λ lt. absurd (omega arith)) (λ e. refl)) (λ s lo hi. absurd (omega arith)) in
    let gains : sum_to n (λ j. number p m j *ℤ values j) +ℤ sum_to n (λ j. gain p j *ℤ values j) ≡ pos 0 =
    cancels n (λ j. number p m j *ℤ values j) (λ j. gain p j *ℤ values j) (λ j jl. ap (λ (y : ℤ). y *ℤ values j +ℤ gain p j *ℤ values j) (number_own p m j jl ∙ own_number_goal p m j refl) ∙ opposite (gain p j) (values j)) in
    let none : sum_to m (λ s. one_at m s *ℤ values (n + s)) ≡ pos 0 = sum_zero m (λ s. one_at m s *ℤ values (n + s)) (λ s sl. ap (λ (y : ℤ). y *ℤ values (n + s)) (one_at_other m s (λ e. absurd (omega arith))) ∙ times_zero (values (n + s))) in
    let last : one_at m m *ℤ values (n + m) ≡ values (n + m) = ap (λ (y : ℤ). y *ℤ values (n + m)) (one_at_same m m refl) ∙ times_one (values (n + m)) in
    finish _ _ _ _ _ _ _ (number_sum p m values) holds (times_zero denominator) gains none last
  where
    opposite : (g y : ℤ) → neg_ℤ g *ℤ y +ℤ g *ℤ y ≡ pos 0
    opposite g y = ap (λ (t : ℤ). t *ℤ y +ℤ g *ℤ y) (let e : neg_ℤ g ≡ pos 0 -ℤ g = omega (arith, ints) in e) ∙ ring (pos 0 ∷ g ∷ y ∷ []) (((x 0 ⊖ x 1) ⊗ x 2) ⊕ (x 1 ⊗ x 2)) (x 0) (omega arith)

    cancels : (n : ℕ) (f g : ℕ → ℤ) → ((j : ℕ) → j < n → f j +ℤ g j ≡ pos 0) → sum_to n f +ℤ sum_to n g ≡ pos 0
    cancels zero f g h = refl
    cancels (suc n) f g h = (let one : sum_to n f +ℤ sum_to n g ≡ pos 0 = cancels n f g (λ j jl. h j (omega arith)) in let two : f n +ℤ g n ≡ pos 0 = h n (omega arith) in four (sum_to n f) (sum_to n g) (f n) (g n) one two)
      where
        four : (a b c e : ℤ) → a +ℤ b ≡ pos 0 → c +ℤ e ≡ pos 0 → (a +ℤ c) +ℤ (b +ℤ e) ≡ pos 0
        four a b c e h k = omega (arith, ints)

    finish : (total a b c w b2 z : ℤ) → total ≡ (a +ℤ b) +ℤ c → total -ℤ w ≡ pos 0 → w ≡ pos 0 → a +ℤ b2 ≡ pos 0 → b ≡ pos 0 → c ≡ z → z ≡ b2
    finish total a b c w b2 z e h hw ha hb hc = omega (arith, ints)

-- ---- signs
pub not_negative_factor : (a y : ℤ) → pos 0 <ℤ a → pos 0 ≤ℤ (a *ℤ y) → pos 0 ≤ℤ y
not_negative_factor a y h k = by_lt_z y (pos 0) (λ lt. absurd (let t : (y *ℤ a) <ℤ (pos 0 *ℤ a) = times_lt y (pos 0) a lt h in let z : pos 0 *ℤ a ≡ pos 0 = times_zero a in let w : y *ℤ a ≡ a *ℤ y = ring (y ∷ a ∷ []) (x 0 ⊗ x 1) (x 1 ⊗ x 0) (omega arith) in clash (y *ℤ a) (pos 0 *ℤ a) (a *ℤ y) t z w k)) (λ le. le)
  where
    clash : (a b c : ℤ) → a <ℤ b → b ≡ pos 0 → a ≡ c → pos 0 ≤ℤ c → ⊥
    clash a b c h z e k = omega (arith, ints)

pub not_negative_product : (a b : ℤ) → pos 0 ≤ℤ a → pos 0 ≤ℤ b → pos 0 ≤ℤ (a *ℤ b)
not_negative_product a b h k = (let t : (pos 0 *ℤ b) ≤ℤ (a *ℤ b) = times_le (pos 0) a b h k in subst (λ (y : ℤ). y ≤ℤ (a *ℤ b)) (times_zero b) t)

-- the values are not negative, and keep the rows
pub record IsPoint (p : Program) (denominator : ℤ) (values : ℕ → ℤ) : Type 0 where
  pub not_negative : (v : ℕ) → v < variable_count p + row_count p → pos 0 ≤ℤ values v
  pub rows_kept : (i : ℕ) → i < row_count p → sum_to (variable_count p) (λ j. cell p i j *ℤ values j) ≤ℤ (limit p i *ℤ denominator)

pub point : (p : Program) (d : CostForm) (denominator : ℤ) (values : ℕ → ℤ) → IsDictionary p d → Determines p d.basic → IsFeasible d → ArePrimal p d denominator values → IsPoint p denominator values
point p d denominator values id det feasible primal =
    let n : ℕ = variable_count p in
    let m : ℕ = row_count p in
    let parted : AreParted p d.basic d.out = id.parted in
    let bl : length d.basic ≡ m = parted.basic_long in
    let value_sign : (v : ℕ) → v < n + m → pos 0 ≤ℤ values v = λ v vl. elim (parted.found v vl) [
      | inl (k, kl, is) ↦ subst (λ (w : ℕ). pos 0 ≤ℤ values w) (owner-below p d.basic k (omega arith) ∙ is)
          (not_negative_factor (entry d k 0) (values (owner p d.basic k)) (id.each k (omega arith)).lead
          (subst (λ (y : ℤ). pos 0 ≤ℤ y) (sym (primal.basic k (omega arith))) (not_negative_product (entry d k 1) denominator (feasible.each k (omega arith)) (let i = primal.positive in omega (arith, ints)))))
      | inr (q, ql, is) ↦ subst (λ (y : ℤ). pos 0 ≤ℤ y) (sym (ap values (sym is) ∙ primal.out q ql)) (omega (arith, ints))
    ] in
    record {
      not_negative = value_sign;
      rows_kept = λ i il. slack_left (sum_to n (λ j. cell p i j *ℤ values j)) (values (n + i)) (limit p i *ℤ denominator) (equation p d denominator values id det (primal_rows_hold p d denominator values id primal) i il) (value_sign (n + i) (omega arith));
    }
  where
    slack_left : (s v l : ℤ) → s +ℤ v ≡ l → pos 0 ≤ℤ v → s ≤ℤ l
    slack_left s v l e h = omega (arith, ints)

pub optimum : (p : Program) (d : CostForm) (denominator : ℤ) (values multipliers : ℕ → ℤ) → IsDictionary p d → Determines p d.basic → IsFeasible d → ((q : ℕ) → IsImproving d q → ⊥)
    → ArePrimal p d denominator values → AreDual p d multipliers → IsOptimum p (entry d (row_count p) 0) denominator values multipliers
optimum p d denominator values multipliers id det feasible none primal dual =
    let n : ℕ = variable_count p in
    let m : ℕ = row_count p in
    let parted : AreParted p d.basic d.out = id.parted in
    let bl : length d.basic ≡ m = parted.basic_long in
    let ol : length d.out ≡ n = parted.out_long in
    let lead : ℤ = entry d m 0 in
    let (g, gs, gb) = (id.each m (omega arith)).belongs in
    let at_point : IsPoint p denominator values = point p d denominator values id det feasible primal in
    let cost_sign : (q : ℕ) → q < n → pos 0 ≤ℤ entry d m (q + 2) = λ q ql. by_lt_z (entry d m (q + 2)) (pos 0)
    (λ lt. absurd (none q (omega arith, subst (λ (k : ℕ). entry d k (q + 2) <ℤ pos 0) (sym bl) lt))) (λ le. le) in
    let g_sign : (v : ℕ) → v < n + m → pos 0 ≤ℤ g v = λ v vl. elim (parted.found v vl) [
      | inl (k, kl, is) ↦ subst (λ (y : ℤ). pos 0 ≤ℤ y) (sym (ap g (sym (owner-below p d.basic k (omega arith) ∙ is)) ∙ gs.at_basic k (omega arith) (λ e. absurd (omega arith)))) (omega (arith, ints))
      | inr (q, ql, is) ↦ subst (λ (y : ℤ). pos 0 ≤ℤ y) (sym (ap g (sym is) ∙ gs.at_out q ql)) (cost_sign q ql)
    ] in
    let g_dual : (i : ℕ) → i < m → g (n + i) ≡ multipliers i = λ i il. elim (parted.found (n + i) (omega arith)) [
      | inl (k, kl, is) ↦ ap g (sym (owner-below p d.basic k (omega arith) ∙ is)) ∙ gs.at_basic k (omega arith) (λ e. absurd (omega arith)) ∙ sym (dual.basic i k il kl is)
      | inr (q, ql, is) ↦ ap g (sym is) ∙ gs.at_out q ql ∙ sym (dual.out i q il ql is)
    ] in
    let g_last : g (n + m) ≡ lead = ap g (sym (owner-last p d.basic m (omega arith))) ∙ gs.at_own in
    record {
      values_not_negative = at_point.not_negative;
      rows_kept = at_point.rows_kept;
      multipliers_not_negative = λ i il. subst (λ (y : ℤ). pos 0 ≤ℤ y) (g_dual i il) (g_sign (n + i) (omega arith));
      columns_kept = λ j jl. column_left (g j) (sum_to m (λ i. multipliers i *ℤ cell p i j)) (lead *ℤ gain p j)
          (gb.own j jl ∙ ap₂ (λ (s t : ℤ). s -ℤ t *ℤ gain p j) (sum_same m (λ i. g (n + i) *ℤ cell p i j) (λ i. multipliers i *ℤ cell p i j) (λ i il. ap (λ (y : ℤ). y *ℤ cell p i j) (g_dual i il))) g_last)
          (g_sign j (omega arith));
      value_of_goal = goal_value p d denominator values id det (primal_rows_hold p d denominator values id primal);
      equal_values = ap (λ (v : ℕ). lead *ℤ values v) (sym (owner-last p d.basic m (omega arith))) ∙ primal.basic m (omega arith)
          ∙ ap (λ (y : ℤ). y *ℤ denominator) (gb.constant_is ∙ sum_same m (λ i. g (n + i) *ℤ limit p i) (λ i. multipliers i *ℤ limit p i) (λ i il. ap (λ (y : ℤ). y *ℤ limit p i) (g_dual i il)));
    }
  where
    column_left : (g s l : ℤ) → g ≡ s -ℤ l → pos 0 ≤ℤ g → l ≤ℤ s
    column_left g s l e h = omega (arith, ints)
