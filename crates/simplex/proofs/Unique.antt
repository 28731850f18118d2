-- Along a run a dictionary is determined by its two lists, and so the run by its program.
use Rattle.std.proofs.Common.{ℕ, zero, suc, ◌+◌, ◌*◌, ◌/◌, ◌%◌, ◌<◌, ◌≤◌, ◌≡◌, ◌≢◌, ℤ, pos, ◌-ℤ◌, ◌*ℤ◌, ◌<ℤ◌, ◌≤ℤ◌, List, [], ◌∷◌, length, get_or, set, refl, sym, ap, ap₂, subst, ◌∙◌, inl, inr, arith, unsigned_abs, le_antisymm, mod-lt, div-add-mod'}
use Rattle.std.specs.Int.{◌∣◌}
use Rattle.std.specs.List.{range_with_len}
use Rattle.std.proofs.Math.Nat.{dvd-mul_left_of_dvd, dvd-mul_right, dvd-add_iff_right, dvd-mod_iff, dvd_of_mul-dvd-mul_left, dvd-zero, dvd_refl, mul-div_cancel'}
use Rattle.std.proofs.lemmas.Int.{ints, unsigned_abs-mul}
use Rattle.std.proofs.lemmas.Bool.{cases_lt, cases_eq}
use Rattle.std.proofs.lemmas.List.{get_or-set_same, get_or-set_other, get_or_default, get_or_past, ext_get_or}
use Rattle.std.proofs.lemmas.List.FromFn.{get_or-range_with_len, length-range_with_len}
use Rattle.simplex.specs.declared.Program.{Program}
use Rattle.simplex.specs.Program.{at, row_count, variable_count}
use Rattle.simplex.specs.CostForm.{CostForm, row_of, owner, Belongs, RowBelongs, AreCoprime, AreParted, IsRow, IsDictionary, Enters, ratio, Leaves, IsTraded, Pivot, Stands}
use Rattle.scaled_num.proofs.Ring.{ring, x, ◌⊖◌, ◌⊗◌}
use Rattle.simplex.proofs.Combine.{comb, cancel, Belongs-comb, nothing}

-- what belongs to the program and is 0 at the basic variables is 0
pub record Determines (p : Program) (basic : List ℕ) : Type 0 where
  pub zero_at : (e : ℕ → ℤ) (c : ℤ) → Belongs p e c → ((k : ℕ) → k ≤ row_count p → e (owner p basic k) ≡ pos 0) → ((v : ℕ) → v ≤ variable_count p + row_count p → e v ≡ pos 0) × (c ≡ pos 0)

-- ---- owners
pub owner-set_same : (p : Program) (basic : List ℕ) (k v : ℕ) → k < length basic → owner p (set basic k v) k ≡ v
owner-set_same p basic k v h = get_or-set_same basic k v _ h

pub owner-set_other : (p : Program) (basic : List ℕ) (k s v : ℕ) → s ≢ k → owner p (set basic k v) s ≡ owner p basic s
owner-set_other p basic k s v h = get_or-set_other basic k s v _ h

pub owner-below : (p : Program) (basic : List ℕ) (k : ℕ) → k < length basic → owner p basic k ≡ get_or basic k 0
owner-below p basic k h = get_or_default basic k _ 0 h

pub owner-last : (p : Program) (basic : List ℕ) (k : ℕ) → length basic ≤ k → owner p basic k ≡ variable_count p + row_count p
owner-last p basic k h = get_or_past basic k _ h

pub owner-first : (p : Program) (k : ℕ) → k ≤ row_count p → owner p (range_with_len (variable_count p) (row_count p)) k ≡ variable_count p + k
owner-first p k h = elim (cases_lt k (row_count p)) [
  | inl lt ↦ get_or-range_with_len (variable_count p) (row_count p) k _ lt
  | inr ge ↦ get_or_past (range_with_len (variable_count p) (row_count p)) k _ (omega (arith, length-range_with_len (variable_count p) (row_count p))) ∙ omega arith
]

-- ---- the induction
pub Determines-first : (p : Program) → Determines p (range_with_len (variable_count p) (row_count p))
Determines-first p = record { zero_at = λ e c b h. nothing p e c b (λ i le. ap e (sym (owner-first p i le)) ∙ h i le) }

pub factor : (a b : ℤ) → pos 0 <ℤ b → a *ℤ b ≡ pos 0 → a ≡ pos 0
factor a b h e = cancel b a (pos 0) h (ring (b ∷ a ∷ []) (x 0 ⊗ x 1) (x 1 ⊗ x 0) (omega arith) ∙ e ∙ omega (arith, ints))

pub Determines-pivot : (p : Program) (basic out : List ℕ) (k q : ℕ) (row : List ℤ)
    → length basic ≡ row_count p → k < row_count p → q < variable_count p → get_or out q 0 < variable_count p + row_count p
    → RowBelongs p basic out k row → pos 0 <ℤ at row (q + 2) → Determines p basic → Determines p (set basic k (get_or out q 0))
Determines-pivot p basic out k q row long kl ql vl (d, spread, belongs) positive old =
    let enter : ℕ = get_or out q 0 in
    record {
      zero_at = λ e c b h.
          let lead : ℤ = at row 0 in
          let part : ℤ = e (owner p basic k) in
          let at_enter : e enter ≡ pos 0 = ap e (sym (owner-set_same p basic k enter (omega arith))) ∙ h k (omega arith) in
          let other : (s : ℕ) → s ≤ row_count p → s ≢ k → e (owner p basic s) ≡ pos 0 = λ s le ne. ap e (sym (owner-set_other p basic k s enter ne)) ∙ h s le in
          let gone : ((v : ℕ) → v ≤ variable_count p + row_count p → comb lead e part d v ≡ pos 0) × (lead *ℤ c -ℤ part *ℤ at row 1 ≡ pos 0) =
          old.zero_at (comb lead e part d) (lead *ℤ c -ℤ part *ℤ at row 1) (Belongs-comb p lead e c part d (at row 1) b belongs)
          (λ s le. elim (cases_eq s k) [
            | inl same ↦ ap (comb lead e part d) (ap (owner p basic) same) ∙ ap (λ (y : ℤ). lead *ℤ part -ℤ part *ℤ y) spread.at_own ∙ ring (lead ∷ part ∷ []) ((x 0 ⊗ x 1) ⊖ (x 1 ⊗ x 0)) (x 0 ⊖ x 0) (omega arith) ∙ omega (arith, ints)
            | inr ne ↦ ap₂ (λ (y z : ℤ). lead *ℤ y -ℤ part *ℤ z) (other s le ne) (spread.at_basic s le ne) ∙ omega (arith, ints)
          ]) in
          let none : part ≡ pos 0 = factor part (at row (q + 2)) positive
          (let e1 : lead *ℤ e enter -ℤ part *ℤ d enter ≡ pos 0 = gone.0 enter (omega arith) in
          let e2 : lead *ℤ pos 0 -ℤ part *ℤ at row (q + 2) ≡ pos 0 = ap₂ (λ (y z : ℤ). lead *ℤ y -ℤ part *ℤ z) (sym at_enter) (sym (spread.at_out q ql)) ∙ e1 in
          omega (arith, ints)) in
          old.zero_at e c b (λ s le. elim (cases_eq s k) [ inl same ↦ ap (λ (t : ℕ). e (owner p basic t)) same ∙ none | inr ne ↦ other s le ne ]);
    }

-- ---- coprime rows of one place
parts : (a n y : ℕ) → a * y ≡ (a / n) * (n * y) + (a % n) * y
parts a n y = ap (λ (t : ℕ). t * y) (sym (div-add-mod' a n)) ∙ omega arith

-- a divisor of both, such that what divides both products divides its own
pub divisor : (fuel a b : ℕ) → b ≤ fuel → (g : ℕ) × (g ∣ a) × (g ∣ b) × ((d y : ℕ) → d ∣ a * y → d ∣ b * y → d ∣ g * y)
divisor zero a b h = (a, dvd_refl a, subst (λ (t : ℕ). a ∣ t) (sym (let z : b ≡ 0 = omega arith in z)) (dvd-zero a), λ d y s t. s)
divisor (suc fuel) a zero h = (a, dvd_refl a, dvd-zero a, λ d y s t. s)
divisor (suc fuel) a (suc b) h =
    let n : ℕ = suc b in
    let small : a % n < n = mod-lt a (omega arith) in
    let r = divisor fuel n (a % n) (omega arith) in (
      r.0,
      (dvd-mod_iff r.0 r.1).0 r.2,
      r.1,
      λ d y s t. r.3 d y t
          ((dvd-add_iff_right d {m = (a / n) * (n * y)} {n = (a % n) * y} (dvd-mul_left_of_dvd d t (a / n))).1
          (subst (λ (w : ℕ). d ∣ w) (parts a n y) s)),
    )

-- coprime numbers, all in one proportion b to a, are as many times a as b is times 1
proportion_one : (xs : ℕ → ℕ) (ys : ℕ → ℕ) (n a b : ℕ) → 0 < a → 0 < b → 0 < n → xs 0 ≡ a → ((k : ℕ) → k < n → b * xs k ≡ a * ys k)
    → ((d : ℕ) → ((k : ℕ) → k < n → d ∣ xs k) → d ≡ 1) → (g : ℕ) → g ∣ a → ((d y : ℕ) → d ∣ a * y → d ∣ b * y → d ∣ g * y) → a ≡ g
proportion_one xs ys n a b pa pb pn first each only g ga gmost =
    let p : ℕ = a / g in
    let whole : g * p ≡ a = mul-div_cancel' g ga in
    let pg : 0 < g = elim (cases_eq g 0) [ inl z ↦ absurd (let none : a ≡ 0 = sym whole ∙ ap (λ (t : ℕ). t * p) z ∙ omega arith in omega arith) | inr ne ↦ omega arith ] in
    let divides : (k : ℕ) → k < n → p ∣ xs k = λ k lt.
    dvd_of_mul-dvd-mul_left {k = g} p pg
    (subst (λ (t : ℕ). t ∣ g * xs k) (sym whole)
    (gmost a (xs k) (dvd-mul_right a (xs k)) (subst (λ (t : ℕ). a ∣ t) (sym (each k lt)) (dvd-mul_right a (ys k))))) in
    let one : p ≡ 1 = only p divides in
    sym whole ∙ ap (λ (t : ℕ). g * t) one ∙ omega arith

abs_times : (a b c d : ℤ) → a *ℤ b ≡ c *ℤ d → unsigned_abs a * unsigned_abs b ≡ unsigned_abs c * unsigned_abs d
abs_times a b c d e = sym (unsigned_abs-mul a b) ∙ ap unsigned_abs e ∙ unsigned_abs-mul c d

abs_positive : (a : ℤ) → pos 0 <ℤ a → 0 < unsigned_abs a
abs_positive a h = omega (arith, ints)

abs_same : (a b : ℤ) → pos 0 <ℤ a → pos 0 <ℤ b → unsigned_abs a ≡ unsigned_abs b → a ≡ b
abs_same a b h k e = omega (arith, ints)

pub same_coprime : (xs ys : List ℤ) → length xs ≡ length ys → 0 < length xs → pos 0 <ℤ at xs 0 → pos 0 <ℤ at ys 0 → AreCoprime xs → AreCoprime ys
    → ((k : ℕ) → k < length xs → at ys 0 *ℤ at xs k ≡ at xs 0 *ℤ at ys k) → xs ≡ ys
same_coprime xs ys long some px py cx cy each =
    let a : ℕ = unsigned_abs (at xs 0) in
    let b : ℕ = unsigned_abs (at ys 0) in
    let r = divisor b a b (omega arith) in
    let each_abs : (k : ℕ) → k < length xs → b * unsigned_abs (at xs k) ≡ a * unsigned_abs (at ys k) = λ k lt. abs_times (at ys 0) (at xs k) (at xs 0) (at ys k) (each k lt) in
    let ag : a ≡ r.0 = proportion_one (λ k. unsigned_abs (at xs k)) (λ k. unsigned_abs (at ys k)) (length xs) a b (abs_positive (at xs 0) px) (abs_positive (at ys 0) py) some refl each_abs cx r.0 r.1 r.3 in
    let bg : b ≡ r.0 = proportion_one (λ k. unsigned_abs (at ys k)) (λ k. unsigned_abs (at xs k)) (length xs) b a (abs_positive (at ys 0) py) (abs_positive (at xs 0) px) some refl (λ k lt. sym (each_abs k lt)) (λ d h. cy d (λ k lt. h k (omega arith))) r.0 r.2 (λ d y s t. r.3 d y t s) in
    let leads : at xs 0 ≡ at ys 0 = abs_same (at xs 0) (at ys 0) px py (ag ∙ sym bg) in
    ext_get_or (pos 0) xs ys long (λ k lt. cancel (at xs 0) (at xs k) (at ys k) px (ap (λ (y : ℤ). y *ℤ at xs k) leads ∙ each k lt))

-- a fact of each column: the lead, the constant, the coefficients
pub by_column : (j : ℕ) (P : ℕ → Type 0) → P 0 → P 1 → ((q : ℕ) → j ≡ q + 2 → P j) → P j
by_column zero P h i more = h
by_column (suc zero) P h i more = i
by_column (suc (suc q)) P h i more = more q (omega arith)

from_difference : (a b : ℤ) → a -ℤ b ≡ pos 0 → a ≡ b
from_difference a b e = omega (arith, ints)

-- ---- a row is determined by the two lists and its place
pub same_row : (p : Program) (basic out : List ℕ) (k : ℕ) (one two : List ℤ) → AreParted p basic out → Determines p basic → k ≤ row_count p
    → IsRow p basic out k one → IsRow p basic out k two → one ≡ two
same_row p basic out k one two parted det kl i1 i2 =
    let (e, es, eb) = i1.belongs in
    let (f, fs, fb) = i2.belongs in
    let a : ℤ = at one 0 in
    let b : ℤ = at two 0 in
    let gone : ((v : ℕ) → v ≤ variable_count p + row_count p → comb b e a f v ≡ pos 0) × (b *ℤ at one 1 -ℤ a *ℤ at two 1 ≡ pos 0) =
    det.zero_at (comb b e a f) (b *ℤ at one 1 -ℤ a *ℤ at two 1) (Belongs-comb p b e (at one 1) a f (at two 1) eb fb)
    (λ s le. elim (cases_eq s k) [
      | inl same ↦ ap (λ (t : ℕ). comb b e a f (owner p basic t)) same ∙ ap₂ (λ (y z : ℤ). b *ℤ y -ℤ a *ℤ z) es.at_own fs.at_own ∙ ring (a ∷ b ∷ []) ((x 1 ⊗ x 0) ⊖ (x 0 ⊗ x 1)) (x 0 ⊖ x 0) (omega arith) ∙ omega (arith, ints)
      | inr ne ↦ ap₂ (λ (y z : ℤ). b *ℤ y -ℤ a *ℤ z) (es.at_basic s le ne) (fs.at_basic s le ne) ∙ omega (arith, ints)
    ]) in
    same_coprime one two (i1.long ∙ sym i2.long) (let l = i1.long in omega arith) i1.lead i2.lead i1.coprime i2.coprime
    (λ j lt. by_column j (λ (t : ℕ). b *ℤ at one t ≡ a *ℤ at two t)
    (ring (a ∷ b ∷ []) (x 1 ⊗ x 0) (x 0 ⊗ x 1) (omega arith))
    (from_difference _ _ gone.1)
    (λ q e. from_difference _ _
    (ap₂ (λ (y z : ℤ). b *ℤ y -ℤ a *ℤ z) (ap (at one) e ∙ sym (es.at_out q (let l = i1.long in omega arith))) (ap (at two) e ∙ sym (fs.at_out q (let l = i1.long in omega arith)))
    ∙ gone.0 (get_or out q 0) (let small : get_or out q 0 < variable_count p + row_count p = parted.out_below q (let l = i1.long in omega arith) in omega arith))))

make : List ℕ → List ℕ → List (List ℤ) → CostForm
make b o r = record { basic = b; out = o; rows = r }

pub same_parts : (d e : CostForm) → d.basic ≡ e.basic → d.out ≡ e.out → d.rows ≡ e.rows → d ≡ e
unfolding make
same_parts d e p q r = ap (λ (b : List ℕ). make b d.out d.rows) p ∙ ap (λ (o : List ℕ). make e.basic o d.rows) q ∙ ap (λ (s : List (List ℤ)). make e.basic e.out s) r

pub same_dictionary : (p : Program) (d e : CostForm) → IsDictionary p d → IsDictionary p e → d.basic ≡ e.basic → d.out ≡ e.out → Determines p d.basic → d ≡ e
same_dictionary p d e id ie sb so det =
    same_parts d e sb so
    (ext_get_or [] d.rows e.rows (id.high ∙ sym ie.high)
    (λ k lt. let h = id.high in
    let kl : k ≤ row_count p = omega arith in
    same_row p d.basic d.out k (row_of d k) (row_of e k) id.parted det kl (id.each k kl)
    (subst (λ (o : List ℕ). IsRow p d.basic o k (row_of e k)) (sym so) (subst (λ (b : List ℕ). IsRow p b e.out k (row_of e k)) (sym sb) (ie.each k kl)))))

pub same_enters : (p : Program) (d : CostForm) (q t : ℕ) → AreParted p d.basic d.out → Enters d q → Enters d t → q ≡ t
same_enters p d q t parted eq et = parted.out_once q t (let l = parted.out_long in let i = eq.improving.0 in omega arith) (let l = parted.out_long in let i = et.improving.0 in omega arith) (le_antisymm (eq.least t et.improving) (et.least q eq.improving))

antisymmetric : (a b : ℤ) → a ≤ℤ b → b ≤ℤ a → a ≡ b
antisymmetric a b h k = omega (arith, ints)

pub same_leaves : (p : Program) (d : CostForm) (q k s : ℕ) → AreParted p d.basic d.out → Leaves d q k → Leaves d q s → k ≡ s
same_leaves p d q k s parted lk ls =
    let tie : ratio d q k s ≡ ratio d q s k = antisymmetric (ratio d q k s) (ratio d q s k) (lk.least s ls.bounding) (ls.least k lk.bounding) in
    parted.basic_once k s (let l = parted.basic_long in let i = lk.bounding.0 in omega arith) (let l = parted.basic_long in let i = ls.bounding.0 in omega arith) (le_antisymm (lk.first s ls.bounding tie) (ls.first k lk.bounding (sym tie)))

pub Determines-traded : (p : Program) (d new : CostForm) (q k : ℕ) → IsDictionary p d → Enters d q → Leaves d q k → new.basic ≡ set d.basic k (get_or d.out q 0) → Determines p d.basic → Determines p new.basic
Determines-traded p d new q k id enters leaves e det =
    let bl : length d.basic ≡ row_count p = id.parted.basic_long in
    let ol : length d.out ≡ variable_count p = id.parted.out_long in
    let kl : k < row_count p = let i = leaves.bounding.0 in omega arith in
    let ql : q < variable_count p = let i = enters.improving.0 in omega arith in
    subst (Determines p) (sym e)
    (Determines-pivot p d.basic d.out k q (row_of d k) bl kl ql (id.parted.out_below q ql)
    ((id.each k (omega arith)).belongs) leaves.bounding.1 det)

-- ---- along a run
pub Stands-dictionary : (p : Program) (made : ℕ) (d : CostForm) → Stands p made d → IsDictionary p d
Stands-dictionary p zero d s = s.dictionary
Stands-dictionary p (suc made) d (before, s, pivot) = pivot.traded.dictionary

pub Stands-determines : (p : Program) (made : ℕ) (d : CostForm) → Stands p made d → Determines p d.basic
Stands-determines p zero d s = subst (Determines p) (sym s.basic) (Determines-first p)
Stands-determines p (suc made) d (before, s, pivot) =
    Determines-traded p before d pivot.q pivot.k (Stands-dictionary p made before s) pivot.enters pivot.leaves pivot.traded.basic (Stands-determines p made before s)

-- two trades of one dictionary, by the rule, give one dictionary
pub same_traded : (p : Program) (d new other : CostForm) (q k t s : ℕ) → IsDictionary p d → Determines p d.basic
    → Enters d q → Leaves d q k → IsTraded p d q k new → Enters d t → Leaves d t s → IsTraded p d t s other → new ≡ other
same_traded p d new other q k t s id det eq lk tk et ls ts =
    let sq : q ≡ t = same_enters p d q t id.parted eq et in
    let sk : k ≡ s = same_leaves p d q k s id.parted lk (subst (λ (c : ℕ). Leaves d c s) (sym sq) ls) in
    same_dictionary p new other tk.dictionary ts.dictionary
    (tk.basic ∙ ap₂ (λ (a b : ℕ). set d.basic a (get_or d.out b 0)) sk sq ∙ sym ts.basic)
    (tk.out ∙ ap₂ (λ (a b : ℕ). set d.out b (get_or d.basic a 0)) sk sq ∙ sym ts.out)
    (Determines-traded p d new q k id eq lk tk.basic det)

pub same_standing : (p : Program) (made : ℕ) (d e : CostForm) → Stands p made d → Stands p made e → d ≡ e
same_standing p zero d e s t = same_dictionary p d e s.dictionary t.dictionary (s.basic ∙ sym t.basic) (s.out ∙ sym t.out) (Stands-determines p zero d s)
same_standing p (suc made) d e (d0, s, i) (e0, t, j) =
    let same : d0 ≡ e0 = same_standing p made d0 e0 s t in
    let j2 : Pivot p d0 e = subst (λ (y : CostForm). Pivot p y e) (sym same) j in
    same_traded p d0 d e i.q i.k j2.q j2.k (Stands-dictionary p made d0 s) (Stands-determines p made d0 s) i.enters i.leaves i.traded j2.enters j2.leaves j2.traded
