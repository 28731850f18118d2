-- What a pivot does to the lists, and to each row: it belongs to the program again, its lead is positive, and its numbers are coprime.
use Rattle.std.proofs.Common.{ℕ, zero, suc, ◌+◌, ◌*◌, ◌<◌, ◌≤◌, ◌≡◌, ◌≢◌, ℤ, pos, negsuc, ◌-ℤ◌, ◌*ℤ◌, ◌<ℤ◌, List, [], ◌∷◌, length, get_or, set, refl, sym, ap, ap₂, subst, ◌∙◌, inl, inr, arith, unsigned_abs, int_div, mul-pos, mul-one}
use Rattle.std.specs.Int.{◌∣◌}
use Rattle.std.proofs.Math.Nat.{mul-dvd-mul_left, dvd_of_mul-dvd-mul_left, eq-one_of_dvd-one, dvd-zero}
use Rattle.std.proofs.Math.ListN.{length-set}
use Rattle.std.proofs.lemmas.Int.{ints, unsigned_abs-mul}
use Rattle.std.proofs.lemmas.Bool.{cases_lt, cases_eq}
use Rattle.std.proofs.lemmas.List.{get_or-set_same, get_or-set_other}
use Rattle.simplex.specs.declared.Program.{Program}
use Rattle.simplex.specs.Program.{at, row_count, variable_count}
use Rattle.simplex.specs.CostForm.{owner, Belongs, AreParted, IsRow}
use Rattle.simplex.specs.Elimination.{eliminated, IsDivisor, IsReduced}
use Rattle.simplex.specs.Tableau.{IsSwapped}
use Rattle.scaled_num.proofs.Ring.{ring, x, ◌⊖◌, ◌⊗◌}
use Rattle.simplex.proofs.Combine.{comb, cancel, Belongs-comb, Belongs-divided}
use Rattle.simplex.proofs.Unique.{owner-set_same, owner-set_other, owner-below, owner-last, by_column}
use Rattle.simplex.proofs.Narrow.{quotient_exact}

-- ---- the two lists
pub AreParted-trade : (p : Program) (basic out : List ℕ) (r q : ℕ) → AreParted p basic out → r < row_count p → q < variable_count p
    → AreParted p (set basic r (get_or out q 0)) (set out q (get_or basic r 0))
AreParted-trade p basic out r q h rl ql =
    let m : ℕ = row_count p in
    let n : ℕ = variable_count p in
    let enter : ℕ = get_or out q 0 in
    let leave : ℕ = get_or basic r 0 in
    let bl : length basic ≡ m = h.basic_long in
    let ol : length out ≡ n = h.out_long in
    let b : ℕ → ℕ = λ k. get_or (set basic r enter) k 0 in
    let o : ℕ → ℕ = λ t. get_or (set out q leave) t 0 in
    let b_same : (k : ℕ) → k ≡ r → b k ≡ enter = λ k e. ap b e ∙ get_or-set_same basic r enter 0 (omega arith) in
    let b_other : (k : ℕ) → k ≢ r → b k ≡ get_or basic k 0 = λ k ne. get_or-set_other basic r k enter 0 ne in
    let o_same : (t : ℕ) → t ≡ q → o t ≡ leave = λ t e. ap o e ∙ get_or-set_same out q leave 0 (omega arith) in
    let o_other : (t : ℕ) → t ≢ q → o t ≡ get_or out t 0 = λ t ne. get_or-set_other out q t leave 0 ne in
    record {
      basic_long = length-set basic r enter ∙ bl;
      out_long = length-set out q leave ∙ ol;
      basic_below = λ k kl. elim (cases_eq k r) [
        | inl e ↦ subst (λ (v : ℕ). v < n + m) (sym (b_same k e)) (h.out_below q ql)
        | inr ne ↦ subst (λ (v : ℕ). v < n + m) (sym (b_other k ne)) (h.basic_below k kl)
      ];
      out_below = λ t tl. elim (cases_eq t q) [
        | inl e ↦ subst (λ (v : ℕ). v < n + m) (sym (o_same t e)) (h.basic_below r rl)
        | inr ne ↦ subst (λ (v : ℕ). v < n + m) (sym (o_other t ne)) (h.out_below t tl)
      ];
      basic_once = λ k s kl sl same. elim (cases_eq k r) [
        | inl e ↦ elim (cases_eq s r) [ inl f ↦ e ∙ sym f | inr ne ↦ absurd (h.apart s q sl ql (sym (b_other s ne) ∙ sym same ∙ b_same k e)) ]
        | inr ne ↦ elim (cases_eq s r) [ inl f ↦ absurd (h.apart k q kl ql (sym (b_other k ne) ∙ same ∙ b_same s f)) | inr nf ↦ h.basic_once k s kl sl (sym (b_other k ne) ∙ same ∙ b_other s nf) ]
      ];
      out_once = λ k s kl sl same. elim (cases_eq k q) [
        | inl e ↦ elim (cases_eq s q) [ inl f ↦ e ∙ sym f | inr ne ↦ absurd (h.apart r s rl sl (sym (o_same k e) ∙ same ∙ o_other s ne)) ]
        | inr ne ↦ elim (cases_eq s q) [ inl f ↦ absurd (h.apart r k rl kl (sym (o_same s f) ∙ sym same ∙ o_other k ne)) | inr nf ↦ h.out_once k s kl sl (sym (o_other k ne) ∙ same ∙ o_other s nf) ]
      ];
      apart = λ k t kl tl same. elim (cases_eq k r) [
        | inl e ↦ elim (cases_eq t q) [
          | inl f ↦ h.apart r q rl ql (sym (o_same t f) ∙ sym same ∙ b_same k e)
          | inr nf ↦ nf (h.out_once t q tl ql (sym (o_other t nf) ∙ sym same ∙ b_same k e))
        ]
        | inr ne ↦ elim (cases_eq t q) [
          | inl f ↦ ne (h.basic_once k r kl rl (sym (b_other k ne) ∙ same ∙ o_same t f))
          | inr nf ↦ h.apart k t kl tl (sym (b_other k ne) ∙ same ∙ o_other t nf)
        ]
      ];
      found = λ v vl. elim (h.found v vl) [
        | inl (k, kl, e) ↦ elim (cases_eq k r) [
          | inl same ↦ inr (q, ql, o_same q refl ∙ ap (λ (t : ℕ). get_or basic t 0) (sym same) ∙ e)
          | inr ne ↦ inl (k, kl, b_other k ne ∙ e)
        ]
        | inr (t, tl, e) ↦ elim (cases_eq t q) [
          | inl same ↦ inl (r, rl, b_same r refl ∙ ap (λ (s : ℕ). get_or out s 0) (sym same) ∙ e)
          | inr ne ↦ inr (t, tl, o_other t ne ∙ e)
        ]
      ];
    }

-- ---- the numbers of the row after the pivot
eliminated_lead : (row pivot : List ℤ) (q : ℕ) → eliminated row pivot q 0 ≡ at pivot (q + 2) *ℤ at row 0 -ℤ at row (q + 2) *ℤ pos 0
eliminated_lead row pivot q = grind arith

pub eliminated_constant : (row pivot : List ℤ) (q : ℕ) → eliminated row pivot q 1 ≡ at pivot (q + 2) *ℤ at row 1 -ℤ at row (q + 2) *ℤ at pivot 1
eliminated_constant row pivot q = grind arith

eliminated_place : (row pivot : List ℤ) (q : ℕ) → eliminated row pivot q (q + 2) ≡ at pivot (q + 2) *ℤ pos 0 -ℤ at row (q + 2) *ℤ at pivot 0
eliminated_place row pivot q = grind arith

eliminated_other : (row pivot : List ℤ) (q t : ℕ) → t ≢ q → eliminated row pivot q (t + 2) ≡ at pivot (q + 2) *ℤ at row (t + 2) -ℤ at row (q + 2) *ℤ at pivot (t + 2)
eliminated_other row pivot q t ne = grind arith

positive_product : (a b : ℤ) → pos 0 <ℤ a → pos 0 <ℤ b → pos 0 <ℤ (a *ℤ b)
positive_product (pos a) (pos b) h k = let both : 0 < a * b = mul-pos (omega (arith, ints)) (omega (arith, ints)) in omega (arith, ints)
positive_product (pos a) (negsuc b) h k = absurd (omega (arith, ints))
positive_product (negsuc a) b h k = absurd (omega (arith, ints))

positive_factor : (g : ℕ) (y : ℤ) → pos 0 <ℤ (pos g *ℤ y) → pos 0 <ℤ y
positive_factor g (pos zero) h = absurd (omega (arith, ints))
positive_factor g (pos (suc y)) h = omega (arith, ints)
positive_factor g (negsuc y) h = absurd (omega (arith, ints))

-- ---- a row that is combined with the pivot row, and divided
-- what both rows are before: the pivot row is that of place r, and the variable at out place q enters
pub record ArePair (p : Program) (basic out : List ℕ) (r q k : ℕ) (row pivot : List ℤ) : Type 0 where
  pub parted : AreParted p basic out
  pub place : r < row_count p
  pub column : q < variable_count p
  pub other : k ≤ row_count p
  pub apart : k ≢ r
  pub is_row : IsRow p basic out k row
  pub is_pivot : IsRow p basic out r pivot
  pub positive : pos 0 <ℤ at pivot (q + 2)

pub IsRow-reduced : (p : Program) (basic out : List ℕ) (r q k : ℕ) (row pivot : List ℤ) (g : ℕ) (new : List ℤ) → ArePair p basic out r q k row pivot
    → IsDivisor row pivot q g → IsReduced row pivot q g new → IsRow p (set basic r (get_or out q 0)) (set out q (get_or basic r 0)) k new
IsRow-reduced p basic out r q k row pivot g new h div red =
    let n : ℕ = variable_count p in
    let m : ℕ = row_count p in
    let enter : ℕ = get_or out q 0 in
    let leave : ℕ = get_or basic r 0 in
    let rl : r < m = h.place in
    let ql : q < n = h.column in
    let bl : length basic ≡ m = h.parted.basic_long in
    let ol : length out ≡ n = h.parted.out_long in
    let rowl : length row ≡ n + 2 = h.is_row.long in
    let pg : pos 0 <ℤ pos g = let i = div.positive in omega (arith, ints) in
    let (e, es, eb) = h.is_row.belongs in
    let (d, ds, db) = h.is_pivot.belongs in
    let c : ℤ = at pivot (q + 2) in
    let a : ℤ = at row (q + 2) in
    let f : ℕ → ℤ = comb c e a d in
    let owner_leave : owner p basic r ≡ leave = owner-below p basic r (omega arith) in
    -- f at the new basic variables and at the new out variables
    let f_own : f (owner p (set basic r enter) k) ≡ eliminated row pivot q 0 =
    ap f (owner-set_other p basic r k enter h.apart) ∙ ap₂ (λ (y z : ℤ). c *ℤ y -ℤ a *ℤ z) es.at_own (ds.at_basic k h.other h.apart) ∙ sym (eliminated_lead row pivot q) in
    let f_basic : (s : ℕ) → s ≤ m → s ≢ k → f (owner p (set basic r enter) s) ≡ pos 0 = λ s sl ne. elim (cases_eq s r) [
      | inl same ↦ ap (λ (t : ℕ). f (owner p (set basic r enter) t)) same ∙ ap f (owner-set_same p basic r enter (omega arith))
          ∙ ap₂ (λ (y z : ℤ). c *ℤ y -ℤ a *ℤ z) (es.at_out q ql) (ds.at_out q ql) ∙ ring (a ∷ c ∷ []) ((x 1 ⊗ x 0) ⊖ (x 0 ⊗ x 1)) (x 0 ⊖ x 0) (omega arith) ∙ omega (arith, ints)
      | inr nr ↦ ap f (owner-set_other p basic r s enter nr) ∙ ap₂ (λ (y z : ℤ). c *ℤ y -ℤ a *ℤ z) (es.at_basic s sl ne) (ds.at_basic s sl nr) ∙ omega (arith, ints)
    ] in
    let f_out : (t : ℕ) → t < n → f (get_or (set out q leave) t 0) ≡ eliminated row pivot q (t + 2) = λ t tl. elim (cases_eq t q) [
      | inl same ↦ ap (λ (s : ℕ). f (get_or (set out q leave) s 0)) same ∙ ap f (get_or-set_same out q leave 0 (omega arith)) ∙ ap f (sym owner_leave)
          ∙ ap₂ (λ (y z : ℤ). c *ℤ y -ℤ a *ℤ z) (es.at_basic r (omega arith) (λ i. h.apart (sym i))) ds.at_own ∙ sym (eliminated_place row pivot q) ∙ ap (λ (s : ℕ). eliminated row pivot q (s + 2)) (sym same)
      | inr ne ↦ ap f (get_or-set_other out q t leave 0 ne) ∙ ap₂ (λ (y z : ℤ). c *ℤ y -ℤ a *ℤ z) (es.at_out t tl) (ds.at_out t tl) ∙ sym (eliminated_other row pivot q t ne)
    ] in
    -- so the divisor divides f everywhere
    let parted : AreParted p (set basic r enter) (set out q leave) = AreParted-trade p basic out r q h.parted rl ql in
    let nbl : length (set basic r enter) ≡ m = parted.basic_long in
    let at_owner : (s : ℕ) → s ≤ m → g ∣ unsigned_abs (f (owner p (set basic r enter) s)) = λ s sl. elim (cases_eq s k) [
      | inl same ↦ subst (λ (y : ℤ). g ∣ unsigned_abs y) (sym (ap (λ (t : ℕ). f (owner p (set basic r enter) t)) same ∙ f_own)) (div.divides 0 (omega arith))
      | inr ne ↦ subst (λ (y : ℤ). g ∣ unsigned_abs y) (sym (f_basic s sl ne)) (dvd-zero g)
    ] in
    let everywhere : (v : ℕ) → v ≤ n + m → g ∣ unsigned_abs (f v) = λ v vl. elim (cases_lt v (n + m)) [
      | inl lt ↦ elim (parted.found v lt) [
        | inl (s, sl, is) ↦ subst (λ (w : ℕ). g ∣ unsigned_abs (f w)) (owner-below p (set basic r enter) s (omega arith) ∙ is) (at_owner s (omega arith))
        | inr (t, tl, is) ↦ subst (λ (w : ℕ). g ∣ unsigned_abs (f w)) is (subst (λ (y : ℤ). g ∣ unsigned_abs y) (sym (f_out t tl)) (div.divides (t + 2) (omega arith)))
      ]
      | inr ge ↦ subst (λ (w : ℕ). g ∣ unsigned_abs (f w)) (owner-last p (set basic r enter) m (omega arith) ∙ (let z : n + m ≡ v = omega arith in z)) (at_owner m (omega arith))
    ] in
    let u : ℕ → ℤ = λ v. int_div (f v) (pos g) in
    let u_is : (v : ℕ) → v ≤ n + m → pos g *ℤ u v ≡ f v = λ v vl. quotient_exact (f v) g (everywhere v vl) in
    let owner_small : (s : ℕ) → s ≤ m → owner p (set basic r enter) s ≤ n + m = λ s sl. elim (cases_lt s m) [
      | inl lt ↦ subst (λ (w : ℕ). w ≤ n + m) (sym (owner-below p (set basic r enter) s (omega arith))) (let i : get_or (set basic r enter) s 0 < n + m = parted.basic_below s lt in omega arith)
      | inr ge ↦ subst (λ (w : ℕ). w ≤ n + m) (sym (owner-last p (set basic r enter) s (omega arith))) (omega arith)
    ] in
    record {
      long = red.long ∙ rowl;
      belongs = (
        u,
        record {
          at_own = cancel (pos g) _ _ pg (u_is _ (owner_small k h.other) ∙ f_own ∙ sym (red.each 0 (omega arith)));
          at_basic = λ s sl ne. cancel (pos g) _ _ pg (u_is _ (owner_small s sl) ∙ f_basic s sl ne ∙ omega (arith, ints));
          at_out = λ t tl. cancel (pos g) _ _ pg (u_is _ (let i : get_or (set out q leave) t 0 < n + m = parted.out_below t tl in omega arith) ∙ f_out t tl ∙ sym (red.each (t + 2) (omega arith)));
        },
        Belongs-divided p (pos g) f u (c *ℤ at row 1 -ℤ a *ℤ at pivot 1) (at new 1) pg u_is (red.each 1 (omega arith) ∙ eliminated_constant row pivot q)
            (Belongs-comb p c e (at row 1) a d (at pivot 1) eb db),
      );
      lead = positive_factor g (at new 0) (subst (λ (y : ℤ). pos 0 <ℤ y)
          (sym (red.each 0 (omega arith) ∙ eliminated_lead row pivot q ∙ (let i : c *ℤ at row 0 -ℤ a *ℤ pos 0 ≡ c *ℤ at row 0 = omega (arith, ints) in i)))
          (positive_product c (at row 0) h.positive h.is_row.lead));
      coprime = λ w all.
          let size : (t : ℕ) → t < length row → g * unsigned_abs (at new t) ≡ unsigned_abs (eliminated row pivot q t) = λ t tl. sym (unsigned_abs-mul (pos g) (at new t)) ∙ ap unsigned_abs (red.each t tl) in
          let most : g * w ∣ g = div.greatest (g * w) (λ t tl. subst (λ (y : ℕ). g * w ∣ y) (size t tl) (mul-dvd-mul_left w g (all t (let i = red.long in omega arith)))) in
          eq-one_of_dvd-one (dvd_of_mul-dvd-mul_left {k = g} w {n = 1} div.positive (subst (λ (y : ℕ). g * w ∣ y) (sym (mul-one g)) most));
    }

-- ---- a row with nothing at the entering variable stays as it is
pub IsRow-kept : (p : Program) (basic out : List ℕ) (r q k : ℕ) (row pivot : List ℤ) → ArePair p basic out r q k row pivot
    → at row (q + 2) ≡ pos 0 → IsRow p (set basic r (get_or out q 0)) (set out q (get_or basic r 0)) k row
IsRow-kept p basic out r q k row pivot h none =
    let n : ℕ = variable_count p in
    let m : ℕ = row_count p in
    let enter : ℕ = get_or out q 0 in
    let leave : ℕ = get_or basic r 0 in
    let rl : r < m = h.place in
    let ql : q < n = h.column in
    let bl : length basic ≡ m = h.parted.basic_long in
    let ol : length out ≡ n = h.parted.out_long in
    let (e, es, eb) = h.is_row.belongs in
    record {
      long = h.is_row.long;
      belongs = (
        e,
        record {
          at_own = ap e (owner-set_other p basic r k enter h.apart) ∙ es.at_own;
          at_basic = λ s sl ne. elim (cases_eq s r) [
            | inl same ↦ ap (λ (t : ℕ). e (owner p (set basic r enter) t)) same ∙ ap e (owner-set_same p basic r enter (omega arith)) ∙ es.at_out q ql ∙ none
            | inr nr ↦ ap e (owner-set_other p basic r s enter nr) ∙ es.at_basic s sl ne
          ];
          at_out = λ t tl. elim (cases_eq t q) [
            | inl same ↦ ap (λ (s : ℕ). e (get_or (set out q leave) s 0)) same ∙ ap e (get_or-set_same out q leave 0 (omega arith)) ∙ ap e (sym (owner-below p basic r (omega arith)))
                ∙ es.at_basic r (omega arith) (λ i. h.apart (sym i)) ∙ sym none ∙ ap (λ (s : ℕ). at row (s + 2)) (sym same)
            | inr ne ↦ ap e (get_or-set_other out q t leave 0 ne) ∙ es.at_out t tl
          ];
        },
        eb,
      );
      lead = h.is_row.lead;
      coprime = h.is_row.coprime;
    }

-- ---- the pivot row: its lead and the coefficient trade places
pub IsRow-pivot : (p : Program) (basic out : List ℕ) (r q : ℕ) (row new : List ℤ) → AreParted p basic out → r < row_count p → q < variable_count p → IsRow p basic out r row
    → pos 0 <ℤ at row (q + 2) → IsSwapped row q new → IsRow p (set basic r (get_or out q 0)) (set out q (get_or basic r 0)) r new
IsRow-pivot p basic out r q row new parted rl ql is positive sw =
    let n : ℕ = variable_count p in
    let m : ℕ = row_count p in
    let enter : ℕ = get_or out q 0 in
    let leave : ℕ = get_or basic r 0 in
    let bl : length basic ≡ m = parted.basic_long in
    let ol : length out ≡ n = parted.out_long in
    let rowl : length row ≡ n + 2 = is.long in
    let newl : length new ≡ length row = sw.long in
    let (e, es, eb) = is.belongs in
    record {
      long = sw.long ∙ is.long;
      belongs = (
        e,
        record {
          at_own = ap e (owner-set_same p basic r enter (omega arith)) ∙ es.at_out q ql ∙ sym sw.lead;
          at_basic = λ s sl ne. ap e (owner-set_other p basic r s enter ne) ∙ es.at_basic s sl ne;
          at_out = λ t tl. elim (cases_eq t q) [
            | inl same ↦ ap (λ (s : ℕ). e (get_or (set out q leave) s 0)) same ∙ ap e (get_or-set_same out q leave 0 (omega arith)) ∙ ap e (sym (owner-below p basic r (omega arith)))
                ∙ es.at_own ∙ sym sw.place ∙ ap (λ (s : ℕ). at new (s + 2)) (sym same)
            | inr ne ↦ ap e (get_or-set_other out q t leave 0 ne) ∙ es.at_out t tl ∙ sym (sw.other t ne)
          ];
        },
        subst (Belongs p e) (sym sw.constant_is) eb,
      );
      lead = subst (λ (y : ℤ). pos 0 <ℤ y) (sym sw.lead) positive;
      coprime = λ w all. is.coprime w (λ j jl. by_column j (λ (t : ℕ). w ∣ unsigned_abs (at row t))
          (subst (λ (y : ℤ). w ∣ unsigned_abs y) sw.place (all (q + 2) (omega arith)))
          (subst (λ (y : ℤ). w ∣ unsigned_abs y) sw.constant_is (all 1 (omega arith)))
          (λ t jt. subst (λ (s : ℕ). w ∣ unsigned_abs (at row s)) (sym jt) (elim (cases_eq t q) [
            | inl same ↦ subst (λ (y : ℤ). w ∣ unsigned_abs y) (sw.lead ∙ ap (λ (s : ℕ). at row (s + 2)) (sym same)) (all 0 (omega arith))
            | inr ne ↦ subst (λ (y : ℤ). w ∣ unsigned_abs y) (sw.other t ne) (all (t + 2) (omega arith))
          ])));
    }
