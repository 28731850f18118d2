-- Combinations of rows that belong to a program, as functions from variables.
use Rattle.std.proofs.Common.{inl, inr, ◌-◌, ℕ, zero, suc, ◌+◌, ◌*◌, ◌<◌, ◌≤◌, ◌≡◌, ℤ, pos, negsuc, ◌+ℤ◌, ◌-ℤ◌, ◌*ℤ◌, ◌<ℤ◌, [], ◌∷◌, refl, sym, ap, ap₂, ◌∙◌, arith, le_antisymm, le_of_mul-le-mul_right}
use Rattle.std.proofs.lemmas.Int.{ints}
use Rattle.std.proofs.lemmas.Bool.{cases_lt}
use borrow.Author.Differences.{up, down, product_is, same_in, same_out}
use Rattle.simplex.specs.declared.Program.{Program}
use Rattle.simplex.specs.Program.{sum_to, row_count, variable_count, cell, limit, gain}
use Rattle.simplex.specs.CostForm.{Belongs}
use Rattle.scaled_num.proofs.Ring.{ring, x, ◌⊕◌, ◌⊖◌, ◌⊗◌}

-- a * e - b * d
abbrev pub comb : ℤ → (ℕ → ℤ) → ℤ → (ℕ → ℤ) → ℕ → ℤ
comb a e b d v = a *ℤ e v -ℤ b *ℤ d v

-- ---- numbers
pub nat_cancel : (k m n : ℕ) → 0 < k → k * m ≡ k * n → m ≡ n
nat_cancel k m n h e = le_antisymm (le_of_mul-le-mul_right {k = k} (omega arith) h) (le_of_mul-le-mul_right {k = k} (omega arith) h)

pub cancel : (g a b : ℤ) → pos 0 <ℤ g → g *ℤ a ≡ g *ℤ b → a ≡ b
cancel (pos k) a b h e =
    let positive : 0 < k = omega (arith, ints) in
    let both : (up (pos k *ℤ a) ≡ up (pos k *ℤ b)) × (down (pos k *ℤ a) ≡ down (pos k *ℤ b)) = same_out _ _ e in
    let ups : up a ≡ up b = nat_cancel k _ _ positive (omega (arith, product_is (pos k) a, product_is (pos k) b)) in
    let downs : down a ≡ down b = nat_cancel k _ _ positive (omega (arith, product_is (pos k) a, product_is (pos k) b)) in
    same_in a b (omega arith)
cancel (negsuc k) a b h e = absurd (omega (arith, ints))

-- ---- sums
pub sum_same : (k : ℕ) (f g : ℕ → ℤ) → ((i : ℕ) → i < k → f i ≡ g i) → sum_to k f ≡ sum_to k g
sum_same zero f g h = refl
sum_same (suc k) f g h = ap₂ ◌+ℤ◌ (sum_same k f g (λ i p. h i (omega arith))) (h k (omega arith))

pub sum_zero : (k : ℕ) (f : ℕ → ℤ) → ((i : ℕ) → i < k → f i ≡ pos 0) → sum_to k f ≡ pos 0
sum_zero zero f h = refl
sum_zero (suc k) f h = ap₂ ◌+ℤ◌ (sum_zero k f (λ i p. h i (omega arith))) (h k (omega arith))

pub sum_comb : (k : ℕ) (a : ℤ) (f : ℕ → ℤ) (b : ℤ) (g : ℕ → ℤ) → sum_to k (comb a f b g) ≡ a *ℤ sum_to k f -ℤ b *ℤ sum_to k g
sum_comb zero a f b g = omega (arith, ints)
sum_comb (suc k) a f b g =
    ap (λ (s : ℤ). s +ℤ (a *ℤ f k -ℤ b *ℤ g k)) (sum_comb k a f b g)
    ∙ ring (a ∷ sum_to k f ∷ f k ∷ b ∷ sum_to k g ∷ g k ∷ []) (((x 0 ⊗ x 1) ⊖ (x 3 ⊗ x 4)) ⊕ ((x 0 ⊗ x 2) ⊖ (x 3 ⊗ x 5))) ((x 0 ⊗ (x 1 ⊕ x 2)) ⊖ (x 3 ⊗ (x 4 ⊕ x 5))) (omega arith)

-- the weights are a combination, and so is the sum
pub sum_weights : (k : ℕ) (a : ℤ) (f : ℕ → ℤ) (b : ℤ) (g w : ℕ → ℤ) → sum_to k (λ i. comb a f b g i *ℤ w i) ≡ a *ℤ sum_to k (λ i. f i *ℤ w i) -ℤ b *ℤ sum_to k (λ i. g i *ℤ w i)
sum_weights k a f b g w =
    sum_same k (λ i. comb a f b g i *ℤ w i) (comb a (λ i. f i *ℤ w i) b (λ i. g i *ℤ w i)) (λ i p. ring (a ∷ f i ∷ b ∷ g i ∷ w i ∷ []) (((x 0 ⊗ x 1) ⊖ (x 2 ⊗ x 3)) ⊗ x 4) ((x 0 ⊗ (x 1 ⊗ x 4)) ⊖ (x 2 ⊗ (x 3 ⊗ x 4))) (omega arith))
    ∙ sum_comb k a (λ i. f i *ℤ w i) b (λ i. g i *ℤ w i)

pub sum_scaled : (k : ℕ) (g : ℤ) (f : ℕ → ℤ) → sum_to k (λ i. g *ℤ f i) ≡ g *ℤ sum_to k f
sum_scaled zero g f = omega (arith, ints)
sum_scaled (suc k) g f =
    ap (λ (s : ℤ). s +ℤ g *ℤ f k) (sum_scaled k g f)
    ∙ ring (g ∷ sum_to k f ∷ f k ∷ []) ((x 0 ⊗ x 1) ⊕ (x 0 ⊗ x 2)) (x 0 ⊗ (x 1 ⊕ x 2)) (omega arith)

pub sum_scaled_weights : (k : ℕ) (g : ℤ) (e f w : ℕ → ℤ) → ((i : ℕ) → i < k → g *ℤ e i ≡ f i) → sum_to k (λ i. f i *ℤ w i) ≡ g *ℤ sum_to k (λ i. e i *ℤ w i)
sum_scaled_weights k g e f w h =
    sum_same k (λ i. f i *ℤ w i) (λ i. g *ℤ (e i *ℤ w i)) (λ i p. ap (λ (y : ℤ). y *ℤ w i) (sym (h i p)) ∙ ring (g ∷ e i ∷ w i ∷ []) ((x 0 ⊗ x 1) ⊗ x 2) (x 0 ⊗ (x 1 ⊗ x 2)) (omega arith))
    ∙ sum_scaled k g (λ i. e i *ℤ w i)

-- ---- what belongs to a program
pub Belongs-comb : (p : Program) (a : ℤ) (e : ℕ → ℤ) (c : ℤ) (b : ℤ) (d : ℕ → ℤ) (k : ℤ) → Belongs p e c → Belongs p d k → Belongs p (comb a e b d) (a *ℤ c -ℤ b *ℤ k)
Belongs-comb p a e c b d k he hd =
    let n : ℕ = variable_count p in
    let m : ℕ = row_count p in
    record {
      own = λ j lt.
          ap₂ (λ (s t : ℤ). a *ℤ s -ℤ b *ℤ t) (he.own j lt) (hd.own j lt)
          ∙ (ring (a ∷ sum_to m (λ i. e (n + i) *ℤ cell p i j) ∷ e (n + m) ∷ b ∷ sum_to m (λ i. d (n + i) *ℤ cell p i j) ∷ d (n + m) ∷ gain p j ∷ []) ((x 0 ⊗ (x 1 ⊖ (x 2 ⊗ x 6))) ⊖ (x 3 ⊗ (x 4 ⊖ (x 5 ⊗ x 6)))) (((x 0 ⊗ x 1) ⊖ (x 3 ⊗ x 4)) ⊖ (((x 0 ⊗ x 2) ⊖ (x 3 ⊗ x 5)) ⊗ x 6)) (omega arith)
          ∙ ap (λ (s : ℤ). s -ℤ (a *ℤ e (n + m) -ℤ b *ℤ d (n + m)) *ℤ gain p j) (sym (sum_weights m a (λ i. e (n + i)) b (λ i. d (n + i)) (λ i. cell p i j))));
      constant_is =
          ap₂ (λ (s t : ℤ). a *ℤ s -ℤ b *ℤ t) he.constant_is hd.constant_is
          ∙ sym (sum_weights m a (λ i. e (n + i)) b (λ i. d (n + i)) (limit p));
    }

-- what is left after a division still belongs
pub Belongs-divided : (p : Program) (g : ℤ) (e new : ℕ → ℤ) (c k : ℤ) → pos 0 <ℤ g → ((v : ℕ) → v ≤ variable_count p + row_count p → g *ℤ new v ≡ e v) → g *ℤ k ≡ c → Belongs p e c → Belongs p new k
Belongs-divided p g e new c k h ev ec he =
    let n : ℕ = variable_count p in
    let m : ℕ = row_count p in
    record {
      own = λ j lt.
          cancel g _ _ h
          (ev j (omega arith) ∙ he.own j lt
          ∙ ap₂ (λ (s t : ℤ). s -ℤ t *ℤ gain p j) (sum_scaled_weights m g (λ i. new (n + i)) (λ i. e (n + i)) (λ i. cell p i j) (λ i q. ev (n + i) (omega arith))) (sym (ev (n + m) (omega arith)))
          ∙ ring (g ∷ sum_to m (λ i. new (n + i) *ℤ cell p i j) ∷ new (n + m) ∷ gain p j ∷ []) ((x 0 ⊗ x 1) ⊖ ((x 0 ⊗ x 2) ⊗ x 3)) (x 0 ⊗ (x 1 ⊖ (x 2 ⊗ x 3))) (omega arith));
      constant_is =
          cancel g _ _ h (ec ∙ he.constant_is ∙ sum_scaled_weights m g (λ i. new (n + i)) (λ i. e (n + i)) (limit p) (λ i q. ev (n + i) (omega arith)));
    }

-- nothing at the slacks and at z, so nothing anywhere
pub nothing : (p : Program) (e : ℕ → ℤ) (c : ℤ) → Belongs p e c → ((i : ℕ) → i ≤ row_count p → e (variable_count p + i) ≡ pos 0) → ((v : ℕ) → v ≤ variable_count p + row_count p → e v ≡ pos 0) × (c ≡ pos 0)
nothing p e c he h =
    let n : ℕ = variable_count p in
    let m : ℕ = row_count p in
    let zero_by : (w : ℕ → ℤ) → sum_to m (λ i. e (n + i) *ℤ w i) ≡ pos 0 =
    λ w. sum_zero m (λ i. e (n + i) *ℤ w i) (λ i q. ap (λ (y : ℤ). y *ℤ w i) (h i (omega arith)) ∙ omega (arith, ints)) in (
      λ v le. elim (cases_lt v n) [
        | inl lt ↦ he.own v lt ∙ ap₂ (λ (s t : ℤ). s -ℤ t *ℤ gain p v) (zero_by (λ i. cell p i v)) (h m (omega arith)) ∙ omega (arith, ints)
        | inr ge ↦ ap e (omega arith) ∙ h (v - n) (omega arith)
      ],
      he.constant_is ∙ zero_by (limit p),
    )
