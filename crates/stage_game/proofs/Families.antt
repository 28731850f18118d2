-- Lists that are made of one part for each number below a count, in order.
use Rattle.std.proofs.Common.{◌≡◌, ℕ, zero, suc, ◌<◌, ◌+◌, ◌*◌, ◌++◌, ◌∷◌, [], List, Bool, cond, length, inl, inr, refl, sym, subst, ap, ap₂, ◌∙◌, arith, eq-eqb, append_assoc}
use Rattle.std.specs.Prelude.{flat_map, map, ◌==◌}
use Rattle.std.specs.List.{range_with_len}
use Rattle.std.proofs.lemmas.List.{append-nil, length-append}
use Rattle.std.proofs.lemmas.Bool.{cases_eq, ne_eqb}
use Rattle.std.proofs.lemmas.List.FromFn.{map-range_with_len_more}
use Rattle.std.proofs.lemmas.Grind.{flat_map-append}
use Rattle.scaled_num.specs.Sums.{below}

pub below-more : (n : ℕ) → below (n + 1) ≡ below n ++ n ∷ []
below-more n = sym (map-id (below (n + 1))) ∙ map-range_with_len_more (λ i. i) 0 n n (omega arith) ∙ ap (λ (xs : List ℕ). xs ++ n ∷ []) (map-id (below n))
  where
    map-id : (xs : List ℕ) → map (λ i. i) xs ≡ xs
    map-id [] = refl
    map-id (x ∷ xs) = ap (λ (ys : List ℕ). x ∷ ys) (map-id xs)

-- a flat map over the numbers below a count reads its function there alone
flat_map-range : {Y : Type 0} (f g : ℕ → List Y) (a n : ℕ) → ((i : ℕ) → i < a + n → f i ≡ g i) → flat_map f (range_with_len a n) ≡ flat_map g (range_with_len a n)
flat_map-range f g a zero h = refl
flat_map-range f g a (suc n) h = ap₂ (λ xs ys. xs ++ ys) (h a (omega arith)) (flat_map-range f g (a + 1) n (λ i l. h i (omega arith)))

pub flat_map-below : {Y : Type 0} (f g : ℕ → List Y) (n : ℕ) → ((i : ℕ) → i < n → f i ≡ g i) → flat_map f (below n) ≡ flat_map g (below n)
flat_map-below f g n h = flat_map-range f g 0 n (λ i l. h i (omega arith))

-- for each number below a count a right value, whose parts together are the items
pub record AreMade {X Y : Type 0} (R : ℕ → X → Type 0) (part : X → List Y) (count : ℕ) (items : List Y) : Type 0 where
  pub value : ℕ → X
  pub right : (i : ℕ) → i < count → R i (value i)
  pub same : items ≡ flat_map (λ i. part (value i)) (below count)

pub made-none : {X Y : Type 0} (R : ℕ → X → Type 0) (part : X → List Y) → X → AreMade R part 0 []
made-none R part x = record { value = λ i. x; right = λ i l. absurd (omega arith); same = refl }

changed : {X : Type 0} → (ℕ → X) → ℕ → X → ℕ → X
changed f n x i = cond (i == n) x (f i)

changed-here : {X : Type 0} (f : ℕ → X) (n : ℕ) (x : X) → changed f n x n ≡ x
unfolding changed
changed-here f n x = ap (λ (b : Bool). cond b x (f n)) (eq-eqb n n refl)

changed-before : {X : Type 0} (f : ℕ → X) (n : ℕ) (x : X) (i : ℕ) → i < n → changed f n x i ≡ f i
unfolding changed
changed-before f n x i l = ap (λ (b : Bool). cond b x (f i)) (ne_eqb i n (omega arith))

pub made-more : {X Y : Type 0} (R : ℕ → X → Type 0) (part : X → List Y) (count : ℕ) (items : List Y) (x : X) → AreMade R part count items → R count x → AreMade R part (count + 1) (items ++ part x)
made-more R part count items x made right = record {
  value = changed made.value count x;
  right = λ i l. elim (cases_eq i count) [
    | inl e ↦ subst (λ j. R j (changed made.value count x j)) (sym e) (subst (R count) (sym (changed-here made.value count x)) right)
    | inr ne ↦ subst (R i) (sym (changed-before made.value count x i (omega arith))) (made.right i (omega arith))
  ];
  same =
      ap₂ (λ xs ys. xs ++ ys)
      (made.same ∙ flat_map-below (λ i. part (made.value i)) (λ i. part (changed made.value count x i)) count (λ i l. ap part (sym (changed-before made.value count x i l))))
      (sym (append-nil (part (changed made.value count x count)) ∙ ap part (changed-here made.value count x)))
      ∙ sym (ap (flat_map (λ i. part (changed made.value count x i))) (below-more count)
      ∙ flat_map-append (λ i. part (changed made.value count x i)) (below count) (count ∷ []));
}

-- such items stand behind those before
pub record Adds {X Y : Type 0} (R : ℕ → X → Type 0) (part : X → List Y) (count : ℕ) (old new : List Y) : Type 0 where
  pub added : List Y
  pub made : AreMade R part count added
  pub same : new ≡ old ++ added

pub adds-none : {X Y : Type 0} (R : ℕ → X → Type 0) (part : X → List Y) (old : List Y) → X → Adds R part 0 old old
adds-none R part old x = record { added = []; made = made-none R part x; same = sym (append-nil old) }

pub adds-more : {X Y : Type 0} (R : ℕ → X → Type 0) (part : X → List Y) (count : ℕ) (old middle new : List Y) (x : X) → Adds R part count old middle → R count x → new ≡ middle ++ part x
    → Adds R part (count + 1) old new
adds-more R part count old middle new x adds right e = record {
  added = adds.added ++ part x;
  made = made-more R part count adds.added x adds.made right;
  same = e ∙ ap (λ (ys : List _). ys ++ part x) adds.same ∙ append_assoc old adds.added (part x);
}

-- blocks of one length, one behind another
pub blocks-long : {X : Type 0} (f : ℕ → List X) (count a n : ℕ) → ((i : ℕ) → i < a + n → length (f i) ≡ count) → length (flat_map f (range_with_len a n)) ≡ n * count
blocks-long f count a zero h = let none : 0 ≡ 0 * count = omega arith in none
blocks-long f count a (suc n) h =
    length-append (f a) (flat_map f (range_with_len (a + 1) n))
    ∙ (let rest : length (flat_map f (range_with_len (a + 1) n)) ≡ n * count = blocks-long f count (a + 1) n (λ i l. h i (omega arith)) in
    let here : length (f a) ≡ count = h a (omega arith) in
    let both : length (f a) + length (flat_map f (range_with_len (a + 1) n)) ≡ suc n * count = omega arith in both)
