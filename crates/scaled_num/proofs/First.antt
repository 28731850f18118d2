-- The first element of a list for which a rule fails.
use Rattle.std.proofs.Common.{◌≡◌, ℕ, zero, suc, ◌+◌, ◌<◌, ◌≤◌, List, [], ◌∷◌, ◌++◌, map, flat_map, refl, ap, arith, sym, subst, ◌∙◌, append_assoc, Option, Some, None, rules}
use Rattle.std.specs.Prelude.{IfSome, IsNone}
use Rattle.std.proofs.lemmas.List.{map-append}
use Rattle.std.specs.List.{AllByRecursion, range_with_len}
use Rattle.scaled_num.specs.Sums.{below}
use Rattle.scaled_num.proofs.Sums.{below-each, each-append, each-flat_map, each-map}
use Rattle.scaled_num.specs.First.{FirstIn}
use Rattle.scaled_num.proofs.Each.{at-below, each-back, each-of-flat_map, each-of-map}

pub first-left : {X : Type 0} (P : X → Type 0) (xs ys : List X) (x : X) → FirstIn P xs x → FirstIn P (xs ++ ys) x
first-left P xs ys x f =
    record {
      before = f.before;
      after = f.after ++ ys;
      order = ap (λ zs. zs ++ ys) f.order ∙ append_assoc f.before (x ∷ f.after) ys;
      holds = f.holds;
      fails = f.fails;
    }

pub first-right : {X : Type 0} (P : X → Type 0) (xs ys : List X) (x : X) → AllByRecursion P xs → FirstIn P ys x → FirstIn P (xs ++ ys) x
first-right P xs ys x all f =
    record {
      before = xs ++ f.before;
      after = f.after;
      order = ap (λ zs. xs ++ zs) f.order ∙ sym (append_assoc xs f.before (x ∷ f.after));
      holds = each-append P xs f.before all f.holds;
      fails = f.fails;
    }

pub first-head : {X : Type 0} (P : X → Type 0) (x : X) (xs : List X) → ¬ (P x) → FirstIn P (x ∷ xs) x
first-head P x xs fails = record { before = []; after = xs; order = refl; holds = tt; fails = fails }

first-range : {X : Type 0} (P : X → Type 0) (f : ℕ → List X) (a n i : ℕ) (x : X) → i < n → ((j : ℕ) → a ≤ j → j < a + i → AllByRecursion P (f j)) → FirstIn P (f (a + i)) x → FirstIn P (flat_map f (range_with_len a n)) x
first-range P f a zero i x l all here = absurd (omega arith)
first-range P f a (suc n) zero x l all here =
    let at : a + 0 ≡ a = omega arith in
    first-left P (f a) (flat_map f (range_with_len (a + 1) n)) x (subst (λ (k : ℕ). FirstIn P (f k) x) at here)
first-range P f a (suc n) (suc i) x l all here =
    let at : a + suc i ≡ a + 1 + i = omega arith in
    first-right P (f a) (flat_map f (range_with_len (a + 1) n)) x (all a (omega arith) (omega arith))
    (first-range P f (a + 1) n i x (omega arith) (λ j lj mj. all j (omega arith) (omega arith)) (subst (λ (k : ℕ). FirstIn P (f k) x) at here))

-- in the lists of the first numbers, one after another
pub first-flat : {X : Type 0} (P : X → Type 0) (f : ℕ → List X) (n i : ℕ) (x : X) → i < n → ((j : ℕ) → j < i → AllByRecursion P (f j)) → FirstIn P (f i) x → FirstIn P (flat_map f (below n)) x
first-flat P f n i x l all here =
    let at : i ≡ 0 + i = omega arith in
    first-range P f 0 n i x l (λ j lj mj. all j (omega arith)) (subst (λ (k : ℕ). FirstIn P (f k) x) at here)

map-range : {X : Type 0} (P : X → Type 0) (f : ℕ → X) (a n i : ℕ) → i < n → ((j : ℕ) → a ≤ j → j < a + i → P (f j)) → ¬ (P (f (a + i))) → FirstIn P (map f (range_with_len a n)) (f (a + i))
map-range P f a zero i l all fails = absurd (omega arith)
map-range P f a (suc n) zero l all fails =
    let at : a ≡ a + 0 = omega arith in
    subst (λ (k : ℕ). ¬ (P (f k)) → FirstIn P (map f (range_with_len a (suc n))) (f k)) at (first-head P (f a) (map f (range_with_len (a + 1) n))) fails
map-range P f a (suc n) (suc i) l all fails =
    let at : a + suc i ≡ a + 1 + i = omega arith in
    first-right P (f a ∷ []) (map f (range_with_len (a + 1) n)) (f (a + suc i)) (all a (omega arith) (omega arith), tt)
    (subst (λ (k : ℕ). ¬ (P (f k)) → FirstIn P (map f (range_with_len (a + 1) n)) (f k)) (sym at) (map-range P f (a + 1) n i (omega arith) (λ j lj mj. all j (omega arith) (omega arith))) fails)

pub first-map : {X : Type 0} (P : X → Type 0) (f : ℕ → X) (n i : ℕ) → i < n → ((j : ℕ) → j < i → P (f j)) → ¬ (P (f i)) → FirstIn P (map f (below n)) (f i)
first-map P f n i l all fails =
    let at : 0 + i ≡ i = omega arith in
    subst (λ (k : ℕ). ¬ (P (f k)) → FirstIn P (map f (below n)) (f k)) at (map-range P f 0 n i l (λ j lj mj. all j (omega arith))) fails

-- what holds of each number's list
pub all-flat : {X : Type 0} (P : X → Type 0) (f : ℕ → List X) (n : ℕ) → ((i : ℕ) → i < n → AllByRecursion P (f i)) → AllByRecursion P (flat_map f (below n))
all-flat P f n h = each-flat_map P f (below n) (below-each (λ i. AllByRecursion P (f i)) n h)

pub all-map : {X : Type 0} (P : X → Type 0) (f : ℕ → X) (n : ℕ) → ((i : ℕ) → i < n → P (f i)) → AllByRecursion P (map f (below n))
all-map P f n h = each-map P f (below n) (below-each (λ i. P (f i)) n h)

-- and back
pub flat-at : {X : Type 0} (P : X → Type 0) (f : ℕ → List X) (n : ℕ) → AllByRecursion P (flat_map f (below n)) → (i : ℕ) → i < n → AllByRecursion P (f i)
flat-at P f n all i l = at-below (λ i. AllByRecursion P (f i)) n i (each-of-flat_map P f (below n) all) l

pub map-at : {X : Type 0} (P : X → Type 0) (f : ℕ → X) (n : ℕ) → AllByRecursion P (map f (below n)) → (i : ℕ) → i < n → P (f i)
map-at P f n all i l = at-below (λ i. P (f i)) n i (each-of-map P f (below n) all) l

-- a rule that holds of the whole list fails nowhere
pub none-fails : {X : Type 0} (P : X → Type 0) (xs : List X) (x : X) → AllByRecursion P xs → FirstIn P xs x → ⊥
none-fails P xs x all f = f.fails (each-back P f.before (x ∷ f.after) (subst (AllByRecursion P) f.order all)).0

-- a rule fails first at one element only
same-first : {X : Type 0} (P : X → Type 0) (b a c d : List X) (x y : X) → b ++ (x ∷ a) ≡ c ++ (y ∷ d) → AllByRecursion P b → ¬ (P x) → AllByRecursion P c → ¬ (P y) → x ≡ y
same-first P [] a [] d x y e hb fx hc fy = cc
same-first P [] a (z ∷ c) d x y e hb fx hc fy = let s : z ≡ x = cc in absurd (fx (subst P s hc.0))
same-first P (z ∷ b) a [] d x y e hb fx hc fy = let s : z ≡ y = cc in absurd (fy (subst P s hb.0))
same-first P (z ∷ b) a (w ∷ c) d x y e hb fx hc fy = same-first P b a c d x y (cc) hb.1 fx hc.1 fy

pub once : {X : Type 0} (P : X → Type 0) (xs : List X) (x y : X) → FirstIn P xs x → FirstIn P xs y → x ≡ y
once P xs x y f g = same-first P f.before f.after g.before g.after x y (sym f.order ∙ g.order) f.holds f.fails g.holds g.fails

-- in the list that a function makes of another
pub first-mapped : {X Y : Type 0} (P : Y → Type 0) (f : X → Y) (xs : List X) (x : X) → FirstIn (λ x. P (f x)) xs x → FirstIn P (map f xs) (f x)
first-mapped P f xs x h =
    record {
      before = map f h.before;
      after = map f h.after;
      order = ap (map f) h.order ∙ map-append f h.before (x ∷ h.after);
      holds = each-map P f h.before h.holds;
      fails = h.fails;
    }

pub map-map : {X Y Z : Type 0} (g : Y → Z) (f : X → Y) (xs : List X) → map g (map f xs) ≡ map (λ x. g (f x)) xs
map-map g f [] = refl
map-map {X} {Y} {Z} g f (x ∷ xs) = ap (λ (zs : List Z). g (f x) ∷ zs) (map-map g f xs)

pub map-flat : {X Y Z : Type 0} (g : Y → Z) (f : X → List Y) (xs : List X) → map g (flat_map f xs) ≡ flat_map (λ x. map g (f x)) xs
map-flat g f [] = refl
map-flat {X} {Y} {Z} g f (x ∷ xs) = map-append g (f x) (flat_map f xs) ∙ ap (λ (zs : List Z). map g (f x) ++ zs) (map-flat g f xs)

pub flat-same : {X Y : Type 0} (f g : X → List Y) (xs : List X) → ((x : X) → f x ≡ g x) → flat_map f xs ≡ flat_map g xs
flat-same f g [] h = refl
flat-same f g (x ∷ xs) h = let same : f x ≡ g x = h x in let rest : flat_map f xs ≡ flat_map g xs = flat-same f g xs h in cc

-- a rule that holds exactly where another does
pub first-same : {X : Type 0} (P Q : X → Type 0) (xs : List X) (x : X) → ((y : X) → P y → Q y) → ((y : X) → Q y → P y) → FirstIn P xs x → FirstIn Q xs x
first-same P Q xs x there back f =
    record {
      before = f.before;
      after = f.after;
      order = f.order;
      holds = each-from P Q f.before there f.holds;
      fails = λ q. f.fails (back x q);
    }
  where
    each-from : {X : Type 0} (P Q : X → Type 0) (ys : List X) → ((y : X) → P y → Q y) → AllByRecursion P ys → AllByRecursion Q ys
    each-from P Q [] there h = tt
    each-from P Q (y ∷ ys) there h = (there y h.0, each-from P Q ys there h.1)

-- what a search found, by another rule
pub if-some : {X : Type 0} (P Q : X → Type 0) (r : Option X) → ((x : X) → P x → Q x) → IfSome r P → IfSome r Q
if-some P Q (Some x) f h = f x h
if-some P Q None f h = h

-- nothing is found where a rule holds of the whole list
pub none-found : {X : Type 0} (P : X → Type 0) (r : Option X) → ((x : X) → P x → ⊥) → IfSome r P → IsNone r
none-found P (Some x) f h = absurd (f x h)
none-found P None f h = search rules
