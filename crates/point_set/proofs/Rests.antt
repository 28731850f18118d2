-- What remains of a mass goes to the current corners.
use Rattle.std.proofs.Common.{◌≡◌, ℕ, zero, suc, ◌+◌, ◌*◌, ◌^◌, ◌<◌, ◌≤◌, Bool, true, false, not, cond, ◌==◌, ltb, List, [], ◌∷◌, length, get_or, replicate, filter, refl, ap, arith, add-one, sym, subst, ◌∙◌, inl, inr, ◌⊎◌}
use Rattle.std.specs.Prelude.{ℤ, pos, negsuc, ◌+ℤ◌, ◌*ℤ◌, ◌≤ℤ◌, count_by, FitsSigned}
use Rattle.std.specs.Int.{w128}
use Rattle.scaled_num.proofs.Floors.{All-from_recursion, small_fits}
use Rattle.std.specs.Int.Signed.{lt_z}
use Rattle.std.specs.List.{AllByRecursion}
use Rattle.std.proofs.lemmas.Bool.{le-ltb, lt-ltb}
use Rattle.std.proofs.lemmas.Bool.Decides.{eqb_tells}
use Rattle.std.proofs.lemmas.Int.{ints}
use Rattle.std.proofs.lemmas.List.{get_or-replicate, get_or-set_other, get_or-set_same, length-replicate}
use Rattle.std.proofs.lemmas.List.FromFn.{get_or-range_with_len, length-range_with_len}
use Rattle.std.proofs.lemmas.List.Sums.{sum_by-cons}
use Rattle.scaled_num.specs.Share.{at}
use Rattle.scaled_num.specs.Sums.{below, total}
use Rattle.scaled_num.proofs.Products.{sums}
use Rattle.belief.specs.Beliefs.{corner_of}
use Rattle.game_model.proofs.Pay.{each-from}
use Rattle.game_model.specs.Game.{IsWithin}
use Rattle.point_set.specs.Corners.{point_at}
use Rattle.point_set.specs.Points.{PointData}
use Rattle.point_set.specs.Sawtooth.{AreCorners}
use Rattle.point_set.specs.Split.{AreRisingPairs, is_corner, weight_of}
use Rattle.point_set.specs.Takes.{AreBeliefs, AreItems, IsSmall, inserted, others, with_rests}
use Rattle.point_set.proofs.Counted.{few-items, others-inserted, same-corner}
use Rattle.point_set.proofs.Items.{add-item, belief-at, each-grown, rising-inserted, same-items, weight-inserted}
use Rattle.point_set.proofs.Masses.{sum-below-same}
use Rattle.scaled_num.proofs.Sums.{total-below-more}

-- one more state
rests-cases : (P : List (ℕ × ℤ) → Type 0) (corners : ℕ → ℕ) (rest : List ℤ) (items : List (ℕ × ℤ)) (n : ℕ) →
    (pos 1 ≤ℤ at rest n → P (inserted (corners n) (at rest n) (with_rests corners rest items n))) → (at rest n ≤ℤ pos 0 → P (with_rests corners rest items n)) → P (with_rests corners rest items (suc n))
rests-cases P corners rest items n some none =
    by (at rest n) some none
  where
    by : (x : ℤ) → (pos 1 ≤ℤ x → P (inserted (corners n) x (with_rests corners rest items n))) → (x ≤ℤ pos 0 → P (with_rests corners rest items n)) →
        P (cond (lt_z (pos 0) x) (inserted (corners n) x (with_rests corners rest items n)) (with_rests corners rest items n))
    by (pos zero) s t = t (omega (arith, ints))
    by (pos (suc m)) s t = let l : 0 < suc m = omega arith in rw (lt-ltb 0 (suc m) l) (s (omega (arith, ints)))
    by (negsuc m) s t = t (omega (arith, ints))

-- the current corner of a state is one of the corners
counted-once : (p : ℕ → Bool) (xs : List ℕ) (i d : ℕ) → i < length xs → p (get_or xs i d) ≡ true → 1 ≤ count_by p xs
counted-once p [] i d l e = absurd (omega arith)
counted-once p (x ∷ xs) zero d l e = rw (sum_by-cons (λ (y : ℕ). cond (p y) 1 0) x xs, e) (omega arith)
counted-once p (x ∷ xs) (suc i) d l e = omega (arith, sum_by-cons (λ (y : ℕ). cond (p y) 1 0) x xs, counted-once p xs i d (omega arith) e)

same-number : (a : ℕ) → (a == a) ≡ true
same-number a = elim (eqb_tells a a) [ inl t ↦ t.0 | inr t ↦ absurd (t.1 refl) ]

pub corner-is : (corners : ℕ → ℕ) (states s : ℕ) → s < states → is_corner corners states (corners s) ≡ true
corner-is corners states s l =
    lt-ltb 0 (count_by (λ i. corners i == corners s) (below states))
    (counted-once (λ i. corners i == corners s) (below states) s 0 (omega (arith, length-range_with_len 0 states))
    (ap (λ (i : ℕ). corners i == corners s) (get_or-range_with_len 0 states s 0 l ∙ first s) ∙ same-number (corners s)))
  where
    first : (s : ℕ) → 0 + s ≡ s
    first s = omega arith

-- corners that agree below so many states
same-is : (one two : ℕ → ℕ) (states k : ℕ) → ((s : ℕ) → s < states → one s ≡ two s) → is_corner one states k ≡ is_corner two states k
same-is one two states k h = ap (ltb 0) (sum-below-same states (λ s. cond (one s == k) 1 0) (λ s. cond (two s == k) 1 0) (λ s l. ap (λ (n : ℕ). cond (n == k) 1 0) (h s l)))

pub same-others : (one two : ℕ → ℕ) (states : ℕ) (items : List (ℕ × ℤ)) → ((s : ℕ) → s < states → one s ≡ two s) → others one states items ≡ others two states items
same-others one two states [] h = refl
same-others one two states (x ∷ xs) h =
    ap (λ (b : Bool). length (cond (not b) (x ∷ filter (λ (item : ℕ × ℤ). not (is_corner one states item.0)) xs) (filter (λ (item : ℕ × ℤ). not (is_corner one states item.0)) xs))) (same-is one two states x.0 h)
    ∙ elim (not (is_corner two states x.0)) as (λ b. length (cond b (x ∷ filter (λ (item : ℕ × ℤ). not (is_corner one states item.0)) xs) (filter (λ (item : ℕ × ℤ). not (is_corner one states item.0)) xs))
    ≡ length (cond b (x ∷ filter (λ (item : ℕ × ℤ). not (is_corner two states item.0)) xs) (filter (λ (item : ℕ × ℤ). not (is_corner two states item.0)) xs))) [
      | true ↦ ap suc (same-others one two states xs h)
      | false ↦ same-others one two states xs h
    ]

pub same-corners : (points : List PointData) (states : ℕ) (one two : ℕ → ℕ) → AreCorners points states one → AreCorners points states two → (s : ℕ) → s < states → one s ≡ two s
same-corners points states one two h k s l = same-corner points s (one s) (two s) (h s l) (k s l)

-- what stays of the items
pub rests-rise : (corners : ℕ → ℕ) (rest : List ℤ) (items : List (ℕ × ℤ)) (n : ℕ) → AreRisingPairs items → AreRisingPairs (with_rests corners rest items n)
rests-rise corners rest items zero h = h
rests-rise corners rest items (suc n) h =
    rests-cases AreRisingPairs corners rest items n
    (λ some. rising-inserted (corners n) (at rest n) (with_rests corners rest items n) (rests-rise corners rest items n h))
    (λ none. rests-rise corners rest items n h)

pub rests-others : (corners : ℕ → ℕ) (states : ℕ) (rest : List ℤ) (items : List (ℕ × ℤ)) (n : ℕ) → n ≤ states → others corners states (with_rests corners rest items n) ≤ others corners states items
rests-others corners states rest items zero l = omega arith
rests-others corners states rest items (suc n) l =
    rests-cases (λ xs. others corners states xs ≤ others corners states items) corners rest items n
    (λ some. omega (
      arith,
      others-inserted corners states (corners n) (at rest n) (with_rests corners rest items n),
      ap (λ (b : Bool). cond {A = ℕ} (not b) 1 0) (corner-is corners states n (omega arith)),
      rests-others corners states rest items n (omega arith),
    ))
    (λ none. rests-others corners states rest items n (omega arith))

pub rests-room : (corners : ℕ → ℕ) (states : ℕ) (rest : List ℤ) (items : List (ℕ × ℤ)) (n : ℕ) (w : ℤ) → n < states → states ≤ 16 → AreRisingPairs items → others corners states items ≤ 8 →
    length (inserted (corners n) w (with_rests corners rest items n)) ≤ 24
rests-room corners states rest items n w l few rising h =
    few-items corners states (inserted (corners n) w (with_rests corners rest items n))
    (rising-inserted (corners n) w (with_rests corners rest items n) (rests-rise corners rest items n rising))
    (omega (
      arith,
      others-inserted corners states (corners n) w (with_rests corners rest items n),
      ap (λ (b : Bool). cond {A = ℕ} (not b) 1 0) (corner-is corners states n l),
      rests-others corners states rest items n (omega arith),
    )) few

abbrev IsUpTo : ℕ → ℕ × ℤ → Type 0
IsUpTo n item = IsWithin (pos 0) (pos ((n + 1) * 2 ^ 66)) item.1

more-upto : (n : ℕ) (item : ℕ × ℤ) → IsUpTo n item → IsUpTo (suc n) item
more-upto n item h = (h.0, wider item.1 n h.1)
  where
    wider : (a : ℤ) (n : ℕ) → a ≤ℤ pos ((n + 1) * 2 ^ 66) → a ≤ℤ pos ((suc n + 1) * 2 ^ 66)
    wider a n h = omega (arith, ints)

rests-upto : (corners : ℕ → ℕ) (rest : List ℤ) (items : List (ℕ × ℤ)) (n : ℕ) → n ≤ length rest → AllByRecursion (λ item. IsWithin (pos 0) (pos (2 ^ 66)) item.1) items → AllByRecursion (IsWithin (pos 0) (pos (2 ^ 66))) rest →
    AllByRecursion (IsUpTo n) (with_rests corners rest items n)
rests-upto corners rest items zero l h k = each-from (λ (item : ℕ × ℤ). IsWithin (pos 0) (pos (2 ^ 66)) item.1) (IsUpTo 0) items (λ x w. (w.0, w.1)) h
rests-upto corners rest items (suc n) l h k =
    let before = rests-upto corners rest items n (omega arith) h k in
    let w = All-from_recursion (IsWithin (pos 0) (pos (2 ^ 66))) rest k n (pos 0) (omega arith) in
    rests-cases (AllByRecursion (IsUpTo (suc n))) corners rest items n
    (λ some. each-grown (IsUpTo n) (IsUpTo (suc n)) (corners n) (at rest n) (with_rests corners rest items n) (λ x u. more-upto n x u) before
    (w.0, once (at rest n) n w.1)
    (λ x e u. (low x.1 (at rest n) u.0 w.0, both x.1 (at rest n) n u.1 w.1)))
    (λ none. each-from (IsUpTo n) (IsUpTo (suc n)) (with_rests corners rest items n) (λ x u. more-upto n x u) before)
  where
    once : (a : ℤ) (n : ℕ) → a ≤ℤ pos (2 ^ 66) → a ≤ℤ pos ((suc n + 1) * 2 ^ 66)
    once a n h = omega (arith, ints)

    low : (a b : ℤ) → pos 0 ≤ℤ a → pos 0 ≤ℤ b → pos 0 ≤ℤ (a +ℤ b)
    low a b p q = omega (arith, ints)

    both : (a b : ℤ) (n : ℕ) → a ≤ℤ pos ((n + 1) * 2 ^ 66) → b ≤ℤ pos (2 ^ 66) → (a +ℤ b) ≤ℤ pos ((suc n + 1) * 2 ^ 66)
    both a b n p q = omega (arith, ints)

pub rests-small : (corners : ℕ → ℕ) (rest : List ℤ) (items : List (ℕ × ℤ)) (n : ℕ) → n ≤ length rest → n ≤ 16 → AllByRecursion (λ item. IsWithin (pos 0) (pos (2 ^ 66)) item.1) items → AllByRecursion (IsWithin (pos 0) (pos (2 ^ 66))) rest →
    AllByRecursion (λ item. IsSmall item.1) (with_rests corners rest items n)
rests-small corners rest items n l few h k = each-from (IsUpTo n) (λ item. IsSmall item.1) (with_rests corners rest items n) (λ x u. (u.0, narrow x.1 n few u.1)) (rests-upto corners rest items n l h k)
  where
    narrow : (a : ℤ) (n : ℕ) → n ≤ 16 → a ≤ℤ pos ((n + 1) * 2 ^ 66) → a ≤ℤ pos (2 ^ 100)
    narrow a n l h = omega (arith, ints)

-- what is left once the first corners were given their part
abbrev pub left_from : List ℤ → ℕ → ℕ → ℤ
left_from rest given s = cond (ltb s given) (pos 0) (at rest s)

left-none : (rest : List ℤ) (n s : ℕ) → s < n → left_from rest n s ≡ pos 0
left-none rest n s l = ap (λ (b : Bool). cond b (pos 0) (at rest s)) (lt-ltb s n l)

left-all : (rest : List ℤ) (n s : ℕ) → n ≤ s → left_from rest n s ≡ at rest s
left-all rest n s l = ap (λ (b : Bool). cond b (pos 0) (at rest s)) (le-ltb s n l)

pub corner-at : (states n : ℕ) → n < states → at (corner_of states n) n ≡ pos 1
corner-at states n l = get_or-set_same (replicate states (pos 0)) n (pos 1) (pos 0) (omega (arith, length-replicate states (pos 0)))

pub corner-other : (states n s : ℕ) → s < states → (s ≡ n → ⊥) → at (corner_of states n) s ≡ pos 0
corner-other states n s l ne = get_or-set_other (replicate states (pos 0)) n s (pos 1) (pos 0) ne ∙ get_or-replicate states s (pos 0) (pos 0) l

-- giving the n-th corner its part
given-next : (rest : List ℤ) (states n s : ℕ) → n < states → s < states → left_from rest n s ≡ left_from rest (suc n) s +ℤ at rest n *ℤ at (corner_of states n) s
given-next rest states n s l m =
    elim (eqb_tells s n) [
      | inl e ↦ subst (λ (j : ℕ). left_from rest n j ≡ left_from rest (suc n) j +ℤ at rest n *ℤ at (corner_of states n) j) (sym e.1) here
      | inr e ↦ there (apart s n e.1) e.1
    ]
  where
    one : (a : ℤ) → a ≡ pos 0 +ℤ a *ℤ pos 1
    one a = omega (arith, ints)

    zero_times : (a b : ℤ) → a ≡ a +ℤ b *ℤ pos 0
    zero_times a b = omega (arith, ints)

    here : left_from rest n n ≡ left_from rest (suc n) n +ℤ at rest n *ℤ at (corner_of states n) n
    here =
        left-all rest n n (omega arith)
        ∙ one (at rest n)
        ∙ ap (λ z. z +ℤ at rest n *ℤ pos 1) (sym (left-none rest (suc n) n (omega arith)))
        ∙ ap (λ z. left_from rest (suc n) n +ℤ at rest n *ℤ z) (sym (corner-at states n l))

    apart : (s n : ℕ) → (s ≡ n → ⊥) → (s < n) ⊎ (suc n ≤ s)
    apart s n ne = search arith

    same : (s < n) ⊎ (suc n ≤ s) → left_from rest n s ≡ left_from rest (suc n) s
    same (inl b) = left-none rest n s b ∙ sym (left-none rest (suc n) s (omega arith))
    same (inr b) = left-all rest n s (omega arith) ∙ sym (left-all rest (suc n) s b)

    there : (s < n) ⊎ (suc n ≤ s) → (s ≡ n → ⊥) → left_from rest n s ≡ left_from rest (suc n) s +ℤ at rest n *ℤ at (corner_of states n) s
    there way ne =
        same way
        ∙ zero_times (left_from rest (suc n) s) (at rest n)
        ∙ ap (λ z. left_from rest (suc n) s +ℤ at rest n *ℤ z) (sym (corner-other states n s m ne))

-- where nothing remained, nothing is given
given-nothing : (rest : List ℤ) (n s : ℕ) → pos 0 ≤ℤ at rest n → at rest n ≤ℤ pos 0 → left_from rest n s ≡ left_from rest (suc n) s
given-nothing rest n s low high =
    elim (eqb_tells s n) [
      | inl e ↦ subst (λ (j : ℕ). left_from rest n j ≡ left_from rest (suc n) j) (sym e.1) (left-all rest n n (omega arith) ∙ zero-only (at rest n) low high ∙ sym (left-none rest (suc n) n (omega arith)))
      | inr e ↦ same (apart s n e.1)
    ]
  where
    zero-only : (b : ℤ) → pos 0 ≤ℤ b → b ≤ℤ pos 0 → b ≡ pos 0
    zero-only (pos zero) p q = refl
    zero-only (pos (suc n)) p q = absurd (omega (arith, ints))
    zero-only (negsuc n) p q = absurd (omega (arith, ints))

    apart : (s n : ℕ) → (s ≡ n → ⊥) → (s < n) ⊎ (suc n ≤ s)
    apart s n ne = search arith

    same : (s < n) ⊎ (suc n ≤ s) → left_from rest n s ≡ left_from rest (suc n) s
    same (inl b) = left-none rest n s b ∙ sym (left-none rest (suc n) s (omega arith))
    same (inr b) = left-all rest n s (omega arith) ∙ sym (left-all rest (suc n) s b)

pub rests-made : (points : List PointData) (mass rest : List ℤ) (corners : ℕ → ℕ) (items : List (ℕ × ℤ)) (n : ℕ) → AreBeliefs (length mass) points → AreCorners points (length mass) corners →
    AllByRecursion (λ x. pos 0 ≤ℤ x) rest → length rest ≡ length mass → n ≤ length mass → AreItems points mass (at rest) items → AreItems points mass (left_from rest n) (with_rests corners rest items n)
rests-made points mass rest corners items zero beliefs current none long l h = same-items points mass (at rest) (left_from rest zero) items h (λ s m. sym (left-all rest zero s (omega arith)))
rests-made points mass rest corners items (suc n) beliefs current none long l h =
    let before = rests-made points mass rest corners items n beliefs current none long (omega arith) h in
    let here = current n (omega arith) in
    let belief : (point_at points (corners n)).belief ≡ corner_of (length mass) n = here.corner.belief ∙ ap (λ (m : ℕ). corner_of m n) (belief-at (length mass) points (corners n) beliefs here.inside).long in
    rests-cases (AreItems points mass (left_from rest (suc n))) corners rest items n
    (λ some. add-item points mass (left_from rest n) (left_from rest (suc n)) (with_rests corners rest items n) (corners n) (at rest n) before some here.inside
    (λ s m. given-next rest (length mass) n s (omega arith) m ∙ ap (λ (xs : List ℤ). left_from rest (suc n) s +ℤ at rest n *ℤ at xs s) (sym belief)))
    (λ high. same-items points mass (left_from rest n) (left_from rest (suc n)) (with_rests corners rest items n) before
    (λ s m. given-nothing rest n s (All-from_recursion (λ x. pos 0 ≤ℤ x) rest none n (pos 0) (omega arith)) high))

pub rests-weigh : (corners : ℕ → ℕ) (rest : List ℤ) (items : List (ℕ × ℤ)) (n k : ℕ) → AllByRecursion (λ x. pos 0 ≤ℤ x) rest → n ≤ length rest →
    weight_of (with_rests corners rest items n) k ≡ weight_of items k +ℤ total (λ s. cond (corners s == k) (at rest s) (pos 0)) (below n)
rests-weigh corners rest items zero k none l = alone (weight_of items k)
  where
    alone : (a : ℤ) → a ≡ a +ℤ pos 0
    alone a = omega (arith, sums)
rests-weigh corners rest items (suc n) k none l =
    let f : ℕ → ℤ = λ s. cond (corners s == k) (at rest s) (pos 0) in
    let before = rests-weigh corners rest items n k none (omega arith) in
    let more : total f (below (suc n)) ≡ total f (below n) +ℤ f n = ap (λ (m : ℕ). total f (below m)) (sym (add-one n)) ∙ total-below-more f n in
    rests-cases (λ xs. weight_of xs k ≡ weight_of items k +ℤ (total f (below n) +ℤ f n)) corners rest items n
    (λ some. weight-inserted (corners n) (at rest n) (with_rests corners rest items n) k ∙ ap (λ z. z +ℤ f n) before ∙ regroup (weight_of items k) (total f (below n)) (f n))
    (λ high. before ∙ regroup-none (weight_of items k) (total f (below n)) (f n) (nothing (corners n == k) (at rest n) (All-from_recursion (λ x. pos 0 ≤ℤ x) rest none n (pos 0) (omega arith)) high))
    ∙ ap (λ z. weight_of items k +ℤ z) (sym more)
  where
    regroup : (a b c : ℤ) → (a +ℤ b) +ℤ c ≡ a +ℤ (b +ℤ c)
    regroup a b c = omega (arith, sums)

    regroup-none : (a b c : ℤ) → c ≡ pos 0 → a +ℤ b ≡ a +ℤ (b +ℤ c)
    regroup-none a b c e = rw e (omega (arith, sums))

    nothing : (b : Bool) (a : ℤ) → pos 0 ≤ℤ a → a ≤ℤ pos 0 → cond b a (pos 0) ≡ pos 0
    nothing true (pos zero) p q = refl
    nothing true (pos (suc m)) p q = absurd (omega (arith, ints))
    nothing true (negsuc m) p q = absurd (omega (arith, ints))
    nothing false a p q = refl

-- where all corners were given their part, nothing is left
pub rests-end : (rest : List ℤ) (n s : ℕ) → s < n → left_from rest n s ≡ pos 0
rests-end rest n s l = left-none rest n s l

pub part-fits : (rest : List ℤ) (s : ℕ) → AllByRecursion (IsWithin (pos 0) (pos (2 ^ 66))) rest → s < length rest → FitsSigned w128 (at rest s)
part-fits rest s h l = let w = All-from_recursion (IsWithin (pos 0) (pos (2 ^ 66))) rest h s (pos 0) l in small_fits (at rest s) w.0 (wide (at rest s) w.1)
  where
    wide : (a : ℤ) → a ≤ℤ pos (2 ^ 66) → a ≤ℤ pos (2 ^ 126)
    wide a h = omega (arith, ints)
