-- Steps to nodes that share the weight of an own action.
use Rattle.std.proofs.Common.{◌≡◌, ℕ, zero, suc, ◌<◌, ◌≤◌, ◌+◌, ◌∷◌, [], List, Bool, true, false, cond, length, map, refl, ap, ◌∙◌, inr, arith}
use Rattle.std.specs.Prelude.{ℤ, pos, filter, unsigned_abs, ◌+ℤ◌, ◌≤ℤ◌}
use Rattle.std.specs.List.{AllByRecursion, range_with_len}
use Rattle.std.proofs.lemmas.Bool.{ltb-false, ltb-true}
use Rattle.std.proofs.lemmas.Int.{ints}
use Rattle.scaled_num.proofs.Sums.{each-at, total-map, total-places}
use Rattle.scaled_num.specs.Sums.{below, sum_of, total}
use Rattle.game_model.specs.Branches.{Branch, IsBranchBefore, mix_total}
use Rattle.game_model.specs.Game.{IsWithin}
use Rattle.stage_game.specs.AdviceData.{has_weight}
use Rattle.stage_game.proofs.Placed.{each-filter, each-weaker, map-each}
use Rattle.stage_game.proofs.SharedTotals.{ArePartsOf, parts-within}
use Rattle.closing.specs.Plans.{AreInOrder, AreStepsFor, numbered, numbered_one}

-- ---- the order
order-kept : (b : Bool) (x : Branch) (xs : List Branch) → AllByRecursion (IsBranchBefore x) xs → AreInOrder xs → AreInOrder (cond b (x ∷ xs) xs)
order-kept true x xs p h = (p, h)
order-kept false x xs p h = h

order-filter : (test : Branch → Bool) (xs : List Branch) → AreInOrder xs → AreInOrder (filter test xs)
order-filter test [] h = tt
order-filter test (x ∷ xs) h = order-kept (test x) x (filter test xs) (each-filter (IsBranchBefore x) test xs h.0) (order-filter test xs h.1)

map-order : (f : ℕ → Branch) (a n : ℕ) → ((i j : ℕ) → i < j → j < a + n → IsBranchBefore (f i) (f j)) → AreInOrder (map f (range_with_len a n))
map-order f a zero h = tt
map-order f a (suc n) h = (
  each-of (a + 1) n (λ j low high. h a j (omega arith) (omega arith)),
  map-order f (a + 1) n (λ i j l k. h i j l (omega arith)),
)
  where
    each-of : (c m : ℕ) → ((j : ℕ) → c ≤ j → j < c + m → IsBranchBefore (f a) (f j)) → AllByRecursion (IsBranchBefore (f a)) (map f (range_with_len c m))
    each-of c zero h = tt
    each-of c (suc m) h = (h c (omega arith) (omega arith), each-of (c + 1) m (λ j low high. h j (omega arith) (omega arith)))

-- ---- branches of no weight are left out
no-weight : (b : Branch) → has_weight b ≡ false → b.weight ≡ pos 0
no-weight b e = let none : unsigned_abs b.weight ≤ 0 = ltb-false 0 (unsigned_abs b.weight) e in omega (arith, ints)

some-weight : (b : Branch) → has_weight b ≡ true → pos 0 ≤ℤ b.weight → pos 1 ≤ℤ b.weight
some-weight b e low = let some : 0 < unsigned_abs b.weight = ltb-true 0 (unsigned_abs b.weight) e in omega (arith, ints)

nothing-more : (x y : ℤ) → x ≡ pos 0 → y ≡ x +ℤ y
nothing-more x y e = omega (arith, ints)

weight-kept : (t : Bool) (b : Branch) (steps : List Branch) → has_weight b ≡ t → total (λ b. b.weight) (filter has_weight steps) ≡ total (λ b. b.weight) steps
    → total (λ b. b.weight) (cond t (b ∷ filter has_weight steps) (filter has_weight steps)) ≡ b.weight +ℤ total (λ b. b.weight) steps
weight-kept true b steps e rest = ap (λ z. b.weight +ℤ z) rest
weight-kept false b steps e rest = rest ∙ nothing-more b.weight (total (λ b. b.weight) steps) (no-weight b e)

weights-passed : (steps : List Branch) → total (λ b. b.weight) (filter has_weight steps) ≡ total (λ b. b.weight) steps
weights-passed [] = refl
weights-passed (b ∷ steps) = weight-kept (has_weight b) b steps refl (weights-passed steps)

passed-kept : (P : Branch → Type 0) (Q : Branch → Type 0) → ((b : Branch) → has_weight b ≡ true → P b → Q b) → (t : Bool) (b : Branch) (steps : List Branch) → has_weight b ≡ t → P b → AllByRecursion Q (filter has_weight steps)
    → AllByRecursion Q (cond t (b ∷ filter has_weight steps) (filter has_weight steps))
passed-kept P Q h true b steps e p rest = (h b e p, rest)
passed-kept P Q h false b steps e p rest = rest

passed-each : (P : Branch → Type 0) (Q : Branch → Type 0) → ((b : Branch) → has_weight b ≡ true → P b → Q b) → (steps : List Branch) → AllByRecursion P steps → AllByRecursion Q (filter has_weight steps)
passed-each P Q h [] p = tt
passed-each P Q h (b ∷ steps) p = passed-kept P Q h (has_weight b) b steps refl p.0 (passed-each P Q h steps p.1)

-- ---- the steps
numbered-sum : (a o : ℕ) (shares : List ℤ) → total (λ b. b.weight) (numbered a o shares) ≡ sum_of shares
numbered-sum a o shares =
    total-map (λ b. b.weight) (numbered_one a o shares) (below (length shares))
    ∙ total-places (λ x. x) (pos 0) shares

pub steps-right : (nodes a o : ℕ) (whole : ℤ) (shares : List ℤ) → ArePartsOf whole nodes shares → whole ≤ℤ pos mix_total → AreStepsFor nodes a o whole (filter has_weight (numbered a o shares))
steps-right nodes a o whole shares parts most =
    let all : List Branch = numbered a o shares in
    let within : AllByRecursion (IsWithin (pos 0) (pos mix_total)) shares =
    each-weaker (IsWithin (pos 0) whole) (IsWithin (pos 0) (pos mix_total)) (λ x l. (l.0, omega (arith, ints, l.1, most))) shares (parts-within whole nodes shares parts) in
    record {
      after = record {
        places = each-filter (λ b. (b.own ≡ a) × (b.seen ≡ o)) has_weight all
            (map-each (λ b. (b.own ≡ a) × (b.seen ≡ o)) (numbered_one a o shares) 0 (length shares) (λ i l. (refl, refl)));
        order = order-filter has_weight all (map-order (numbered_one a o shares) 0 (length shares) (λ i j l k. inr (refl, inr (refl, l))));
      };
      members = each-filter (λ b. b.member < nodes) has_weight all
          (map-each (λ b. b.member < nodes) (numbered_one a o shares) 0 (length shares) (λ i l. omega (arith, parts.long)));
      weights = passed-each (λ b. IsWithin (pos 0) (pos mix_total) b.weight) (λ b. IsWithin (pos 1) (pos mix_total) b.weight)
          (λ b e l. (some-weight b e l.0, l.1)) all
          (map-each (λ b. IsWithin (pos 0) (pos mix_total) b.weight) (numbered_one a o shares) 0 (length shares)
          (λ i l. each-at (IsWithin (pos 0) (pos mix_total)) (pos 0) shares i within (omega arith)));
      sums = weights-passed all ∙ numbered-sum a o shares ∙ parts.sums;
    }
