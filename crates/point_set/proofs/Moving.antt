-- Where shares in a point go to one of the same belief and of no higher value, all points stand.
use Rattle.std.proofs.Common.{◌≡◌, ℕ, ◌+◌, ◌*◌, ◌<◌, Bool, true, false, cond, ◌==◌, ◌&&◌, List, [], ◌∷◌, filter, length, get_or, set, refl, ap, arith, sym, subst, ◌∙◌}
use Rattle.std.specs.Prelude.{ℤ, pos, ◌+ℤ◌, ◌*ℤ◌, ◌≤ℤ◌, sum_by, unsigned_abs}
use Rattle.std.specs.List.{AllByRecursion}
use Rattle.std.proofs.lemmas.Bool.{eqb-true}
use Rattle.std.proofs.lemmas.Int.{ints}
use Rattle.std.proofs.lemmas.List.Sums.{sum_by-cons}
use borrow.Author.Differences.{up}
use Rattle.scaled_num.specs.Sums.{below, total}
use Rattle.scaled_num.proofs.Products.{add-mulℤ, le-mulℤ}
use Rattle.scaled_num.proofs.Sums.{total-add, total-below, total-below-le, total-pos, total-single}
use Rattle.belief.specs.Mixes.{MixesData}
use Rattle.game_model.specs.Branches.{Branch, Continuation, mix_total}
use Rattle.game_model.specs.Game.{unit}
use Rattle.game_model.specs.Numbers.{Numbers}
use Rattle.point_set.specs.Changes.{IsLower, IsRenamed, PointsStand, moved, weight_in}
use Rattle.point_set.specs.Corners.{point_at}
use Rattle.point_set.specs.Points.{PointData, PointStands, point_of, point_worth, points_of, shared, shares_at}
use Rattle.point_set.proofs.Lowering.{lowered-stand}

once : (v : ℤ) → pos 1 *ℤ v ≡ v
once v = omega (arith, ints)

never : (v : ℤ) → pos 0 *ℤ v ≡ pos 0
never v = omega (arith, ints)

-- ---- branches, counted by member
one-weight : (b : Bool) (w : ℕ) (v : ℤ) → pos (cond b w 0) *ℤ v ≡ pos (cond b 1 0) *ℤ (pos w *ℤ v)
one-weight true w v = sym (once (pos w *ℤ v))
one-weight false w v = never v ∙ sym (never (pos w *ℤ v))

none-counted : (V : ℕ → ℤ) (ms : List ℕ) → pos 0 ≡ total (λ m. pos 0 *ℤ V m) ms
none-counted V [] = refl
none-counted V (m ∷ ms) = none-counted V ms ∙ more (V m) (total (λ m. pos 0 *ℤ V m) ms)
  where
    more : (v z : ℤ) → z ≡ pos 0 *ℤ v +ℤ z
    more v z = omega (arith, ints)

-- a sum over branches is one over members
by-member : (V : ℕ → ℤ) (n : ℕ) (xs : List Continuation) → AllByRecursion (λ (x : Continuation). x.member < n) xs →
    total (λ (x : Continuation). pos x.weight *ℤ V x.member) xs ≡ total (λ m. pos (weight_in xs m) *ℤ V m) (below n)
by-member V n [] h = none-counted V (below n)
by-member V n (x ∷ xs) h =
    let first : ℕ → ℤ = λ m. pos (cond (m == x.member) 1 0) *ℤ (pos x.weight *ℤ V m) in
    let rest : ℕ → ℤ = λ m. pos (weight_in xs m) *ℤ V m in
    sym (total-below n (λ m. pos (weight_in (x ∷ xs) m) *ℤ V m) (λ m. first m +ℤ rest m) (λ m lm.
    ap (λ (k : ℕ). pos k *ℤ V m) (sum_by-cons (λ (x : Continuation). cond (m == x.member) x.weight 0) x xs)
    ∙ add-mulℤ (pos (cond (m == x.member) x.weight 0)) (pos (weight_in xs m)) (V m)
    ∙ ap (λ (z : ℤ). z +ℤ rest m) (one-weight (m == x.member) x.weight (V m)))
    ∙ total-add first rest (below n)
    ∙ ap (λ (z : ℤ). z +ℤ total rest (below n)) (total-single (λ m. pos x.weight *ℤ V m) x.member n h.0)
    ∙ ap (λ (z : ℤ). pos x.weight *ℤ V x.member +ℤ z) (sym (by-member V n xs h.1)))

-- ---- what goes to one member goes to another
point-moved : (b c : Bool) (here from to : ℕ) (v : ℤ) → (b ≡ true → here ≡ from) → (b ≡ true → c ≡ true → ⊥) → (c ≡ true → here ≡ to) →
    pos (cond b 0 (cond c (to + from) here)) *ℤ v +ℤ pos (cond b 1 0) *ℤ (pos from *ℤ v) ≡ pos here *ℤ v +ℤ pos (cond c 1 0) *ℤ (pos from *ℤ v)
point-moved true true here from to v h apart k = absurd (apart refl refl)
point-moved true false here from to v h apart k =
    ap (λ (n : ℕ). pos 0 *ℤ v +ℤ pos 1 *ℤ (pos n *ℤ v)) (sym (h refl)) ∙ ends (pos here *ℤ v) (pos from *ℤ v) v
  where
    ends : (x y v : ℤ) → pos 0 *ℤ v +ℤ pos 1 *ℤ x ≡ x +ℤ pos 0 *ℤ y
    ends x y v = omega (arith, ints)
point-moved false true here from to v h apart k =
    ap (λ (z : ℤ). z +ℤ pos 0 *ℤ (pos from *ℤ v)) (add-mulℤ (pos to) (pos from) v)
    ∙ ends (pos to *ℤ v) (pos from *ℤ v)
    ∙ ap (λ (n : ℕ). pos n *ℤ v +ℤ pos 1 *ℤ (pos from *ℤ v)) (sym (k refl))
  where
    ends : (x y : ℤ) → (x +ℤ y) +ℤ pos 0 *ℤ y ≡ x +ℤ pos 1 *ℤ y
    ends x y = omega (arith, ints)
point-moved false false here from to v h apart k = refl

moved-total : (V : ℕ → ℤ) (n : ℕ) (w : ℕ → ℕ) (from to : ℕ) → from < n → to < n → (from ≡ to → ⊥) →
    total (λ m. pos (moved w from to m) *ℤ V m) (below n) +ℤ pos (w from) *ℤ V from ≡ total (λ m. pos (w m) *ℤ V m) (below n) +ℤ pos (w from) *ℤ V to
moved-total V n w from to lf lt apart =
    let new : ℕ → ℤ = λ m. pos (moved w from to m) *ℤ V m in
    let old : ℕ → ℤ = λ m. pos (w m) *ℤ V m in
    let at : ℕ → ℕ → ℤ = λ k m. pos (cond (m == k) 1 0) *ℤ (pos (w from) *ℤ V m) in
    ap (λ (z : ℤ). total new (below n) +ℤ z) (sym (total-single (λ m. pos (w from) *ℤ V m) from n lf))
    ∙ sym (total-add new (at from) (below n))
    ∙ total-below n (λ m. new m +ℤ at from m) (λ m. old m +ℤ at to m) (λ m lm.
    point-moved (m == from) (m == to) (w m) (w from) (w to) (V m) (λ e. ap w (eqb-true m from e)) (λ e f. apart (sym (eqb-true m from e) ∙ eqb-true m to f)) (λ e. ap w (eqb-true m to e)))
    ∙ total-add old (at to) (below n)
    ∙ ap (λ (z : ℤ). total old (below n) +ℤ z) (total-single (λ m. pos (w from) *ℤ V m) to n lt)

-- so of sums over branches
pub moved-sum : (V : ℕ → ℤ) (n : ℕ) (old new : List Continuation) (from to : ℕ) → from < n → to < n → (from ≡ to → ⊥) → AllByRecursion (λ (x : Continuation). x.member < n) old →
    AllByRecursion (λ (x : Continuation). x.member < n) new → ((m : ℕ) → m < n → weight_in new m ≡ moved (weight_in old) from to m) →
    total (λ (x : Continuation). pos x.weight *ℤ V x.member) new +ℤ pos (weight_in old from) *ℤ V from ≡ total (λ (x : Continuation). pos x.weight *ℤ V x.member) old +ℤ pos (weight_in old from) *ℤ V to
moved-sum V n old new from to lf lt apart named renamed goes =
    ap (λ (z : ℤ). z +ℤ pos (weight_in old from) *ℤ V from)
    (by-member V n new renamed ∙ total-below n (λ m. pos (weight_in new m) *ℤ V m) (λ m. pos (moved (weight_in old) from to m) *ℤ V m) (λ m lm. ap (λ (k : ℕ). pos k *ℤ V m) (goes m lm)))
    ∙ moved-total V n (weight_in old) from to lf lt apart
    ∙ ap (λ (z : ℤ). z +ℤ pos (weight_in old from) *ℤ V to) (sym (by-member V n old named))

each-filter : {X : Type 0} (P : X → Type 0) (p : X → Bool) (xs : List X) → AllByRecursion P xs → AllByRecursion P (filter p xs)
each-filter P p [] h = tt
each-filter P p (x ∷ xs) h = by (p x) (each-filter P p xs h.1)
  where
    by : (b : Bool) → AllByRecursion P (filter p xs) → AllByRecursion P (cond b (x ∷ filter p xs) (filter p xs))
    by true k = (h.0, k)
    by false k = k

-- ---- the point
less : (x y p q : ℤ) → x +ℤ p ≡ y +ℤ q → q ≤ℤ p → x ≤ℤ y
less x y p q e l = omega (arith, ints)

equal : (x y p q : ℤ) → x +ℤ p ≡ y +ℤ q → p ≡ q → x ≡ y
equal x y p q e l = omega (arith, ints)

through : (x y z : ℤ) → x ≤ℤ y → y ≤ℤ z → x ≤ℤ z
through x y z h k = omega (arith, ints)

more : (n x y : ℤ) → x ≤ℤ y → (n +ℤ x) ≤ℤ (n +ℤ y)
more n x y h = omega (arith, ints)

-- the sum over a point's shares of their weights times a number of their points
renamed-sum : (g : Numbers) (count from to : ℕ) (old new : PointData) → from < count → to < count → (from ≡ to → ⊥) → IsRenamed g count from to old new → (V : ℕ → ℤ) →
    (a o : ℕ) → a < g.own_actions → o < g.observations →
    total (λ (x : Continuation). pos x.weight *ℤ V x.member) (shares_at (point_of new) a o) +ℤ pos (weight_in (shares_at (point_of old) a o) from) *ℤ V from
    ≡ total (λ (x : Continuation). pos x.weight *ℤ V x.member) (shares_at (point_of old) a o) +ℤ pos (weight_in (shares_at (point_of old) a o) from) *ℤ V to
renamed-sum g count from to old new lf lt apart h V a o la lo =
    let p : Continuation → Bool = λ (share : Continuation). (share.own == a) && (share.seen == o) in
    moved-sum V count (shares_at (point_of old) a o) (shares_at (point_of new) a o) from to lf lt apart
    (each-filter (λ (x : Continuation). x.member < count) p (point_of old).splits h.old_named) (each-filter (λ (x : Continuation). x.member < count) p (point_of new).splits h.new_named)
    (λ m lm. h.goes a o m la lo lm)

renamed-shared : (g : Numbers) (points : List PointData) (from to : ℕ) (old new : PointData) → from < length points → to < length points → (from ≡ to → ⊥) →
    IsLower (point_at points from) (point_at points to) → IsRenamed g (length points) from to old new → (a o t : ℕ) → a < g.own_actions → o < g.observations →
    shared (points_of points) (point_of new) a o t ≡ shared (points_of points) (point_of old) a o t
renamed-shared g points from to old new lf lt apart lower h a o t la lo =
    let V : ℕ → ℤ = λ m. pos ((points_of points m).belief t) in
    let w : ℕ = weight_in (shares_at (point_of old) a o) from in
    let brought : Continuation → ℕ = λ (x : Continuation). x.weight * (points_of points x.member).belief t in
    let here : V from ≡ V to = ap (λ (xs : List ℤ). pos (unsigned_abs (get_or xs t (pos 0)))) (sym lower.belief) in
    ap up (sym (total-pos brought (shares_at (point_of new) a o))
    ∙ equal (total (λ (x : Continuation). pos x.weight *ℤ V x.member) (shares_at (point_of new) a o)) (total (λ (x : Continuation). pos x.weight *ℤ V x.member) (shares_at (point_of old) a o)) (pos w *ℤ V from) (pos w *ℤ V to)
    (renamed-sum g (length points) from to old new lf lt apart h V a o la lo) (ap (λ (z : ℤ). pos w *ℤ z) here)
    ∙ total-pos brought (shares_at (point_of old) a o))

renamed-counted : (g : Numbers) (points : List PointData) (from to : ℕ) (old new : PointData) → from < length points → to < length points → (from ≡ to → ⊥) →
    IsLower (point_at points from) (point_at points to) → IsRenamed g (length points) from to old new → (a o : ℕ) → a < g.own_actions → o < g.observations →
    total (λ (x : Continuation). pos x.weight *ℤ (points_of points x.member).value) (shares_at (point_of new) a o)
    ≤ℤ total (λ (x : Continuation). pos x.weight *ℤ (points_of points x.member).value) (shares_at (point_of old) a o)
renamed-counted g points from to old new lf lt apart lower h a o la lo =
    let V : ℕ → ℤ = λ m. (points_of points m).value in
    let w : ℕ = weight_in (shares_at (point_of old) a o) from in
    less (total (λ (x : Continuation). pos x.weight *ℤ V x.member) (shares_at (point_of new) a o)) (total (λ (x : Continuation). pos x.weight *ℤ V x.member) (shares_at (point_of old) a o)) (pos w *ℤ V from) (pos w *ℤ V to)
    (renamed-sum g (length points) from to old new lf lt apart h V a o la lo) (le-mulℤ w (V to) (V from) lower.value)

-- the old point with the new shares
abbrev with_splits : PointData → List Branch → PointData
with_splits point splits = record { belief = point.belief; value = point.value; mixes = point.mixes; splits = splits }

renamed-stands : (g : Numbers) (points : List PointData) (from to : ℕ) (old new : PointData) → from < length points → to < length points → (from ≡ to → ⊥) →
    IsLower (point_at points from) (point_at points to) → IsRenamed g (length points) from to old new → PointStands g (points_of points) (point_of old) →
    PointStands g (points_of points) (point_of (with_splits old new.splits))
renamed-stands g points from to old new lf lt apart lower h stands = record {
  split = λ a o t la lo lt'. renamed-shared g points from to old new lf lt apart lower h a o t la lo ∙ stands.split a o t la lo lt';
  value = λ a la.
      let counted : PointData → ℕ → ℤ = λ point o. total (λ (x : Continuation). pos x.weight *ℤ (points_of points x.member).value) (shares_at (point_of point) a o) in
      let now : ℤ = total (λ s. total (λ c. pos ((point_of old).belief s * (point_of old).mixes s c) *ℤ g.reward s a c *ℤ pos (unit * g.row_total * g.discount_under)) (below g.informed_actions)) (below g.states) in
      through (point_worth g (points_of points) (point_of (with_splits old new.splits)) a) (point_worth g (points_of points) (point_of old) a) (old.value *ℤ pos (mix_total * g.row_total * g.discount_under))
      (more now (pos g.discount_over *ℤ total (counted new) (below g.observations)) (pos g.discount_over *ℤ total (counted old) (below g.observations))
      (le-mulℤ g.discount_over (total (counted new) (below g.observations)) (total (counted old) (below g.observations))
      (total-below-le g.observations (counted new) (counted old) (λ o lo. renamed-counted g points from to old new lf lt apart lower h a o la lo))))
      (stands.value a la);
}

renamed-is : (g : Numbers) (count from to : ℕ) (old new : PointData) → IsRenamed g count from to old new → with_splits old new.splits ≡ new
renamed-is g count from to old new h =
    made new.belief new.value new.mixes h.belief h.value h.mixes
  where
    made : (b : List ℤ) (v : ℤ) (m : MixesData) → b ≡ old.belief → v ≡ old.value → m ≡ old.mixes → with_splits old new.splits ≡ record { belief = b; value = v; mixes = m; splits = new.splits }
    made b v m e f i = rw (e, f, i) refl

pub renamed-stand : (g : Numbers) (points : List PointData) (number from to : ℕ) (point : PointData) → PointsStand g points → number < length points → from < length points → to < length points → (from ≡ to → ⊥) →
    IsLower (point_at points from) (point_at points to) → IsRenamed g (length points) from to (point_at points number) point → PointsStand g (set points number point)
renamed-stand g points number from to point stand l lf lt apart lower h =
    let old : PointData = point_at points number in
    lowered-stand g points number point stand l (record { belief = h.belief; value = subst (λ (z : ℤ). z ≤ℤ old.value) (sym h.value) (same old.value) })
    (subst (λ (p : PointData). PointStands g (points_of points) (point_of p)) (renamed-is g (length points) from to old point h) (renamed-stands g points from to old point lf lt apart lower h (stand number l)))
  where
    same : (x : ℤ) → x ≤ℤ x
    same x = omega (arith, ints)
