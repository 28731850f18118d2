-- What the draw among the start points costs.
use Rattle.std.proofs.Common.{◌≡◌, ◌≢◌, ℕ, ◌*◌, ◌/◌, ◌<◌, ◌≤◌, ap, arith, inl, inr, length, map, sym, subst, ◌∙◌}
use Rattle.std.specs.Prelude.{ℤ, pos, ◌+ℤ◌, ◌*ℤ◌, ◌≤ℤ◌, ◌<ℤ◌, ◌^◌, sum_by, unsigned_abs}
use Rattle.std.specs.List.{AllByRecursion}
use Rattle.std.proofs.Math.Nat.{mul-div_cancel_left, mul-pos}
use Rattle.std.proofs.lemmas.Bool.Decides.{eqb_tells}
use Rattle.std.proofs.lemmas.Int.{ints, unsigned_abs-mul}
use Rattle.std.proofs.lemmas.Nat.{mul-pow}
use Rattle.scaled_num.specs.Share.{at}
use Rattle.scaled_num.specs.Sums.{below, total}
use Rattle.scaled_num.proofs.Each.{at-below, each-of-map}
use Rattle.scaled_num.proofs.Products.{le-mulℤ, lt-mulℤ_cancel, mul-addℤ, magnitude-is, mulℤ_assoc, mulℤ_left_comm, products, sums}
use Rattle.scaled_num.proofs.Sums.{each, each-at, each-map, sum_by-map, sum_by-same, total-below, total-map, total-pos, total-same, total-scale, total-swap}
use Rattle.controller.specs.Certificates.{CertificateData, CertificateStands, first_total}
use Rattle.controller.specs.Members.{belief_total}
use Rattle.controller.specs.Starts.{IsStart, most_over, weighted}
use Rattle.controller.proofs.Places.{rules}
use Rattle.game_model.specs.Branches.{mix_total}
use Rattle.game_model.specs.Game.{GameData, IsWithin, first_at, numbers, span, unit}
use Rattle.game_model.specs.Mixed.{mixed_informed}
use Rattle.game_model.specs.Numbers.{RowsAreFull}
use Rattle.game_model.specs.Plan.{InformedPlan, IsInformedPlan, IsOwnPlan, OwnPlan}
use Rattle.game_model.specs.Play.{pay}
use Rattle.game_model.specs.Seeds.{KeepsSpan}
use Rattle.game_model.proofs.Mixed.{mixed_informed-is_plan, pay-mixed_informed, scaled_informed-is_plan}
use Rattle.game_model.proofs.Pay.{each-from}
use Rattle.history_model.specs.Halves.{HoldIsPlan, UpperHalf, common, first_weights, over_total, point_plan, reply, reply_item}
use Rattle.history_model.specs.Plans.{masses}
use Rattle.history_model.specs.Starts.{StartPointsMakeUp, StartsHold, starts_cost}
use Rattle.history_model.proofs.Splitting.{Divides, product-divides, product-positive, sum_by-scale, zero-weights}
use Rattle.history_model.proofs.Standing.{point-holds, point-plans, some_mix}
use Rattle.history_model.proofs.Weighted.{NotNegative, weighted-is, weighted-most, zero_left}
use Rattle.point_set.specs.Corners.{point_at}
use Rattle.point_set.specs.Points.{PointFits, no_point, points_of}

-- ---- the start points of a certificate that stands
pub over-some : (g : GameData) (k : CertificateData) → CertificateStands g k → NotNegative k.start_points
over-some g k stands = each-from (IsStart (length k.points) (pos most_over)) _ k.start_points (λ start h. positive start.1 h.1.0) stands.fits.starts.over.each
  where
    positive : (x : ℤ) → pos 1 ≤ℤ x → pos 0 ≤ℤ x
    positive x h = omega (arith, ints)

pub multiple-positive : (g : GameData) (k : CertificateData) → CertificateStands g k → 1 ≤ unsigned_abs k.multiple
multiple-positive g k stands = least k.multiple stands.fits.starts.multiple.0
  where
    least : (x : ℤ) → pos 1 ≤ℤ x → 1 ≤ unsigned_abs x
    least x h = omega (arith, ints)

pub first-positive : (g : GameData) → 1 ≤ first_weights g
first-positive g = product-positive (map (first_at g) (below g.shape.states))

-- a state's weight in the first belief divides the product, where it has one
pub first-divides : (g : GameData) (s : ℕ) → s < g.shape.states → first_at g s ≢ 0 → first_at g s * (first_weights g / first_at g s) ≡ first_weights g
first-divides g s ls ne =
    let all = each-of-map (Divides (first_weights g)) (first_at g) (below g.shape.states) (product-divides (map (first_at g) (below g.shape.states))) in
    let k = (at-below (λ (s : ℕ). Divides (first_weights g) (first_at g s)) g.shape.states s all ls).divides ne in
    quotient (first_at g s) k.0 (first_weights g) ne k.1
  where
    quotient : (x k z : ℕ) → x ≢ 0 → x * k ≡ z → x * (z / x) ≡ z
    quotient x k z ne e = let some : 0 < x = omega arith in rw (← e) (ap (λ (n : ℕ). x * n) (mul-div_cancel_left k some))

-- what a start point brings to a state: its weight times its belief
abbrev pub brought : CertificateData → ℕ → ℕ × ℤ → ℕ
brought k s start = unsigned_abs start.1 * (points_of k.points start.0).belief s

-- a point's belief is not negative
belief-some : (g : GameData) (k : CertificateData) → CertificateStands g k → (j s : ℕ) → j < length k.points → s < g.shape.states → pos 0 ≤ℤ at (point_at k.points j).belief s
belief-some g k stands j s lj ls =
    let fits = each-at (PointFits g (length k.points)) no_point k.points j stands.fits.points lj in
    (each-at (IsWithin (pos 0) (pos (2 ^ 20))) (pos 0) (point_at k.points j).belief s fits.belief.each (subst (λ (n : ℕ). s < n) (sym fits.belief.long) ls)).0

-- in every state the start points bring the multiple of the first belief
pub brought-sums : (g : GameData) (k : CertificateData) → CertificateStands g k → (s : ℕ) → s < g.shape.states →
    sum_by (brought k s) k.start_points ≡ unsigned_abs k.multiple * first_at g s
brought-sums g k stands s ls =
    let same : pos (sum_by (brought k s) k.start_points) ≡ weighted k.start_points (λ j. at (point_at k.points j).belief s) =
    sym (total-pos (brought k s) k.start_points)
    ∙ total-same _ (λ (start : ℕ × ℤ). start.1 *ℤ at (point_at k.points start.0).belief s) k.start_points
    (each-from (IsStart (length k.points) (pos most_over)) _ k.start_points
    (λ start h. times start.1 (at (point_at k.points start.0).belief s) h.1.0 (belief-some g k stands start.0 s h.0 ls)) stands.fits.starts.over.each) in
    ap unsigned_abs (same ∙ (rules g k stands.holds).start s ls) ∙ unsigned_abs-mul k.multiple (at g.first s)
  where
    times : (x b : ℤ) → pos 1 ≤ℤ x → pos 0 ≤ℤ b → pos (unsigned_abs x * unsigned_abs b) ≡ x *ℤ b
    times x b h k =
        let low : pos 0 ≤ℤ x = omega (arith, ints) in
        sym (ap (λ (y : ℤ). y *ℤ b) (magnitude-is x low) ∙ ap (λ (z : ℤ). pos (unsigned_abs x) *ℤ z) (magnitude-is b k))

-- ---- the draw is a right plan

-- its weights sum to its total where the state has a weight in the first belief
items-sum : (g : GameData) (k : CertificateData) → CertificateStands g k → (n s : ℕ) → s < g.shape.states → first_at g s ≢ 0 →
    sum_by (λ (item : ℕ × InformedPlan n). item.0) (map (reply_item g k s n) k.start_points) ≡ over_total g k
items-sum g k stands n s ls ne =
    let d = first_weights g / first_at g s in
    sum_by-map (λ (item : ℕ × InformedPlan n). item.0) (reply_item g k s n) k.start_points
    ∙ sum_by-same _ (λ start. d * brought k s start) k.start_points (λ start. swap (brought k s start) d)
    ∙ sum_by-scale d (brought k s) k.start_points
    ∙ ap (λ (x : ℕ). d * x) (brought-sums g k stands s ls)
    ∙ last d (unsigned_abs k.multiple) (first_at g s) (first_weights g) (first-divides g s ls ne)
  where
    swap : (x d : ℕ) → x * d ≡ d * x
    swap x d = omega arith

    last : (d m b y : ℕ) → b * d ≡ y → d * (m * b) ≡ m * y
    last d m b y e = omega (arith, ap (λ (x : ℕ). m * x) e)

over-positive : (g : GameData) (k : CertificateData) → CertificateStands g k → 1 ≤ over_total g k
over-positive g k stands = mul-pos (multiple-positive g k stands) (first-positive g)

common-positive : (g : GameData) (k : CertificateData) → 1 ≤ mix_total * common g k
common-positive g k = mul-pos some_mix (product-positive (masses (numbers g) (points_of k.points) (length k.points)))

pub hold-is_plan : (g : GameData) (k : CertificateData) → CertificateStands g k → HoldIsPlan g k
hold-is_plan g k stands n s ls =
    elim (eqb_tells (first_at g s) 0) [
      | inl e ↦ rw e.0
          (scaled_informed-is_plan (numbers g) (over_total g k) (mix_total * common g k) (over-positive g k stands) n (point_plan g k s s n)
          (point-plans g k stands n s s (enough s ls stands.fits.some_points) ls))
      | inr e ↦ rw e.0
          (mixed_informed-is_plan (numbers g) (over_total g k) (mix_total * common g k) (over-positive g k stands) (common-positive g k) n (map (reply_item g k s n) k.start_points)
          (items-sum g k stands n s ls e.1)
          (each-map (λ (item : ℕ × InformedPlan n). IsInformedPlan (numbers g) (mix_total * common g k) n item.1) (reply_item g k s n) k.start_points
          (each-from (IsStart (length k.points) (pos most_over)) _ k.start_points (λ start h. point-plans g k stands n start.0 s h.0 ls) stands.fits.starts.over.each)))
    ]
  where
    enough : (s : ℕ) → s < g.shape.states → g.shape.states ≤ length k.points → s < length k.points
    enough s l h = omega arith

-- ---- what it pays

-- what the plans of the start points pay in a first state, by what they bring to it
abbrev brought_pay : GameData → CertificateData → (n : ℕ) → OwnPlan n → ℕ → ℤ
brought_pay g k n sigma s = total (λ (start : ℕ × ℤ). pos (brought k s start) *ℤ pay (numbers g) n s sigma (point_plan g k start.0 s n)) k.start_points

pay-reply : (g : GameData) (k : CertificateData) → CertificateStands g k → (n : ℕ) (sigma : OwnPlan n) (s : ℕ) → s < g.shape.states →
    pos (over_total g k) *ℤ (pos (first_at g s) *ℤ pay (numbers g) n s sigma (reply g k s n)) ≡ pos (over_total g k ^ n * first_weights g) *ℤ brought_pay g k n sigma s
pay-reply g k stands n sigma s ls =
    elim (eqb_tells (first_at g s) 0) [
      | inl e ↦ none (over_total g k) (first_at g s) (over_total g k ^ n * first_weights g) (pay (numbers g) n s sigma (reply g k s n)) (brought_pay g k n sigma s) e.1
          (zero-weights (brought k s) (λ start. pay (numbers g) n s sigma (point_plan g k start.0 s n)) k.start_points
          (brought-sums g k stands s ls ∙ nothing (unsigned_abs k.multiple) (first_at g s) e.1))
      | inr e ↦ rw e.0 (some e.1)
    ]
  where
    nothing : (m b : ℕ) → b ≡ 0 → m * b ≡ 0
    nothing m b e = rw e (omega arith)

    none : (f b c : ℕ) (x y : ℤ) → b ≡ 0 → y ≡ pos 0 → pos f *ℤ (pos b *ℤ x) ≡ pos c *ℤ y
    none f b c x y e h = rw (e, h, zero_left x) (omega (arith, ints))

    out : (x d y : ℤ) → (x *ℤ d) *ℤ y ≡ d *ℤ (x *ℤ y)
    out x d y = simp products (omega (arith, sums))

    four : (b f d y : ℤ) → b *ℤ (f *ℤ (d *ℤ y)) ≡ (f *ℤ (b *ℤ d)) *ℤ y
    four b f d y = simp products (omega (arith, sums))

    last : (b d f w : ℕ) (y : ℤ) → b * d ≡ w → pos b *ℤ (pos f *ℤ (pos d *ℤ y)) ≡ pos (f * w) *ℤ y
    last b d f w y e = rw (← e) (four (pos b) (pos f) (pos d) y)

    some : first_at g s ≢ 0 →
        pos (over_total g k) *ℤ (pos (first_at g s) *ℤ pay (numbers g) n s sigma (mixed_informed (over_total g k) n (map (reply_item g k s n) k.start_points)))
        ≡ pos (over_total g k ^ n * first_weights g) *ℤ brought_pay g k n sigma s
    some ne =
        let f = over_total g k in
        let b = first_at g s in
        let d = first_weights g / b in
        let p = λ (start : ℕ × ℤ). pay (numbers g) n s sigma (point_plan g k start.0 s n) in
        mulℤ_left_comm (pos f) (pos b) (pay (numbers g) n s sigma (mixed_informed f n (map (reply_item g k s n) k.start_points)))
        ∙ ap (λ (z : ℤ). pos b *ℤ z)
        (pay-mixed_informed (numbers g) f n s sigma (map (reply_item g k s n) k.start_points)
        ∙ ap (λ (z : ℤ). pos (f ^ n) *ℤ z)
        (total-map (λ (item : ℕ × InformedPlan n). pos item.0 *ℤ pay (numbers g) n s sigma item.1) (reply_item g k s n) k.start_points
        ∙ total-same _ (λ (start : ℕ × ℤ). pos d *ℤ (pos (brought k s start) *ℤ p start)) k.start_points
        (each (λ (start : ℕ × ℤ). out (pos (brought k s start)) (pos d) (p start)) k.start_points)
        ∙ total-scale (pos d) (λ (start : ℕ × ℤ). pos (brought k s start) *ℤ p start) k.start_points))
        ∙ last b d (f ^ n) (first_weights g) (brought_pay g k n sigma s) (first-divides g s ls ne)

-- what the plans of a point pay, summed over the states by its belief
abbrev point_pay : GameData → CertificateData → (n : ℕ) → OwnPlan n → ℕ → ℤ
point_pay g k n sigma j = total (λ s. pos ((points_of k.points j).belief s) *ℤ pay (numbers g) n s sigma (point_plan g k j s n)) (below g.shape.states)

-- over all states the start points' plans pay the weighted sum of that
brought_pay-sum : (g : GameData) (k : CertificateData) → CertificateStands g k → (n : ℕ) (sigma : OwnPlan n) →
    total (brought_pay g k n sigma) (below g.shape.states) ≡ weighted k.start_points (point_pay g k n sigma)
brought_pay-sum g k stands n sigma =
    let S = below g.shape.states in
    let p = λ (s : ℕ) (start : ℕ × ℤ). pay (numbers g) n s sigma (point_plan g k start.0 s n) in
    let b = λ (s : ℕ) (start : ℕ × ℤ). pos ((points_of k.points start.0).belief s) in
    total-swap (λ s (start : ℕ × ℤ). pos (brought k s start) *ℤ p s start) S k.start_points
    ∙ total-same _ (λ (start : ℕ × ℤ). pos (unsigned_abs start.1) *ℤ point_pay g k n sigma start.0) k.start_points
    (each (λ (start : ℕ × ℤ).
    total-same _ (λ s. pos (unsigned_abs start.1) *ℤ (b s start *ℤ p s start)) S (each (λ s. mulℤ_assoc (pos (unsigned_abs start.1)) (b s start) (p s start)) S)
    ∙ total-scale (pos (unsigned_abs start.1)) (λ s. b s start *ℤ p s start) S) k.start_points)
    ∙ weighted-is k.start_points (point_pay g k n sigma) (over-some g k stands)

-- the totals of the start points' beliefs, weighted, are the multiple of the first belief's
totals-sum : (g : GameData) (k : CertificateData) → CertificateStands g k →
    weighted k.start_points (λ j. pos (belief_total (numbers g) (points_of k.points j))) ≡ pos (unsigned_abs k.multiple * first_total g)
totals-sum g k stands =
    let S = below g.shape.states in
    let b = λ (s : ℕ) (start : ℕ × ℤ). (points_of k.points start.0).belief s in
    sym (weighted-is k.start_points (λ j. pos (belief_total (numbers g) (points_of k.points j))) (over-some g k stands))
    ∙ total-same _ (λ (start : ℕ × ℤ). total (λ s. pos (brought k s start)) S) k.start_points
    (each (λ (start : ℕ × ℤ).
    ap (λ (z : ℤ). pos (unsigned_abs start.1) *ℤ z) (sym (total-pos (λ s. b s start) S))
    ∙ sym (total-scale (pos (unsigned_abs start.1)) (λ s. pos (b s start)) S)) k.start_points)
    ∙ sym (total-swap (λ s (start : ℕ × ℤ). pos (brought k s start)) S k.start_points)
    ∙ total-below g.shape.states _ (λ s. pos (unsigned_abs k.multiple * first_at g s))
    (λ s ls. total-pos (brought k s) k.start_points ∙ ap pos (brought-sums g k stands s ls))
    ∙ total-pos (λ s. unsigned_abs k.multiple * first_at g s) S
    ∙ ap pos (sum_by-scale (unsigned_abs k.multiple) (first_at g) S)

-- a positive factor of both sides goes
le-cancel : (k : ℕ) (a b : ℤ) → 1 ≤ k → (pos k *ℤ a) ≤ℤ (pos k *ℤ b) → a ≤ℤ b
le-cancel k a b some h =
    let one : pos k *ℤ pos 1 ≡ pos k = omega (arith, ints) in
    let more : pos k *ℤ (b +ℤ pos 1) ≡ pos k *ℤ b +ℤ pos k = mul-addℤ (pos k) b (pos 1) ∙ ap (λ (z : ℤ). pos k *ℤ b +ℤ z) one in
    let strict : (pos k *ℤ a) <ℤ (pos k *ℤ (b +ℤ pos 1)) = subst (λ (z : ℤ). (pos k *ℤ a) <ℤ z) (sym more) (omega (arith, ints)) in
    let less : a <ℤ (b +ℤ pos 1) = lt-mulℤ_cancel k a (b +ℤ pos 1) strict in
    omega (arith, ints)

-- from what the weighted plans cost to what the draw costs
drawn-most : (e m w0 d w mix z n : ℕ) (r paid sum : ℤ) → 1 ≤ w0 → pos (m * w0) *ℤ paid ≡ pos ((m * w0) ^ n * w0) *ℤ sum → (pos e *ℤ sum) ≤ℤ (r *ℤ pos ((d * w * mix * z) ^ n)) →
    (pos (m * e) *ℤ paid) ≤ℤ (r *ℤ pos ((d * w * (m * w0 * (mix * z))) ^ n))
drawn-most e m w0 d w mix z n r paid sum some is h =
    let f : ℕ = m * w0 in
    let same : d * w * (f * (mix * z)) ≡ f * (d * w * mix * z) = omega arith in
    let power : (d * w * (f * (mix * z))) ^ n ≡ f ^ n * (d * w * mix * z) ^ n = ap (λ (b : ℕ). b ^ n) same ∙ mul-pow f (d * w * mix * z) n in
    rw power
    (le-cancel w0 _ _ some
    (ends _ _ _ _ (le-mulℤ (f ^ n * w0) _ _ h)
    (turn (pos (f ^ n * w0)) (pos e) sum ∙ ap (λ (y : ℤ). pos e *ℤ y) (sym is) ∙ left (pos e) (pos m) (pos w0) paid)
    (right (pos (f ^ n)) (pos w0) r (pos ((d * w * mix * z) ^ n)))))
  where
    turn : (f e y : ℤ) → f *ℤ (e *ℤ y) ≡ e *ℤ (f *ℤ y)
    turn f e y = simp products (omega (arith, sums))

    left : (e m w y : ℤ) → e *ℤ ((m *ℤ w) *ℤ y) ≡ w *ℤ ((m *ℤ e) *ℤ y)
    left e m w y = simp products (omega (arith, sums))

    right : (f w r y : ℤ) → (f *ℤ w) *ℤ (r *ℤ y) ≡ w *ℤ (r *ℤ (f *ℤ y))
    right f w r y = simp products (omega (arith, sums))

    ends : (a b c d : ℤ) → a ≤ℤ b → a ≡ c → b ≡ d → c ≤ℤ d
    ends a b c d h e f = omega (arith, sums)

-- the start points cost at most the upper bound and the tail
weighted-cost : (g : GameData) (k : CertificateData) → RowsAreFull (numbers g) → CertificateStands g k →
    (whole n : ℕ) (sigma : OwnPlan n) → IsOwnPlan (numbers g) whole n sigma →
    (pos unit *ℤ weighted k.start_points (point_pay g k n sigma))
    ≤ℤ ((k.upper.num *ℤ pos ((numbers g).discount_under ^ n) +ℤ pos (unsigned_abs k.multiple * (numbers g).discount_over ^ n * span g * first_total g))
    *ℤ pos (((numbers g).row_total * whole * mix_total * common g k) ^ n))
weighted-cost g k full stands whole n sigma right =
    let m : ℕ = unsigned_abs k.multiple in
    let q : ℕ = (numbers g).discount_under ^ n in
    let t : ℕ = (numbers g).discount_over ^ n * span g in
    let w : ℕ = ((numbers g).row_total * whole * mix_total * common g k) ^ n in
    let v = λ (j : ℕ). (points_of k.points j).value in
    let b = λ (j : ℕ). pos (belief_total (numbers g) (points_of k.points j)) in
    let p = point_pay g k n sigma in
    let each_holds : AllByRecursion (λ (start : ℕ × ℤ). (pos unit *ℤ p start.0) ≤ℤ ((v start.0 *ℤ pos q +ℤ pos t *ℤ b start.0) *ℤ pos w)) k.start_points =
    each-from (IsStart (length k.points) (pos most_over)) _ k.start_points (λ start h. point-holds g k full stands whole n start.0 sigma h.0 right) stands.fits.starts.over.each in
    let most = weighted-most k.start_points v b p (pos unit) (pos q) (pos t) (pos w) (over-some g k stands) each_holds in
    let tails : t * (m * first_total g) ≡ m * (numbers g).discount_over ^ n * span g * first_total g = omega arith in
    subst (λ (y : ℤ). (pos unit *ℤ weighted k.start_points p) ≤ℤ ((y *ℤ pos q +ℤ pos (m * (numbers g).discount_over ^ n * span g * first_total g)) *ℤ pos w)) (sym (rules g k stands.holds).bound.1.0)
    (subst (λ (y : ℕ). (pos unit *ℤ weighted k.start_points p) ≤ℤ ((weighted k.start_points v *ℤ pos q +ℤ pos y) *ℤ pos w)) tails
    (subst (λ (y : ℤ). (pos unit *ℤ weighted k.start_points p) ≤ℤ ((weighted k.start_points v *ℤ pos q +ℤ pos t *ℤ y) *ℤ pos w)) (totals-sum g k stands) most))

pub upper-half : (g : GameData) (k : CertificateData) → KeepsSpan (numbers g) (span g) → CertificateStands g k → UpperHalf g k
upper-half g k keeps stands whole n sigma right =
    let m : ℕ = unsigned_abs k.multiple in
    let S = below g.shape.states in
    let p = point_pay g k n sigma in
    let paid = total (λ s. pos (first_at g s) *ℤ pay (numbers g) n s sigma (reply g k s n)) S in
    let is : pos (over_total g k) *ℤ paid ≡ pos (over_total g k ^ n * first_weights g) *ℤ weighted k.start_points p =
    sym (total-scale (pos (over_total g k)) (λ s. pos (first_at g s) *ℤ pay (numbers g) n s sigma (reply g k s n)) S)
    ∙ total-below g.shape.states _ (λ s. pos (over_total g k ^ n * first_weights g) *ℤ brought_pay g k n sigma s) (λ s ls. pay-reply g k stands n sigma s ls)
    ∙ total-scale (pos (over_total g k ^ n * first_weights g)) (brought_pay g k n sigma) S
    ∙ ap (λ (z : ℤ). pos (over_total g k ^ n * first_weights g) *ℤ z) (brought_pay-sum g k stands n sigma) in
    drawn-most unit m (first_weights g) (numbers g).row_total whole mix_total (common g k) n
    (k.upper.num *ℤ pos ((numbers g).discount_under ^ n) +ℤ pos (m * (numbers g).discount_over ^ n * span g * first_total g)) paid
    (weighted k.start_points p) (first-positive g) is (weighted-cost g k keeps.full stands whole n sigma right)

-- ---- the start points' own plans
multiple-is : (g : GameData) (k : CertificateData) → CertificateStands g k → k.multiple ≡ pos (unsigned_abs k.multiple)
multiple-is g k stands = magnitude-is k.multiple (low k.multiple stands.fits.starts.multiple.0)
  where
    low : (x : ℤ) → pos 1 ≤ℤ x → pos 0 ≤ℤ x
    low x h = omega (arith, ints)

starts_cost-sum : (g : GameData) (k : CertificateData) (n : ℕ) (sigma : OwnPlan n) →
    total (λ s. starts_cost g k n s sigma) (below g.shape.states) ≡ weighted k.start_points (point_pay g k n sigma)
starts_cost-sum g k n sigma =
    let S = below g.shape.states in
    let p = λ (s : ℕ) (start : ℕ × ℤ). pos ((points_of k.points start.0).belief s) *ℤ pay (numbers g) n s sigma (point_plan g k start.0 s n) in
    total-swap (λ s (start : ℕ × ℤ). start.1 *ℤ p s start) S k.start_points
    ∙ total-same _ (λ (start : ℕ × ℤ). start.1 *ℤ point_pay g k n sigma start.0) k.start_points (each (λ (start : ℕ × ℤ). total-scale start.1 (λ s. p s start) S) k.start_points)

pub starts-hold : StartsHold
starts-hold g k keeps stands whole n sigma right =
    let m : ℕ = unsigned_abs k.multiple in
    let q : ℕ = (numbers g).discount_under ^ n in
    let t : ℕ = (numbers g).discount_over ^ n * span g * first_total g in
    let w : ℕ = ((numbers g).row_total * whole * mix_total * common g k) ^ n in
    let tails : m * (numbers g).discount_over ^ n * span g * first_total g ≡ m * t = omega arith in
    subst (λ (y : ℤ). (pos unit *ℤ total (λ s. starts_cost g k n s sigma) (below g.shape.states)) ≤ℤ ((k.upper.num *ℤ pos q +ℤ y *ℤ pos t) *ℤ pos w)) (sym (multiple-is g k stands))
    (subst (λ (y : ℕ). (pos unit *ℤ total (λ s. starts_cost g k n s sigma) (below g.shape.states)) ≤ℤ ((k.upper.num *ℤ pos q +ℤ pos y) *ℤ pos w)) tails
    (subst (λ (y : ℤ). (pos unit *ℤ y) ≤ℤ ((k.upper.num *ℤ pos q +ℤ pos (m * (numbers g).discount_over ^ n * span g * first_total g)) *ℤ pos w)) (sym (starts_cost-sum g k n sigma))
    (weighted-cost g k keeps.full stands whole n sigma right)))

pub start-points_make_up : StartPointsMakeUp
start-points_make_up g k stands s ls =
    sym (weighted-is k.start_points (λ j. pos ((points_of k.points j).belief s)) (over-some g k stands))
    ∙ total-pos (brought k s) k.start_points
    ∙ ap pos (brought-sums g k stands s ls)
    ∙ ap (λ (z : ℤ). z *ℤ pos (first_at g s)) (sym (multiple-is g k stands))
