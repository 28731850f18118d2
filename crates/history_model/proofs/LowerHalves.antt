-- What the draw among the start nodes earns.
use Rattle.std.proofs.Common.{◌≡◌, ℕ, ◌+◌, ◌*◌, ◌<◌, ◌≤◌, [], ◌∷◌, ap, arith, length, map, refl, sym, subst, ◌∙◌}
use Rattle.std.proofs.lemmas.List.Sums.{sum_by-cons}
use borrow.Author.Differences.{up}
use Rattle.std.specs.Prelude.{ℤ, pos, ◌+ℤ◌, ◌*ℤ◌, ◌≤ℤ◌, ◌-ℤ◌, ◌^◌, List, sum_by, unsigned_abs}
use Rattle.std.specs.List.{AllByRecursion}
use Rattle.std.proofs.lemmas.Int.{ints}
use Rattle.std.proofs.lemmas.Nat.{mul-pow}
use Rattle.scaled_num.specs.Sums.{below, total}
use Rattle.scaled_num.proofs.Products.{add-mulℤ, le-mulℤ, mulℤ_assoc, products, sums}
use Rattle.scaled_num.proofs.Sums.{each-map, sum_by-map, total-map}
use Rattle.alpha_set.specs.Nodes.{nodes_of}
use Rattle.controller.specs.Certificates.{CertificateData, CertificateStands, first_total}
use Rattle.controller.specs.Starts.{IsStart, most_from, weighted, weights_sum}
use Rattle.controller.proofs.Places.{rules}
use Rattle.game_model.specs.Branches.{mix_total}
use Rattle.game_model.specs.Game.{GameData, first_at, numbers, span, unit}
use Rattle.game_model.specs.Plan.{InformedPlan, IsOwnPlan, OwnPlan}
use Rattle.game_model.specs.Play.{pay}
use Rattle.game_model.specs.Seeds.{KeepsSpan}
use Rattle.game_model.proofs.Family.{family-lower}
use Rattle.game_model.proofs.Mixed.{mixed_own-is_plan, pay-mixed_own}
use Rattle.game_model.proofs.Pay.{each-from}
use Rattle.history_model.specs.Halves.{LowerHalf, LowerHalfAt, OwnIsPlan, from_total, node_plan, start, start_item}
use Rattle.history_model.specs.Starts.{StartNodesWeigh, StartsEarn, StartsEarnAt, starts_earn}
use Rattle.history_model.proofs.Standing.{node-earns, node-plans, some_mix}
use Rattle.history_model.proofs.Weighted.{NotNegative, weighted-is, weighted-least, weighted-swap, weights-sum}

-- ---- the start nodes of a certificate that stands
pub from-some : (g : GameData) (k : CertificateData) → CertificateStands g k → NotNegative k.start_nodes
from-some g k stands = each-from (IsStart (length k.nodes) (pos most_from)) _ k.start_nodes (λ start h. positive start.1 h.1.0) stands.fits.starts.from.each
  where
    positive : (x : ℤ) → pos 1 ≤ℤ x → pos 0 ≤ℤ x
    positive x h = omega (arith, ints)

-- the sum of the weights is that of whole numbers
pub from-sum : (g : GameData) (k : CertificateData) → CertificateStands g k → pos (from_total k) ≡ weights_sum k.start_nodes
from-sum g k stands = same (weights_sum k.start_nodes) (sum_by (λ start. unsigned_abs start.1) k.start_nodes) (weights-sum k.start_nodes (from-some g k stands))
  where
    same : (x : ℤ) (n : ℕ) → pos n ≡ x → pos (unsigned_abs x) ≡ x
    same x n e = subst (λ (y : ℤ). pos (unsigned_abs y) ≡ y) e refl

from-total : (g : GameData) (k : CertificateData) → CertificateStands g k → sum_by (λ start. unsigned_abs start.1) k.start_nodes ≡ from_total k
from-total g k stands = ap up (weights-sum k.start_nodes (from-some g k stands) ∙ sym (from-sum g k stands))

-- there is a start of weight at least 1
some-weight : (starts : List (ℕ × ℤ)) → 1 ≤ length starts → AllByRecursion (λ start. pos 1 ≤ℤ start.1) starts → 1 ≤ sum_by (λ start. unsigned_abs start.1) starts
some-weight [] l h = absurd (omega arith)
some-weight (start ∷ starts) l h =
    let x : ℕ = unsigned_abs start.1 in
    let one : 1 ≤ x = least start.1 h.0 in
    rw (sum_by-cons (λ (start : ℕ × ℤ). unsigned_abs start.1) start starts) (more x (sum_by (λ start. unsigned_abs start.1) starts) one)
  where
    least : (x : ℤ) → pos 1 ≤ℤ x → 1 ≤ unsigned_abs x
    least x h = omega (arith, ints)

    more : (x y : ℕ) → 1 ≤ x → 1 ≤ x + y
    more x y h = omega arith

pub from-positive : (g : GameData) (k : CertificateData) → CertificateStands g k → 1 ≤ from_total k
from-positive g k stands =
    subst (λ (n : ℕ). 1 ≤ n) (from-total g k stands)
    (some-weight k.start_nodes stands.fits.starts.from.some (each-from (IsStart (length k.nodes) (pos most_from)) _ k.start_nodes (λ start h. h.1.0) stands.fits.starts.from.each))

-- ---- the draw is a right plan
pub own-is_plan : (g : GameData) (k : CertificateData) → CertificateStands g k → OwnIsPlan g k
own-is_plan g k stands n =
    mixed_own-is_plan (numbers g) (from_total k) mix_total (from-positive g k stands) some_mix n (map (start_item k n) k.start_nodes)
    (sum_by-map (λ (item : ℕ × OwnPlan n). item.0) (start_item k n) k.start_nodes ∙ from-total g k stands)
    (each-map (λ (item : ℕ × OwnPlan n). IsOwnPlan (numbers g) mix_total n item.1) (start_item k n) k.start_nodes
    (each-from (IsStart (length k.nodes) (pos most_from)) _ k.start_nodes (λ start h. node-plans g k stands n start.0 h.0) stands.fits.starts.from.each))

-- ---- what it pays
pay-start : (g : GameData) (k : CertificateData) → CertificateStands g k → (n s : ℕ) (tau : InformedPlan n) →
    pos (from_total k) *ℤ pay (numbers g) n s (start k n) tau ≡ pos (from_total k ^ n) *ℤ weighted k.start_nodes (λ i. pay (numbers g) n s (node_plan k i n) tau)
pay-start g k stands n s tau =
    pay-mixed_own (numbers g) (from_total k) n s (map (start_item k n) k.start_nodes) tau
    ∙ ap (λ (z : ℤ). pos (from_total k ^ n) *ℤ z)
    (total-map (λ (item : ℕ × OwnPlan n). pos item.0 *ℤ pay (numbers g) n s item.1 tau) (start_item k n) k.start_nodes
    ∙ weighted-is k.start_nodes (λ i. pay (numbers g) n s (node_plan k i n) tau) (from-some g k stands))

-- from what the weighted plans earn to what the draw earns
drawn-least : (e x d m w n : ℕ) (entry q t paid sum : ℤ) → pos x *ℤ paid ≡ pos (x ^ n) *ℤ sum →
    ((entry *ℤ q -ℤ pos x *ℤ t) *ℤ pos ((d * m * w) ^ n)) ≤ℤ (pos e *ℤ sum) →
    ((entry *ℤ q -ℤ pos x *ℤ t) *ℤ pos ((d * (x * m) * w) ^ n)) ≤ℤ (pos (x * e) *ℤ paid)
drawn-least e x d m w n entry q t paid sum is h =
    let same : d * (x * m) * w ≡ x * (d * m * w) = omega arith in
    let power : (d * (x * m) * w) ^ n ≡ x ^ n * (d * m * w) ^ n = ap (λ (b : ℕ). b ^ n) same ∙ mul-pow x (d * m * w) n in
    rw power
    (ends _ _ _ _ (le-mulℤ (x ^ n) _ _ h) (turn (pos (x ^ n)) (entry *ℤ q -ℤ pos x *ℤ t) (pos ((d * m * w) ^ n)))
    (turn (pos (x ^ n)) (pos e) sum ∙ ap (λ (z : ℤ). pos e *ℤ z) (sym is) ∙ join (pos e) (pos x) paid))
  where
    turn : (r x w : ℤ) → r *ℤ (x *ℤ w) ≡ x *ℤ (r *ℤ w)
    turn r x w = simp products (omega (arith, sums))

    join : (e x y : ℤ) → e *ℤ (x *ℤ y) ≡ (x *ℤ e) *ℤ y
    join e x y = simp products (omega (arith, sums))

    ends : (a b c d : ℤ) → a ≤ℤ b → a ≡ c → b ≡ d → c ≤ℤ d
    ends a b c d h e f = omega (arith, sums)

-- what the plans of the start nodes earn, each by its weight
pub starts-earn_at : StartsEarnAt
starts-earn_at g k keeps stands whole n s tau ls right =
    weighted-least k.start_nodes (λ i. (nodes_of k.nodes i).vector s) (λ i. pay (numbers g) n s (node_plan k i n) tau) (pos unit)
    (pos ((numbers g).discount_under ^ n)) (pos ((numbers g).discount_over ^ n * span g)) (pos (((numbers g).row_total * mix_total * whole) ^ n)) (from-some g k stands)
    (each-from (IsStart (length k.nodes) (pos most_from)) _ k.start_nodes (λ start h. node-earns g k keeps.full stands whole n start.0 s tau h.0 ls right) stands.fits.starts.from.each)

pub lower-half_at : (g : GameData) (k : CertificateData) → KeepsSpan (numbers g) (span g) → CertificateStands g k → LowerHalfAt g k
lower-half_at g k keeps stands whole n s tau ls right =
    let x : ℕ = from_total k in
    let q : ℕ = (numbers g).discount_under ^ n in
    let t : ℕ = (numbers g).discount_over ^ n * span g in
    let w : ℕ = ((numbers g).row_total * mix_total * whole) ^ n in
    let entry = weighted k.start_nodes (λ i. (nodes_of k.nodes i).vector s) in
    let tails : x * (numbers g).discount_over ^ n * span g ≡ x * t = omega arith in
    rw tails
    (drawn-least unit x (numbers g).row_total mix_total whole n entry (pos q) (pos t) (pay (numbers g) n s (start k n) tau) (starts_earn g k n s tau)
    (pay-start g k stands n s tau)
    (subst (λ (y : ℤ). ((entry *ℤ pos q -ℤ y *ℤ pos t) *ℤ pos w) ≤ℤ (pos unit *ℤ starts_earn g k n s tau)) (sym (from-sum g k stands)) (starts-earn_at g k keeps stands whole n s tau ls right)))

-- ---- over the first states
-- what is at least the weighted entries less a tail in every first state is at least the lower bound less the tail in all
over-first : (g : GameData) (k : CertificateData) → CertificateStands g k → (e q t w : ℕ) (paid : ℕ → ℤ) →
    ((s : ℕ) → s < g.shape.states → ((weighted k.start_nodes (λ i. (nodes_of k.nodes i).vector s) *ℤ pos q -ℤ pos t) *ℤ pos w) ≤ℤ (pos e *ℤ paid s)) →
    ((k.lower.num *ℤ pos q -ℤ pos (t * first_total g)) *ℤ pos w) ≤ℤ (pos e *ℤ total (λ s. pos (first_at g s) *ℤ paid s) (below g.shape.states))
over-first g k stands e q t w paid least =
    let vector = λ (s : ℕ). weighted k.start_nodes (λ i. (nodes_of k.nodes i).vector s) in
    let sum : total (λ s. pos (first_at g s) *ℤ vector s) (below g.shape.states) ≡ k.lower.num =
    weighted-swap k.start_nodes (λ (s : ℕ). pos (first_at g s)) (λ i s. (nodes_of k.nodes i).vector s) (below g.shape.states) ∙ sym (rules g k stands.holds).bound.0.0 in
    subst (λ (lower : ℤ). ((lower *ℤ pos q -ℤ pos (t * first_total g)) *ℤ pos w) ≤ℤ (pos e *ℤ total (λ s. pos (first_at g s) *ℤ paid s) (below g.shape.states))) sum
    (family-lower g.shape.states e q w t (first_at g) vector paid (λ s ls. with_tail (vector s) (pos q) (pos t) (pos w) (pos e *ℤ paid s) (least s ls)))
  where
    back : (x t : ℤ) → x -ℤ t +ℤ t ≡ x
    back x t = omega (arith, sums)

    with_tail : (x q t y z : ℤ) → ((x *ℤ q -ℤ t) *ℤ y) ≤ℤ z → (x *ℤ (q *ℤ y)) ≤ℤ (z +ℤ t *ℤ y)
    with_tail x q t y z h =
        let same : (x *ℤ q -ℤ t) *ℤ y +ℤ t *ℤ y ≡ x *ℤ (q *ℤ y) = sym (add-mulℤ (x *ℤ q -ℤ t) t y) ∙ ap (λ (w : ℤ). w *ℤ y) (back (x *ℤ q) t) ∙ mulℤ_assoc x q y in
        omega (arith, sums, same)

-- the same with the sum of the weights in the tail
pub over-first_starts : (g : GameData) (k : CertificateData) → CertificateStands g k → (e q t w : ℕ) (paid : ℕ → ℤ) →
    ((s : ℕ) → s < g.shape.states →
    ((weighted k.start_nodes (λ i. (nodes_of k.nodes i).vector s) *ℤ pos q -ℤ weights_sum k.start_nodes *ℤ pos t) *ℤ pos w) ≤ℤ (pos e *ℤ paid s)) →
    ((k.lower.num *ℤ pos q -ℤ weights_sum k.start_nodes *ℤ pos (t * first_total g)) *ℤ pos w) ≤ℤ (pos e *ℤ total (λ s. pos (first_at g s) *ℤ paid s) (below g.shape.states))
over-first_starts g k stands e q t w paid least =
    let x : ℕ = from_total k in
    let sum = total (λ s. pos (first_at g s) *ℤ paid s) (below g.shape.states) in
    let tails : x * t * first_total g ≡ x * (t * first_total g) = omega arith in
    subst (λ (y : ℤ). ((k.lower.num *ℤ pos q -ℤ y *ℤ pos (t * first_total g)) *ℤ pos w) ≤ℤ (pos e *ℤ sum)) (from-sum g k stands)
    (subst (λ (y : ℕ). ((k.lower.num *ℤ pos q -ℤ pos y) *ℤ pos w) ≤ℤ (pos e *ℤ sum)) tails
    (over-first g k stands e q (x * t) w paid (λ s ls.
    subst (λ (y : ℤ). ((weighted k.start_nodes (λ i. (nodes_of k.nodes i).vector s) *ℤ pos q -ℤ y *ℤ pos t) *ℤ pos w) ≤ℤ (pos e *ℤ paid s)) (sym (from-sum g k stands)) (least s ls))))

pub starts-earn : StartsEarn
starts-earn g k keeps stands whole n family right =
    over-first_starts g k stands unit ((numbers g).discount_under ^ n) ((numbers g).discount_over ^ n * span g) (((numbers g).row_total * mix_total * whole) ^ n)
    (λ s. starts_earn g k n s (family s)) (λ s ls. starts-earn_at g k keeps stands whole n s (family s) ls (right s ls))

pub lower-half : (g : GameData) (k : CertificateData) → KeepsSpan (numbers g) (span g) → CertificateStands g k → LowerHalf g k
lower-half g k keeps stands whole n family right =
    let x : ℕ = from_total k in
    over-first g k stands (x * unit) ((numbers g).discount_under ^ n) (x * (numbers g).discount_over ^ n * span g) (((numbers g).row_total * (x * mix_total) * whole) ^ n)
    (λ s. pay (numbers g) n s (start k n) (family s)) (λ s ls. lower-half_at g k keeps stands whole n s (family s) ls (right s ls))

pub start-nodes_weigh : StartNodesWeigh
start-nodes_weigh g k stands = subst (λ (z : ℤ). pos 1 ≤ℤ z) (from-sum g k stands) (positive (from_total k) (from-positive g k stands))
  where
    positive : (n : ℕ) → 1 ≤ n → pos 1 ≤ℤ pos n
    positive n h = omega (arith, ints)
