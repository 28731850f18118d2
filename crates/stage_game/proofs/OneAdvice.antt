-- Advice is one: what is read from the last dictionary of a program's run is a function of the program.
use Rattle.std.proofs.Common.{◌≡◌, ℕ, ◌<◌, ◌≤◌, ◌+◌, ◌*◌, ◌∷◌, List, length, map, sym, subst, ap, ap₂, ◌∙◌, arith}
use Rattle.std.specs.Prelude.{ℤ, pos, filter, flat_map, slice_index, ◌*ℤ◌}
use Rattle.std.proofs.lemmas.List.{ext_get_or}
use Rattle.std.proofs.Math.Nat.{mul-le-mul_right}
use Rattle.scaled_num.proofs.OneShare.{floor-one, shared-one}
use Rattle.scaled_num.specs.Share.{IsFloor, IsShared, at}
use Rattle.scaled_num.specs.Sums.{below}
use Rattle.alpha_set.specs.Nodes.{NodeData}
use Rattle.belief.specs.Mixes.{MixesData}
use Rattle.game_model.specs.Branches.{Branch, mix_total}
use Rattle.game_model.specs.Game.{GameData}
use Rattle.point_set.specs.Points.{PointData}
use Rattle.simplex.proofs.AlongRuns.{one_end}
use Rattle.simplex.proofs.OneReading.{one_price, one_primal}
use Rattle.simplex.proofs.SameNumbers.{end_same}
use Rattle.simplex.specs.Dictionary.{Dictionary}
use Rattle.simplex.specs.Program.{program_data, row_count, variable_count}
use Rattle.simplex.specs.Run.{RunEnds}
use Rattle.simplex.specs.declared.End.{End}
use Rattle.simplex.specs.declared.Program.{Program}
use Rattle.stage_game.specs.Advice.{AreInformedRead, AreStepsAfter, AreStepsRead, AreWantedAfter, AreWantedRead, IsLowerAdvice, IsMixRead, IsOwnRead, IsUpperAdvice, most_pivots}
use Rattle.stage_game.specs.AdviceData.{LowerAdviceData, UpperAdviceData, first_going_on, first_point_row, has_weight, listed}
use Rattle.stage_game.specs.Asked.{lower_rows, lower_variables, upper_rows, upper_variables}
use Rattle.stage_game.specs.Masses.{over_pairs}
use Rattle.stage_game.specs.Reading.{AreCountedPrices, ArePriceWeights, ArePrimalWeights, IsCountedPrice, IsLeastShift, IsPrimalWeight, IsReadable, not_negative, shifted, weight_end}
use Rattle.stage_game.proofs.Families.{flat_map-below}
use Rattle.stage_game.proofs.LowerFitting.{block-inside}
use Rattle.stage_game.proofs.Last.{readable-basic, readable-out, run-readable}
use Rattle.stage_game.proofs.RowCounts.{lower-rows, lower-variables, upper-rows, upper-variables}
use Rattle.stage_game.proofs.StateMixes.{same-mixes}
use Rattle.stage_game.proofs.ReadWeights.{prices-low, primal-low}

-- ---- weights are one
weight-one : (d : Dictionary) (i : ℕ) (v w : ℤ) → IsReadable d → i < length d.out → IsPrimalWeight d i v → IsPrimalWeight d i w → v ≡ w
weight-one d i v w readable inside p q =
    let same = one_primal readable.program d i p.num p.den q.num q.den readable.dictionary (omega (arith, readable.dictionary.parted.out_long)) p.value q.value in
    floor-one v w (q.num *ℤ pos weight_end) q.den q.value.lowest.positive
    (subst (λ (den : ℤ). IsFloor v (q.num *ℤ pos weight_end) den) same.1 (subst (λ (num : ℤ). IsFloor v (num *ℤ pos weight_end) p.den) same.0 p.floor)) q.floor

weights-one : (d : Dictionary) (first count : ℕ) (vs ws : List ℤ) → IsReadable d → first + count ≤ length d.out → ArePrimalWeights d first count vs → ArePrimalWeights d first count ws → vs ≡ ws
weights-one d first count vs ws readable inside p q =
    ext_get_or (pos 0) vs ws (p.long ∙ sym q.long)
    (λ i l. let below_count : i < count = omega (arith, p.long) in
    weight-one d (first + i) (at vs i) (at ws i) readable (omega arith) (p.each i below_count) (q.each i below_count))

price-one : (d : Dictionary) (i x y : ℕ) → IsReadable d → i < length d.basic → IsCountedPrice d i x → IsCountedPrice d i y → x ≡ y
price-one d i x y readable inside p q =
    p.same ∙ ap not_negative (one_price readable.program d i p.price q.price readable.dictionary (omega (arith, readable.dictionary.parted.basic_long)) p.is_price q.is_price) ∙ sym q.same

counted-one : (d : Dictionary) (first count : ℕ) (xs ys : List ℕ) → IsReadable d → first + count ≤ length d.basic → AreCountedPrices d first count xs → AreCountedPrices d first count ys → xs ≡ ys
counted-one d first count xs ys readable inside p q =
    ext_get_or 0 xs ys (p.long ∙ sym q.long)
    (λ i l. let below_count : i < count = omega (arith, p.long) in
    price-one d (first + i) (slice_index xs i) (slice_index ys i) readable (omega arith) (p.each i below_count) (q.each i below_count))

shift-one : (numbers : List ℕ) (a b : ℕ) → IsLeastShift numbers a → IsLeastShift numbers b → a ≡ b
shift-one numbers a b p q =
    let low : a ≤ b = p.least b q.fits in
    let high : b ≤ a = q.least a p.fits in
    omega arith

price-weights-one : (d : Dictionary) (first count : ℕ) (vs ws : List ℤ) → IsReadable d → first + count ≤ length d.basic → ArePriceWeights d first count vs → ArePriceWeights d first count ws → vs ≡ ws
price-weights-one d first count vs ws readable inside p q =
    let same : p.prices ≡ q.prices = counted-one d first count p.prices q.prices readable inside p.read q.read in
    let bits : p.bits ≡ q.bits = shift-one q.prices p.bits q.bits (subst (λ (numbers : List ℕ). IsLeastShift numbers p.bits) same p.least) q.least in
    p.same ∙ ap₂ (λ (b : ℕ) (numbers : List ℕ). map pos (shifted b numbers)) bits same ∙ sym q.same

-- ---- mixes are one
own-one : (g : GameData) (d : Dictionary) (own other : List ℤ) → IsReadable d → g.shape.states + g.shape.own_actions ≤ length d.out → IsOwnRead g d own → IsOwnRead g d other → own ≡ other
own-one g d own other readable inside p q =
    let same : p.weights ≡ q.weights = weights-one d g.shape.states g.shape.own_actions p.weights q.weights readable inside p.read q.read in
    shared-one q.weights (pos mix_total) own other (primal-low d g.shape.states g.shape.own_actions q.weights readable inside q.read)
    (subst (λ (weights : List ℤ). IsShared weights (pos mix_total) own) same p.shared) q.shared

state-one : (g : GameData) (d : Dictionary) (s : ℕ) (mix other : List ℤ) → IsReadable d → s < g.shape.states → g.shape.states * g.shape.informed_actions ≤ length d.basic → IsMixRead g d s mix → IsMixRead g d s other → mix ≡ other
state-one g d s mix other readable ls inside p q =
    let rows : s * g.shape.informed_actions + g.shape.informed_actions ≤ length d.basic =
    (let more : (s + 1) * g.shape.informed_actions ≤ g.shape.states * g.shape.informed_actions = mul-le-mul_right g.shape.informed_actions (let l : s + 1 ≤ g.shape.states = omega arith in l) in omega (arith, more)) in
    let same : p.weights ≡ q.weights = price-weights-one d (s * g.shape.informed_actions) g.shape.informed_actions p.weights q.weights readable rows p.read q.read in
    shared-one q.weights (pos mix_total) mix other (prices-low d (s * g.shape.informed_actions) g.shape.informed_actions q.weights q.read)
    (subst (λ (weights : List ℤ). IsShared weights (pos mix_total) mix) same p.shared) q.shared

informed-one : (g : GameData) (d : Dictionary) (mixes other : MixesData) → IsReadable d → g.shape.states * g.shape.informed_actions ≤ length d.basic → AreInformedRead g d mixes → AreInformedRead g d other → mixes ≡ other
informed-one g d mixes other readable inside p q =
    same-mixes mixes other (p.states ∙ sym q.states) (p.actions ∙ sym q.actions)
    (p.same ∙ flat_map-below p.mix q.mix g.shape.states (λ s l. state-one g d s (p.mix s) (q.mix s) readable l inside (p.read s l) (q.read s l)) ∙ sym q.same)

-- ---- what stands pair by pair is one
over-pairs-same : (g : GameData) (f h : ℕ → ℕ → List Branch) → ((a o : ℕ) → a < g.shape.own_actions → o < g.shape.observations → f a o ≡ h a o) → over_pairs g f ≡ over_pairs g h
over-pairs-same g f h same =
    flat_map-below (λ a. flat_map (λ o. f a o) (below g.shape.observations)) (λ a. flat_map (λ o. h a o) (below g.shape.observations)) g.shape.own_actions
    (λ a la. flat_map-below (λ o. f a o) (λ o. h a o) g.shape.observations (λ o lo. same a o la lo))

steps-one : (g : GameData) (candidates : List ℕ) (d : Dictionary) (own : List ℤ) (next other : List Branch) → IsReadable d
    → lower_variables g (length candidates) ≤ length d.out → AreStepsRead g candidates d own next → AreStepsRead g candidates d own other → next ≡ other
steps-one g candidates d own next other readable inside p q =
    p.same ∙ over-pairs-same g p.after q.after (λ a o la lo. after a o la lo (p.read a o la lo) (q.read a o la lo)) ∙ sym q.same
  where
    after : (a o : ℕ) → a < g.shape.own_actions → o < g.shape.observations → AreStepsAfter g candidates d own a o (p.after a o) → AreStepsAfter g candidates d own a o (q.after a o) → p.after a o ≡ q.after a o
    after a o la lo r s =
        let count : ℕ = length candidates in
        let within : first_going_on g count a o + count ≤ length d.out = omega (arith, block-inside a o g.shape.own_actions g.shape.observations count la lo) in
        let same : r.weights ≡ s.weights = weights-one d (first_going_on g count a o) count r.weights s.weights readable within r.read s.read in
        let shares : r.shares ≡ s.shares =
        shared-one s.weights (at own a) r.shares s.shares (primal-low d (first_going_on g count a o) count s.weights readable within s.read)
        (subst (λ (weights : List ℤ). IsShared weights (at own a) r.shares) same r.shared) s.shared in
        r.same ∙ ap (λ (shares : List ℤ). filter has_weight (listed a o candidates shares)) shares ∙ sym s.same

wanted-one : (g : GameData) (candidates : List ℕ) (d : Dictionary) (wanted other : List Branch) → IsReadable d
    → upper_rows g (length candidates) ≤ length d.basic → AreWantedRead g candidates d wanted → AreWantedRead g candidates d other → wanted ≡ other
wanted-one g candidates d wanted other readable inside p q =
    p.same ∙ over-pairs-same g p.after q.after (λ a o la lo. after a o la lo (p.read a o la lo) (q.read a o la lo)) ∙ sym q.same
  where
    after : (a o : ℕ) → a < g.shape.own_actions → o < g.shape.observations → AreWantedAfter g candidates d a o (p.after a o) → AreWantedAfter g candidates d a o (q.after a o) → p.after a o ≡ q.after a o
    after a o la lo r s =
        let count : ℕ = length candidates in
        let within : first_point_row g count a o + count ≤ length d.basic = omega (arith, block-inside a o g.shape.own_actions g.shape.observations count la lo) in
        r.same ∙ ap (λ (weights : List ℤ). listed a o candidates weights) (price-weights-one d (first_point_row g count a o) count r.weights s.weights readable within r.read s.read) ∙ sym s.same

-- ---- advice is one
abbrev lower-of : List ℤ → List Branch → MixesData → End → LowerAdviceData
lower-of own next informed end = record { own = own; next = next; informed = informed; end = end }

abbrev upper-of : MixesData → List Branch → List ℤ → End → UpperAdviceData
upper-of informed wanted own end = record { informed = informed; wanted = wanted; own = own; end = end }

-- the last dictionary and the end of runs of programs with the same numbers
same-last : (p q : Program) (d e : Dictionary) (end other : End) → program_data p ≡ program_data q → RunEnds p most_pivots d end → RunEnds q most_pivots e other → (end ≡ other) × (d ≡ e)
same-last p q d e end other same run second =
    let moved : RunEnds q most_pivots d end = end_same p q most_pivots d end same run in
    let one = one_end q most_pivots d e end other moved second in
    (one.0, let all : d ∷ moved.before ≡ e ∷ second.before = one.1 in cc)

pub lower-one : (g : GameData) (belief : List ℤ) (nodes : List NodeData) (candidates : List ℕ) (bits : ℕ) (advice other : LowerAdviceData)
    → IsLowerAdvice g belief nodes candidates bits advice → IsLowerAdvice g belief nodes candidates bits other → advice ≡ other
lower-one g belief nodes candidates bits advice other p q =
    let last = same-last p.program q.program p.last q.last advice.end other.end (p.written ∙ sym q.written) p.run q.run in
    let readable : IsReadable q.last = run-readable q.program q.last most_pivots other.end q.serves q.run in
    let out_long : length q.last.out ≡ variable_count q.program = readable-out q.program q.last most_pivots other.end q.run in
    let basic_long : length q.last.basic ≡ row_count q.program = readable-basic q.program q.last most_pivots other.end q.run in
    let variables : variable_count q.program ≡ lower_variables g (length candidates) = lower-variables q.program g belief nodes candidates bits q.written in
    let rows : row_count q.program ≡ lower_rows g = lower-rows q.program g belief nodes candidates bits q.written in
    let own : advice.own ≡ other.own =
    own-one g q.last advice.own other.own readable (omega arith) (subst (λ (d : Dictionary). IsOwnRead g d advice.own) last.1 p.own) q.own in
    let next : advice.next ≡ other.next =
    steps-one g candidates q.last other.own advice.next other.next readable (omega arith)
    (subst (λ (own : List ℤ). AreStepsRead g candidates q.last own advice.next) own (subst (λ (d : Dictionary). AreStepsRead g candidates d advice.own advice.next) last.1 p.next)) q.next in
    let informed : advice.informed ≡ other.informed =
    informed-one g q.last advice.informed other.informed readable (omega arith) (subst (λ (d : Dictionary). AreInformedRead g d advice.informed) last.1 p.informed) q.informed in
    ap (λ (x : List ℤ). lower-of x advice.next advice.informed advice.end) own
    ∙ ap (λ (x : List Branch). lower-of other.own x advice.informed advice.end) next
    ∙ ap (λ (x : MixesData). lower-of other.own other.next x advice.end) informed
    ∙ ap (λ (x : End). lower-of other.own other.next other.informed x) last.0

pub upper-one : (g : GameData) (belief : List ℤ) (points : List PointData) (candidates : List ℕ) (bits : ℕ) (advice other : UpperAdviceData)
    → IsUpperAdvice g belief points candidates bits advice → IsUpperAdvice g belief points candidates bits other → advice ≡ other
upper-one g belief points candidates bits advice other p q =
    let last = same-last p.program q.program p.last q.last advice.end other.end (p.written ∙ sym q.written) p.run q.run in
    let readable : IsReadable q.last = run-readable q.program q.last most_pivots other.end q.serves q.run in
    let out_long : length q.last.out ≡ variable_count q.program = readable-out q.program q.last most_pivots other.end q.run in
    let basic_long : length q.last.basic ≡ row_count q.program = readable-basic q.program q.last most_pivots other.end q.run in
    let variables : variable_count q.program ≡ upper_variables g = upper-variables q.program g belief points candidates bits q.written in
    let rows : row_count q.program ≡ upper_rows g (length candidates) = upper-rows q.program g belief points candidates bits q.written in
    let own : advice.own ≡ other.own =
    own-one g q.last advice.own other.own readable (omega arith) (subst (λ (d : Dictionary). IsOwnRead g d advice.own) last.1 p.own) q.own in
    let wanted : advice.wanted ≡ other.wanted =
    wanted-one g candidates q.last advice.wanted other.wanted readable (omega arith) (subst (λ (d : Dictionary). AreWantedRead g candidates d advice.wanted) last.1 p.wanted) q.wanted in
    let informed : advice.informed ≡ other.informed =
    informed-one g q.last advice.informed other.informed readable (omega arith) (subst (λ (d : Dictionary). AreInformedRead g d advice.informed) last.1 p.informed) q.informed in
    ap (λ (x : MixesData). upper-of x advice.wanted advice.own advice.end) informed
    ∙ ap (λ (x : List Branch). upper-of other.informed x advice.own advice.end) wanted
    ∙ ap (λ (x : List ℤ). upper-of other.informed other.wanted x advice.end) own
    ∙ ap (λ (x : End). upper-of other.informed other.wanted other.own x) last.0
