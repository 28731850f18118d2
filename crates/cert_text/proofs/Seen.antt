-- How far the reader is behind entries, and what each pair of the latest node lacks there.
use Rattle.std.proofs.Common.{◌≡◌, ℕ, zero, suc, ◌+◌, ◌*◌, ◌/◌, ◌%◌, ◌<◌, List, [], ◌∷◌, replicate, take, Ok, ℤ, pos, refl, sym, ap, subst, ◌∙◌, arith, inl, inr, ◌⊎◌}
use Rattle.std.specs.Prelude.{◌+ℤ◌, ◌≤ℤ◌, slice_index_or}
use Rattle.std.specs.List.{AllByRecursion}
use Rattle.std.proofs.lemmas.Int.{ints}
use Rattle.std.proofs.lemmas.Bool.{cases_lt}
use Rattle.std.proofs.lemmas.List.{get_or-take, length-take, length-replicate}
use Rattle.std.proofs.Math.Nat.{mod-lt}
use Rattle.text_words.specs.Lines.{Line}
use Rattle.game_model.specs.Branches.{Branch}
use Rattle.game_model.specs.Game.{GameData, IsGame}
use Rattle.cert_text.specs.declared.progress.Latest.{Latest}
use Rattle.cert_text.specs.declared.progress.Latest.TheVariants as latest
use Rattle.cert_text.specs.declared.progress.Progress.{Progress}
use Rattle.cert_text.specs.Entries.{Entry, Version, Outcome, Gap, Lower, Upper, Tail, Sizes, Start, Multiple, From, Over, Node, Vector, Mix, Next, Point, Belief, Value, Mixes, Split, End, entry_of, entry_after, progress_after, pair_at, behind, start_of, limits_of, lacking_of, lacking_less}
use Rattle.cert_text.specs.Due.{nodes_in, points_in, version_in, from_in, over_in, next_in, total_in, mix_in, steps_in, sum_at, must_reach}
use Rattle.cert_text.specs.Rules.{IsReached, AreReached}
use Rattle.cert_text.specs.Reading.{onto}
use Rattle.cert_text.proofs.LawGuards.{IsNone}
use Rattle.cert_text.proofs.LawLists.{at_none, none_at}
use Rattle.cert_text.proofs.LawParts.{lacks_first, lacks_more, cell_below}
use Rattle.cert_text.proofs.LawSaid.{version-ok, outcome-ok, gap-ok, lower-ok, upper-ok, tail-ok, sizes-ok, node-ok, vector-ok, mix-ok, belief-ok, value-ok, mixes-ok, InNode, in_node-ok, InPoint, in_point-ok, InMixes, in_mixes-ok}
use Rattle.cert_text.proofs.LawStarts.{from-ok, InSizes, in_sizes-ok, InFrom, in_from-ok, InOver, in_over-ok}
use Rattle.cert_text.proofs.StartWeights.{starts_of}
use Rattle.cert_text.proofs.LawStages.{Lacks, zeros}
use Rattle.cert_text.proofs.LawNodes.{IsWhole, cell_is, lack_zero, nothing_lacks}

-- ---- how far the reader is behind entries

abbrev pub latest_in : List Entry → Latest
latest_in [] = latest.Nothing
latest_in (Version number ∷ before) = latest.Version
latest_in (Outcome ending ∷ before) = latest.Outcome
latest_in (Gap f ∷ before) = latest.Gap
latest_in (Lower f ∷ before) = latest.Lower
latest_in (Upper f ∷ before) = latest.Upper
latest_in (Tail f ∷ before) = latest.Tail
latest_in (Sizes nodes points ∷ before) = latest.Sizes
latest_in (Start node point ∷ before) = latest.Start
latest_in (Multiple multiple ∷ before) = latest.Multiple
latest_in (From node weight ∷ before) = latest.From node
latest_in (Over point weight ∷ before) = latest.Over point
latest_in (Node number ∷ before) = latest.Node
latest_in (Vector entries ∷ before) = latest.Vector
latest_in (Mix weights ∷ before) = latest.Mix
latest_in (Next b ∷ before) = latest.Next b.own b.seen b.member
latest_in (Point number ∷ before) = latest.Point
latest_in (Belief parts ∷ before) = latest.Belief
latest_in (Value value ∷ before) = latest.Value
latest_in (Mixes state weights ∷ before) = latest.Mixes
latest_in (Split b ∷ before) = latest.Split b.own b.seen b.member
latest_in (End ∷ before) = latest.End

-- how many states of the latest point have their mix
abbrev pub states_in : List Entry → ℕ
states_in [] = 0
states_in (Point number ∷ before) = 0
states_in (Mixes state weights ∷ before) = state + 1
states_in (entry ∷ before) = states_in before

abbrev pub lacking_in : GameData → List Entry → List ℤ
lacking_in g [] = zeros
lacking_in g (Mix weights ∷ before) = lacking_of g.shape.observations weights
lacking_in g (Next b ∷ before) = lacking_less (lacking_in g before) (pair_at (limits_of g) b) b.weight
lacking_in g (entry ∷ before) = lacking_in g before

abbrev pub progress_in : GameData → List Entry → Progress
progress_in g before = record {
  limits = limits_of g;
  latest = latest_in before;
  nodes = nodes_in before;
  points = points_in before;
  starts = starts_of (version_in before) (from_in before) (over_in before);
  begun = next_in before;
  state = states_in before;
  lacking = lacking_in g before;
  total = total_in before;
}

pub progress_first : (g : GameData) → start_of g ≡ progress_in g []
progress_first g = refl

pub progress_next : (g : GameData) (before : List Entry) (e : Entry) → progress_after (progress_in g before) e ≡ progress_in g (e ∷ before)
progress_next g before (Version number) = refl
progress_next g before (Outcome ending) = refl
progress_next g before (Gap f) = refl
progress_next g before (Lower f) = refl
progress_next g before (Upper f) = refl
progress_next g before (Tail f) = refl
progress_next g before (Sizes nodes points) = refl
progress_next g before (Start node point) = refl
progress_next g before (Multiple multiple) = refl
progress_next g before (From node weight) = refl
progress_next g before (Over point weight) = refl
progress_next g before (Node number) = refl
progress_next g before (Vector entries) = refl
progress_next g before (Mix weights) = refl
progress_next g before (Next b) = refl
progress_next g before (Point number) = refl
progress_next g before (Belief parts) = refl
progress_next g before (Value value) = refl
progress_next g before (Mixes state weights) = refl
progress_next g before (Split b) = refl
progress_next g before End = refl

pub progress_behind : (g : GameData) (before es : List Entry) → behind (progress_in g before) es ≡ progress_in g (onto before es)
progress_behind g before [] = refl
progress_behind g before (e ∷ es) = ap (λ (p : Progress). behind p es) (progress_next g before e) ∙ progress_behind g (e ∷ before) es

-- ---- what is lacking there

abbrev pub Kept : GameData → List Entry → Type 0
Kept g before = Lacks g (mix_in before) (steps_in before) (lacking_in g before)

zeros_at : (n i : ℕ) → slice_index_or (replicate n (pos 0)) i (pos 0) ≡ pos 0
zeros_at zero i = refl
zeros_at (suc n) zero = refl
zeros_at (suc n) (suc i) = zeros_at n i

pub kept_first : (g : GameData) → Kept g []
kept_first g = record {
  long = length-replicate 48 (pos 0);
  each = λ a o la lo. let z = zeros_at 48 (a * g.shape.observations + o) in omega (arith, ints, z);
  past = λ i le. zeros_at 48 i;
}

kept_node : (g : GameData) (before : List Entry) (line : Line) (e : Entry) → IsGame g → Kept g before → InNode (progress_in g before) line e → Kept g (e ∷ before)
kept_node g before line e game k (inl m) =
    subst (λ (x : Entry). Kept g (x ∷ before)) (sym m.1.0) (lacks_more g (mix_in before) (steps_in before) (lacking_in g before) m.0 game.shape k m.2.branch.own m.2.branch.seen)
kept_node g before line e game k (inr (inl m)) = subst (λ (x : Entry). Kept g (x ∷ before)) (sym m.0.0) k
kept_node g before line e game k (inr (inr m)) = subst (λ (x : Entry). Kept g (x ∷ before)) (sym m.0.0) k

kept_point : (g : GameData) (before : List Entry) (line : Line) (e : Entry) → Kept g before → InPoint (progress_in g before) line e → Kept g (e ∷ before)
kept_point g before line e k (inl m) = subst (λ (x : Entry). Kept g (x ∷ before)) (sym m.1.0) k
kept_point g before line e k (inr (inl m)) = subst (λ (x : Entry). Kept g (x ∷ before)) (sym m.0.0) k
kept_point g before line e k (inr (inr m)) = subst (λ (x : Entry). Kept g (x ∷ before)) (sym m.0.0) k

kept_mixes : (g : GameData) (before : List Entry) (line : Line) (e : Entry) → Kept g before → InMixes (progress_in g before) line e → Kept g (e ∷ before)
kept_mixes g before line e k (inl m) = subst (λ (x : Entry). Kept g (x ∷ before)) (sym m.1.0) k
kept_mixes g before line e k (inr m) = kept_point g before line e k m.0

kept_sizes : (g : GameData) (before : List Entry) (line : Line) (e : Entry) → Kept g before → InSizes (progress_in g before) line e → Kept g (e ∷ before)
kept_sizes g before line e k (inl m) = subst (λ (x : Entry). Kept g (x ∷ before)) (sym m.2.0) k
kept_sizes g before line e k (inr m) = subst (λ (x : Entry). Kept g (x ∷ before)) (sym m.1.0) k

kept_from : (g : GameData) (before : List Entry) (line : Line) (e : Entry) → Kept g before → InFrom (progress_in g before) line e → Kept g (e ∷ before)
kept_from g before line e k (inl m) = subst (λ (x : Entry). Kept g (x ∷ before)) (sym m.2.0) k
kept_from g before line e k (inr m) = subst (λ (x : Entry). Kept g (x ∷ before)) (sym m.2.0) k

kept_over : (g : GameData) (before : List Entry) (line : Line) (e : Entry) → Kept g before → InOver (progress_in g before) line e → Kept g (e ∷ before)
kept_over g before line e k (inl m) = subst (λ (x : Entry). Kept g (x ∷ before)) (sym m.2.0) k
kept_over g before line e k (inr m) = subst (λ (x : Entry). Kept g (x ∷ before)) (sym m.0.0) k

kept_by : (g : GameData) (before : List Entry) (line : Line) (e : Entry) (l : Latest) → IsGame g → Kept g before → entry_after (progress_in g before) l line ≡ Ok e → Kept g (e ∷ before)
unfolding entry_after
kept_by g before line e latest.Nothing game k h = let p = version-ok line e h in subst (λ (x : Entry). Kept g (x ∷ before)) (sym p.1.0) k
kept_by g before line e latest.Version game k h = let p = outcome-ok line e h in subst (λ (x : Entry). Kept g (x ∷ before)) (sym p.1.0) k
kept_by g before line e latest.Outcome game k h = let p = gap-ok line e h in subst (λ (x : Entry). Kept g (x ∷ before)) (sym p.1.0) k
kept_by g before line e latest.Gap game k h = let p = lower-ok line e h in subst (λ (x : Entry). Kept g (x ∷ before)) (sym p.1.0) k
kept_by g before line e latest.Lower game k h = let p = upper-ok line e h in subst (λ (x : Entry). Kept g (x ∷ before)) (sym p.1.0) k
kept_by g before line e latest.Upper game k h = let p = tail-ok line e h in subst (λ (x : Entry). Kept g (x ∷ before)) (sym p.1.0) k
kept_by g before line e latest.Tail game k h = let p = sizes-ok g.shape.states line e h in subst (λ (x : Entry). Kept g (x ∷ before)) (sym p.2.0) k
kept_by g before line e latest.Sizes game k h = kept_sizes g before line e k (in_sizes-ok (progress_in g before) line e h)
kept_by g before line e latest.Multiple game k h = let p = from-ok (progress_in g before) line e h in subst (λ (x : Entry). Kept g (x ∷ before)) (sym p.2.0) k
kept_by g before line e (latest.From i) game k h = kept_from g before line e k (in_from-ok (progress_in g before) line e h)
kept_by g before line e (latest.Over j) game k h = kept_over g before line e k (in_over-ok (progress_in g before) line e h)
kept_by g before line e latest.Start game k h = subst (λ (x : Entry). Kept g (x ∷ before)) (sym (node-ok 0 [] line e h).0.0) k
kept_by g before line e latest.Node game k h = let p = vector-ok (limits_of g) line e h in subst (λ (x : Entry). Kept g (x ∷ before)) (sym p.1.0) k
kept_by g before line e latest.Vector game k h = let p = mix-ok (limits_of g) line e h in subst (λ (x : Entry). Kept g (x ∷ before)) (sym p.1.0) (lacks_first g p.0 game.shape p.2)
kept_by g before line e latest.Mix game k h = kept_node g before line e game k (in_node-ok (progress_in g before) line e h)
kept_by g before line e (latest.Next a o m) game k h = kept_node g before line e game k (in_node-ok (progress_in g before) line e h)
kept_by g before line e latest.Point game k h = let p = belief-ok (limits_of g) line e h in subst (λ (x : Entry). Kept g (x ∷ before)) (sym p.1.0) k
kept_by g before line e latest.Belief game k h = let p = value-ok (limits_of g) (total_in before) line e h in subst (λ (x : Entry). Kept g (x ∷ before)) (sym p.1.0) k
kept_by g before line e latest.Value game k h = let p = mixes-ok (limits_of g) 0 line e h in subst (λ (x : Entry). Kept g (x ∷ before)) (sym p.1.0) k
kept_by g before line e latest.Mixes game k h = kept_mixes g before line e k (in_mixes-ok (progress_in g before) line e h)
kept_by g before line e (latest.Split a o m) game k h = kept_point g before line e k (in_point-ok (progress_in g before) line e h)
kept_by g before line e latest.End game k h = absurd cc

pub kept_next : (g : GameData) (before : List Entry) (line : Line) (e : Entry) → IsGame g → Kept g before → entry_of (progress_in g before) line ≡ Ok e → Kept g (e ∷ before)
kept_next g before line e game k h = kept_by g before line e (latest_in before) game k h

-- ---- nothing lacks where the sums are reached

pub reached_from : (g : GameData) (before : List Entry) → Kept g before → AllByRecursion IsNone (lacking_in g before) → AreReached g before
reached_from g before k none a o la lo =
    let e = at_none (lacking_in g before) none (a * g.shape.observations + o) in
    let l = k.each a o la lo in
    omega (arith, ints, e, l)

pub reached_to : (g : GameData) (before : List Entry) → IsGame g → Kept g before → AreReached g before → AllByRecursion IsNone (lacking_in g before)
reached_to g before game k r =
    let whole : IsWhole g (mix_in before) (steps_in before) [] = λ a o la lo. let e = r a o la lo in omega (arith, ints, e) in
    nothing_lacks g (mix_in before) (steps_in before) (lacking_in g before) game k whole

abbrev Earlier : ℕ → ℕ → Branch → Type 0
Earlier a o b = (a < b.own) ⊎ ((a ≡ b.own) × (o < b.seen))

abbrev cell : ℕ → Branch → ℕ
cell n b = b.own * n + b.seen

earlier_cell : (n a o : ℕ) (b : Branch) → o < n → Earlier a o b → a * n + o < cell n b
earlier_cell n a o b lo (inl l) = let c = cell_below a b.own o n l lo in omega (arith, c)
earlier_cell n a o b lo (inr (e, l)) = let p : a * n ≡ b.own * n = ap (λ (x : ℕ). x * n) e in omega (arith, p, l)

-- a pair of an own action and an observation that comes before that of a branch
cell_earlier : (n a o : ℕ) (b : Branch) → o < n → b.seen < n → a * n + o < cell n b → Earlier a o b
cell_earlier n a o b lo lb lt = elim (cases_lt a b.own) [
  | inl l ↦ inl l
  | inr ge ↦ elim (cases_lt b.own a) [
    | inl more ↦ absurd (let c = cell_below b.own a b.seen n more lb in omega (arith, c, lt))
    | inr le ↦
        let e : a ≡ b.own = omega (arith, ge, le) in
        let p : a * n ≡ b.own * n = ap (λ (x : ℕ). x * n) e in
        inr (e, omega (arith, p, lt))
  ]
]

pub earlier_from : (g : GameData) (before : List Entry) (b : Branch) → Kept g before → b.own < g.shape.own_actions
    → AllByRecursion IsNone (take (pair_at (limits_of g) b) (lacking_in g before)) → (a o : ℕ) → o < g.shape.observations → Earlier a o b → IsReached before a o
earlier_from g before b k own none a o lo e =
    let n = g.shape.observations in
    let lt = earlier_cell n a o b lo e in
    let zero_at = at_none (take (pair_at (limits_of g) b) (lacking_in g before)) none (a * n + o) in
    let same = get_or-take (pair_at (limits_of g) b) (lacking_in g before) (a * n + o) (pos 0) lt in
    let l = k.each a o (own_before e) lo in
    omega (arith, ints, zero_at, same, l)
  where
    own_before : Earlier a o b → a < g.shape.own_actions
    own_before (inl l) = omega (arith, l, own)
    own_before (inr (q, l)) = omega (arith, q, own)

pub earlier_to : (g : GameData) (before : List Entry) (b : Branch) → IsGame g → Kept g before → b.own < g.shape.own_actions → b.seen < g.shape.observations
    → ((a o : ℕ) → o < g.shape.observations → Earlier a o b → IsReached before a o) → AllByRecursion IsNone (take (pair_at (limits_of g) b) (lacking_in g before))
earlier_to g before b game k own seen h =
    let n = g.shape.observations in
    let p = cell n b in
    let inside = cell_below b.own g.shape.own_actions b.seen n own seen in
    none_at (take p (lacking_in g before)) (λ i l.
    (let lt : i < p = omega (arith, l, length-take p (lacking_in g before)) in
    let lo : i % n < n = mod-lt i (omega (arith, game.shape.observations)) in
    let e = h (i / n) (i % n) lo (cell_earlier n (i / n) (i % n) b lo seen (omega (arith, lt, cell_is n i))) in
    get_or-take p (lacking_in g before) i (pos 0) lt ∙ lack_zero g (mix_in before) (steps_in before) (lacking_in g before) i game k (omega (arith, lt, inside)) e))

pub room_from : (g : GameData) (before : List Entry) (b : Branch) → Kept g before → b.own < g.shape.own_actions → b.seen < g.shape.observations
    → b.weight ≤ℤ slice_index_or (lacking_in g before) (pair_at (limits_of g) b) (pos 0) → (sum_at before b.own b.seen +ℤ b.weight) ≤ℤ must_reach before b.own
room_from g before b k own seen h = let l = k.each b.own b.seen own seen in omega (arith, ints, l, h)

pub room_to : (g : GameData) (before : List Entry) (b : Branch) → Kept g before → b.own < g.shape.own_actions → b.seen < g.shape.observations
    → (sum_at before b.own b.seen +ℤ b.weight) ≤ℤ must_reach before b.own → b.weight ≤ℤ slice_index_or (lacking_in g before) (pair_at (limits_of g) b) (pos 0)
room_to g before b k own seen h = let l = k.each b.own b.seen own seen in omega (arith, ints, l, h)
