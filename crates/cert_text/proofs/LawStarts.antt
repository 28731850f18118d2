-- What a line of starts says, and the words of a line that says it.
use Rattle.std.proofs.Common.{◌≡◌, ℕ, ◌+◌, ◌^◌, ◌<◌, ◌≤◌, Bool, true, false, cond, eqb, List, [], ◌∷◌, Result, Ok, ℤ, pos, refl, sym, ap, subst, ◌∙◌, arith, inl, inr, ◌⊎◌}
use Rattle.std.specs.Prelude.{◌+ℤ◌, ◌≤ℤ◌, ◌==◌, codes}
use Rattle.std.specs.List.{AllByRecursion}
use Rattle.std.proofs.lemmas.Int.{ints}
use Rattle.std.proofs.lemmas.Bool.{eqb-true}
use Rattle.std.proofs.lemmas.Bool.Decides.{nat_tests}
use Rattle.text_words.specs.Lines.{Line}
use Rattle.text_words.specs.Forms.{number_at, begins, limited}
use Rattle.text_words.proofs.Limits.{bind_ok, limited-ok, limited-to}
use Rattle.text_words.proofs.Chains.{true_false}
use Rattle.text_words.proofs.Numerals.{Small, small_within, numbered, numbers_after-ok, numbers_after-to, one_is, two_are}
use Rattle.game_model.specs.Game.{IsWithin}
use Rattle.controller.specs.Starts.{IsStart, most_from, most_over}
use Rattle.cert_text.specs.declared.fault.CertKind.TheVariants as kinds
use Rattle.cert_text.specs.declared.progress.Progress.{Progress}
use Rattle.cert_text.specs.declared.progress.Starts.{Starts}
use Rattle.cert_text.specs.Forms.{numbers_after, at_least, is_due, member_below, above_from, above_over, within_sum, coprime, whole_starts}
use Rattle.cert_text.specs.Entries.{Entry, Start, Multiple, From, Over, Node, start_said, multiple_said, from_said, over_said, first_said, in_sizes, in_from, in_over}
use Rattle.cert_text.proofs.LawGuards.{IsAboveFrom, IsAboveOver, at_least-ok, at_least-to, is_due-ok, is_due-to, member_below-ok, member_below-to, above_from-ok, above_from-to, above_over-ok, above_over-to}
use Rattle.cert_text.proofs.LawSaid.{words_in, said_is, Is}
use Rattle.cert_text.proofs.StartWeights.{within_sum-ok, within_sum-to}

pub start-ok : (nodes points : ℕ) (line : Line) (e : Entry) → start_said nodes points line ≡ Ok e → (node : ℕ) × (point : ℕ) × Is line e (Start node point) × ((node < nodes) × (point < points))
unfolding start_said
start-ok nodes points line e h =
    let ns = bind_ok (numbers_after (codes "start") 2 line) _ e h in
    let i = bind_ok (at_least (pos 0) (number_at ns.0 0)) _ e ns.2 in
    let j = bind_ok (at_least (pos 0) (number_at ns.0 1)) _ e i.2 in
    let n = bind_ok (member_below nodes i.0) _ e j.2 in
    let p = bind_ok (member_below points j.0) _ e n.2 in
    let w = numbers_after-ok kinds.Shape kinds.Number (codes "start") 2 line ns.0 ns.1 in
    let i' = at_least-ok (pos 0) (number_at ns.0 0) i.0 i.1 in
    let j' = at_least-ok (pos 0) (number_at ns.0 1) j.0 j.1 in
    let a = member_below-ok nodes i.0 n.0 i'.0 n.1 in
    let b = member_below-ok points j.0 p.0 j'.0 p.1 in
    let all = two_are ns.0 (pos n.0) (pos p.0) w.1 (i'.1 ∙ a.1) (j'.1 ∙ b.1) in
    (n.0, p.0, (said_is (Start n.0 p.0) e p.2, w.0 ∙ ap (λ (xs : List ℤ). numbered (codes "start") xs) all), (a.0, b.0))

pub start-to : (nodes points node point : ℕ) → AllByRecursion Small (pos node ∷ pos point ∷ []) → node < nodes → point < points → start_said nodes points (words_in (Start node point)) ≡ Ok (Start node point)
unfolding start_said
start-to nodes points node point small a b =
    rw (numbers_after-to kinds.Shape kinds.Number (codes "start") 2 (pos node ∷ pos point ∷ []) refl small)
    (rw (at_least-to (pos 0) (pos node) (omega (arith, ints)), at_least-to (pos 0) (pos point) (omega (arith, ints)))
    (rw (member_below-to nodes node a, member_below-to points point b) refl))

pub multiple-ok : (line : Line) (e : Entry) → multiple_said line ≡ Ok e → (multiple : ℤ) × Is line e (Multiple multiple) × IsWithin (pos 1) (pos most_from) multiple
unfolding multiple_said
multiple-ok line e h =
    let ns = bind_ok (numbers_after (codes "multiple") 1 line) _ e h in
    let m = bind_ok (limited kinds.Range (pos 1) (pos most_from) (number_at ns.0 0)) _ e ns.2 in
    let w = numbers_after-ok kinds.Shape kinds.Number (codes "multiple") 1 line ns.0 ns.1 in
    let m' = limited-ok kinds.Range (pos 1) (pos most_from) (number_at ns.0 0) m.0 m.1 in
    (m.0, (said_is (Multiple m.0) e m.2, w.0 ∙ ap (λ (xs : List ℤ). numbered (codes "multiple") xs) (one_is ns.0 m.0 w.1 m'.1)), m'.0)

pub multiple-to : (multiple : ℤ) → IsWithin (pos 1) (pos most_from) multiple → multiple_said (words_in (Multiple multiple)) ≡ Ok (Multiple multiple)
unfolding multiple_said
multiple-to multiple f =
    let small : AllByRecursion Small (multiple ∷ []) = (small_within (pos 1) (pos most_from) multiple (omega arith) (omega arith) f, tt) in
    rw (numbers_after-to kinds.Shape kinds.Number (codes "multiple") 1 (multiple ∷ []) refl small) (rw (limited-to kinds.Range (pos 1) (pos most_from) multiple f) refl)

pub record FromFits (progress : Progress) (node : ℕ) (weight : ℤ) : Type 0 where
  pub start : IsStart progress.nodes (pos most_from) (node, weight)
  pub above : IsAboveFrom progress.latest node
  pub sum : (weight +ℤ progress.starts.sum) ≤ℤ pos most_from

pub from-ok : (progress : Progress) (line : Line) (e : Entry) → from_said progress line ≡ Ok e → (node : ℕ) × (weight : ℤ) × Is line e (From node weight) × FromFits progress node weight
unfolding from_said
from-ok progress line e h =
    let ns = bind_ok (numbers_after (codes "from") 2 line) _ e h in
    let n = bind_ok (at_least (pos 0) (number_at ns.0 0)) _ e ns.2 in
    let x = bind_ok (limited kinds.Range (pos 1) (pos most_from) (number_at ns.0 1)) _ e n.2 in
    let u = bind_ok (above_from progress.latest n.0) _ e x.2 in
    let i = bind_ok (member_below progress.nodes n.0) _ e u.2 in
    let s = bind_ok (within_sum progress.starts.sum x.0) _ e i.2 in
    let w = numbers_after-ok kinds.Shape kinds.Number (codes "from") 2 line ns.0 ns.1 in
    let n' = at_least-ok (pos 0) (number_at ns.0 0) n.0 n.1 in
    let x' = limited-ok kinds.Range (pos 1) (pos most_from) (number_at ns.0 1) x.0 x.1 in
    let i' = member_below-ok progress.nodes n.0 i.0 n'.0 i.1 in
    let above = above_from-ok progress.latest i.0 u.0 (subst (λ (z : ℤ). above_from progress.latest z ≡ Ok u.0) i'.1 u.1) in
    let all = two_are ns.0 (pos i.0) x.0 w.1 (n'.1 ∙ i'.1) x'.1 in (
      i.0,
      x.0,
      (said_is (From i.0 x.0) e s.2, w.0 ∙ ap (λ (xs : List ℤ). numbered (codes "from") xs) all),
      record { start = (i'.0, x'.0); above = above; sum = within_sum-ok progress.starts.sum x.0 s.0 s.1 },
    )

pub from-to : (progress : Progress) (node : ℕ) (weight : ℤ) → node < 10 ^ 36 → FromFits progress node weight → from_said progress (words_in (From node weight)) ≡ Ok (From node weight)
unfolding from_said
from-to progress node weight few f =
    let small : AllByRecursion Small (pos node ∷ weight ∷ []) = (few, (small_within (pos 1) (pos most_from) weight (omega arith) (omega arith) f.start.1, tt)) in
    rw (numbers_after-to kinds.Shape kinds.Number (codes "from") 2 (pos node ∷ weight ∷ []) refl small)
    (rw (at_least-to (pos 0) (pos node) (omega (arith, ints)), limited-to kinds.Range (pos 1) (pos most_from) weight f.start.1)
    (rw (above_from-to progress.latest node f.above, member_below-to progress.nodes node f.start.0, within_sum-to progress.starts.sum weight f.sum) refl))

pub record OverFits (progress : Progress) (point : ℕ) (weight : ℤ) : Type 0 where
  pub start : IsStart progress.points (pos most_over) (point, weight)
  pub above : IsAboveOver progress.latest point
  pub from : coprime progress.starts.nodes ≡ Ok tt

unit_ok : (progress : Progress) (u : Unit {0}) → coprime progress.starts.nodes ≡ Ok u → coprime progress.starts.nodes ≡ Ok tt
unit_ok progress u h = h

pub over-ok : (progress : Progress) (line : Line) (e : Entry) → over_said progress line ≡ Ok e → (point : ℕ) × (weight : ℤ) × Is line e (Over point weight) × OverFits progress point weight
unfolding over_said
over-ok progress line e h =
    let ns = bind_ok (numbers_after (codes "over") 2 line) _ e h in
    let n = bind_ok (at_least (pos 0) (number_at ns.0 0)) _ e ns.2 in
    let x = bind_ok (limited kinds.Range (pos 1) (pos most_over) (number_at ns.0 1)) _ e n.2 in
    let u = bind_ok (above_over progress.latest n.0) _ e x.2 in
    let i = bind_ok (member_below progress.points n.0) _ e u.2 in
    let s = bind_ok (coprime progress.starts.nodes) _ e i.2 in
    let w = numbers_after-ok kinds.Shape kinds.Number (codes "over") 2 line ns.0 ns.1 in
    let n' = at_least-ok (pos 0) (number_at ns.0 0) n.0 n.1 in
    let x' = limited-ok kinds.Range (pos 1) (pos most_over) (number_at ns.0 1) x.0 x.1 in
    let i' = member_below-ok progress.points n.0 i.0 n'.0 i.1 in
    let above = above_over-ok progress.latest i.0 u.0 (subst (λ (z : ℤ). above_over progress.latest z ≡ Ok u.0) i'.1 u.1) in
    let all = two_are ns.0 (pos i.0) x.0 w.1 (n'.1 ∙ i'.1) x'.1 in (
      i.0,
      x.0,
      (said_is (Over i.0 x.0) e s.2, w.0 ∙ ap (λ (xs : List ℤ). numbered (codes "over") xs) all),
      record { start = (i'.0, x'.0); above = above; from = unit_ok progress s.0 s.1 },
    )

pub over-to : (progress : Progress) (point : ℕ) (weight : ℤ) → point < 10 ^ 36 → OverFits progress point weight → over_said progress (words_in (Over point weight)) ≡ Ok (Over point weight)
unfolding over_said
over-to progress point weight few f =
    let small : AllByRecursion Small (pos point ∷ weight ∷ []) = (few, (small_within (pos 1) (pos most_over) weight (omega arith) (omega arith) f.start.1, tt)) in
    rw (numbers_after-to kinds.Shape kinds.Number (codes "over") 2 (pos point ∷ weight ∷ []) refl small)
    (rw (at_least-to (pos 0) (pos point) (omega (arith, ints)), limited-to kinds.Range (pos 1) (pos most_over) weight f.start.1)
    (rw (above_over-to progress.latest point f.above, member_below-to progress.points point f.start.0, f.from) refl))

pub first-ok : (starts : Starts) (line : Line) (e : Entry) → first_said starts line ≡ Ok e → Is line e (Node 0) × (whole_starts starts ≡ Ok tt)
unfolding first_said
first-ok starts line e h =
    let ns = bind_ok (numbers_after (codes "node") 1 line) _ e h in
    let d = bind_ok (is_due 0 (number_at ns.0 0)) _ e ns.2 in
    let s = bind_ok (whole_starts starts) _ e d.2 in
    let w = numbers_after-ok kinds.Shape kinds.Number (codes "node") 1 line ns.0 ns.1 in
    let d' = is_due-ok 0 (number_at ns.0 0) d.0 d.1 in
    ((said_is (Node 0) e s.2, w.0 ∙ ap (λ (xs : List ℤ). numbered (codes "node") xs) (one_is ns.0 (pos 0) w.1 d')), s.1)

pub first-to : (starts : Starts) → whole_starts starts ≡ Ok tt → first_said starts (words_in (Node 0)) ≡ Ok (Node 0)
unfolding first_said
first-to starts whole =
    rw (numbers_after-to kinds.Shape kinds.Number (codes "node") 1 (pos 0 ∷ []) refl (omega arith, tt)) (rw (is_due-to 0, whole) refl)

-- ---- which of two lines

-- what the line behind the `sizes` line says
abbrev pub InSizes : Progress → Line → Entry → Type 0
InSizes progress line e =
    ((node : ℕ) × (point : ℕ) × Is line e (Start node point) × ((node < progress.nodes) × (point < progress.points)) × (eqb progress.starts.version 1 ≡ true))
    ⊎ ((multiple : ℤ) × Is line e (Multiple multiple) × IsWithin (pos 1) (pos most_from) multiple × (eqb progress.starts.version 1 ≡ false))

sizes_by : (progress : Progress) (line : Line) (e : Entry) (b : Bool) → eqb progress.starts.version 1 ≡ b → cond b (start_said progress.nodes progress.points line) (multiple_said line) ≡ Ok e → InSizes progress line e
sizes_by progress line e true p h =
    let s = start-ok progress.nodes progress.points line e h in inl (s.0, s.1, s.2, s.3, p)
sizes_by progress line e false p h = let m = multiple-ok line e h in inr (m.0, m.1, m.2, p)

pub in_sizes-ok : (progress : Progress) (line : Line) (e : Entry) → in_sizes progress line ≡ Ok e → InSizes progress line e
unfolding in_sizes
in_sizes-ok progress line e h = sizes_by progress line e (eqb progress.starts.version 1) refl h

-- what the line behind a `from` line says
abbrev pub InFrom : Progress → Line → Entry → Type 0
InFrom progress line e =
    ((node : ℕ) × (weight : ℤ) × Is line e (From node weight) × FromFits progress node weight)
    ⊎ ((point : ℕ) × (weight : ℤ) × Is line e (Over point weight) × OverFits progress point weight)

from_by : (progress : Progress) (line : Line) (e : Entry) (b : Bool) → cond b (from_said progress line) (over_said progress line) ≡ Ok e → InFrom progress line e
from_by progress line e true h = inl (from-ok progress line e h)
from_by progress line e false h = inr (over-ok progress line e h)

pub in_from-ok : (progress : Progress) (line : Line) (e : Entry) → in_from progress line ≡ Ok e → InFrom progress line e
unfolding in_from
in_from-ok progress line e h = from_by progress line e (begins (codes "from") line) h

-- what the line behind an `over` line says
abbrev pub InOver : Progress → Line → Entry → Type 0
InOver progress line e =
    ((point : ℕ) × (weight : ℤ) × Is line e (Over point weight) × OverFits progress point weight)
    ⊎ (Is line e (Node 0) × (whole_starts progress.starts ≡ Ok tt))

over_by : (progress : Progress) (line : Line) (e : Entry) (b : Bool) → cond b (over_said progress line) (first_said progress.starts line) ≡ Ok e → InOver progress line e
over_by progress line e true h = inl (over-ok progress line e h)
over_by progress line e false h = inr (first-ok progress.starts line e h)

pub in_over-ok : (progress : Progress) (line : Line) (e : Entry) → in_over progress line ≡ Ok e → InOver progress line e
unfolding in_over
in_over-ok progress line e h = over_by progress line e (begins (codes "over") line) h

-- ---- the other way round

pub in_sizes-start : (progress : Progress) (line : Line) (e : Entry) → progress.starts.version ≡ 1 → start_said progress.nodes progress.points line ≡ Ok e → in_sizes progress line ≡ Ok e
unfolding in_sizes
in_sizes-start progress line e v h = rw v h

pub in_sizes-multiple : (progress : Progress) (line : Line) (e : Entry) → progress.starts.version ≡ 2 → multiple_said line ≡ Ok e → in_sizes progress line ≡ Ok e
unfolding in_sizes
in_sizes-multiple progress line e v h = rw v h

pub in_from-from : (progress : Progress) (node : ℕ) (weight : ℤ) (e : Entry) → from_said progress (words_in (From node weight)) ≡ Ok e → in_from progress (words_in (From node weight)) ≡ Ok e
unfolding in_from
in_from-from progress node weight e h = h

pub in_from-over : (progress : Progress) (point : ℕ) (weight : ℤ) (e : Entry) → over_said progress (words_in (Over point weight)) ≡ Ok e → in_from progress (words_in (Over point weight)) ≡ Ok e
unfolding in_from
in_from-over progress point weight e h = h

pub in_over-over : (progress : Progress) (point : ℕ) (weight : ℤ) (e : Entry) → over_said progress (words_in (Over point weight)) ≡ Ok e → in_over progress (words_in (Over point weight)) ≡ Ok e
unfolding in_over
in_over-over progress point weight e h = h

pub in_over-node : (progress : Progress) (e : Entry) → first_said progress.starts (words_in (Node 0)) ≡ Ok e → in_over progress (words_in (Node 0)) ≡ Ok e
unfolding in_over
in_over-node progress e h = h
