-- What a line says, and the words of a line that says it.
use Rattle.std.proofs.Common.{◌≡◌, ℕ, ◌<◌, ◌≤◌, ◌&&◌, List, [], ◌∷◌, Option, Result, Ok, ℤ, pos, refl, sym, ap, ◌∙◌, arith, inl, inr, ◌⊎◌}
use Rattle.game_model.specs.Limits.{most_belief, most_discount, most_reward, most_row_total}
use Rattle.std.proofs.lemmas.Fmt.{decimal_digit}
use Rattle.std.specs.Prelude.{◌≤ℤ◌, ◌<ℤ◌, ◌+ℤ◌, neg_ℤ, codes}
use Rattle.std.specs.List.{AllByRecursion}
use Rattle.std.specs.Str.{bytes_eq}
use Rattle.std.specs.Fmt.{signed_decimal}
use Rattle.std.proofs.lemmas.Int.{ints}
use Rattle.text_words.specs.Lines.{Line}
use Rattle.text_words.specs.Forms.{number_at, limited, below_limit, each_within}
use Rattle.text_words.proofs.Limits.{bind_ok, cond_then, and_true, limited-ok, limited-to, below_limit-ok, below_limit-to, each_within-ok, each_within-to}
use Rattle.text_words.proofs.Numerals.{Small, numbered, small_within, bytes_is, numbers_after-ok, numbers_after-to, no_number, one_is, two_numbers, three_are, four_are}
use Rattle.game_model.specs.declared.parts.Shape.{Shape}
use Rattle.game_model.specs.declared.parts.Landing.{Landing}
use Rattle.game_model.specs.Game.{IsWithin, IsBelief, IsNarrow, IsShape}
use Rattle.game_text.specs.declared.fault.Kind.{Kind}
use Rattle.game_text.specs.declared.fault.Kind.TheVariants as kinds
use Rattle.game_text.specs.Forms.{within, numbers_after, version_line, discount_within, total_within, state_at, own_at, informed_at, next_triple, full_row, narrow_reward, later_pair, fits_row}
use Rattle.game_text.specs.Entries.{Entry, Version, Size, Total, Discount, First, Step, Out, End, version_said, size_said, total_said, discount_said, first_said, step_said, out_said, end_said}
use Rattle.game_text.proofs.Guards.{IsAfter, within-ok, within-to, discount_within-ok, discount_within-to, total_within-ok, total_within-to, next_triple-ok, next_triple-to, full_row-ok, full_row-none, full_row-to, narrow_reward-ok, narrow_reward-to, later_pair-ok, later_pair-to, fits_row-ok, fits_row-to}

-- the first word and the numbers of the line that says an entry
abbrev pub name_in : Entry → List ℕ
name_in Version = codes "osposg"
name_in (Size s a c o) = codes "size"
name_in (Total total) = codes "total"
name_in (Discount over under) = codes "discount"
name_in (First weights) = codes "first"
name_in (Step s a c reward) = codes "step"
name_in (Out landing) = codes "out"
name_in End = codes "end"

abbrev pub numbers_in : Entry → List ℤ
numbers_in Version = pos 1 ∷ []
numbers_in (Size s a c o) = pos s ∷ pos a ∷ pos c ∷ pos o ∷ []
numbers_in (Total total) = total ∷ []
numbers_in (Discount over under) = over ∷ under ∷ []
numbers_in (First weights) = weights
numbers_in (Step s a c reward) = pos s ∷ pos a ∷ pos c ∷ reward ∷ []
numbers_in (Out landing) = pos landing.seen ∷ pos landing.to ∷ landing.weight ∷ []
numbers_in End = []

abbrev pub words_in : Entry → Line
words_in entry = numbered (name_in entry) (numbers_in entry)

abbrev done : Entry → Result Entry Kind
done e = Ok e

said_is : (x e : Entry) → done x ≡ done e → e ≡ x
said_is x e h = cc

-- the lines of the header

pub record SizeFits (s a c o : ℕ) : Type 0 where
  pub states : (1 ≤ s) × (s ≤ 16)
  pub own_actions : (1 ≤ a) × (a ≤ 6)
  pub informed_actions : (1 ≤ c) × (c ≤ 6)
  pub observations : (1 ≤ o) × (o ≤ 8)

pub record DiscountFits (over under : ℤ) : Type 0 where
  pub low : pos 0 ≤ℤ over
  pub less : over <ℤ under
  pub high : under ≤ℤ pos most_discount

printed_one : signed_decimal (pos 1) ≡ codes "1"
printed_one = decimal_digit 1 (omega arith)

version_words : (line : Line) (u : Unit {0}) → version_line line ≡ Ok u → line ≡ words_in Version
unfolding version_line
version_words [] u h = absurd cc
version_words (name ∷ []) u h = absurd cc
version_words (name ∷ number ∷ []) u h =
    let p = and_true (bytes_eq name (codes "osposg")) (bytes_eq number (codes "1")) (cond_then (bytes_eq name (codes "osposg") && bytes_eq number (codes "1")) (Ok tt) kinds.Version u h).0 in
    ap (λ (w : List ℕ). w ∷ number ∷ []) (bytes_is name (codes "osposg") p.0) ∙ ap (λ (w : List ℕ). codes "osposg" ∷ w ∷ []) (bytes_is number (codes "1") p.1 ∙ sym printed_one)
version_words (name ∷ number ∷ more ∷ words) u h = absurd cc

pub version-ok : (line : Line) (e : Entry) → version_said line ≡ Ok e → (e ≡ Version) × (line ≡ words_in Version)
unfolding version_said
version-ok line e h =
    let p = bind_ok (version_line line) _ e h in
    (said_is Version e p.2, version_words line p.0 p.1)

version_plain : version_said (codes "osposg" ∷ codes "1" ∷ []) ≡ Ok Version
unfolding version_said version_line
version_plain = refl

pub version-to : version_said (words_in Version) ≡ Ok Version
version-to = ap (λ (w : List ℕ). version_said (codes "osposg" ∷ w ∷ [])) printed_one ∙ version_plain

pub size-ok : (line : Line) (e : Entry) → size_said line ≡ Ok e → (s : ℕ) × (a : ℕ) × (c : ℕ) × (o : ℕ) × (e ≡ Size s a c o) × (line ≡ words_in (Size s a c o)) × SizeFits s a c o
unfolding size_said
size-ok line e h =
    let p = bind_ok (numbers_after (codes "size") 4 line) _ e h in
    let ns = p.0 in
    let s = bind_ok (within 1 16 (number_at ns 0)) _ e p.2 in
    let a = bind_ok (within 1 6 (number_at ns 1)) _ e s.2 in
    let c = bind_ok (within 1 6 (number_at ns 2)) _ e a.2 in
    let o = bind_ok (within 1 8 (number_at ns 3)) _ e c.2 in
    let w = numbers_after-ok kinds.Shape kinds.Number (codes "size") 4 line ns p.1 in
    let s' = within-ok 1 16 (number_at ns 0) s.0 s.1 in
    let a' = within-ok 1 6 (number_at ns 1) a.0 a.1 in
    let c' = within-ok 1 6 (number_at ns 2) c.0 c.1 in
    let o' = within-ok 1 8 (number_at ns 3) o.0 o.1 in
    let all = four_are ns (pos s.0) (pos a.0) (pos c.0) (pos o.0) w.1 s'.2 a'.2 c'.2 o'.2 in (
      s.0,
      a.0,
      c.0,
      o.0,
      said_is (Size s.0 a.0 c.0 o.0) e o.2,
      w.0 ∙ ap (numbered (codes "size")) all,
      record { states = (s'.0, s'.1); own_actions = (a'.0, a'.1); informed_actions = (c'.0, c'.1); observations = (o'.0, o'.1) },
    )

pub size-to : (s a c o : ℕ) → SizeFits s a c o → size_said (words_in (Size s a c o)) ≡ Ok (Size s a c o)
unfolding size_said
size-to s a c o f =
    let small : AllByRecursion Small (numbers_in (Size s a c o)) = (omega (arith, f.states), (omega (arith, f.own_actions), (omega (arith, f.informed_actions), (omega (arith, f.observations), tt)))) in
    rw (numbers_after-to kinds.Shape kinds.Number (codes "size") 4 (numbers_in (Size s a c o)) refl small)
    (rw (within-to 1 16 s f.states.0 f.states.1, within-to 1 6 a f.own_actions.0 f.own_actions.1, within-to 1 6 c f.informed_actions.0 f.informed_actions.1, within-to 1 8 o f.observations.0 f.observations.1) refl)

pub total-ok : (line : Line) (e : Entry) → total_said line ≡ Ok e → (total : ℤ) × (e ≡ Total total) × (line ≡ words_in (Total total)) × IsWithin (pos 1) (pos most_row_total) total
unfolding total_said
total-ok line e h =
    let p = bind_ok (numbers_after (codes "total") 1 line) _ e h in
    let ns = p.0 in
    let t = bind_ok (limited kinds.Range (pos 1) (pos most_row_total) (number_at ns 0)) _ e p.2 in
    let w = numbers_after-ok kinds.Shape kinds.Number (codes "total") 1 line ns p.1 in
    let t' = limited-ok kinds.Range (pos 1) (pos most_row_total) (number_at ns 0) t.0 t.1 in
    let all = one_is ns t.0 w.1 t'.1 in
    (t.0, said_is (Total t.0) e t.2, w.0 ∙ ap (numbered (codes "total")) all, t'.0)

pub total-to : (total : ℤ) → IsWithin (pos 1) (pos most_row_total) total → total_said (words_in (Total total)) ≡ Ok (Total total)
unfolding total_said
total-to total f =
    let small : AllByRecursion Small (total ∷ []) = (small_within (pos 1) (pos most_row_total) total (omega arith) (omega arith) f, tt) in
    rw (numbers_after-to kinds.Shape kinds.Number (codes "total") 1 (total ∷ []) refl small) (rw (limited-to kinds.Range (pos 1) (pos most_row_total) total f) refl)

pub discount-ok : (line : Line) (e : Entry) → discount_said line ≡ Ok e → (over : ℤ) × (under : ℤ) × (e ≡ Discount over under) × (line ≡ words_in (Discount over under)) × DiscountFits over under
unfolding discount_said
discount-ok line e h =
    let p = bind_ok (numbers_after (codes "discount") 2 line) _ e h in
    let ns = p.0 in
    let d = bind_ok (discount_within (number_at ns 0) (number_at ns 1)) _ e p.2 in
    let w = numbers_after-ok kinds.Shape kinds.Number (codes "discount") 2 line ns p.1 in
    let d' = discount_within-ok (number_at ns 0) (number_at ns 1) d.0 d.1 in
    let said : e ≡ Discount d.0.0 d.0.1 = said_is (Discount d.0.0 d.0.1) e d.2 in (
      number_at ns 0,
      number_at ns 1,
      said ∙ ap (λ (x : ℤ × ℤ). Discount x.0 x.1) (sym d'.3),
      w.0 ∙ ap (numbered (codes "discount")) (two_numbers ns w.1),
      record { low = d'.0; less = d'.1; high = d'.2 },
    )

pub small_discount : (over under : ℤ) → DiscountFits over under → Small over × Small under
small_discount over under f = (
  small_within (pos 0) (pos most_discount) over (omega arith) (omega arith) (f.low, omega (arith, ints, f.less, f.high)),
  small_within (pos 0) (pos most_discount) under (omega arith) (omega arith) (omega (arith, ints, f.low, f.less), f.high),
)

pub discount-to : (over under : ℤ) → DiscountFits over under → discount_said (words_in (Discount over under)) ≡ Ok (Discount over under)
unfolding discount_said
discount-to over under f =
    let s = small_discount over under f in
    let small : AllByRecursion Small (over ∷ under ∷ []) = (s.0, (s.1, tt)) in
    rw (numbers_after-to kinds.Shape kinds.Number (codes "discount") 2 (over ∷ under ∷ []) refl small) (rw (discount_within-to over under f.low f.less f.high) refl)

pub first-ok : (states : ℕ) (line : Line) (e : Entry) → first_said states line ≡ Ok e → (weights : List ℤ) × (e ≡ First weights) × (line ≡ words_in (First weights)) × IsBelief states weights
unfolding first_said
first-ok states line e h =
    let p = bind_ok (numbers_after (codes "first") states line) _ e h in
    let ns = p.0 in
    let a = bind_ok (each_within kinds.Range (pos 0) (pos most_belief) ns) _ e p.2 in
    let b = bind_ok (total_within ns) _ e a.2 in
    let w = numbers_after-ok kinds.Shape kinds.Number (codes "first") states line ns p.1 in
    (ns, said_is (First ns) e b.2, w.0, record { long = w.1; each = each_within-ok kinds.Range (pos 0) (pos most_belief) ns a.0 a.1; sums = total_within-ok ns b.0 b.1 })

pub small_weights : (weights : List ℤ) → AllByRecursion (IsWithin (pos 0) (pos most_belief)) weights → AllByRecursion Small weights
small_weights [] h = tt
small_weights (x ∷ weights) h = (small_within (pos 0) (pos most_belief) x (omega arith) (omega arith) h.0, small_weights weights h.1)

pub first-to : (states : ℕ) (weights : List ℤ) → IsBelief states weights → first_said states (words_in (First weights)) ≡ Ok (First weights)
unfolding first_said
first-to states weights f =
    rw (numbers_after-to kinds.Shape kinds.Number (codes "first") states weights f.long (small_weights weights f.each))
    (rw (each_within-to kinds.Range (pos 0) (pos most_belief) weights f.each) (rw (total_within-to weights f.sums) refl))

-- the lines of the rows

pub record StepFits (shape : Shape) (begun : ℕ) (sum : ℤ) (s a c : ℕ) (reward : ℤ) : Type 0 where
  pub state : s < shape.states
  pub own : a < shape.own_actions
  pub informed : c < shape.informed_actions
  pub range : IsWithin (neg_ℤ (pos most_reward)) (pos most_reward) reward
  pub next_state : s ≡ state_at shape begun
  pub next_own : a ≡ own_at shape begun
  pub next_informed : c ≡ informed_at shape begun
  pub full : (begun ≡ 0) ⊎ (sum ≡ shape.row_total)
  pub narrow : IsNarrow shape reward

pub record OutFits (shape : Shape) (sum : ℤ) (pair : Option (ℕ × ℕ)) (l : Landing) : Type 0 where
  pub seen : l.seen < shape.observations
  pub to : l.to < shape.states
  pub weight : IsWithin (pos 1) shape.row_total l.weight
  pub after : IsAfter pair l.seen l.to
  pub room : (sum +ℤ l.weight) ≤ℤ shape.row_total

pub step-ok : (shape : Shape) (begun : ℕ) (sum : ℤ) (line : Line) (e : Entry) → step_said shape begun sum line ≡ Ok e
    → (s : ℕ) × (a : ℕ) × (c : ℕ) × (reward : ℤ) × (e ≡ Step s a c reward) × (line ≡ words_in (Step s a c reward)) × StepFits shape begun sum s a c reward
unfolding step_said
step-ok shape begun sum line e h =
    let p = bind_ok (numbers_after (codes "step") 4 line) _ e h in
    let ns = p.0 in
    let s = bind_ok (below_limit kinds.Range shape.states (number_at ns 0)) _ e p.2 in
    let a = bind_ok (below_limit kinds.Range shape.own_actions (number_at ns 1)) _ e s.2 in
    let c = bind_ok (below_limit kinds.Range shape.informed_actions (number_at ns 2)) _ e a.2 in
    let r = bind_ok (limited kinds.Range (neg_ℤ (pos most_reward)) (pos most_reward) (number_at ns 3)) _ e c.2 in
    let n = bind_ok (next_triple shape begun s.0 a.0 c.0) _ e r.2 in
    let f = bind_ok (full_row shape begun sum) _ e n.2 in
    let k = bind_ok (narrow_reward shape r.0) _ e f.2 in
    let w = numbers_after-ok kinds.Shape kinds.Number (codes "step") 4 line ns p.1 in
    let s' = below_limit-ok kinds.Range shape.states (number_at ns 0) s.0 s.1 in
    let a' = below_limit-ok kinds.Range shape.own_actions (number_at ns 1) a.0 a.1 in
    let c' = below_limit-ok kinds.Range shape.informed_actions (number_at ns 2) c.0 c.1 in
    let r' = limited-ok kinds.Range (neg_ℤ (pos most_reward)) (pos most_reward) (number_at ns 3) r.0 r.1 in
    let n' = next_triple-ok shape begun s.0 a.0 c.0 n.0 n.1 in
    let all = four_are ns (pos s.0) (pos a.0) (pos c.0) r.0 w.1 s'.1 a'.1 c'.1 r'.1 in (
      s.0,
      a.0,
      c.0,
      r.0,
      said_is (Step s.0 a.0 c.0 r.0) e k.2,
      w.0 ∙ ap (numbered (codes "step")) all,
      record {
        state = s'.0;
        own = a'.0;
        informed = c'.0;
        range = r'.0;
        next_state = n'.0;
        next_own = n'.1;
        next_informed = n'.2;
        full = full_row-ok shape begun sum f.0 f.1;
        narrow = narrow_reward-ok shape r.0 k.0 k.1;
      },
    )

next_is : (shape : Shape) (k s a c : ℕ) → s ≡ state_at shape k → a ≡ own_at shape k → c ≡ informed_at shape k → next_triple shape k s a c ≡ Ok tt
next_is shape k s a c p q r = rw (p, q, r) (next_triple-to shape k)

full_is : (shape : Shape) (begun : ℕ) (sum : ℤ) → ((begun ≡ 0) ⊎ (sum ≡ shape.row_total)) → full_row shape begun sum ≡ Ok tt
full_is shape begun sum (inl e) = rw e (full_row-none shape sum)
full_is shape begun sum (inr e) = full_row-to shape begun sum e

pub step-to : (shape : Shape) (begun : ℕ) (sum : ℤ) (s a c : ℕ) (reward : ℤ) → IsShape shape → StepFits shape begun sum s a c reward
    → step_said shape begun sum (words_in (Step s a c reward)) ≡ Ok (Step s a c reward)
unfolding step_said
step-to shape begun sum s a c reward limits f =
    let small : AllByRecursion Small (pos s ∷ pos a ∷ pos c ∷ reward ∷ []) =
    (omega (arith, f.state, limits.states), (omega (arith, f.own, limits.own_actions), (omega (arith, f.informed, limits.informed_actions), (small_within (neg_ℤ (pos most_reward)) (pos most_reward) reward (omega arith) (omega arith) f.range, tt)))) in
    rw (numbers_after-to kinds.Shape kinds.Number (codes "step") 4 (pos s ∷ pos a ∷ pos c ∷ reward ∷ []) refl small)
    (rw (
      below_limit-to kinds.Range shape.states s f.state,
      below_limit-to kinds.Range shape.own_actions a f.own,
      below_limit-to kinds.Range shape.informed_actions c f.informed,
      limited-to kinds.Range (neg_ℤ (pos most_reward)) (pos most_reward) reward f.range,
      next_is shape begun s a c f.next_state f.next_own f.next_informed,
      full_is shape begun sum f.full,
      narrow_reward-to shape reward f.narrow,
    ) refl)

pub out-ok : (shape : Shape) (sum : ℤ) (pair : Option (ℕ × ℕ)) (line : Line) (e : Entry) → out_said shape sum pair line ≡ Ok e
    → (l : Landing) × (e ≡ Out l) × (line ≡ words_in (Out l)) × OutFits shape sum pair l
unfolding out_said
out-ok shape sum pair line e h =
    let p = bind_ok (numbers_after (codes "out") 3 line) _ e h in
    let ns = p.0 in
    let o = bind_ok (below_limit kinds.Range shape.observations (number_at ns 0)) _ e p.2 in
    let t = bind_ok (below_limit kinds.Range shape.states (number_at ns 1)) _ e o.2 in
    let m = bind_ok (limited kinds.Range (pos 1) shape.row_total (number_at ns 2)) _ e t.2 in
    let l = bind_ok (later_pair pair o.0 t.0) _ e m.2 in
    let f = bind_ok (fits_row shape sum m.0) _ e l.2 in
    let w = numbers_after-ok kinds.Shape kinds.Number (codes "out") 3 line ns p.1 in
    let o' = below_limit-ok kinds.Range shape.observations (number_at ns 0) o.0 o.1 in
    let t' = below_limit-ok kinds.Range shape.states (number_at ns 1) t.0 t.1 in
    let m' = limited-ok kinds.Range (pos 1) shape.row_total (number_at ns 2) m.0 m.1 in
    let all = three_are ns (pos o.0) (pos t.0) m.0 w.1 o'.1 t'.1 m'.1 in (
      record { seen = o.0; to = t.0; weight = m.0 },
      said_is (Out (record { seen = o.0; to = t.0; weight = m.0 })) e f.2,
      w.0 ∙ ap (numbered (codes "out")) all,
      record {
        seen = o'.0;
        to = t'.0;
        weight = m'.0;
        after = later_pair-ok pair o.0 t.0 l.0 l.1;
        room = fits_row-ok shape sum m.0 f.0 f.1;
      },
    )

pub small_weight : (shape : Shape) (x : ℤ) → IsShape shape → IsWithin (pos 1) shape.row_total x → Small x
small_weight shape x limits h = small_within (pos 1) (pos most_row_total) x (omega arith) (omega arith) (h.0, omega (arith, ints, h.1, limits.row_total.1))

pub out-to : (shape : Shape) (sum : ℤ) (pair : Option (ℕ × ℕ)) (l : Landing) → IsShape shape → OutFits shape sum pair l → out_said shape sum pair (words_in (Out l)) ≡ Ok (Out l)
unfolding out_said
out-to shape sum pair l limits f =
    let small : AllByRecursion Small (pos l.seen ∷ pos l.to ∷ l.weight ∷ []) = (omega (arith, f.seen, limits.observations), (omega (arith, f.to, limits.states), (small_weight shape l.weight limits f.weight, tt))) in
    rw (numbers_after-to kinds.Shape kinds.Number (codes "out") 3 (pos l.seen ∷ pos l.to ∷ l.weight ∷ []) refl small)
    (rw (below_limit-to kinds.Range shape.observations l.seen f.seen, below_limit-to kinds.Range shape.states l.to f.to, limited-to kinds.Range (pos 1) shape.row_total l.weight f.weight, later_pair-to pair l.seen l.to f.after, fits_row-to shape sum l.weight f.room) refl)

pub end-ok : (shape : Shape) (begun : ℕ) (sum : ℤ) (line : Line) (e : Entry) → end_said shape begun sum line ≡ Ok e
    → (e ≡ End) × (line ≡ words_in End) × ((begun ≡ 0) ⊎ (sum ≡ shape.row_total))
unfolding end_said
end-ok shape begun sum line e h =
    let p = bind_ok (numbers_after (codes "end") 0 line) _ e h in
    let f = bind_ok (full_row shape begun sum) _ e p.2 in
    let w = numbers_after-ok kinds.Shape kinds.Number (codes "end") 0 line p.0 p.1 in
    (said_is End e f.2, w.0 ∙ ap (numbered (codes "end")) (no_number p.0 w.1), full_row-ok shape begun sum f.0 f.1)

pub end-to : (shape : Shape) (begun : ℕ) (sum : ℤ) → ((begun ≡ 0) ⊎ (sum ≡ shape.row_total)) → end_said shape begun sum (words_in End) ≡ Ok End
unfolding end_said
end-to shape begun sum full = rw (numbers_after-to kinds.Shape kinds.Number (codes "end") 0 [] refl tt) (rw (full_is shape begun sum full) refl)
