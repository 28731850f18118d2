use Rattle.std.proofs.Common.{List, ◌≡◌, ◌≤◌, ◌*◌, ◌<◌, ℕ, length, get_or, arith, rules, subst, sym, ap, ◌∙◌}
use Rattle.std.specs.Prelude.{ℤ, pos, neg_ℤ, unsigned_abs, ◌*ℤ◌, ◌≤ℤ◌, FitsSigned}
use Rattle.std.specs.Bool.{IsTrue}
use Rattle.std.specs.List.{AllByRecursion}
use Rattle.std.specs.Int.{w128}
use Rattle.std.specs.Int.Signed.{le_z}
use Rattle.std.proofs.lemmas.Int.{ints, to_z-of_z}
use Rattle.std.proofs.lemmas.List.{get_or_read}
use Rattle.scaled_num.proofs.Sums.{each-at}
use Rattle.game_model.specs.Game.{GameData, IsWithin, numbers, span}
use Rattle.game_model.specs.Branches.{mix_total}
use Rattle.game_model.proofs.Width.{at_most}
use Rattle.alpha_set.specs.Members.{mix_of, worth_by}
use Rattle.alpha_set.proofs.Wide.{left-is, scale, sides-fit}
use Rattle.alpha_set.proofs.stands.holds.Goals as goal

pub overflow_mul-scale-2 : goal.overflow_mul-scale-2
overflow_mul-scale-2 c =
    let f = sides-fit c.args.game.now c.law_game.ensures.accepted (pos 0) (pos 0) (pos 0) (omega arith) (omega arith) (omega arith) in
    let whole = f.whole_fits in
    let under = f.under_fits in
    let scale_fits = f.scale_fits in
    simp (c.discount-under.ensures, c.row_total.ensures, to_z-of_z) f.units_fits

within : (V : ℕ) (x : ℤ) → IsWithin (neg_ℤ (pos V)) (pos V) x → unsigned_abs x ≤ V
within V x h = let low = h.0 in let high = h.1 in omega (arith, ints)

entry : (vector : List ℤ) (s : ℕ) (x : ℤ) → s < length vector → x ≡ get_or vector s (pos 0) → (V : ℕ) → AllByRecursion (IsWithin (neg_ℤ (pos V)) (pos V)) vector → unsigned_abs x ≤ V
entry vector s x l is V each = subst (λ (z : ℤ). unsigned_abs z ≤ V) (sym is) (within V _ (each-at (IsWithin (neg_ℤ (pos V)) (pos V)) (pos 0) vector s each l))

pub overflow_mul-result : goal.overflow_mul-result
overflow_mul-result c =
    let g : GameData = c.args.game.now in
    let vector : List ℤ = c.args.node.now.vector.items in
    let inside : c.args.s < length vector = omega (arith, c.requires.fits.long) in
    let is : c.index.result.now ≡ get_or vector c.args.s (pos 0) = get_or_read vector _ _ inside c.index.ensures (pos 0) in
    let f = sides-fit g c.law_game.ensures.accepted c.index.result.now (pos 0) (pos 0) (entry vector c.args.s c.index.result.now inside is (span g) c.requires.fits.entries) (omega arith) (omega arith) in
    let whole = f.whole_fits in
    let under = f.under_fits in
    let scale_fits = f.scale_fits in
    let units = f.units_fits in
    let entry_fits = f.entry_fits in
    let left = f.left_fits in
    simp (c.discount-under.ensures, c.row_total.ensures, to_z-of_z) (search left)

tested : (a b x y : ℤ) → a ≡ x → b ≡ y → (IsTrue (le_z a b) → x ≤ℤ y) × (x ≤ℤ y → IsTrue (le_z a b))
tested a b x y e f = (
  λ t. subst (λ (z : ℤ). z ≤ℤ y) e (subst (λ (z : ℤ). a ≤ℤ z) f ((at_most a b).0 t)),
  λ h. (at_most a b).1 (subst (λ (z : ℤ). z ≤ℤ b) (sym e) (subst (λ (z : ℤ). x ≤ℤ z) (sym f) h)),
)

pub returns : goal.returns
returns c =
    let g : GameData = c.args.game.now in
    let vector : List ℤ = c.args.node.now.vector.items in
    let inside : c.args.s < length vector = omega (arith, c.requires.fits.long) in
    let is : c.index.result.now ≡ get_or vector c.args.s (pos 0) = get_or_read vector _ _ inside c.index.ensures (pos 0) in
    let f = sides-fit g c.law_game.ensures.accepted c.index.result.now (pos 0) (pos 0) (entry vector c.args.s c.index.result.now inside is (span g) c.requires.fits.entries) (omega arith) (omega arith) in
    let whole = f.whole_fits in
    let under = f.under_fits in
    let entry_fits = f.entry_fits in
    let scale_fits = f.scale_fits in
    let units = f.units_fits in
    let left = f.left_fits in
    let right_fits : FitsSigned w128 c.stage_worth.result = search rules in
    let K : ℤ = pos (mix_total * unsigned_abs g.shape.row_total * unsigned_abs g.shape.discount.1) in
    let left_is : c.index.result.now *ℤ (pos 65536 *ℤ scale g) ≡ get_or vector c.args.s (pos 0) *ℤ K = left-is g c.law_game.ensures.accepted c.index.result.now ∙ ap (λ (z : ℤ). z *ℤ K) is in
    let by_mix = λ (mix : List ℤ). worth_by (numbers g) (mix_of mix) c.args.table.now c.args.s c.args.c in
    let told = tested _ _ _ _ left_is (c.stage_worth.ensures ∙ ap by_mix c.deref.ensures.value) in
    simp (c.discount-under.ensures, c.row_total.ensures, to_z-of_z) (search told)
