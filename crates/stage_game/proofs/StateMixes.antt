-- Mixes of all states, one behind another, are mixes.
use Rattle.std.proofs.Common.{◌≡◌, ℕ, zero, suc, ◌<◌, ◌+◌, ◌*◌, ◌++◌, [], List, length, refl, sym, subst, ap, ◌∙◌, arith}
use Rattle.std.specs.Prelude.{ℤ, pos, flat_map}
use Rattle.std.specs.List.{AllByRecursion, range_with_len}
use Rattle.std.proofs.lemmas.List.{get_or-append-add}
use Rattle.std.proofs.Math.ListN.{get_or-append}
use Rattle.scaled_num.proofs.Sums.{below-each, each-flat_map, total-below, total-places}
use Rattle.scaled_num.specs.Share.{at}
use Rattle.scaled_num.specs.Sums.{below, total}
use Rattle.belief.specs.Beliefs.{mixes_for}
use Rattle.belief.specs.Mixes.{AreMixes, MixesData}
use Rattle.game_model.specs.Branches.{mix_total}
use Rattle.game_model.specs.Game.{GameData, IsWithin}
use Rattle.simplex.specs.Dictionary.{Dictionary}
use Rattle.stage_game.specs.Advice.{AreInformedRead, IsMixRead}
use Rattle.stage_game.specs.Fits.{MixesFit}
use Rattle.stage_game.proofs.Families.{Adds, blocks-long}
use Rattle.stage_game.proofs.ReadWeights.{state-mix}
use Rattle.stage_game.proofs.SharedTotals.{ArePartsOf, parts-within}

-- the number at a place of a block
block-at : (f : ℕ → List ℤ) (count a n i c : ℕ) → ((i : ℕ) → i < a + n → length (f i) ≡ count) → i < n → c < count
    → at (flat_map f (range_with_len a n)) (i * count + c) ≡ at (f (a + i)) c
block-at f count a zero i c h l k = absurd (omega arith)
block-at f count a (suc n) zero c h l k =
    ap (at (f a ++ flat_map f (range_with_len (a + 1) n))) (let first : 0 * count + c ≡ c = omega arith in first)
    ∙ get_or-append (f a) (flat_map f (range_with_len (a + 1) n)) (pos 0) c (omega (arith, h a (omega arith)))
    ∙ ap (λ (j : ℕ). at (f j) c) (omega arith)
block-at f count a (suc n) (suc i) c h l k =
    ap (at (f a ++ flat_map f (range_with_len (a + 1) n))) (let split : suc i * count + c ≡ length (f a) + (i * count + c) = omega (arith, h a (omega arith)) in split)
    ∙ get_or-append-add (f a) (flat_map f (range_with_len (a + 1) n)) (i * count + c) (pos 0)
    ∙ block-at f count (a + 1) n i c (λ i l. h i (omega arith)) (omega arith) k
    ∙ ap (λ (j : ℕ). at (f j) c) (omega arith)

pub are-mixes : (states actions : ℕ) (mix : ℕ → List ℤ) → ((s : ℕ) → s < states → ArePartsOf (pos mix_total) actions (mix s))
    → AreMixes (record { states = states; actions = actions; weights = flat_map mix (below states) })
are-mixes states actions mix parts = record {
  long = blocks-long mix actions 0 states (λ i l. (parts i (omega arith)).long);
  each = each-flat_map (IsWithin (pos 0) (pos mix_total)) mix (below states)
      (below-each (λ s. AllByRecursion (IsWithin (pos 0) (pos mix_total)) (mix s)) states (λ s l. parts-within (pos mix_total) actions (mix s) (parts s l)));
  sums = λ s l.
      total-below actions (λ c. at (flat_map mix (below states)) (s * actions + c)) (λ c. at (mix s) c)
      (λ c k. block-at mix actions 0 states s c (λ i l. (parts i (omega arith)).long) l k ∙ ap (λ (j : ℕ). at (mix j) c) (omega arith))
      ∙ ap (λ (n : ℕ). total (λ c. at (mix s) c) (below n)) (sym (parts s l).long)
      ∙ total-places (λ x. x) (pos 0) (mix s)
      ∙ (parts s l).sums;
}

abbrev mixes-of : ℕ → ℕ → List ℤ → MixesData
mixes-of states actions weights = record { states = states; actions = actions; weights = weights }

-- mixes are told apart by their numbers
pub same-mixes : (mixes other : MixesData) → mixes.states ≡ other.states → mixes.actions ≡ other.actions → mixes.weights ≡ other.weights → mixes ≡ other
same-mixes mixes other p q r =
    ap (λ (s : ℕ). mixes-of s mixes.actions mixes.weights) p
    ∙ ap (λ (a : ℕ). mixes-of other.states a mixes.weights) q
    ∙ ap (λ (w : List ℤ). mixes-of other.states other.actions w) r

pub informed-fit : (g : GameData) (d : Dictionary) (mixes : MixesData) → 0 < g.shape.informed_actions → AreInformedRead g d mixes → MixesFit g mixes
informed-fit g d mixes some read = record {
  states = read.states;
  actions = read.actions;
  right = subst AreMixes (sym (same-mixes mixes (mixes-of g.shape.states g.shape.informed_actions (flat_map read.mix (below g.shape.states))) read.states read.actions read.same))
      (are-mixes g.shape.states g.shape.informed_actions read.mix (λ s l. state-mix g d s (read.mix s) some (read.read s l)));
}

-- the mixes that a loop has written, state by state
pub all-mixes : (g : GameData) (d : Dictionary) (count : ℕ) (written items : List ℤ) → count ≡ g.shape.states → items ≡ written
    → Adds {X = List ℤ} {Y = ℤ} (λ s mix. IsMixRead g d s mix) (λ mix. mix) count [] written → AreInformedRead g d (mixes_for g items)
all-mixes g d count written items done e adds = record {
  states = refl;
  actions = refl;
  mix = adds.made.value;
  read = λ s l. adds.made.right s (subst (λ (n : ℕ). s < n) (sym done) l);
  same = e ∙ adds.same ∙ adds.made.same ∙ ap (λ (n : ℕ). flat_map adds.made.value (below n)) done;
}
