-- A list that has the mass of each next state is the list of the masses.
use Rattle.std.proofs.Common.{◌≡◌, ℕ, ◌<◌, List, length, arith, sym, subst, ◌∙◌}
use Rattle.std.specs.Prelude.{ℤ, pos, slice_index_or}
use Rattle.std.proofs.lemmas.List.{ext_get_or}
use Rattle.std.proofs.lemmas.List.FromFn.{get_or-map-range_with_len, length-map-range_with_len}
use Rattle.game_model.specs.Game.{GameData, numbers}
use Rattle.belief.specs.After.{mass_after}
use Rattle.belief.specs.Beliefs.{mix_weight, weight_at}
use Rattle.belief.specs.Mixes.{MixesData, mass_of}

pub is-after : (g : GameData) (belief : List ℤ) (mixes : MixesData) (a o : ℕ) (out : List ℤ) → length out ≡ g.shape.states →
    ((t : ℕ) → t < g.shape.states → slice_index_or out t (pos 0) ≡ pos (mass_of (numbers g) (weight_at belief) (mix_weight mixes) a o t)) → out ≡ mass_after g belief mixes a o
is-after g belief mixes a o out long each =
    ext_get_or (pos 0) out (mass_after g belief mixes a o) (long ∙ sym (length-map-range_with_len mass 0 g.shape.states))
    (λ t l. let inside : t < g.shape.states = subst (λ (n : ℕ). t < n) long l in each t inside ∙ sym (get_or-map-range_with_len mass 0 g.shape.states t t (pos 0) inside (omega arith)))
  where
    mass : ℕ → ℤ
    mass t = pos (mass_of (numbers g) (weight_at belief) (mix_weight mixes) a o t)
