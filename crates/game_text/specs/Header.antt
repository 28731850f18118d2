use Rattle.std.specs.Prelude.{◌≤◌, List, [], ◌∷◌}
use Rattle.game_model.specs.Limits.{most_actions, most_observations, most_states}
use Rattle.game_text.specs.declared.header.Header.{Header}
use Rattle.game_text.specs.declared.header.Sizes.{Sizes}
use Rattle.game_text.specs.Entries.{Entry, Version, Size, Total, Discount, First}

-- what the lines of a header say, the latest first
abbrev pub said_by : Header → List Entry
said_by header =
    First header.first.items ∷ Discount header.shape.discount.0 header.shape.discount.1 ∷ Total header.shape.row_total
    ∷ Size header.shape.states header.shape.own_actions header.shape.informed_actions header.shape.observations ∷ Version ∷ []

-- what a `size` line says
abbrev pub size_in : Sizes → Entry
size_in sizes = Size sizes.states sizes.own_actions sizes.informed_actions sizes.observations

pub record AreSizes (sizes : Sizes) : Type 0 where
  pub states : (1 ≤ sizes.states) × (sizes.states ≤ most_states)
  pub own_actions : (1 ≤ sizes.own_actions) × (sizes.own_actions ≤ most_actions)
  pub informed_actions : (1 ≤ sizes.informed_actions) × (sizes.informed_actions ≤ most_actions)
  pub observations : (1 ≤ sizes.observations) × (sizes.observations ≤ most_observations)
