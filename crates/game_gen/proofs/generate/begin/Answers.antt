use Rattle.std.proofs.Common.{◌≡◌, ℕ, List, [], ℤ, pos, replicate, take, Result, Ok, Err, inl, inr, ◌⊎◌, refl, sym, ap, subst, ◌∙◌}
use Rattle.std.specs.Prelude.{IfErr, IfOk, IsErrOf}
use Rattle.std.proofs.lemmas.List.{take-replicate}
use Rattle.rand_pcg.specs.Lcg.{Lcg}
use Rattle.game_model.specs.declared.builder.GameFault.{GameFault}
use Rattle.game_model.specs.declared.builder.GameFault.TheVariants as faults
use Rattle.game_model.specs.declared.parts.Shape.{Shape}
use Rattle.game_model.specs.declared.parts.Landing.{Landing}
use Rattle.game_model.specs.Game.{GameData, IsBelief, IsShape}
use Rattle.game_model.specs.Build.{IsMultiple}
use Rattle.game_gen.specs.Generated.{game_drawn, shape_of}
use Rattle.game_gen.proofs.Games.{game_from, serves_of}
use Rattle.game_gen.proofs.Ones.{ones_belief, ones_kept}
use Rattle.game_gen.proofs.generate.begin.Goals as goal

same_fields : (s t : Shape) (f h xs ys : List ℤ) (rows others : List (List Landing)) → s ≡ t → f ≡ h → xs ≡ ys → rows ≡ others → game_from s f xs rows ≡ game_from t h ys others
same_fields s t f h xs ys rows others a b c d = cc

-- what a new builder has
begun : (r : Result GameData GameFault) (given : List ℤ) (shape : Shape) (size : ℕ) → given ≡ replicate size (pos 1) → shape ≡ shape_of size
    → IfOk r (λ b. b.shape ≡ shape) → IfOk r (λ b. IsMultiple given b.first) → IfOk r (λ b. (b.rewards ≡ []) × (b.rows ≡ []))
    → IfOk r (λ b. (g : Lcg) → b ≡ game_drawn (shape_of size) (replicate size (pos 1)) g 0)
begun (Ok b) given shape size ones same shaped divided empty = λ g.
    same_fields b.shape (shape_of size) b.first (replicate size (pos 1)) b.rewards [] b.rows []
    (shaped ∙ same) (ones_kept size divided.0 b.first (sym ones ∙ divided.2)) empty.0 empty.1
begun (Err e) given shape size ones same shaped divided empty = tt

-- a new builder of a right shape and belief fails for want of memory alone
only_memory : (r : Result GameData GameFault) (P Q : Type 0) → (IsErrOf r faults.Range → ¬ P) → (IsErrOf r faults.Belief → P × ¬ Q)
    → ((x : GameFault) → IsErrOf r x → (x ≡ faults.Range) ⊎ (x ≡ faults.Belief) ⊎ (x ≡ faults.OutOfMemory)) → P → Q → IfErr r (λ fault. fault ≡ faults.OutOfMemory)
only_memory (Ok b) P Q range belief others p q = tt
only_memory (Err f) P Q range belief others p q = elim (others f refl) [
  | inl e ↦ absurd (range (ap Err e) p)
  | inr x ↦ elim x [
    | inl e ↦ absurd ((belief (ap Err e)).1 q)
    | inr e ↦ e
  ]
]

pub returns-clause-empty : goal.returns-clause-empty
returns-clause-empty c =
    begun c.new.result _ c.shape_of.result c.args.size (take-replicate c.args.size 16 (pos 1) c.requires.most) c.shape_of.ensures c.new.ensures.shaped c.new.ensures.divided c.new.ensures.empty

pub returns-clause-memory : goal.returns-clause-memory
returns-clause-memory c =
    let size = c.args.size in
    let given = take size (replicate 16 (pos 1)) in
    let shape : IsShape c.shape_of.result = subst IsShape (sym c.shape_of.ensures) (serves_of size c.requires.least c.requires.most).limits in
    let states : c.shape_of.result.states ≡ size = ap (λ (s : Shape). s.states) c.shape_of.ensures in
    let ones : IsBelief size given =
    subst (IsBelief size) (sym (take-replicate size 16 (pos 1) c.requires.most)) (ones_belief size c.requires.least c.requires.most) in
    let belief : IsBelief c.shape_of.result.states given = subst (λ (n : ℕ). IsBelief n given) (sym states) ones in
    only_memory c.new.result _ _ c.new.ensures.range.0 c.new.ensures.belief.0 c.new.ensures.others shape belief
