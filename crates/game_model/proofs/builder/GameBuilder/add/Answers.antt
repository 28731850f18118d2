use Rattle.std.proofs.Common.{rules, arith, ◌≡◌, ◌<◌, ◌-◌, ℕ, sym, subst, ap, ◌∙◌, ◌++◌, ◌∷◌, [], length, List, slice_set}
use Rattle.std.specs.Prelude.{ℤ, FitsSigned, ◌+ℤ◌}
use Rattle.std.specs.Int.{w128}
use Rattle.std.proofs.lemmas.Int.{to_z-of_z}
use Rattle.game_model.specs.Build.{IsBuilder, IsGameFront, IsBegun, data_of, with_landing}
use Rattle.game_model.specs.Game.{GameData}
use Rattle.game_model.specs.declared.parts.Landing.{Landing}
use Rattle.game_model.specs.declared.parts.Entry.{Entry}
use Rattle.game_model.proofs.Front.{data-landing, data-unchanged, landing-next, landing-fits, length-map, on-err}
use Rattle.game_model.proofs.builder.GameBuilder.add.Goals as goal

abbrev row_of : Entry → List Landing
row_of e = e.row.items

abbrev reward_of : Entry → ℤ
reward_of e = e.reward

-- where a row was begun, there is a last entry
inside : (entries : List Entry) (rows n : ℕ) → rows ≡ length entries → n ≡ length entries → 0 < rows → n - 1 < length entries
inside entries rows n e f some = omega arith

pub invariant_of-self : goal.invariant_of-self
invariant_of-self c =
    let s = c.self.inside in
    let i : ℕ = c.len-last.result - 1 in
    let entry : Entry = c.index_mut-entry.result.now in
    let e : Entry = record { reward = entry.reward; row = c.push.new.self } in
    let counted : c.len-last.result ≡ length s.entries.items = c.len-last.ensures ∙ s.entries.ok.0 in
    let begun : IsBegun (data_of s.shape s.first.items s.entries.items) = subst IsBegun (sym c.self.view_is) c.requires.begun in
    let within : i < length s.entries.items = inside s.entries.items _ c.len-last.result (length-map row_of s.entries.items) counted begun in
    let after : data_of s.shape s.first.items (slice_set s.entries.items i e) ≡ data_of s.shape s.first.items s.entries.items =
    data-unchanged s.shape s.first.items s.entries.items i entry e within (ap reward_of c.index_mut-entry.ensures.value)
    (c.in_err-push.ensures.items ∙ ap row_of c.index_mut-entry.ensures.value) in
    subst (λ (g : GameData). IsBuilder g s.filled) (sym after) c.self.invariant

pub returns-in_err-push-clause-unchanged : goal.returns-in_err-push-clause-unchanged
returns-in_err-push-clause-unchanged c =
    let s = c.self.inside in
    let i : ℕ = c.len-last.result - 1 in
    let entry : Entry = c.index_mut-entry.result.now in
    let e : Entry = record { reward = entry.reward; row = c.push.new.self } in
    let counted : c.len-last.result ≡ length s.entries.items = c.len-last.ensures ∙ s.entries.ok.0 in
    let begun : IsBegun (data_of s.shape s.first.items s.entries.items) = subst IsBegun (sym c.self.view_is) c.requires.begun in
    let within : i < length s.entries.items = inside s.entries.items _ c.len-last.result (length-map row_of s.entries.items) counted begun in
    let after : data_of s.shape s.first.items (slice_set s.entries.items i e) ≡ data_of s.shape s.first.items s.entries.items =
    data-unchanged s.shape s.first.items s.entries.items i entry e within (ap reward_of c.index_mut-entry.ensures.value)
    (c.in_err-push.ensures.items ∙ ap row_of c.index_mut-entry.ensures.value) in
    on-err c.from_residual.result (after ∙ c.self.view_is)

pub returns-in_err-push-clause-front : goal.returns-in_err-push-clause-front
returns-in_err-push-clause-front c =
    let s = c.self.inside in
    let i : ℕ = c.len-last.result - 1 in
    let entry : Entry = c.index_mut-entry.result.now in
    let e : Entry = record { reward = entry.reward; row = c.push.new.self } in
    let counted : c.len-last.result ≡ length s.entries.items = c.len-last.ensures ∙ s.entries.ok.0 in
    let begun : IsBegun (data_of s.shape s.first.items s.entries.items) = subst IsBegun (sym c.self.view_is) c.requires.begun in
    let within : i < length s.entries.items = inside s.entries.items _ c.len-last.result (length-map row_of s.entries.items) counted begun in
    let after : data_of s.shape s.first.items (slice_set s.entries.items i e) ≡ data_of s.shape s.first.items s.entries.items =
    data-unchanged s.shape s.first.items s.entries.items i entry e within (ap reward_of c.index_mut-entry.ensures.value)
    (c.in_err-push.ensures.items ∙ ap row_of c.index_mut-entry.ensures.value) in
    subst IsGameFront (sym after) c.self.invariant.front

pub overflow_add-self : goal.overflow_add-self
overflow_add-self c =
    let s = c.self.inside in
    let f_fits : FitsSigned w128 s.filled = search rules in
    let w_fits : FitsSigned w128 c.args.landing.weight = search rules in
    simp to_z-of_z (landing-fits _ c.args.self.now s.filled c.args.landing c.self.view_is c.self.invariant c.requires.right)

pub invariant_of-self-2 : goal.invariant_of-self-2
invariant_of-self-2 c =
    let s = c.self.inside in
    let l : Landing = c.args.landing in
    let f_fits : FitsSigned w128 s.filled = search rules in
    let w_fits : FitsSigned w128 c.args.landing.weight = search rules in
    let fits : FitsSigned w128 (s.filled +ℤ l.weight) = landing-fits _ c.args.self.now s.filled l c.self.view_is c.self.invariant c.requires.right in
    let i : ℕ = c.len-last.result - 1 in
    let entry : Entry = c.index_mut-entry.result.now in
    let e : Entry = record { reward = entry.reward; row = c.push.new.self } in
    let counted : c.len-last.result ≡ length s.entries.items = c.len-last.ensures ∙ s.entries.ok.0 in
    let begun : IsBegun (data_of s.shape s.first.items s.entries.items) = subst IsBegun (sym c.self.view_is) c.requires.begun in
    let within : i < length s.entries.items = inside s.entries.items _ c.len-last.result (length-map row_of s.entries.items) counted begun in
    let after : data_of s.shape s.first.items (slice_set s.entries.items i e) ≡ with_landing (data_of s.shape s.first.items s.entries.items) l =
    data-landing s.shape s.first.items s.entries.items i entry e l (ap (λ (n : ℕ). n - 1) counted) within (ap reward_of c.index_mut-entry.ensures.value)
    (c.in_ok-push.ensures.items ∙ ap (λ (x : Entry). row_of x ++ l ∷ []) c.index_mut-entry.ensures.value) in
    simp to_z-of_z (subst (λ (g : GameData). IsBuilder g (s.filled +ℤ l.weight)) (sym after)
    (landing-next _ c.args.self.now s.filled l c.self.view_is c.self.invariant c.requires.begun c.requires.right c.requires.next c.requires.left))

pub returns-clause-added : goal.returns-clause-added
returns-clause-added c =
    let s = c.self.inside in
    let l : Landing = c.args.landing in
    let i : ℕ = c.len-last.result - 1 in
    let entry : Entry = c.index_mut-entry.result.now in
    let e : Entry = record { reward = entry.reward; row = c.push.new.self } in
    let counted : c.len-last.result ≡ length s.entries.items = c.len-last.ensures ∙ s.entries.ok.0 in
    let begun : IsBegun (data_of s.shape s.first.items s.entries.items) = subst IsBegun (sym c.self.view_is) c.requires.begun in
    let within : i < length s.entries.items = inside s.entries.items _ c.len-last.result (length-map row_of s.entries.items) counted begun in
    let after : data_of s.shape s.first.items (slice_set s.entries.items i e) ≡ with_landing (data_of s.shape s.first.items s.entries.items) l =
    data-landing s.shape s.first.items s.entries.items i entry e l (ap (λ (n : ℕ). n - 1) counted) within (ap reward_of c.index_mut-entry.ensures.value)
    (c.in_ok-push.ensures.items ∙ ap (λ (x : Entry). row_of x ++ l ∷ []) c.index_mut-entry.ensures.value) in
    after ∙ ap (λ (g : GameData). with_landing g l) c.self.view_is

pub returns-clause-front : goal.returns-clause-front
returns-clause-front c =
    let s = c.self.inside in
    let l : Landing = c.args.landing in
    let i : ℕ = c.len-last.result - 1 in
    let entry : Entry = c.index_mut-entry.result.now in
    let e : Entry = record { reward = entry.reward; row = c.push.new.self } in
    let counted : c.len-last.result ≡ length s.entries.items = c.len-last.ensures ∙ s.entries.ok.0 in
    let begun : IsBegun (data_of s.shape s.first.items s.entries.items) = subst IsBegun (sym c.self.view_is) c.requires.begun in
    let within : i < length s.entries.items = inside s.entries.items _ c.len-last.result (length-map row_of s.entries.items) counted begun in
    let after : data_of s.shape s.first.items (slice_set s.entries.items i e) ≡ with_landing (data_of s.shape s.first.items s.entries.items) l =
    data-landing s.shape s.first.items s.entries.items i entry e l (ap (λ (n : ℕ). n - 1) counted) within (ap reward_of c.index_mut-entry.ensures.value)
    (c.in_ok-push.ensures.items ∙ ap (λ (x : Entry). row_of x ++ l ∷ []) c.index_mut-entry.ensures.value) in
    subst IsGameFront (sym after)
    (landing-next _ c.args.self.now s.filled l c.self.view_is c.self.invariant c.requires.begun c.requires.right c.requires.next c.requires.left).front
