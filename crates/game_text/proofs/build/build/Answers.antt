use Rattle.game_text.proofs.Taking.{takes_next, left_more, run_all, run_tail, finished_full, header_taken}
use Rattle.game_text.proofs.Runs.{Run, say_run}
use Rattle.std.proofs.Common.{◌≡◌, List, ℤ, get_or, refl, Result, Err, ◌⊎◌, inl, inr, sym, ap, subst, ◌∙◌, arith}
use Rattle.game_model.specs.declared.builder.GameFault.{GameFault}
use Rattle.game_model.specs.declared.builder.GameFault.TheVariants as fault
use Rattle.game_text.specs.declared.progress.RowEntry.TheVariants as row
use Rattle.game_model.specs.Game.{IsBelief}
use Rattle.game_model.specs.Build.{IsMultiple}
use Rattle.game_text.specs.Header.{said_by}
use Rattle.game_text.specs.Progress.{said}
use Rattle.game_text.proofs.Building.{built_step, built_all}
use Rattle.game_text.proofs.build.build.Goals as goal

new_only : {T : Type 0} (r : Result T GameFault) (f : GameFault) (P Q : Type 0) → r ≡ Err f → (r ≡ Err fault.Range → ¬ P) → (r ≡ Err fault.Belief → P × ¬ Q)
    → ((x : GameFault) → r ≡ Err x → (x ≡ fault.Range) ⊎ (x ≡ fault.Belief) ⊎ (x ≡ fault.OutOfMemory)) → P → Q → f ≡ fault.OutOfMemory
new_only r f P Q is range belief others p q = elim (others f is) [
  | inl e ↦ absurd (range (is ∙ ap Err e) p)
  | inr x ↦ elim x [
    | inl e ↦ absurd ((belief (is ∙ ap Err e)).1 q)
    | inr e ↦ e
  ]
]

finish_only : {T : Type 0} (r : Result T GameFault) (f : GameFault) (P Q : Type 0) → r ≡ Err f → (r ≡ Err fault.Missing → P) → (r ≡ Err fault.Total → (¬ P) × ¬ Q)
    → ((x : GameFault) → r ≡ Err x → (x ≡ fault.Missing) ⊎ (x ≡ fault.Total)) → ¬ P → Q → f ≡ fault.OutOfMemory
finish_only r f P Q is missing total others p q = elim (others f is) [
  | inl e ↦ absurd (p (missing (is ∙ ap Err e)))
  | inr e ↦ absurd ((total (is ∙ ap Err e)).1 q)
]

pub want_of_memory-requires : goal.want_of_memory-requires
want_of_memory-requires c =
    let run = (say_run c.requires.said.0 (said c.args.entries.now (said_by c.args.header.now)) c.requires.said.1).1 in
    let h = header_taken c.args.header.now (run_tail c.args.entries.now (said_by c.args.header.now) run) in
    let belief = subst (λ (w : List ℤ). IsBelief c.args.header.now.shape.states w) (sym c.deref.ensures.value) h.1 in
    new_only c.new.result c.in-Err.fault _ _ c.in-Err.is c.new.ensures.range.0 c.new.ensures.belief.0 c.new.ensures.others h.0 belief

pub loop-entry-init : goal.loop-entry-init
loop-entry-init c = record {
  built = record {
    shape = c.in-Ok.ensures.shaped;
    divided = subst (λ (w : List ℤ). IsMultiple w c.in-Ok.builder.first) c.deref.ensures.value c.in-Ok.ensures.divided;
    rewards = c.in-Ok.ensures.empty.0;
    rows = c.in-Ok.ensures.empty.1;
  };
  left = (say_run c.requires.said.0 (said c.args.entries.now (said_by c.args.header.now)) c.requires.said.1).1;
}

pub add-requires : goal.add-requires
add-requires c =
    takes_next c.args.header.now.first.items c.args.entries.now c.loop-entry.entry-index _ (said_by c.args.header.now) c.loop-entry.builder (omega arith) c.loop-entry.invariant.built c.loop-entry.invariant.left

pub loop-entry-preserved : goal.loop-entry-preserved
loop-entry-preserved c = record {
  built = built_step c.args.header.now.first.items c.args.entries.now c.loop-entry.entry-index _ (said_by c.args.header.now) c.loop-entry.builder c.add.new.builder (omega arith) c.loop-entry.invariant.built c.in-Ok-add.ensures.added;
  left = subst Run (left_more c.args.entries.now c.loop-entry.entry-index (get_or c.args.entries.now c.loop-entry.entry-index row.End) (said_by c.args.header.now) (omega arith)) c.loop-entry.invariant.left;
}

pub want_of_memory-requires-in-Err-finish : goal.want_of_memory-requires-in-Err-finish
want_of_memory-requires-in-Err-finish c =
    let base = said_by c.args.header.now in
    let items = c.args.entries.now in
    let i = c.loop-entry.entry-index in
    let built = built_all c.args.header.now.first.items items i base c.loop-entry.builder c.loop-entry.builder (omega arith) c.loop-entry.invariant.built refl in
    let p = finished_full c.args.header.now.first.items (said items base) c.loop-entry.builder built c.requires.ended (run_all items i base (omega arith) c.loop-entry.invariant.left) in
    finish_only c.finish.result c.in-Err-finish.fault _ _ c.in-Err-finish.is c.finish.ensures.missing.0 c.finish.ensures.total.0 c.finish.ensures.others p.0 p.1

pub returns-in-Ok-finish-clause-game : goal.returns-in-Ok-finish-clause-game
returns-in-Ok-finish-clause-game c =
    built_all c.args.header.now.first.items c.args.entries.now c.loop-entry.entry-index (said_by c.args.header.now) c.loop-entry.builder c.in-Ok-finish.game (omega arith) c.loop-entry.invariant.built c.in-Ok-finish.ensures.built
