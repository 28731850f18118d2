use Rattle.std.proofs.Common.{Bool, List, not, ◌&&◌, suc, ap, arith, length, length-append, refl, rules, subst, sym, ◌+◌, ◌++◌, ◌∷◌, ◌≡◌, ◌<◌, ◌≤◌, ◌∙◌, ℕ, []}
use Rattle.std.specs.Prelude.{IsTrue, pos, ℤ}
use Rattle.alpha_set.specs.Members.{node_data}
use Rattle.alpha_set.specs.Nodes.{NodeData, NodeFits}
use Rattle.controller.specs.Data.{ending_of, fraction_data}
use Rattle.controller.specs.declared.certificates.Outcome.{Outcome}
use Rattle.point_set.specs.Members.{point_data}
use Rattle.point_set.specs.Points.{PointData, PointFits}
use Rattle.stage_game.specs.Asked.{BeliefFits, NodesServe}
use Rattle.stage_game.specs.Data.{lower_data, upper_data}
use Rattle.hsvi_trial.specs.Copies.{renumbered}
use Rattle.hsvi_trial.specs.Courses.{BeginsTrial, HasPlace, IsPlace}
use Rattle.hsvi_trial.specs.Data.{EndsWith, SearchState, search_state}
use Rattle.hsvi_trial.specs.Due.{IsNodeRefused}
use Rattle.hsvi_trial.specs.Ends.{IsOnward}
use Rattle.hsvi_trial.specs.Excess.{View}
use Rattle.hsvi_trial.specs.Looks.{IsLook, looks_from}
use Rattle.hsvi_trial.specs.Remembered.{AreLowerSides, AreUpperSides, IsLowerMade, IsUpperMade}
use Rattle.hsvi_trial.specs.Repeats.{IsCopied, IsRepeat}
use Rattle.hsvi_trial.specs.RightVisit.{Made}
use Rattle.hsvi_trial.specs.Sets.{Sets}
use Rattle.hsvi_trial.specs.Thresholds.{threshold}
use Rattle.hsvi_trial.specs.declared.visits.Visit.{Visit}
use Rattle.hsvi_trial.proofs.Beginning.{has-start}
use Rattle.hsvi_trial.proofs.Holding.{few-visits, place-fits, place-there, trial-within}
use Rattle.hsvi_trial.proofs.Remembering.{lower-left, lower-sides-go-on, upper-left, upper-sides-go-on}
use Rattle.hsvi_trial.proofs.Repeating.{held-copied, repeat-copied, repeats-stepped}
use Rattle.hsvi_trial.proofs.Stepped.{IsStep, ends-with, held-stepped, place-more}
use Rattle.hsvi_trial.proofs.VisitParts.{visit_of}
use Rattle.hsvi_trial.proofs.search.Search.advance.Goals as goal

pub end_of-requires-clause-start : goal.end_of-requires-clause-start
end_of-requires-clause-start c = has-start _ c.self.inside.course c.self.inside.solver c.law_game.ensures.accepted c.self.invariant.0

pub end_of-requires-clause-trial : goal.end_of-requires-clause-trial
end_of-requires-clause-trial c = trial-within _ c.self.invariant.0.seeds _ _ _ c.self.inside.course.trial c.self.inside.course.first c.self.inside.course.next c.self.invariant.0.run c.self.invariant.0.goes

pub returns-in-Some-clause-ended : goal.returns-in-Some-clause-ended
returns-in-Some-clause-ended c =
    let count : c.len.result ≡ length c.self.inside.journal.items = search rules in
    let old : SearchState = search_state c.self.inside.game.now c.self.inside.trials (fraction_data c.self.inside.gap) c.self.inside.nodes c.self.inside.points c.self.inside.journal.items c.self.inside.cut in
    let end : EndsWith old (ending_of c.in-Some.outcome) = ends-with old c.self.inside.course c.self.inside.solver c.begins-begins.result (ending_of c.in-Some.outcome) c.self.invariant.0
    (λ e. subst (λ (n : ℕ). BeginsTrial n c.self.inside.course.first c.self.inside.course.next) count (c.begins-begins.ensures.0 e)) c.in-Some.ensures.ended in
    λ outcome e.
    let same : c.in-Some.outcome ≡ outcome = cc in
    (refl, subst (λ (s : SearchState). EndsWith s (ending_of outcome)) c.self.view_is (subst (λ (o : Outcome). EndsWith old (ending_of o)) same end))

pub place-place-requires-clause-few : goal.place-place-requires-clause-few
place-place-requires-clause-few c =
    let few : length c.self.inside.journal.items ≤ 1300000 = few-visits _ c.self.inside.course c.self.inside.solver c.self.invariant.0 in
    let same : length c.deref.result.now ≡ length c.self.inside.journal.items = ap (λ (vs : List Visit). length vs) c.deref.ensures.value in
    omega (arith, few, same)

pub make-requires-clause-belief : goal.make-requires-clause-belief
make-requires-clause-belief c =
    let journal : c.deref.result.now ≡ c.self.inside.journal.items = c.deref.ensures.value in
    let at : IsPlace c.self.inside.journal.items c.self.inside.course.first c.self.inside.course.next c.place-place.result =
    subst (λ (vs : List Visit). IsPlace vs c.self.inside.course.first c.self.inside.course.next c.place-place.result) journal c.place-place.ensures in
    let there = place-there c.self.inside.game.now c.self.invariant.0.seeds _ c.self.inside.journal.items c.self.inside.course.trial c.self.inside.course.first c.self.inside.course.next c.self.invariant.0.goes in
    let fits : BeliefFits c.self.inside.game.now c.place-place.result.belief = place-fits c.self.inside.game.now c.self.inside.journal.items c.self.inside.course.first c.self.inside.course.next c.place-place.result c.self.invariant.0.beliefs c.self.invariant.0.next there at in
    fits

pub keep-kept-requires-clause-belief : goal.keep-kept-requires-clause-belief
keep-kept-requires-clause-belief c =
    let journal : c.deref.result.now ≡ c.self.inside.journal.items = c.deref.ensures.value in
    let at : IsPlace c.self.inside.journal.items c.self.inside.course.first c.self.inside.course.next c.place-place.result =
    subst (λ (vs : List Visit). IsPlace vs c.self.inside.course.first c.self.inside.course.next c.place-place.result) journal c.place-place.ensures in
    let there = place-there c.self.inside.game.now c.self.invariant.0.seeds _ c.self.inside.journal.items c.self.inside.course.trial c.self.inside.course.first c.self.inside.course.next c.self.invariant.0.goes in
    let fits : BeliefFits c.self.inside.game.now c.place-place.result.belief = place-fits c.self.inside.game.now c.self.inside.journal.items c.self.inside.course.first c.self.inside.course.next c.place-place.result c.self.invariant.0.beliefs c.self.invariant.0.next there at in
    fits

pub keep-kept-requires-clause-nodes : goal.keep-kept-requires-clause-nodes
keep-kept-requires-clause-nodes c = subst (NodesServe c.self.inside.game.now) (sym c.make.ensures.same_nodes) c.self.invariant.0.nodes

pub keep-kept-requires-clause-node : goal.keep-kept-requires-clause-node
keep-kept-requires-clause-node c =
    subst (λ (ns : List NodeData). NodeFits c.self.inside.game.now (length ns) (node_data c.in_ok-made.made.node)) (sym c.make.ensures.same_nodes) c.in_ok-made.ensures.lower.fits

pub keep-kept-requires-clause-point : goal.keep-kept-requires-clause-point
keep-kept-requires-clause-point c =
    subst (λ (ps : List PointData). PointFits c.self.inside.game.now (length ps) (point_data c.in_ok-made.made.point)) (sym c.make.ensures.same_points) c.in_ok-made.ensures.upper.fits

pub look_on-look-requires-clause-gap : goal.look_on-look-requires-clause-gap
look_on-look-requires-clause-gap c = c.self.invariant.0.limits.gap

pub look_on-look-requires-clause-belief : goal.look_on-look-requires-clause-belief
look_on-look-requires-clause-belief c =
    let journal : c.deref.result.now ≡ c.self.inside.journal.items = c.deref.ensures.value in
    let at : IsPlace c.self.inside.journal.items c.self.inside.course.first c.self.inside.course.next c.place-place.result =
    subst (λ (vs : List Visit). IsPlace vs c.self.inside.course.first c.self.inside.course.next c.place-place.result) journal c.place-place.ensures in
    let there = place-there c.self.inside.game.now c.self.invariant.0.seeds _ c.self.inside.journal.items c.self.inside.course.trial c.self.inside.course.first c.self.inside.course.next c.self.invariant.0.goes in
    let fits : BeliefFits c.self.inside.game.now c.place-place.result.belief = place-fits c.self.inside.game.now c.self.inside.journal.items c.self.inside.course.first c.self.inside.course.next c.place-place.result c.self.invariant.0.beliefs c.self.invariant.0.next there at in
    fits

pub remember_lower-requires-clause-sides : goal.remember_lower-requires-clause-sides
remember_lower-requires-clause-sides c =
    lower-sides-go-on c.self.inside.game.now c.make.new.nodes.members c.keep-kept.new.nodes.members c.place-place.result.belief (node_data c.in_ok-made.made.node) c.keep-kept.result.node c.keep-kept.ensures.node _
    (subst (λ (ns : List NodeData). AreLowerSides c.self.inside.game.now ns c.make.new.memory.lower.items) (sym c.make.ensures.same_nodes) c.make.ensures.memory.lower)

pub remember_lower-requires-clause-left : goal.remember_lower-requires-clause-left
remember_lower-requires-clause-left c =
    lower-left c.self.inside.game.now c.make.new.nodes.members c.keep-kept.new.nodes.members c.place-place.result.belief (lower_data c.in_ok-made.made.lower) c.in_ok-made.made.node c.keep-kept.result.node c.keep-kept.result.left_node
    c.keep-kept.ensures.node c.keep-kept.ensures.left_node
    (subst (λ (ns : List NodeData). IsLowerMade c.self.inside.game.now ns c.place-place.result.belief (lower_data c.in_ok-made.made.lower) (node_data c.in_ok-made.made.node)) (sym c.make.ensures.same_nodes) c.in_ok-made.ensures.lower)

pub remember_upper-requires-clause-sides : goal.remember_upper-requires-clause-sides
remember_upper-requires-clause-sides c =
    upper-sides-go-on (IsNodeRefused c.make.new.nodes.members c.place-place.result.belief (node_data c.in_ok-made.made.node))
    c.self.inside.game.now c.make.new.points.members c.keep-kept.new.points.members c.place-place.result.belief (point_data c.in_ok-made.made.point) c.keep-kept.result.point c.keep-kept.ensures.point _
    (subst (λ (ps : List PointData). AreUpperSides c.self.inside.game.now ps c.make.new.memory.upper.items) (sym c.make.ensures.same_points) c.make.ensures.memory.upper)

pub remember_upper-requires-clause-left : goal.remember_upper-requires-clause-left
remember_upper-requires-clause-left c =
    upper-left (IsNodeRefused c.make.new.nodes.members c.place-place.result.belief (node_data c.in_ok-made.made.node))
    c.self.inside.game.now c.make.new.points.members c.keep-kept.new.points.members c.place-place.result.belief (upper_data c.in_ok-made.made.upper) c.in_ok-made.made.point c.keep-kept.result.point c.keep-kept.result.left_point
    c.keep-kept.ensures.point c.keep-kept.ensures.left_point
    (subst (λ (ps : List PointData). IsUpperMade c.self.inside.game.now ps c.place-place.result.belief (upper_data c.in_ok-made.made.upper) (point_data c.in_ok-made.made.point)) (sym c.make.ensures.same_points) c.in_ok-made.ensures.upper)

pub after-after-requires-clause-trial : goal.after-after-requires-clause-trial
after-after-requires-clause-trial c =
    let within : c.self.inside.course.trial ≤ c.self.inside.trials = trial-within _ c.self.invariant.0.seeds _ _ _ c.self.inside.course.trial c.self.inside.course.first c.self.inside.course.next c.self.invariant.0.run c.self.invariant.0.goes in
    let most : c.self.inside.trials ≤ 10000 = c.self.invariant.0.limits.trials in
    omega (arith, within, most)

pub after-after-requires-clause-place : goal.after-after-requires-clause-place
after-after-requires-clause-place c =
    let count : c.len-count.result ≡ length c.make.new.journal.items = search rules in
    let same : length c.make.new.journal.items ≡ length c.self.inside.journal.items = ap (λ (vs : List Visit). length vs) c.make.ensures.same_journal in
    let there = place-there c.self.inside.game.now c.self.invariant.0.seeds _ c.self.inside.journal.items c.self.inside.course.trial c.self.inside.course.first c.self.inside.course.next c.self.invariant.0.goes in
    place-more (length c.self.inside.journal.items) (c.len-count.result + 1) c.self.inside.course.first c.self.inside.course.next (omega (arith, count, same)) there

pub invariant_of-self-2 : goal.invariant_of-self-2
invariant_of-self-2 c =
    let made : Made = record { lower = lower_data c.in_ok-made.made.lower; node = node_data c.in_ok-made.made.node; upper = upper_data c.in_ok-made.made.upper; point = point_data c.in_ok-made.made.point } in
    let old : SearchState = search_state c.self.inside.game.now c.self.inside.trials (fraction_data c.self.inside.gap) c.self.inside.nodes c.self.inside.points c.self.inside.journal.items c.self.inside.cut in
    let new : Sets = record { nodes = c.keep-kept.new.nodes.members; points = c.keep-kept.new.points.members } in
    let journal : c.deref.result.now ≡ c.self.inside.journal.items = c.deref.ensures.value in
    let at : IsPlace c.self.inside.journal.items c.self.inside.course.first c.self.inside.course.next c.place-place.result =
    subst (λ (vs : List Visit). IsPlace vs c.self.inside.course.first c.self.inside.course.next c.place-place.result) journal c.place-place.ensures in
    let counted : c.len.result ≡ length c.self.inside.journal.items = search rules in
    let begin : BeginsTrial (length c.self.inside.journal.items) c.self.inside.course.first c.self.inside.course.next → IsTrue c.begins-begins.result =
    λ b. c.begins-begins.ensures.1 (subst (λ (n : ℕ). BeginsTrial n c.self.inside.course.first c.self.inside.course.next) (sym counted) b) in
    let onward : IsOnward old.task old.sets old.cut c.begins-begins.result c.self.inside.course.trial = c.in_default.ensures.onward refl in
    let own : c.deref-2.result.now ≡ made.upper.own = c.deref-2.ensures.value in
    let view : List ℤ → View = λ xs. record { sets = new; belief = c.place-place.result.belief; informed = made.lower.informed; own = xs; threshold = pos (threshold c.self.inside.game.now (fraction_data c.self.inside.gap) (suc c.place-place.result.depth)) } in
    let look : IsLook c.self.inside.game.now (looks_from c.self.inside.game.now c.place-place.result.depth (c.place-place.result.down && not c.keep-kept.result.cut)) (view made.upper.own) c.look_on-look.result.chosen c.look_on-look.result.next =
    subst (λ (down : Bool). IsLook c.self.inside.game.now (looks_from c.self.inside.game.now c.place-place.result.depth down) (view made.upper.own) c.look_on-look.result.chosen c.look_on-look.result.next) c.goes_down.ensures
    (subst (λ (xs : List ℤ). IsLook c.self.inside.game.now (looks_from c.self.inside.game.now c.place-place.result.depth c.goes_down.result) (view xs) c.look_on-look.result.chosen c.look_on-look.result.next) own c.look_on-look.ensures.look) in
    let step : IsStep old c.self.inside.course c.begins-begins.result c.place-place.result made c.make.new.nodes.members c.make.new.points.members new c.keep-kept.result.node c.keep-kept.result.point c.keep-kept.result.cut c.look_on-look.result.chosen c.look_on-look.result.next =
    record {
      at = at;
      begin = begin;
      onward = onward;
      is_made = record { lower_is = c.in_ok-made.ensures.lower.visit; upper_is = c.in_ok-made.ensures.upper.visit };
      same_nodes = c.make.ensures.same_nodes;
      same_points = c.make.ensures.same_points;
      keeps_node = c.keep-kept.ensures.node;
      keeps_point = c.keep-kept.ensures.point;
      is_cut = c.keep-kept.ensures.cut;
      node_fits = c.in_ok-made.ensures.lower.fits;
      point_fits = c.in_ok-made.ensures.upper.fits;
      node_stays = c.in_ok-made.ensures.lower.stays;
      point_stays = c.in_ok-made.ensures.upper.stays;
      serve_nodes = c.keep-kept.ensures.nodes;
      serve_points = c.keep-kept.ensures.points;
      look = look;
      fits = c.look_on-look.ensures.fits;
    } in
    let visit : Visit = visit_of c.self.inside.course.trial c.place-place.result c.keep-kept.result.node c.keep-kept.result.point c.look_on-look.result.chosen in
    let count : c.len-count.result + 1 ≡ length c.self.inside.journal.items + 1 =
    (let now : c.len-count.result ≡ length c.make.new.journal.items = search rules in ap (λ (n : ℕ). n + 1) (now ∙ ap (λ (vs : List Visit). length vs) c.make.ensures.same_journal)) in (
      held-stepped old c.self.inside.course c.after-after.result c.self.inside.solver c.make.new.solver c.begins-begins.result c.place-place.result made c.make.new.nodes.members c.make.new.points.members new
          c.keep-kept.result.node c.keep-kept.result.point c.keep-kept.result.cut c.look_on-look.result.chosen c.look_on-look.result.next c.make.new.journal.items c.push_reserved.new.self.items (c.len-count.result + 1)
          c.law_game.ensures.accepted c.self.invariant.0 step c.make.ensures.rows c.make.ensures.variables c.after-after.ensures count c.push_reserved.ensures.items c.make.ensures.same_journal,
      record { lower = c.remember_lower.ensures; upper = c.remember_upper.ensures },
      repeats-stepped c.self.inside.game.now c.self.invariant.0.seeds old.sets c.self.inside.journal.items c.self.inside.course c.after-after.result visit c.back_after-self-inside.result c.place-place.result.depth
          (c.len-count.result + 1) c.look_on-look.result.next c.push_reserved.new.self.items c.deref-3.result.now c.self.invariant.0.goes c.after-after.ensures count
          (c.push_reserved.ensures.items ∙ ap (λ (vs : List Visit). vs ++ visit ∷ []) c.make.ensures.same_journal) c.deref-3.ensures.value
          c.back_after-self-inside.ensures.ends c.back_after-self-inside.ensures.long c.back_after-self-inside.ensures.nothing,
    )

pub place-place-requires-clause-place : goal.place-place-requires-clause-place
place-place-requires-clause-place c =
    let same : length c.deref.result.now ≡ length c.self.inside.journal.items = ap (λ (vs : List Visit). length vs) c.deref.ensures.value in
    let there = place-there c.self.inside.game.now c.self.invariant.0.seeds _ c.self.inside.journal.items c.self.inside.course.trial c.self.inside.course.first c.self.inside.course.next c.self.invariant.0.goes in
    subst (λ (n : ℕ). HasPlace n c.self.inside.course.first c.self.inside.course.next) (sym same) there

pub back_after-self-inside-requires : goal.back_after-self-inside-requires
back_after-self-inside-requires c =
    let visit : Visit = visit_of c.self.inside.course.trial c.place-place.result c.keep-kept.result.node c.keep-kept.result.point c.look_on-look.result.chosen in
    let slice : length c.deref-3.result.now ≡ length c.push_reserved.new.self.items = ap (λ (vs : List Visit). length vs) c.deref-3.ensures.value in
    let pushed : length c.push_reserved.new.self.items ≡ length (c.make.new.journal.items ++ visit ∷ []) = ap (λ (vs : List Visit). length vs) c.push_reserved.ensures.items in
    let same : length c.make.new.journal.items ≡ length c.self.inside.journal.items = ap (λ (vs : List Visit). length vs) c.make.ensures.same_journal in
    let there = place-there c.self.inside.game.now c.self.invariant.0.seeds _ c.self.inside.journal.items c.self.inside.course.trial c.self.inside.course.first c.self.inside.course.next c.self.invariant.0.goes in
    let more = place-more (length c.self.inside.journal.items) (length c.deref-3.result.now) c.self.inside.course.first c.self.inside.course.next
    (omega (arith, slice, pushed, same, length-append c.make.new.journal.items (visit ∷ []))) there in
    record { place = more }

-- ---- a visit that is made once more
pub copy_visit-requires-clause-trial : goal.copy_visit-requires-clause-trial
copy_visit-requires-clause-trial c =
    let within : c.self.inside.course.trial ≤ c.self.inside.trials = trial-within _ c.self.invariant.0.seeds _ _ _ c.self.inside.course.trial c.self.inside.course.first c.self.inside.course.next c.self.invariant.0.run c.self.invariant.0.goes in
    let most : c.self.inside.trials ≤ 10000 = c.self.invariant.0.limits.trials in
    omega (arith, within, most)

pub copy_visit-requires-clause-place : goal.copy_visit-requires-clause-place
copy_visit-requires-clause-place c =
    place-there c.self.inside.game.now c.self.invariant.0.seeds _ c.self.inside.journal.items c.self.inside.course.trial c.self.inside.course.first c.self.inside.course.next c.self.invariant.0.goes

pub invariant_of-self-then-self-gt0 : goal.invariant_of-self-then-self-gt0
invariant_of-self-then-self-gt0 c =
    let old : SearchState = search_state c.self.inside.game.now c.self.inside.trials (fraction_data c.self.inside.gap) c.self.inside.nodes c.self.inside.points c.self.inside.journal.items c.self.inside.cut in
    let some : 0 < c.self.inside.back = search rules in
    let counted : c.len.result ≡ length c.self.inside.journal.items = search rules in
    let begin : BeginsTrial (length c.self.inside.journal.items) c.self.inside.course.first c.self.inside.course.next → IsTrue c.begins-begins.result =
    λ b. c.begins-begins.ensures.1 (subst (λ (n : ℕ). BeginsTrial n c.self.inside.course.first c.self.inside.course.next) (sym counted) b) in
    let onward : IsOnward old.task old.sets old.cut c.begins-begins.result c.self.inside.course.trial = c.in_default.ensures.onward refl in
    let repeat : IsRepeat c.self.inside.journal.items c.self.inside.course c.self.inside.back = c.self.invariant.2 some in (
      held-copied old c.self.inside.course c.copy_visit.new.course c.self.inside.solver c.begins-begins.result c.self.inside.back c.copy_visit.new.journal.items c.law_game.ensures.accepted c.self.invariant.0
          begin onward repeat c.in_ok-copy_visit.ensures.copied,
      c.self.invariant.1,
      λ _. repeat-copied c.self.inside.game.now c.self.inside.journal.items c.self.inside.course c.copy_visit.new.course c.self.inside.back c.copy_visit.new.journal.items repeat c.in_ok-copy_visit.ensures.copied,
    )

pub returns-then-self-gt0-clause-visited : goal.returns-then-self-gt0-clause-visited
returns-then-self-gt0-clause-visited c =
    let same : c.self.inside.journal.items ≡ c.args.self.now.journal = ap (λ (s : SearchState). s.journal) c.self.view_is in
    let copied : IsCopied c.self.inside.game.now c.self.inside.journal.items c.self.inside.course c.self.inside.back c.copy_visit.new.journal.items c.copy_visit.new.course = c.in_ok-copy_visit.ensures.copied in
    let visit : Visit = renumbered c.self.inside.course.trial copied.visit in
    λ _. (visit, copied.longer_is ∙ ap (λ (vs : List Visit). vs ++ visit ∷ []) same)

pub returns-clause-task : goal.returns-clause-task
returns-clause-task c = ap (λ (s : SearchState). s.task) c.self.view_is

pub returns-clause-visited : goal.returns-clause-visited
returns-clause-visited c =
    let same : c.self.inside.journal.items ≡ c.args.self.now.journal = ap (λ (s : SearchState). s.journal) c.self.view_is in
    let visit : Visit = visit_of c.self.inside.course.trial c.place-place.result c.keep-kept.result.node c.keep-kept.result.point c.look_on-look.result.chosen in
    λ _. (visit, c.push_reserved.ensures.items ∙ ap (λ (vs : List Visit). vs ++ visit ∷ []) (c.make.ensures.same_journal ∙ same))
